-- A search of a built tree's bytes meets no damage and finds what the search of the tree finds: each step reads the bucket
-- that the rules have there. Assumes nothing.
use Prim.Native.Nat.{ℕ, zero, suc, ◌+◌, ◌≤◌, ◌<◌}
use mathlib.Core.Path.{◌≡◌, refl, sym, ap, ◌∙◌}
use mathlib.Core.Bool.{Bool, true, false, cond}
use mathlib.Core.Option.{Option, some}
use mathlib.Core.List.{List, [], ◌∷◌, Memᴰ}
use native.Mathlib.Omega.{arith}
use lib.Dec.{eqb}
use lib.ListN.{length, get_or}
use borrow.Author.Tests.{eq-eqb}
use Rattle.tree.specs.Rules.{Entry, Bucket, at, tree_of}
use Rattle.tree.specs.Inner.Loads.{Loads}
use Rattle.tree.specs.Search.{within, reached}
use Rattle.tree.specs.Inner.Find.{find_from, find}
use Rattle.tree.specs.Bytes.{tree_bytes}
use Rattle.tree.specs.Reading.{Node, node_in, bucket_at}
use Rattle.tree.specs.Sweep.{records_good, visited_from, visit_good, gathered, sweep_on}
use Rattle.tree.proofs.Descent.{if}
use Rattle.tree.proofs.Held.{Inv}
use Rattle.tree.proofs.Built.{built_inv}
use Rattle.tree.proofs.Homes.{placed}
use Rattle.tree.proofs.Read.{ReadsAs, reads_inv}

cond_true : (b c : Bool) → c ≡ true → cond b c true ≡ true
cond_true true c e = e
cond_true false c e = refl

records_good_lem : (recorded : ℕ → ℕ) (k1 k2 : ℕ) (es : List Entry)
    → ((e : Entry) → Memᴰ e es → e.load ≡ recorded e.position) → records_good recorded k1 k2 es ≡ true
unfolding records_good
records_good_lem recorded k1 k2 [] f = refl
records_good_lem recorded k1 k2 (e ∷ es) f =
    rw (
      cond_true (within k1 k2 e.load) (eqb e.load (recorded e.position)) (eq-eqb _ _ (f e (Memᴰ.head refl))),
      records_good_lem recorded k1 k2 es (λ d m. f d (Memᴰ.tail m)),
    )

module _ (ls hs : List ℕ) (t : List Bucket) (v : Inv ls hs t) (few : length ls ≤ 320) (recorded : ℕ → ℕ)
    (same : (p : ℕ) → p < length ls → recorded p ≡ get_or ls p 0) (k1 k2 : ℕ) where
  abbrev node : ℕ → Node
  node b = node_in (bucket_at (tree_bytes t) b)

  read : (b : ℕ) → b < length t → ReadsAs t b (length ls) (node b)
  read b h = reads_inv ls hs t v few b h

  visit_good_lem : (b : ℕ) → b < length t → visit_good (tree_bytes t) (length t) (length ls) recorded k1 k2 b ≡ true
  visit_good_lem b h =
      let r = read b h in
      let e : (node b).entries ≡ (at t b).entries = ap (λ (n : Node). n.entries) r.same in
      rw (r.good, e)
      (records_good_lem recorded k1 k2 (at t b).entries
      (λ e m. let p = placed ls hs t v b e m in
      p.load ∙ sym (same e.position p.below)))

  -- what the buckets of a list give
  abbrev given : List ℕ → Option (List ℕ)
  given bs = gathered (tree_bytes t) (length t) (length ls) recorded k1 k2 bs

  abbrev from : ℕ → ℕ → (ℕ → Bool) → List ℕ
  from n b r = visited_from (tree_bytes t) k1 k2 n b r

  sweeps : (n b : ℕ) (r : ℕ → Bool) → b + n ≤ length t → given (from n b r) ≡ some (find_from k1 k2 t n b r)
  unfolding gathered visited_from find_from
  sweeps zero b r h = refl
  sweeps (suc n) b r h =
      let w = read b (omega arith) in
      let e : (node b).entries ≡ (at t b).entries = ap (λ (n : Node). n.entries) w.same in
      if (r b)
      (λ f. rw (f, visit_good_lem b (omega arith), w.kids, e, sweeps n (suc b) (reached k1 k2 (at t b).kids r) (omega arith)))
      (λ f. rw f (sweeps n (suc b) r (omega arith)))

  pub sweep_inv : sweep_on (tree_bytes t) (length t) (length ls) recorded k1 k2 ≡ some (find k1 k2 t)
  unfolding sweep_on find
  sweep_inv = sweeps (length t) 0 (λ j. eqb j 0) (omega arith)

-- the tree of at most 320 loads, whose records have those loads: no damage, and what the rules find
pub sweep_built : (ls : List ℕ) → Loads ls → length ls ≤ 320 → (t : List Bucket) → tree_of ls ≡ some t
    → (recorded : ℕ → ℕ) → ((p : ℕ) → p < length ls → recorded p ≡ get_or ls p 0) → (k1 k2 : ℕ)
    → sweep_on (tree_bytes t) (length t) (length ls) recorded k1 k2 ≡ some (find k1 k2 t)
sweep_built ls ok few t e recorded same k1 k2 =
    let v = built_inv ls ok t e in sweep_inv ls v.0 t v.1 few recorded same k1 k2

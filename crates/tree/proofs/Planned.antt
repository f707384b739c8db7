-- On the bytes of a built tree the plan for a load is the choice of the rules: bucket by bucket the bytes read as the tree,
-- and the descent of the rules takes the same steps. Assumes nothing.
use Prim.Native.Nat.{ℕ, zero, suc, ◌+◌, ◌≤◌, ◌<◌}
use mathlib.Core.Path.{◌≡◌, refl, ap₂, ◌∙◌}
use mathlib.Core.Option.{Option, none, some}
use mathlib.Core.List.{List}
use native.Mathlib.Omega.{arith}
use lib.ListN.{length}
use borrow.Author.Tests.{ne_eqb}
use Rattle.tree.specs.Rules.{Bucket, Kids, at, next, descend}
use Rattle.tree.specs.Bytes.{tree_bytes}
use Rattle.tree.specs.Reading.{Node}
use Rattle.tree.specs.Plan.{Plan, plan_here, plan_from, or_no_room, plan_on}
use Rattle.tree.proofs.Held.{Inv}
use Rattle.tree.proofs.Descent.{step}
use Rattle.tree.proofs.Coded.{node_of}
use Rattle.tree.proofs.Read.{reads_inv}

module _ (ls hs : List ℕ) (t : List Bucket) (v : Inv ls hs t) (few : length ls ≤ 320) (loads : List ℕ) (l : ℕ) where
  -- the plan of the rules for a load whose descent ends at bucket i
  abbrev pub choice : ℕ → Plan
  choice i = plan_here (node_of (at t i)) i loads l (at t i).kids

  plans : (f i : ℕ) → length t ≤ i + f → i < length t → (at t i).x < l → l ≤ (at t i).y
      → plan_from (tree_bytes t) (length t) (length ls) loads l f i ≡ choice (descend f t l i)
  unfolding plan_from descend
  plans zero i r p lo hi = absurd (omega arith)
  plans (suc f) i r p lo hi =
      let w = reads_inv ls hs t v few i p in
      rw w.good (ap₂ at_node w.same w.kids ∙ go (next (at t i).kids l) refl (λ c. plans f c))
    where
      at_node : Node → Kids → Plan
      at_node n k =
          elim (next k l) [ none ↦ plan_here n i loads l k | some c ↦ plan_from (tree_bytes t) (length t) (length ls) loads l f c ]

      go : (o : Option ℕ) → next (at t i).kids l ≡ o
          → ((c : ℕ) → length t ≤ c + f → c < length t → (at t c).x < l → l ≤ (at t c).y
          → plan_from (tree_bytes t) (length t) (length ls) loads l f c ≡ choice (descend f t l c))
          → elim o [ none ↦ choice i | some c ↦ plan_from (tree_bytes t) (length t) (length ls) loads l f c ]
          ≡ choice (elim o [ none ↦ i | some c ↦ descend f t l c ])
      go none e k = refl
      go (some c) e k =
          let s = step t i l (at t i).x (at t i).y (at t i).kids c (v.good i).parts e lo hi in
          k c (omega arith) s.there s.low s.high

  pub plan_inv : 0 < length t → 0 < length ls → length ls < 320 → 0 < l → l ≤ 150001
      → plan_on (tree_bytes t) (length t) (length ls) loads l ≡ or_no_room (length t) (choice (descend (length t) t l 0))
  unfolding plan_on
  plan_inv pos some-load open_end lo hi =
      rw (
        ne_eqb (length ls) 0 (omega arith),
        ne_eqb (length ls) 320 (omega arith),
        plans (length t) 0 (omega arith) pos (omega (arith, v.low)) (omega (arith, v.high)),
      )

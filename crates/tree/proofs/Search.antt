-- A search of a built tree finds each position whose load is from k1 to k2 once, and no other. The idea: of the buckets on
-- a wanted load's own way from the root, the first that is not yet read is reached. Assumes nothing.
use Prim.Native.Nat.{ℕ, zero, suc, ◌+◌, ◌≤◌, ◌<◌}
use mathlib.Core.Path.{◌≡◌, refl, sym, ◌∙◌}
use mathlib.Core.Bool.{Bool, true, false, cond, ◌&&◌}
use mathlib.Core.Option.{Option, none, some}
use mathlib.Core.List.{List, [], ◌∷◌, ◌++◌}
use native.Mathlib.Omega.{arith}
use lib.Dec.{leb, ltb, eqb}
use lib.ListN.{length, get_or}
use borrow.Author.Tests.{ltb-true, ltb-false, leb-true, leb-false, eqb-true, eqb-false, lt-ltb, le-leb, eq-eqb, ne_eqb}
use Rattle.tree.specs.Rules.{Bucket, Kids, whole, split, at, next, tree_of}
use Rattle.tree.specs.Inner.Loads.{Loads}
use Rattle.tree.specs.Search.{within, reached_with, reached, hits}
use Rattle.tree.specs.Inner.Find.{find_from, find, times}
use Rattle.tree.proofs.Held.{Way, start, down, Child, Parts, Good, Housed, Inv}
use Rattle.tree.proofs.Descent.{if, none_some}
use Rattle.tree.proofs.Homes.{both_at, times_bucket, times_past}
use Rattle.tree.proofs.Built.{built_inv}

times_append : (p : ℕ) (a b : List ℕ) → times p (a ++ b) ≡ times p a + times p b
unfolding times
times_append p [] b = omega arith
times_append p (q ∷ a) b = omega (arith, times_append p a b)

-- the buckets from i to h on the way of the load l
data Onward (t : List Bucket) (l h : ℕ) : ℕ → Type 0 where
  here : Onward t l h h
  on : {i c : ℕ} → next (at t i).kids l ≡ some c → Onward t l h c → Onward t l h i

onward : {t : List Bucket} {l h i : ℕ} → Way t l i → Onward t l h i → Onward t l h 0
onward start o = o
onward (down w e) o = onward w (on e o)

child_above : (t : List Bucket) (i u v : ℕ) (a : Option ℕ) (c : ℕ) → Child t i u v a → a ≡ some c → i < c
child_above t i u v none c h e = none_some e
child_above t i u v (some d) c h e = let e' : d ≡ c = cc in omega arith

next_above : (t : List Bucket) (i x y : ℕ) (k : Kids) (l c : ℕ) → Parts t i x y k → next k l ≡ some c → i < c
next_above t i x y whole l c h e = none_some e
next_above t i x y (split m a b) l c h e =
    if (leb l m)
    (λ f. child_above t i x m a c h.left (rw f at e))
    (λ f. child_above t i m y b c h.right (rw f at e))

-- ---- the set of reached buckets

cond_both : (b x y : Bool) → x ≡ true → y ≡ true → cond b x y ≡ true
cond_both true x y p q = p
cond_both false x y p q = q

with_keeps : (q : Bool) (c : Option ℕ) (r : ℕ → Bool) (j : ℕ) → r j ≡ true → reached_with q c r j ≡ true
with_keeps false c r j h = h
with_keeps true none r j h = h
with_keeps true (some c) r j h = cond_both (eqb j c) true (r j) refl h

with_sets : (q : Bool) (a : Option ℕ) (r : ℕ → Bool) (j : ℕ) → q ≡ true → a ≡ some j → reached_with q a r j ≡ true
with_sets false a r j p e = let z : false ≡ true = p in cc
with_sets true none r j p e = none_some e
with_sets true (some c) r j p e = let e' : j ≡ c = cc in rw (eq-eqb j c e')

module _ (k1 k2 : ℕ) where
  reached_keeps : (k : Kids) (r : ℕ → Bool) (j : ℕ) → r j ≡ true → reached k1 k2 k r j ≡ true
  reached_keeps whole r j h = h
  reached_keeps (split m a c) r j h = with_keeps (ltb m k2) c (reached_with (leb k1 m) a r) j (with_keeps (leb k1 m) a r j h)

  -- the child to which a wanted load goes is reached
  reached_next : (k : Kids) (r : ℕ → Bool) (l c : ℕ) → k1 ≤ l → l ≤ k2 → next k l ≡ some c → reached k1 k2 k r c ≡ true
  reached_next whole r l c p q e = none_some e
  reached_next (split m a b) r l c p q e =
      if (leb l m)
      (λ f. with_keeps (ltb m k2) b (reached_with (leb k1 m) a r) c
      (with_sets (leb k1 m) a r c (le-leb k1 m (omega (arith, leb-true))) (rw f at e)))
      (λ f. with_sets (ltb m k2) b (reached_with (leb k1 m) a r) c (lt-ltb m k2 (omega (arith, leb-false))) (rw f at e))

  after_keeps : (b : Bool) (k : Kids) (r : ℕ → Bool) (j : ℕ) → r j ≡ true → cond b (reached k1 k2 k r) r j ≡ true
  after_keeps true k r j h = reached_keeps k r j h
  after_keeps false k r j h = h

  pub within_sides : (l : ℕ) → within k1 k2 l ≡ true → (k1 ≤ l) × (l ≤ k2)
  within_sides l h =
      if (leb k1 l)
      (λ f. (leb-true k1 l f, leb-true l k2 (rw f at h)))
      (λ f. let z : false ≡ true = rw f at h in
      let y : ◌≡◌ {A = ℕ} 0 1 = cc in
      absurd (omega arith))

  module _ (t : List Bucket) (p : ℕ) where
    times_if : (b : Bool) (s : List ℕ) → times p s ≡ 0 → times p (cond b s []) ≡ 0
    unfolding times
    times_if true s e = e
    times_if false s e = refl

    -- buckets without the position
    found_none : (n b : ℕ) (r : ℕ → Bool) → ((i : ℕ) → b ≤ i → times p (hits k1 k2 (at t i).entries) ≡ 0)
        → times p (find_from k1 k2 t n b r) ≡ 0
    unfolding find_from times
    found_none zero b r f = refl
    found_none (suc n) b r f =
        times_append p (cond (r b) (hits k1 k2 (at t b).entries) []) _
        ∙ rw (
          times_if (r b) (hits k1 k2 (at t b).entries) (f b (omega arith)),
          found_none n (suc b) _ (λ i h. f i (omega arith)),
        )

    module _ (l h : ℕ) (low : k1 ≤ l) (high : l ≤ k2) (good : (i : ℕ) → Good t i (at t i))
        (counts : (i : ℕ) → times p (hits k1 k2 (at t i).entries) ≡ cond (eqb h i) 1 0) where
      rises : {i : ℕ} → Onward t l h i → i ≤ h
      rises here = omega arith
      rises (on {i} {c} e o) = omega (arith, rises o, next_above t i _ _ (at t i).kids l c (good i).parts e)

      elsewhere : (i : ℕ) → (h ≡ i → ⊥) → times p (hits k1 k2 (at t i).entries) ≡ 0
      elsewhere i d = counts i ∙ rw (ne_eqb h i d)

      -- what is found from bucket b on, where bucket b is read or not
      abbrev Sum : ℕ → ℕ → (ℕ → Bool) → Bool → ℕ
      Sum n b r q =
          times p (cond q (hits k1 k2 (at t b).entries) [])
          + times p (find_from k1 k2 t n (suc b) (cond q (reached k1 k2 (at t b).kids r) r))

      abbrev Rest : ℕ → Type 0
      Rest n =
          (b : ℕ) (r : ℕ → Bool) (i : ℕ) → b ≤ i → r i ≡ true → Onward t l h i → h < b + n → times p (find_from k1 k2 t n b r) ≡ 1

      at_bucket : (n : ℕ) → Rest n → {b : ℕ} (r : ℕ → Bool) → Onward t l h b → h < b + suc n → Sum n b r true ≡ 1
      at_bucket n rest r here end =
          rw (counts h, eq-eqb h h refl, found_none n (suc h) (reached k1 k2 (at t h).kids r) (λ i u. elsewhere i (omega arith)))
      at_bucket n rest r (on {i} {c} e o) end =
          let u : i < c = next_above t i _ _ (at t i).kids l c (good i).parts e in
          rw (
            elsewhere i (omega (arith, rises o)),
            rest (suc i) (reached k1 k2 (at t i).kids r) c u (reached_next (at t i).kids r l c low high e) o (omega arith),
          )

      before : (n : ℕ) → Rest n → (b : ℕ) (r : ℕ → Bool) (i : ℕ) → b < i → r i ≡ true → Onward t l h i → h < b + suc n
          → Sum n b r (r b) ≡ 1
      before n rest b r i u s o end =
          rw (
            times_if (r b) (hits k1 k2 (at t b).entries) (elsewhere b (omega (arith, rises o))),
            rest (suc b) (cond (r b) (reached k1 k2 (at t b).kids r) r) i u (after_keeps (r b) (at t b).kids r i s) o
                (omega arith),
          )

      found_once : (n : ℕ) → Rest n
      unfolding find_from
      found_once zero b r i up s o end = absurd (omega (arith, rises o))
      found_once (suc n) b r i up s o end =
          times_append p (cond (r b) (hits k1 k2 (at t b).entries) []) _
          ∙ if (eqb b i)
          (λ f. let e : i ≡ b = sym (eqb-true b i f) in
          rw (rw e at s) (at_bucket n (found_once n) r (rw e at o) end))
          (λ f. before n (found_once n) b r i (omega (arith, eqb-false b i f)) s o end)

cond_same : (b : Bool) → ◌≡◌ {A = ℕ} (cond b 0 0) 0
cond_same true = refl
cond_same false = refl

module _ (k1 k2 : ℕ) (ls hs : List ℕ) (t : List Bucket) (v : Inv ls hs t) (p : ℕ) where
  find_below : p < length ls → (b : Bool) → within k1 k2 (get_or ls p 0) ≡ b → times p (find k1 k2 t) ≡ cond b 1 0
  unfolding find
  find_below h true e =
      let w = within_sides k1 k2 (get_or ls p 0) e in
      let u = both_at (Housed t) hs ls v.housed p h in
      found_once k1 k2 t p (get_or ls p 0) (get_or hs p 0) w.0 w.1 v.good (λ i. times_bucket k1 k2 p ls hs t v h i ∙ rw e)
      (length t) 0 (λ j. eqb j 0) 0 (omega arith) refl (onward u.way here) (omega (arith, u.there))
  find_below h false e =
      found_none k1 k2 t p (length t) 0 (λ j. eqb j 0) (λ i _. times_bucket k1 k2 p ls hs t v h i ∙ rw (e, cond_same))

  pub find_inv : times p (find k1 k2 t) ≡ cond (ltb p (length ls) && within k1 k2 (get_or ls p 0)) 1 0
  unfolding find
  find_inv =
      if (ltb p (length ls))
      (λ f. rw f (find_below (ltb-true p (length ls) f) (within k1 k2 (get_or ls p 0)) refl))
      (λ f. let h : length ls ≤ p = ltb-false p (length ls) f in
      rw f (found_none k1 k2 t p (length t) 0 (λ j. eqb j 0) (λ i _. times_past k1 k2 p ls hs t v h i)))

-- a search of the tree of any loads finds position p once if load p is from k1 to k2, and else not
pub find_exact : (ls : List ℕ) → Loads ls → (t : List Bucket) → tree_of ls ≡ some t → (k1 k2 p : ℕ)
    → times p (find k1 k2 t) ≡ cond (ltb p (length ls) && within k1 k2 (get_or ls p 0)) 1 0
find_exact ls ok t e k1 k2 p = let v = built_inv ls ok t e in find_inv k1 k2 ls v.0 t v.1 p

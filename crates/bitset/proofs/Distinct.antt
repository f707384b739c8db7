-- A list has as many numbers, each counted once, as a range that takes in all of them has numbers that stand in it. Assumes nothing.
use mathlib.Core.Path.{◌≡◌, refl, sym, ap, ◌∙◌}
use mathlib.Core.Bool.{Bool, true, false, cond, ◌||◌}
use mathlib.Core.List.{List, [], ◌∷◌}
use Prim.Native.Nat.{ℕ, zero, suc, ◌+◌, ◌^◌, ◌≤◌, ◌<◌}
use native.Mathlib.Decide.{ℕ_discrete}
use native.Mathlib.Omega.{arith}
use lib.Count.{ones}
use lib.Dec.{eqb}
use lib.ListN.{length}
use borrow.Author.Tests.{eq-eqb, ne_eqb, eqb-true}
use Rattle.bitset.specs.Set.{picked, elem, distinct}
use Rattle.bitset.specs.Inner.Words.{bit}
use Rattle.bitset.proofs.Picked.{picked_same, picked_none}
use Rattle.bitset.proofs.Counting.{word_count}

-- every number of a list is one of the n from `from` on
abbrev pub Among : ℕ → ℕ → List ℕ → Type 0
Among from n [] = Unit {0}
Among from n (p ∷ ps) = (from ≤ p) × (p < from + n) × Among from n ps

-- one number more that is picked
one_more : (f : ℕ → Bool) (p from n : ℕ) → from ≤ p → p < from + n → f p ≡ false
    → length (picked (λ j. eqb j p || f j) from n) ≡ suc (length (picked f from n))
unfolding picked
one_more f p from zero a b e = absurd (omega arith)
one_more f p from (suc n) a b e = go (ℕ_discrete from p) (λ l. one_more f p (suc from) n l (omega arith) e)
  where
    rest : (t : Bool) (k l : List ℕ) → length k ≡ suc (length l) → length (cond t (from ∷ k) k) ≡ suc (length (cond t (from ∷ l) l))
    rest true k l h = ap suc h
    rest false k l h = h

    go : Dec (from ≡ p) → (suc from ≤ p → length (picked (λ j. eqb j p || f j) (suc from) n) ≡ suc (length (picked f (suc from) n)))
        → length (cond (eqb from p || f from) (from ∷ picked (λ j. eqb j p || f j) (suc from) n) (picked (λ j. eqb j p || f j) (suc from) n))
        ≡ suc (length (cond (f from) (from ∷ picked f (suc from) n) (picked f (suc from) n)))
    go (yes d) ih =
        let z : f from ≡ false = ap f d ∙ e in
        let s : picked (λ j. eqb j p || f j) (suc from) n ≡ picked f (suc from) n =
        picked_same _ _ (suc from) n (λ j u v. rw (ne_eqb j p (λ c. omega (arith, d)))) in
        rw (eq-eqb from p d, z, s)
    go (no d) ih = rw (ne_eqb from p d) (rest (f from) _ _ (ih (omega arith)))

pub distinct_picked : (from n : ℕ) (ps : List ℕ) → Among from n ps → distinct ps ≡ length (picked (λ j. elem j ps) from n)
unfolding distinct elem
distinct_picked from n [] h = rw (picked_none (λ j. false) from n (λ p u v. refl))
distinct_picked from n (p ∷ ps) h = go (elem p ps) refl (distinct_picked from n ps h.2)
  where
    again : elem p ps ≡ true → (j : ℕ) → elem j ps ≡ (eqb j p || elem j ps)
    again e j = at (eqb j p) refl
      where
        at : (t : Bool) → eqb j p ≡ t → elem j ps ≡ (t || elem j ps)
        at true d = ap (λ (x : ℕ). elem x ps) (eqb-true j p d) ∙ e
        at false d = refl

    go : (t : Bool) → elem p ps ≡ t → distinct ps ≡ length (picked (λ j. elem j ps) from n)
        → cond t (distinct ps) (suc (distinct ps)) ≡ length (picked (λ j. eqb j p || elem j ps) from n)
    go true e ih = ih ∙ ap length (picked_same _ _ from n (λ j u v. again e j))
    go false e ih = ap suc ih ∙ sym (one_more (λ j. elem j ps) p from n h.0 h.1 e)

picked_most : (f : ℕ → Bool) (from n : ℕ) → length (picked f from n) ≤ n
unfolding picked
picked_most f from zero = omega arith
picked_most f from (suc n) = go (f from) _ (picked_most f (suc from) n)
  where
    go : (t : Bool) (l : List ℕ) → length l ≤ n → length (cond t (from ∷ l) l) ≤ suc n
    go true l h = omega arith
    go false l h = omega arith

-- no more than the range has
pub distinct_most : (from n : ℕ) (ps : List ℕ) → Among from n ps → distinct ps ≤ n
distinct_most from n ps h = omega (arith, distinct_picked from n ps h, picked_most (λ j. elem j ps) from n)

-- as many as a word has ones that has a bit for each
pub distinct_ones : (x : ℕ) (ps : List ℕ) → x < 2 ^ 64 → Among 0 64 ps → ((j : ℕ) → eqb (bit x j) 1 ≡ elem j ps) → ones x ≡ distinct ps
distinct_ones x ps l h same =
    sym (distinct_picked 0 64 ps h
    ∙ word_count (λ j. elem j ps) 0 64 x (λ j u. let z : 0 + j ≡ j = omega arith in rw z (sym (same j))) l)

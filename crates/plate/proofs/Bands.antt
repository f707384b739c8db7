-- The plates of a tally (document 01, "Plates"; document 02, W-206): on twenty plates of 500 the rule's bands are those of the papers'
-- words, so that every load has the one plate in whose band it lies. Assumes nothing.
use mathlib.Core.Path.{◌≡◌, refl, sym, ◌∙◌}
use mathlib.Core.Bool.{Bool, true, false, cond, ◌&&◌, ◌||◌}
use Prim.Native.Nat.{ℕ, zero, suc, ◌+◌, ◌*◌, ◌≤◌, ◌<◌}
use native.Mathlib.Omega.{arith}
use lib.Dec.{eqb}
use lib.IntN.{ℤ, pos, sub_ℕ}
use lib.Signed.{lt_z, le_z}
use borrow.Author.Tests.{eqb-true, eqb-false, lt-ltb, le-leb, ne_eqb}
use Rattle.codec.proofs.Truth.{and_both, and_true}
use Rattle.lift.proofs.Differences as D
use Rattle.plate.specs.Stack.{end_of, past_above, in_band_of}
use Rattle.plate.specs.Plate.{twenty_of500, plate_of, in_band}
use Rattle.plate.proofs.Ends.{end_of_equal}
use Rattle.plate.proofs.StackBands.{up_to, past, OneBand, one_band}
use Rattle.plate.proofs.StickerRule.{carried_are_stacks}

end_at : (n : ℕ) → n ≤ 20 → end_of twenty_of500 n ≡ 500 * n + 250
end_at n h = end_of_equal 20 500 n h (omega arith)

its_band : (load : ℤ) → OneBand twenty_of500 load
its_band = one_band twenty_of500 carried_are_stacks.0

-- ---- the rule's band is that of the papers' words

-- where a band ends the next one begins
lower_end : (n : ℕ) → sub_ℕ (500 * suc n) 250 ≡ pos (500 * n + 250)
lower_end n = D.is_pos (500 * suc n) 250 (500 * n + 250) (omega arith)

same_band : (n : ℕ) → n ≤ 21 → (load : ℤ) → in_band_of twenty_of500 n load ≡ in_band n load
unfolding in_band_of past_above in_band
same_band zero h load = rw (end_at 0 (omega arith))
same_band (suc n) h load = rw (ne_eqb (suc n) 0 (λ z. omega arith)) (go (eqb (suc n) 21) refl)
  where
    go : (t : Bool) → eqb (suc n) 21 ≡ t
        → (lt_z (pos (end_of twenty_of500 n)) load && (t || le_z load (pos (end_of twenty_of500 (suc n)))))
        ≡ cond t (lt_z (pos 10250) load) (lt_z (sub_ℕ (500 * suc n) 250) load && le_z load (pos (500 * suc n + 250)))
    go true e =
        let z = eqb-true (suc n) 21 e in
        let d = end_at n (omega arith) in
        let l : end_of twenty_of500 n ≡ 10250 = omega arith in
        rw l (and_true (lt_z (pos 10250) load))
    go false e =
        let z = eqb-false (suc n) 21 e in
        rw (end_at n (omega arith), end_at (suc n) (omega arith), lower_end n)

-- ---- every load lies in exactly one of the 22 bands, and its plate is that one

pub plate_small : (load : ℤ) → plate_of load ≤ 21
unfolding plate_of
plate_small load = (its_band load).within

pub plate_in_band : (load : ℤ) → in_band (plate_of load) load ≡ true
unfolding plate_of
plate_in_band load = sym (same_band (plate_of load) (plate_small load) load) ∙ (its_band load).in_it

pub plate_only : (n : ℕ) → n ≤ 21 → (load : ℤ) → in_band n load ≡ true → n ≡ plate_of load
unfolding plate_of
plate_only n l load h = (its_band load).only n l (same_band n l load ∙ h)

-- ---- the same on naturals

-- the load c − k lies in the band of plate p
pub record Band (p c k : ℕ) : Type 0 where
  pub small : p ≤ 21
  pub low : 1 ≤ p → 500 * p + k < c + 250
  pub high : p ≤ 20 → c ≤ 500 * p + 250 + k

module _ (c k : ℕ) where
  past_above_lem : (p : ℕ) → Band p c k → past_above twenty_of500 p (sub_ℕ c k) ≡ true
  unfolding past_above
  past_above_lem zero b = refl
  past_above_lem (suc n) b =
      let e = end_at n (omega (arith, b.small)) in
      let l = b.low (omega arith) in
      past c k (end_of twenty_of500 n) ∙ lt-ltb (end_of twenty_of500 n + k) c (omega arith)

  not_past : (p : ℕ) → Band p c k → (eqb p 21 || le_z (sub_ℕ c k) (pos (end_of twenty_of500 p))) ≡ true
  not_past p b = go (eqb p 21) refl
    where
      go : (t : Bool) → eqb p 21 ≡ t → (t || le_z (sub_ℕ c k) (pos (end_of twenty_of500 p))) ≡ true
      go true e = refl
      go false e =
          let n : p ≤ 20 = omega (arith, b.small, eqb-false p 21 e) in
          let d = end_at p n in
          let h = b.high n in
          up_to c k (end_of twenty_of500 p) ∙ le-leb c (end_of twenty_of500 p + k) (omega arith)

  pub plate_is : (p : ℕ) → Band p c k → p ≡ plate_of (sub_ℕ c k)
  unfolding plate_of in_band_of
  plate_is p b = (its_band (sub_ℕ c k)).only p b.small (and_both _ _ (past_above_lem p b) (not_past p b))

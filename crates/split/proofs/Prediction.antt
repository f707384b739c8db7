-- The prediction on stored loads: weights that sum to 0 cancel the offset of the loads, and l and h come out of two sums.
-- Assumes nothing.
use mathlib.Core.Path.{◌≡◌, refl, sym, ap, ap₂, ◌∙◌}
use mathlib.Core.List.{List, [], ◌∷◌, map}
use Prim.Native.Nat.{ℕ, zero, suc, ◌+◌, ◌-◌, ◌*◌, ◌/◌, ◌≤◌, ◌<◌, min, max}
use native.Mathlib.Omega.{arith}
use native.Mathlib.Numerals.{add-one}
use lib.ListN.{length, drop, get_or, drop_of_length-le}
use lib.Seq.{drop-cons}
use lib.IntN.{pos, sub_ℕ, ◌+ℤ◌, ◌*ℤ◌}
use lib.Signed.{shr_z}
use Rattle.lift.specs.Limits.{load_of}
use Rattle.lift.proofs.Differences as D
use Rattle.split.specs.Split.{min_z, max_z, ceil_div, sum, weighed, slope, fitted, low_from, high_from}
use Rattle.split.specs.Inner.Work.{Predicts}
use Rattle.split.proofs.Offset.{min_of, max_of}

-- ---- the two sums of the loop

-- the sum of the stored loads
unfoldable pub total : List ℕ → ℕ
total [] = 0
total (y ∷ ys) = y + total ys

-- the sum of each stored load times its place, from place i on
unfoldable pub moment : ℕ → List ℕ → ℕ
moment i [] = 0
moment i (y ∷ ys) = i * y + moment (suc i) ys

-- a turn of the loop
pub total_step : (ys : List ℕ) (i : ℕ) → i < length ys → total (drop i ys) ≡ get_or ys i 0 + total (drop (i + 1) ys)
unfolding total
total_step ys i h = rw (add-one, drop-cons ys i 0)

pub moment_step : (ys : List ℕ) (i : ℕ) → i < length ys
    → moment i (drop i ys) ≡ i * get_or ys i 0 + moment (i + 1) (drop (i + 1) ys)
unfolding moment
moment_step ys i h = rw (add-one, drop-cons ys i 0)

past : (ys : List ℕ) (i : ℕ) → length ys ≤ i → (total (drop i ys) ≡ 0) × (moment i (drop i ys) ≡ 0)
unfolding total moment
past ys i h = rw (drop_of_length-le ys {i = i} h) (refl, refl)

-- ---- A and D of thirteen loads

-- i + (i + 1) + .., n numbers
unfoldable places : ℕ → ℕ → ℕ
places i zero = 0
places i (suc n) = i + places (suc i) n

sum_any : (ys : List ℕ) → sum (map load_of ys) ≡ sub_ℕ (total ys) (50001 * length ys)
unfolding sum total
sum_any [] = refl
sum_any (y ∷ ys) =
    ap (λ z. load_of y +ℤ z) (sum_any ys) ∙ D.add y 50001 (total ys) (50001 * length ys)
    ∙ D.same (y + total ys) (50001 + 50001 * length ys) (y + total ys) (50001 * suc (length ys)) (omega arith)

weighed_any : (i : ℕ) (ys : List ℕ)
    → weighed (sub_ℕ i 6) (map load_of ys)
    ≡ sub_ℕ (moment i ys + 300006 * length ys) (6 * total ys + 50001 * places i (length ys))
unfolding weighed total moment places
weighed_any i [] = refl
weighed_any i (y ∷ ys) =
    let next : sub_ℕ i 6 +ℤ pos 1 ≡ sub_ℕ (suc i) 6 = D.add i 6 1 0 ∙ D.same (i + 1) (6 + 0) (suc i) 6 (omega arith) in
    ap₂ ◌+ℤ◌ (D.mul i 6 y 50001) (ap (λ w. weighed w (map load_of ys)) next ∙ weighed_any (suc i) ys)
    ∙ D.add (i * y + 6 * 50001) (i * 50001 + 6 * y)
    (moment (suc i) ys + 300006 * length ys) (6 * total ys + 50001 * places (suc i) (length ys))
    ∙ D.same
    (i * y + 6 * 50001 + (moment (suc i) ys + 300006 * length ys))
    (i * 50001 + 6 * y + (6 * total ys + 50001 * places (suc i) (length ys)))
    (i * y + moment (suc i) ys + 300006 * suc (length ys))
    (6 * (y + total ys) + 50001 * (i + places (suc i) (length ys)))
    (omega arith)

sum_of : (ys : List ℕ) → length ys ≡ 13 → sum (map load_of ys) ≡ sub_ℕ (total ys) 650013
sum_of ys e = sum_any ys ∙ ap (λ (n : ℕ). sub_ℕ (total ys) (50001 * n)) e

slope_of : (ys : List ℕ) → length ys ≡ 13 → slope (map load_of ys) ≡ sub_ℕ (moment 0 ys) (6 * total ys)
unfolding slope places
slope_of ys e =
    weighed_any 0 ys
    ∙ ap (λ (n : ℕ). sub_ℕ (moment 0 ys + 300006 * n) (6 * total ys + 50001 * places 0 n)) e
    ∙ D.same (moment 0 ys + 3900078) (6 * total ys + 3900078) (moment 0 ys) (6 * total ys) (omega arith)

-- where the loop has ended, its sums give A and D
pub predicts_loads : (ys : List ℕ) (a w i l h : ℕ) → length ys ≡ 13 → 13 ≤ i
    → a + total (drop i ys) ≡ total ys → w + moment i (drop i ys) ≡ moment 0 ys
    → Predicts (sub_ℕ a 650013) (sub_ℕ w (6 * a)) l h
    → Predicts (sum (map load_of ys)) (slope (map load_of ys)) l h
predicts_loads ys a w i l h e g ea ew p =
    let z = past ys i (omega arith) in
    let sa : total ys ≡ a = omega arith in
    let sw : moment 0 ys ≡ w = omega arith in
    rw (sum_of ys e, slope_of ys e, sa, sw) p

-- ---- l and h of the two sums

fitted_of : (k a w p : ℕ) → p + 6 * (k * a) ≡ k * w + 14 * a + 536899818
    → fitted k (sub_ℕ a 650013) (sub_ℕ w (6 * a)) ≡ sub_ℕ p (182 * 3000000)
unfolding fitted
fitted_of k a w p e =
    ap₂ ◌+ℤ◌
    (D.mul 14 0 a 650013)
    (ap (λ z. z *ℤ sub_ℕ w (6 * a)) (sym (D.is_pos k 0 k (omega arith))) ∙ D.mul k 0 w (6 * a))
    ∙ D.add (14 * a + 0 * 650013) (14 * 650013 + 0 * a) (k * w + 0 * (6 * a)) (k * (6 * a) + 0 * w)
    ∙ D.same
    (14 * a + 0 * 650013 + (k * w + 0 * (6 * a)))
    (14 * 650013 + 0 * a + (k * (6 * a) + 0 * w))
    p
    (182 * 3000000)
    (omega arith)

predicts_quotients : (a w p q : ℕ) → p ≤ 819000000 → q ≤ 1638000000
    → p + 28 * a ≡ 7 * w + 536899818 → q + 178 * a ≡ 32 * w + 536899818
    → Predicts (sub_ℕ a 650013) (sub_ℕ w (6 * a)) (min p q / 182) ((max p q + 181) / 182)
unfolding low_from high_from
predicts_quotients a w p q hp hq ep eq =
    let near = fitted_of 7 a w p (omega arith) in
    let far = fitted_of 32 a w q (omega arith) in
    let r : ℕ = (max p q + 181) / 182 in
    record {
      low =
          sym (ap (λ z. shr_z z 182) (ap₂ min_z near far ∙ min_of (182 * 3000000) p q)
          ∙ D.down 182 (min p q) 3000000 (omega arith));
      high =
          sym (ap (λ z. ceil_div z 182) (ap₂ max_z near far ∙ max_of (182 * 3000000) p q)
          ∙ D.up 182 (max p q) 3000000 r (182 * r - max p q) (omega arith) (omega arith));
      small_low = omega arith;
      small_high = omega arith;
    }

pub predicts_sums : (a w : ℕ) → a ≤ 1950013 → w ≤ 23400156
    → Predicts (sub_ℕ a 650013) (sub_ℕ w (6 * a))
    (min (7 * w + 536899818 - 28 * a) (32 * w + 536899818 - 178 * a) / 182)
    ((max (7 * w + 536899818 - 28 * a) (32 * w + 536899818 - 178 * a) + 181) / 182)
predicts_sums a w ha hw = predicts_quotients a w _ _ (omega arith) (omega arith) (omega arith) (omega arith)

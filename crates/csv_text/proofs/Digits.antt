-- The digits at the front of a list, as the code reads them one by one. The idea: what is left to read from here gives what the whole
-- gives, and n digits make a number below 10 ^ n. Assumes nothing.
use mathlib.Core.Path.{◌≡◌, refl, ap, ◌∙◌}
use mathlib.Core.Bool.{Bool, true, false, cond, ◌||◌}
use mathlib.Core.Logic.{◌⊎◌, inl, inr}
use mathlib.Core.List.{List, [], ◌∷◌, ◌++◌}
use Prim.Native.Nat.{ℕ, zero, suc, min, ◌+◌, ◌-◌, ◌*◌, ◌^◌, ◌≤◌, ◌<◌}
use native.Mathlib.Nat.{pow-suc, pow-zero, pow-le-pow_right, lt_of_lt_of_le}
use native.Mathlib.Numerals.{add-one}
use native.Mathlib.Omega.{arith}
use borrow.Author.Tests.{leb-true, lt-leb, le-leb, ltb-true, ltb-false}
use lib.Dec.{leb, ltb}
use lib.ListN.{length, get_or, drop, length-drop}
use lib.Seq.{drop-cons}
use Rattle.codec.proofs.Truth.{and_parts, and_both, and_false, or_cases, or_parts}
use Rattle.csv_text.specs.Grammar.{all_digits, value_from}
use Rattle.csv_text.specs.Inner.Descent.{is_digit, leading, RunRead, Running}

-- ---- a digit

pub digit_range : (b : ℕ) → is_digit b ≡ true → (48 ≤ b) × (b ≤ 57)
digit_range b e =
    let t = and_parts (leb 48 b) (leb b 57) e in
    (leb-true 48 b t.0, leb-true b 57 t.1)

pub in_range : (b : ℕ) → 48 ≤ b → b ≤ 57 → is_digit b ≡ true
in_range b h k = and_both (leb 48 b) (leb b 57) (le-leb 48 b h) (le-leb b 57 k)

-- as the code asks
pub asked_yes : (b : ℕ) → (ltb b 48 || ltb 57 b) ≡ false → is_digit b ≡ true
asked_yes b e =
    let t = or_parts (ltb b 48) (ltb 57 b) e in
    in_range b (ltb-false b 48 t.0) (ltb-false 57 b t.1)

pub asked_no : (b : ℕ) → (ltb b 48 || ltb 57 b) ≡ true → is_digit b ≡ false
asked_no b e = go (or_cases (ltb b 48) (ltb 57 b) e)
  where
    go : (ltb b 48 ≡ true) ⊎ (ltb 57 b ≡ true) → is_digit b ≡ false
    go (inl h) = let l = ltb-true b 48 h in rw (lt-leb 48 b l)
    go (inr h) = let l = ltb-true 57 b h in rw (lt-leb b 57 l) (and_false (leb 48 b))

-- ---- the digits at the front

leading_none : (n : ℕ) → leading n [] ≡ []
unfolding leading
leading_none zero = refl
leading_none (suc n) = refl

leading_stop : (n b : ℕ) (bytes : List ℕ) → is_digit b ≡ false → leading n (b ∷ bytes) ≡ []
unfolding leading
leading_stop zero b bytes e = refl
leading_stop (suc n) b bytes e = rw e

leading_on : (n b : ℕ) (bytes : List ℕ) → is_digit b ≡ true → leading (suc n) (b ∷ bytes) ≡ b ∷ leading n bytes
unfolding leading
leading_on n b bytes e = rw e

-- no more than there are
leading_enough : (n : ℕ) (bytes : List ℕ) → leading (min n (length bytes)) bytes ≡ leading n bytes
unfolding leading
leading_enough zero bytes = let e : min 0 (length bytes) ≡ 0 = omega arith in rw e
leading_enough (suc n) [] = let e : min (suc n) 0 ≡ 0 = omega arith in rw e
leading_enough (suc n) (b ∷ bytes) =
    let e : min (suc n) (suc (length bytes)) ≡ suc (min n (length bytes)) = omega arith in
    rw (e, leading_enough n bytes)

-- digits before what is none are all that is read
pub leading_all : (n : ℕ) (digits behind : List ℕ) → all_digits digits ≡ true → length digits ≤ n → is_digit (get_or behind 0 0) ≡ false
    → leading n (digits ++ behind) ≡ digits
unfolding all_digits
leading_all n [] [] a h e = leading_none n
leading_all n [] (b ∷ behind) a h e = leading_stop n b behind e
leading_all zero (d ∷ digits) behind a h e = absurd (omega arith)
leading_all (suc n) (d ∷ digits) behind a h e =
    let t = and_parts (is_digit d) (all_digits digits) a in
    leading_on n d (digits ++ behind) t.0 ∙ ap (λ (l : List ℕ). d ∷ l) (leading_all n digits behind t.1 (omega arith) e)

pub leading_split : (n : ℕ) (bytes : List ℕ) → bytes ≡ leading n bytes ++ drop (length (leading n bytes)) bytes
unfolding leading
leading_split zero bytes = refl
leading_split (suc n) [] = refl
leading_split (suc n) (b ∷ bytes) = go (is_digit b) (leading_split n bytes)
  where
    go : (t : Bool) → bytes ≡ leading n bytes ++ drop (length (leading n bytes)) bytes
        → b ∷ bytes ≡ cond t (b ∷ leading n bytes) [] ++ drop (length (cond t (b ∷ leading n bytes) [])) (b ∷ bytes)
    go true e = ap (λ (l : List ℕ). b ∷ l) e
    go false e = refl

pub leading_digits : (n : ℕ) (bytes : List ℕ) → all_digits (leading n bytes) ≡ true
unfolding leading all_digits
leading_digits zero bytes = refl
leading_digits (suc n) [] = refl
leading_digits (suc n) (b ∷ bytes) = go (is_digit b) refl (leading_digits n bytes)
  where
    go : (t : Bool) → is_digit b ≡ t → all_digits (leading n bytes) ≡ true → all_digits (cond t (b ∷ leading n bytes) []) ≡ true
    go true e ih = rw (e, ih)
    go false e ih = refl

pub leading_few : (n : ℕ) (bytes : List ℕ) → (length (leading n bytes) ≤ n) × (length (leading n bytes) ≤ length bytes)
unfolding leading
leading_few zero bytes = (omega arith, omega arith)
leading_few (suc n) [] = (omega arith, omega arith)
leading_few (suc n) (b ∷ bytes) = go (is_digit b) (leading_few n bytes)
  where
    go : (t : Bool) → (length (leading n bytes) ≤ n) × (length (leading n bytes) ≤ length bytes)
        → (length (cond t (b ∷ leading n bytes) []) ≤ suc n) × (length (cond t (b ∷ leading n bytes) []) ≤ suc (length bytes))
    go true h = (omega arith, omega arith)
    go false h = (omega arith, omega arith)

-- their number
value_below : (v n : ℕ) (digits : List ℕ) → all_digits digits ≡ true → v < n → value_from v digits < n * 10 ^ length digits
unfolding value_from all_digits
value_below v n [] a h = rw pow-zero (omega arith)
value_below v n (b ∷ digits) a h =
    let t = and_parts (is_digit b) (all_digits digits) a in
    let r = digit_range b t.0 in
    let e : n * 10 ^ length (b ∷ digits) ≡ n * 10 * 10 ^ length digits = rw pow-suc (omega arith) in
    rw e (value_below (v * 10 + (b - 48)) (n * 10) digits t.1 (omega arith))

pub value_small : (digits : List ℕ) → all_digits digits ≡ true → length digits ≤ 15 → value_from 0 digits < 10 ^ 15
value_small digits a h =
    let z : 0 < 10 = omega arith in
    let l : value_from 0 digits < 1 * 10 ^ length digits = value_below 0 1 digits a (omega arith) in
    let k : 10 ^ length digits ≤ 10 ^ 15 = pow-le-pow_right z h in
    omega arith

-- ---- the turns of the loop

module _ (text : List ℕ) (at : ℕ) where
  pub run_start : (most : ℕ) → at ≤ length text → most ≡ at + min 15 (length text - at) → Running text at most 0 at
  run_start most h e =
      let z : at - at ≡ 0 = omega arith in
      let n : most - at ≡ min 15 (length (drop at text)) = simp length-drop (omega arith) in
      let l : leading (most - at) (drop at text) ≡ leading 15 (drop at text) = rw n (leading_enough 15 (drop at text)) in
      record {
        from = omega arith;
        before = omega arith;
        few = omega arith;
        inside = omega arith;
        small = rw (z, pow-zero) (omega arith);
        says = rw l;
        stops = rw l;
      }

  module _ (most v end : ℕ) (r : Running text at most v end) where
    pub run_room : end < most → v < 10 ^ 14
    run_room h =
        let z : 0 < 10 = omega arith in
        let e : end - at ≤ 14 = omega arith in
        lt_of_lt_of_le r.small (pow-le-pow_right z e)

    pub run_end : most ≤ end → RunRead text at (record { value = v; end = end })
    unfolding leading value_from
    run_end h =
        let z : most - end ≡ 0 = omega arith in
        record { value = rw z at r.says; end = omega (arith, rw z at r.stops) }

    module _ (h : end < most) where
      here : drop end text ≡ get_or text end 0 ∷ drop (suc end) text
      here = drop-cons text end 0 (omega arith)

      pub run_stop : is_digit (get_or text end 0) ≡ false → RunRead text at (record { value = v; end = end })
      unfolding value_from
      run_stop d =
          let l : leading (most - end) (drop end text) ≡ [] = rw here (leading_stop (most - end) (get_or text end 0) (drop (suc end) text) d) in
          record { value = rw l at r.says; end = omega (arith, rw l at r.stops) }

      pub run_on : is_digit (get_or text end 0) ≡ true → Running text at most (v * 10 + (get_or text end 0 - 48)) (end + 1)
      unfolding value_from
      run_on d =
          let b = digit_range (get_or text end 0) d in
          let n : most - end ≡ suc (most - (end + 1)) = omega arith in
          let p : end + 1 - at ≡ suc (end - at) = omega arith in
          let l : leading (most - end) (drop end text) ≡ get_or text end 0 ∷ leading (most - (end + 1)) (drop (end + 1) text)
          = rw (n, here, add-one end) (leading_on (most - suc end) (get_or text end 0) (drop (suc end) text) d) in
          record {
            from = omega arith;
            before = omega arith;
            few = r.few;
            inside = r.inside;
            small = rw (p, pow-suc) (omega (arith, r.small));
            says = rw l at r.says;
            stops = omega (arith, rw l at r.stops);
          }

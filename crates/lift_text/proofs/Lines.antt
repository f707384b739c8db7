-- The lines of lifts: how many bytes a line has, and lines of one list after another's. The idea: a digit more is a power of
-- ten more, and a line has its three numerals, two commas and CRLF. Assumes nothing.
use mathlib.Core.Path.{◌≡◌, refl, sym, ap, ◌∙◌}
use mathlib.Core.Bool.{Bool, true, false, cond}
use mathlib.Core.List.{List, [], ◌∷◌, ◌++◌, append_assoc}
use Prim.Native.Nat.{ℕ, zero, suc, max, ◌+◌, ◌-◌, ◌*◌, ◌/◌, ◌%◌, ◌^◌, ◌≤◌, ◌<◌}
use native.Mathlib.Nat.{pow-suc}
use native.Mathlib.Omega.{arith}
use borrow.Author.Tests.{lt-ltb, le-ltb, ltb-true, ltb-false}
use lib.Dec.{ltb}
use lib.ListN.{length, length-append}
use Rattle.lift.specs.Limits.{load_of}
use Rattle.lift.proofs.Differences as D
use Rattle.answers.specs.Printed.{digit, digits, numeral}
use Rattle.answers.proofs.Justified.{digits_one, digits_more, digits_few, numeral_few}
use Rattle.lift_text.specs.Text.{Told, comma, line_end, load_text, record_text, line_text, lines_text}

-- ---- how many digits

pub one_digit : (v : ℕ) → v < 10 → length (digits v) ≡ 1
one_digit v h = ap length (digits_one v h)

pub digit_more : (v : ℕ) → 10 ≤ v → length (digits v) ≡ 1 + length (digits (v / 10))
digit_more v h = ap length (digits_more v h) ∙ length-append (digits (v / 10)) (digit (v % 10) ∷ []) ∙ omega arith

pub some_digit : (v : ℕ) → 1 ≤ length (digits v)
some_digit v = go (ltb v 10) refl
  where
    go : (t : Bool) → ltb v 10 ≡ t → 1 ≤ length (digits v)
    go true e = omega (arith, one_digit v (ltb-true v 10 e))
    go false e = omega (arith, digit_more v (ltb-false v 10 e))

power_some : (k : ℕ) → 0 < 10 ^ k
power_some zero = omega arith
power_some (suc k) = let p : 10 ^ suc k ≡ 10 ^ k * 10 = pow-suc 10 k in omega (arith, power_some k)

-- by the power of ten that is not above it; 0 has a digit too
pub digits_by_power : (k v : ℕ) → 10 ^ k ≤ max v 1 → max v 1 < 10 * 10 ^ k → length (digits v) ≡ k + 1
digits_by_power zero v h l = let e : 10 * 10 ^ 0 ≡ 10 = refl in one_digit v (omega arith)
digits_by_power (suc k) v h l =
    let p : 10 ^ suc k ≡ 10 ^ k * 10 = pow-suc 10 k in
    let z : 0 < 10 ^ k = power_some k in
    let ih = digits_by_power k (v / 10) (omega arith) (omega arith) in
    digit_more v (omega arith) ∙ omega arith

-- ---- a line

-- a load's text from the number it is stored as: its size, after a minus below zero
pub load_text_lem : (code size : ℕ) → size ≡ cond (ltb code 50001) (50001 - code) (code - 50001)
    → load_text (load_of code) ≡ numeral (ltb code 50001) size
unfolding load_text
load_text_lem code size h = D.by_sign code 50001 (λ z. load_text z ≡ numeral (ltb code 50001) size)
    (λ n e. let t : ltb code 50001 ≡ false = le-ltb code 50001 (omega arith) in
    let v : size ≡ n = rw t at h ∙ omega arith in rw (t, v))
    (λ n e. let t : ltb code 50001 ≡ true = lt-ltb code 50001 (omega arith) in
    let v : size ≡ suc n = rw t at h ∙ omega arith in rw (t, v))

pub text_below_zero : (code size : ℕ) → code < 50001 → size ≡ cond (ltb code 50001) (50001 - code) (code - 50001)
    → load_text (load_of code) ≡ 45 ∷ digits size
text_below_zero code size l e = load_text_lem code size e ∙ ap (λ (s : Bool). numeral s size) (lt-ltb code 50001 l)

pub text_from_zero : (code size : ℕ) → 50001 ≤ code → size ≡ cond (ltb code 50001) (50001 - code) (code - 50001)
    → load_text (load_of code) ≡ digits size
text_from_zero code size l e = load_text_lem code size e ∙ ap (λ (s : Bool). numeral s size) (le-ltb code 50001 l)

pub below_zero : (code size : ℕ) → code < 50001 → size ≡ cond (ltb code 50001) (50001 - code) (code - 50001)
    → length (load_text (load_of code)) ≡ length (digits size) + 1
below_zero code size l e = ap length (text_below_zero code size l e) ∙ omega arith

pub from_zero : (code size : ℕ) → 50001 ≤ code → size ≡ cond (ltb code 50001) (50001 - code) (code - 50001)
    → length (load_text (load_of code)) ≡ length (digits size)
from_zero code size l e = ap length (text_from_zero code size l e)

pub digits_within_lem : (code size : ℕ) → size ≡ cond (ltb code 50001) (50001 - code) (code - 50001)
    → length (digits size) ≤ length (load_text (load_of code))
digits_within_lem code size e = rw (load_text_lem code size e) (go (ltb code 50001))
  where
    go : (s : Bool) → length (digits size) ≤ length (numeral s size)
    go true = omega arith
    go false = omega arith

-- a line field by field
pub line_parts : (r : Told)
    → line_text r ≡ digits r.time ++ (comma ∷ (load_text r.load ++ (comma ∷ (digits r.member ++ line_end))))
unfolding record_text
line_parts r =
    append_assoc (digits r.time) _ line_end
    ∙ ap (λ (l : List ℕ). digits r.time ++ (comma ∷ l)) (append_assoc (load_text r.load) _ line_end)

-- two commas and CRLF are four
pub length_line : (r : Told)
    → length (line_text r) ≡ length (digits r.time) + length (load_text r.load) + length (digits r.member) + 4
length_line r = rw (line_parts r) (simp length-append (omega arith))

pub length_told : (t code m : ℕ) → length (line_text (record { time = t; load = load_of code; member = m }))
    ≡ length (digits t) + length (load_text (load_of code)) + length (digits m) + 4
length_told t code m = length_line (record { time = t; load = load_of code; member = m })

-- no line is longer than 65 bytes
pub line_most : (t code m : ℕ) → t < 2 ^ 64 → code < 2 ^ 32 → m < 2 ^ 32
    → length (line_text (record { time = t; load = load_of code; member = m })) ≤ 65
line_most t code m h k l =
    let n = length_told t code m in
    let a : length (digits t) ≤ 20 = digits_few 20 t (omega arith) (omega arith) in
    let b : length (digits m) ≤ 20 = digits_few 20 m (omega arith) (omega arith) in
    omega (arith, load_most_lem)
  where
    load_most_lem : length (load_text (load_of code)) ≤ 21
    load_most_lem = rw (load_text_lem code _ refl) (go (ltb code 50001))
      where
        go : (s : Bool) → length (numeral s (cond s (50001 - code) (code - 50001))) ≤ 21
        go true = numeral_few 20 (50001 - code) true (omega arith) (omega arith)
        go false = omega (arith, numeral_few 20 (code - 50001) false (omega arith) (omega arith))

-- ---- lines of two lists

pub lines_append : (rs ss : List Told) → lines_text (rs ++ ss) ≡ lines_text rs ++ lines_text ss
unfolding lines_text
lines_append [] ss = refl
lines_append (r ∷ rs) ss = rw (lines_append rs ss) (sym (append_assoc (line_text r) (lines_text rs) (lines_text ss)))

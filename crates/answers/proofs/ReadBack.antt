-- A printed number reads back wherever it fits its columns: times below 10 ^ 15, loads within their limits. The idea: spaces read as
-- nothing, and the last digit is read last. Assumes nothing.
use mathlib.Core.Path.{◌≡◌, refl, ap, ◌∙◌}
use mathlib.Core.Bool.{Bool, true, false, cond, not}
use mathlib.Core.List.{List, [], ◌∷◌, ◌++◌}
use Prim.Native.Nat.{ℕ, zero, suc, ◌+◌, ◌-◌, ◌*◌, ◌/◌, ◌%◌, ◌^◌, ◌≤◌, ◌<◌}
use native.Mathlib.Omega.{arith}
use borrow.Author.Tests.{leb-true, ltb-true, ltb-false, le-leb, ne_eqb}
use lib.Dec.{leb, eqb, ltb}
use lib.IntN.{ℤ, pos, negsuc}
use lib.ListN.{length}
use Rattle.codec.specs.Area.{repeated}
use Rattle.codec.proofs.Truth.{and_parts}
use Rattle.lift.specs.Limits.{load_ok}
use Rattle.lift.proofs.Differences as D
use Rattle.lines.specs.declared.Field.{Field}
use Rattle.lines.specs.declared.Field.TheVariants.{Spaces, Minus, Digits}
use Rattle.lines.specs.Columns.{with_digit, read_on, read_from, field_in, is_load, load_in}
use Rattle.answers.specs.Printed.{digit, digits_within, digits, numeral, spaces, columns, load_bytes}
use Rattle.answers.proofs.Justified.{justified_fits, numeral_few}

read_append : (f : Field) (a b : List ℕ) → read_from f (a ++ b) ≡ read_from (read_from f a) b
unfolding read_from
read_append f [] b = refl
read_append f (x ∷ a) b = read_append (read_on f x) a b

digit_read : (f : Field) (d : ℕ) → d < 10 → read_on f (digit d) ≡ with_digit f d
unfolding read_on
digit_read f d h =
    let a : leb 48 (48 + d) ≡ true = le-leb 48 (48 + d) (omega arith) in
    let b : leb (48 + d) 57 ≡ true = le-leb (48 + d) 57 (omega arith) in
    let v : 48 + d - 48 ≡ d = omega arith in
    rw (a, b, v)

blank : (n : ℕ) → read_from Spaces (spaces n) ≡ Spaces
unfolding repeated read_from read_on
blank zero = refl
blank (suc n) = blank n

-- what stands before the digits
abbrev lead : Bool → Field
lead true = Minus
lead false = Spaces

lead_digit : (minus : Bool) (d : ℕ) → with_digit (lead minus) d ≡ Digits minus d
lead_digit true d = refl
lead_digit false d = refl

digits_read : (n v : ℕ) (minus : Bool) → v < n → read_from (lead minus) (digits_within n v) ≡ Digits minus v
unfolding digits_within read_from
digits_read zero v minus h = absurd (omega arith)
digits_read (suc n) v minus h = go (ltb v 10) refl (digits_read n (v / 10) minus)
  where
    go : (t : Bool) → ltb v 10 ≡ t → (v / 10 < n → read_from (lead minus) (digits_within n (v / 10)) ≡ Digits minus (v / 10))
        → read_from (lead minus) (cond t (digit v ∷ []) (digits_within n (v / 10) ++ (digit (v % 10) ∷ []))) ≡ Digits minus v
    go true e ih = digit_read (lead minus) v (ltb-true v 10 e) ∙ lead_digit minus v
    go false e ih =
        let l = ltb-false v 10 e in
        let d : v / 10 * 10 + v % 10 ≡ v = omega arith in
        read_append (lead minus) (digits_within n (v / 10)) (digit (v % 10) ∷ [])
        ∙ ap (λ (f : Field). read_on f (digit (v % 10))) (ih (omega arith))
        ∙ digit_read (Digits minus (v / 10)) (v % 10) (omega arith)
        ∙ ap (Digits minus) d

numeral_read : (v : ℕ) (minus : Bool) → read_from Spaces (numeral minus v) ≡ Digits minus v
unfolding digits read_from read_on
numeral_read v true = digits_read (suc v) v true (omega arith)
numeral_read v false = digits_read (suc v) v false (omega arith)

-- a number that fits its columns
pub reads_back : (w v : ℕ) (minus : Bool) → length (numeral minus v) ≤ w → field_in (columns w minus v) ≡ Digits minus v
reads_back w v minus h =
    rw (
      justified_fits w (numeral minus v) h,
      read_append Spaces (spaces (w - length (numeral minus v))) (numeral minus v),
      blank (w - length (numeral minus v)),
    )
    (numeral_read v minus)

-- one of at most j digits, with room for its sign
digits_back : (w j v : ℕ) (minus : Bool) → 0 < j → v < 10 ^ j → j + cond minus 1 0 ≤ w → field_in (columns w minus v) ≡ Digits minus v
digits_back w j v minus z h k = let n = numeral_few j v minus z h in reads_back w v minus (omega arith)

-- a time
pub time_reads_back : (n : ℕ) → n < 10 ^ 15 → field_in (columns 15 false n) ≡ Digits false n
time_reads_back n h = digits_back 15 15 n false (omega arith) h (omega arith)

not_zero : (n : ℕ) → not (eqb (suc n) 0) ≡ true
not_zero n = rw (ne_eqb (suc n) 0 (λ e. omega arith))

-- a load within its limits
pub load_reads_back : (z : ℤ) → load_ok z ≡ true → (is_load (field_in (load_bytes z)) ≡ true) × (load_in (field_in (load_bytes z)) ≡ z)
unfolding load_bytes
load_reads_back (pos n) h =
    let l = leb-true n 100000 h in
    rw (digits_back 8 8 n false (omega arith) (omega arith) (omega arith)) (refl, D.is_pos n 0 n (omega arith))
load_reads_back (negsuc n) h =
    let l = leb-true n 49999 (and_parts _ true h).0 in
    rw (digits_back 8 7 (suc n) true (omega arith) (omega arith) (omega arith)) (not_zero n, D.is_neg 0 (suc n) n (omega arith))

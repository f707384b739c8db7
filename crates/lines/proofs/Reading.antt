-- The turns of a field's reading, and the tests of a line's form. The idea: what is left to read from here gives what the
-- whole gives, and n columns make a number below 10 ^ n. Assumes nothing.
use mathlib.Core.Path.{◌≡◌, refl}
use mathlib.Core.Bool.{Bool, true, false, cond, ◌&&◌}
use mathlib.Core.List.{List}
use Prim.Native.Nat.{ℕ, ◌+◌, ◌-◌, ◌*◌, ◌^◌, ◌≤◌, ◌<◌}
use native.Mathlib.Nat.{pow-suc, pow-le-pow_right, lt_of_lt_of_le}
use native.Mathlib.Numerals.{add-one}
use native.Mathlib.Omega.{arith}
use borrow.Author.Tests.{leb-true}
use lib.Dec.{leb, eqb}
use lib.ListN.{length, get_or, take, drop, drop_of_length-le}
use lib.Seq.{drop-cons}
use Rattle.codec.specs.Area.{part}
use Rattle.codec.proofs.Truth.{and_parts}
use Rattle.lines.specs.declared.Field.{Field}
use Rattle.lines.specs.declared.Field.TheVariants.{Spaces, Minus, Digits, Broken}
use Rattle.lines.specs.Columns.{with_digit, with_space, with_minus, read_on, read_from, field_in, value_of}

-- ---- a column

-- a digit is 48 to 57
pub digit_range : (b : ℕ) → (leb 48 b && leb b 57) ≡ true → (48 ≤ b) × (b ≤ 57)
digit_range b e =
    let t = and_parts (leb 48 b) (leb b 57) e in
    (leb-true 48 b t.0, leb-true b 57 t.1)

digit_value : (f : Field) (d n : ℕ) → d < 10 → value_of f < n → value_of (with_digit f d) < n * 10
digit_value Spaces d n h l = omega arith
digit_value Minus d n h l = omega arith
digit_value (Digits minus v) d n h l = omega arith
digit_value Broken d n h l = omega arith

space_value : (f : Field) → value_of (with_space f) ≡ 0
space_value Spaces = refl
space_value Minus = refl
space_value (Digits minus v) = refl
space_value Broken = refl

minus_value : (f : Field) → value_of (with_minus f) ≡ 0
minus_value Spaces = refl
minus_value Minus = refl
minus_value (Digits minus v) = refl
minus_value Broken = refl

-- a column more, a power of ten more
column_bound : (f : Field) (b n : ℕ) → value_of f < n → value_of (read_on f b) < n * 10
unfolding read_on
column_bound f b n l = go (leb 48 b && leb b 57) refl
  where
    last : (t : Bool) → value_of (cond t (with_minus f) Broken) < n * 10
    last true = omega (arith, minus_value f)
    last false = omega arith

    next : (t : Bool) → value_of (cond t (with_space f) (cond (eqb b 45) (with_minus f) Broken)) < n * 10
    next true = omega (arith, space_value f)
    next false = last (eqb b 45)

    go : (t : Bool) → (leb 48 b && leb b 57) ≡ t
        → value_of (cond t (with_digit f (b - 48)) (cond (eqb b 32) (with_space f) (cond (eqb b 45) (with_minus f) Broken))) < n * 10
    go true e = let r = digit_range b e in digit_value f (b - 48) n (omega arith) l
    go false e = next (eqb b 32)

-- ---- a field, column by column

pub read_next : (f : Field) (s : List ℕ) (i : ℕ) → i < length s
    → read_from (read_on f (get_or s i 0)) (drop (i + 1) s) ≡ read_from f (drop i s)
unfolding read_from
read_next f s i h = rw (add-one, drop-cons s i 0)

pub read_room : (i v : ℕ) → v < 10 ^ i → i ≤ 18 → v < 10 ^ 18
read_room i v l h = let z : 0 < 10 = omega arith in lt_of_lt_of_le l (pow-le-pow_right z h)

pub read_bound : (f : Field) (b i : ℕ) → value_of f < 10 ^ i → value_of (read_on f b) < 10 ^ (i + 1)
read_bound f b i l = rw (add-one, pow-suc) (column_bound f b (10 ^ i) l)

-- behind the last column nothing is left to read
pub read_all : (items : List ℕ) (i width : ℕ) (f : Field) → length items ≡ width → i ≤ length items → length items ≤ i
    → read_from f (drop i items) ≡ field_in items → value_of f < 10 ^ i
    → (f ≡ field_in items) × (value_of f < 10 ^ width)
unfolding read_from
read_all items i width f w k h e l =
    let z : i ≡ width = omega arith in
    (rw (drop_of_length-le items h) at e, rw z at l)

pub columns_are : (s : List ℕ) (at width : ℕ) → at + width ≤ length s → take (at + width - at) (drop at s) ≡ part s at width
unfolding part
columns_are s at width h = let w : at + width - at ≡ width = omega arith in rw w

-- What an export writes, an import reads back: each record, and the whole file line by line. The idea: digits, a minus and commas are of
-- the form that is read, and none of them is CR. Assumes nothing.
use mathlib.Core.Path.{◌≡◌, refl, sym, ap, ◌∙◌}
use mathlib.Core.Bool.{Bool, true, false, cond}
use mathlib.Core.Option.{some}
use mathlib.Core.List.{List, [], ◌∷◌, ◌++◌, map, append-nil, append_assoc}
use Prim.Native.Nat.{ℕ, zero, suc, ◌+◌, ◌-◌, ◌*◌, ◌/◌, ◌%◌, ◌^◌, ◌≤◌, ◌<◌}
use native.Mathlib.Omega.{arith}
use borrow.Author.Tests.{leb-true, ltb-true, ltb-false}
use lib.Dec.{ltb}
use lib.IntN.{ℤ, pos, negsuc}
use lib.ListN.{length, length-append}
use Rattle.codec.proofs.Truth.{and_parts}
use Rattle.codec.proofs.Lists.{AllOf, all_append}
use Rattle.lift.specs.Limits.{load_ok}
use Rattle.lift.proofs.Differences as D
use Rattle.answers.specs.Printed.{digit, digits_within, digits, numeral}
use Rattle.answers.proofs.Justified.{digits_few}
use Rattle.lift_text.specs.Text.{Told, line_end, heading, load_text, record_text, lines_text, file_text}
use Rattle.csv_text.specs.Grammar.{lines_of, has_heading, all_digits, value_from, record_in}
use Rattle.csv_text.specs.Words.{Tellable}
use Rattle.csv_text.specs.Inner.Descent.{is_digit, written, Form, ends, behind_end}
use Rattle.csv_text.proofs.Digits.{in_range}
use Rattle.csv_text.proofs.Cutting.{Free, line_cut}
use Rattle.csv_text.proofs.Forms.{digits_free}
use Rattle.csv_text.proofs.Headings.{same_self, heading_cut}
use Rattle.csv_text.proofs.Records.{load_said, record_in_lem}

-- ---- digits

all_append_digits : (a b : List ℕ) → all_digits a ≡ true → all_digits b ≡ true → all_digits (a ++ b) ≡ true
unfolding all_digits
all_append_digits [] b h k = k
all_append_digits (d ∷ a) b h k =
    let t = and_parts (is_digit d) (all_digits a) h in
    rw (t.0, all_append_digits a b t.1 k)

value_append : (v : ℕ) (a b : List ℕ) → value_from v (a ++ b) ≡ value_from (value_from v a) b
unfolding value_from
value_append v [] b = refl
value_append v (d ∷ a) b = value_append (v * 10 + (d - 48)) a b

-- what is printed of a number: digits, at least one, that say it
record Printed (text : List ℕ) (v : ℕ) : Type 0 where
  pub all : all_digits text ≡ true
  pub some : 1 ≤ length text
  pub says : value_from 0 text ≡ v

one_digit : (d : ℕ) → d < 10 → (all_digits (digit d ∷ []) ≡ true) × (digit d - 48 ≡ d)
unfolding all_digits
one_digit d h = (rw (in_range (48 + d) (omega arith) (omega arith)), omega arith)

within_printed : (n v : ℕ) → v < n → Printed (digits_within n v) v
unfolding digits_within value_from
within_printed zero v h = absurd (omega arith)
within_printed (suc n) v h = go (ltb v 10) refl (within_printed n (v / 10))
  where
    go : (t : Bool) → ltb v 10 ≡ t → (v / 10 < n → Printed (digits_within n (v / 10)) (v / 10))
        → Printed (cond t (digit v ∷ []) (digits_within n (v / 10) ++ (digit (v % 10) ∷ []))) v
    go true e ih =
        let o = one_digit v (ltb-true v 10 e) in
        record { all = o.0; some = omega arith; says = omega (arith, o.1) }
    go false e ih =
        let l = ltb-false v 10 e in
        let o = one_digit (v % 10) (omega arith) in
        let p = ih (omega arith) in
        record {
          all = all_append_digits (digits_within n (v / 10)) (digit (v % 10) ∷ []) p.all o.0;
          some = simp length-append (omega arith);
          says = value_append 0 (digits_within n (v / 10)) (digit (v % 10) ∷ []) ∙ rw p.says (omega (arith, o.1));
        }

digits_printed : (v : ℕ) → Printed (digits v) v
unfolding digits
digits_printed v = within_printed (suc v) v (omega arith)

-- ---- a field

numeral_form : (signed minus : Bool) (v : ℕ) → (minus ≡ true → signed ≡ true) → v < 10 ^ 15 → Form signed (numeral minus v) minus v
numeral_form signed minus v s h =
    let p = digits_printed v in
    record {
      quoted = false;
      digits = digits v;
      is = go minus;
      sign = s;
      all = p.all;
      some = p.some;
      few = digits_few 15 v (omega arith) h;
      says = sym p.says;
    }
  where
    go : (minus : Bool) → numeral minus v ≡ written false minus (digits v)
    go true = ap (λ (l : List ℕ). 45 ∷ l) (sym (append-nil (digits v)))
    go false = sym (append-nil (digits v))

digits_form : (v : ℕ) → v < 10 ^ 15 → Form false (digits v) false v
digits_form v h = numeral_form false false v (λ e. e) h

-- ---- a record

load_back : (z : ℤ) → load_ok z ≡ true → (minus : Bool) × (v : ℕ) × (Form true (load_text z) minus v) × (load_said minus v ≡ z)
unfolding load_text
load_back (pos n) h =
    let l = leb-true n 100000 h in
    (false, n, numeral_form true false n (λ e. refl) (omega arith), refl)
load_back (negsuc n) h =
    let l = leb-true n 49999 (and_parts _ true h).0 in
    (true, suc n, numeral_form true true (suc n) (λ e. refl) (omega arith), D.is_neg 0 (suc n) n (omega arith))

pub record_back : (r : Told) → Tellable r → record_in (record_text r) ≡ some r
unfolding record_text
record_back r h =
    let k = load_back r.load h.load in
    let t = digits_form r.time (omega (arith, h.time)) in
    let m = digits_form r.member (omega (arith, h.member)) in
    record_in_lem t k.2 m h.member ∙ ap (λ (z : ℤ). some (record { time = r.time; load = z; member = r.member })) k.3

-- ---- the file

numeral_free : (minus : Bool) (v : ℕ) → AllOf (Free 13) (numeral minus v)
numeral_free true v = (refl, digits_free 13 refl (digits v) (digits_printed v).all)
numeral_free false v = digits_free 13 refl (digits v) (digits_printed v).all

load_free : (z : ℤ) → AllOf (Free 13) (load_text z)
unfolding load_text
load_free (pos n) = numeral_free false n
load_free (negsuc n) = numeral_free true (suc n)

record_free : (r : Told) → AllOf (Free 13) (record_text r)
unfolding record_text
record_free r =
    all_append (Free 13) (digits r.time) _ (numeral_free false r.time)
    (refl, all_append (Free 13) (load_text r.load) _ (load_free r.load) (refl, numeral_free false r.member))

some_bytes : (r : Told) → 1 ≤ length (record_text r)
unfolding record_text
some_bytes r = simp length-append (omega arith)

lines_back : (rs : List Told) → lines_of (lines_text rs) ≡ map record_text rs
unfolding lines_text lines_of ends behind_end
lines_back [] = refl
lines_back (r ∷ rs) =
    ap lines_of (append_assoc (record_text r) line_end (lines_text rs))
    ∙ line_cut (record_text r) (line_end ++ lines_text rs) (some_bytes r) (record_free r) refl
    ∙ ap (λ (l : List (List ℕ)). record_text r ∷ l) (lines_back rs)

pub file_back : (rs : List Told) → lines_of (file_text rs) ≡ heading ∷ map record_text rs
unfolding file_text ends behind_end
file_back rs = heading_cut (line_end ++ lines_text rs) refl ∙ ap (λ (l : List (List ℕ)). heading ∷ l) (lines_back rs)

pub file_heading : (rs : List Told) → has_heading (lines_of (file_text rs)) ≡ true
file_heading rs = rw (file_back rs) (same_self heading)

-- A record read field by field is the record that the grammar finds in the first line, both ways. The idea: three forms with commas between
-- them, before a line's end, are cut into just these fields. Assumes nothing.
use mathlib.Core.Path.{◌≡◌, refl}
use mathlib.Core.Bool.{Bool, true, false, cond}
use mathlib.Core.Option.{Option, none, some, none-ne-some}
use mathlib.Core.List.{List, [], ◌∷◌, ◌++◌}
use Prim.Native.Nat.{ℕ, ◌≤◌}
use native.Mathlib.Omega.{arith}
use lib.IntN.{ℤ, pos, sub_ℕ}
use lib.ListN.{length-append}
use Rattle.codec.proofs.Lists.{AllOf, all_append}
use Rattle.lift_text.specs.Text.{Told, comma}
use Rattle.csv_text.specs.Grammar.{lines_of, fields_of, bare, number_in, load_in, member_in, member_most, told, record_of, record_in}
use Rattle.csv_text.specs.Inner.Descent.{is_digit, ends, behind_end, Form}
use Rattle.csv_text.specs.Inner.Reading.{first_record}
use Rattle.csv_text.proofs.Cutting.{Free, line_cut, first_line_lem, joined, field_cut, last_field, fields_joined}
use Rattle.csv_text.proofs.Forms.{load_said_lem, form_free, number_form, member_form, form_of_number, form_of_member, form_of_load}

-- the load that digits and a sign say
abbrev pub load_said : Bool → ℕ → ℤ
load_said minus value = cond minus (sub_ℕ 0 value) (pos value)

abbrev pub line : List ℕ → List ℕ → List ℕ → List ℕ
line t k m = t ++ (comma ∷ (k ++ (comma ∷ m)))

-- ---- three forms

module _ {t k m : List ℕ} {st sk sm : Bool} {vt vk vm : ℕ} (ft : Form false t st vt) (fk : Form true k sk vk) (fm : Form false m sm vm) where
  fields_free : (n : ℕ) → is_digit n ≡ false → Free n 34 → Free n 45
      → AllOf (Free n) t × (AllOf (Free n) k × AllOf (Free n) m)
  fields_free n d q s =
      (form_free false t st vt ft n d q s, (form_free true k sk vk fk n d q s, form_free false m sm vm fm n d q s))

  pub record_in_lem : vm ≤ member_most → record_in (line t k m) ≡ some (record { time = vt; load = load_said sk vk; member = vm })
  unfolding record_in record_of
  record_in_lem h =
      let c = fields_free comma refl refl refl in
      rw (
        field_cut t (k ++ (comma ∷ m)) c.0,
        field_cut k m c.1.0,
        last_field m c.1.1,
        number_form t st vt ft,
        load_said_lem true k sk vk fk,
        member_form m sm vm fm h,
      )

  -- no CR in them
  pub line_free : AllOf (Free 13) (line t k m)
  line_free =
      let c = fields_free 13 refl refl refl in
      all_append (Free 13) t (comma ∷ (k ++ (comma ∷ m))) c.0
      (refl, all_append (Free 13) k (comma ∷ m) c.1.0 (refl, c.1.1))

  pub line_first : (bytes : List ℕ) → ends bytes ≡ true → lines_of (line t k m ++ bytes) ≡ line t k m ∷ lines_of (behind_end bytes)
  line_first bytes e = line_cut (line t k m) bytes (simp length-append (omega arith)) line_free e

-- ---- and from a record to its three forms

-- the first line of these bytes is a record
pub record RecordFirst (bytes : List ℕ) : Type 0 where
  pub t : List ℕ
  pub k : List ℕ
  pub m : List ℕ
  pub behind : List ℕ
  pub minus : Bool
  pub time : ℕ
  pub load : ℕ
  pub member : ℕ
  pub first : Form false t false time
  pub second : Form true k minus load
  pub third : Form false m false member
  pub small : member ≤ member_most
  pub whole : bytes ≡ line t k m ++ behind
  pub end : ends behind ≡ true

told_parts : (o : Option ℕ) (p : Option ℤ) (q : Option ℕ) (r : Told) → told o p q ≡ some r
    → (o ≡ some r.time) × ((p ≡ some r.load) × (q ≡ some r.member))
told_parts none p q r e = absurd (none-ne-some r e)
told_parts (some t) none q r e = absurd (none-ne-some r e)
told_parts (some t) (some k) none r e = absurd (none-ne-some r e)
told_parts (some t) (some k) (some m) r e = (cc, (cc, cc))

three : (fields : List (List ℕ)) (r : Told) (bytes : List ℕ) → record_of fields ≡ some r → ends bytes ≡ true
    → RecordFirst (joined fields ++ bytes)
unfolding record_of joined
three [] r bytes e h = absurd (none-ne-some r e)
three (t ∷ []) r bytes e h = absurd (none-ne-some r e)
three (t ∷ k ∷ []) r bytes e h = absurd (none-ne-some r e)
three (t ∷ k ∷ m ∷ []) r bytes e h =
    let p = told_parts (number_in (bare t)) (load_in (bare k)) (member_in (bare m)) r e in
    let l = form_of_load k r.load p.1.0 in
    let n = form_of_member m r.member p.1.1 in
    record {
      t = t;
      k = k;
      m = m;
      behind = bytes;
      minus = l.0;
      time = r.time;
      load = l.1;
      member = r.member;
      first = form_of_number t r.time p.0;
      second = l.2;
      third = n.0;
      small = n.1;
      whole = refl;
      end = h;
    }
three (t ∷ k ∷ m ∷ more ∷ fields) r bytes e h = absurd (none-ne-some r e)

pub record_first : (bytes : List ℕ) (r : Told) → first_record (lines_of bytes) ≡ some r → RecordFirst bytes
unfolding record_in lines_of
record_first [] r e = absurd (none-ne-some r e)
record_first (b ∷ bytes) r e =
    let f = first_line_lem b bytes in
    let s : record_of (fields_of f.line) ≡ some r = rw f.cut at e in
    rw f.whole (rw (fields_joined f.line) at (three (fields_of f.line) r f.behind s f.end))

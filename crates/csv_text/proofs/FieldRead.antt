-- A field read from a place on is there, and one that is there before a stop is read. The idea: quote, minus, digits and quote are taken
-- from the front in turn, and the first byte of what is left decides each. Assumes nothing.
use mathlib.Core.Path.{◌≡◌, refl, sym, ap, ◌∙◌}
use mathlib.Core.Bool.{Bool, true, false, not, ◌&&◌, ◌||◌, false≢true}
use mathlib.Core.List.{List, [], ◌∷◌, ◌++◌, append_assoc}
use Prim.Native.Nat.{ℕ, ◌+◌, ◌≤◌}
use native.Mathlib.Omega.{arith}
use borrow.Author.Tests.{ltb-true, lt-ltb, ne_eqb}
use lib.Dec.{eqb, ltb}
use lib.ListN.{length, get_or, drop, length-drop}
use lib.Seq.{drop-drop, drop-append_seam}
use Rattle.codec.proofs.Truth.{and_parts, and_left, and_right, and_both, and_false}
use Rattle.csv_text.specs.declared.Run.{Run}
use Rattle.csv_text.specs.Grammar.{all_digits, value_from}
use Rattle.csv_text.specs.Inner.Descent.{is_digit, leading, RunRead, bit, once, written, Stops, Front, FieldRead, NoField}
use Rattle.csv_text.proofs.Digits.{leading_all, leading_split, leading_digits, leading_few, value_small}
use Rattle.csv_text.proofs.Places.{first_from, there, behind, there_inside}

-- ---- the first byte of digits

-- it is none that is not a digit
pub first_digit : (b : ℕ) (digits bytes : List ℕ) → all_digits digits ≡ true → 1 ≤ length digits → is_digit b ≡ false
    → eqb (get_or (digits ++ bytes) 0 0) b ≡ false
unfolding all_digits
first_digit b [] bytes a h n = absurd (omega arith)
first_digit b (d ∷ digits) bytes a h n =
    let t = (and_parts (is_digit d) (all_digits digits) a).0 in
    ne_eqb d b (λ e. false≢true (sym n ∙ ap is_digit (sym e) ∙ t))

module _ (digits bytes : List ℕ) (a : all_digits digits ≡ true) (h : 1 ≤ length digits) where
  first_quote : (q m : Bool) → eqb (get_or (once q 34 ++ (once m 45 ++ (digits ++ bytes))) 0 0) 34 ≡ q
  first_quote true m = refl
  first_quote false true = refl
  first_quote false false = first_digit 34 digits bytes a h refl

  first_minus : (signed m : Bool) → (m ≡ true → signed ≡ true) → (signed && eqb (get_or (once m 45 ++ (digits ++ bytes)) 0 0) 45) ≡ m
  first_minus signed true s = and_both signed true (s refl) refl
  first_minus signed false s = rw (first_digit 45 digits bytes a h refl) (and_false signed)

-- ---- the closing quote

-- there where it has to be
pub closes : (q z : Bool) → (not q || z) ≡ true → (q && (not q || z)) ≡ q
closes true z e = e
closes false z e = refl

pub closed_there : (q z : Bool) → (q && (not q || z)) ≡ true → z ≡ true
closed_there true z e = e
closed_there false z e = absurd (false≢true e)

after_digits : (q : Bool) (bytes : List ℕ) → Stops bytes → is_digit (get_or (once q 34 ++ bytes) 0 0) ≡ false
after_digits true bytes s = refl
after_digits false bytes s = s.no_digit

quote_after : (q : Bool) (bytes : List ℕ) → (not q || eqb (get_or (once q 34 ++ bytes) 0 0) 34) ≡ true
quote_after true bytes = refl
quote_after false bytes = refl

pub written_before : (q m : Bool) (digits bytes : List ℕ)
    → written q m digits ++ bytes ≡ once q 34 ++ (once m 45 ++ (digits ++ (once q 34 ++ bytes)))
written_before q m digits bytes = simp append_assoc

-- ---- the field

module _ (signed : Bool) (text : List ℕ) (at : ℕ) (h : at ≤ length text) {q : Bool} (eq : q ≡ eqb (get_or text at 0) 34) where
  pub quote_inside : at + bit q ≤ length text
  quote_inside = there_inside text at 34 q (omega arith) (λ t. sym eq ∙ t) h

  module _ {from : ℕ} (ef : from ≡ at + bit q) {b : Bool} (eb : b ≡ eqb (get_or text from 0) 45) where
    is_minus : (signed && b) ≡ true → eqb (get_or text from 0) 45 ≡ true
    is_minus t = sym eb ∙ and_right signed b t

    pub minus_inside : from + bit (signed && b) ≤ length text
    minus_inside = there_inside text from 45 (signed && b) (omega arith) is_minus (rw ef quote_inside)

    module _ {first : ℕ} (es : first ≡ from + bit (signed && b)) {r : Run} (er : RunRead text first r) where
      pub run_inside : r.end ≤ length text
      run_inside =
          let m = minus_inside in
          let n = (leading_few 15 (drop first text)).1 in
          let l = length-drop first text in
          let e = er.end in
          omega arith

      module _ {z : Bool} (ez : z ≡ eqb (get_or text r.end 0) 34) where
        is_closed : (q && (not q || z)) ≡ true → eqb (get_or text r.end 0) 34 ≡ true
        is_closed t = sym ez ∙ closed_there q z t

        pub close_inside : r.end + bit (q && (not q || z)) ≤ length text
        close_inside = there_inside text r.end 34 (q && (not q || z)) (omega arith) is_closed run_inside

        module _ {end : ℕ} (ee : end ≡ r.end + bit (q && (not q || z))) where
          behind_digits : drop first text ≡ leading 15 (drop first text) ++ drop r.end text
          behind_digits =
              leading_split 15 (drop first text)
              ∙ ap (λ (l : List ℕ). leading 15 (drop first text) ++ l) (drop-drop (length (leading 15 (drop first text))) first text)
              ∙ ap (λ (k : ℕ). leading 15 (drop first text) ++ drop k text) (sym er.end)

          taken : (not q || z) ≡ true → drop at text ≡ written q (signed && b) (leading 15 (drop first text)) ++ drop end text
          taken c =
              let one : drop at text ≡ once q 34 ++ drop from text = rw ef (there text at 34 q (omega arith) (λ t. sym eq ∙ t)) in
              let two : drop from text ≡ once (signed && b) 45 ++ drop first text =
              rw es (there text from 45 (signed && b) (omega arith) is_minus) in
              let three = behind_digits in
              let four : drop r.end text ≡ once q 34 ++ drop end text =
              rw ee (there text r.end 34 (q && (not q || z)) (omega arith) is_closed
              ∙ ap (λ (t : Bool). once t 34 ++ drop (r.end + bit (q && (not q || z))) text) (closes q z c)) in
              one ∙ ap (λ (l : List ℕ). once q 34 ++ l) (two ∙ ap (λ (l : List ℕ). once (signed && b) 45 ++ l) (three
              ∙ ap (λ (l : List ℕ). leading 15 (drop first text) ++ l) four))
              ∙ sym (written_before q (signed && b) (leading 15 (drop first text)) (drop end text))

          found : (ltb first r.end && (not q || z)) ≡ true → Front signed (drop at text) (signed && b) r.value (drop end text)
          found g =
              let t = and_parts (ltb first r.end) (not q || z) g in
              let l = ltb-true first r.end t.0 in
              let e = er.end in
              record {
                field = written q (signed && b) (leading 15 (drop first text));
                form = record {
                  quoted = q;
                  digits = leading 15 (drop first text);
                  is = refl;
                  sign = and_left signed b;
                  all = leading_digits 15 (drop first text);
                  some = omega arith;
                  few = (leading_few 15 (drop first text)).0;
                  says = er.value;
                };
                whole = taken t.1;
              }

          only : (minus : Bool) (value : ℕ) (bytes : List ℕ) → Front signed (drop at text) minus value bytes → Stops bytes
              → ((ltb first r.end && (not q || z)) ≡ true)
              × (((signed && b) ≡ minus) × ((r.value ≡ value) × (drop end text ≡ bytes)))
          only minus value bytes f s =
              let k = f.form in
              let ds = k.digits in
              let rest = once k.quoted 34 ++ bytes in
              let w : drop at text ≡ once k.quoted 34 ++ (once minus 45 ++ (ds ++ rest)) =
              f.whole ∙ ap (λ (l : List ℕ). l ++ bytes) k.is ∙ written_before k.quoted minus ds bytes in
              let iq : q ≡ k.quoted =
              eq ∙ ap (λ (n : ℕ). eqb n 34) (first_from text at) ∙ ap (λ (l : List ℕ). eqb (get_or l 0 0) 34) w
              ∙ first_quote ds rest k.all k.some k.quoted minus in
              let w1 : drop from text ≡ once minus 45 ++ (ds ++ rest) = rw (ef, iq) (behind text _ at 34 k.quoted w) in
              let im : (signed && b) ≡ minus =
              ap (λ (t : Bool). signed && t) (eb ∙ ap (λ (n : ℕ). eqb n 45) (first_from text from)
              ∙ ap (λ (l : List ℕ). eqb (get_or l 0 0) 45) w1) ∙ first_minus ds rest k.all k.some signed minus k.sign in
              let w2 : drop first text ≡ ds ++ rest = rw (es, im) (behind text _ from 45 minus w1) in
              let il : leading 15 (drop first text) ≡ ds =
              rw w2 (leading_all 15 ds rest k.all k.few (after_digits k.quoted bytes s)) in
              let ie : r.end ≡ first + length ds = er.end ∙ ap (λ (l : List ℕ). first + length l) il in
              let w3 : drop r.end text ≡ rest =
              rw ie (sym (drop-drop (length ds) first text) ∙ ap (drop (length ds)) w2 ∙ drop-append_seam ds rest) in
              let iz : z ≡ eqb (get_or rest 0 0) 34 =
              ez ∙ ap (λ (n : ℕ). eqb n 34) (first_from text r.end) ∙ ap (λ (l : List ℕ). eqb (get_or l 0 0) 34) w3 in
              let c : (not q || z) ≡ true = rw (iq, iz) (quote_after k.quoted bytes) in
              let w4 : drop end text ≡ bytes = rw (ee, closes q z c, iq) (behind text bytes r.end 34 k.quoted w3) in
              let n = k.some in (
                and_both (ltb first r.end) (not q || z) (lt-ltb first r.end (omega arith)) c,
                (im, (er.value ∙ ap (value_from 0) il ∙ sym k.says, w4)),
              )

          read_so : (ltb first r.end && (not q || z)) ≡ true
              → FieldRead signed text at (record { minus = signed && b; value = r.value; end = end })
          read_so g = record {
            inside = rw ee close_inside;
            small = rw er.value
                (value_small (leading 15 (drop first text)) (leading_digits 15 (drop first text)) (leading_few 15 (drop first text)).0);
            further = (let l = ltb-true first r.end (and_parts (ltb first r.end) (not q || z) g).0 in omega arith);
            good = found g;
            only = λ minus value bytes f s. (only minus value bytes f s).1;
          }

          none_so : (ltb first r.end && (not q || z)) ≡ false → NoField signed text at
          none_so g = record { never = λ minus value bytes f s. false≢true (sym g ∙ (only minus value bytes f s).0) }

        -- as the code has it: the quote that closes it stands there, if one opened it
        pub field_read : {end : ℕ} → end ≡ r.end + bit q → (ltb first r.end && (not q || z)) ≡ true
            → FieldRead signed text at (record { minus = signed && b; value = r.value; end = end })
        field_read e g =
            let c = closes q z (and_parts (ltb first r.end) (not q || z) g).1 in
            read_so (e ∙ ap (λ (t : Bool). r.end + bit t) (sym c)) g

        pub no_field : (ltb first r.end && (not q || z)) ≡ false → NoField signed text at
        no_field = none_so refl

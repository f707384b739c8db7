-- A field's form and what the grammar reads in it, both ways. The idea: what stands in the quotes is a minus or none, and digits.
-- Assumes nothing.
use mathlib.Core.Path.{◌≡◌, refl, sym, ap, ◌∙◌}
use mathlib.Core.Bool.{Bool, true, false, cond, ◌&&◌, false≢true}
use mathlib.Core.Option.{Option, none, some, none-ne-some}
use mathlib.Core.List.{List, [], ◌∷◌, ◌++◌, append-nil}
use Prim.Native.Nat.{ℕ, suc, ◌-◌, ◌≤◌}
use native.Mathlib.Omega.{arith}
use borrow.Author.Tests.{leb-true, le-leb, eqb-true, ne_eqb}
use lib.Dec.{eqb, leb}
use lib.IntN.{ℤ, pos, sub_ℕ}
use lib.ListN.{length, get_or, take, drop, length-append}
use lib.Seq.{get_or-append_seam, take-append_seam, split_at, drop-length}
use Rattle.codec.specs.Area.{part}
use Rattle.codec.proofs.Truth.{and_parts, and_false}
use Rattle.codec.proofs.Lists.{AllOf, all_append}
use Rattle.csv_text.specs.Grammar.{is_quoted, bare, all_digits, value_from, number_in, load_in, member_in, member_most, positive, negative, within_most}
use Rattle.csv_text.specs.Inner.Descent.{is_digit, once, written, Form}
use Rattle.csv_text.proofs.FieldRead.{first_digit}
use Rattle.csv_text.proofs.Cutting.{Free}

-- ---- quotes

-- what stands in them
quoted_whole : (inner : List ℕ) → (is_quoted (34 ∷ (inner ++ (34 ∷ []))) ≡ true) × (bare (34 ∷ (inner ++ (34 ∷ []))) ≡ inner)
unfolding part
quoted_whole inner =
    let f : List ℕ = 34 ∷ (inner ++ (34 ∷ [])) in
    let n : length (inner ++ (34 ∷ [])) ≡ suc (length inner) = simp length-append (omega arith) in
    let two : leb 2 (length f) ≡ true = le-leb 2 (length f) (omega arith) in
    let last : length f - 1 ≡ suc (length inner) = omega arith in
    let width : length f - 2 ≡ length inner = omega arith in
    let t : is_quoted f ≡ true = rw (two, last, get_or-append_seam inner 34 [] 0) in
    (t, rw (t, width) (take-append_seam inner (34 ∷ [])))

pub bare_quoted : (inner : List ℕ) → bare (34 ∷ (inner ++ (34 ∷ []))) ≡ inner
bare_quoted inner = (quoted_whole inner).1

-- no quote, none taken off
bare_other : (f : List ℕ) → eqb (get_or f 0 0) 34 ≡ false → bare f ≡ f
bare_other f e = rw (e, and_false (leb 2 (length f)))

-- a field is what stands in its quotes, in them or not
by_quotes : (f : List ℕ) (t : Bool) → is_quoted f ≡ t → (q : Bool) × (f ≡ once q 34 ++ (bare f ++ once q 34))
unfolding part
by_quotes f false e = (false, rw e (sym (append-nil f)))
by_quotes [] true e = absurd (false≢true e)
by_quotes (b ∷ g) true e =
    let t = and_parts (leb 2 (suc (length g))) _ e in
    let u = and_parts (eqb b 34) _ t.1 in
    let l = leb-true 2 (suc (length g)) t.0 in
    let last : suc (length g) - 1 ≡ suc (length g - 1) = omega arith in
    let width : suc (length g) - 2 ≡ length g - 1 = omega arith in
    let full : suc (length g - 1) ≡ length g = omega arith in
    let x : get_or g (length g - 1) 0 ≡ 34 = eqb-true (get_or g (length g - 1) 0) 34 (rw last at u.1) in
    let y : drop (suc (length g - 1)) g ≡ [] = rw full (drop-length g) in
    let s : g ≡ take (length g - 1) g ++ (get_or g (length g - 1) 0 ∷ drop (suc (length g - 1)) g) = split_at g (length g - 1) 0 (omega arith) in
    let r : g ≡ take (length g - 1) g ++ (34 ∷ []) = rw (x, y) at s in
    (true, rw (e, width, eqb-true b 34 u.0) (ap (λ (l : List ℕ). 34 ∷ l) r))

in_quotes : (f : List ℕ) → (q : Bool) × (f ≡ once q 34 ++ (bare f ++ once q 34))
in_quotes f = by_quotes f (is_quoted f) refl

-- ---- from the form to what it says

pub digits_free : (n : ℕ) → is_digit n ≡ false → (digits : List ℕ) → all_digits digits ≡ true → AllOf (Free n) digits
unfolding all_digits
digits_free n e [] a = tt
digits_free n e (d ∷ digits) a =
    let t = and_parts (is_digit d) (all_digits digits) a in
    (ne_eqb d n (λ i. false≢true (sym e ∙ ap is_digit (sym i) ∙ t.0)), digits_free n e digits t.1)

module _ (signed : Bool) (f : List ℕ) (m : Bool) (v : ℕ) (k : Form signed f m v) where
  bare_form : bare f ≡ once m 45 ++ k.digits
  bare_form = ap bare k.is ∙ go k.quoted m
    where
      go : (q m : Bool) → bare (written q m k.digits) ≡ once m 45 ++ k.digits
      go true true = bare_quoted (45 ∷ k.digits)
      go true false = bare_quoted k.digits
      go false true = bare_other (45 ∷ (k.digits ++ [])) refl ∙ ap (λ (l : List ℕ). 45 ∷ l) (append-nil k.digits)
      go false false = bare_other (k.digits ++ []) (first_digit 34 k.digits [] k.all k.some refl) ∙ append-nil k.digits

  number_said : number_in k.digits ≡ some v
  unfolding number_in
  number_said =
      rw (le-leb 1 (length k.digits) k.some, le-leb (length k.digits) 15 k.few, k.all) (ap (λ (n : ℕ). some n) (sym k.says))

  pub load_said_lem : load_in (bare f) ≡ some (cond m (sub_ℕ 0 v) (pos v))
  unfolding load_in
  load_said_lem = rw bare_form (go m)
    where
      go : (m : Bool) → load_in (once m 45 ++ k.digits) ≡ some (cond m (sub_ℕ 0 v) (pos v))
      go true = rw number_said
      go false =
          let e : eqb (get_or k.digits 0 0) 45 ≡ false =
          ap (λ (l : List ℕ). eqb (get_or l 0 0) 45) (sym (append-nil k.digits)) ∙ first_digit 45 k.digits [] k.all k.some refl in
          rw (e, number_said)

  -- no byte of it is one that is no digit, no quote and no minus
  pub form_free : (n : ℕ) → is_digit n ≡ false → Free n 34 → Free n 45 → AllOf (Free n) f
  form_free n d q s =
      let e = once k.quoted 34 in
      let o = one k.quoted 34 q in
      rw k.is (all_append (Free n) e (once m 45 ++ (k.digits ++ e)) o (all_append (Free n) (once m 45) (k.digits ++ e) (one m 45 s)
      (all_append (Free n) k.digits e (digits_free n d k.digits k.all) o)))
    where
      one : (t : Bool) (b : ℕ) → Free n b → AllOf (Free n) (once t b)
      one true b e = (e, tt)
      one false b e = tt

-- a time, a member: no minus stands before it
pub number_form : (f : List ℕ) (m : Bool) (v : ℕ) → Form false f m v → number_in (bare f) ≡ some v
number_form f true v k = absurd (false≢true (k.sign refl))
number_form f false v k = rw (bare_form false f false v k) (number_said false f false v k)

pub member_form : (f : List ℕ) (m : Bool) (v : ℕ) → Form false f m v → v ≤ member_most → member_in (bare f) ≡ some v
unfolding member_in
member_form f m v k h = rw (number_form f m v k, le-leb v member_most h)

-- ---- from what is read to the form

record Number (g : List ℕ) (v : ℕ) : Type 0 where
  pub some : 1 ≤ length g
  pub few : length g ≤ 15
  pub all : all_digits g ≡ true
  pub says : v ≡ value_from 0 g

is_number : (g : List ℕ) (v : ℕ) → number_in g ≡ some v → Number g v
unfolding number_in
is_number g v = go ((leb 1 (length g) && leb (length g) 15) && all_digits g) refl
  where
    go : (t : Bool) → ((leb 1 (length g) && leb (length g) 15) && all_digits g) ≡ t
        → cond t (some (value_from 0 g)) none ≡ some v → Number g v
    go true e h =
        let t = and_parts (leb 1 (length g) && leb (length g) 15) (all_digits g) e in
        let u = and_parts (leb 1 (length g)) (leb (length g) 15) t.0 in
        record { some = leb-true 1 (length g) u.0; few = leb-true (length g) 15 u.1; all = t.1; says = cc }
    go false e h = absurd (none-ne-some v h)

pub form_of_number : (f : List ℕ) (v : ℕ) → number_in (bare f) ≡ some v → Form false f false v
form_of_number f v e =
    let q = in_quotes f in
    let n = is_number (bare f) v e in
    record {
      quoted = q.0;
      digits = bare f;
      is = q.1;
      sign = λ t. absurd (false≢true t);
      all = n.all;
      some = n.some;
      few = n.few;
      says = n.says;
    }

pub form_of_member : (f : List ℕ) (v : ℕ) → member_in (bare f) ≡ some v → Form false f false v × (v ≤ member_most)
unfolding member_in
form_of_member f v = go (number_in (bare f)) refl
  where
    within : (n : ℕ) (t : Bool) → leb n member_most ≡ t → cond t (some n) none ≡ some v → (n ≡ v) × (n ≤ member_most)
    within n true e h = (cc, leb-true n member_most e)
    within n false e h = absurd (none-ne-some v h)

    go : (o : Option ℕ) → number_in (bare f) ≡ o → within_most o ≡ some v → Form false f false v × (v ≤ member_most)
    go none e h = absurd (none-ne-some v h)
    go (some n) e h =
        let w = within n (leb n member_most) refl h in
        (form_of_number f v (e ∙ ap (λ (n : ℕ). some n) w.0), rw w.0 at w.1)

minus_first : (g : List ℕ) → eqb (get_or g 0 0) 45 ≡ true → g ≡ 45 ∷ drop 1 g
minus_first [] e = absurd (false≢true e)
minus_first (b ∷ g) e = rw (eqb-true b 45 e)

pub form_of_load : (f : List ℕ) (z : ℤ) → load_in (bare f) ≡ some z → (m : Bool) × (v : ℕ) × Form true f m v
unfolding load_in
form_of_load f z = go (eqb (get_or (bare f) 0 0) 45) refl
  where
    below : (o : Option ℕ) → number_in (drop 1 (bare f)) ≡ o → eqb (get_or (bare f) 0 0) 45 ≡ true → negative o ≡ some z
        → (m : Bool) × (v : ℕ) × Form true f m v
    below none e t h = absurd (none-ne-some z h)
    below (some v) e t h =
        let q = in_quotes f in
        let n = is_number (drop 1 (bare f)) v e in (
          true,
          v,
          record {
            quoted = q.0;
            digits = drop 1 (bare f);
            is = q.1 ∙ ap (λ (l : List ℕ). once q.0 34 ++ (l ++ once q.0 34)) (minus_first (bare f) t);
            sign = λ t. refl;
            all = n.all;
            some = n.some;
            few = n.few;
            says = n.says;
          },
        )

    above : (o : Option ℕ) → number_in (bare f) ≡ o → positive o ≡ some z → (m : Bool) × (v : ℕ) × Form true f m v
    above none e h = absurd (none-ne-some z h)
    above (some v) e h =
        let k = form_of_number f v e in (
          false,
          v,
          record {
            quoted = k.quoted;
            digits = k.digits;
            is = k.is;
            sign = λ t. refl;
            all = k.all;
            some = k.some;
            few = k.few;
            says = k.says;
          },
        )

    go : (t : Bool) → eqb (get_or (bare f) 0 0) 45 ≡ t
        → cond t (negative (number_in (drop 1 (bare f)))) (positive (number_in (bare f))) ≡ some z
        → (m : Bool) × (v : ℕ) × Form true f m v
    go true e h = below (number_in (drop 1 (bare f))) refl e h
    go false e h = above (number_in (bare f)) refl h

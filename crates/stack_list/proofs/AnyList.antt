-- The generator over any list of stacks within the sizes (document 02, W-205 and W-206): its text is read as the list, and what is
-- printed for it are the rule's ends, each whole in its six columns; a text longer than every list is refused. Assumes nothing.
use mathlib.Core.Path.{◌≡◌, refl, ap, ◌∙◌}
use mathlib.Core.Bool.{Bool, true, false, cond, ◌&&◌}
use mathlib.Core.List.{List, [], ◌∷◌, ◌++◌, map}
use mathlib.Core.Logic.{◌⊎◌, inl, inr}
use Prim.Native.Nat.{ℕ, suc, ◌+◌, ◌*◌, ◌/◌, ◌≤◌, ◌<◌}
use native.Mathlib.Omega.{arith}
use borrow.Author.Tests.{lt-ltb, ltb-true, eqb-true}
use lib.Dec.{ltb, eqb}
use lib.ListN.{length, length-append, length-map}
use Rattle.codec.proofs.Truth.{and_both, and_left, and_right}
use Rattle.plate.specs.Stack.{is_plate, all_plates, is_stack, ends_of}
use Rattle.plate.proofs.Ends.{plate_sizes, running, ends_running}
use Rattle.lines.specs.Columns.{field_in, is_time}
use Rattle.answers.specs.Printed.{number}
use Rattle.answers.proofs.Justified.{length_justified, numeral_few}
use Rattle.answers.proofs.ReadBack.{reads_back}
use Rattle.stack_list.specs.ListForm.{
  lines_of,
  is_blank,
  by_stacks,
  six_columns,
  plate_in,
  in_form,
  stacks_in,
  all_stacks,
  in_sizes,
  is_list,
  ended,
  text_of,
  list_text,
}
use Rattle.stack_list.specs.Generated.{refusal, generated}
use Rattle.stack_list.specs.Inner.Turns.{list_from}
use Rattle.stack_list.proofs.Cut.{lines_together, stacks_together}
use Rattle.stack_list.proofs.Judged.{blank_goes_on, plate_goes_on, stack_sizes, list_sizes, judged}
use Rattle.stack_list.proofs.ReadBack.{all_numbers, all_by_stacks, cut_again}

-- ---- numbers that fit their six columns

number_six : (v : ℕ) → v < 1000000 → (six_columns (number 6 v) ≡ true) × (plate_in (number 6 v) ≡ v)
unfolding six_columns
number_six v h =
    let l = numeral_few 6 v false (omega arith) h in
    rw (length_justified 6 _, reads_back 6 v false (omega arith)) (refl, refl)

unfoldable all_small : List ℕ → Bool
all_small [] = true
all_small (v ∷ vs) = ltb v 1000000 && all_small vs

unfoldable all_smalls : List (List ℕ) → Bool
all_smalls [] = true
all_smalls (stack ∷ stacks) = all_small stack && all_smalls stacks

stack_lines : (vs : List ℕ) → all_small vs ≡ true → (all_numbers (map (number 6) vs) ≡ true) × (map plate_in (map (number 6) vs) ≡ vs)
unfolding all_small all_numbers
stack_lines [] a = (refl, refl)
stack_lines (v ∷ vs) a =
    let n = number_six v (ltb-true v 1000000 (and_left (ltb v 1000000) (all_small vs) a)) in
    let r = stack_lines vs (and_right (ltb v 1000000) (all_small vs) a) in
    (and_both _ _ n.0 r.0, rw (n.1, r.1))

all_lines : (stacks : List (List ℕ)) → all_smalls stacks ≡ true
    → (all_by_stacks (map (map (number 6)) stacks) ≡ true) × (map (map plate_in) (map (map (number 6)) stacks) ≡ stacks)
unfolding all_smalls all_by_stacks
all_lines [] a = (refl, refl)
all_lines (stack ∷ stacks) a =
    let n = stack_lines stack (and_left (all_small stack) (all_smalls stacks) a) in
    let r = all_lines stacks (and_right (all_small stack) (all_smalls stacks) a) in
    (and_both _ _ n.0 r.0, rw (n.1, r.1))

-- numbers by stacks, printed and read again
pub record ReadsBack (stacks : List (List ℕ)) : Type 0 where
  pub in_form_lem : in_form (lines_of (list_text stacks)) ≡ true
  pub same : stacks_in (list_text stacks) ≡ stacks

reads_again : (stacks : List (List ℕ)) → 0 < length stacks → all_smalls stacks ≡ true → ReadsBack stacks
reads_again [] h a = absurd (omega arith)
reads_again (stack ∷ stacks) h a =
    let l = all_lines (stack ∷ stacks) a in
    let c = cut_again (map (number 6) stack) (map (map (number 6)) stacks) l.0 in
    record { in_form_lem = c.1; same = ap (map (map plate_in)) c.0 ∙ l.1 }

-- ---- plates and ends are such numbers

plates_small : (ps : List ℕ) → all_plates ps ≡ true → all_small ps ≡ true
unfolding all_plates all_small
plates_small [] a = refl
plates_small (p ∷ ps) a =
    let m = plate_sizes p (and_left (is_plate p) (all_plates ps) a) in
    and_both _ _ (lt-ltb p 1000000 (omega arith)) (plates_small ps (and_right (is_plate p) (all_plates ps) a))

ends_small : (ps : List ℕ) (sum above : ℕ) → above ≤ 5000 → all_plates ps ≡ true → sum + 5000 * length ps < 900000
    → all_small (running sum above ps) ≡ true
unfolding all_plates all_small running
ends_small [] sum above l a h = and_both _ _ (lt-ltb (sum + above / 2) 1000000 (omega arith)) refl
ends_small (p ∷ ps) sum above l a h =
    let m = plate_sizes p (and_left (is_plate p) (all_plates ps) a) in
    and_both _ _ (lt-ltb (sum + p / 2) 1000000 (omega arith))
    (ends_small ps (sum + p) p m.1 (and_right (is_plate p) (all_plates ps) a) (omega arith))

lists_small : (stacks : List (List ℕ)) → all_stacks stacks ≡ true → (all_smalls stacks ≡ true) × (all_smalls (map ends_of stacks) ≡ true)
unfolding all_stacks all_smalls
lists_small [] a = (refl, refl)
lists_small (stack ∷ stacks) a =
    let s = stack_sizes stack (and_left (is_stack stack) (all_stacks stacks) a) in
    let r = lists_small stacks (and_right (is_stack stack) (all_stacks stacks) a) in
    let e = ends_small stack 0 0 (omega arith) s.plates (omega (arith, s.most)) in
    (and_both _ _ (plates_small stack s.plates) r.0, rw (ends_running stack) (and_both _ _ e r.1))

-- ---- any list of stacks

module _ (stacks : List (List ℕ)) (ok : in_sizes stacks ≡ true) where
  pub stacks_read_back : (is_list (list_text stacks) ≡ true) × (stacks_in (list_text stacks) ≡ stacks)
  unfolding is_list
  stacks_read_back =
      let p = list_sizes stacks ok in
      let b = reads_again stacks p.some (lists_small stacks p.stacks).0 in
      (and_both _ _ b.in_form_lem (ap in_sizes b.same ∙ ok), b.same)

  -- "proved over any stack to give the rule's ends"
  pub any_list : generated (list_text stacks) ≡ list_text (map ends_of stacks)
  unfolding generated
  any_list = rw (stacks_read_back.0, stacks_read_back.1)

  -- the ends are printed whole
  pub ends_read_back : ReadsBack (map ends_of stacks)
  ends_read_back =
      let p = list_sizes stacks ok in
      reads_again (map ends_of stacks) (simp length-map p.some) (lists_small stacks p.stacks).1

-- ---- a text is its lines by stacks, with the last line feed where it was missing

pub nothing_lost : (text : List ℕ) → (text_of (by_stacks (lines_of text)) ≡ text) ⊎ (text_of (by_stacks (lines_of text)) ≡ text ++ (10 ∷ []))
nothing_lost text = go (lines_together text)
  where
    go : (ended (lines_of text) ≡ text) ⊎ (ended (lines_of text) ≡ text ++ (10 ∷ []))
        → (text_of (by_stacks (lines_of text)) ≡ text) ⊎ (text_of (by_stacks (lines_of text)) ≡ text ++ (10 ∷ []))
    go (inl e) = inl (stacks_together (lines_of text) ∙ e)
    go (inr e) = inr (stacks_together (lines_of text) ∙ e)

-- ---- a text longer than 16 stacks of 24 lines of 7 bytes, and 15 blank lines, is of another form

lines_fit : (ls : List (List ℕ)) (a n : ℕ) → a ≤ 16 → n ≤ 24 → list_from a n ls ≡ true → length (ended ls) + 7 * n + 169 * a ≤ 2872
unfolding list_from is_blank ended six_columns
lines_fit [] a n h k e = omega arith
lines_fit ([] ∷ ls) a n h k e =
    let g = blank_goes_on a n ls e in
    omega (arith, lines_fit ls (suc a) 0 g.few (omega arith) g.rest, g.some)
lines_fit ((b ∷ l) ∷ ls) a n h k e =
    let g = plate_goes_on a n ls b l e in
    let six = eqb-true (length (b ∷ l)) 6 (and_left (eqb (length (b ∷ l)) 6) (is_time (field_in (b ∷ l))) g.six) in
    let r = lines_fit ls a (suc n) h g.low g.rest in
    omega (arith, length-append (b ∷ l) (10 ∷ ended ls))

longest : (text : List ℕ) → is_list text ≡ true → length text ≤ 2703
longest text e = go (lines_together text)
  where
    go : (ended (lines_of text) ≡ text) ⊎ (ended (lines_of text) ≡ text ++ (10 ∷ [])) → length text ≤ 2703
    go (inl p) = omega (arith, lines_fit (lines_of text) 1 0 (omega arith) (omega arith) (judged text ∙ e), ap length p)
    go (inr p) =
        omega (arith, lines_fit (lines_of text) 1 0 (omega arith) (omega arith) (judged text ∙ e), ap length p, length-append text (10 ∷ []))

pub too_long : (text : List ℕ) → 2703 < length text → generated text ≡ refusal
unfolding generated
too_long text h = go (is_list text) refl
  where
    go : (t : Bool) → is_list text ≡ t → cond t (list_text (map ends_of (stacks_in text))) refusal ≡ refusal
    go true e = let l = longest text e in absurd (omega arith)
    go false e = refl

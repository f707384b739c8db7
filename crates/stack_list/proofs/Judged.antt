-- A text is a list of stacks where its lines, judged one by one, let a list go on. The idea: after so many stacks, the last of them with so
-- many plates, what is left has to fill up what is there. Assumes nothing.
use mathlib.Core.Path.{◌≡◌, refl, sym}
use mathlib.Core.Bool.{Bool, true, false, cond, ◌&&◌}
use mathlib.Core.List.{List, [], ◌∷◌, map}
use Prim.Native.Nat.{ℕ, suc, ◌+◌, ◌≤◌, ◌<◌}
use native.Mathlib.Omega.{arith}
use borrow.Author.Tests.{ltb-true, leb-true, lt-ltb, le-leb}
use lib.Dec.{leb, ltb}
use lib.ListN.{length, length-map}
use Rattle.codec.proofs.Truth.{and_both, and_left, and_right}
use Rattle.plate.specs.Stack.{is_plate, all_plates, is_stack}
use Rattle.plate.proofs.Ends.{plate_sizes}
use Rattle.stack_list.specs.ListForm.{lines_of, is_blank, at_top, by_stacks, six_columns, plate_in, in_form, stacks_in, all_stacks, in_sizes, is_list}
use Rattle.stack_list.specs.Inner.Turns.{plate_or0, list_from}
use Rattle.stack_list.proofs.Cut.{some_stack}

-- two tests are one where each holds if the other does
same_truth : (s t : Bool) → (s ≡ true → t ≡ true) → (t ≡ true → s ≡ true) → s ≡ t
same_truth true t f g = sym (f refl)
same_truth false true f g = g refl
same_truth false false f g = refl

-- ---- a plate

module _ (line : List ℕ) where
  pub plate_read : 0 < plate_or0 line → (six_columns line ≡ true) × ((is_plate (plate_in line) ≡ true) × (plate_or0 line ≡ plate_in line))
  unfolding plate_or0
  plate_read = go (six_columns line) refl (is_plate (plate_in line)) refl
    where
      go : (s : Bool) → six_columns line ≡ s → (t : Bool) → is_plate (plate_in line) ≡ t → 0 < cond (s && t) (plate_in line) 0
          → (six_columns line ≡ true) × ((is_plate (plate_in line) ≡ true) × (cond (s && t) (plate_in line) 0 ≡ plate_in line))
      go true e true f h = (e, (f, refl))
      go true e false f h = absurd (omega arith)
      go false e t f h = absurd (omega arith)

  plate_some : six_columns line ≡ true → is_plate (plate_in line) ≡ true → 0 < plate_or0 line
  unfolding plate_or0
  plate_some s p = let l = plate_sizes (plate_in line) p in rw (s, p) (omega arith)

-- ---- a line that a list goes on with

pub record BlankGoesOn (stacks plates : ℕ) (lines : List (List ℕ)) : Type 0 where
  pub some : 0 < plates
  pub few : stacks < 16
  pub rest : list_from (suc stacks) 0 lines ≡ true

pub record PlateGoesOn (stacks plates : ℕ) (line : List ℕ) (lines : List (List ℕ)) : Type 0 where
  pub low : plates < 24
  pub six : six_columns line ≡ true
  pub sized : is_plate (plate_in line) ≡ true
  pub rest : list_from stacks (suc plates) lines ≡ true

module _ (a n : ℕ) (ls : List (List ℕ)) where
  pub blank_goes_on : list_from a n ([] ∷ ls) ≡ true → BlankGoesOn a n ls
  unfolding list_from is_blank
  blank_goes_on e =
      let t = and_left (ltb 0 n && ltb a 16) (list_from (suc a) 0 ls) e in
      record {
        some = ltb-true 0 n (and_left (ltb 0 n) (ltb a 16) t);
        few = ltb-true a 16 (and_right (ltb 0 n) (ltb a 16) t);
        rest = and_right (ltb 0 n && ltb a 16) (list_from (suc a) 0 ls) e;
      }

  pub plate_goes_on : (b : ℕ) (l : List ℕ) → list_from a n ((b ∷ l) ∷ ls) ≡ true → PlateGoesOn a n (b ∷ l) ls
  unfolding list_from is_blank
  plate_goes_on b l e =
      let t = and_left (ltb n 24 && ltb 0 (plate_or0 (b ∷ l))) (list_from a (suc n) ls) e in
      let p = plate_read (b ∷ l) (ltb-true 0 (plate_or0 (b ∷ l)) (and_right (ltb n 24) (ltb 0 (plate_or0 (b ∷ l))) t)) in
      record {
        low = ltb-true n 24 (and_left (ltb n 24) (ltb 0 (plate_or0 (b ∷ l))) t);
        six = p.0;
        sized = p.1.0;
        rest = and_right (ltb n 24 && ltb 0 (plate_or0 (b ∷ l))) (list_from a (suc n) ls) e;
      }

-- ---- a stack

pub record StackSizes (s : List ℕ) : Type 0 where
  pub some : 0 < length s
  pub most : length s ≤ 24
  pub plates : all_plates s ≡ true

pub stack_sizes : (s : List ℕ) → is_stack s ≡ true → StackSizes s
unfolding is_stack
stack_sizes s e =
    let n = and_left (leb 1 (length s) && leb (length s) 24) (all_plates s) e in
    record {
      some = leb-true 1 (length s) (and_left (leb 1 (length s)) (leb (length s) 24) n);
      most = leb-true (length s) 24 (and_right (leb 1 (length s)) (leb (length s) 24) n);
      plates = and_right (leb 1 (length s) && leb (length s) 24) (all_plates s) e;
    }

sizes_stack : (s : List ℕ) → StackSizes s → is_stack s ≡ true
unfolding is_stack
sizes_stack s z = and_both _ _ (and_both _ _ (le-leb 1 (length s) z.some) (le-leb (length s) 24 z.most)) z.plates

-- ---- what is left fills up what is there

-- after `stacks` stacks, the last of them with `plates` plates: lines `g` go onto that one, and further stacks come
record Fills (stacks plates : ℕ) (g : List (List ℕ)) (gs : List (List (List ℕ))) : Type 0 where
  few : stacks + length gs ≤ 16
  some : 0 < plates + length g
  most : plates + length g ≤ 24
  sized : all_plates (map plate_in g) ≡ true
  rest : all_stacks (map (map plate_in) gs) ≡ true

-- lines by stacks make a list after them
abbrev Fits : ℕ → ℕ → List (List (List ℕ)) → Type 0
Fits stacks plates [] = ⊥
Fits stacks plates (g ∷ gs) = Fills stacks plates g gs

as_stack : (a : ℕ) (g : List (List ℕ)) (gs : List (List (List ℕ))) → Fills a 0 g gs → is_stack (map plate_in g) ≡ true
as_stack a g gs f =
    let k = length-map g plate_in in
    sizes_stack (map plate_in g) (record { some = omega (arith, f.some); most = omega (arith, f.most); plates = f.sized })

blank_fits : (a n : ℕ) (G : List (List (List ℕ))) → 0 < n → n ≤ 24 → Fits (suc a) 0 G → Fits a n ([] ∷ G)
unfolding all_stacks all_plates
blank_fits a n [] s l f = absurd f
blank_fits a n (g ∷ gs) s l f = record {
  few = omega (arith, f.few);
  some = omega arith;
  most = omega arith;
  sized = refl;
  rest = and_both _ _ (as_stack (suc a) g gs f) f.rest;
}

fits_blank : (a n : ℕ) (G : List (List (List ℕ))) → 0 < length G → Fits a n ([] ∷ G) → (0 < n) × ((a < 16) × Fits (suc a) 0 G)
unfolding all_stacks
fits_blank a n [] s f = absurd (omega arith)
fits_blank a n (g ∷ gs) s f =
    let k = length-map g plate_in in
    let i = stack_sizes (map plate_in g) (and_left (is_stack (map plate_in g)) (all_stacks (map (map plate_in) gs)) f.rest) in
    let on : Fills (suc a) 0 g gs = record {
      few = omega (arith, f.few);
      some = omega (arith, i.some);
      most = omega (arith, i.most);
      sized = i.plates;
      rest = and_right (is_stack (map plate_in g)) (all_stacks (map (map plate_in) gs)) f.rest;
    } in
    (omega (arith, f.some), (omega (arith, f.few), on))

plate_fits : (a n : ℕ) (l : List ℕ) (G : List (List (List ℕ))) → is_plate (plate_in l) ≡ true → Fits a (suc n) G → Fits a n (at_top l G)
unfolding at_top all_plates
plate_fits a n l [] p f = absurd f
plate_fits a n l (g ∷ gs) p f = record {
  few = f.few;
  some = omega arith;
  most = omega (arith, f.most);
  sized = and_both _ _ p f.sized;
  rest = f.rest;
}

fits_plate : (a n : ℕ) (l : List ℕ) (G : List (List (List ℕ))) → 0 < length G → Fits a n (at_top l G)
    → (n < 24) × ((is_plate (plate_in l) ≡ true) × Fits a (suc n) G)
unfolding at_top all_plates
fits_plate a n l [] s f = absurd (omega arith)
fits_plate a n l (g ∷ gs) s f =
    let on : Fills a (suc n) g gs = record {
      few = f.few;
      some = omega arith;
      most = omega (arith, f.most);
      sized = and_right (is_plate (plate_in l)) (all_plates (map plate_in g)) f.sized;
      rest = f.rest;
    } in
    (omega (arith, f.most), (and_left (is_plate (plate_in l)) (all_plates (map plate_in g)) f.sized, on))

-- ---- line by line

list_fits : (ls : List (List ℕ)) (a n : ℕ) → a ≤ 16 → n ≤ 24 → list_from a n ls ≡ true → (in_form ls ≡ true) × Fits a n (by_stacks ls)
unfolding list_from in_form by_stacks is_blank all_stacks all_plates
list_fits [] a n h k e =
    let l = ltb-true 0 n e in
    (refl, record { few = omega arith; some = omega arith; most = omega arith; sized = refl; rest = refl })
list_fits ([] ∷ ls) a n h k e =
    let g = blank_goes_on a n ls e in
    let r = list_fits ls (suc a) 0 g.few (omega arith) g.rest in
    (r.0, blank_fits a n (by_stacks ls) g.some k r.1)
list_fits ((b ∷ l) ∷ ls) a n h k e =
    let g = plate_goes_on a n ls b l e in
    let r = list_fits ls a (suc n) h g.low g.rest in
    (and_both _ _ g.six r.0, plate_fits a n (b ∷ l) (by_stacks ls) g.sized r.1)

fits_list : (ls : List (List ℕ)) (a n : ℕ) → in_form ls ≡ true → Fits a n (by_stacks ls) → list_from a n ls ≡ true
unfolding list_from in_form by_stacks is_blank
fits_list [] a n e f = lt-ltb 0 n (omega (arith, f.some))
fits_list ([] ∷ ls) a n e f =
    let r = fits_blank a n (by_stacks ls) (some_stack ls) f in
    and_both _ _ (and_both _ _ (lt-ltb 0 n r.0) (lt-ltb a 16 r.1.0)) (fits_list ls (suc a) 0 e r.1.1)
fits_list ((b ∷ l) ∷ ls) a n e f =
    let r = fits_plate a n (b ∷ l) (by_stacks ls) (some_stack ls) f in
    let s = and_left (six_columns (b ∷ l)) (in_form ls) e in
    and_both _ _ (and_both _ _ (lt-ltb n 24 r.0) (lt-ltb 0 (plate_or0 (b ∷ l)) (plate_some (b ∷ l) s r.1.0)))
    (fits_list ls a (suc n) (and_right (six_columns (b ∷ l)) (in_form ls) e) r.1.1)

-- ---- the whole text

pub record ListSizes (ss : List (List ℕ)) : Type 0 where
  pub some : 0 < length ss
  pub most : length ss ≤ 16
  pub stacks : all_stacks ss ≡ true

pub list_sizes : (ss : List (List ℕ)) → in_sizes ss ≡ true → ListSizes ss
unfolding in_sizes
list_sizes ss e =
    let n = and_left (leb 1 (length ss) && leb (length ss) 16) (all_stacks ss) e in
    record {
      some = leb-true 1 (length ss) (and_left (leb 1 (length ss)) (leb (length ss) 16) n);
      most = leb-true (length ss) 16 (and_right (leb 1 (length ss)) (leb (length ss) 16) n);
      stacks = and_right (leb 1 (length ss) && leb (length ss) 16) (all_stacks ss) e;
    }

sizes_fit : (G : List (List (List ℕ))) → 0 < length G → in_sizes (map (map plate_in) G) ≡ true → Fits 1 0 G
unfolding all_stacks
sizes_fit [] h e = absurd (omega arith)
sizes_fit (g ∷ gs) h e =
    let k = length-map gs (map plate_in) in
    let j = length-map g plate_in in
    let p = list_sizes (map (map plate_in) (g ∷ gs)) e in
    let i = stack_sizes (map plate_in g) (and_left (is_stack (map plate_in g)) (all_stacks (map (map plate_in) gs)) p.stacks) in
    record {
      few = omega (arith, p.most);
      some = omega (arith, i.some);
      most = omega (arith, i.most);
      sized = i.plates;
      rest = and_right (is_stack (map plate_in g)) (all_stacks (map (map plate_in) gs)) p.stacks;
    }

fit_sizes : (G : List (List (List ℕ))) → Fits 1 0 G → in_sizes (map (map plate_in) G) ≡ true
unfolding all_stacks in_sizes
fit_sizes [] f = absurd f
fit_sizes (g ∷ gs) f =
    let k = length-map gs (map plate_in) in
    let n : length (map (map plate_in) (g ∷ gs)) ≤ 16 = omega (arith, f.few) in
    and_both _ _ (and_both _ _ (le-leb 1 (length (map (map plate_in) (g ∷ gs))) (omega arith)) (le-leb _ 16 n))
    (and_both _ _ (as_stack 1 g gs f) f.rest)

pub judged : (text : List ℕ) → list_from 1 0 (lines_of text) ≡ is_list text
unfolding is_list
judged text =
    same_truth (list_from 1 0 (lines_of text)) (in_form (lines_of text) && in_sizes (stacks_in text))
    (λ e.
    let r = list_fits (lines_of text) 1 0 (omega arith) (omega arith) e in
    and_both _ _ r.0 (fit_sizes (by_stacks (lines_of text)) r.1))
    (λ e.
    fits_list (lines_of text) 1 0 (and_left (in_form (lines_of text)) (in_sizes (stacks_in text)) e)
    (sizes_fit (by_stacks (lines_of text)) (some_stack (lines_of text)) (and_right (in_form (lines_of text)) (in_sizes (stacks_in text)) e)))

-- A text of numbers by stacks, read again, gives the lines and the stacks that went in. The idea: a line that is a number has no line
-- feed in it, so a text is cut just where its lines were put together. Assumes nothing.
use mathlib.Core.Path.{◌≡◌, refl, sym, ap, ◌∙◌}
use mathlib.Core.Bool.{Bool, true, false, cond, ◌&&◌}
use mathlib.Core.List.{List, [], ◌∷◌, ◌++◌, append_assoc, append-nil}
use Prim.Native.Nat.{ℕ}
use native.Mathlib.Omega.{arith}
use borrow.Author.Tests.{eqb-true}
use lib.Dec.{leb, eqb}
use lib.ListN.{length}
use Rattle.codec.proofs.Truth.{and_both, and_left, and_right, or_second}
use Rattle.lines.specs.declared.Field.{Field}
use Rattle.lines.specs.declared.Field.TheVariants.{Spaces, Broken}
use Rattle.lines.specs.Columns.{read_on, read_from, field_in, is_time}
use Rattle.stack_list.specs.ListForm.{onto_first, lines_of, is_blank, at_top, by_stacks, six_columns, in_form, ended, further, text_of}

-- ---- a line that is a number has no line feed

unfoldable no_feed : List ℕ → Bool
no_feed [] = true
no_feed (b ∷ line) = cond (eqb b 10) false (no_feed line)

broken_on : (b : ℕ) → read_on Broken b ≡ Broken
unfolding read_on
broken_on b = go (leb 48 b && leb b 57) (eqb b 32) (eqb b 45)
  where
    go : (s t u : Bool) → cond s Broken (cond t Broken (cond u Broken Broken)) ≡ Broken
    go true t u = refl
    go false true u = refl
    go false false true = refl
    go false false false = refl

stays_broken : (line : List ℕ) → read_from Broken line ≡ Broken
unfolding read_from
stays_broken [] = refl
stays_broken (b ∷ line) = rw (broken_on b) (stays_broken line)

feed_breaks : (f : Field) (line : List ℕ) → is_time (read_from f (10 ∷ line)) ≡ false
unfolding read_from read_on
feed_breaks f line = rw (stays_broken line)

no_feed_in : (f : Field) (line : List ℕ) → is_time (read_from f line) ≡ true → no_feed line ≡ true
unfolding read_from no_feed
no_feed_in f [] t = refl
no_feed_in f (b ∷ line) t = go (eqb b 10) refl (no_feed_in (read_on f b) line t)
  where
    go : (s : Bool) → eqb b 10 ≡ s → no_feed line ≡ true → cond s false (no_feed line) ≡ true
    go true e ih = let z : b ≡ 10 = eqb-true b 10 e in sym (feed_breaks f line) ∙ (rw z at t)
    go false e ih = ih

-- ---- lines

lines_cut : (line s : List ℕ) → no_feed line ≡ true → lines_of (line ++ (10 ∷ s)) ≡ line ∷ lines_of s
unfolding lines_of onto_first no_feed
lines_cut [] s n = refl
lines_cut (b ∷ line) s n = go (eqb b 10) n (lines_cut line s)
  where
    go : (t : Bool) → cond t false (no_feed line) ≡ true → (no_feed line ≡ true → lines_of (line ++ (10 ∷ s)) ≡ line ∷ lines_of s)
        → cond t ([] ∷ lines_of (line ++ (10 ∷ s))) (onto_first b (lines_of (line ++ (10 ∷ s)))) ≡ (b ∷ line) ∷ lines_of s
    go true m ih = let z : ◌≡◌ {A = ℕ} 0 1 = cc in absurd (omega arith)
    go false m ih = rw (ih m)

-- every line is six columns of a number
unfoldable pub all_numbers : List (List ℕ) → Bool
all_numbers [] = true
all_numbers (line ∷ lines) = six_columns line && all_numbers lines

six_no_feed : (line : List ℕ) → six_columns line ≡ true → no_feed line ≡ true
unfolding six_columns
six_no_feed line e = no_feed_in Spaces line (and_right (eqb (length line) 6) (is_time (field_in line)) e)

ended_cut : (lines : List (List ℕ)) (s : List ℕ) → all_numbers lines ≡ true → lines_of (ended lines ++ s) ≡ lines ++ lines_of s
unfolding ended all_numbers
ended_cut [] s a = refl
ended_cut (line ∷ lines) s a =
    let n = six_no_feed line (and_left (six_columns line) (all_numbers lines) a) in
    ap lines_of (append_assoc line (10 ∷ ended lines) s)
    ∙ lines_cut line (ended lines ++ s) n
    ∙ ap (λ (l : List (List ℕ)). line ∷ l) (ended_cut lines s (and_right (six_columns line) (all_numbers lines) a))

-- ---- stacks

six_not_blank : (line : List ℕ) → six_columns line ≡ true → is_blank line ≡ false
unfolding six_columns is_blank
six_not_blank [] e = sym e
six_not_blank (b ∷ line) e = refl

onto_stack : (lines more : List (List ℕ)) (top : List (List ℕ)) (below : List (List (List ℕ))) → all_numbers lines ≡ true
    → by_stacks more ≡ top ∷ below → by_stacks (lines ++ more) ≡ (lines ++ top) ∷ below
unfolding by_stacks at_top all_numbers
onto_stack [] more top below a e = e
onto_stack (line ∷ lines) more top below a e =
    let b = six_not_blank line (and_left (six_columns line) (all_numbers lines) a) in
    rw (b, onto_stack lines more top below (and_right (six_columns line) (all_numbers lines) a) e)

form_more : (lines more : List (List ℕ)) → all_numbers lines ≡ true → in_form more ≡ true → in_form (lines ++ more) ≡ true
unfolding in_form all_numbers
form_more [] more a e = e
form_more (line ∷ lines) more a e =
    let s = and_left (six_columns line) (all_numbers lines) a in
    and_both _ _ (or_second (is_blank line) (six_columns line) s) (form_more lines more (and_right (six_columns line) (all_numbers lines) a) e)

unfoldable pub all_by_stacks : List (List (List ℕ)) → Bool
all_by_stacks [] = true
all_by_stacks (stack ∷ stacks) = all_numbers stack && all_by_stacks stacks

-- what was put together is cut again
pub cut_again : (stack : List (List ℕ)) (stacks : List (List (List ℕ))) → all_by_stacks (stack ∷ stacks) ≡ true
    → (by_stacks (lines_of (text_of (stack ∷ stacks))) ≡ stack ∷ stacks) × (in_form (lines_of (text_of (stack ∷ stacks))) ≡ true)
unfolding text_of further all_by_stacks by_stacks lines_of is_blank in_form
cut_again stack [] a =
    let n = and_left (all_numbers stack) true a in
    let e = ended_cut stack [] n in
    rw e (onto_stack stack [] [] [] n refl ∙ ap (λ (l : List (List ℕ)). l ∷ []) (append-nil stack), form_more stack [] n refl)
cut_again stack (next ∷ stacks) a =
    let n = and_left (all_numbers stack) (all_by_stacks (next ∷ stacks)) a in
    let ih = cut_again next stacks (and_right (all_numbers stack) (all_by_stacks (next ∷ stacks)) a) in
    let rest = lines_of (ended next ++ further stacks) in
    let e = ended_cut stack (10 ∷ (ended next ++ further stacks)) n in
    rw e (
      onto_stack stack ([] ∷ rest) [] (by_stacks rest) n refl
          ∙ ap (λ (l : List (List ℕ)). l ∷ by_stacks rest) (append-nil stack)
          ∙ ap (λ (g : List (List (List ℕ))). stack ∷ g) ih.0,
      form_more stack ([] ∷ rest) n ih.1,
    )

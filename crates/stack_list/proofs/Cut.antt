-- A text cut into lines, and lines into stacks: line by line as the code reads them, and together again. The idea: the first line is what
-- stands before the first line feed, and after it the text goes on as a text. Assumes nothing.
use mathlib.Core.Path.{◌≡◌, refl, sym, ap, ◌∙◌}
use mathlib.Core.Bool.{Bool, true, false, cond, not}
use mathlib.Core.List.{List, [], ◌∷◌, ◌++◌, append_assoc}
use mathlib.Core.Logic.{◌⊎◌, inl, inr}
use Prim.Native.Nat.{ℕ, suc, ◌+◌, ◌≤◌, ◌<◌}
use native.Mathlib.Omega.{arith}
use borrow.Author.Tests.{ltb-false, eqb-true}
use lib.Dec.{eqb, ltb}
use lib.ListN.{length, take, drop, drop_of_length-le}
use lib.Seq.{drop-length}
use Rattle.std.specs.Prelude.{Some, None, unwrap_or, nat_lt}
use Rattle.std.specs.List.{position_or_len, position}
use Rattle.stack_list.specs.ListForm.{onto_first, lines_of, is_blank, at_top, by_stacks, ended, further, text_of}
use Rattle.stack_list.specs.Inner.Turns.{first_line}

-- ---- the first line

pub first_take : (s : List ℕ) → take (length (first_line s)) s ≡ first_line s
unfolding first_line
first_take [] = refl
first_take (b ∷ s) = go (eqb b 10) (first_take s)
  where
    go : (t : Bool) → take (length (first_line s)) s ≡ first_line s
        → take (length (cond t [] (b ∷ first_line s))) (b ∷ s) ≡ cond t [] (b ∷ first_line s)
    go true e = refl
    go false e = ap (λ (l : List ℕ). b ∷ l) e

pub first_within : (s : List ℕ) → length (first_line s) ≤ length s
unfolding first_line
first_within [] = omega arith
first_within (b ∷ s) = go (eqb b 10) (first_within s)
  where
    go : (t : Bool) → length (first_line s) ≤ length s → length (cond t [] (b ∷ first_line s)) ≤ suc (length s)
    go true h = omega arith
    go false h = omega arith

pub lines_step : (s : List ℕ) → 0 < length s → lines_of s ≡ first_line s ∷ lines_of (drop (suc (length (first_line s))) s)
unfolding lines_of first_line onto_first
lines_step [] h = absurd (omega arith)
lines_step (b ∷ s) h = go (eqb b 10) s (lines_step s)
  where
    go : (t : Bool) (s : List ℕ) → (0 < length s → lines_of s ≡ first_line s ∷ lines_of (drop (suc (length (first_line s))) s))
        → cond t ([] ∷ lines_of s) (onto_first b (lines_of s))
        ≡ cond t [] (b ∷ first_line s) ∷ lines_of (drop (suc (length (cond t [] (b ∷ first_line s)))) (b ∷ s))
    go true s ih = refl
    go false [] ih = refl
    go false (a ∷ s) ih = rw (ih (omega arith))

-- the text after a line and its line feed, which the last line may lack
pub after_line : (s : List ℕ) (end : ℕ) → drop (cond (ltb end (length s)) (suc end) (length s)) s ≡ drop (suc end) s
after_line s end = go (ltb end (length s)) refl
  where
    go : (t : Bool) → ltb end (length s) ≡ t → drop (cond t (suc end) (length s)) s ≡ drop (suc end) s
    go true e = refl
    go false e = let l : length s ≤ suc end = omega (arith, ltb-false end (length s) e) in drop-length s ∙ sym (drop_of_length-le s l)

-- ---- where the first line feed stands

before_feed : (s : List ℕ) → position_or_len (λ b. eqb b 10) s ≡ length (first_line s)
unfolding first_line
before_feed [] = refl
before_feed (b ∷ s) = go (eqb b 10) (before_feed s)
  where
    go : (t : Bool) → position_or_len (λ b. eqb b 10) s ≡ length (first_line s)
        → cond (not t) (1 + position_or_len (λ b. eqb b 10) s) 0 ≡ length (cond t [] (b ∷ first_line s))
    go true e = refl
    go false e = omega arith

-- or the text ends
pub feed_place : (s : List ℕ) → unwrap_or (position (λ b. eqb b 10) s) (length s) ≡ length (first_line s)
feed_place s = go (nat_lt (position_or_len (λ b. eqb b 10) s) (length s)) refl
  where
    go : (t : Bool) → nat_lt (position_or_len (λ b. eqb b 10) s) (length s) ≡ t
        → unwrap_or (cond t (Some (position_or_len (λ b. eqb b 10) s)) None) (length s) ≡ length (first_line s)
    go true e = before_feed s
    go false e = omega (arith, ltb-false (position_or_len (λ b. eqb b 10) s) (length s) e, before_feed s, first_within s)

-- ---- and together again

no_line : (s : List ℕ) → lines_of s ≡ [] → s ≡ []
unfolding lines_of onto_first
no_line [] e = refl
no_line (b ∷ s) e = go (eqb b 10) (lines_of s) e
  where
    go : (t : Bool) (ls : List (List ℕ)) → cond t ([] ∷ ls) (onto_first b ls) ≡ [] → b ∷ s ≡ []
    go true ls e = cc
    go false [] e = cc
    go false (l ∷ ls) e = cc

pub some_stack : (ls : List (List ℕ)) → 0 < length (by_stacks ls)
unfolding by_stacks is_blank at_top
some_stack [] = omega arith
some_stack (l ∷ ls) = go l (by_stacks ls)
  where
    go : (l : List ℕ) (G : List (List (List ℕ))) → 0 < length (cond (is_blank l) ([] ∷ G) (at_top l G))
    go [] G = omega arith
    go (b ∷ l) [] = omega arith
    go (b ∷ l) (g ∷ gs) = omega arith

-- lines by stacks, as text, are the lines one after another
pub stacks_together : (ls : List (List ℕ)) → text_of (by_stacks ls) ≡ ended ls
unfolding by_stacks text_of ended further is_blank at_top
stacks_together [] = refl
stacks_together (l ∷ ls) = go l (by_stacks ls) (some_stack ls) (stacks_together ls)
  where
    go : (l : List ℕ) (G : List (List (List ℕ))) → 0 < length G → text_of G ≡ ended ls
        → text_of (cond (is_blank l) ([] ∷ G) (at_top l G)) ≡ l ++ (10 ∷ ended ls)
    go l [] n e = absurd (omega arith)
    go [] (g ∷ gs) n e = ap (λ (s : List ℕ). 10 ∷ s) e
    go (b ∷ l) (g ∷ gs) n e =
        append_assoc (b ∷ l) (10 ∷ ended g) (further gs) ∙ ap (λ (s : List ℕ). (b ∷ l) ++ (10 ∷ s)) e

-- the lines of a text, each with its line feed, are the text, with the last line feed where it was missing
pub lines_together : (s : List ℕ) → (ended (lines_of s) ≡ s) ⊎ (ended (lines_of s) ≡ s ++ (10 ∷ []))
unfolding lines_of onto_first ended
lines_together [] = inl refl
lines_together (b ∷ s) = go (eqb b 10) refl (lines_of s) (lines_together s) (no_line s)
  where
    go : (t : Bool) → eqb b 10 ≡ t → (ls : List (List ℕ)) → (ended ls ≡ s) ⊎ (ended ls ≡ s ++ (10 ∷ [])) → (ls ≡ [] → s ≡ [])
        → (ended (cond t ([] ∷ ls) (onto_first b ls)) ≡ b ∷ s) ⊎ (ended (cond t ([] ∷ ls) (onto_first b ls)) ≡ b ∷ (s ++ (10 ∷ [])))
    go true e ls (inl p) n = let q = eqb-true b 10 e in inl (rw (q, p))
    go true e ls (inr p) n = let q = eqb-true b 10 e in inr (rw (q, p))
    go false e [] p n = let q : s ≡ [] = n refl in inr (rw q)
    go false e (l ∷ ls) (inl p) n = inl (ap (λ (u : List ℕ). b ∷ u) p)
    go false e (l ∷ ls) (inr p) n = inr (ap (λ (u : List ℕ). b ∷ u) p)

-- An import line by line, whatever a store is: what is left to import gives what the whole does. Assumes nothing.
use Rattle.std.specs.Prelude.{Option as Maybe, Some, None, MatchOption}
use mathlib.Core.Path.{◌≡◌, refl, sym, ap, ◌∙◌}
use mathlib.Core.Bool.{Bool, true, false, cond, ◌&&◌}
use mathlib.Core.Option.{Option, none, some}
use mathlib.Core.List.{List, [], ◌∷◌}
use Prim.Native.Nat.{ℕ, suc, ◌+◌, ◌≤◌, ◌<◌}
use native.Mathlib.Decide.{ℕ_discrete}
use native.Mathlib.Numerals.{add-one}
use native.Mathlib.Omega.{arith}
use lib.Dec.{eqb}
use lib.ListN.{length, get_or, drop}
use lib.Seq.{drop-cons, drop-length}
use borrow.Author.Tests.{ne_eqb}
use Rattle.lift_text.specs.Text.{Told}
use Rattle.csv_text.specs.declared.Line.{Line}
use Rattle.csv_text.specs.Grammar.{onto_first, lines_of, has_heading, after_first}
use Rattle.csv_text.specs.Inner.Reading.{first_record, told_by, LineRead, HeadingRead}
use Rattle.import.specs.Fold.{Imported, bad_form, line_number, line_after, import_lines, import_text}
use Rattle.import.specs.Inner.Lines.{told_or, imported}

-- ---- the lines of a text

onto_some : (b : ℕ) (ls : List (List ℕ)) → onto_first b ls ≡ [] → ⊥
unfolding onto_first
onto_some b [] e = absurd (omega (arith, ap length e))
onto_some b (l ∷ ls) e = absurd (omega (arith, ap length e))

lines_some : (b : ℕ) (bs : List ℕ) → lines_of (b ∷ bs) ≡ [] → ⊥
unfolding lines_of
lines_some b [] e = absurd (omega (arith, ap length e))
lines_some b (c ∷ rest) e = go (eqb b 13) (eqb c 10) e
  where
    go : (p q : Bool) → cond (p && q) ([] ∷ lines_of rest) (onto_first b (lines_of (c ∷ rest))) ≡ [] → ⊥
    go true true f = absurd (omega (arith, ap length f))
    go true false f = onto_some b (lines_of (c ∷ rest)) f
    go false q f = onto_some b (lines_of (c ∷ rest)) f

-- before its end a text has a line more
lines_there : (text : List ℕ) (at : ℕ) → at < length text → lines_of (drop at text) ≡ [] → ⊥
lines_there text at h e = lines_some (get_or text at 0) (drop (suc at) text) (ap lines_of (sym (drop-cons text at 0 h)) ∙ e)

lines_over : (text : List ℕ) (at : ℕ) → length text ≡ at → lines_of (drop at text) ≡ []
unfolding lines_of
lines_over text at e = rw (← e, drop-length text)

-- what is read of a line is its record
told_read : (text : List ℕ) (at : ℕ) (o : Maybe Line) → MatchOption o (first_record (lines_of (drop at text)) ≡ none) (LineRead text at)
    → first_record (lines_of (drop at text)) ≡ told_or o
told_read text at None r = r
told_read text at (Some l) r = r.says

-- ---- line by line

module _ {X : Type 0} (before : X → ℕ) (number : X → Told → ℕ) (after : X → Told → X) where
  first_ends : (line : ℕ) (ls : List (List ℕ)) (x : X) → (ls ≡ [] → ⊥) → (n : ℕ) → n ≡ line_number before number after x (first_record ls)
      → (n ≡ 0 → ⊥) → imported n line x ≡ import_lines before number after line ls x
  unfolding import_lines
  first_ends line [] x there n e f = absurd (there refl)
  first_ends line (l ∷ ls) x there n e f = rw (← e, ne_eqb n 0 f)

  first_goes_in : (line : ℕ) (ls : List (List ℕ)) (x : X) → (ls ≡ [] → ⊥) → line_number before number after x (first_record ls) ≡ 0
      → import_lines before number after (suc line) (after_first ls) (line_after before number after x (first_record ls))
      ≡ import_lines before number after line ls x
  unfolding import_lines
  first_goes_in line [] x there e = absurd (there refl)
  first_goes_in line (l ∷ ls) x there e = rw e

  -- a bad record has a number
  bad_some : (x : X) → cond (eqb (before x) 0) 18 (before x) ≡ 0 → ⊥
  bad_some x e = go (ℕ_discrete (before x) 0)
    where
      go : Dec (before x ≡ 0) → ⊥
      go (yes z) = absurd (omega (arith, rw z at e))
      go (no f) = f (rw (ne_eqb (before x) 0 f) at e)

  module _ (text : List ℕ) where
    -- from a place and a line on
    pub record Imports (whole : Imported X) (at line : ℕ) (x : X) : Type 0 where
      pub leads : import_lines before number after line (lines_of (drop at text)) x ≡ whole
      pub inside : at ≤ length text
      pub few : line ≤ at

    module _ (whole : Imported X) (at line : ℕ) (x : X) (i : Imports whole at line x) where
      pub all_in : length text ≤ at → imported 0 0 x ≡ whole
      unfolding import_lines
      all_in h = sym (rw (lines_over text at (omega (arith, i.inside)))) ∙ i.leads

      line_kept : (o : Option Told) → ((r : Told) → (number x r ≡ 0 → ⊥) → after x r ≡ x)
          → (line_number before number after x o ≡ 0 → ⊥) → line_after before number after x o ≡ x
      line_kept none keeps f = refl
      line_kept (some r) keeps f = keeps r f

      module _ (more : at < length text) where
        -- the first line from here ends it, by its number
        ends_so : (n : ℕ) → n ≡ line_number before number after x (first_record (lines_of (drop at text))) → (n ≡ 0 → ⊥)
            → imported n line x ≡ whole
        ends_so n e f = first_ends line (lines_of (drop at text)) x (lines_there text at more) n e f ∙ i.leads

        -- a bad record
        pub bad_here : first_record (lines_of (drop at text)) ≡ none → (n : ℕ) → n ≡ cond (eqb (before x) 0) bad_form (before x)
            → imported n line x ≡ whole
        bad_here e n n_is = ends_so n (rw e n_is) (λ z. bad_some x (sym n_is ∙ z))

        -- a line is read, n is its number and y the store after it
        module _ (o : Maybe Line) (r : MatchOption o (first_record (lines_of (drop at text)) ≡ none) (LineRead text at)) (n : ℕ) (y : X)
            (n_is : n ≡ line_number before number after x (told_or o)) (y_is : y ≡ line_after before number after x (told_or o)) where
          -- "only earlier ones remain": a refused append leaves the store as it was
          pub ends_here : ((r : Told) → (number x r ≡ 0 → ⊥) → after x r ≡ x) → (n ≡ 0 → ⊥) → imported n line y ≡ whole
          ends_here keeps f =
              ap (λ (z : X). imported n line z) (y_is ∙ line_kept (told_or o) keeps (λ e. f (n_is ∙ e)))
              ∙ ends_so n (n_is ∙ ap (line_number before number after x) (sym (told_read text at o r))) f

        -- a record is read, n is the number of its append and y the store after it
        module _ (l : Line) (r : LineRead text at l) (n : ℕ) (y : X) (n_is : n ≡ number x (told_by l)) (y_is : y ≡ after x (told_by l)) where
          number_is : n ≡ line_number before number after x (first_record (lines_of (drop at text)))
          number_is = n_is ∙ ap (line_number before number after x) (sym r.says)

          pub goes_in : n ≡ 0 → Imports whole l.next (line + 1) y
          goes_in z =
              let step = first_goes_in line (lines_of (drop at text)) x (lines_there text at more) (sym number_is ∙ z) in
              record {
                leads = rw (add-one line, y_is ∙ ap (line_after before number after x) (sym r.says), ← r.on) (step ∙ i.leads);
                inside = r.inside;
                few = omega (arith, i.few, r.further);
              }

    -- the first line behind the header is line 2
    pub begins : (from : ℕ) (x : X) → 2 ≤ from → from ≤ length text
        → Imports (import_lines before number after 2 (lines_of (drop from text)) x) from 2 x
    begins from x a b = record { leads = refl; inside = b; few = a }

    -- ---- the whole text

    module _ (x : X) where
      pub text_refused : (n : ℕ) → n ≡ before x → (n ≡ 0 → ⊥) → imported n 0 x ≡ import_text before number after text x
      unfolding import_text
      text_refused n e f = rw (← e, ne_eqb n 0 f)

      module _ (z : before x ≡ 0) where
        pub heading_bad : has_heading (lines_of text) ≡ false → imported bad_form 1 x ≡ import_text before number after text x
        unfolding import_text
        heading_bad f = rw (z, f)

        pub heading_good : {next : ℕ} → HeadingRead text next
            → import_lines before number after 2 (lines_of (drop next text)) x ≡ import_text before number after text x
        unfolding import_text
        heading_good r = rw (z, r.is, ← r.on)

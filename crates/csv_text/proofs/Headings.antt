-- The header at a text's start, and the first line that it is. Assumes nothing.
use mathlib.Core.Path.{◌≡◌, refl, sym, ap, ◌∙◌}
use mathlib.Core.Bool.{Bool, true, false, false≢true}
use mathlib.Core.List.{List, [], ◌∷◌, ◌++◌}
use Prim.Native.Nat.{ℕ}
use native.Mathlib.Omega.{arith}
use borrow.Author.Tests.{eqb-true, eq-eqb}
use lib.Dec.{eqb}
use lib.ListN.{drop}
use Rattle.lift_text.specs.Text.{heading}
use Rattle.codec.proofs.Truth.{and_parts}
use Rattle.std.specs.Prelude.{Option, Some, None, MatchOption}
use Rattle.std.specs.List.{starts_with}
use Rattle.std.proofs.lemmas.Bool.Decides.{Decides-eqb}
use Rattle.std.proofs.lemmas.Slice.Eq.{starts_is}
use Rattle.csv_text.specs.Grammar.{lines_of, same, has_heading}
use Rattle.csv_text.specs.Inner.Reading.{HeadingRead}
use Rattle.csv_text.specs.Inner.Descent.{ends, behind_end, EndPassed}
use Rattle.csv_text.proofs.Cutting.{Free, line_cut, first_line_lem}
use Rattle.codec.proofs.Lists.{AllOf}

-- ---- the first line

same_bytes : (a b : List ℕ) → same a b ≡ true → a ≡ b
unfolding same
same_bytes [] [] e = refl
same_bytes [] (b ∷ bs) e = absurd (false≢true e)
same_bytes (a ∷ rest) [] e = absurd (false≢true e)
same_bytes (a ∷ rest) (b ∷ bs) e =
    let t = and_parts (eqb a b) (same rest bs) e in
    rw (eqb-true a b t.0, same_bytes rest bs t.1)

pub same_self : (a : List ℕ) → same a a ≡ true
unfolding same
same_self [] = refl
same_self (a ∷ rest) = rw (eq-eqb a a refl, same_self rest)

-- no CR in it
heading_free : AllOf (Free 13) heading
heading_free = (refl, (refl, (refl, (refl, (refl, (refl, (refl, (refl, (refl, (refl, (refl, (refl, (refl, (refl, (refl, (refl, tt))))))))))))))))

pub heading_cut : (bytes : List ℕ) → ends bytes ≡ true → lines_of (heading ++ bytes) ≡ heading ∷ lines_of (behind_end bytes)
heading_cut bytes e = line_cut heading bytes (omega arith) heading_free e

-- a text whose first line it is
heading_there : (text : List ℕ) → has_heading (lines_of text) ≡ true → (bytes : List ℕ) × ((text ≡ heading ++ bytes) × (ends bytes ≡ true))
unfolding lines_of
heading_there [] e = absurd (false≢true e)
heading_there (b ∷ text) e =
    let f = first_line_lem b text in
    let s : same f.line heading ≡ true = rw f.cut at e in
    (f.behind, (f.whole ∙ ap (λ (l : List ℕ). l ++ f.behind) (same_bytes f.line heading s), f.end))

-- the code's test of the header's bytes
module _ (text : List ℕ) (t : Bool) (e : t ≡ starts_with eqb text heading) where
  pub no_bytes : t ≡ false → has_heading (lines_of text) ≡ false
  no_bytes f = go (has_heading (lines_of text)) refl
    where
      go : (h : Bool) → has_heading (lines_of text) ≡ h → h ≡ false
      go true q = let p = heading_there text q in absurd (false≢true (sym f ∙ (starts_is Decides-eqb text heading t e).1 p.0 p.1.0))
      go false q = refl

  module _ (y : t ≡ true) where
    starts : text ≡ heading ++ drop 16 text
    starts = (starts_is Decides-eqb text heading t e).0 y

    no_end : ends (drop 16 text) ≡ false → has_heading (lines_of text) ≡ false
    no_end k = go (has_heading (lines_of text)) refl
      where
        go : (h : Bool) → has_heading (lines_of text) ≡ h → h ≡ false
        go true q = let p = heading_there text q in absurd (false≢true (sym k ∙ ap ends (ap (drop 16) p.1.0) ∙ p.1.1))
        go false q = refl

    heading_read : (next : ℕ) → EndPassed text 16 next → HeadingRead text next
    heading_read next p =
        let cut : lines_of text ≡ heading ∷ lines_of (behind_end (drop 16 text)) = ap lines_of starts ∙ heading_cut (drop 16 text) p.there in
        record {
          is = rw cut (same_self heading);
          on = rw cut (ap lines_of (sym p.behind));
          inside = p.inside;
          past = omega (arith, p.from);
        }

    pub heading_after : (o : Option ℕ) → MatchOption o (ends (drop 16 text) ≡ false) (EndPassed text 16)
        → MatchOption o (has_heading (lines_of text) ≡ false) (HeadingRead text)
    heading_after (Some next) p = heading_read next p
    heading_after None k = no_end k

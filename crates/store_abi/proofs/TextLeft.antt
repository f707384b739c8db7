-- What an export and an import over areas leave, from what their inner functions gave. Assumes nothing.
use mathlib.Core.Path.{◌≡◌, sym, ap, ◌∙◌}
use mathlib.Core.Bool.{cond}
use mathlib.Core.List.{List}
use Prim.Native.Nat.{ℕ}
use lib.Dec.{eqb}
use lib.ListN.{length}
use borrow.Author.Tests.{eq-eqb, ne_eqb}
use Rattle.codec.specs.Area.{splice}
use Rattle.codec.specs.Number.{bytes}
use Rattle.codec.proofs.Areas.{splice_all}
use Rattle.codec.proofs.Numbers.{length_bytes}
use Rattle.export.specs.Answers.{ExportAnswer}
use Rattle.import.specs.Fold.{Imported}
use Rattle.import.specs.Inner.Lines.{imported}
use Rattle.kept.specs.Kept.{kept}
use Rattle.areas.specs.Areas.{replied, left_after}

-- a refusal keeps nothing
pub kept_not : (n : ℕ) → (n ≡ 0 → ⊥) → (new old : List ℕ) → old ≡ kept n new old
kept_not n h new old = rw (ne_eqb n 0 h)

-- the length of the text
pub export_left : (o : ExportAnswer) (n long : ℕ) (text answer answer' : List ℕ)
    → ◌≡◌ {A = ExportAnswer} (record { number = n; long = long; area = text }) o → answer' ≡ kept n (bytes 8 long) answer
    → replied n text answer' ≡ replied o.number o.area (kept o.number (bytes 8 o.long) answer)
export_left o n long text answer answer' e f = rw (f, ← e)

-- the line, whatever the number is
pub import_left : {X : Type 0} (o : Imported X) (n line : ℕ) (x : X) (answer answer' : List ℕ) → imported n line x ≡ o → length answer ≡ 8
    → answer' ≡ splice answer 0 (bytes 8 line) → left_after n x answer' ≡ left_after o.number o.left (bytes 8 o.line)
import_left o n line x answer answer' e h f =
    rw (f ∙ splice_all answer (bytes 8 line) (length_bytes 8 line ∙ sym h), ← e)

-- an answer of 8 bytes, beside the areas of state and counts
pub third_wrong : {A : Type 0} (m : ℕ) (a b : A) → (m ≡ 8 → ⊥) → b ≡ cond (eqb m 8) a b
third_wrong m a b h = sym (ap (λ t. cond t a b) (ne_eqb m 8 h))

pub third_right : {A : Type 0} (m : ℕ) (a b : A) → m ≡ 8 → a ≡ cond (eqb m 8) a b
third_right m a b h = sym (ap (λ t. cond t a b) (eq-eqb m 8 h))

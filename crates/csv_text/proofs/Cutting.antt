-- A text cut into lines at CRLF, and a line into fields at commas: what the pieces are, and that together they are the whole.
-- Assumes nothing.
use mathlib.Core.Path.{◌≡◌, refl, sym, ap, ◌∙◌}
use mathlib.Core.Bool.{Bool, true, false, ◌&&◌, false≢true}
use mathlib.Core.List.{List, [], ◌∷◌, ◌++◌}
use Prim.Native.Nat.{ℕ, ◌≤◌}
use native.Mathlib.Omega.{arith}
use lib.Dec.{eqb}
use lib.ListN.{length}
use borrow.Author.Tests.{eqb-true}
use Rattle.codec.proofs.Truth.{and_false}
use Rattle.codec.proofs.Lists.{AllOf}
use Rattle.lift_text.specs.Text.{comma}
use Rattle.csv_text.specs.Grammar.{onto_first, lines_of, fields_of}
use Rattle.csv_text.specs.Inner.Descent.{ends, behind_end}

-- a byte that is not n
abbrev pub Free : ℕ → ℕ → Type 0
Free n b = eqb b n ≡ false

-- ---- lines

line_byte : (b : ℕ) (bytes : List ℕ) → Free 13 b → lines_of (b ∷ bytes) ≡ onto_first b (lines_of bytes)
unfolding lines_of onto_first
line_byte b [] e = refl
line_byte b (c ∷ bytes) e = rw e

last_byte : (b : ℕ) (bytes : List ℕ) → ends bytes ≡ true → onto_first b (lines_of bytes) ≡ (b ∷ []) ∷ lines_of (behind_end bytes)
unfolding lines_of onto_first ends behind_end
last_byte b [] e = refl
last_byte b (c ∷ []) e = absurd (false≢true (sym (and_false (eqb c 13)) ∙ e))
last_byte b (c ∷ d ∷ bytes) e = rw e

-- a line without CR is the first, where it ends
pub line_cut : (line bytes : List ℕ) → 1 ≤ length line → AllOf (Free 13) line → ends bytes ≡ true
    → lines_of (line ++ bytes) ≡ line ∷ lines_of (behind_end bytes)
unfolding onto_first
line_cut [] bytes h a e = absurd (omega arith)
line_cut (b ∷ []) bytes h a e = line_byte b bytes a.0 ∙ last_byte b bytes e
line_cut (b ∷ c ∷ line) bytes h a e =
    line_byte b (c ∷ line ++ bytes) a.0 ∙ ap (onto_first b) (line_cut (c ∷ line) bytes (omega arith) a.1 e)

-- bytes begin with a line that ends
pub record FirstLine (bytes : List ℕ) : Type 0 where
  pub line : List ℕ
  pub lines : List (List ℕ)
  pub behind : List ℕ
  pub cut : lines_of bytes ≡ line ∷ lines
  pub whole : bytes ≡ line ++ behind
  pub end : ends behind ≡ true

pub first_line_lem : (b : ℕ) (bytes : List ℕ) → FirstLine (b ∷ bytes)
unfolding lines_of onto_first ends
first_line_lem b [] = record { line = b ∷ []; lines = []; behind = []; cut = refl; whole = refl; end = refl }
first_line_lem b (c ∷ bytes) = go (eqb b 13 && eqb c 10) refl (first_line_lem c bytes)
  where
    go : (t : Bool) → (eqb b 13 && eqb c 10) ≡ t → FirstLine (c ∷ bytes) → FirstLine (b ∷ c ∷ bytes)
    go true e f = record { line = []; lines = lines_of bytes; behind = b ∷ c ∷ bytes; cut = rw e; whole = refl; end = e }
    go false e f = record {
      line = b ∷ f.line;
      lines = f.lines;
      behind = f.behind;
      cut = rw (e, f.cut);
      whole = ap (λ (l : List ℕ). b ∷ l) f.whole;
      end = f.end;
    }

-- ---- fields

-- fields with commas between them
unfoldable pub joined : List (List ℕ) → List ℕ
joined [] = []
joined (f ∷ []) = f
joined (f ∷ g ∷ fields) = f ++ (comma ∷ joined (g ∷ fields))

-- a field without comma is the first before a comma, and the only one before the end
pub field_cut : (field bytes : List ℕ) → AllOf (Free 44) field → fields_of (field ++ (comma ∷ bytes)) ≡ field ∷ fields_of bytes
unfolding fields_of onto_first
field_cut [] bytes a = refl
field_cut (b ∷ field) bytes a = rw (a.0, field_cut field bytes a.1)

pub last_field : (field : List ℕ) → AllOf (Free 44) field → fields_of field ≡ field ∷ []
unfolding fields_of onto_first
last_field [] a = refl
last_field (b ∷ field) a = rw (a.0, last_field field a.1)

record Fields (bytes : List ℕ) : Type 0 where
  pub first : List ℕ
  pub more : List (List ℕ)
  pub cut : fields_of bytes ≡ first ∷ more
  pub whole : joined (first ∷ more) ≡ bytes

onto_joined : (b : ℕ) (first : List ℕ) (more : List (List ℕ)) → joined ((b ∷ first) ∷ more) ≡ b ∷ joined (first ∷ more)
unfolding joined
onto_joined b first [] = refl
onto_joined b first (g ∷ more) = refl

fields_of_lem : (bytes : List ℕ) → Fields bytes
unfolding fields_of onto_first joined
fields_of_lem [] = record { first = []; more = []; cut = refl; whole = refl }
fields_of_lem (b ∷ bytes) = go (eqb b comma) refl (fields_of_lem bytes)
  where
    go : (t : Bool) → eqb b comma ≡ t → Fields bytes → Fields (b ∷ bytes)
    go true e f = record {
      first = [];
      more = f.first ∷ f.more;
      cut = rw (e, f.cut);
      whole = rw (f.whole, eqb-true b comma e);
    }
    go false e f = record {
      first = b ∷ f.first;
      more = f.more;
      cut = rw (e, f.cut);
      whole = onto_joined b f.first f.more ∙ ap (λ (l : List ℕ). b ∷ l) f.whole;
    }

pub fields_joined : (bytes : List ℕ) → joined (fields_of bytes) ≡ bytes
fields_joined bytes = let f = fields_of_lem bytes in ap joined f.cut ∙ f.whole

-- A list of stacks as text (document 02, W-205): "one plate in 6 columns per line, top first, a blank line between stacks".
-- Assumes nothing.
use Rattle.std.specs.Prelude.{Bool, true, false, cond, ◌&&◌, ◌||◌, List, [], ◌∷◌, ◌++◌, map, ℕ, leb, eqb, length}
use Rattle.plate.specs.Stack.{is_stack}
use Rattle.lines.specs.Columns.{field_in, value_of, is_time}
use Rattle.lines.specs.Forms.{line_feed}
use Rattle.answers.specs.Printed.{number}

-- ---- reading

-- a byte more at the front of the first line
unfoldable pub onto_first : ℕ → List (List ℕ) → List (List ℕ)
onto_first b [] = (b ∷ []) ∷ []
onto_first b (line ∷ lines) = (b ∷ line) ∷ lines

-- the lines of a text, without their line feeds; the last line feed may be missing
unfoldable pub lines_of : List ℕ → List (List ℕ)
lines_of [] = []
lines_of (b ∷ bs) = cond (eqb b line_feed) ([] ∷ lines_of bs) (onto_first b (lines_of bs))

unfoldable pub is_blank : List ℕ → Bool
is_blank [] = true
is_blank (b ∷ bs) = false

-- a line more at the top of the first stack
unfoldable pub at_top : List ℕ → List (List (List ℕ)) → List (List (List ℕ))
at_top line [] = (line ∷ []) ∷ []
at_top line (stack ∷ stacks) = (line ∷ stack) ∷ stacks

-- lines by stacks: a blank line ends one and begins the next
unfoldable pub by_stacks : List (List ℕ) → List (List (List ℕ))
by_stacks [] = [] ∷ []
by_stacks (line ∷ lines) = cond (is_blank line) ([] ∷ by_stacks lines) (at_top line (by_stacks lines))

-- "one plate in 6 columns": spaces, then digits
unfoldable pub six_columns : List ℕ → Bool
six_columns line = eqb (length line) 6 && is_time (field_in line)

abbrev pub plate_in : List ℕ → ℕ
plate_in line = value_of (field_in line)

-- each line is a plate's, or blank
unfoldable pub in_form : List (List ℕ) → Bool
in_form [] = true
in_form (line ∷ lines) = (is_blank line || six_columns line) && in_form lines

-- the stacks that a text lists
abbrev pub stacks_in : List ℕ → List (List ℕ)
stacks_in text = map (map plate_in) (by_stacks (lines_of text))

-- "a list of 1 to 16 stacks"; a blank line too many makes a stack of no plates
abbrev pub most_stacks : ℕ
most_stacks = 16

unfoldable pub all_stacks : List (List ℕ) → Bool
all_stacks [] = true
all_stacks (stack ∷ stacks) = is_stack stack && all_stacks stacks

unfoldable pub in_sizes : List (List ℕ) → Bool
in_sizes stacks = (leb 1 (length stacks) && leb (length stacks) most_stacks) && all_stacks stacks

unfoldable pub is_list : List ℕ → Bool
is_list text = in_form (lines_of text) && in_sizes (stacks_in text)

-- ---- printing

-- lines, each with its line feed
unfoldable pub ended : List (List ℕ) → List ℕ
ended [] = []
ended (line ∷ lines) = line ++ (line_feed ∷ ended lines)

-- the stacks after the first, each after a blank line
unfoldable pub further : List (List (List ℕ)) → List ℕ
further [] = []
further (stack ∷ stacks) = line_feed ∷ (ended stack ++ further stacks)

-- the text of lines by stacks
unfoldable pub text_of : List (List (List ℕ)) → List ℕ
text_of [] = []
text_of (stack ∷ stacks) = ended stack ++ further stacks

-- numbers by stacks "in that form"
abbrev pub list_text : List (List ℕ) → List ℕ
list_text stacks = text_of (map (map (number 6)) stacks)

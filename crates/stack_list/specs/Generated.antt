-- What the generator prints (document 02, W-205 and W-206). Assumes nothing.
use Rattle.std.specs.Prelude.{cond, List, [], ◌∷◌, map, ℕ}
use Rattle.plate.specs.Stack.{ends_of}
use Rattle.stack_list.specs.ListForm.{is_list, stacks_in, list_text}

-- "the generator prints 15 alone": 49 and 53 are its digits, 10 the line feed
abbrev pub refusal : List ℕ
refusal = 49 ∷ 53 ∷ 10 ∷ []

-- "prints in that form the ends that the lookup carries"; 15 for "a stack list of another form or outside these sizes"
unfoldable pub generated : List ℕ → List ℕ
generated text = cond (is_list text) (list_text (map ends_of (stacks_in text))) refusal

-- The generator by computation: two stacks, the second without its last line feed, and texts of another form or outside the sizes.
-- Assumes nothing.
use mathlib.Core.Path.{◌≡◌, refl}
use mathlib.Core.Bool.{Bool, true, false, cond}
use mathlib.Core.List.{List, [], ◌∷◌}
use Prim.Native.Nat.{ℕ}
use Rattle.codec.specs.Area.{repeated}
use Rattle.plate.specs.Total.{total}
use Rattle.plate.specs.Stack.{all_plates, is_stack, sum_down_to, last_end, end_of, ends_from, ends_of}
use Rattle.lines.specs.Columns.{read_on, read_from}
use Rattle.answers.specs.Printed.{digits_within, digits, justified}
use Rattle.stack_list.specs.ListForm.{
  onto_first,
  lines_of,
  is_blank,
  at_top,
  by_stacks,
  six_columns,
  in_form,
  all_stacks,
  in_sizes,
  is_list,
  ended,
  further,
  text_of,
}
use Rattle.stack_list.specs.Generated.{generated}

-- plates of 101 and 101, then one of 5,000: 50, halfway from 101 to 202 rounded down, and half of 101 above 202; 2,500 and 7,500
pub two_stacks :
    generated (32 ∷ 32 ∷ 32 ∷ 49 ∷ 48 ∷ 49 ∷ 10 ∷ 48 ∷ 48 ∷ 48 ∷ 49 ∷ 48 ∷ 49 ∷ 10 ∷ 10 ∷ 32 ∷ 32 ∷ 53 ∷ 48 ∷ 48 ∷ 48 ∷ [])
    ≡ 32 ∷ 32 ∷ 32 ∷ 32 ∷ 53 ∷ 48 ∷ 10 ∷ 32 ∷ 32 ∷ 32 ∷ 49 ∷ 53 ∷ 49 ∷ 10 ∷ 32 ∷ 32 ∷ 32 ∷ 50 ∷ 53 ∷ 50 ∷ 10 ∷ 10
    ∷ 32 ∷ 32 ∷ 50 ∷ 53 ∷ 48 ∷ 48 ∷ 10 ∷ 32 ∷ 32 ∷ 55 ∷ 53 ∷ 48 ∷ 48 ∷ 10 ∷ []
unfolding generated is_list in_form lines_of onto_first is_blank at_top by_stacks six_columns in_sizes all_stacks is_stack all_plates read_from read_on ends_of ends_from end_of last_end sum_down_to total text_of ended further justified digits digits_within repeated
two_stacks = refl

-- 15 alone for each
unfoldable pub all_refused : List (List ℕ) → Bool
all_refused [] = true
all_refused (text ∷ texts) = cond (is_list text) false (all_refused texts)

pub other_forms :
    all_refused
    (
    []
    ∷ (10 ∷ 32 ∷ 32 ∷ 32 ∷ 53 ∷ 48 ∷ 48 ∷ 10 ∷ [])
    ∷ (32 ∷ 32 ∷ 32 ∷ 53 ∷ 48 ∷ 48 ∷ 10 ∷ 10 ∷ 10 ∷ 32 ∷ 32 ∷ 32 ∷ 53 ∷ 48 ∷ 48 ∷ 10 ∷ [])
    ∷ (32 ∷ 32 ∷ 32 ∷ 53 ∷ 48 ∷ 48 ∷ 10 ∷ 10 ∷ [])
    ∷ (32 ∷ 32 ∷ 32 ∷ 53 ∷ 48 ∷ 48 ∷ 13 ∷ 10 ∷ [])
    ∷ (32 ∷ 32 ∷ 32 ∷ 32 ∷ 32 ∷ 32 ∷ 10 ∷ [])
    ∷ (32 ∷ 32 ∷ 53 ∷ 48 ∷ 48 ∷ 10 ∷ [])
    ∷ (32 ∷ 32 ∷ 32 ∷ 32 ∷ 53 ∷ 48 ∷ 48 ∷ 10 ∷ [])
    ∷ (32 ∷ 32 ∷ 45 ∷ 53 ∷ 48 ∷ 48 ∷ 10 ∷ [])
    ∷ (32 ∷ 32 ∷ 32 ∷ 32 ∷ 57 ∷ 57 ∷ 10 ∷ [])
    ∷ (32 ∷ 32 ∷ 53 ∷ 48 ∷ 48 ∷ 49 ∷ 10 ∷ [])
    ∷ []
    )
    ≡ true
unfolding all_refused is_list in_form lines_of onto_first is_blank at_top by_stacks six_columns in_sizes all_stacks is_stack all_plates read_from read_on
other_forms = refl

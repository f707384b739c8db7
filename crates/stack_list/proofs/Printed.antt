-- What the generator prints for a text, by what was read of it. Assumes nothing.
use mathlib.Core.Path.{◌≡◌}
use mathlib.Core.Bool.{false}
use mathlib.Core.List.{List}
use Prim.Native.Nat.{ℕ}
use Rattle.stack_list.specs.ListForm.{is_list}
use Rattle.stack_list.specs.Generated.{refusal, generated}
use Rattle.stack_list.specs.Inner.Turns.{end_lines, Listed}
use Rattle.stack_list.proofs.PrintTurns.{ends_printed}

pub nothing_read : (text : List ℕ) → is_list text ≡ false → refusal ≡ generated text
unfolding generated
nothing_read text e = rw e

pub list_printed : (text numbers : List ℕ) → Listed text numbers → end_lines 0 0 numbers ≡ generated text
unfolding generated
list_printed text numbers v = rw (v.is, v.each) (ends_printed text v.is)

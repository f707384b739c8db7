-- `lift_text::put_digits` meets its contract. The invariant: whoever writes what is left has written the whole.
use mathlib.Core.Path.{◌≡◌}
use mathlib.Core.List.{List}
use Prim.Native.Nat.{ℕ, ◌≤◌}
use lib.ListN.{length}
use Rattle.answers.specs.Printed.{digits}
use Rattle.lift_text.specs.Inner.Before.{PutBefore}
use Rattle.lift_text.proofs.put_digits.Given as goal

abbrev pub invariant-loop-rest : goal.invariant-loop-rest
invariant-loop-rest l =
    (length (digits l.rest) ≤ l.to) × ((l.to ≤ length l.area) × ((length l.area ≡ length l.initial.area)
    × ((new : List ℕ) (r : ℕ) → PutBefore l.area new (digits l.rest) l.to r → PutBefore l.initial.area new (digits l.v) l.end r)))

abbrev pub decreases-loop-rest : goal.decreases-loop-rest
decreases-loop-rest l = l.rest

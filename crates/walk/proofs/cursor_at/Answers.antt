-- `walk::cursor_at` meets its contract.
use mathlib.Core.Path.{ap}
use mathlib.Core.Bool.{true}
use Rattle.skiplist.specs.declared.Pointer.{Pointer}
use Rattle.walk.proofs.cursor_at.Goals as goal

pub returns : goal.returns
returns c =
    let a = c.args in
    ap (λ (p : Pointer). record { good = true; last = a.last; next = p; before = a.before }) c.new.ensures

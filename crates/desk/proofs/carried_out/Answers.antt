-- `desk::carried_out` meets its contract: the call that the line names, form by form.
use mathlib.Core.Path.{◌≡◌}
use mir.Syntax.{w32}
use mir.Val.{to_z, of_z}
use mir.ValLaws.{to_z-of_z}
use Rattle.desk.proofs.Obeying.{append_obeyed, close_obeyed, drop_obeyed, asked_obeyed}
use Rattle.desk.proofs.carried_out.Goals as goal

pub returns-in-Append : goal.returns-in-Append
returns-in-Append c =
    let g = c.in-Append.known_told-1-own.given in
    let z : to_z w32 (of_z w32 c.in-Append.k) ≡ c.in-Append.k = to_z-of_z w32 _ (record { sfits = g.1.0.1 }) in
    append_obeyed _ c.in-Append.is z c.append.ensures

pub returns-in-Close : goal.returns-in-Close
returns-in-Close c =
    close_obeyed _ c.in-Close.is c.close.ensures

pub returns-in-Drop : goal.returns-in-Drop
returns-in-Drop c =
    drop_obeyed _ c.in-Drop.is c.drop.ensures

pub returns-in-Search : goal.returns-in-Search
returns-in-Search c = asked_obeyed _ c.in-Search.is

-- `slotlist::Console::accept` meets its contract: a line feed, or a byte more.
use Rattle.std.proofs.Common.{sym, ap, ◌∙◌}
use Rattle.store.specs.World.{world}
use Rattle.desk.proofs.Typing.{line_ended, line_longer}
use Rattle.slotlist.proofs.Console.accept.Goals as goal

pub returns-then-ends_line : goal.returns-then-ends_line
returns-then-ends_line g c =
    let e = c.obey_line.ensures in
    line_ended _ _ _ _ c.obey_line.new.self.reader (sym c.ends_line.ensures ∙ c.if-ends_line.true) e.0 e.1

pub returns-else-ends_line : goal.returns-else-ends_line
returns-else-ends_line g c =
    let e = c.pushed-self.ensures in
    line_longer _ _ _ _ c.pushed-self.result (sym c.ends_line.ensures ∙ c.if-ends_line.false) (ap (world _ _) e.1.0) e.1.1

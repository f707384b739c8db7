-- `stack_list::generate` meets its contract: what is printed for a text is the generator's definition.
use Rattle.std.proofs.Common.{◌∙◌}
use Rattle.stack_list.proofs.Printed.{nothing_read, list_printed}
use Rattle.stack_list.proofs.generate.Goals as goal

pub returns-in-Some : goal.returns-in-Some
returns-in-Some c = (c.put_ends.ensures.0, c.put_ends.ensures.1 ∙ list_printed _ _ c.in-Some.ensures)

pub returns-in-None : goal.returns-in-None
returns-in-None c = (c.put_refusal.ensures.0, c.put_refusal.ensures.1 ∙ nothing_read _ c.in-None.ensures)

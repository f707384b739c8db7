-- `program_page`: a page that is due is programmed with its image.
use mathlib.Core.Path.{sym, ◌∙◌}
use Rattle.segment.proofs.Turns.{program_due, program_not}
use Rattle.segment.proofs.program_page.Goals as goal

pub page_image-d-requires : goal.page_image-d-requires
page_image-d-requires c =
    (c.requires.1, c.requires.2, c.requires.3, c.requires.4, c.requires.5, sym c.is_due.ensures ∙ c.if-is_due.true)

pub returns-then-is_due : goal.returns-then-is_due
returns-then-is_due c =
    program_due _ _ _ _ _ _ c.is_due.ensures _ _
    c.if-is_due.true c.page_image-d.ensures
    c.program.ensures

pub returns-else-is_due : goal.returns-else-is_due
returns-else-is_due c = program_not _ _ _ _ _ _ c.is_due.ensures c.if-is_due.false

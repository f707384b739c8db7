-- `has_late`: the pointers of the header.
use Rattle.retained.proofs.headers.has_late.Goals as goal

pub returns : goal.returns
returns c =
    rw (c.any_late.ensures, c.pointers_at-p.ensures)

-- `is_late`: three tests.
use Rattle.retained.proofs.headers.is_late.Goals as goal

pub returns : goal.returns
returns c =
    rw (c.is_live-live.ensures, c.is_none-none.ensures)

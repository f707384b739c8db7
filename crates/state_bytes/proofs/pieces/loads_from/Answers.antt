-- `state_bytes::pieces::loads_from`: by the form.
use Rattle.state_bytes.proofs.pieces.loads_from.Goals as goal

pub returns-in-Old : goal.returns-in-Old
returns-in-Old c = rw c.in-Old.is

pub returns-in-New : goal.returns-in-New
returns-in-New c = rw c.in-New.is

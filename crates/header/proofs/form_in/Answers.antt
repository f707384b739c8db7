-- `form_in`: by the form.
use Rattle.header.proofs.form_in.Goals as goal

pub returns-in-Old : goal.returns-in-Old
returns-in-Old c = rw c.in-Old.is

pub returns-in-New : goal.returns-in-New
returns-in-New c = rw (c.in-New.is, c.get_u8.ensures)

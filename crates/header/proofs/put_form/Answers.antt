-- `put_form`: byte 10 and the zeros behind it.
use Rattle.header.proofs.HeaderBytes.{form_put}
use Rattle.header.proofs.put_form.Goals as goal

pub returns : goal.returns
returns c =
    form_put c.args.form _ _ _ _ c.requires
    c.byte_ten.ensures c.put_u8.ensures c.fill.ensures

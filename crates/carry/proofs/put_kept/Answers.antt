-- `put_kept`: three writes side by side are one.
use Rattle.codec.specs.Area.{part}
use Rattle.carry.proofs.Carrying.{kept_put}
use Rattle.carry.proofs.put_kept.Goals as goal

pub returns : goal.returns
unfolding part
returns c =
    kept_put c.args.form c.args.h.now c.requires.0 _ _ _ _ c.requires.1 c.copy.ensures c.put_form.ensures c.copy-2.ensures

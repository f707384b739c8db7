-- `append_parts::put_record` meets its contract: three fields side by side.
use Rattle.lift.proofs.Records.{record_steps}
use Rattle.append_parts.proofs.put_record.Goals as goal

pub returns : goal.returns
returns c =
    record_steps _ _ _ _ c.args.at c.args.time c.args.code c.args.note c.requires c.put_u64.ensures
    c.put_u32.ensures c.copy.ensures

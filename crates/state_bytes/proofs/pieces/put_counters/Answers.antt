-- `state_bytes::pieces::put_counters` meets its contract: five fields side by side are one write.
use Rattle.state_bytes.proofs.Writing.{counters_put}
use native.Mathlib.Omega.{arith}
use Rattle.state_bytes.proofs.pieces.put_counters.Goals as goal

pub returns : goal.returns
returns c =
    counters_put _ _ _ _ _ _ c.args.c (omega arith)
    c.put_u32.ensures
    c.put_u32-2.ensures
    c.put_u16.ensures
    c.put_u8.ensures
    c.put_u64.ensures

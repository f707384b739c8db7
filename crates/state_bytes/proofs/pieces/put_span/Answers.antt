-- `state_bytes::pieces::put_span` meets its contract: three fields side by side are one write.
use mathlib.Core.Path.{refl}
use Rattle.loads.proofs.Signs.{read_back}
use Rattle.state_bytes.proofs.Writing.{span_put}
use native.Mathlib.Omega.{arith}
use Rattle.state_bytes.proofs.pieces.put_span.Goals as goal

pub returns : goal.returns
returns c =
    let s = c.args.s in
    span_put _ _ _ _ _ s _ _ (omega arith)
    (read_back s.low s.low (omega arith) refl)
    (read_back s.high s.high (omega arith) refl)
    c.put_u64.ensures c.put_load.ensures c.put_load-2.ensures

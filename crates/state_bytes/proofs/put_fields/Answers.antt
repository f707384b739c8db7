-- `state_bytes::put_fields` meets its contract: the page buffer, then the fields around it.
use lib.ListN.{length}
use mathlib.Core.Path.{refl, ◌≡◌}
use Rattle.loads.proofs.Signs.{read_back}
use Rattle.state_bytes.proofs.Writing.{fields_written}
use native.Mathlib.Omega.{arith}
use Rattle.state_bytes.proofs.put_fields.Goals as goal

pub copy-requires : goal.copy-requires
copy-requires c =
    let l : length c.args.s.page ≡ 512 = c.well_formed.1.1.0.1.1.1.1.1.1.1.1.1.0.1.0.1 in
    omega (arith, l, c.requires, c.loads_from-at.ensures)

pub returns : goal.returns
returns c =
    let s = c.args.s in
    fields_written _ _ _ _ _ s _ _ c.requires c.loads_from-at.ensures
    c.well_formed.1.1.0.1.1.1.1.1.1.1.1.1.0.1.0.1
    (read_back s.low s.low (omega arith) refl) (read_back s.high s.high (omega arith) refl)
    c.copy.ensures c.put_around.ensures

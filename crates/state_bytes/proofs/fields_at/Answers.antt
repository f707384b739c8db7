-- `state_bytes::fields_at` meets its contract, field by field.
use Rattle.loads.proofs.Signs.{read_back}
use Rattle.state_bytes.proofs.Reading.{read}
use Rattle.state_bytes.proofs.fields_at.Goals as goal

pub returns : goal.returns
returns c =
    let loads = c.loads_from-at.ensures in
    let low = rw loads at c.load_at.ensures in
    let high = rw loads at c.load_at-2.ensures in
    read c.args.form _ _
    c.get_u32.ensures
    c.get_u32-2.ensures
    c.get_u16.ensures
    c.get_u8.ensures
    c.get_u64.ensures
    (rw c.heads_from.ensures at c.pointers_at.ensures)
    (rw loads at c.loads_at.ensures)
    (rw loads at c.bytes_at.ensures)
    (rw loads at c.bytes_at-2.ensures)
    (rw loads at c.get_u64-2.ensures)
    (read_back _ _ c.load_at.type_inv low)
    (read_back _ _ c.load_at-2.type_inv high)

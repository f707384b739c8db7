-- `pointer_at` meets its contract. Assumes nothing.
use Rattle.std.proofs.Common.{◌≡◌, ◌∙◌, ◌+◌}
use Rattle.codec.specs.Number.{number_at}
use Rattle.form.specs.Forms.{serial_width}
use Rattle.skiplist.proofs.Pointers.{no_serial, read_numbers}
use Rattle.skiplist.proofs.pointer_at.Goals as goal
use Rattle.skiplist.proofs.pointer_at.Goals.{in-Old, in-New}

pub returns : goal.returns
returns c =
    let serial : c.match-form.serial ≡ number_at c.args.s.now (c.args.at + 2) (serial_width c.args.form) =
    elim c.match-form.branch [
      | in-Old w ↦ rw (w.in-Old.is, w.serial-is) (no_serial c.args.s.now (c.args.at + 2))
      | in-New w ↦ rw (w.in-New.is, w.serial-is) w.get_u32-serial.ensures
    ] in
    c.new.ensures
    ∙ rw (c.get_u16-slot.ensures, c.get_u64-time.ensures) (read_numbers c.args.form _ _ _ _ c.pointer_bytes.ensures serial)

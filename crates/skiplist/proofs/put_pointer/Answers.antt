-- `put_pointer` meets its contract. Assumes nothing.
use Rattle.std.proofs.Common.{◌≡◌, ◌+◌, arith}
use Rattle.codec.specs.Area.{splice}
use Rattle.codec.specs.Number.{bytes}
use Rattle.form.specs.Forms.{serial_width}
use Rattle.skiplist.proofs.Pointers.{put_no_serial, put_numbers}
use Rattle.skiplist.proofs.put_pointer.Goals as goal
use Rattle.skiplist.proofs.put_pointer.Goals.{in-Old, in-New}

pub returns : goal.returns
returns c =
    let serial : c.match-form.s ≡ splice c.put_u16.new.s (c.args.at + 2) (bytes (serial_width c.args.form) c.args.p.serial) =
    elim c.match-form.branch [
      | in-Old w ↦ rw (w.in-Old.is, w.s-is) (put_no_serial _ _ _)
      | in-New w ↦ rw (w.in-New.is, w.s-is) w.put_u32.ensures
    ] in
    put_numbers c.args.form _ _ _ _ _ _ _ (omega arith) c.pointer_bytes.ensures c.put_u16.ensures serial c.put_u64.ensures

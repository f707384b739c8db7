-- `header_in`: each field as read.
use Rattle.header.proofs.Tests.{header_made}
use native.Mathlib.Omega.{arith}
use Rattle.header.proofs.HeaderBytes.{serial_most}
use Rattle.header.proofs.header_in.Goals as goal

pub pointers_at-next-requires : goal.pointers_at-next-requires
pointers_at-next-requires c = omega (arith, serial_most c.args.form, c.requires)

pub returns : goal.returns
returns c =
    header_made _ _ _ _ _ _ _ _ _ _ _ _ c.header_good-good.ensures c.pointers_at-next.ensures
    c.serial_in.ensures c.count_in.ensures c.buckets_in.ensures
    c.start_in.ensures c.low_in.ensures c.high_in.ensures

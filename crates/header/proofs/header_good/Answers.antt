-- `header_good`: its tests.
use Rattle.header.proofs.Tests.{good_made}
use native.Mathlib.Omega.{arith}
use Rattle.header.proofs.HeaderBytes.{serial_most}
use Rattle.header.proofs.header_good.Goals as goal

pub pointers_at-next-requires : goal.pointers_at-next-requires
pointers_at-next-requires c = omega (arith, serial_most c.args.form, c.requires)

pub returns : goal.returns
returns c =
    good_made _ _ _ _ _ _ _ _ _ _ c.form_in-own.ensures c.counts_in-counts.ensures
    c.span_in-span.ensures c.pointers_at-next.ensures c.pointers_good-pointers.ensures
    c.serial_in-serial.ensures

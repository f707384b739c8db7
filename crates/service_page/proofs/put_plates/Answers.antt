-- `service_page::put_plates` meets its contract, line by line.
use Rattle.std.proofs.Common.{◌-◌, ◌∙◌, arith}
use Rattle.plate.proofs.Totals.{place_total}
use Rattle.service_page.proofs.PageWritten.{plates_step, plates_done}
use Rattle.service_page.proofs.put_plates.Goals as goal

pub put_plate-requires : goal.put_plate-requires
put_plate-requires c =
    (omega (arith, c.loop-plate.invariant.room), omega (arith, c.requires.1.1, place_total c.args.counts (c.loop-plate.plate - 1)))

pub loop-plate-preserved : goal.loop-plate-preserved
loop-plate-preserved c = record {
  room = omega (arith, c.loop-plate.invariant.room);
  whole =
      rw (c.put_plate.ensures, c.requires.1.0)
      (plates_step _ _ _ c.args.counts c.loop-plate-test.true (omega (arith, c.loop-plate.invariant.room)) ∙ c.loop-plate.invariant.whole);
}

pub returns : goal.returns
returns c = plates_done _ _ _ _ _ c.loop-plate-test.false c.loop-plate.invariant.whole

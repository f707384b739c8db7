-- `service_page::put_plate` meets its contract: its fields side by side.
use Rattle.service_page.proofs.PageWritten.{plate_written}
use Rattle.service_page.proofs.put_plate.Goals as goal

pub returns : goal.returns
returns c =
    rw (
      c.end_line.ensures,
      c.fill.ensures,
      c.put_number-3.ensures,
      c.put_number-2.ensures,
      c.put_number.ensures,
      c.percentage-share.ensures,
    )
    (plate_written _ _ c.requires.0 _ _ _)

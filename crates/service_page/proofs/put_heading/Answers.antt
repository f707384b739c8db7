-- `service_page::put_heading` meets its contract: its fields side by side.
use Rattle.service_page.proofs.PageWritten.{heading_written}
use Rattle.service_page.proofs.put_heading.Goals as goal

pub returns : goal.returns
returns c =
    rw (c.end_line.ensures, c.put_number-2.ensures, c.fill.ensures, c.put_number.ensures)
    (heading_written _ _ c.requires _ _)

-- `service_page::put_total` meets its contract: its fields side by side.
use Rattle.service_page.proofs.PageWritten.{total_written}
use Rattle.service_page.proofs.put_total.Goals as goal

pub returns : goal.returns
returns c =
    rw (c.end_line.ensures, c.fill-2.ensures, c.put_number.ensures, c.fill.ensures)
    (total_written _ _ c.requires _)

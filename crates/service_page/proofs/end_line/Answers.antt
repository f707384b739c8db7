-- `service_page::end_line` meets its contract: one byte.
use Rattle.answers.proofs.Printing.{byte_stored}
use native.Mathlib.Omega.{arith}
use Rattle.service_page.proofs.end_line.Goals as goal

pub returns : goal.returns
returns c = byte_stored _ _ _ (omega arith)

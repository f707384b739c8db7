-- `lift_text::line_bytes` meets its contract: three numerals and four bytes.
use Rattle.lift_text.proofs.Lines.{length_told}
use native.Mathlib.Omega.{arith}
use Rattle.lift_text.proofs.line_bytes.Goals as goal

pub returns : goal.returns
returns c =
    let a = c.args in
    let n = length_told a.time a.code a.member in
    (omega arith, omega arith)

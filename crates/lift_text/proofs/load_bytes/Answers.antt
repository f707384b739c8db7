-- `lift_text::load_bytes` meets its contract: a byte for the minus below zero.
use Rattle.lift_text.proofs.Lines.{below_zero, from_zero}
use native.Mathlib.Omega.{arith}
use Rattle.lift_text.proofs.load_bytes.Goals as goal

pub returns-then-code-lt-CODE_OF_ZERO : goal.returns-then-code-lt-CODE_OF_ZERO
returns-then-code-lt-CODE_OF_ZERO c =
    let d = c.digits_in-n.ensures in
    let e = below_zero c.args.code c.size_of.result c.if-code-lt-CODE_OF_ZERO.true
    c.size_of.ensures in
    (omega arith, omega arith)

pub returns-else-code-lt-CODE_OF_ZERO : goal.returns-else-code-lt-CODE_OF_ZERO
returns-else-code-lt-CODE_OF_ZERO c =
    let d = c.digits_in-n.ensures in
    let e = from_zero c.args.code c.size_of.result c.if-code-lt-CODE_OF_ZERO.false
    c.size_of.ensures in
    (omega arith, omega arith)

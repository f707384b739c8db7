-- `lift_text::put_load` meets its contract: the digits, and the minus before them below zero.
use mathlib.Core.Path.{◌≡◌}
use Prim.Native.Nat.{◌+◌, ◌-◌}
use Rattle.lift_text.proofs.Before.{byte_before}
use Rattle.lift_text.proofs.Lines.{text_below_zero, text_from_zero, below_zero, digits_within_lem}
use native.Mathlib.Omega.{arith}
use borrow.Author.Rules.{rules}
use Rattle.lift_text.proofs.put_load.Goals as goal

pub put_digits-at-requires : goal.put_digits-at-requires
put_digits-at-requires c =
    let a = c.args in
    let n = digits_within_lem a.code c.size_of-size.result c.size_of-size.ensures in
    search rules

pub overflow_sub-area : goal.overflow_sub-area
overflow_sub-area c =
    let z = c.size_of-size in
    omega (arith, below_zero c.args.code z.result c.if-code-lt-CODE_OF_ZERO.true z.ensures, c.put_digits-at.ensures.begins)

pub bounds-area-at : goal.bounds-area-at
bounds-area-at c =
    let z = c.size_of-size in
    omega (arith, below_zero c.args.code z.result c.if-code-lt-CODE_OF_ZERO.true z.ensures, c.put_digits-at.ensures.begins)

pub overflow_sub-result : goal.overflow_sub-result
overflow_sub-result c =
    let z = c.size_of-size in
    omega (arith, below_zero c.args.code z.result c.if-code-lt-CODE_OF_ZERO.true z.ensures, c.put_digits-at.ensures.begins)

pub returns-then-code-lt-CODE_OF_ZERO : goal.returns-then-code-lt-CODE_OF_ZERO
returns-then-code-lt-CODE_OF_ZERO c =
    let z = c.size_of-size in
    let e : (c.put_digits-at.result - 1) + 1 ≡ c.put_digits-at.result =
    omega (arith, below_zero c.args.code z.result c.if-code-lt-CODE_OF_ZERO.true z.ensures, c.put_digits-at.ensures.begins) in
    rw (text_below_zero c.args.code z.result c.if-code-lt-CODE_OF_ZERO.true z.ensures)
    (byte_before _ _ _ _ _ _ 45 c.requires.1 e c.put_digits-at.ensures)

pub returns-else-code-lt-CODE_OF_ZERO : goal.returns-else-code-lt-CODE_OF_ZERO
returns-else-code-lt-CODE_OF_ZERO c =
    let z = c.size_of-size in
    rw (text_from_zero c.args.code z.result c.if-code-lt-CODE_OF_ZERO.false z.ensures) c.put_digits-at.ensures

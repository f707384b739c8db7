-- `joining::put_pair` meets its contract: two records side by side, or nothing.
use native.Mathlib.Omega.{arith}
use Prim.Native.Nat.{◌+◌, ◌*◌}
use mathlib.Core.Path.{◌≡◌}
use borrow.Author.Tests.{lt-ltb, le-ltb}
use Rattle.codec.proofs.Areas.{splice_next}
use Rattle.lift.proofs.Rows.{record_length}
use Rattle.joining.proofs.put_pair.Goals as goal

pub returns-then-rows-row : goal.returns-then-rows-row
returns-then-rows-row c = rw (le-ltb _ _ c.if-rows-row.true)

pub returns : goal.returns
returns c =
    let a = c.args in
    let l = record_length a.lifts1.now a.tail1.now a.first1 a.p1 c.requires.p1_in_bounds.0 c.requires.p1_in_bounds.1 in
    let e : 2 * a.row * 32 ≡ a.row * 64 = omega arith in
    rw (lt-ltb a.row a.rows c.if-rows-row.false, c.put_row-2.ensures, c.put_row.ensures, e)
    (splice_next a.area.now (a.row * 64) _ ((2 * a.row + 1) * 32) _ (omega (arith, l)) (omega (arith, c.requires.rows_in_bounds)))

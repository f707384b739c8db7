-- `search::write::write_one` meets its contract: as many rows as the set has places, up to the end.
use mathlib.Core.Path.{refl}
use Rattle.sweep.specs.Inner.Swept.{none_swept}
use Rattle.found.proofs.Matched.{closed_none}
use Rattle.found.proofs.Placed.{closed_placed}
use Rattle.search.proofs.Written.{written_none, placed_many, placed_written}
use native.Mathlib.Omega.{arith}
use Rattle.search.proofs.write.write_one.Goals as goal

pub returns-in_default : goal.returns-in_default
returns-in_default c =
    let a = c.args in
    rw (closed_none a.nand.now a.s a.q none_swept c.in_default.ensures refl) (written_none _ _)

pub overflow_sub-row : goal.overflow_sub-row
overflow_sub-row c =
    let p = closed_placed _ _ c.args.q
    c.requires.closed_sound _ c.in-Some.ensures _ refl _ refl in
    omega (arith, placed_many _ _ _ _ _ p _ c.count.ensures.0, c.requires.q_len_bound.0)

pub put_rows-requires : goal.put_rows-requires
put_rows-requires c =
    let p =
    closed_placed _ _ c.args.q c.requires.closed_sound _ c.in-Some.ensures _ c.closed_lifts-lifts.ensures
    _ c.closed_records-g.ensures in
    record {
      recorded = p.recorded;
      below = p.below;
      record_width_in_bounds = omega (arith, c.count.ensures.0, c.requires.q_len_bound, placed_many _ _ _ _ _ p _ c.count.ensures.0);
    }

pub returns : goal.returns
returns c =
    let p =
    closed_placed _ _ _ c.requires.closed_sound _ c.in-Some.ensures _ c.closed_lifts-lifts.ensures
    _ c.closed_records-g.ensures in
    placed_written _ _ _ _ _ p _ c.count.ensures.0 _ _ _ c.requires.q_len_bound.0 c.put_rows.ensures

-- `search::write::write_open` meets its contract: no lifts, or as many rows as the set has places, up to the end.
use mathlib.Core.Path.{refl}
use Rattle.sweep.specs.Inner.Swept.{none_swept}
use Rattle.found.proofs.Matched.{open_none, open_damage}
use Rattle.found.proofs.Placed.{open_placed}
use Rattle.search.proofs.Written.{written_none, placed_many, placed_written}
use native.Mathlib.Omega.{arith}
use Rattle.search.proofs.write.write_open.Goals as goal

pub returns-then-g-eq0 : goal.returns-then-g-eq0
returns-then-g-eq0 c =
    let a = c.args in
    rw (open_none a.nand.now a.nor.now a.page.now a.g a.q c.if-g-eq0.true) (written_none _ _)

pub returns-in_default : goal.returns-in_default
returns-in_default c =
    let a = c.args in
    rw (open_damage a.nand.now a.nor.now a.page.now a.g a.q c.if-g-eq0.false none_swept c.in_default.ensures refl) (written_none _ _)

pub overflow_sub-row : goal.overflow_sub-row
overflow_sub-row c =
    let p =
    open_placed _ _ _ _ c.args.q c.requires.log_sound c.requires.page_len c.if-g-eq0.false _ c.in-Some.ensures _ refl _ refl in
    omega (arith, placed_many _ _ _ _ _ p _ c.count.ensures.0, c.requires.q_len_bound.0)

pub put_rows-requires : goal.put_rows-requires
put_rows-requires c =
    let p =
    open_placed _ _ _ _ c.args.q c.requires.log_sound c.requires.page_len c.if-g-eq0.false _ c.in-Some.ensures
    _ c.open_lifts-lifts.ensures _ c.open_records-r.ensures in
    record {
      recorded = p.recorded;
      below = p.below;
      record_width_in_bounds = omega (arith, c.count.ensures.0, c.requires.q_len_bound, placed_many _ _ _ _ _ p _ c.count.ensures.0);
    }

pub returns : goal.returns
returns c =
    let p =
    open_placed _ _ _ _ _ c.requires.log_sound c.requires.page_len c.if-g-eq0.false _ c.in-Some.ensures
    _ c.open_lifts-lifts.ensures _ c.open_records-r.ensures in
    placed_written _ _ _ _ _ p _ c.count.ensures.0 _ _ _ c.requires.q_len_bound.0 c.put_rows.ensures

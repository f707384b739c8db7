-- `sweep::entries` meets its contract: the entries passed and those left are the bucket's.
use native.Mathlib.Omega.{arith}
use Rattle.sweep.proofs.Passing.{found_all, damaged_all, passed_none, position_below, passed_more, passed_all}
use Rattle.sweep.proofs.entries.Goals as goal

pub loop-i-init : goal.loop-i-init
loop-i-init c = passed_none _ _ _ _ _ _ _ c.requires.in_bounds.1 c.requires.bucket_value

pub entry_at-s-requires : goal.entry_at-s-requires
entry_at-s-requires c =
    let p = position_below _ _ _ _ _ _ _ _ _ c.loop-i.invariant (omega arith) in
    record {
      i_lt_entries_most = (p.0, c.requires.in_bounds.0, p.1);
      recorded = c.requires.recorded;
    }

pub loop-i-preserved : goal.loop-i-preserved
loop-i-preserved c = rw c.entry_at-s.ensures (passed_more _ _ _ _ _ _ _ _ _ c.loop-i.invariant (omega arith))

pub returns-then-s : goal.returns-then-s
returns-then-s c =
    found_all _ _ (passed_all _ _ _ _ _ _ _ _ _ c.loop-i.invariant (omega arith)) c.if-s.true

pub returns-else-s : goal.returns-else-s
returns-else-s c =
    damaged_all _ _ (passed_all _ _ _ _ _ _ _ _ _ c.loop-i.invariant (omega arith)) c.if-s.false

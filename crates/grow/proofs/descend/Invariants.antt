-- `grow::descend` meets its contract: the plan from here is the plan from the root.
use mathlib.Core.Path.{◌≡◌}
use Prim.Native.Nat.{◌-◌, ◌<◌}
use Rattle.tree.specs.Plan.{plan_from, or_no_room}
use Rattle.grow.proofs.descend.Given as goal

abbrev pub invariant-loop-step : goal.invariant-loop-step
invariant-loop-step l =
    record {
      below : l.b < 36;
      same : or_no_room l.buckets (plan_from l.tree l.buckets l.count l.loads l.code (l.buckets - l._step) l.b)
          ≡ or_no_room l.buckets (plan_from l.tree l.buckets l.count l.loads l.code l.buckets 0);
    }

-- `tally::by_plate::tally_closed` meets its contract: what is counted and what is left come to the whole.
use mathlib.Core.Path.{◌≡◌, sym, ◌∙◌}
use Rattle.std.specs.Prelude.{Ok, None}
use Rattle.tally.proofs.PlateTurns.{tally_over, tally_again}
use Rattle.tally.proofs.by_plate.tally_closed.Goals as goal

pub loop-s-preserved : goal.loop-s-preserved
loop-s-preserved c =
    tally_again _ _ _ _ _ _ _ _ c.loop-s.invariant _ _ (rw (c.in_ok-s.was, c.in-Some.is) at c.onward.ensures) _
    (sym c.in_ok-counts.was ∙ c.tally_one.ensures)

pub returns : goal.returns
returns c =
    let e : c.onward.result ≡ Ok None = cc in
    tally_over _ _ _ _ _ _ _ _ c.loop-s.invariant (rw e at c.onward.ensures)

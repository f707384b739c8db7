-- `rise_with`: later than the last one, if there was any.
use Rattle.std.proofs.Common.{◌≡◌}
use Rattle.retained.specs.Inner.Loops.{is_later, rise_with}
use Rattle.retained.proofs.times.rise_with.Goals as goal
use Rattle.retained.proofs.times.rise_with.Goals.{in-None, in-Some}

pub returns : goal.returns
unfolding rise_with
returns c =
    let later : c.match-r.is_later ≡ is_later c.args.r.last c.args.time =
    elim c.match-r.branch [ in-None w ↦ rw (w.in-None.is, w.is_later-is) | in-Some w ↦ rw (w.in-Some.is, w.is_later-is) ] in
    rw later

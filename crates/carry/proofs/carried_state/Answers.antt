-- `carried_state`: heads and next time; the rest is kept.
use Rattle.carry.specs.Carried.{state_into}
use Rattle.carry.proofs.carried_state.Goals as goal

pub returns : goal.returns
unfolding state_into
returns c =
    rw (c.carried_next.ensures, c.carried_pointers-s.ensures)

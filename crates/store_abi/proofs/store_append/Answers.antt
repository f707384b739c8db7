-- `store_abi::store_append` meets its contract: the append of a state in an area of its length.
use mathlib.Core.Path.{ap, ◌∙◌}
use lib.IntN.{ℤ}
use mir.Syntax.{w32}
use mir.ValLaws.{to_z-of_z}
use Rattle.areas.specs.Areas.{left, append_called}
use Rattle.areas.proofs.Leaves.{wrong_length}
use Rattle.store_abi.proofs.store_append.Goals as goal

pub returns-then-state-ne-STATE_BYTES : goal.returns-then-state-ne-STATE_BYTES
unfolding append_called
returns-then-state-ne-STATE_BYTES c = wrong_length _ _ _ _ c.if-state-ne-STATE_BYTES.true

pub append-requires : goal.append-requires
append-requires c = c.if-state-ne-STATE_BYTES.false

pub returns : goal.returns
returns c =
    let a = c.args in
    ap (λ n. left n c.append.new.state c.append.new.nand c.append.new.nor) c.number_in.ensures
    ∙ c.append.ensures
    ∙ ap (λ (z : ℤ). append_called a.state.now a.nand.now a.nor.now a.slots a.time z a.note.now)
    (to_z-of_z w32 a.load c.ranges.load)

-- `store_abi::counted::store_append_kept` meets its contract: the append of a state and counts in areas of their lengths.
use mathlib.Core.Path.{ap, ◌∙◌}
use lib.IntN.{ℤ}
use mir.Syntax.{w32}
use mir.ValLaws.{to_z-of_z}
use Rattle.areas.specs.Areas.{left_kept, append_kept_called}
use Rattle.areas.proofs.KeptCounts.{wrong_state, wrong_counts}
use Rattle.store_abi.proofs.counted.store_append_kept.Goals as goal

pub returns-then-state-ne-STATE_BYTES : goal.returns-then-state-ne-STATE_BYTES
unfolding append_kept_called
returns-then-state-ne-STATE_BYTES c = wrong_state _ _ _ _ _ c.if-state-ne-STATE_BYTES.true

pub returns-then-counts-ne-COUNTS_BYTES : goal.returns-then-counts-ne-COUNTS_BYTES
unfolding append_kept_called
returns-then-counts-ne-COUNTS_BYTES c = wrong_counts _ _ _ _ _ c.if-state-ne-STATE_BYTES.false c.if-counts-ne-COUNTS_BYTES.true

pub append-r-requires : goal.append-r-requires
append-r-requires c = (c.if-state-ne-STATE_BYTES.false, c.if-counts-ne-COUNTS_BYTES.false)

pub returns : goal.returns
returns c =
    let a = c.args in
    ap (λ n. left_kept n c.append-r.new.state c.append-r.new.counts c.append-r.new.nand c.append-r.new.nor) c.number_in.ensures
    ∙ c.append-r.ensures
    ∙ ap (λ (z : ℤ). append_kept_called a.state.now a.counts.now a.nand.now a.nor.now a.slots a.time z a.note.now)
    (to_z-of_z w32 a.load c.ranges.load)

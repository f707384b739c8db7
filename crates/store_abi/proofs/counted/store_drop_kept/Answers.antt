-- `store_abi::counted::store_drop_kept` meets its contract: the call on the state and the counts that the areas hold.
use mathlib.Core.Path.{ap₂, ◌∙◌}
use Rattle.store.specs.World.{world}
use Rattle.keeping.specs.Keeping.{Counted, drop_kept}
use Rattle.areas.specs.Areas.{drop_kept_called}
use Rattle.areas.proofs.KeptCounts.{wrong_state, wrong_counts, given_kept}
use Rattle.store_abi.proofs.counted.store_drop_kept.Goals as goal

pub returns-then-state-ne-STATE_BYTES : goal.returns-then-state-ne-STATE_BYTES
unfolding drop_kept_called
returns-then-state-ne-STATE_BYTES c = wrong_state _ _ _ _ _ c.if-state-ne-STATE_BYTES.true

pub returns-then-counts-ne-COUNTS_BYTES : goal.returns-then-counts-ne-COUNTS_BYTES
unfolding drop_kept_called
returns-then-counts-ne-COUNTS_BYTES c = wrong_counts _ _ _ _ _ c.if-state-ne-STATE_BYTES.false c.if-counts-ne-COUNTS_BYTES.true

pub returns : goal.returns
unfolding drop_kept_called
returns c =
    let a = c.args in
    given_kept a.state.now a.counts.now a.nand.now a.nor.now _ c.if-state-ne-STATE_BYTES.false c.if-counts-ne-COUNTS_BYTES.false _ _ _ _ _ _ _ _ c.keep_counted.ensures.number (c.keep_counted.ensures.state c.get_state-s.result) (c.keep_counted.ensures.counts c.get_counts-c.result)
    (c.drop-r.ensures
    ∙ ap₂ {C = Counted} (λ s n. drop_kept (world a.nand.now a.nor.now s) a.slots n) c.get_state-s.ensures c.get_counts-c.ensures)

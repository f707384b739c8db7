-- `store_abi::counted::store_format_kept` meets its contract: the call by value, kept in the areas.
use Rattle.plate.specs.Plate.{no_counts}
use Rattle.store.specs.Calls.{formatted}
use Rattle.areas.specs.Areas.{format_kept_called}
use Rattle.areas.proofs.KeptCounts.{wrong_state, wrong_counts, given_kept}
use Rattle.store_abi.proofs.counted.store_format_kept.Goals as goal

pub returns-then-state-ne-STATE_BYTES : goal.returns-then-state-ne-STATE_BYTES
unfolding format_kept_called
returns-then-state-ne-STATE_BYTES c = wrong_state _ _ _ _ _ c.if-state-ne-STATE_BYTES.true

pub returns-then-counts-ne-COUNTS_BYTES : goal.returns-then-counts-ne-COUNTS_BYTES
unfolding format_kept_called
returns-then-counts-ne-COUNTS_BYTES c = wrong_counts _ _ _ _ _ c.if-state-ne-STATE_BYTES.false c.if-counts-ne-COUNTS_BYTES.true

pub returns : goal.returns
unfolding format_kept_called
returns c =
    let a = c.args in
    given_kept a.state.now a.counts.now a.nand.now a.nor.now _ c.if-state-ne-STATE_BYTES.false c.if-counts-ne-COUNTS_BYTES.false _ _ _ _ _ _ _ _ c.keep_counted.ensures.number (c.keep_counted.ensures.state formatted) (c.keep_counted.ensures.counts no_counts) c.format-r.ensures

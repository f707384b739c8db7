-- `store_abi::store_backward` meets its contract: the conversion of the state that the area holds.
use mathlib.Core.Path.{◌≡◌, sym, ap, ◌∙◌}
use mathlib.Core.List.{List}
use Prim.Native.Nat.{ℕ}
use lib.ListN.{length}
use Rattle.std.specs.declared.result.Result.{Result}
use Rattle.std.specs.declared.result.Result.TheVariants.{Ok, Err}
use Rattle.std.specs.Result.{MatchResult}
use Rattle.grounds.specs.declared.Ground.{Ground}
use Rattle.grounds.specs.Numbers.{number_of, number_in}
use Rattle.grounds.proofs.Numbers.{refused}
use Rattle.store.specs.declared.OldState.{OldState}
use Rattle.state_bytes.specs.StateBytes.{old_state_bytes}
use Rattle.kept.specs.Kept.{kept}
use Rattle.kept.proofs.Kept.{kept_old}
use Rattle.conversion.specs.Outcome.{backward_outcome, next_old_state}
use Rattle.areas.specs.Areas.{old_bytes, backward_called}
use Rattle.areas.proofs.Leaves.{first_wrong, second_wrong, both_equal, unfitting, fitting}
use Rattle.store_abi.proofs.store_backward.Goals as goal

-- what stands in the area, by cases
old_kept : (r : Result OldState Ground) (area area' : List ℕ) → MatchResult r (λ s. area' ≡ old_state_bytes s) (λ g. area' ≡ area)
    → area' ≡ kept (number_in r) (old_state_bytes (next_old_state r)) area
old_kept (Ok s) area area' e = e
old_kept (Err g) area area' e = e ∙ sym (kept_old (number_of g) (old_state_bytes (next_old_state (Err g))) area (refused g))

pub returns-then-state-ne-STATE_BYTES : goal.returns-then-state-ne-STATE_BYTES
unfolding backward_called
returns-then-state-ne-STATE_BYTES c = unfitting _ old_bytes _ _ _ _ (first_wrong _ 783 (length c.args.old.now) 775 c.if-state-ne-STATE_BYTES.true)

pub returns-then-old-ne-OLD_STATE_BYTES : goal.returns-then-old-ne-OLD_STATE_BYTES
unfolding backward_called
returns-then-old-ne-OLD_STATE_BYTES c = unfitting _ old_bytes _ _ _ _ (second_wrong _ 783 _ 775 c.if-state-ne-STATE_BYTES.false c.if-old-ne-OLD_STATE_BYTES.true)

pub returns : goal.returns
unfolding backward_called
returns c =
    let a = c.args in
    fitting _ old_bytes a.old.now _ _ _ _ _ _ _
    (both_equal _ 783 _ 775 c.if-state-ne-STATE_BYTES.false c.if-old-ne-OLD_STATE_BYTES.false) c.keep_old_state.ensures.number (old_kept _ _ _ c.keep_old_state.ensures.state)
    (c.backward-r.ensures
    ∙ ap (λ s. backward_outcome a.nand.now a.nor.now s a.slots a.to_nand.now a.to_nor.now) c.get_state-s.ensures)

-- `tolerant::pieces::pick_certain` meets its contract: the rows picked and those that are left come to the whole.
use mathlib.Core.Path.{sym, ◌∙◌}
use native.Mathlib.Omega.{arith}
use Rattle.tolerant.proofs.Picking.{picks_none, picks_over, picks_out, row_room, picks_in}
use Rattle.tolerant.proofs.pieces.pick_certain.Goals.{then-is_between, else-is_between}
use Rattle.tolerant.proofs.pieces.pick_certain.Goals as goal

pub loop-i-init : goal.loop-i-init
loop-i-init c = picks_none _ _ _ _ c.requires.record_width_in_bounds_2

pub put_row-requires-clause-record_width_in_bounds_2 : goal.put_row-requires-clause-record_width_in_bounds_2
put_row-requires-clause-record_width_in_bounds_2 c =
    row_room _ _ _ c.requires.record_width_in_bounds _ _ _ _ _ c.loop-i.invariant c.loop-i-test.true _ c.code_in-code.ensures
    (sym c.is_between.ensures ∙ c.if-is_between.true)

pub loop-i-preserved : goal.loop-i-preserved
loop-i-preserved c =
    let h = c.loop-i-test.true in
    let p = c.loop-i.invariant in
    elim c.if-is_between.branch [
      | then-is_between w ↦ picks_in _ _ _ c.requires.record_width_in_bounds _ _ _ _ _ p h _ c.code_in-code.ensures (sym c.is_between.ensures ∙ w.if-is_between.true) _ _
          (w.certain-is ∙ w.put_row.ensures) w.to-is
      | else-is_between w ↦ picks_out _ _ _ c.requires.record_width_in_bounds _ _ _ _ _ p h _ c.code_in-code.ensures (sym c.is_between.ensures ∙ w.if-is_between.false) _ _ w.certain-is
          w.to-is
    ]

pub returns : goal.returns
returns c =
    picks_over _ _ _ c.requires.record_width_in_bounds _ _ _ _ _ c.loop-i.invariant (omega (arith, c.loop-i-test.false))

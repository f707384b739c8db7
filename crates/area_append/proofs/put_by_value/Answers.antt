-- `store_abi::put_by_value` meets its contract: the state is carried out and goes back into its area.
use mathlib.Core.Path.{sym, ap, subst, ◌∙◌}
use lib.ListN.{length}
use mir.Syntax.{w32}
use mir.ValLaws.{to_z-of_z}
use Rattle.form.specs.declared.Form.TheVariants.{New}
use Rattle.lift.specs.Limits.{load_ok}
use Rattle.store.specs.declared.State.{State}
use Rattle.store.specs.Inner.Pieces.{Suits, bounds_ground}
use Rattle.area_append.proofs.Appended.{carried_left}
use Rattle.area_append.proofs.put_by_value.Goals as goal

pub get_state-s-requires : goal.get_state-s-requires
get_state-s-requires c = c.requires.size

pub carried_out-t-requires : goal.carried_out-t-requires
carried_out-t-requires c =
    let a = c.args in
    let t = c.requires.accepted in
    let e = c.get_state-s.ensures in
    record {
      slots_value = (
        ap (λ (s : State). bounds_ground New s 0 (length a.nand.now) (length a.nor.now) a.slots) e ∙ t.bounds,
        subst (λ (s : State). Suits s.buckets s.count a.p) (sym e) t.suits,
      );
      load_value = ap load_ok (to_z-of_z w32 a.load c.ranges.load) ∙ t.load_ok;
    }

pub put_state-requires : goal.put_state-requires
put_state-requires c = c.requires.size

pub returns : goal.returns
returns c =
    let a = c.args in
    carried_left a.state.now a.nand.now a.nor.now a.slots a.time a.load a.p c.requires a.note _ _ _ _ _ _
    c.get_state-s.ensures (to_z-of_z w32 a.load c.ranges.load) c.carried_out-t.ensures
    c.put_state.ensures

-- `keeping::drop` meets its contract: ground 3 of the counts among grounds 1 to 3, the counts without the oldest segment, then the plain drop.
use mathlib.Core.Path.{◌≡◌, refl, sym, ap, ◌∙◌}
use mathlib.Core.Bool.{Bool}
use mathlib.Core.Option.{none, some}
use Prim.Native.Nat.{ℕ}
use native.Mathlib.Omega.{arith}
use Rattle.std.proofs.lemmas.Result.{err_from_is_err_and}
use Rattle.grounds.specs.Numbers.{number_in}
use Rattle.grounds.proofs.Numbers.{refused}
use Rattle.form.specs.declared.Form.TheVariants.{New}
use Rattle.counts.specs.Counts.{without_segment}
use Rattle.store.specs.World.{world}
use Rattle.store.proofs.Grounds.{standing_judged}
use Rattle.keeping.specs.Keeping.{with_ground, counts_dropped}
use Rattle.keeping.proofs.Drops.{drop_early, passed, drop_none, drop_lost, drop_accepted, drop_done}
use Rattle.keeping.proofs.drop.Goals as goal

pub returns-in_err-with_ground_3 : goal.returns-in_err-with_ground_3
returns-in_err-with_ground_3 c =
    let a = c.args in
    let number = c.in_err-with_ground_3.ensures ∙ ap (λ (t : Bool). with_ground 3 t (number_in c.ground-plain.result)) c.are_broken.ensures in
    let p = err_from_is_err_and c.from_residual.result c.from_residual.ensures.1 in
    rw (p.1, p.2) (drop_early a.nand.now a.nor.now a.s a.slots a.counts _ c.ground-plain.ensures _ number (refused _))

pub returns-then-s : goal.returns-then-s
returns-then-s c =
    let a = c.args in
    let number = c.in_ok-with_ground_3.ensures ∙ ap (λ (t : Bool). with_ground 3 t (number_in c.ground-plain.result)) c.are_broken.ensures in
    drop_none a.nand.now a.nor.now a.s a.slots a.counts _ c.ground-plain.ensures _ number refl c.if-s.true

pub slot_of-slot-requires : goal.slot_of-slot-requires
slot_of-slot-requires c =
    let a = c.args in
    let number = c.in_ok-with_ground_3.ensures ∙ ap (λ (t : Bool). with_ground 3 t (number_in c.ground-plain.result)) c.are_broken.ensures in
    let st = standing_judged _ _ _ _ _ c.ground-plain.ensures (passed a.nand.now a.nor.now a.s a.slots a.counts _ c.ground-plain.ensures _ number refl).1 in
    (st.serials.first, omega (arith, st.chips.least))

pub without_segment-requires : goal.without_segment-requires
without_segment-requires c =
    let a = c.args in
    let number = c.in_ok-with_ground_3.ensures ∙ ap (λ (t : Bool). with_ground 3 t (number_in c.ground-plain.result)) c.are_broken.ensures in
    let st = standing_judged _ _ _ _ _ c.ground-plain.ensures (passed a.nand.now a.nor.now a.s a.slots a.counts _ c.ground-plain.ensures _ number refl).1 in
    omega (arith, c.slot_of-slot.ensures.1, st.chips.nand_size)

pub returns-in_default : goal.returns-in_default
returns-in_default c =
    let a = c.args in
    let number = c.in_ok-with_ground_3.ensures ∙ ap (λ (t : Bool). with_ground 3 t (number_in c.ground-plain.result)) c.are_broken.ensures in
    let next_is : none ≡ counts_dropped (world a.nand.now a.nor.now a.s) a.slots a.counts = c.in_default.ensures
    ∙ ap (λ (slot : ℕ). without_segment New a.nand.now a.slots slot a.s.current a.counts) c.slot_of-slot.ensures.0 in
    drop_lost a.nand.now a.nor.now a.s a.slots a.counts _ c.ground-plain.ensures _ number refl c.if-s.false (sym next_is)

pub returns-in_err-state : goal.returns-in_err-state
returns-in_err-state c =
    let a = c.args in
    let number = c.in_ok-with_ground_3.ensures ∙ ap (λ (t : Bool). with_ground 3 t (number_in c.ground-plain.result)) c.are_broken.ensures in
    let next_is : some c.in-Some.less ≡ counts_dropped (world a.nand.now a.nor.now a.s) a.slots a.counts = c.in-Some.ensures
    ∙ ap (λ (slot : ℕ). without_segment New a.nand.now a.slots slot a.s.current a.counts) c.slot_of-slot.ensures.0 in
    let p = err_from_is_err_and c.from_residual-in_err-state.result c.from_residual-in_err-state.ensures.1 in
    let never = drop_accepted a.nand.now a.nor.now a.s a.slots a.counts _ c.ground-plain.ensures _ number refl c.if-s.false _ _ _ c.in_err-state.ensures in
    absurd (refused _ never)

pub returns : goal.returns
returns c =
    let a = c.args in
    let number = c.in_ok-with_ground_3.ensures ∙ ap (λ (t : Bool). with_ground 3 t (number_in c.ground-plain.result)) c.are_broken.ensures in
    let next_is : some c.in-Some.less ≡ counts_dropped (world a.nand.now a.nor.now a.s) a.slots a.counts = c.in-Some.ensures
    ∙ ap (λ (slot : ℕ). without_segment New a.nand.now a.slots slot a.s.current a.counts) c.slot_of-slot.ensures.0 in
    drop_done a.nand.now a.nor.now a.s a.slots a.counts _ c.ground-plain.ensures _ number refl c.if-s.false _ (sym next_is) _ _ _
    c.in_ok-state.ensures

-- `store_abi::put` meets its contract: a plain lift in place, any other by value.
use mathlib.Core.Path.{◌≡◌, sym, ap, subst, ◌∙◌}
use lib.IntN.{ℤ}
use mir.Syntax.{w32}
use mir.ValLaws.{to_z-of_z}
use Rattle.areas.specs.Areas.{append_called}
use Rattle.area_append.specs.Inner.Appending.{Appending}
use Rattle.area_append.proofs.Appended.{serials_rise}
use Rattle.area_append.proofs.put.Goals as goal

pub is_plain-requires : goal.is_plain-requires
is_plain-requires c =
    let a = c.args in
    serials_rise a.state.now a.nand.now a.nor.now a.slots a.time a.load a.p c.requires.0 a.f c.requires.1

pub put_plain-requires : goal.put_plain-requires
put_plain-requires c =
    let passed : let a = c.args in (z : ℤ) → z ≡ a.load
    → Appending a.state.now a.nand.now a.nor.now a.slots a.time z a.p = λ z k. let a = c.args in
    subst (λ (l : ℤ). Appending a.state.now a.nand.now a.nor.now a.slots a.time l a.p) (sym k) c.requires.0 in
    record {
      appending = (passed _ (to_z-of_z w32 c.args.load c.ranges.load), c.requires.1);
      p_value = sym (c.is_plain.ensures _ (sym c.requires.1)) ∙ c.if-is_plain.true;
    }

pub returns-then-is_plain : goal.returns-then-is_plain
returns-then-is_plain c =
    let a = c.args in
    c.put_plain.ensures
    ∙ ap (λ (z : ℤ). append_called a.state.now a.nand.now a.nor.now a.slots a.time z a.note)
    (to_z-of_z w32 a.load c.ranges.load)

pub put_by_value-requires : goal.put_by_value-requires
put_by_value-requires c =
    let passed : let a = c.args in (z : ℤ) → z ≡ a.load
    → Appending a.state.now a.nand.now a.nor.now a.slots a.time z a.p = λ z k. let a = c.args in
    subst (λ (l : ℤ). Appending a.state.now a.nand.now a.nor.now a.slots a.time l a.p) (sym k) c.requires.0 in
    passed _ (to_z-of_z w32 c.args.load c.ranges.load)

pub returns : goal.returns
returns c =
    let a = c.args in
    c.put_by_value.ensures
    ∙ ap (λ (z : ℤ). append_called a.state.now a.nand.now a.nor.now a.slots a.time z a.note)
    (to_z-of_z w32 a.load c.ranges.load)

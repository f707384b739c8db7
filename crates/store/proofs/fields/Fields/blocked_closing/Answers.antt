-- `blocked_closing`: the pages of the close.
use mathlib.Core.Path.{◌≡◌, sym, ap, subst, ◌∙◌}
use mathlib.Core.Bool.{not}
use lib.IntN.{ℤ}
use Rattle.flash.specs.Chip.{slot_of}
use Rattle.segment.specs.Pages.{close_erased}
use Rattle.tree.specs.Plan.{no_room}
use Rattle.bounds.specs.Grounds.{ground}
use Rattle.store.specs.declared.State.{State}
use Rattle.store.specs.declared.fields.Fields.{Fields}
use Rattle.store.specs.World.{world}
use Rattle.store.specs.Inner.Fields.{fields_of}
use Rattle.store.specs.Inner.Pieces.{later_ground}
use Rattle.store.proofs.Blocked.{close_blocked}
use native.Mathlib.Omega.{arith}
use Rattle.store.proofs.fields.Fields.blocked_closing.Goals as goal

pub slot_of-slot-requires : goal.slot_of-slot-requires
slot_of-slot-requires c = (c.requires.current_some, c.requires.slots_some)

pub pages_erased-requires : goal.pages_erased-requires
pages_erased-requires c = omega (arith, c.requires.nand_size, c.slot_of-slot.ensures.1)

pub returns-then-not-pages_erased : goal.returns-then-not-pages_erased
returns-then-not-pages_erased c =
    let blocks : let a = c.args in (s : State) (load : ℤ) → fields_of s ≡ a.self
    → ground 11 (not c.pages_erased.result) 0 ≡ later_ground (world a.nand.now a.nor.now s) a.slots load no_room = λ s load e. let a = c.args in
    close_blocked a.nand.now a.nor.now s a.slots load c.requires.nor_size _ _
    (subst (λ (f : Fields). c.slot_of-slot.result ≡ slot_of f.current a.slots) (sym e) c.slot_of-slot.ensures.0)
    (subst (λ (f : Fields). c.pages_erased.result ≡ close_erased a.nand.now c.slot_of-slot.result f.count f.buckets) (sym e)
    c.pages_erased.ensures) in
    λ s load e. ap (λ b. ground 11 b 0) (sym (ap not c.if-not-pages_erased.true)) ∙ blocks s load e

pub returns : goal.returns
returns c =
    let blocks : let a = c.args in (s : State) (load : ℤ) → fields_of s ≡ a.self
    → ground 11 (not c.pages_erased.result) 0 ≡ later_ground (world a.nand.now a.nor.now s) a.slots load no_room = λ s load e. let a = c.args in
    close_blocked a.nand.now a.nor.now s a.slots load c.requires.nor_size _ _
    (subst (λ (f : Fields). c.slot_of-slot.result ≡ slot_of f.current a.slots) (sym e) c.slot_of-slot.ensures.0)
    (subst (λ (f : Fields). c.pages_erased.result ≡ close_erased a.nand.now c.slot_of-slot.result f.count f.buckets) (sym e)
    c.pages_erased.ensures) in
    λ s load e. ap (λ b. ground 11 b 0) (sym (ap not c.if-not-pages_erased.false)) ∙ blocks s load e

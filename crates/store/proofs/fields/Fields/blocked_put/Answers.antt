-- `blocked_put`: the NOR bytes due for writing, then the page that the lift fills.
use mathlib.Core.Path.{◌≡◌, sym, ap, subst, ◌∙◌}
use mathlib.Core.Bool.{not, ◌&&◌}
use Prim.Native.Nat.{◌/◌, ◌%◌}
use lib.Dec.{eqb}
use lib.IntN.{ℤ}
use Rattle.flash.specs.Chip.{slot_of, page_erased}
use Rattle.lift.specs.Limits.{stored}
use Rattle.grow.specs.Inner.Meaning.{meaning}
use Rattle.bounds.specs.Grounds.{ground}
use Rattle.store.specs.declared.State.{State}
use Rattle.store.specs.declared.fields.Fields.{Fields}
use Rattle.store.specs.World.{world}
use Rattle.store.specs.Inner.Fields.{fields_of}
use Rattle.store.specs.Inner.Pieces.{later_ground}
use Rattle.store.proofs.Blocked.{put_damaged, put_unerased}
use native.Mathlib.Omega.{arith}
use Rattle.store.proofs.fields.Fields.blocked_put.Goals as goal

pub is_clear-requires : goal.is_clear-requires
is_clear-requires c =
    let z = c.requires.sized.0 in
    (z.nor_size, z.buckets_most_lem, z.most, c.requires.sized.1)

pub returns-then-not-is_clear : goal.returns-then-not-is_clear
returns-then-not-is_clear c =
    let a = c.args in
    λ s load same e.
    put_damaged a.nand.now a.nor.now s a.slots load _ c.requires.p_value.0 c.requires.p_value.1 _
    (c.is_clear.ensures s load same e) (ap not c.if-not-is_clear.true)

pub slot_of-slot-requires : goal.slot_of-slot-requires
slot_of-slot-requires c = let z = c.requires.sized.0 in (z.current_some, z.slots_some)

pub page_free-requires : goal.page_free-requires
page_free-requires c =
    let z = c.requires.sized.0 in
    (omega (arith, z.nand_size, c.slot_of-slot.ensures.1), z.most)

pub returns-then-not-page_free : goal.returns-then-not-page_free
returns-then-not-page_free c =
    let blocks : let a = c.args in
    (s : State) (load : ℤ) → fields_of s ≡ a.self → a.code ≡ stored load
    → ground 11 (not c.page_free.result) 0
    ≡ later_ground (world a.nand.now a.nor.now s) a.slots load (meaning a.p) = λ s load same e. let a = c.args in
    put_unerased a.nand.now a.nor.now s a.slots load (meaning a.p) c.requires.p_value.0 c.requires.p_value.1 _
    (c.is_clear.ensures s load same e) _ _ (ap not c.if-not-is_clear.false)
    (subst (λ (f : Fields). c.slot_of-slot.result ≡ slot_of f.current a.slots) (sym same) c.slot_of-slot.ensures.0)
    (subst (λ (f : Fields). c.page_free.result
    ≡ not (eqb (f.count % 16) 15 && not (page_erased a.nand.now c.slot_of-slot.result (f.count / 16)))) (sym same)
    c.page_free.ensures) in
    λ s load same e. ap (λ b. ground 11 b 0) (sym (ap not c.if-not-page_free.true)) ∙ blocks s load same e

pub returns : goal.returns
returns c =
    let blocks : let a = c.args in
    (s : State) (load : ℤ) → fields_of s ≡ a.self → a.code ≡ stored load
    → ground 11 (not c.page_free.result) 0
    ≡ later_ground (world a.nand.now a.nor.now s) a.slots load (meaning a.p) = λ s load same e. let a = c.args in
    put_unerased a.nand.now a.nor.now s a.slots load (meaning a.p) c.requires.p_value.0 c.requires.p_value.1 _
    (c.is_clear.ensures s load same e) _ _ (ap not c.if-not-is_clear.false)
    (subst (λ (f : Fields). c.slot_of-slot.result ≡ slot_of f.current a.slots) (sym same) c.slot_of-slot.ensures.0)
    (subst (λ (f : Fields). c.page_free.result
    ≡ not (eqb (f.count % 16) 15 && not (page_erased a.nand.now c.slot_of-slot.result (f.count / 16)))) (sym same)
    c.page_free.ensures) in
    λ s load same e. ap (λ b. ground 11 b 0) (sym (ap not c.if-not-page_free.false)) ∙ blocks s load same e

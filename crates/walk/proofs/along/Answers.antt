-- `walk::along` meets its contract: the hops that are left lead from here to where they lead from the first place.
use mathlib.Core.Path.{refl, ◌∙◌}
use Rattle.walk.proofs.Places.{level_done, next_few, next_inside, next_leads, next_falls, next_sound}
use native.Mathlib.Omega.{arith}
use mathlib.Core.Path.{ap}
use mathlib.Core.Bool.{not}
use Rattle.walk.proofs.along.Goals as goal

pub loop-heads-init : goal.loop-heads-init
loop-heads-init c = (c.requires.place_sound, refl)

pub pointer_from-p-requires : goal.pointer_from-p-requires
pointer_from-p-requires c = (c.loop-heads.invariant.0.inside, c.requires.nand_len.1)

pub returns-then-not-onward : goal.returns-then-not-onward
returns-then-not-onward c =
    record {
      leads = level_done c.args.nand.now c.args.slots c.args.oldest c.args.t2 c.args.heads c.args.k c.loop-heads.w _ c.pointer_from-p.ensures _
          c.is_live.ensures (ap not c.if-not-onward.true) ∙ c.loop-heads.invariant.1;
      sound = c.loop-heads.invariant.0;
    }

pub overflow_add-w : goal.overflow_add-w
overflow_add-w c =
    omega (
      arith,
      next_few c.args.nand.now c.args.slots c.args.oldest c.args.t2 c.args.heads c.args.k c.loop-heads.w _
          c.pointer_from-p.ensures _ c.is_live.ensures
          (ap not c.if-not-onward.false) c.loop-heads.invariant.0,
    )

pub loaded-w-requires : goal.loaded-w-requires
loaded-w-requires c =
    next_inside c.args.nand.now c.args.slots c.args.oldest c.args.t2 c.args.heads c.args.k c.loop-heads.w _
    c.pointer_from-p.ensures _ c.is_live.ensures (ap not c.if-not-onward.false)
    c.requires.nand_len.0 c.loop-heads.invariant.0

pub loop-heads-smaller : goal.loop-heads-smaller
loop-heads-smaller c =
    next_falls c.args.nand.now c.args.slots c.args.oldest c.args.t2 c.args.heads c.args.k c.loop-heads.w _
    c.pointer_from-p.ensures _ c.is_live.ensures (ap not c.if-not-onward.false) _ c.loaded-w.ensures

pub loop-heads-preserved : goal.loop-heads-preserved
loop-heads-preserved c = (
  next_sound c.args.nand.now c.args.slots c.args.oldest c.args.t2 c.args.heads c.args.k c.loop-heads.w _
      c.pointer_from-p.ensures _ c.is_live.ensures (ap not c.if-not-onward.false)
      c.requires.nand_len.0 c.loop-heads.invariant.0 _ c.loaded-w.ensures,
  next_leads c.args.nand.now c.args.slots c.args.oldest c.args.t2 c.args.heads c.args.k c.loop-heads.w _
      c.pointer_from-p.ensures _ c.is_live.ensures (ap not c.if-not-onward.false) _ c.loaded-w.ensures
      ∙ c.loop-heads.invariant.1,
)

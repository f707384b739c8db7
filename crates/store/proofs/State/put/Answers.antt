use mathlib.Core.Path.{ap, ◌∙◌}
use mir.Syntax.{w32}
use mir.ValLaws.{to_z-of_z}
use Rattle.lift.specs.Limits.{stored}
use Rattle.lift.proofs.Codes.{within_limits}
use Rattle.grow.specs.Inner.Meaning.{meaning}
use Rattle.store.proofs.Putting.{put_made}
use native.Mathlib.Omega.{arith}
use Rattle.store.proofs.State.put.Goals as goal

pub indexed-section-requires : goal.indexed-section-requires
indexed-section-requires c =
    let code = c.stored-code.ensures
    ∙ ap stored (to_z-of_z w32 c.args.load c.ranges.load) in
    let n = c.requires.count_le_lifts_most in
    (c.requires.nand_len.1, n.1, n.0, n.2, omega (arith, (within_limits c.args.load c.requires.load_value).low, code))

pub returns : goal.returns
returns c =
    let a = c.args in
    let load = to_z-of_z w32 a.load c.ranges.load in
    let code = c.stored-code.ensures
    ∙ ap stored load in
    put_made a.nand.now a.nor.now _ _ a.self _ a.slots a.time _ a.load _ (meaning a.p) _ _ _ load
    (c.recorded-page.ensures.nand a.load code)
    (c.indexed-section.ensures.nor a.load code) (c.recorded-page.ensures.page a.load code) (c.indexed-section.ensures.section a.load code) c.buckets_after-buckets.ensures c.counted.ensures

-- `shifted`: those behind the first, then the new one.
use Rattle.std.proofs.Common.{◌≡◌, ◌∙◌, ap, rules, length}
use mir.Syntax.{w32}
use mir.Val.{to_z, of_z}
use Rattle.bounds.specs.Lifts.{shifted}
use Rattle.bounds.proofs.Tests.{shifted_copied}
use Rattle.bounds.proofs.shifted.Goals as goal

pub returns : goal.returns
returns c =
    let e : to_z w32 (of_z w32 c.args.load) ≡ c.args.load = search rules in
    let long : length c.args.loads ≡ 13 = search rules in
    shifted_copied c.args.loads _ _ long c.copy_within.ensures.after ∙ ap (shifted c.args.loads) e

-- `stored_loads`: load by load.
use Rattle.std.proofs.Common.{◌≡◌, sym, ◌∙◌, ap, rules, arith, get_or, length, map, pos}
use mir.Val.{to_z, of_z}
use mir.Syntax.{w32}
use lib.ListN.{length-map, length-set}
use Rattle.lift.specs.Limits.{load_ok, stored}
use Rattle.bounds.proofs.Tests.{filled_more, filled_all, load_within, stored_at}
use Rattle.bounds.proofs.stored_loads.Goals as goal

pub stored-requires : goal.stored-requires
stored-requires c =
    let e : to_z w32 (of_z w32 (get_or c.args.loads c.loop-i.i (pos 0))) ≡ get_or c.args.loads c.loop-i.i (pos 0) = search rules in
    let long : length c.args.loads ≡ 13 = search rules in
    ap load_ok e ∙ load_within c.args.loads c.loop-i.i (omega arith) c.requires

pub loop-i-preserved : goal.loop-i-preserved
loop-i-preserved c =
    let e : to_z w32 (of_z w32 (get_or c.args.loads c.loop-i.i (pos 0))) ≡ get_or c.args.loads c.loop-i.i (pos 0) = search rules in
    let long : length c.args.loads ≡ 13 = search rules in (
      simp length-set c.loop-i.invariant.0,
      filled_more c.loop-i.c (map stored c.args.loads) c.loop-i.i _ 0 (omega arith)
          (c.loop-i.invariant.0 ∙ sym (length-map c.args.loads stored ∙ long))
          (stored_at c.args.loads c.loop-i.i _ (omega arith) (c.stored.ensures ∙ ap stored e)) c.loop-i.invariant.1,
    )

pub returns : goal.returns
returns c =
    let long : length c.args.loads ≡ 13 = search rules in
    let i : c.loop-i.i ≡ 13 = omega arith in
    filled_all c.loop-i.c (map stored c.args.loads) 13 c.loop-i.invariant.0
    (length-map c.args.loads stored ∙ long) (rw i at c.loop-i.invariant.1)

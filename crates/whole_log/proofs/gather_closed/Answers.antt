-- `whole_log::gather_closed` meets its contract: the segments in hand and those that are left come to the whole.
use Rattle.std.proofs.lemmas.Result.{err_from_is_err_and}
use Rattle.whole_log.proofs.Turns.{going_begun, going_over, going_spoilt, going_searchable, going_damage, going_on}
use Rattle.whole_log.proofs.gather_closed.Goals as goal

pub loop-s-init : goal.loop-s-init
loop-s-init c = going_begun _ _ _ _ _ _ c.requires.nand_len.2 c.requires.sound

pub returns-in_err-s : goal.returns-in_err-s
returns-in_err-s c =
    let p = err_from_is_err_and c.from_residual.result c.from_residual.ensures.1 in
    let d = c.in_err-s.ensures in
    λ nor page o j.
    rw (p.1, p.2) (d.0, going_spoilt _ _ _ _ _ _ c.requires.nand_len.0 _ _ _ _ c.loop-s.invariant d.1 nor page o j)

pub overflow_sub-low : goal.overflow_sub-low
overflow_sub-low c =
    let v = rw c.in-Some.is at c.in_ok-s.ensures in
    (going_searchable _ _ _ _ _ _ c.requires.nand_len.0 _ _ _ _ c.loop-s.invariant _ _ v).place

pub returns-in_err-gather_one : goal.returns-in_err-gather_one
returns-in_err-gather_one c =
    let v = rw c.in-Some.is at c.in_ok-s.ensures in
    let p = err_from_is_err_and c.from_residual-in_err-gather_one.result c.from_residual-in_err-gather_one.ensures.1 in
    let d = c.in_err-gather_one.ensures.damage in
    λ nor page o j.
    rw (p.1, p.2) (d.0, going_damage _ _ _ _ _ _ c.requires.nand_len.0 _ _ _ _ c.loop-s.invariant _ _ v d.1 nor page o j)

pub loop-s-preserved : goal.loop-s-preserved
loop-s-preserved c =
    let v = rw c.in-Some.is at c.in_ok-s.ensures in
    going_on _ _ _ _ _ _ c.requires.nand_len.0 _ _ _ _ c.loop-s.invariant _ _ v _ _ c.in_ok-gather_one.ensures.put

pub returns : goal.returns
returns c =
    let e = rw c.in_default.is at c.in_ok-s.ensures in
    λ nor page o j. going_over _ _ _ _ _ _ c.requires.nand_len.0 _ _ _ _ c.loop-s.invariant e nor page o j

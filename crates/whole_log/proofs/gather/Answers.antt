-- `whole_log::gather` meets its contract: damage, or the open segment and then the closed ones.
use mathlib.Core.Path.{refl}
use mathlib.Core.Bool.{true, false}
use borrow.Author.Tests.{not-true, not-false}
use Rattle.std.proofs.lemmas.Result.{err_from_is_err_and}
use Rattle.found.proofs.Counts.{never}
use Rattle.whole_log.proofs.Whole.{begun, all_spoilt, gathered_open}
use Rattle.whole_log.proofs.gather.Goals as goal

pub returns-then-not-c : goal.returns-then-not-c
returns-then-not-c c = (
  refl,
  all_spoilt _ _ _ _ _ c.requires.log_sound.0 _ c.start_of.ensures.at true (λ e. never e)
      (rw (not-true c.start_of.result.at.good c.if-not-c.true) refl),
)

pub returns-in_err-gather_open : goal.returns-in_err-gather_open
returns-in_err-gather_open c =
    let p = err_from_is_err_and c.from_residual.result c.from_residual.ensures.1 in
    let d = c.in_err-gather_open.ensures.damage in
    rw (p.1, p.2) (
      d.0,
      all_spoilt _ _ _ _ _ c.requires.log_sound.0 _ c.start_of.ensures.at false (λ e. d.1)
          (rw (not-false c.start_of.result.at.good c.if-not-c.false) refl),
    )

pub gather_closed-requires-clause-sound : goal.gather_closed-requires-clause-sound
gather_closed-requires-clause-sound c =
    let a = c.args in
    (begun a.nand.now a.nor.now a.page.now a.g a.q c.requires.log_sound.0 _ c.start_of.ensures.at).sound

pub returns : goal.returns
returns c =
    let a = c.args in
    c.gather_closed.ensures _ _ _
    (gathered_open a.nand.now a.nor.now a.page.now a.g a.q c.requires.log_sound.0 _ c.start_of.ensures.at c.requires.page_len.0 _ _
    c.requires.log_sound.1 _ _ c.in_ok-gather_open.ensures.put (not-false c.start_of.result.at.good c.if-not-c.false))

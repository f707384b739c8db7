-- `tally::tally_in` meets its contract: damage, or the counts of what is found.
use mathlib.Core.Path.{◌≡◌, sym, ◌∙◌}
use Rattle.std.specs.Prelude.{Err}
use Rattle.skiplist.specs.Skip.{serials_from}
use borrow.Author.Rules.{rules}
use borrow.Author.Tests.{not-false, not-true}
use Rattle.found.proofs.All.{begun_at}
use Rattle.tally.proofs.PlateTurns.{first_few, tally_lost, tally_none, tally_whole}
use Rattle.tally.proofs.tally_in.Goals as goal

pub returns-then-not-c : goal.returns-then-not-c
returns-then-not-c c =
    let a = c.args in
    tally_lost a.nand.now a.nor.now a.page.now a.g (serials_from a.g.oldest) a.q _ c.start_of.ensures.at (not-true _ c.if-not-c.true)

pub returns-in_err-newest : goal.returns-in_err-newest
returns-in_err-newest c =
    let a = c.args in
    let e : c.from_residual.result ≡ Err c.in_err-newest.field-0.0 = search rules in
    let b = begun_at a.nand.now a.g (serials_from a.g.oldest) a.q _ c.requires.log_sound.heads_in c.start_of.ensures.at in
    rw e (tally_none a.nand.now a.nor.now a.page.now a.g (serials_from a.g.oldest) a.q _ c.start_of.ensures.at c.requires.log_sound.nand_size b
    (not-false _ c.if-not-c.false) _ (sym c.in_err-newest.was ∙ c.tally_open.ensures))

pub tally_closed-requires : goal.tally_closed-requires
tally_closed-requires c =
    let a = c.args in
    let b = begun_at a.nand.now a.g (serials_from a.g.oldest) a.q _ c.requires.log_sound.heads_in c.start_of.ensures.at in
    record {
      nand_len = (c.requires.log_sound.nand_size, c.requires.le_k1);
      sound = b.sound;
      none_above = first_few a.nand.now a.nor.now a.page.now a.g (serials_from a.g.oldest) a.q _ c.start_of.ensures.at
          c.requires.log_sound.nand_size b (not-false _ c.if-not-c.false) _ (sym c.in_ok-newest.was ∙ c.tally_open.ensures);
    }

pub returns-in_err-all : goal.returns-in_err-all
returns-in_err-all c =
    let a = c.args in
    let e : c.from_residual-in_err-all.result ≡ Err c.in_err-all.field-0.0 = search rules in
    let b = begun_at a.nand.now a.g (serials_from a.g.oldest) a.q _ c.requires.log_sound.heads_in c.start_of.ensures.at in
    rw e (tally_whole a.nand.now a.nor.now a.page.now a.g (serials_from a.g.oldest) a.q _ c.start_of.ensures.at c.requires.log_sound.nand_size b
    (not-false _ c.if-not-c.false) _ (sym c.in_ok-newest.was ∙ c.tally_open.ensures) _ (sym c.in_err-all.was ∙ c.tally_closed.ensures))

pub returns : goal.returns
returns c =
    let a = c.args in
    let b = begun_at a.nand.now a.g (serials_from a.g.oldest) a.q _ c.requires.log_sound.heads_in c.start_of.ensures.at in
    tally_whole a.nand.now a.nor.now a.page.now a.g (serials_from a.g.oldest) a.q _ c.start_of.ensures.at c.requires.log_sound.nand_size b
    (not-false _ c.if-not-c.false) _ (sym c.in_ok-newest.was ∙ c.tally_open.ensures) _ (sym c.in_ok-all.was ∙ c.tally_closed.ensures)

-- `found::count_all` meets its contract: damage, or the closed segments with the open one.
use mathlib.Core.Path.{sym, ◌∙◌}
use Rattle.skiplist.specs.Skip.{serials_from}
use Rattle.found.proofs.All.{count_few, count_whole}
use native.Mathlib.Omega.{arith}
use borrow.Author.Tests.{not-false}
use Rattle.found.proofs.count_all.Goals as goal

pub count_closed-requires : goal.count_closed-requires
count_closed-requires c =
    let a = c.args in
    let f = count_few a.nand.now a.nor.now a.page.now a.g (serials_from a.g.oldest) a.q a.c a.moves _
    (sym c.in_ok-newest.was ∙ c.count_open.ensures) in
    record {
      nand_len = (c.requires.log_sound.nand_size, c.requires.page_len.1, f.few);
      sound = (c.requires.begun.sound, f.bloom_none, f.tree_none);
    }

pub returns : goal.returns
returns c =
    c.count_closed.ensures
    ∙ count_whole _ _ _ _ _ _ _ _ _ (sym c.in_ok-newest.was ∙ c.count_open.ensures) c.requires.log_sound.nand_size c.requires.begun
    (not-false _ c.if-not-c.false)

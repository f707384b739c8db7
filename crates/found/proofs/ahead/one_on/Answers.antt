-- `found::ahead::one_on` meets its contract: the end, or what is seen of the next segment.
use mathlib.Core.Path.{sym, ◌∙◌}
use Rattle.walk.proofs.Steps.{advance_end, advance_inside, advance_on}
use Rattle.found.proofs.Tried.{tried_none, tried_there}
use Rattle.found.proofs.ahead.one_on.Goals as goal

pub returns-then-at_end : goal.returns-then-at_end
returns-then-at_end c =
    let e = advance_end _ _ _ _ _ _ c.at_end.ensures c.if-at_end.true in
    record { step = e; bloom = tried_none _ _ _ _ _ (sym e) }

pub look-seen-requires : goal.look-seen-requires
look-seen-requires c =
    let a = c.args in (
      advance_inside a.nand.now a.slots a.oldest a.q a.c _ c.at_end.ensures c.if-at_end.false c.requires.nand_len.0 c.requires.sound,
      c.requires.nand_len.1,
    )

pub returns : goal.returns
returns c =
    let a = c.args in
    record {
      step = advance_on a.nand.now a.slots a.oldest a.q a.c _ c.at_end.ensures c.if-at_end.false c.look-seen.result c.step_of.result
          c.step_of.ensures c.look-seen.ensures.step;
      bloom = c.bloom_of.ensures ∙ c.look-seen.ensures.bloom ∙ tried_there _ _ _ _ _ (sym c.at_end.ensures ∙ c.if-at_end.false);
    }

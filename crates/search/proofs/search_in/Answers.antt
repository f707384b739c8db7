-- `search::search_in` meets its contract: damage, an area too small, or the rows found.
use mathlib.Core.Path.{◌≡◌, refl, sym, ap, ap₂, ◌∙◌}
use Rattle.std.specs.Prelude.{Err}
use Rattle.grounds.specs.declared.Ground.TheVariants.{Damage}
use Rattle.skiplist.specs.Skip.{serials_from}
use Rattle.found.proofs.All.{begun_at}
use Rattle.search.specs.Answers.{answer_of}
use Rattle.search.proofs.Answered.{counted_is, answer_damage, answer_small, answer_found, answer_whole}
use borrow.Author.Rules.{rules}
use native.Mathlib.Omega.{arith}
use Rattle.search.proofs.search_in.Goals as goal

pub count_all-requires-clause-begun : goal.count_all-requires-clause-begun
count_all-requires-clause-begun c =
    let a = c.args in
    begun_at a.nand.now a.g (serials_from a.g.oldest) a.q _ c.requires.log_sound.heads_in c.start_of-start.ensures.at

pub returns-in_err-n : goal.returns-in_err-n
returns-in_err-n c =
    let e : c.from_residual.result ≡ Err c.in_err-n.field-0.0 = search rules in
    let none = c.in_err-n.ensures.ok_part in
    let v = rw none at c.in_err-n.ensures.value in
    let d : c.in_err-n.field-0.0 ≡ Damage = cc in
    rw (e, d) (answer_damage _ _ _ (sym none ∙ c.count_all.ensures)
    ∙ answer_whole _ _ _ _ _ _ _ _ c.start_of-start.ensures.at _ c.start_of-start.ensures.moves)

pub returns-then-rows-total : goal.returns-then-rows-total
returns-then-rows-total c =
    answer_small _ _ _ _ (sym c.in_ok-n.ensures.ok_part ∙ c.count_all.ensures) _ refl c.if-rows-total.true
    ∙ answer_whole _ _ _ _ _ _ _ _ c.start_of-start.ensures.at _ c.start_of-start.ensures.moves

pub write_all-requires : goal.write_all-requires
write_all-requires c =
    let a = c.args in
    record {
      log_sound = c.requires.log_sound;
      page_len = (c.requires.page_len, c.requires.le_k1, omega (arith, c.if-rows-total.false));
      begun = begun_at a.nand.now a.g (serials_from a.g.oldest) a.q _ c.requires.log_sound.heads_in c.start_of-start.ensures.at;
      count_is = counted_is c.args.area.now _ _ _ (sym c.in_ok-n.ensures.ok_part ∙ c.count_all.ensures);
    }

pub returns : goal.returns
returns c =
    answer_found _ _ _ _ (sym c.in_ok-n.ensures.ok_part ∙ c.count_all.ensures) _ refl c.if-rows-total.false _ c.write_all.ensures
    ∙ answer_whole _ _ _ _ _ _ _ _ c.start_of-start.ensures.at _ c.start_of-start.ensures.moves

-- `tolerant::pieces::list_both` meets its contract: damage, an area too small, or both lists in their areas.
use mathlib.Core.Path.{◌≡◌, refl, sym, ap, subst, ◌∙◌}
use lib.ListN.{length}
use Rattle.skiplist.specs.Skip.{serials_from}
use Rattle.walk.specs.Inner.Sound.{Begun}
use Rattle.found.specs.Found.{found_rows}
use Rattle.found.specs.Inner.Turns.{all_rows}
use Rattle.found.proofs.All.{begun_at, found_is}
use Rattle.found.proofs.InRange.{found_wide}
use Rattle.found.proofs.Wide.{AllIn}
use Rattle.search.specs.Inner.Turns.{written_in, CountIs}
use Rattle.std.proofs.lemmas.Result.{err_from_is_err_and}
use Rattle.tolerant.specs.Inner.Counted.{CountsBoth}
use Rattle.tolerant.proofs.Listed.{listed_damage, listed_count, listed_small, possible_fits, rows_inside, picked_room, listed_both_lem}
use Rattle.tolerant.proofs.pieces.list_both.Goals.{After-start_of-start, In_ok-n}
use Rattle.tolerant.proofs.pieces.list_both.Goals as goal

begun : (c : After-start_of-start) → Begun c.args.g c.start_of-start.result.at
begun c =
    let a = c.args in
    begun_at a.nand.now a.g (serials_from a.g.oldest) a.q _ c.requires.log_sound.heads_in c.start_of-start.ensures.at

-- what is found, segment by segment
all_found : (c : After-start_of-start) → let a = c.args in
    all_rows a.nand.now a.nor.now a.page.now a.g (serials_from a.g.oldest) a.q c.start_of-start.result.at
    ≡ found_rows a.nand.now a.nor.now a.page.now a.g (serials_from a.g.oldest) a.q
all_found c = found_is _ _ _ _ _ _ _ c.start_of-start.ensures.at

wide : (c : After-start_of-start) → let a = c.args in
    AllIn (λ r. length r ≡ 32) (found_rows a.nand.now a.nor.now a.page.now a.g (serials_from a.g.oldest) a.q)
wide c = found_wide _ _ _ _ _ _ c.requires.log_sound c.requires.page_len.0

counts : (c : In_ok-n) → let a = c.args in
    CountsBoth a.e (found_rows a.nand.now a.nor.now a.page.now a.g (serials_from a.g.oldest) a.q) c.in_ok-n.n
counts c =
    subst (λ x. CountsBoth c.args.e x c.in_ok-n.n) (c.in_ok-first.ensures.turn.rows ∙ found_is _ _ _ _ _ _ _ c.start_of-start.ensures.at)
    c.in_ok-n.ensures.counts

pub first-requires-clause-begun : goal.first-requires-clause-begun
first-requires-clause-begun c = begun (goal.at.first-requires-clause-begun c).After-start_of-start

pub returns-in_err-first : goal.returns-in_err-first
returns-in_err-first c =
    let p = err_from_is_err_and c.from_residual.result c.from_residual.ensures.1 in
    let d = c.in_err-first.ensures.damage in
    rw (p.1, p.2, d.0)
    (listed_damage _ _ _ _ (sym (all_found (goal.at.returns-in_err-first c).After-start_of-start) ∙ d.1))

pub returns-in_err-n : goal.returns-in_err-n
returns-in_err-n c =
    let p = err_from_is_err_and c.from_residual-in_err-n.result c.from_residual-in_err-n.ensures.1 in
    let d = c.in_err-n.ensures.damage in
    rw (p.1, p.2, d.0)
    (listed_damage _ _ _ _ (sym (c.in_ok-first.ensures.turn.rows ∙ all_found (goal.at.returns-in_err-n c).After-start_of-start) ∙ d.1))

pub returns-then-certain_rows-n : goal.returns-then-certain_rows-n
returns-then-certain_rows-n c =
    listed_small _ _ _ _ _ (counts (goal.at.returns-then-certain_rows-n c).In_ok-n) _ _ refl refl c.if-certain_rows-n.true

pub write_all-requires : goal.write_all-requires
write_all-requires c =
    let a = c.args in
    let n = counts (goal.at.write_all-requires c).In_ok-n in
    record {
      log_sound = c.requires.log_sound;
      page_len = (
        c.requires.page_len.0,
        c.requires.page_len.1,
        possible_fits a.certain.now a.possible.now a.e _ _ n _ _ refl refl c.if-certain_rows-n.false,
      );
      begun = begun (goal.at.write_all-requires c).After-start_of-start;
      count_is = subst (CountIs c.in_ok-n.n.possible) (sym (all_found (goal.at.write_all-requires c).After-start_of-start))
          (listed_count a.certain.now a.possible.now a.e _ _ n);
    }

pub pick_certain-requires : goal.pick_certain-requires
pick_certain-requires c =
    let a = c.args in
    let n = counts (goal.at.pick_certain-requires c).In_ok-n in
    let started = (goal.at.pick_certain-requires c).After-start_of-start in
    let all = c.write_all.ensures ∙ ap (written_in a.possible.now) (all_found started) in
    record {
      record_width_in_bounds = rows_inside a.certain.now a.possible.now a.e _ _ n _ _ refl refl c.if-certain_rows-n.false (wide started) _ all;
      record_width_in_bounds_2 = picked_room a.certain.now a.possible.now a.e _ _ n _ _ refl refl c.if-certain_rows-n.false (wide started) _ all;
    }

pub returns : goal.returns
returns c =
    let a = c.args in
    let started = (goal.at.returns c).After-start_of-start in
    listed_both_lem a.certain.now a.possible.now _ _ _ (counts (goal.at.returns c).In_ok-n) _ _ refl refl c.if-certain_rows-n.false
    (wide started) _ (c.write_all.ensures ∙ ap (written_in a.possible.now) (all_found started)) _ c.pick_certain.ensures

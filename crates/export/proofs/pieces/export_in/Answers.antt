-- `export::pieces::export_in` meets its contract: damage, an area too small, or the text.
use mathlib.Core.Path.{◌≡◌, refl, sym, ap, subst, ◌∙◌}
use Rattle.std.specs.Prelude.{Some}
use Rattle.skiplist.specs.Skip.{serials_from}
use Rattle.walk.specs.Inner.Sound.{Begun}
use Rattle.found.specs.Found.{found_rows}
use Rattle.found.specs.Inner.Turns.{all_rows}
use Rattle.found.proofs.All.{begun_at, found_is}
use Rattle.each_segment.specs.Inner.Turns.{rows_left}
use Rattle.std.proofs.lemmas.Result.{err_from_is_err_and}
use Rattle.export.specs.Inner.Sizing.{SizeIs, EndsAt, lines_from}
use Rattle.export.proofs.Answered.{export_damage, ends_at, export_small, export_text}
use borrow.Author.Rules.{rules}
use Rattle.export.proofs.pieces.export_in.Goals.{After-start_of-start, In_ok-first, In_ok-bytes}
use Rattle.export.proofs.pieces.export_in.Goals as goal

begun : (c : After-start_of-start) → Begun c.args.g c.start_of-start.result.at
begun c =
    let a = c.args in
    begun_at a.nand.now a.g (serials_from a.g.oldest) a.q _ c.requires.log_sound.heads_in c.start_of-start.ensures.at

-- what is found, segment by segment
all_found : (c : After-start_of-start) → let a = c.args in
    all_rows a.nand.now a.nor.now a.page.now a.g (serials_from a.g.oldest) a.q c.start_of-start.result.at
    ≡ found_rows a.nand.now a.nor.now a.page.now a.g (serials_from a.g.oldest) a.q
all_found c = found_is _ _ _ _ _ _ _ c.start_of-start.ensures.at

all_left : (c : In_ok-first) → let a = c.args in
    rows_left a.nand.now a.g.slots (serials_from a.g.oldest) a.q a.page.now (Some c.in_ok-first.first)
    ≡ found_rows a.nand.now a.nor.now a.page.now a.g (serials_from a.g.oldest) a.q
all_left c = c.in_ok-first.ensures.turn.rows ∙ found_is _ _ _ _ _ _ _ c.start_of-start.ensures.at

sized : (c : In_ok-bytes) → let a = c.args in
    SizeIs (found_rows a.nand.now a.nor.now a.page.now a.g (serials_from a.g.oldest) a.q) c.in_ok-bytes.bytes
sized c =
    subst (λ x. SizeIs x c.in_ok-bytes.bytes) (c.in_ok-first.ensures.turn.rows ∙ found_is _ _ _ _ _ _ _ c.start_of-start.ensures.at)
    c.in_ok-bytes.ensures.size

pub first-requires-clause-begun : goal.first-requires-clause-begun
first-requires-clause-begun c = begun (goal.at.first-requires-clause-begun c).After-start_of-start

pub returns-in_err-first : goal.returns-in_err-first
returns-in_err-first c =
    let p = err_from_is_err_and c.from_residual.result c.from_residual.ensures.1 in
    let d = c.in_err-first.ensures.damage in
    rw (p.1, p.2, d.0)
    (export_damage _ _ (sym (all_found (goal.at.returns-in_err-first c).After-start_of-start) ∙ d.1))

pub returns-in_err-bytes : goal.returns-in_err-bytes
returns-in_err-bytes c =
    let p = err_from_is_err_and c.from_residual-in_err-bytes.result c.from_residual-in_err-bytes.ensures.1 in
    let d = c.in_err-bytes.ensures.damage in
    rw (p.1, p.2, d.0) (export_damage _ _ (sym (all_left (goal.at.returns-in_err-bytes c).In_ok-first) ∙ d.1))

pub returns-then-area-long : goal.returns-then-area-long
returns-then-area-long c =
    export_small _ _ _ (sized (goal.at.returns-then-area-long c).In_ok-bytes) _ refl c.if-area-long.true

pub write_lines-requires-clause-ends_at : goal.write_lines-requires-clause-ends_at
write_lines-requires-clause-ends_at c = (
  subst (EndsAt _) (sym (all_left (goal.at.write_lines-requires-clause-ends_at c).In_ok-first))
      (ends_at c.args.area.now _ _ (sized (goal.at.write_lines-requires-clause-ends_at c).In_ok-bytes) _ refl),
  search rules,
)

pub returns : goal.returns
returns c =
    export_text c.args.area.now _ _ (sized (goal.at.returns c).In_ok-bytes) _ refl c.if-area-long.false _ _
    c.put_heading.ensures (c.write_lines.ensures ∙ ap (lines_from _) (all_left (goal.at.returns c).In_ok-first))

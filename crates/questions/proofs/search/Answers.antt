-- `search`: what `search_from` gives of the state's own log and page.
use mathlib.Core.Path.{◌≡◌, refl, sym, ap₂, ◌∙◌}
use lib.ListN.{length}
use mir.Syntax.{w32}
use mir.ValLaws.{to_z-of_z}
use Rattle.store.specs.World.{world}
use Rattle.questions.specs.Queries.{search_outcome}
use Rattle.form.specs.declared.Form.TheVariants.{New}
use Rattle.questions.proofs.Asked.{log_sound}
use borrow.Author.Rules.{rules}
use native.Mathlib.Omega.{arith}
use Rattle.questions.proofs.search.Goals as goal

pub slice_bounds-search_from-end : goal.slice_bounds-search_from-end
slice_bounds-search_from-end c =
    let page-long : length c.args.s.page ≡ 512 = search rules in
    sym page-long

pub search_from-requires : goal.search_from-requires
search_from-requires c =
    let page-long : length c.args.s.page ≡ 512 = search rules in
    let a = c.args in
    record {
      log_sound = λ z. log_sound a.nand.now a.nor.now a.s a.slots _ c.ground-judged.ensures z _ c.log_of-g.ensures;
      page_len = page-long;
    }

pub returns : goal.returns
returns c =
    let a = c.args in
    c.search_from.ensures a.s a.slots c.ground-judged.ensures c.log_of-g.ensures refl
    ∙ ap₂ (λ k1 k2. search_outcome (world a.nand.now a.nor.now a.s) a.slots a.t1 a.t2 k1 k2 a.area.now)
    (to_z-of_z w32 a.k1 c.ranges.k1) (to_z-of_z w32 a.k2 c.ranges.k2)

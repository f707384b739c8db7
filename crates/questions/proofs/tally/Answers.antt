-- `tally`: what `tally_from` gives of the state's own log and page.
use mathlib.Core.Path.{◌≡◌, refl, sym, ◌∙◌}
use lib.ListN.{length}
use Rattle.form.specs.declared.Form.TheVariants.{New}
use Rattle.questions.proofs.Asked.{log_sound}
use borrow.Author.Rules.{rules}
use native.Mathlib.Omega.{arith}
use Rattle.questions.proofs.tally.Goals as goal

pub slice_bounds-tally_from-end : goal.slice_bounds-tally_from-end
slice_bounds-tally_from-end c =
    let page-long : length c.args.s.page ≡ 512 = search rules in
    sym page-long

pub tally_from-requires : goal.tally_from-requires
tally_from-requires c =
    let page-long : length c.args.s.page ≡ 512 = search rules in
    let a = c.args in
    record {
      log_sound = λ z. log_sound a.nand.now a.nor.now a.s a.slots _ c.ground-judged.ensures z _ c.log_of-g.ensures;
      page_len = page-long;
    }

pub returns : goal.returns
returns c =
    let a = c.args in
    c.tally_from.ensures a.s a.slots c.ground-judged.ensures c.log_of-g.ensures refl

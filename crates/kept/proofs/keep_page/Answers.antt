-- `kept::keep_page` meets its contract: the page fills its area.
use mathlib.Core.Path.{◌≡◌, sym, ◌∙◌}
use lib.ListN.{length}
use Rattle.codec.proofs.Areas.{splice_all}
use Rattle.service_page.proofs.PageWritten.{length_page}
use Rattle.kept.proofs.Kept.{kept_new, kept_old}
use borrow.Author.Rules.{rules}
use Rattle.kept.proofs.keep_page.Goals as goal

pub returns-then-number-eq0 : goal.returns-then-number-eq0
returns-then-number-eq0 c =
    let n : length c.args.counts ≡ 22 = search rules in
    c.put_page.ensures ∙ splice_all _ _ (length_page _ _ c.args.counts n ∙ sym c.requires.0)
    ∙ sym (kept_new _ _ _ c.if-number-eq0.true)

pub returns-else-number-eq0 : goal.returns-else-number-eq0
returns-else-number-eq0 c = sym (kept_old _ _ _ c.if-number-eq0.false)

-- `desk::pushed` meets its contract, by whether there is room.
use mathlib.Core.Path.{◌≡◌, refl}
use lib.ListN.{length}
use Rattle.desk.proofs.Typing.{push_more, push_full}
use borrow.Author.Rules.{rules}
use Rattle.desk.proofs.pushed.Goals as goal

pub returns-then-n-lt-LINE_BYTES : goal.returns-then-n-lt-LINE_BYTES
returns-then-n-lt-LINE_BYTES c =
    let n : length c.args.s.line ≡ 48 = search rules in
    (search rules, (refl, push_more _ _ _ n c.if-n-lt-LINE_BYTES.true))

pub returns-else-n-lt-LINE_BYTES : goal.returns-else-n-lt-LINE_BYTES
returns-else-n-lt-LINE_BYTES c =
    let n : length c.args.s.line ≡ 48 = search rules in
    (search rules, (refl, push_full _ _ _ n c.requires c.if-n-lt-LINE_BYTES.false))

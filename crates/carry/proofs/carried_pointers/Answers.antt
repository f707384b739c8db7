-- `carried_pointers`: one level after the other.
use mathlib.Core.Path.{◌≡◌, refl}
use lib.ListN.{length}
use Rattle.carry.proofs.Carrying.{four_carried}
use borrow.Author.Rules.{rules}
use Rattle.carry.proofs.carried_pointers.Goals as goal

pub returns : goal.returns
returns c =
    let long : length c.args.p ≡ 4 = search rules in
    four_carried c.args.form c.args.n c.args.p _ _ _ _ _ long (c.carried_pointer-a.ensures 0 refl)
    (c.carried_pointer-b.ensures 1 refl) (c.carried_pointer-c.ensures 2 refl)
    (c.carried_pointer-d.ensures 3 refl)

-- `heads_ok`: one head after the other.
use mathlib.Core.Path.{◌≡◌}
use lib.ListN.{length}
use Rattle.store.proofs.Grounds.{four_heads}
use borrow.Author.Rules.{rules}
use Rattle.store.proofs.heads_ok.Goals as goal

pub returns : goal.returns
returns c =
    let long : length c.args.heads ≡ 4 = search rules in
    four_heads _ c.args.heads _ _ _ _ _ long c.in_slots.ensures c.in_slots-2.ensures
    c.in_slots-3.ensures c.in_slots-4.ensures

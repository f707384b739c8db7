-- `write_pairs` meets its contract: the second log gathered anew, and the pass that writes.
use Rattle.pairs.proofs.Paired.{known_hand, pass_writes}
use Rattle.pairs.proofs.pieces.write_pairs.Goals as goal

pub returns-in-Ok : goal.returns-in-Ok
returns-in-Ok c =
    pass_writes _ _ _ _ _ _ _ _ _ c.requires.lends _ _ _ _ _ _ _ _ (known_hand _ _ _ _ _ _ _ _ _ _ c.in-Ok.ensures c.requires.le_k1.2) _ _ _ _
    c.join_all.ensures c.requires.le_k1.1

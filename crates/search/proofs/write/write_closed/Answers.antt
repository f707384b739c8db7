-- `search::write::write_closed` meets its contract: what is written and what is left come to the whole.
use mathlib.Core.Path.{◌≡◌}
use Rattle.std.specs.Prelude.{Ok, None}
use Rattle.search.proofs.Written.{write_over, write_again}
use Rattle.search.proofs.write.write_closed.Goals as goal

pub loop-s-preserved : goal.loop-s-preserved
loop-s-preserved c =
    write_again _ _ _ _ _ _ _ _ _ c.loop-s.invariant _ _ (rw (c.in-Ok-Some.is, c.in-Ok-Some.field-0-is) at c.onward.ensures)
    c.requires.nand_len.0 _ _ c.write_one-end.ensures

pub returns-in_default : goal.returns-in_default
returns-in_default c =
    let e : c.onward.result ≡ Ok None = cc in
    write_over _ _ _ _ _ _ _ _ _ c.loop-s.invariant (rw e at c.onward.ensures)

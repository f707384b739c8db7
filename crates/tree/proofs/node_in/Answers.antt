-- `tree::node_in` meets its contract: each field is read once, and the bucket is judged whole.
use mathlib.Core.Path.{refl}
use Rattle.tree.proofs.Looked.{seen}
use Rattle.tree.proofs.node_in.Goals as goal

pub returns-then-not-is_whole : goal.returns-then-not-is_whole
returns-then-not-is_whole c =
    seen _ _ _ _ _ _ _ _ _ _
    c.get_u32-x.ensures
    c.get_u32-y.ensures
    c.get_u32-mid.ensures
    c.get_u8-left.ensures
    c.get_u8-right.ensures
    c.kids_ok.ensures
    _ c.if-not-is_whole.true _ refl

pub returns-in_err-used : goal.returns-in_err-used
returns-in_err-used c =
    rw c.from_residual.ensures
    (seen _ _ _ _ _ _ _ _ _ _
    c.get_u32-x.ensures
    c.get_u32-y.ensures
    c.get_u32-mid.ensures
    c.get_u8-left.ensures
    c.get_u8-right.ensures
    c.kids_ok.ensures
    _ c.if-not-is_whole.false _ c.in_err-used.ensures)

pub returns : goal.returns
returns c =
    seen _ _ _ _ _ _ _ _ _ _
    c.get_u32-x.ensures
    c.get_u32-y.ensures
    c.get_u32-mid.ensures
    c.get_u8-left.ensures
    c.get_u8-right.ensures
    c.kids_ok.ensures
    _ c.if-not-is_whole.false _ c.in_ok-used.ensures

use Rattle.skiplist.specs.PointerBytes.{pointers_at}
use Rattle.skiplist.proofs.pointers_at.Goals as goal

pub returns : goal.returns
unfolding pointers_at
returns c =
    rw (
      c.pointer_at-d.ensures,
      c.pointer_at-c.ensures,
      c.pointer_at-b.ensures,
      c.pointer_at-a.ensures,
      c.pointer_bytes-n.ensures,
    )

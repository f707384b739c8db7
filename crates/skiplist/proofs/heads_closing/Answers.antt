-- `heads_closing`: the level of the serial, a pointer to it, then the heads.
use mathlib.Core.List.{List}
use mathlib.Core.Path.{◌≡◌}
use Prim.Native.Nat.{ℕ}
use Rattle.skiplist.specs.declared.Pointer.{Pointer}
use Rattle.skiplist.specs.Skip.{level_of, pointer, heads_after}
use Rattle.skiplist.proofs.heads_closing.Goals as goal

closing : (heads after : List Pointer) (slot serial start level : ℕ) (p : Pointer) → level ≡ level_of serial → p ≡ pointer slot serial start
    → after ≡ heads_after heads level p → after ≡ heads_after heads (level_of serial) (pointer slot serial start)
closing heads after slot serial start level p e f g = rw (g, e, f)

pub returns : goal.returns
returns c = closing _ _ _ _ _ _ _ c.level_of-level.ensures.0 c.new-p.ensures c.heads_after.ensures

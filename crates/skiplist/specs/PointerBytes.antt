-- A pointer in bytes (document 01; document 02, W-202): slot (2), in form 1 serial (4), start time (8). Assumes nothing.
use Rattle.std.specs.Prelude.{List, [], ◌∷◌, ◌++◌, ℕ, ◌+◌, ◌*◌}
use Rattle.codec.specs.Number.{bytes, number_at}
use Rattle.form.specs.declared.Form.{Form}
use Rattle.form.specs.Forms.{serial_width, pointer_width}
use Rattle.skiplist.specs.declared.Pointer.{Pointer}
use Rattle.skiplist.specs.Skip.{pointer}

-- the bytes of a pointer
unfoldable pub pointer_bytes : Form → Pointer → List ℕ
pointer_bytes f p = bytes 2 p.slot ++ (bytes (serial_width f) p.serial ++ bytes 8 p.time)

-- pointers side by side
unfoldable pub pointers_bytes : Form → List Pointer → List ℕ
pointers_bytes f [] = []
pointers_bytes f (p ∷ ps) = pointer_bytes f p ++ pointers_bytes f ps

-- the pointer in the bytes from `at`
unfoldable pub pointer_at : Form → List ℕ → ℕ → Pointer
pointer_at f s at = pointer (number_at s at 2) (number_at s (at + 2) (serial_width f)) (number_at s (at + 2 + serial_width f) 8)

-- the four pointers side by side from `at`
unfoldable pub pointers_at : Form → List ℕ → ℕ → List Pointer
pointers_at f s at =
    pointer_at f s at ∷ pointer_at f s (at + pointer_width f) ∷ pointer_at f s (at + 2 * pointer_width f)
    ∷ pointer_at f s (at + 3 * pointer_width f) ∷ []

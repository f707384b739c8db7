-- The fields of a state in the groups that the code writes. Assumes nothing.
use Rattle.std.specs.Prelude.{List, [], ◌++◌, ℕ, ℤ}
use Rattle.codec.specs.Number.{bytes}
use Rattle.form.specs.declared.Form.{Form}
use Rattle.skiplist.specs.declared.Pointer.{Pointer}
use Rattle.skiplist.specs.PointerBytes.{pointers_bytes}
use Rattle.store.specs.declared.State.{State}
use Rattle.state_bytes.specs.declared.pieces.Counters.{Counters}
use Rattle.state_bytes.specs.declared.pieces.Span.{Span}
use Rattle.loads.specs.Signed.{load_bytes, loads_bytes}

-- those before the heads that both forms have, and those behind the buffers
abbrev pub counters_of : State → Counters
counters_of s = record {
  oldest = s.oldest;
  current = s.current;
  count = s.count;
  buckets = s.buckets;
  next = s.next;
}

abbrev pub span_of : State → Span
span_of s = record { start = s.start; low = s.low; high = s.high }

unfoldable pub counters_bytes : Counters → List ℕ
counters_bytes c =
    bytes 4 c.oldest ++ bytes 4 c.current ++ bytes 2 c.count ++ bytes 1 c.buckets ++ bytes 8 c.next

unfoldable pub span_bytes : Span → List ℕ
span_bytes s = bytes 8 s.start ++ load_bytes s.low ++ load_bytes s.high

-- all fields side by side
unfoldable pub fields_bytes : Form → List ℕ → Counters → List Pointer → List ℤ → List ℕ → List ℕ → Span → List ℕ
fields_bytes f live c heads loads page section s =
    (((((counters_bytes c ++ live) ++ pointers_bytes f heads) ++ loads_bytes loads) ++ page) ++ section) ++ span_bytes s

-- the same in form 1 with the bytes of the heads as they stand
unfoldable pub fields_kept : List ℕ → Counters → List ℤ → List ℕ → List ℕ → Span → List ℕ
fields_kept heads c loads page section s =
    (((((counters_bytes c ++ []) ++ heads) ++ loads_bytes loads) ++ page) ++ section) ++ span_bytes s

-- Ground 3: the bounds of the state (document 01, "State", last paragraph). Assumes nothing.
use Rattle.std.specs.Prelude.{Bool, true, ◌&&◌, List, [], ◌∷◌, ℕ}
use Rattle.bounds.specs.Bounds.{serials_ok, counts_ok, times_ok, span_ok, loads_ok}
use Rattle.form.specs.declared.Form.{Form}
use Rattle.skiplist.specs.declared.Pointer.{Pointer}
use Rattle.skiplist.specs.Skip.{in_slots}
use Rattle.store.specs.declared.State.{State}

-- "head slots below S, or 65,535 for none"
unfoldable pub heads_ok : List Pointer → ℕ → Bool
heads_ok [] slots = true
heads_ok (p ∷ ps) slots = in_slots p slots && heads_ok ps slots

-- the state breaks no bound
unfoldable pub within_bounds : Form → State → ℕ → ℕ → Bool
within_bounds f s live slots =
    serials_ok s.oldest s.current s.count slots
    && (counts_ok s.current s.count s.buckets
    && (times_ok f s.current s.count s.next live s.start
    && (span_ok s.count s.low s.high
    && (loads_ok s.loads
    && heads_ok s.heads slots))))

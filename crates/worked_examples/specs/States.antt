-- States for the worked examples, by the fields that matter to a row. Assumes nothing.
use Rattle.std.specs.Prelude.{List, [], ◌∷◌, ℕ, ℤ, pos, replicate}
use Rattle.skiplist.specs.declared.Pointer.{Pointer}
use Rattle.store.specs.declared.State.{State}
use Rattle.worked_examples.specs.Figures.{minus}

-- a pointer by slot, serial and time
abbrev pub pointing : ℕ → ℕ → ℕ → Pointer
pointing slot serial time = record { slot = slot; serial = serial; time = time }

-- four heads, none
abbrev pub no_heads : List Pointer
no_heads = replicate 4 (pointing 65535 0 0)

-- 13 loads, all 0
abbrev pub zeros : List ℤ
zeros = replicate 13 (pos 0)

-- oldest and open serial, count, buckets, next and start time, low, high, last loads, heads; the buffers do not matter
abbrev pub state_of : ℕ → ℕ → ℕ → ℕ → ℕ → ℕ → ℤ → ℤ → List ℤ → List Pointer → State
state_of oldest current count buckets next start low high loads heads = record {
  oldest = oldest;
  current = current;
  count = count;
  buckets = buckets;
  next = next;
  heads = heads;
  loads = loads;
  page = [];
  bloom = [];
  start = start;
  low = low;
  high = high;
}

-- the state whose close writes the header of `Laid`, by its next time: heads of the segments 16,909,061 (level 1), 16,909,060
-- (levels 2 and 3) and 16,909,056 (level 4, slot 16,909,055 mod 4,096 = 0x2FF)
abbrev pub heads : List Pointer
heads =
    pointing 772 16909061 0x01030405060708 ∷ pointing 771 16909060 0x01020405060708
    ∷ pointing 771 16909060 0x01020405060708 ∷ pointing 767 16909056 0x01020305060708 ∷ []

abbrev pub closable : ℕ → State
closable next = state_of 16909000 16909062 258 21 next 0x02030405060708 (minus 500) (pos 100000) zeros heads

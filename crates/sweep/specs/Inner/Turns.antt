-- The turns of the code's loops over buckets and entries. Assumes nothing.
use Rattle.std.specs.Prelude.{Option as Maybe, Some, None, ◌≡◌, Bool, true, cond, ◌&&◌, ◌||◌, List, [], ◌∷◌, map, ℕ, ◌<◌, eqb}
use Rattle.std.proofs.Math.Option.{Option}
use Rattle.bitset.specs.Set.{elem}
use Rattle.bitset.specs.Inner.Words.{bit, insert_in}
use Rattle.lift.specs.Rows.{time_in, code_in}
use Rattle.tree.specs.Rules.{Entry}
use Rattle.tree.specs.Search.{within}
use Rattle.tree.specs.Place.{bucket_page}
use Rattle.tree.specs.Sweep.{visited_from, gathered}
use Rattle.sweep.specs.declared.Records.{Records}
use Rattle.sweep.specs.declared.Range.{Range}
use Rattle.sweep.specs.declared.Sweep.{Sweep}
use Rattle.sweep.specs.declared.Turn.{Turn}
use Rattle.sweep.specs.Inner.Swept.{none_swept, swept_from, passing_of, timely, timely_at}

-- the mask of the buckets that are due: bit b for bucket b
abbrev pub is_due : ℕ → ℕ → Bool
is_due due b = eqb (bit due b) 1

-- every bucket that is due is one of the tree's; is after b
abbrev pub DueBelow : ℕ → ℕ → Type 0
DueBelow buckets due = (j : ℕ) → is_due due j ≡ true → j < buckets

abbrev pub DueAbove : ℕ → ℕ → Type 0
DueAbove b due = (j : ℕ) → is_due due j ≡ true → b < j

-- a child, if there is one, has a bit in the mask
abbrev pub HasBit : ℕ → Type 0
HasBit c = (c ≡ 255 → ⊥) → c < 64

-- the stored load of each position's record, and its time
abbrev pub codes_of : List ℕ → List ℕ → Records → ℕ → ℕ
codes_of lifts tail g = code_in lifts tail g.first

abbrev pub times_of : List ℕ → List ℕ → Records → ℕ → ℕ
times_of lifts tail g = time_in lifts tail g.first

-- position p with its entry's load, and the load and the time of its record: the loads must be alike, and p is a match if the time is within
abbrev pub with_record : ℕ → ℕ → Range → ℕ → ℕ → Sweep → Sweep
with_record recorded time r p load s =
    record {
      good = s.good && eqb load recorded;
      set = record { words = cond (timely r time) (insert_in s.set.words p) s.set.words };
    }

-- an entry: its record is read where its load is in the range
abbrev pub with_entry : (ℕ → ℕ) → (ℕ → ℕ) → Range → Entry → Sweep → Sweep
with_entry codes times r e s =
    cond (within r.k1 r.k2 e.load) (with_record (codes e.position) (times e.position) r e.position e.load s) s

unfoldable pub with_entries : (ℕ → ℕ) → (ℕ → ℕ) → Range → List Entry → Sweep → Sweep
with_entries codes times r [] s = s
with_entries codes times r (e ∷ es) s = with_entries codes times r es (with_entry codes times r e s)

-- with damage no set
abbrev pub spoilt_empty : Sweep → Sweep
spoilt_empty s = cond s.good s none_swept

-- what the sweep comes to, if `rest` is found in the buckets that are left
abbrev pub leads_to : Option (List ℕ) → Turn → Sweep
leads_to rest t = swept_from t.set.words rest

-- the buckets that are left, those due and those that they lead to
abbrev pub left : List ℕ → Records → Range → Turn → List ℕ
left tree g r t = visited_from tree r.k1 r.k2 g.buckets 0 (is_due t.due)

-- what it comes to with them
unfoldable pub onward : List ℕ → List ℕ → List ℕ → Records → Range → Turn → Sweep
onward tree lifts tail g r t =
    leads_to (passing_of (timely_at lifts tail g r)
    (gathered tree g.buckets g.count (codes_of lifts tail g) r.k1 r.k2 (left tree g r t))) t

-- with those of the next turn; none where damage was met
abbrev pub onward_of : List ℕ → List ℕ → List ℕ → Records → Range → Maybe Turn → Sweep
onward_of tree lifts tail g r None = none_swept
onward_of tree lifts tail g r (Some t) = onward tree lifts tail g r t

-- ---- pages

-- whether page j holds a bucket that was visited or is left
abbrev pub read_onward : List ℕ → Records → Range → Turn → ℕ → Bool
read_onward tree g r t j = is_due t.read j || elem j (map bucket_page (left tree g r t))

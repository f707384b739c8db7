-- A whole log in hand: of each segment its slot and the set of its lifts, so that its rows can be gone through. Assumes nothing.
use Rattle.std.specs.Prelude.{◌≡◌, cond, List, [], ◌++◌, map, ℕ, zero, suc, ◌+◌, ◌-◌, ◌*◌, ◌≤◌, ◌<◌, eqb, ltb, length, get_or}
use Rattle.std.proofs.Math.Option.{some}
use Rattle.codec.specs.Number.{number_at}
use Rattle.flash.specs.Chip.{page_of, pages_of, header_last, tree_first, slot_width}
use Rattle.bitset.specs.declared.Bits.{Bits}
use Rattle.bitset.specs.Inner.Words.{empty_words, members, Below}
use Rattle.lift.specs.Rows.{record_in, lifts_most}
use Rattle.sweep.specs.declared.Records.{Records}
use Rattle.sweep.specs.declared.Sweep.{Sweep}
use Rattle.sweep.specs.Inner.Swept.{swept_from, Recorded}
use Rattle.visit.specs.declared.Closed.{Closed}
use Rattle.visit.specs.declared.Log.{Log}
use Rattle.visit.specs.declared.Query.{Query}
use Rattle.visit.specs.Visit.{closed_matches, open_matches}
use Rattle.visit.specs.Inner.Sound.{ClosedSound, open_records}

-- ---- any segments: what stands at a place of one, and which places

-- the rows of n segments from segment i on
unfoldable pub rows_on : (ℕ → ℕ → List ℕ) → (ℕ → List ℕ) → ℕ → ℕ → List (List ℕ)
rows_on row places i zero = []
rows_on row places i (suc n) = map (row i) (places i) ++ rows_on row places (suc i) n

-- ---- sets side by side

-- past the end
abbrev pub no_set : Bits
no_set = record { words = [] }

abbrev pub set_in : List Bits → ℕ → List ℕ
set_in sets i = (get_or sets i no_set).words

abbrev pub places_in : List Bits → ℕ → List ℕ
places_in sets i = members (set_in sets i)

-- ---- the segments of a log: S is the open one

-- where a segment's records stand: in its slot, those of the open one from a place on in the page buffer
abbrev pub lifts_at : List ℕ → ℕ → List ℕ
lifts_at nand slot = pages_of nand slot 0 tree_first

abbrev pub full_records : Records
full_records = record { count = lifts_most; buckets = 0; first = lifts_most }

abbrev pub records_at : Log → ℕ → Records
records_at g i = cond (ltb i g.slots) full_records (open_records g)

-- the record at a place of it; `way` has the slots
abbrev pub row_at : List ℕ → List ℕ → Log → List ℕ → ℕ → ℕ → List ℕ
row_at nand page g way i p = record_in (lifts_at nand (get_or way i 0)) page (records_at g i).first p

-- the rows of all segments from the lowest on
abbrev pub rows_held : List ℕ → List ℕ → Log → List ℕ → List Bits → ℕ → List (List ℕ)
rows_held nand page g way sets low = rows_on (row_at nand page g way) (places_in sets) low (g.slots + 1 - low)

-- the closed segment in a slot, by its header
abbrev pub closed_in : List ℕ → ℕ → Closed
closed_in nand slot =
    record {
      slot = slot;
      count = number_at (page_of nand slot header_last) 4 2;
      buckets = number_at (page_of nand slot header_last) 6 1;
    }

-- what a search finds in a closed segment, and in the open one
abbrev pub closed_sweep : List ℕ → Closed → Query → Sweep
closed_sweep nand s q = swept_from empty_words (closed_matches nand s q)

abbrev pub open_sweep : List ℕ → List ℕ → List ℕ → Log → Query → Sweep
open_sweep nand nor page g q =
    cond (eqb g.count 0) (swept_from empty_words (some [])) (swept_from empty_words (open_matches nand nor page g q))

-- the set that it finds in segment i
abbrev pub set_for : List ℕ → List ℕ → List ℕ → Log → Query → List ℕ → ℕ → List ℕ
set_for nand nor page g q way i =
    cond (ltb i g.slots) (closed_sweep nand (closed_in nand (get_or way i 0)) q).set.words (open_sweep nand nor page g q).set.words

-- room for S + 1 segments
pub record Room (g : Log) (way : List ℕ) (sets : List Bits) : Type 0 where
  pub slots_most_lem : g.slots ≤ 4096
  pub ways : g.slots < length way
  pub words : g.slots < length sets

-- segment i can be read: its slot lies in the chip, its places have records
pub record Readable (nand page : List ℕ) (g : Log) (way : List ℕ) (sets : List Bits) (i : ℕ) : Type 0 where
  pub inside : get_or way i 0 * slot_width + slot_width ≤ length nand
  pub recorded : Recorded (lifts_at nand (get_or way i 0)) page (records_at g i)
  pub below : Below (records_at g i).count (places_in sets i)

-- and its set is what a search finds in it
pub record Found (nand nor page : List ℕ) (g : Log) (q : Query) (way : List ℕ) (sets : List Bits) (i : ℕ) : Type 0 where
  pub readable : Readable nand page g way sets i
  pub closed : i < g.slots → ClosedSound nand (closed_in nand (get_or way i 0))
  pub anew : set_in sets i ≡ set_for nand nor page g q way i

-- the segments from the lowest on
pub record Held (nand nor page : List ℕ) (g : Log) (q : Query) (way : List ℕ) (sets : List Bits) (low : ℕ) : Type 0 where
  pub low_most : low ≤ g.slots
  pub each : (i : ℕ) → low ≤ i → i ≤ g.slots → Found nand nor page g q way sets i

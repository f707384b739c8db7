-- The pass over the first log, lift by lift: pairs counted, the first of them written, and the lifts of the second log that are free.
-- Assumes nothing.
use Rattle.std.specs.Prelude.{◌≡◌, Bool, cond, List, [], ◌∷◌, ℕ, ◌+◌, ◌-◌, ◌*◌, ◌≤◌, ◌<◌, eqb, ltb, length, get_or, IfSome, Some, None}
use Rattle.std.specs.Prelude.{Option as Maybe}
use Rattle.std.proofs.Math.Option.{Option, none, some}
use Rattle.codec.specs.Area.{splice}
use Rattle.flash.specs.Chip.{slot_width}
use Rattle.bitset.specs.declared.Bits.{Bits}
use Rattle.bitset.specs.Inner.Words.{members, Below}
use Rattle.lift.specs.Record.{time_at, member_at}
use Rattle.sweep.specs.Inner.Swept.{Recorded}
use Rattle.visit.specs.declared.Log.{Log}
use Rattle.visit.specs.declared.Query.{Query}
use Rattle.visit.specs.Inner.Sound.{ClosedSound}
use Rattle.supersets.specs.Pairs.{pair_with, side_by_side, joins}
use Rattle.whole_log.specs.Inner.Held.{rows_on, places_in, lifts_at, records_at, row_at, closed_in, set_for, Readable}
use Rattle.joining.specs.declared.Joining.{Joining}
use Rattle.joining.specs.declared.look.Sought.{Sought}
use Rattle.joining.specs.declared.look.Taken.{Taken}
use Rattle.joining.specs.Inner.Looking.{fit_row, taken_of, left_of}

-- ---- on lists of rows

-- what is sought for a lift
abbrev pub sought_for : Bool → List ℕ → Sought
sought_for rising a = record { time = time_at a 0; member = member_at a 0; rising = rising }

-- its pair, if there is one, and the lifts that are free then
unfoldable pub made_of : Bool → List ℕ → List (List ℕ) → List (List ℕ × List ℕ)
made_of rising a free =
    cond (eqb (member_at a 0) 0) [] (pair_with joins a (taken_of rising (fit_row (sought_for rising a)) free))

unfoldable pub free_after : Bool → List ℕ → List (List ℕ) → List (List ℕ)
free_after rising a free = cond (eqb (member_at a 0) 0) free (left_of rising (fit_row (sought_for rising a)) free)

-- those of the first `rows` pairs are written
unfoldable pub written_on : ℕ → ℕ → List ℕ → List (List ℕ × List ℕ) → List ℕ
written_on rows n area [] = area
written_on rows n area (p ∷ ps) = written_on rows (n + 1) (cond (ltb n rows) (splice area (n * 64) (side_by_side p)) area) ps

-- how far the pass has come
pub record Standing : Type 0 where
  pub count : ℕ
  pub area : List ℕ
  pub free : List (List ℕ)

unfoldable pub join_one : Bool → ℕ → List ℕ → Standing → Standing
join_one rising rows a s =
    record {
      count = s.count + length (made_of rising a s.free);
      area = written_on rows s.count s.area (made_of rising a s.free);
      free = free_after rising a s.free;
    }

unfoldable pub join_list : Bool → ℕ → List (List ℕ) → Standing → Standing
join_list rising rows [] s = s
join_list rising rows (a ∷ later) s = join_list rising rows later (join_one rising rows a s)

-- ---- as the code has it

-- the free lifts from a segment on
abbrev pub free_from : List ℕ → List ℕ → Log → List ℕ → List Bits → ℕ → List (List ℕ)
free_from nand page g way free from = rows_on (row_at nand page g way) (places_in free) from (g.slots + 1 - from)

abbrev pub standing : List ℕ → List ℕ → Log → List ℕ → List Bits → Joining → List ℕ → Standing
standing nand page g way free j area =
    record { count = j.count; area = area; free = free_from nand page g way free j.from }

-- the segments from one on can be read
pub record ReadableFrom (nand page : List ℕ) (g : Log) (way : List ℕ) (free : List Bits) (from : ℕ) : Type 0 where
  pub from_most : from ≤ g.slots
  pub each : (i : ℕ) → from ≤ i → i ≤ g.slots → Readable nand page g way free i

-- what is taken
abbrev pub taken_row : List ℕ → List ℕ → Log → List ℕ → Maybe Taken → Option (List ℕ)
taken_row nand page g way None = none
taken_row nand page g way (Some k) = some (row_at nand page g way k.segment k.at)

pub record TakenFrom (g : Log) (from : ℕ) (k : Taken) : Type 0 where
  pub least : from ≤ k.segment
  pub most : k.segment ≤ g.slots
  pub below : k.at < (records_at g k.segment).count

-- the first free lift that fits is taken
pub record Takes (nand page : List ℕ) (g : Log) (way : List ℕ) (s : Sought) (free new : List Bits) (from : ℕ) (k : Maybe Taken) : Type 0 where
  pub taken_is : taken_row nand page g way k ≡ taken_of s.rising (fit_row s) (free_from nand page g way free from)
  pub left_is : free_from nand page g way new from ≡ left_of s.rising (fit_row s) (free_from nand page g way free from)
  pub readable : ReadableFrom nand page g way new from
  pub place : IfSome k (TakenFrom g from)

-- some lifts of the first log are gone through
pub record JoinsOn (nand page : List ℕ) (g : Log) (way : List ℕ) (rising : Bool) (rows : ℕ) (lifts : List (List ℕ))
    (free : List Bits) (area : List ℕ) (j : Joining) (new_free : List Bits) (new_area : List ℕ) (next : Joining) : Type 0 where
  pub leads : standing nand page g way new_free next new_area ≡ join_list rising rows lifts (standing nand page g way free j area)
  pub readable : ReadableFrom nand page g way new_free next.from
  pub few : next.count ≤ j.count + length lifts

-- a segment of the first log: where its records stand, and its lifts
pub record Lent (nand nor page : List ℕ) (g : Log) (q : Query) (way : List ℕ) (i : ℕ) : Type 0 where
  pub inside : get_or way i 0 * slot_width + slot_width ≤ length nand
  pub closed : i < g.slots → ClosedSound nand (closed_in nand (get_or way i 0))
  pub recorded : Recorded (lifts_at nand (get_or way i 0)) page (records_at g i)
  pub below : Below (records_at g i).count (members (set_for nand nor page g q way i))

-- all rows of the first log from a segment on
abbrev pub lent_rows : List ℕ → List ℕ → List ℕ → Log → Query → List ℕ → ℕ → List (List ℕ)
lent_rows nand nor page g q way low =
    rows_on (row_at nand page g way) (λ i. members (set_for nand nor page g q way i)) low (g.slots + 1 - low)

-- the whole pass
pub record Joined (nand page : List ℕ) (g : Log) (way : List ℕ) (rising : Bool) (rows : ℕ) (lifts : List (List ℕ)) (free : List Bits) (low : ℕ)
    (area new_area : List ℕ) (n : ℕ) : Type 0 where
  pub count_is : n ≡ (join_list rising rows lifts (standing nand page g way free (record { from = low; count = 0 }) area)).count
  pub area_is : new_area ≡ (join_list rising rows lifts (standing nand page g way free (record { from = low; count = 0 }) area)).area

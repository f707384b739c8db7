-- The first log, segment by segment: the segments gone through and those that are left come to all. Assumes nothing.
use mathlib.Core.Path.{◌≡◌, sym, ap, ◌∙◌}
use mathlib.Core.Bool.{Bool}
use mathlib.Core.List.{List, ◌++◌, map}
use Prim.Native.Nat.{ℕ, ◌+◌, ◌-◌, ◌*◌, ◌≤◌, ◌<◌}
use native.Mathlib.Omega.{arith}
use lib.ListN.{length, get_or, length-map}
use Rattle.bitset.specs.declared.Bits.{Bits}
use Rattle.bitset.specs.Inner.Words.{members}
use Rattle.bitset.proofs.Set.{length_members}
use Rattle.lift.specs.Rows.{record_in}
use Rattle.sweep.specs.declared.Records.{Records}
use Rattle.visit.specs.declared.Log.{Log}
use Rattle.visit.specs.declared.Query.{Query}
use Rattle.whole_log.specs.Inner.Held.{rows_on, lifts_at, records_at, row_at, set_for}
use Rattle.joining.specs.declared.Joining.{Joining}
use Rattle.joining.specs.Inner.Passing.{Standing, join_list, standing, ReadableFrom, JoinsOn, lent_rows}
use Rattle.joining.proofs.Segments.{rows_step}
use Rattle.joining.proofs.Lifts.{list_append}

module _ (nand1 nor1 page1 : List ℕ) (g1 : Log) (q : Query) (way1 : List ℕ) (low1 : ℕ) (nand page : List ℕ) (g : Log) (way : List ℕ) (rising : Bool)
    (rows : ℕ) (free₀ : List Bits) (area₀ : List ℕ) (j₀ : Joining) where
  abbrev left : ℕ → List (List ℕ)
  left i = lent_rows nand1 nor1 page1 g1 q way1 i

  abbrev now : List Bits → Joining → List ℕ → Standing
  now free j area = standing nand page g way free j area

  -- the segments from i on are left to do
  pub record LogGoes (free : List Bits) (area : List ℕ) (j : Joining) (i : ℕ) : Type 0 where
    pub leads : join_list rising rows (left i) (now free j area) ≡ join_list rising rows (left low1) (now free₀ j₀ area₀)
    pub readable : ReadableFrom nand page g way free j.from
    pub least : low1 ≤ i
    pub most : i ≤ g1.slots + 1
    pub few : j.count ≤ j₀.count + 320 * (i - low1)
    pub area_long : length area ≡ length area₀
    pub free_long : length free ≡ length free₀

  module _ (free : List Bits) (area : List ℕ) (j : Joining) (i : ℕ) (goes : LogGoes free area j i) where
    pub log_over : g1.slots < i → (j.count ≡ (join_list rising rows (left low1) (now free₀ j₀ area₀)).count)
        × (area ≡ (join_list rising rows (left low1) (now free₀ j₀ area₀)).area)
    unfolding join_list rows_on
    log_over h =
        let z : g1.slots + 1 - i ≡ 0 = omega arith in
        let e : now free j area ≡ join_list rising rows (left low1) (now free₀ j₀ area₀) = rw z at goes.leads in
        (ap (λ (s : Standing). s.count) e, ap (λ (s : Standing). s.area) e)

    -- one segment, whose slot, records and set were read
    pub log_more : i ≤ g1.slots → (lifts : List ℕ) → lifts ≡ lifts_at nand1 (get_or way1 i 0) → (at : Records) → at ≡ records_at g1 i → (set : Bits)
        → set.words ≡ set_for nand1 nor1 page1 g1 q way1 i → (new_free : List Bits) (new_area : List ℕ) (next : Joining) → length new_area ≡ length area
        → length new_free ≡ length free
        → JoinsOn nand page g way rising rows (map (record_in lifts page1 at.first) (members set.words)) free area j new_free new_area next
        → LogGoes new_free new_area next (i + 1)
    log_more h lifts e at d set f new_free new_area next la lf o =
        record {
          leads =
              ap (join_list rising rows (left (i + 1))) (o.leads ∙ ap (λ (l : List (List ℕ)). join_list rising rows l (now free j area)) here)
              ∙ sym (list_append rising rows segment (left (i + 1)) (now free j area))
              ∙ ap (λ (l : List (List ℕ)). join_list rising rows l (now free j area)) (sym step) ∙ goes.leads;
          readable = o.readable;
          least = omega (arith, goes.least);
          most = omega arith;
          few = omega (arith, goes.few, goes.least, o.few, length-map (members set.words) (record_in lifts page1 at.first), length_members set.words);
          area_long = la ∙ goes.area_long;
          free_long = lf ∙ goes.free_long;
        }
      where
        segment : List (List ℕ)
        segment = map (row_at nand1 page1 g1 way1 i) (members (set_for nand1 nor1 page1 g1 q way1 i))

        here : map (record_in lifts page1 at.first) (members set.words) ≡ segment
        here = rw (e, d, f)

        step : left i ≡ segment ++ left (i + 1)
        step = rows_step (row_at nand1 page1 g1 way1) (λ k. members (set_for nand1 nor1 page1 g1 q way1 k)) i (g1.slots + 1 - i) (g1.slots + 1 - (i + 1)) (omega arith)

-- Times that never fall, over rows side by side and place by place. Assumes nothing.
use mathlib.Core.Path.{◌≡◌, refl, sym, ap, ◌∙◌}
use mathlib.Core.List.{List, [], ◌∷◌, ◌++◌, map}
use Prim.Native.Nat.{ℕ, ◌+◌, ◌-◌, ◌≤◌, ◌<◌}
use native.Mathlib.Numerals.{add-one}
use native.Mathlib.Omega.{arith}
use lib.ListN.{get_or}
use Rattle.bitset.specs.declared.Bits.{Bits}
use Rattle.bitset.specs.Inner.Words.{members, Below}
use Rattle.lift.specs.declared.Lifts.{Lifts}
use Rattle.lift.specs.Record.{time_at}
use Rattle.lift.specs.Rows.{time_in, record_in}
use Rattle.lift.proofs.Rows.{time_of_record}
use Rattle.sweep.specs.declared.Records.{Records}
use Rattle.visit.specs.declared.Log.{Log}
use Rattle.whole_log.specs.Inner.Held.{rows_on, set_in, places_in, lifts_at, records_at, row_at, rows_held}
use Rattle.whole_log.specs.Inner.Rising.{Rising, last_time, Rises}
use Rattle.whole_log.proofs.Segments.{segment_rows}
use Rattle.whole_log.proofs.Turns.{rows_first}

pub rising_append : (t : ℕ) (xs ys : List (List ℕ)) → Rising t xs → Rising (last_time t xs) ys → Rising t (xs ++ ys)
unfolding last_time
rising_append t [] ys a b = b
rising_append t (x ∷ xs) ys a b = (a.0, rising_append (time_at x 0) xs ys a.1 b)

-- ---- the lifts of one segment

module _ (l : Lifts) (set : Bits) (from : ℕ) where
  abbrev rows : List ℕ → List (List ℕ)
  rows ps = map (record_in l.pages.now l.tail.now l.first) ps

  -- some are behind, the others are left
  pub record Climbs (left : List ℕ) (last : ℕ) : Type 0 where
    pub below : Below l.count left
    pub leads : last_time last (rows left) ≡ last_time from (rows (members set.words))
    pub rises : Rising last (rows left) → Rising from (rows (members set.words))

  module _ (left : List ℕ) (last : ℕ) (i : Climbs left last) where
    pub climb_over : left ≡ [] → Rises from (rows (members set.words)) last
    unfolding last_time
    climb_over none = record { never_falls = i.rises (rw none tt); last_is = rw none at i.leads }

    module _ (p : ℕ) (rest : List ℕ) (more : left ≡ p ∷ rest) where
      pub climb_read : p < l.count
      climb_read = (rw more at i.below).0

      pub climb_on : (t : ℕ) → t ≡ time_in l.pages.now l.tail.now l.first p → last ≤ t → Climbs rest t
      unfolding last_time
      climb_on t t_is risen =
          let h : p < l.count = climb_read in
          let time : time_at (record_in l.pages.now l.tail.now l.first p) 0 ≡ t =
          time_of_record l.pages.now l.tail.now l.first p (omega (arith, l.before)) (omega (arith, l.after, l.any)) ∙ sym t_is in
          record {
            below = (rw more at i.below).1;
            leads = sym (ap (λ (ps : List ℕ). last_time last (rows ps)) more
                ∙ ap (λ (x : ℕ). last_time x (rows rest)) time) ∙ i.leads;
            rises = λ r. i.rises (rw (more, time) (risen, r));
          }

-- ---- all segments

module _ (nand page : List ℕ) (g : Log) (way : List ℕ) (sets : List Bits) (low : ℕ) where
  abbrev from : ℕ → List (List ℕ)
  from i = rows_held nand page g way sets i

  -- where the others rise behind the last time, all rise
  pub record RisesTo (i last : ℕ) : Type 0 where
    pub rises : Rising last (from i) → Rising 0 (from low)

  module _ (i : ℕ) (inside : i ≤ g.slots) (last : ℕ) (j : RisesTo i last) (lifts : List ℕ) (lifts_is : lifts ≡ lifts_at nand (get_or way i 0))
      (set : Bits) (set_is : set.words ≡ set_in sets i) (at : Records) (at_is : at ≡ records_at g i) where
    abbrev here : List (List ℕ)
    here = map (record_in lifts page at.first) (members set.words)

    here_is : here ≡ map (row_at nand page g way i) (places_in sets i)
    here_is =
        ap (λ (x : List ℕ). map (record_in x page at.first) (members set.words)) lifts_is
        ∙ sym (segment_rows nand page g way sets i _ at.first set.words refl
        (sym (ap (λ (x : Records). x.first) at_is)) (sym set_is))

    pub rises_on : (t : ℕ) → Rises last here t → RisesTo (i + 1) t
    rises_on t r =
        record {
          rises = λ s.
              let b : Rising (last_time last here) (from (i + 1)) = rw r.last_is at s in
              j.rises (rw (rows_first nand page g way sets i inside, ← here_is, ← add-one i)
              (rising_append last here (from (i + 1)) r.never_falls b));
        }

  pub rises_over : (i : ℕ) → g.slots < i → (last : ℕ) → RisesTo i last → Rising 0 (from low)
  unfolding rows_on
  rises_over i h last j =
      let n : g.slots + 1 - i ≡ 0 = omega arith in
      j.rises (rw n tt)

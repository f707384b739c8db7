-- Tallying from segment to segment: each turn leads to the same counts; then the answer of a tally. Assumes nothing.
use mathlib.Core.Path.{◌≡◌, refl, sym, ap, ◌∙◌}
use mathlib.Core.Bool.{true, false}
use mathlib.Core.Option.{Option, none, some}
use mathlib.Core.List.{List, []}
use Prim.Native.Nat.{ℕ, ◌+◌, ◌-◌, ◌*◌, ◌^◌, ◌≤◌, ◌<◌}
use Rattle.std.specs.Prelude.{Result, Ok, Err}
use Rattle.grounds.specs.declared.Ground.{Ground}
use Rattle.grounds.specs.declared.Ground.TheVariants.{Damage}
use native.Mathlib.Omega.{arith}
use lib.ListN.{length}
use Rattle.plate.specs.Plate.{no_counts}
use Rattle.skiplist.specs.Skip.{Live}
use Rattle.visit.specs.declared.Closed.{Closed}
use Rattle.visit.specs.declared.Log.{Log}
use Rattle.visit.specs.declared.Query.{Query}
use Rattle.visit.specs.Visit.{closed_rows, open_rows}
use Rattle.walk.specs.declared.Cursor.{Cursor}
use Rattle.walk.specs.Seek.{start_of}
use Rattle.walk.specs.Inner.Sound.{Sound, Begun}
use Rattle.found.specs.Found.{join_rows, found_rows}
use Rattle.found.specs.Inner.Turns.{all_rows, rows_after, rows_in, Onward}
use Rattle.found.proofs.All.{all_none, all_is, join_none, found_is}
use Rattle.found.proofs.Counts.{never}
use Rattle.found.proofs.Matched.{closed_few, open_few}
use Rattle.tally.specs.Answers.{TallyAnswer, answer_of, tally_answer, row_codes}
use Rattle.tally.specs.Inner.Turns.{counted_all, tally_of, NoneAbove}
use Rattle.tally.proofs.Tallies.{none_zero, counted_none, tally_join, tally_few, TalliedIn, tallied, spoilt}

-- ---- one segment's counts

pub tally_some : (counts from more : List ℕ) (o : Option (List (List ℕ))) (codes : List ℕ) → from ≡ counts
    → more ≡ counted_all from codes
    → codes ≡ row_codes (rows_in o) → o ≡ some (rows_in o) → Ok more ≡ tally_of counts o
tally_some counts from more none codes b e f h = let z : none ≡ some [] = h in cc
tally_some counts from more (some rows) codes b e f h = ap Ok (e ∙ rw (b, f))

-- ---- a tally on its way

module _ (nand : List ℕ) (slots : ℕ) (live : Live) (q : Query) (all : Result (List ℕ) Ground) (top : ℕ) where
  pub record TallyGoes (c : Cursor) (counts : List ℕ) : Type 0 where
    pub sound : Sound slots c
    pub leads : tally_of counts (rows_after nand slots live q c) ≡ all
    pub low : c.before ≤ top
    pub few : NoneAbove (320 + 320 * (top - c.before)) counts

  module _ (c : Cursor) (counts : List ℕ) (i : TallyGoes c counts) where
    pub tally_room : top < 2 ^ 32 → NoneAbove (2 ^ 63) counts
    tally_room h k = omega (arith, i.few k)

    pub tally_over : rows_after nand slots live q c ≡ some [] → Ok counts ≡ all
    unfolding counted_all
    tally_over e = rw e at i.leads

    module _ (s : Closed) (d : Cursor) (o : Onward nand slots live q c s d) where
      left : tally_of counts (join_rows (rows_after nand slots live q d) (closed_rows nand s q)) ≡ all
      left = rw o.rows at i.leads

      pub tally_again : (more : List ℕ) → Ok more ≡ tally_of counts (closed_rows nand s q) → TallyGoes d more
      tally_again more e =
          let t = tallied counts more (closed_rows nand s q) e in
          let f = o.falls in
          let l = i.low in
          let n = rw t.rows at (closed_few nand s q) in
          record {
            sound = o.sound;
            leads = rw t.is (tally_join counts (rows_after nand slots live q d) (rows_in (closed_rows nand s q)))
                ∙ rw t.rows at left;
            low = omega arith;
            few = λ k. rw t.is (omega (arith, tally_few counts (rows_in (closed_rows nand s q)) n (320 + 320 * (top - c.before)) i.few k));
          }

pub tally_starts : (nand : List ℕ) (slots : ℕ) (live : Live) (q : Query) (c : Cursor) (counts : List ℕ) → Sound slots c
    → NoneAbove 320 counts
    → TallyGoes nand slots live q (tally_of counts (rows_after nand slots live q c)) c.before c counts
tally_starts nand slots live q c counts s h =
    record { sound = s; leads = refl; low = omega arith; few = λ i. omega (arith, h i) }

-- ---- the answer

answer_is : (o : Option (List (List ℕ))) → answer_of (tally_of no_counts o) ≡ tally_answer o
unfolding tally_answer
answer_is none = refl
answer_is (some rows) = ap (λ (l : List ℕ). answer_of (Ok l)) (counted_none (row_codes rows))

module _ (nand nor page : List ℕ) (g : Log) (live : Live) (q : Query) (c : Cursor) (c_is : c ≡ start_of nand g live q) where
  -- what a tally comes to is the answer
  answered : (r : Result (List ℕ) Ground) → r ≡ tally_of no_counts (all_rows nand nor page g live q c)
      → answer_of r ≡ tally_answer (found_rows nand nor page g live q)
  answered r e =
      ap answer_of e ∙ answer_is (all_rows nand nor page g live q c) ∙ ap tally_answer (found_is nand nor page g live q c c_is)

  pub tally_lost : c.good ≡ false → answer_of (Err Damage) ≡ tally_answer (found_rows nand nor page g live q)
  tally_lost e =
      answered (Err Damage) (ap (tally_of no_counts) (sym (all_none nand nor page g live q c true (λ h. never h) (rw e refl))))

  module _ (size : length nand ≡ g.slots * 16384) (begun : Begun g c) (good : c.good ≡ true) where
    joined : all_rows nand nor page g live q c ≡ join_rows (rows_after nand g.slots live q c) (open_rows nand nor page g q)
    joined = all_is nand nor page g live q c size begun good

    pub tally_none : (x : Ground) → Err x ≡ tally_of no_counts (open_rows nand nor page g q)
        → answer_of (Err x) ≡ tally_answer (found_rows nand nor page g live q)
    tally_none x e =
        let n = spoilt no_counts x (open_rows nand nor page g q) e in
        let d : Err x ≡ Err Damage = e ∙ rw n in
        answered (Err x) (d ∙ rw (joined, n, join_none (rows_after nand g.slots live q c)))

    module _ (newest : List ℕ) (is : Ok newest ≡ tally_of no_counts (open_rows nand nor page g q)) where
      pub first_few : NoneAbove 320 newest
      first_few i =
          let t = tallied no_counts newest (open_rows nand nor page g q) is in
          let n = rw t.rows at (open_few nand nor page g q) in
          rw t.is (omega (arith, tally_few no_counts (rows_in (open_rows nand nor page g q)) n 0 (λ j. omega (arith, none_zero j)) i))

      pub tally_whole : (r : Result (List ℕ) Ground) → r ≡ tally_of newest (rows_after nand g.slots live q c)
          → answer_of r ≡ tally_answer (found_rows nand nor page g live q)
      tally_whole r e =
          let t = tallied no_counts newest (open_rows nand nor page g q) is in
          answered r (e ∙ rw t.is (tally_join no_counts (rows_after nand g.slots live q c) (rows_in (open_rows nand nor page g q)))
          ∙ ap (λ (o : Option (List (List ℕ))). tally_of no_counts (join_rows (rows_after nand g.slots live q c) o)) (sym t.rows)
          ∙ ap (tally_of no_counts) (sym joined))

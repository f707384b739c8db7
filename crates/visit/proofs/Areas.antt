-- The records and buckets of a segment lie within its areas: the open segment's in NAND, NOR and the page buffer. Assumes
-- nothing.
use mathlib.Core.Path.{◌≡◌, ◌∙◌}
use mathlib.Core.List.{List, map}
use Prim.Native.Nat.{ℕ, ◌+◌, ◌-◌, ◌*◌, ◌≤◌, ◌<◌}
use native.Mathlib.Nat.{mod-lt}
use native.Mathlib.Omega.{arith}
use lib.ListN.{length}
use Rattle.codec.proofs.Areas.{length_part}
use Rattle.flash.specs.Chip.{slot_of, pages_of, nor_tree}
use Rattle.bitset.specs.Set.{distinct}
use Rattle.bitset.specs.Inner.Words.{empty_words}
use Rattle.tree.specs.Place.{bucket_page}
use Rattle.tree.specs.Sweep.{visited_on}
use Rattle.tree.proofs.Visited.{visited_most}
use Rattle.sweep.specs.declared.Records.{Records}
use Rattle.sweep.specs.declared.Sweep.{Sweep}
use Rattle.sweep.specs.Inner.Swept.{swept_from, Recorded, Held}
use Rattle.visit.specs.declared.Closed.{Closed}
use Rattle.visit.specs.declared.Log.{Log}
use Rattle.visit.specs.declared.Query.{Query}
use Rattle.visit.specs.Visit.{closed_lifts, open_lifts, matches_of, closed_matches, tree_read, open_matches}
use Rattle.visit.specs.Inner.Sound.{ClosedSound, LogSound, closed_records, open_records}

-- ---- a closed segment

module _ (nand : List ℕ) (s : Closed) (sound : ClosedSound nand s) where
  pub closed_size : length (closed_lifts nand s) ≡ 10240
  closed_size = length_part nand (s.slot * 16384 + 0) 10240 (omega arith)

  pub closed_recorded : Recorded (closed_lifts nand s) (closed_lifts nand s) (closed_records s)
  closed_recorded =
      let l = closed_size in
      record { few = sound.most; before = omega arith; after = omega arith; any = omega arith }

  module _ (t l : List ℕ) (t_is : t ≡ pages_of nand s.slot 20 9) (l_is : l ≡ closed_lifts nand s) (r : Records)
      (r_is : r ≡ closed_records s) where
    pub closed_held : Held t l l r
    closed_held =
        let n : length (pages_of nand s.slot 20 9) ≡ 4608 = length_part nand (s.slot * 16384 + 10240) 4608 (omega arith) in
        rw (t_is, l_is, r_is) (record { few = sound.buckets_most_lem; inside = omega arith; records = closed_recorded })

    pub closed_are : (q : Query) (m : Sweep) → m ≡ swept_from empty_words (matches_of t l l r.first r.count r.buckets q)
        → m ≡ swept_from empty_words (closed_matches nand s q)
    unfolding closed_matches
    closed_are q m e = e ∙ rw (t_is, l_is, r_is)

    pub closed_read : (q : Query) (n : ℕ) → n ≡ distinct (map bucket_page (visited_on t r.buckets q.k1 q.k2)) → n ≡ tree_read nand s q
    unfolding tree_read
    closed_read q n e = e ∙ rw (t_is, r_is)

  -- no more pages than the tree has
  pub read_most : (q : Query) → tree_read nand s q ≤ 9
  unfolding tree_read
  read_most q = visited_most (pages_of nand s.slot 20 9) q.k1 q.k2 s.buckets sound.buckets_most_lem

-- ---- the open segment

module _ (nand nor : List ℕ) (g : Log) (sound : LogSound nand nor g) where
  pub open_slot_lem : slot_of g.current g.slots < g.slots
  unfolding slot_of
  open_slot_lem = mod-lt (g.current - 1) sound.slots_some

  pub open_size : length (open_lifts nand g) ≡ 10240
  open_size = length_part nand (slot_of g.current g.slots * 16384 + 0) 10240 (omega (arith, open_slot_lem))

  module _ (page : List ℕ) (page_size : length page ≡ 512) where
    pub open_recorded : Recorded (open_lifts nand g) page (open_records g)
    open_recorded =
        let l = open_size in
        record { few = sound.most; before = omega arith; after = omega arith; any = omega arith }

    module _ (t l : List ℕ) (t_is : t ≡ nor_tree nor) (l_is : l ≡ open_lifts nand g) (r : Records) (r_is : r ≡ open_records g) where
      pub open_held : Held t l page r
      open_held =
          let n : length (nor_tree nor) ≡ 4608 = length_part nor 0 4608 (omega arith) in
          rw (t_is, l_is, r_is) (record { few = sound.buckets_most_lem; inside = omega arith; records = open_recorded })

      pub open_are : (q : Query) (m : Sweep) → m ≡ swept_from empty_words (matches_of t l page r.first r.count r.buckets q)
          → m ≡ swept_from empty_words (open_matches nand nor page g q)
      unfolding open_matches
      open_are q m e = e ∙ rw (t_is, l_is, r_is)

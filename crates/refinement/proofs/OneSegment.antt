-- A search of one segment finds the rows of its wanted lifts: the tree gives the places of the loads in the range, the times
-- are filtered, and the places, lowest first, are the lifts in order of arrival. Assumes nothing.
use mathlib.Core.Path.{◌≡◌, refl, sym, ap, ap₂, ◌∙◌}
use mathlib.Core.Bool.{Bool, true, false, cond, ◌&&◌}
use mathlib.Core.Option.{Option, some}
use mathlib.Core.List.{List, [], ◌∷◌, map}
use Prim.Native.Nat.{ℕ, zero, suc, ◌+◌, ◌*◌, ◌/◌, ◌≤◌, ◌<◌}
use native.Mathlib.Omega.{arith}
use lib.Dec.{eqb, ltb}
use lib.IntN.{ℤ}
use lib.ListN.{length, get_or}
use borrow.Author.Tests.{lt-ltb, le-ltb, ne_eqb}
use Rattle.flash.specs.Chip.{slot_of, pages_of, nor_tree}
use Rattle.lift.specs.Limits.{load_ok, stored}
use Rattle.lift.specs.Rows.{time_in, code_in, record_in}
use Rattle.lift.proofs.Codes.{stored_le}
use Rattle.bitset.specs.Set.{picked, elem}
use Rattle.bitset.proofs.Picked.{picked_none}
use Rattle.tree.specs.Rules.{buckets_of}
use Rattle.tree.specs.Search.{within}
use Rattle.tree.specs.Inner.Find.{find}
use Rattle.tree.specs.Sweep.{sweep_on}
use Rattle.tree.proofs.Built.{buckets_of_lem}
use Rattle.tree.proofs.Found.{find_elem}
use Rattle.tree.proofs.Swept.{sweep_built}
use Rattle.tree.proofs.Written.{tree_of_nor}
use Rattle.visit.specs.declared.Closed.{Closed}
use Rattle.visit.specs.declared.Log.{Log}
use Rattle.visit.specs.Visit.{timely, timed, matches_of, rows_at, closed_matches, closed_rows, open_matches, open_rows}
use Rattle.questions.specs.Queries.{query_of}
use Rattle.paper_log.specs.Log.{Lift, row_of, codes, wanted, among}
use Rattle.refinement.specs.Inner.Segments.{lift_area, page_buffer, tree_area, bucket_count, nor_of}
use Rattle.refinement.proofs.Good.{Built}
use Rattle.refinement.proofs.Lengths.{length_codes, good_loads}
use Rattle.refinement.proofs.Wanted.{no_lift}
use Rattle.refinement.proofs.Records.{Reads, good_at, closed_reads}

-- the stored load of lift p
pub code_at : (ls : List Lift) (p : ℕ) → p < length ls → get_or (codes ls) p 0 ≡ stored (get_or ls p no_lift).load
code_at [] p h = absurd (omega arith)
code_at (l ∷ ls) zero h = refl
code_at (l ∷ ls) (suc p) h = code_at ls p (omega arith)

swapped : (a b : Bool) → (a && b) ≡ (b && a)
swapped true true = refl
swapped true false = refl
swapped false true = refl
swapped false false = refl

no_left : (a b : Bool) → a ≡ false → (a && b) ≡ false
no_left a b e = rw e

nor_tree_lem : (ls : List Lift) → nor_tree (nor_of ls) ≡ tree_area ls
unfolding nor_of tree_area
nor_tree_lem ls = tree_of_nor (buckets_of (codes ls)) _

module _ (t1 t2 : ℕ) (k1 k2 : ℤ) where
  -- rows at the places of wanted lifts, lowest first
  rows_picked : (ls : List Lift) (row : ℕ → List ℕ) (f : ℕ → Bool) (from n : ℕ) → length ls ≤ n
      → ((p : ℕ) → p < length ls → f (from + p) ≡ wanted t1 t2 k1 k2 (get_or ls p no_lift))
      → ((p : ℕ) → from + length ls ≤ p → f p ≡ false)
      → ((p : ℕ) → p < length ls → row (from + p) ≡ row_of (get_or ls p no_lift))
      → map row (picked f from n) ≡ map row_of (among t1 t2 k1 k2 ls)
  unfolding picked among
  rows_picked [] row f from n few a b c = ap (map row) (picked_none f from n (λ p l r. b p (omega arith)))
  rows_picked (l ∷ ls) row f from zero few a b c = absurd (omega arith)
  rows_picked (l ∷ ls) row f from (suc n) few a b c =
      go (wanted t1 t2 k1 k2 l) (f from) (ap f (sym z) ∙ a 0 (omega arith)) (ap row (sym z) ∙ c 0 (omega arith))
      (rows_picked ls row f (suc from) n (omega arith) (λ p h. ap f (up p) ∙ a (suc p) (omega arith)) (λ p h. b p (omega arith))
      (λ p h. ap row (up p) ∙ c (suc p) (omega arith)))
    where
      z : from + 0 ≡ from
      z = omega arith

      up : (p : ℕ) → suc from + p ≡ from + suc p
      up p = omega arith

      go : (t s : Bool) → s ≡ t → row from ≡ row_of l → map row (picked f (suc from) n) ≡ map row_of (among t1 t2 k1 k2 ls)
          → map row (cond s (from ∷ picked f (suc from) n) (picked f (suc from) n))
          ≡ map row_of (cond t (l ∷ among t1 t2 k1 k2 ls) (among t1 t2 k1 k2 ls))
      go true s e r i = rw e (ap₂ {C = List (List ℕ)} ◌∷◌ r i)
      go false s e r i = rw e i

  -- no lifts, no rows
  if_some : (ls : List Lift) (x : Option (List (List ℕ))) → x ≡ some (map row_of (among t1 t2 k1 k2 ls))
      → cond (eqb (length ls) 0) (some []) x ≡ some (map row_of (among t1 t2 k1 k2 ls))
  unfolding among
  if_some [] x e = refl
  if_some (l ∷ ls) x e = rw (ne_eqb (suc (length ls)) 0 (λ z. omega arith)) e

  module _ (ok1 : load_ok k1 ≡ true) (ok2 : load_ok k2 ≡ true) where
    -- a lift is wanted by its stored load and its time
    pub wanted_is : (l : Lift) → load_ok l.load ≡ true
        → (within (stored k1) (stored k2) (stored l.load) && timely (query_of t1 t2 k1 k2) l.time) ≡ wanted t1 t2 k1 k2 l
    wanted_is l ok =
        rw (stored_le k1 l.load ok1 ok, stored_le l.load k2 ok ok2)
        (swapped (within (stored k1) (stored k2) (stored l.load)) (timely (query_of t1 t2 k1 k2) l.time))

    module _ (ls : List Lift) (b : Built ls) where
      module _ (lifts tail : List ℕ) (first : ℕ) (r : Reads lifts tail first ls) where
        abbrev hit : List ℕ
        hit = find (stored k1) (stored k2) b.tree

        swept : sweep_on (tree_area ls) (bucket_count ls) (length ls) (code_in lifts tail first) (stored k1) (stored k2) ≡ some hit
        unfolding tree_area
        swept =
            let c = length_codes ls in
            rw (buckets_of_lem (codes ls) b.tree b.is, ← c)
            (sweep_built (codes ls) (good_loads ls b.lifts) (omega (arith, b.few)) b.tree b.is (code_in lifts tail first)
            (λ p h. r.loads p (omega arith) ∙ sym (code_at ls p (omega arith))) (stored k1) (stored k2))

        is_hit : (p : ℕ) → elem p hit ≡ (ltb p (length (codes ls)) && within (stored k1) (stored k2) (get_or (codes ls) p 0))
        is_hit p = find_elem (codes ls) (good_loads ls b.lifts) b.tree b.is (stored k1) (stored k2) p

        abbrev picks : ℕ → Bool
        picks p = elem p hit && timely (query_of t1 t2 k1 k2) (time_in lifts tail first p)

        inside : (p : ℕ) → p < length ls → picks (0 + p) ≡ wanted t1 t2 k1 k2 (get_or ls p no_lift)
        inside p h =
            let z : 0 + p ≡ p = omega arith in
            let c = length_codes ls in
            rw (z, is_hit p, lt-ltb p (length (codes ls)) (omega arith), code_at ls p h, r.times p h)
            (wanted_is (get_or ls p no_lift) (good_at ls p b.lifts h).load)

        outside : (p : ℕ) → 0 + length ls ≤ p → picks p ≡ false
        outside p h =
            let c = length_codes ls in
            no_left (elem p hit) _ (is_hit p ∙ no_left (ltb p (length (codes ls))) _ (le-ltb p (length (codes ls)) (omega arith)))

        pub rows_matched : rows_at (record_in lifts tail first)
            (matches_of (tree_area ls) lifts tail first (length ls) (bucket_count ls) (query_of t1 t2 k1 k2))
            ≡ some (map row_of (among t1 t2 k1 k2 ls))
        unfolding matches_of timed
        rows_matched =
            rw swept (ap some (rows_picked ls (record_in lifts tail first) picks 0 320 b.few inside outside
            (λ p h. let z : 0 + p ≡ p = omega arith in rw z (r.rows p h))))

      -- a closed segment in its slot's pages
      pub closed_rows_lem : (nand : List ℕ) (s : Closed) → pages_of nand s.slot 0 20 ≡ lift_area ls
          → pages_of nand s.slot 20 9 ≡ tree_area ls
          → s.count ≡ length ls → s.buckets ≡ bucket_count ls
          → closed_rows nand s (query_of t1 t2 k1 k2) ≡ some (map row_of (among t1 t2 k1 k2 ls))
      unfolding closed_rows closed_matches
      closed_rows_lem nand s el et ec eb =
          rw (el, et, ec, eb) (rows_matched (lift_area ls) (lift_area ls) 320 (closed_reads ls b.lifts b.few))

    -- the open segment in NAND, NOR and the page buffer
    pub open_rows_lem : (ls : List Lift) → Built ls → (nand : List ℕ) (g : Log)
        → Reads (pages_of nand (slot_of g.current g.slots) 0 20) (page_buffer ls) (length ls / 16 * 16) ls
        → g.count ≡ length ls → g.buckets ≡ bucket_count ls
        → open_rows nand (nor_of ls) (page_buffer ls) g (query_of t1 t2 k1 k2) ≡ some (map row_of (among t1 t2 k1 k2 ls))
    unfolding open_rows open_matches
    open_rows_lem ls b nand g r ec eb =
        rw (ec, eb, nor_tree_lem ls)
        (if_some ls _ (rows_matched ls b (pages_of nand (slot_of g.current g.slots) 0 20) (page_buffer ls)
        (length ls / 16 * 16) r))

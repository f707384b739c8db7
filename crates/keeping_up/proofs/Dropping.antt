-- The dropped segment read for the counts, on a history's world: its header is without damage and its loads are those of the lifts that went
-- in, so the counts of all retained lifts become those of the lifts that the drop leaves. Assumes nothing.
use mathlib.Core.Path.{◌≡◌, refl, sym, ap, ◌∙◌}
use mathlib.Core.Bool.{true}
use mathlib.Core.Option.{some}
use mathlib.Core.List.{List, [], ◌∷◌, ◌++◌, map}
use Prim.Native.Nat.{ℕ, zero, suc, ◌+◌, ◌*◌}
use native.Mathlib.Omega.{arith}
use lib.ListN.{length}
use Rattle.codec.specs.Number.{number_at}
use Rattle.flash.specs.Chip.{slot_of, page_of, pages_of}
use Rattle.lift.specs.Limits.{stored}
use Rattle.lift.specs.Record.{code_at}
use Rattle.lift.proofs.Codes.{stored_load, stored_limits}
use Rattle.plate.specs.Plate.{counts_of}
use Rattle.bloom.specs.Pages.{each}
use Rattle.bloom.proofs.Each.{each_same}
use Rattle.header.specs.declared.Header.{Header}
use Rattle.header.specs.Header.{header_in}
use Rattle.counts.specs.Counts.{codes_in, without_segment}
use Rattle.counts.proofs.CountsDown.{CodesOk, counted_down_lem}
use Rattle.keeping.specs.Keeping.{counts_dropped}
use Rattle.paper_log.specs.Log.{Lift, open_serial, codes, retained, drop_log}
use Rattle.refinement.specs.Inner.Image.{History, nand_image, state_image, image}
use Rattle.refinement.specs.ReadBack.{lift_in, segment_in}
use Rattle.refinement.proofs.Good.{GoodLifts, Good}
use Rattle.refinement.proofs.Wanted.{map_append}
use Rattle.refinement.proofs.Retained.{built, retained_header}
use Rattle.refinement.proofs.ReadBack.{segment_read}
use Rattle.keeping_up.proofs.RetainedLifts.{drop_takes}

-- ---- the loads in a slot

map_each : {A B : Type 0} (f : A → B) (k : ℕ → A) (from n : ℕ) → map f (each k from n) ≡ each (λ i. f (k i)) from n
unfolding each
map_each f k from zero = refl
map_each {B = B} f k from (suc n) = ap {B = List B} (λ t. f (k from) ∷ t) (map_each f k (suc from) n)

-- they are those of the segment that is read back there
codes_read : (nand : List ℕ) (slot : ℕ) → codes_in nand slot (number_at (page_of nand slot 31) 4 2) ≡ codes (segment_in nand slot)
unfolding codes_in segment_in
codes_read nand slot =
    let area : List ℕ = pages_of nand slot 0 20 in
    let n : ℕ = number_at (page_of nand slot 31) 4 2 in
    sym (map_each (λ (l : Lift). stored l.load) (lift_in area) 0 n
    ∙ each_same (λ i. stored (lift_in area i).load) (λ i. code_at area (i * 32)) 0 n (λ i a b. stored_load (code_at area (i * 32))))

codes_ok : (ls : List Lift) → GoodLifts ls → CodesOk (codes ls)
codes_ok [] g = tt
codes_ok (l ∷ ls) g = (stored_limits l.load g.0.load, codes_ok ls g.1)

-- ---- a history with a closed serial

module _ (h : History) (g : Good h) (ls : List Lift) (rest : List (List Lift)) (is : h.log.closed ≡ ls ∷ rest) where
  abbrev slot : ℕ
  slot = slot_of h.log.oldest h.log.slots

  first : h.log.oldest + 0 ≡ h.log.oldest
  first = omega arith

  undamaged : (header_in h.log.form (page_of (nand_image h) slot 31) h.log.slots (open_serial h.log)).good ≡ true
  undamaged =
      rw first at (ap (λ (x : Header). x.good) (retained_header h g [] ls rest is (open_serial h.log) (omega (arith, ap length is))))

  loads_are : codes_in (nand_image h) slot (number_at (page_of (nand_image h) slot 31) 4 2) ≡ codes ls
  loads_are = codes_read (nand_image h) slot ∙ ap codes (rw first at (segment_read h g [] ls rest is))

  left : codes (retained h.log) ≡ codes ls ++ codes (retained (drop_log h.log))
  left = ap codes (drop_takes h.log ls rest is) ∙ map_append (λ (l : Lift). stored l.load) ls (retained (drop_log h.log))

  pub counts_dropped_lem : counts_dropped (image h) h.log.slots (counts_of (codes (retained h.log)))
      ≡ some (counts_of (codes (retained (drop_log h.log))))
  unfolding without_segment image state_image header_in
  counts_dropped_lem =
      rw (undamaged, loads_are, left)
      (counted_down_lem (codes ls) (codes (retained (drop_log h.log))) (codes_ok ls (built h g [] ls rest is).lifts))

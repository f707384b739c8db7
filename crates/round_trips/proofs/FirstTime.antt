-- The oldest live time of a store that is carried: the first retained lift's time, or next time of the other form. Assumes nothing.
use mathlib.Core.Path.{◌≡◌, refl, sym, ap, ◌∙◌}
use mathlib.Core.Bool.{cond}
use mathlib.Core.List.{List, [], ◌∷◌, ◌++◌}
use Prim.Native.Nat.{ℕ, suc, ◌+◌}
use native.Mathlib.Omega.{arith}
use lib.Dec.{eqb, ltb}
use lib.ListN.{length}
use borrow.Author.Tests.{ne_eqb, lt-ltb, le-ltb}
use Rattle.codec.specs.Number.{number_at}
use Rattle.flash.specs.Chip.{slot_of, page_of}
use Rattle.form.specs.declared.Form.{Form}
use Rattle.header.proofs.HeaderRead.{header_numbers}
use Rattle.header.proofs.HeaderSound.{sound_numbers}
use Rattle.paper_log.specs.Log.{Lift, open_serial, joined}
use Rattle.refinement.specs.Inner.Segments as S
use Rattle.refinement.specs.Inner.Image.{History, nand_image, first_start, state_image, image}
use Rattle.refinement.proofs.Good as G
use Rattle.refinement.proofs.Good.{Segments, Good}
use Rattle.refinement.proofs.Retained.{retained_page, sound}
use Rattle.carry.specs.Carried.{first_time}
use Rattle.round_trips.specs.GoingBack.{first_of}
use Rattle.round_trips.proofs.Histories.{into}

-- the first start is the first retained lift's time
pub first_retained : (closed : List (List Lift)) (current : List Lift) {d n m : ℕ} → Segments d n closed m → (next : ℕ)
    → first_start closed current next ≡ first_of (joined closed ++ current) next
unfolding joined
first_retained [] [] s next = refl
first_retained [] (l ∷ ls) s next = refl
first_retained ((l ∷ ls) ∷ rest) current (G.more t r) next = refl
first_retained ([] ∷ rest) current s next = elim s [ ]

module _ (f : Form) (h : History) (g : Good h) where
  abbrev slots : ℕ
  slots = h.log.slots

  abbrev oldest : ℕ
  oldest = h.log.oldest

  pub first_is : first_time f (image h) h.log.slots ≡ first_start h.log.closed h.log.current (into f h).log.next
  unfolding first_time image state_image S.closed_page S.closing_of
  first_is = go h.log.closed refl
    where
      by_lifts : (ls : List Lift) (next : ℕ) → cond (eqb (length ls) 0) next (S.start_time ls) ≡ first_start [] ls next
      by_lifts [] next = refl
      by_lifts (l ∷ ls) next = rw (ne_eqb (suc (length ls)) 0 (λ z. omega arith))

      go : (c : List (List Lift)) → h.log.closed ≡ c
          → cond (ltb oldest (open_serial h.log)) (number_at (page_of (nand_image h) (slot_of oldest slots) 31) 16 8)
          (cond (eqb (length h.log.current) 0) (into f h).log.next (S.start_time h.log.current))
          ≡ first_start h.log.closed h.log.current (into f h).log.next
      go [] q =
          rw (le-ltb oldest (open_serial h.log) (omega (arith, ap length q))) (by_lifts h.log.current (into f h).log.next
          ∙ ap (λ (c : List (List Lift)). first_start c h.log.current (into f h).log.next) (sym q))
      go (ls ∷ rest) q =
          let s = sound h g [] ls rest q (open_serial h.log) (omega (arith, ap length q)) in
          let z : oldest + 0 ≡ oldest = omega arith in
          let page = retained_page h g [] ls rest q 31 (omega arith) in
          let start = (header_numbers _ (sound_numbers _ slots (open_serial h.log) s)).start_is in
          rw (lt-ltb oldest (open_serial h.log) (omega (arith, ap length q)))
          (ap (λ (n : ℕ). number_at (page_of (nand_image h) (slot_of n slots) 31) 16 8) (sym z)
          ∙ ap (λ (t : List ℕ). number_at t 16 8) page ∙ start
          ∙ ap (λ (c : List (List Lift)). first_start c h.log.current (into f h).log.next) (sym q))

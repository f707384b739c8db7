-- Pointers, headers and slots as they are carried: what the writes of each function give. Assumes nothing.
use mathlib.Core.Path.{◌≡◌, refl, sym, ap, ◌∙◌}
use mathlib.Core.Bool.{Bool, true, false, cond}
use mathlib.Core.List.{List, [], ◌∷◌, ◌++◌, append_assoc}
use Prim.Native.Nat.{ℕ, suc, ◌+◌, ◌-◌, ◌*◌, ◌/◌, ◌^◌, ◌≤◌, ◌<◌}
use native.Mathlib.Nat.{div-add-mod'}
use native.Mathlib.Omega.{arith}
use lib.ListN.{length, get_or, length-append}
use borrow.Author.Tests.{lt-ltb, le-ltb, eq-eqb, ne_eqb}
use Rattle.codec.specs.Area.{part, splice, repeated}
use Rattle.codec.specs.Number.{number_at}
use Rattle.codec.proofs.Areas.{length_part, length_repeated, splice_next}
use Rattle.codec.proofs.Numbers.{length_bytes}
use Rattle.flash.specs.Chip.{slot_of, page_of, programmed, chip_erased}
use Rattle.flash.proofs.Slots.{slot_below}
use Rattle.form.specs.declared.Form.{Form}
use Rattle.form.specs.declared.Form.TheVariants.{Old, New}
use Rattle.form.specs.Forms.{serial_width, pointer_width}
use Rattle.skiplist.specs.declared.Pointer.{Pointer}
use Rattle.skiplist.specs.Skip.{pointer, is_none}
use Rattle.skiplist.specs.PointerBytes.{pointers_bytes, pointers_at}
use Rattle.skiplist.proofs.Pointers.{length_pointers}
use Rattle.header.specs.Header.{form_bytes}
use Rattle.header.proofs.Fields.{put_all, fields_put, front_put}
use Rattle.header.proofs.HeaderBytes.{serial_most}
use Rattle.store.specs.declared.State.{State}
use Rattle.store.specs.World.{world}
use Rattle.carry.specs.Carried.{other, pointer_into, pointers_into, header_into, slot_into, closed_into, open_into, next_into, first_time}

-- ---- pointers

pub multiple_most : (n m : ℕ) → n / m * m ≤ n
multiple_most n m = omega (arith, div-add-mod' n m)

-- an old pointer that is none, and any other
module _ (n k : ℕ) (p r : Pointer) (b : Bool) (judged : b ≡ is_none p) where
  pub serial_none : b ≡ true → r ≡ pointer p.slot 0 p.time → r ≡ pointer_into New n k p
  unfolding pointer_into
  serial_none t d = rw (← judged, t) d

  pub serial_some : (m serial : ℕ) → b ≡ false → serial ≡ (n - 1) / m * m → m ≡ 2 ^ k → r ≡ pointer p.slot serial p.time
      → r ≡ pointer_into New n k p
  unfolding pointer_into
  serial_some m serial t e is d =
      rw (← judged, t) (d ∙ ap (λ (s : ℕ). pointer p.slot s p.time) (e ∙ ap (λ (m : ℕ). (n - 1) / m * m) is))

pub four_carried : (f : Form) (n : ℕ) (ps : List Pointer) (e a b c d : Pointer) → length ps ≡ 4
    → a ≡ pointer_into f n 0 (get_or ps 0 e) → b ≡ pointer_into f n 1 (get_or ps 1 e) → c ≡ pointer_into f n 2 (get_or ps 2 e)
    → d ≡ pointer_into f n 3 (get_or ps 3 e) → (a ∷ b ∷ c ∷ d ∷ []) ≡ pointers_into f n 0 ps
unfolding pointers_into
four_carried f n [] e a b c d l p q r s = absurd (omega arith)
four_carried f n (w ∷ []) e a b c d l p q r s = absurd (omega arith)
four_carried f n (w ∷ x ∷ []) e a b c d l p q r s = absurd (omega arith)
four_carried f n (w ∷ x ∷ y ∷ []) e a b c d l p q r s = absurd (omega arith)
four_carried f n (w ∷ x ∷ y ∷ z ∷ []) e a b c d l p q r s = rw (p, q, r, s)
four_carried f n (w ∷ x ∷ y ∷ z ∷ v ∷ ps) e a b c d l p q r s = absurd (omega arith)

pub length_from : (f : Form) (n k : ℕ) (ps : List Pointer) → length (pointers_into f n k ps) ≡ length ps
unfolding pointers_into
length_from f n k [] = refl
length_from f n k (p ∷ ps) = ap suc (length_from f n (suc k) ps)

-- ---- a header

pub length_form : (f : Form) → length (form_bytes f) ≡ 6
length_form f = simp (length-append, length_bytes, length_repeated)

-- the fields before the pointers
abbrev pub kept : Form → List ℕ → List ℕ
kept f h = part h 0 10 ++ (form_bytes f ++ part h 16 24)

module _ (f : Form) (h : List ℕ) (whole : length h ≡ 512) where
  head_length : length (part h 0 10) ≡ 10
  head_length = length_part h 0 10 (omega arith)

  span_length : length (part h 16 24) ≡ 24
  span_length = length_part h 16 24 (omega arith)

  kept_length : length (kept f h) ≡ 40
  kept_length =
      let a = length-append (part h 0 10) (form_bytes f ++ part h 16 24) in
      let b = length-append (form_bytes f) (part h 16 24) in
      omega (arith, head_length, length_form f, span_length)

  pub kept_put : (d d1 d2 d3 : List ℕ) → length d ≡ 512 → d1 ≡ splice d 0 (part h 0 10) → d2 ≡ splice d1 10 (form_bytes f)
      → d3 ≡ splice d2 16 (part h 16 24) → d3 ≡ splice d 0 (kept f h)
  kept_put d d1 d2 d3 l e1 e2 e3 =
      let p : splice (splice (splice d 0 (part h 0 10)) 10 (form_bytes f)) 16 (part h 16 24)
      ≡ put_all d 0 (part h 0 10 ∷ form_bytes f ∷ []) (part h 16 24) = rw (head_length, length_form f) in
      rw (e3, e2, e1) (p ∙ fields_put d 0 (part h 0 10 ∷ form_bytes f ∷ []) (part h 16 24) (omega (arith, kept_length)))

  pub header_put : (n : ℕ) (z d1 d2 : List ℕ) (ps : List Pointer)
      → ps ≡ pointers_into f n 0 (pointers_at (other f) h 40) → z ≡ repeated 512 0 → d1 ≡ splice z 0 (kept f h)
      → d2 ≡ splice d1 40 (pointers_bytes f ps) → d2 ≡ header_into f n h
  unfolding header_into pointers_at
  header_put n z d1 d2 ps ep ez e1 e2 = rw (e2, e1, ez, ← ep) (chain (kept f h) (pointers_bytes f ps) kept_length lc ∙ regroup)
    where
      lc : length (pointers_bytes f ps) ≡ 4 * pointer_width f
      lc =
          length_pointers f ps
          ∙ ap (λ (k : ℕ). k * pointer_width f) (ap length ep ∙ length_from f n 0 (pointers_at (other f) h 40))

      tail : List ℕ
      tail = repeated (432 - 4 * serial_width f) 0

      regroup : kept f h ++ (pointers_bytes f ps ++ tail)
          ≡ part h 0 10 ++ (form_bytes f ++ (part h 16 24 ++ (pointers_bytes f ps ++ tail)))
      regroup = simp append_assoc

      chain : (A C : List ℕ) → length A ≡ 40 → length C ≡ 4 * pointer_width f
          → splice (splice (repeated 512 0) 0 A) 40 C ≡ A ++ (C ++ tail)
      chain A C la lc =
          let z = length_repeated 512 0 in
          let m = serial_most f in
          let n : length (A ++ C) ≡ 40 + 4 * pointer_width f = simp (length-append, la, lc) in
          let k : 512 - (40 + 4 * pointer_width f) ≡ 432 - 4 * serial_width f = omega arith in
          let p : splice (splice (repeated 512 0) 0 A) 40 C ≡ put_all (repeated 512 0) 0 (A ∷ []) C = rw la in
          p ∙ fields_put (repeated 512 0) 0 (A ∷ []) C (omega arith) ∙ front_put 512 0 (A ++ C) (omega arith)
          ∙ ap (λ (k : ℕ). (A ++ C) ++ repeated (512 - k) 0) n ∙ ap (λ (k : ℕ). (A ++ C) ++ repeated k 0) k
          ∙ append_assoc A C tail

-- ---- slots

module _ (f : Form) (nand to : List ℕ) (slots n : ℕ) (least : 1 ≤ slots) (size : length nand ≡ slots * 16384)
    (room : length to ≡ slots * 16384) where
  pub slot_put : (slot : ℕ) (h d p e1 e2 : List ℕ) → slot ≡ slot_of n slots → d ≡ header_into f n h → h ≡ page_of nand slot 31
      → p ≡ part nand (slot * 16384) 15872 → e1 ≡ splice to (slot * 16384) p → e2 ≡ programmed e1 slot 31 d
      → e2 ≡ splice to (slot_of n slots * 16384) (slot_into f nand (slot_of n slots) n)
  unfolding slot_into
  slot_put slot h d p e1 e2 is dh dp pp d1 d2 =
      let s = slot_below slots n least in
      let l = length_part nand (slot_of n slots * 16384) 15872 (omega arith) in
      rw (d2, d1, dh, dp, pp, is) (splice_next to (slot_of n slots * 16384) (part nand (slot_of n slots * 16384) 15872) (slot_of n slots * 16384 + 31 * 512)
      (header_into f n (page_of nand (slot_of n slots) 31)) (omega arith) (omega arith))

pub open_put : (nand to e1 e2 p : List ℕ) (slots n slot : ℕ) → length to ≡ length nand → slot ≡ slot_of n slots
    → e1 ≡ chip_erased (length to) → p ≡ part nand (slot * 16384) 16384 → e2 ≡ splice e1 (slot * 16384) p
    → e2 ≡ open_into nand slots n
open_put nand to e1 e2 p slots n slot l is d1 dp d2 = rw (d2, d1, dp, is, l)

module _ (f : Form) (nand : List ℕ) (slots current n : ℕ) where
  pub closed_more : (to next : List ℕ) → n < current
      → next ≡ splice to (slot_of n slots * 16384) (slot_into f nand (slot_of n slots) n)
      → closed_into f (current - (n + 1)) (n + 1) nand slots next ≡ closed_into f (current - n) n nand slots to
  unfolding closed_into
  closed_more to next l e =
      let d : current - n ≡ suc (current - (n + 1)) = omega arith in
      let k : n + 1 ≡ suc n = omega arith in
      rw (d, e) (ap (λ (m : ℕ). closed_into f (current - (n + 1)) m nand slots
      (splice to (slot_of n slots * 16384) (slot_into f nand (slot_of n slots) n))) k)

  pub closed_end : (to : List ℕ) → current ≤ n → to ≡ closed_into f (current - n) n nand slots to
  unfolding closed_into
  closed_end to l = let e : current - n ≡ 0 = omega arith in rw e

-- ---- the oldest live time going back

module _ (nand : List ℕ) (s : State) (slots : ℕ) where
  pub first_closed : (slot : ℕ) (h : List ℕ) (t : ℕ) → s.oldest < s.current → slot ≡ slot_of s.oldest slots
      → h ≡ page_of nand slot 31 → t ≡ number_at h 16 8 → t ≡ first_time Old (world nand [] s) slots
  unfolding first_time
  first_closed slot h t l is dh dt = rw (lt-ltb s.oldest s.current l, ← is, ← dh) dt

  pub first_none : (t : ℕ) → s.current ≤ s.oldest → s.count ≡ 0 → t ≡ next_into Old s.current s.count s.next
      → t ≡ first_time Old (world nand [] s) slots
  unfolding first_time
  first_none t l z dt =
      rw (le-ltb s.oldest s.current l)
      (dt ∙ sym (ap (λ (b : Bool). cond b (next_into Old s.current s.count s.next) s.start) (eq-eqb s.count 0 z)))

  pub first_open : s.current ≤ s.oldest → (s.count ≡ 0 → ⊥) → s.start ≡ first_time Old (world nand [] s) slots
  unfolding first_time
  first_open l z = rw (le-ltb s.oldest s.current l, ne_eqb s.count 0 z)

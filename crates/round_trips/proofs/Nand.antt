-- NAND of a history's world carried into the other form is that of the history in that form: each retained closed segment's pages, the
-- open serial's, and erased ones. Assumes nothing.
use mathlib.Core.Path.{◌≡◌, refl, sym, ap, ◌∙◌}
use mathlib.Core.Bool.{Bool, true, false, cond}
use mathlib.Core.List.{List, [], ◌∷◌, ◌++◌, map, append_assoc}
use Prim.Native.Nat.{ℕ, zero, suc, ◌+◌, ◌-◌, ◌*◌, ◌≤◌, ◌<◌}
use native.Mathlib.Decide.{dec_lt, ℕ_discrete}
use native.Mathlib.Nat.{add-mod_right}
use native.Mathlib.Omega.{arith}
use lib.Dec.{eqb, ltb}
use lib.ListN.{length, length-append}
use borrow.Author.Tests.{eq-eqb, ne_eqb, eqb-false, ltb-false, lt-ltb}
use Rattle.codec.specs.Area.{part, splice}
use Rattle.codec.proofs.Areas.{length_part, part_part, length_repeated}
use Rattle.flash.specs.Chip.{slot_of, page_of, chip_erased, erased_page}
use Rattle.flash.proofs.Slots.{slot_below}
use Rattle.flash.proofs.Pages.{chips_equal, page_chip_erased}
use Rattle.form.specs.declared.Form.{Form}
use Rattle.skiplist.specs.declared.Pointer.{Pointer}
use Rattle.skiplist.specs.Skip.{pointing, level_of, heads_after}
use Rattle.skiplist.specs.PointerBytes.{pointers_bytes, pointers_at}
use Rattle.skiplist.proofs.Pointers.{length_pointers}
use Rattle.codec.proofs.Numbers.{length_bytes}
use Rattle.form.specs.Forms.{pointer_width}
use Rattle.header.specs.Header.{header_page}
use Rattle.header.proofs.HeaderBytes.{serial_most}
use Rattle.header.proofs.HeaderSound.{sound_numbers, sound_heads}
use Rattle.paper_log.specs.Log.{Lift, open_serial}
use Rattle.refinement.specs.Inner.Segments as S
use Rattle.refinement.specs.Inner.Image.{History, oldest_heads, page_from, nand_image, state_image, image}
use Rattle.refinement.proofs.Good.{Good}
use Rattle.refinement.proofs.PageFrom.{heads_at, page_open, heads_snoc}
use Rattle.refinement.proofs.PageLengths.{four_heads, four_oldest, length_nand, page_of_nand}
use Rattle.refinement.proofs.Retained.{retained_page, sound}
use Rattle.carry.specs.Carried.{other, pointers_into, header_into, closed_into, nand_into}
use Rattle.carry.proofs.Carrying.{length_from}
use Rattle.round_trips.proofs.Histories.{into}
use Rattle.round_trips.proofs.Heads.{heads_into}
use Rattle.round_trips.proofs.Headers.{header_carried}
use Rattle.round_trips.proofs.Chips.{length_replaced, page_replaced, page_beside, page_into, page_among, length_into, page_closed}

-- a header's length
length_into_header : (f : Form) (n : ℕ) (h : List ℕ) → length h ≡ 512 → length (header_into f n h) ≡ 512
unfolding header_into pointers_at
length_into_header f n h e =
    let a = length_part h 0 10 (omega arith) in
    let b = length_part h 16 24 (omega arith) in
    let m = serial_most f in
    let ps = pointers_into f n 0 (pointers_at (other f) h 40) in
    let c : length (pointers_bytes f ps) ≡ 4 * pointer_width f =
    length_pointers f ps ∙ ap (λ (k : ℕ). k * pointer_width f) (length_from f n 0 (pointers_at (other f) h 40)) in
    simp (length-append, length_bytes, length_repeated, a, b, c) (omega arith)

-- pages other than the header do not hang on the form
closed_same : (v w : Form) (n : ℕ) (ls : List Lift) (a b : List Pointer) (p : ℕ) → p < 31 → S.closed_page v n ls a p ≡ S.closed_page w n ls b p
unfolding S.closed_page
closed_same v w n ls a b p h = go (ltb p 20) (ltb p 29) (eqb p 29) (eqb p 30) refl refl refl refl _ _ _ _ _ _
  where
    go : (x y z t : Bool) → ltb p 20 ≡ x → ltb p 29 ≡ y → eqb p 29 ≡ z → eqb p 30 ≡ t → (A B C D E F : List ℕ)
        → cond x A (cond y B (cond z C (cond t D E))) ≡ cond x A (cond y B (cond z C (cond t D F)))
    go true y z t e1 e2 e3 e4 A B C D E F = refl
    go false true z t e1 e2 e3 e4 A B C D E F = refl
    go false false true t e1 e2 e3 e4 A B C D E F = refl
    go false false false true e1 e2 e3 e4 A B C D E F = refl
    go false false false false e1 e2 e3 e4 A B C D E F =
        absurd (apart (eqb-false p 29 e3) (eqb-false p 30 e4) (ltb-false p 29 e2))
      where
        apart : (p ≡ 29 → ⊥) → (p ≡ 30 → ⊥) → 29 ≤ p → ⊥
        apart f g l = omega arith

module _ (f : Form) (h : History) (g : Good h) (e : h.log.form ≡ other f) (g' : Good (into f h)) where
  abbrev slots : ℕ
  slots = h.log.slots

  abbrev oldest : ℕ
  oldest = h.log.oldest

  some : 1 ≤ slots
  some = omega (arith, g.least)

  -- the heads where the segments b are closed
  abbrev heads : List (List Lift) → List Pointer
  heads b = heads_at f slots oldest b (oldest_heads (into f h))

  -- ---- a retained closed segment

  module _ (before : List (List Lift)) (ls : List Lift) (after : List (List Lift)) (is : h.log.closed ≡ before ++ (ls ∷ after)) where
    abbrev n : ℕ
    n = oldest + length before

    abbrev old : List Pointer
    old = heads_at h.log.form slots oldest before (oldest_heads h)

    below : n < open_serial h.log
    below = omega (arith, ap length is ∙ length-append before (ls ∷ after))

    header_is : header_into f n (page_of (nand_image h) (slot_of n slots) 31) ≡ header_page (S.closing_of f n ls (heads before))
    unfolding S.closed_page S.closing_of
    header_is =
        let s = sound h g before ls after is (open_serial h.log) below in
        let c = S.closing_of h.log.form n ls old in
        ap (header_into f n) (retained_page h g before ls after is 31 (omega arith))
        ∙ header_carried f c (heads before) e (sound_numbers c slots (open_serial h.log) s) (sound_heads c slots (open_serial h.log) s)
        (four_heads f slots oldest (map S.start_time before) (oldest_heads (into f h)) (four_oldest (into f h) g')) (heads_into f h g e before)

    page_is : (p : ℕ) → p < 32 → page_into f (nand_image h) slots n p ≡ S.closed_page f n ls (heads before) p
    unfolding S.closed_page
    page_is p l = go (dec_lt p 31)
      where
        go : Dec (p < 31) → page_into f (nand_image h) slots n p ≡ S.closed_page f n ls (heads before) p
        go (yes m) = rw (lt-ltb p 31 m) (retained_page h g before ls after is p l ∙ closed_same h.log.form f n ls old (heads before) p m)
        go (no m) = let z : p ≡ 31 = omega arith in rw z header_is

  -- ---- NAND

  abbrev open_slot : ℕ
  open_slot = slot_of (open_serial h.log) slots

  there : open_slot < slots
  there = slot_below slots (open_serial h.log) some

  abbrev open_area : List ℕ
  open_area = part (nand_image h) (open_slot * 16384) 16384

  length_open : length open_area ≡ 16384
  length_open = length_part (nand_image h) (open_slot * 16384) 16384 (omega (arith, length_nand h g, there))

  abbrev fresh : List ℕ
  fresh = splice (chip_erased (slots * 16384)) (open_slot * 16384) open_area

  erased_size : length (chip_erased (slots * 16384)) ≡ slots * 16384
  erased_size = length_repeated (slots * 16384) 255

  -- none of the m closed serials from n on has slot s
  abbrev Nowhere : ℕ → ℕ → ℕ → Type 0
  Nowhere n m s = (i : ℕ) → i < m → slot_of (n + i) slots ≡ s → ⊥

  -- page p of slot s is the open serial's, where n is the open serial, or erased
  abbrev Left : ℕ → ℕ → ℕ → Type 0
  Left n s p = page_of fresh s p ≡ cond (eqb (slot_of n slots) s) (S.open_page h.log.current p) erased_page

  -- the chip that the closed segments go into
  fresh_page : (s p : ℕ) → s < slots → p < 32 → Nowhere oldest (length h.log.closed) s → Left (open_serial h.log) s p
  unfolding slot_of
  fresh_page s p a b nowhere = go (ℕ_discrete s open_slot)
    where
      few : s ≡ open_slot → length h.log.closed < slots
      few q = by (dec_lt (length h.log.closed) slots)
        where
          wraps : length h.log.closed ≡ slots → slot_of (oldest + 0) slots ≡ open_slot
          wraps z =
              let first : oldest + 0 - 1 ≡ oldest - 1 = omega arith in
              let last : open_serial h.log - 1 ≡ oldest - 1 + slots = omega (arith, g.serial) in
              rw (first, last) (sym (add-mod_right (oldest - 1) slots))

          by : Dec (length h.log.closed < slots) → length h.log.closed < slots
          by (yes l) = l
          by (no l) =
              let z : length h.log.closed ≡ slots = omega (arith, g.room) in
              absurd (nowhere 0 (omega (arith, some)) (wraps z ∙ sym q))

      go : Dec (s ≡ open_slot) → Left (open_serial h.log) s p
      go (yes q) =
          rw (q, eq-eqb open_slot open_slot refl)
          (page_replaced (chip_erased (slots * 16384)) open_area slots open_slot erased_size there length_open p b
          ∙ part_part (nand_image h) (open_slot * 16384) 16384 (p * 512) 512 (omega (arith, length_nand h g, there)) (omega arith)
          ∙ page_of_nand h g open_slot p there b
          ∙ page_open h.log.form slots oldest h.log.closed h.log.current (oldest_heads h) p (omega (arith, g.serial)) (few q))
      go (no q) =
          rw (ne_eqb open_slot s (λ z. q (sym z)))
          (page_beside (chip_erased (slots * 16384)) open_area slots open_slot erased_size there length_open s p a b q ∙ page_chip_erased slots s p a b)

  -- the pages of the closed serials behind `before`, and of what is left, are those of the history in the other form
  abbrev Among : List (List Lift) → List (List Lift) → ℕ → ℕ → Type 0
  Among before c s p =
      page_among f (length c) (oldest + length before) (nand_image h) slots fresh s p
      ≡ page_from f slots (oldest + length before) c h.log.current (heads before) s p

  abbrev LeftBehind : List (List Lift) → List (List Lift) → ℕ → ℕ → Type 0
  LeftBehind before c s p = Nowhere (oldest + length before) (length c) s → Left (oldest + length before + length c) s p

  among_is : (before c : List (List Lift)) → h.log.closed ≡ before ++ c → (s p : ℕ) → s < slots → p < 32
      → LeftBehind before c s p → Among before c s p
  unfolding page_among page_from
  among_is before [] is s p a b left =
      let z : oldest + length before + 0 ≡ oldest + length before = omega arith in
      rw z at (left (λ i l. absurd (omega arith)))
  among_is before (ls ∷ rest) is s p a b left =
      go (eqb (slot_of m slots) s) refl (among_is more rest (is ∙ sym (append_assoc before (ls ∷ []) rest)) s p a b)
    where
      m : ℕ
      m = oldest + length before

      more : List (List Lift)
      more = before ++ (ls ∷ [])

      next : oldest + length more ≡ suc m
      next = omega (arith, length-append before (ls ∷ []))

      last : m + suc (length rest) ≡ oldest + length more + length rest
      last = omega (arith, length-append before (ls ∷ []))

      left_more : (slot_of m slots ≡ s → ⊥) → LeftBehind more rest s p
      left_more apart nowhere = rw last at (left each)
        where
          each : Nowhere m (suc (length rest)) s
          each zero l q = apart (let z : m ≡ m + 0 = omega arith in ap (λ (k : ℕ). slot_of k slots) z ∙ q)
          each (suc i) l q =
              let z : oldest + length more + i ≡ m + suc i = omega (arith, next) in
              nowhere i (omega arith) (ap (λ (k : ℕ). slot_of k slots) z ∙ q)

      go : (t : Bool) → eqb (slot_of m slots) s ≡ t → (LeftBehind more rest s p → Among more rest s p)
          → cond t (page_into f (nand_image h) slots m p) (page_among f (length rest) (suc m) (nand_image h) slots fresh s p)
          ≡ cond t (S.closed_page f m ls (heads before) p)
          (page_from f slots (suc m) rest h.log.current (heads_after (heads before) (level_of m) (pointing f (slot_of m slots) m (S.start_time ls))) s p)
      go true q behind = page_is before ls rest is p b
      go false q behind =
          rw (next, heads_snoc f slots oldest before ls (oldest_heads (into f h))) at (behind (left_more (eqb-false (slot_of m slots) s q)))

  long : (n : ℕ) → length (header_into f n (page_of (nand_image h) (slot_of n slots) 31)) ≡ 512
  long n =
      length_into_header f n (page_of (nand_image h) (slot_of n slots) 31)
      (length_part (nand_image h) (slot_of n slots * 16384 + 31 * 512) 512 (omega (arith, length_nand h g, slot_below slots n some)))

  fresh_size : length fresh ≡ slots * 16384
  fresh_size = length_replaced (chip_erased (slots * 16384)) open_area slots open_slot erased_size there length_open ∙ erased_size

  -- page by page
  page_carried : (s p : ℕ) → s < slots → p < 32
      → page_of (closed_into f (length h.log.closed) oldest (nand_image h) slots fresh) s p ≡ page_of (nand_image (into f h)) s p
  unfolding S.heads_from
  page_carried s p a b =
      let z : oldest + 0 ≡ oldest = omega arith in
      page_closed f (nand_image h) slots some (length_nand h g) long (length h.log.closed) oldest fresh fresh_size
      (omega (arith, g.serial)) g.room s p a b
      ∙ (rw z at (among_is [] h.log.closed refl s p a b (λ nowhere. rw z (fresh_page s p a b (rw z at nowhere)))))
      ∙ sym (page_of_nand (into f h) g' s p a b)

  pub nand_is : nand_into f (image h) h.log.slots ≡ nand_image (into f h)
  unfolding nand_into image state_image
  nand_is =
      let d : open_serial h.log - oldest ≡ length h.log.closed = omega arith in
      rw (d, length_nand h g) (chips_equal _ (nand_image (into f h)) slots
      (length_into f (nand_image h) slots some (length_nand h g) long (length h.log.closed) oldest fresh fresh_size)
      (length_nand (into f h) g') page_carried)

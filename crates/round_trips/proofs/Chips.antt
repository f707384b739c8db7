-- NAND carried into the other form, page by page: a retained closed segment's slot has its pages and its header anew, the open
-- serial's slot its pages, every other slot is erased. By induction over the closed segments. Assumes nothing.
use mathlib.Core.Path.{◌≡◌, refl, sym, ap, ◌∙◌}
use mathlib.Core.Bool.{cond}
use mathlib.Core.List.{List, ◌++◌}
use Prim.Native.Nat.{ℕ, zero, suc, ◌+◌, ◌*◌, ◌≤◌, ◌<◌}
use native.Mathlib.Decide.{dec_lt, ℕ_discrete}
use native.Mathlib.Omega.{arith}
use lib.Dec.{eqb, ltb}
use lib.ListN.{length, length-append}
use borrow.Author.Tests.{eq-eqb, ne_eqb, lt-ltb, le-ltb}
use Rattle.codec.specs.Area.{part, splice}
use Rattle.codec.proofs.Areas.{length_part, length_splice, part_part, part_inside, part_before, part_after, part_all, part_append_left, part_append_right}
use Rattle.flash.specs.Chip.{slot_of, page_of}
use Rattle.flash.proofs.Slots.{slots_differ, slot_below}
use Rattle.form.specs.declared.Form.{Form}
use Rattle.carry.specs.Carried.{header_into, slot_into, closed_into}

-- ---- a slot replaced

module _ (to area : List ℕ) (slots slot : ℕ) (size : length to ≡ slots * 16384) (there : slot < slots) (whole : length area ≡ 16384) where
  pub length_replaced : length (splice to (slot * 16384) area) ≡ length to
  length_replaced = length_splice to (slot * 16384) area (omega arith)

  pub page_replaced : (p : ℕ) → p < 32 → page_of (splice to (slot * 16384) area) slot p ≡ part area (p * 512) 512
  page_replaced p h = part_inside to (slot * 16384) area (omega arith) (p * 512) 512 (omega arith)

  pub page_beside : (s p : ℕ) → s < slots → p < 32 → (s ≡ slot → ⊥) → page_of (splice to (slot * 16384) area) s p ≡ page_of to s p
  page_beside s p h k f = go (dec_lt s slot)
    where
      go : Dec (s < slot) → page_of (splice to (slot * 16384) area) s p ≡ page_of to s p
      go (yes l) = part_before to (slot * 16384) area (omega arith) (s * 16384 + p * 512) 512 (omega arith)
      go (no l) =
          let m : slot < s = apart s slot f (omega arith) in
          part_after to (slot * 16384) area (omega arith) (s * 16384 + p * 512) 512 (omega arith) (omega arith)
        where
          apart : (a b : ℕ) → (a ≡ b → ⊥) → b ≤ a → b < a
          apart a b f l = by (ℕ_discrete a b)
            where
              by : Dec (a ≡ b) → b < a
              by (yes e) = absurd (f e)
              by (no g) = omega arith

-- ---- closed segments

-- page p of the slot of serial n
abbrev pub page_into : Form → List ℕ → ℕ → ℕ → ℕ → List ℕ
page_into f nand slots n p = cond (ltb p 31) (page_of nand (slot_of n slots) p) (header_into f n (page_of nand (slot_of n slots) 31))

-- page p of slot s, of the m closed serials from n on, else of the chip that was there
unfoldable pub page_among : Form → ℕ → ℕ → List ℕ → ℕ → List ℕ → ℕ → ℕ → List ℕ
page_among f zero n nand slots to s p = page_of to s p
page_among f (suc m) n nand slots to s p = cond (eqb (slot_of n slots) s) (page_into f nand slots n p) (page_among f m (suc n) nand slots to s p)

module _ (f : Form) (nand : List ℕ) (slots : ℕ) (least : 1 ≤ slots) (size : length nand ≡ slots * 16384)
    (long : (n : ℕ) → length (header_into f n (page_of nand (slot_of n slots) 31)) ≡ 512) where
  length_slot : (n : ℕ) → length (slot_into f nand (slot_of n slots) n) ≡ 16384
  unfolding slot_into
  length_slot n =
      let s = slot_below slots n least in
      length-append (part nand (slot_of n slots * 16384) 15872) _ ∙ omega (arith, length_part nand (slot_of n slots * 16384) 15872 (omega arith), long n)

  page_slot : (n p : ℕ) → p < 32 → part (slot_into f nand (slot_of n slots) n) (p * 512) 512 ≡ page_into f nand slots n p
  unfolding slot_into
  page_slot n p h = go (dec_lt p 31)
    where
      s : slot_of n slots < slots
      s = slot_below slots n least

      front : length (part nand (slot_of n slots * 16384) 15872) ≡ 15872
      front = length_part nand (slot_of n slots * 16384) 15872 (omega (arith, s))

      go : Dec (p < 31) → part (part nand (slot_of n slots * 16384) 15872 ++ header_into f n (page_of nand (slot_of n slots) 31)) (p * 512) 512
          ≡ page_into f nand slots n p
      go (yes l) =
          rw (lt-ltb p 31 l) (part_append_left (part nand (slot_of n slots * 16384) 15872) _ (p * 512) 512 (omega (arith, front))
          ∙ part_part nand (slot_of n slots * 16384) 15872 (p * 512) 512 (omega (arith, s)) (omega arith))
      go (no l) =
          let e : p * 512 ≡ 15872 = omega arith in
          rw (le-ltb p 31 (omega arith), e)
          (part_append_right (part nand (slot_of n slots * 16384) 15872) _ 0 15872 512 (omega (arith, front)) (omega (arith, long n))
          ∙ part_all (header_into f n (page_of nand (slot_of n slots) 31)) 512 (long n))

  -- serials behind k that are fewer than S have other slots
  none_later : (m n k : ℕ) (to : List ℕ) (p : ℕ) → 1 ≤ k → k < n → n + m ≤ k + slots
      → page_among f m n nand slots to (slot_of k slots) p ≡ page_of to (slot_of k slots) p
  unfolding page_among
  none_later zero n k to p a b c = refl
  none_later (suc m) n k to p a b c =
      rw (ne_eqb (slot_of n slots) (slot_of k slots) (λ e. slots_differ slots k n a b (omega arith) (sym e)))
      (none_later m (suc n) k to p a (omega arith) (omega arith))

  -- the chip behind counts only where no serial has the slot
  same_behind : (m n : ℕ) (a b : List ℕ) (s p : ℕ) → page_of a s p ≡ page_of b s p → page_among f m n nand slots a s p ≡ page_among f m n nand slots b s p
  unfolding page_among
  same_behind zero n a b s p e = e
  same_behind (suc m) n a b s p e = ap (cond (eqb (slot_of n slots) s) (page_into f nand slots n p)) (same_behind m (suc n) a b s p e)

  pub length_into : (m n : ℕ) (to : List ℕ) → length to ≡ slots * 16384 → length (closed_into f m n nand slots to) ≡ slots * 16384
  unfolding closed_into
  length_into zero n to e = e
  length_into (suc m) n to e =
      length_into m (suc n) _ (length_replaced to (slot_into f nand (slot_of n slots) n) slots (slot_of n slots) e (slot_below slots n least) (length_slot n) ∙ e)

  pub page_closed : (m n : ℕ) (to : List ℕ) → length to ≡ slots * 16384 → 1 ≤ n → m ≤ slots → (s p : ℕ) → s < slots → p < 32
      → page_of (closed_into f m n nand slots to) s p ≡ page_among f m n nand slots to s p
  unfolding closed_into page_among
  page_closed zero n to e a b s p h k = refl
  page_closed (suc m) n to e a b s p h k =
      page_closed m (suc n) next (length_replaced to area slots slot e there whole ∙ e) (omega arith) (omega arith) s p h k ∙ go (ℕ_discrete s slot)
    where
      slot : ℕ
      slot = slot_of n slots

      area : List ℕ
      area = slot_into f nand slot n

      next : List ℕ
      next = splice to (slot * 16384) area

      there : slot < slots
      there = slot_below slots n least

      whole : length area ≡ 16384
      whole = length_slot n

      go : Dec (s ≡ slot) → page_among f m (suc n) nand slots next s p ≡ cond (eqb slot s) (page_into f nand slots n p) (page_among f m (suc n) nand slots to s p)
      go (yes q) =
          rw (q, eq-eqb slot slot refl) (none_later m (suc n) n next p a (omega arith) (omega arith)
          ∙ page_replaced to area slots slot e there whole p k ∙ page_slot n p k)
      go (no q) =
          rw (ne_eqb slot s (λ z. q (sym z))) (same_behind m (suc n) next to s p (page_beside to area slots slot e there whole s p h k q))

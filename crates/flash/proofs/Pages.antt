-- A chip is an array of pages: a page after programming or erasing, every other page as it was, and two chips that agree at every page are equal.
-- Assumes nothing.
use mathlib.Core.Path.{◌≡◌, ◌∙◌}
use mathlib.Core.List.{List}
use Prim.Native.Nat.{ℕ, ◌+◌, ◌*◌, ◌/◌, ◌%◌, ◌<◌}
use native.Mathlib.Decide.{dec_lt}
use native.Mathlib.Omega.{arith}
use lib.ListN.{length}
use Rattle.codec.specs.Area.{repeated}
use Rattle.codec.proofs.Areas.{length_repeated, part_repeated, length_splice, part_before, part_inside, part_after, part_splice, agree_at_parts}
use Rattle.flash.specs.Chip.{page_start, page_of, programmed, slot_erased, chip_erased, erased_page}

module _ (nand : List ℕ) (slots : ℕ) (size : length nand ≡ slots * 16384) (slot : ℕ) (there : slot < slots) where
  pub length_programmed : (p : ℕ) (page : List ℕ) → p < 32 → length page ≡ 512 → length (programmed nand slot p page) ≡ length nand
  length_programmed p page h l = length_splice nand (page_start slot p) page (omega arith)

  pub page_programmed_lem : (p : ℕ) (page : List ℕ) → p < 32 → length page ≡ 512 → page_of (programmed nand slot p page) slot p ≡ page
  page_programmed_lem p page h l = part_splice nand (page_start slot p) page (omega arith) 512 l

  -- every other page is as it was
  pub page_elsewhere : (p : ℕ) (page : List ℕ) (slot' q : ℕ) → p < 32 → length page ≡ 512 → slot' < slots → q < 32
      → (slot' * 32 + q ≡ slot * 32 + p → ⊥) → page_of (programmed nand slot p page) slot' q ≡ page_of nand slot' q
  page_elsewhere p page slot' q h l k j other = go (dec_lt (slot' * 32 + q) (slot * 32 + p))
    where
      go : Dec (slot' * 32 + q < slot * 32 + p) → page_of (programmed nand slot p page) slot' q ≡ page_of nand slot' q
      go (yes b) = part_before nand (page_start slot p) page (omega arith) (page_start slot' q) 512 (omega arith)
      go (no b) =
          let a : slot * 32 + p < slot' * 32 + q = omega arith in
          part_after nand (page_start slot p) page (omega arith) (page_start slot' q) 512 (omega arith) (omega arith)

  pub length_slot_erased : length (slot_erased nand slot) ≡ length nand
  length_slot_erased = let l = length_repeated 16384 255 in length_splice nand (slot * 16384) (repeated 16384 255) (omega arith)

  pub page_slot_erased : (p : ℕ) → p < 32 → page_of (slot_erased nand slot) slot p ≡ erased_page
  page_slot_erased p h =
      let l = length_repeated 16384 255 in
      part_inside nand (slot * 16384) (repeated 16384 255) (omega arith) (p * 512) 512 (omega arith)
      ∙ part_repeated 16384 255 (p * 512) 512 (omega arith)

  -- a page of another slot is as it was
  pub page_other_slot : (slot' q : ℕ) → slot' < slots → q < 32 → (slot' ≡ slot → ⊥)
      → page_of (slot_erased nand slot) slot' q ≡ page_of nand slot' q
  page_other_slot slot' q k j other = go (dec_lt slot' slot)
    where
      l : length (repeated 16384 255) ≡ 16384
      l = length_repeated 16384 255

      go : Dec (slot' < slot) → page_of (slot_erased nand slot) slot' q ≡ page_of nand slot' q
      go (yes b) = part_before nand (slot * 16384) (repeated 16384 255) (omega (arith, l)) (page_start slot' q) 512 (omega arith)
      go (no b) =
          let a : slot < slot' = omega arith in
          part_after nand (slot * 16384) (repeated 16384 255) (omega (arith, l)) (page_start slot' q) 512 (omega (arith, l)) (omega arith)

-- a chip erased whole
pub page_chip_erased : (slots slot p : ℕ) → slot < slots → p < 32 → page_of (chip_erased (slots * 16384)) slot p ≡ erased_page
page_chip_erased slots slot p h k = part_repeated (slots * 16384) 255 (page_start slot p) 512 (omega arith)

-- two chips of S slots that agree at every page are equal
pub chips_equal : (a b : List ℕ) (slots : ℕ) → length a ≡ slots * 16384 → length b ≡ slots * 16384
    → ((slot p : ℕ) → slot < slots → p < 32 → page_of a slot p ≡ page_of b slot p) → a ≡ b
chips_equal a b slots la lb e = agree_at_parts a b 512 (slots * 32) (omega arith) (omega arith) (omega arith) (λ k h.
    let s : k * 512 ≡ page_start (k / 32) (k % 32) = omega arith in
    rw s (e (k / 32) (k % 32) (omega arith) (omega arith)))

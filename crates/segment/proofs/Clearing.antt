-- A close only clears bits: each page that it programs is erased when its turn comes, since the pages programmed before are others.
-- Assumes nothing.
use mathlib.Core.Path.{◌≡◌, refl, ap, ap₂, ◌∙◌}
use mathlib.Core.Bool.{Bool, true, false, cond, not, ◌&&◌, ◌||◌}
use mathlib.Core.List.{List}
use Prim.Native.Nat.{ℕ, zero, suc, ◌+◌, ◌*◌, ◌≤◌, ◌<◌}
use native.Mathlib.Omega.{arith}
use lib.ListN.{length}
use Rattle.codec.specs.Area.{all_ones}
use Rattle.codec.proofs.Truth.{and_left, and_right}
use Rattle.flash.specs.Chip.{page_erased, programmed}
use Rattle.flash.specs.Clears.{OnlyClears}
use Rattle.flash.proofs.Clearing.{clears_none, clears_trans, clears_page}
use Rattle.header.specs.declared.Closing.{Closing}
use Rattle.segment.specs.Pages.{page_due, close_page, page_ready, pages_erased, close_erased}
use Rattle.segment.specs.Pages.{page_programmed, pages_programmed, close_programmed}
use Rattle.segment.proofs.ClosedPages.{Shaped, length_image, length_one, one_elsewhere}
use Rattle.segment.proofs.ImageBytes.{Valued, bytes_image}

module _ (nor : List ℕ) (c : Closing) (shaped : Shaped nor c) (valued : Valued nor c) (slots slot : ℕ) (there : slot < slots) where
  one_clears : (nand : List ℕ) → length nand ≡ slots * 16384 → (k : ℕ) → k < 32
      → page_ready nand slot c.count c.buckets k ≡ true
      → OnlyClears nand (page_programmed nand nor slot c k)
  unfolding page_programmed
  one_clears nand size k h = go (page_due c.count c.buckets k)
    where
      go : (due : Bool) → (not due || page_erased nand slot k) ≡ true
          → OnlyClears nand (cond due (programmed nand slot k (close_page nor c k)) nand)
      go true e =
          clears_page nand slot k (close_page nor c k) (omega arith) (length_image nor c k shaped)
          (bytes_image nor c k shaped valued) e
      go false e = clears_none nand

  -- the pages after page k are as erased as they were
  same_after : (nand : List ℕ) → length nand ≡ slots * 16384 → (k : ℕ) → (n q : ℕ) → k < q → q + n ≤ 32
      → pages_erased n q (page_programmed nand nor slot c k) slot c.count c.buckets
      ≡ pages_erased n q nand slot c.count c.buckets
  unfolding pages_erased
  same_after nand size k zero q h l = refl
  same_after nand size k (suc n) q h l =
      ap₂ ◌&&◌
      (ap (λ (s : List ℕ). not (page_due c.count c.buckets q) || all_ones s)
      (one_elsewhere nor c shaped slots slot there nand size k (omega arith) slot q there (omega arith) (λ e. omega arith)))
      (same_after nand size k n (suc q) (omega arith) (omega arith))

  clears_from : (n q : ℕ) (nand : List ℕ) → length nand ≡ slots * 16384 → q + n ≤ 32
      → pages_erased n q nand slot c.count c.buckets ≡ true
      → OnlyClears nand (pages_programmed n q nand nor slot c)
  unfolding pages_erased pages_programmed
  clears_from zero q nand size h e = clears_none nand
  clears_from (suc n) q nand size h e =
      let r = and_left (page_ready nand slot c.count c.buckets q) _ e in
      let s = and_right (page_ready nand slot c.count c.buckets q) _ e in
      clears_trans (one_clears nand size q (omega arith) r)
      (clears_from n (suc q) (page_programmed nand nor slot c q)
      (length_one nor c shaped slots slot there nand size q (omega arith) ∙ size) (omega arith)
      (same_after nand size q n (suc q) (omega arith) (omega arith) ∙ s))

  pub close_clears : (nand : List ℕ) → length nand ≡ slots * 16384 → close_erased nand slot c.count c.buckets ≡ true
      → OnlyClears nand (close_programmed nand nor slot c)
  close_clears nand size e = clears_from 32 0 nand size (omega arith) e

-- What the page functions go by: a page's image by its number, and the turns of the two loops, where what is left to do
-- from page p on gives what the whole gives. Assumes nothing.
use mathlib.Core.Path.{◌≡◌, sym, ap, ◌∙◌}
use mathlib.Core.Bool.{Bool, true, false, not, ◌&&◌}
use mathlib.Core.List.{List}
use Prim.Native.Nat.{ℕ, suc, ◌+◌, ◌-◌, ◌*◌, ◌≤◌, ◌<◌}
use native.Mathlib.Omega.{arith}
use borrow.Author.Tests.{lt-ltb, le-ltb, ltb-true}
use Rattle.flash.specs.Chip.{page_erased, programmed}
use Rattle.bloom.specs.Pages.{sections_from, bloom_page}
use Rattle.header.specs.declared.Closing.{Closing}
use Rattle.header.specs.Header.{header_page}
use Rattle.segment.specs.Pages.{page_due, tree_page, close_page, page_ready, pages_erased, page_programmed, pages_programmed}
use Rattle.segment.proofs.Tests.{due_tree}
use Rattle.segment.proofs.TreeRun.{tree_run, tree_run_lem}

-- ---- a page's image

module _ (nor : List ℕ) (c : Closing) (p : ℕ) where
  pub image_lifts : p < 20 → close_page nor c p ≡ c.page
  unfolding close_page
  image_lifts h = rw (lt-ltb p 20 h)

  pub image_page : 20 ≤ p → p < 29 → close_page nor c p ≡ tree_page nor c.buckets p
  unfolding close_page
  image_page h k = rw (le-ltb p 20 h, lt-ltb p 29 k)

  pub image_tree : 20 ≤ p → p < 29 → close_page nor c p ≡ tree_run nor c.buckets (p - 20)
  image_tree h k = image_page h k ∙ tree_run_lem nor c.buckets p

  pub image_bloom : 29 ≤ p → p < 31 → close_page nor c p ≡ bloom_page (sections_from nor c.bloom c.count) (p - 29)
  unfolding close_page
  image_bloom h k = rw (le-ltb p 20 (omega arith), le-ltb p 29 h, lt-ltb p 31 k)

  pub image_header : 31 ≤ p → close_page nor c p ≡ header_page c
  unfolding close_page
  image_header h = rw (le-ltb p 20 (omega arith), le-ltb p 29 (omega arith), le-ltb p 31 h)

-- a tree page that is due has a bucket
pub tree_due : (count buckets p : ℕ) → 20 ≤ p → p < 29 → page_due count buckets p ≡ true → (p - 20) * 4 < buckets
tree_due count buckets p h k e = ltb-true ((p - 20) * 4) buckets (due_tree count buckets p h k ∙ e)

-- ---- is_ready and program_page

module _ (nand : List ℕ) (slot count buckets p : ℕ) (due : Bool) (e : due ≡ page_due count buckets p) where
  pub ready_due : (r : Bool) → due ≡ true → r ≡ page_erased nand slot p → r ≡ page_ready nand slot count buckets p
  ready_due r t f = rw (← e, t) f

  pub ready_not : due ≡ false → true ≡ page_ready nand slot count buckets p
  ready_not t = rw (← e, t)

module _ (nand nor : List ℕ) (slot : ℕ) (c : Closing) (p : ℕ) (due : Bool) (e : due ≡ page_due c.count c.buckets p) where
  pub program_due : (d new : List ℕ) → due ≡ true → d ≡ close_page nor c p → new ≡ programmed nand slot p d
      → new ≡ page_programmed nand nor slot c p
  unfolding page_programmed
  program_due d new t f g = rw (← e, t, ← f) g

  pub program_not : due ≡ false → nand ≡ page_programmed nand nor slot c p
  unfolding page_programmed
  program_not t = rw (← e, t)

-- ---- the loops, from page p to page n

module _ (nand : List ℕ) (slot count buckets n p : ℕ) where
  first : p < n → pages_erased (n - p) p nand slot count buckets
      ≡ (page_ready nand slot count buckets p && pages_erased (n - (p + 1)) (p + 1) nand slot count buckets)
  unfolding pages_erased
  first h =
      let e : n - p ≡ suc (n - (p + 1)) = omega arith in
      let s : suc p ≡ p + 1 = omega arith in
      rw (e, s)

  pub erased_not : (r : Bool) → p < n → r ≡ page_ready nand slot count buckets p → not r ≡ true
      → false ≡ pages_erased (n - p) p nand slot count buckets
  erased_not true h f t = cc
  erased_not false h f t = sym (first h ∙ rw (← f))

  pub erased_more : (r : Bool) → p < n → r ≡ page_ready nand slot count buckets p → not r ≡ false
      → pages_erased (n - (p + 1)) (p + 1) nand slot count buckets ≡ pages_erased (n - p) p nand slot count buckets
  erased_more true h f t = sym (first h ∙ rw (← f))
  erased_more false h f t = cc

  pub erased_all : n ≤ p → true ≡ pages_erased (n - p) p nand slot count buckets
  unfolding pages_erased
  erased_all h = let e : n - p ≡ 0 = omega arith in rw e

module _ (nand nor : List ℕ) (slot : ℕ) (c : Closing) (n p : ℕ) where
  pub programmed_more : (new : List ℕ) → p < n → new ≡ page_programmed nand nor slot c p
      → pages_programmed (n - (p + 1)) (p + 1) new nor slot c ≡ pages_programmed (n - p) p nand nor slot c
  unfolding pages_programmed
  programmed_more new h f =
      let e : suc (n - (p + 1)) ≡ n - p = omega arith in
      let s : p + 1 ≡ suc p = omega arith in
      ap (λ (t : List ℕ). pages_programmed (n - (p + 1)) (p + 1) t nor slot c) f
      ∙ ap (λ (q : ℕ). pages_programmed (n - (p + 1)) q (page_programmed nand nor slot c p) nor slot c) s
      ∙ ap (λ (k : ℕ). pages_programmed k p nand nor slot c) e

  pub programmed_all : n ≤ p → nand ≡ pages_programmed (n - p) p nand nor slot c
  unfolding pages_programmed
  programmed_all h = let e : n - p ≡ 0 = omega arith in rw e

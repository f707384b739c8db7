-- The pages of a chip after a close: those of the slot that are due hold their images, every other page is as it was.
-- By induction on the pages, from flash's laws of one page. Assumes nothing.
use mathlib.Core.Path.{◌≡◌, refl, sym, ap, ◌∙◌}
use mathlib.Core.Bool.{Bool, true, false, cond}
use mathlib.Core.List.{List}
use Prim.Native.Nat.{ℕ, zero, suc, ◌+◌, ◌-◌, ◌*◌, ◌≤◌, ◌<◌, min}
use native.Mathlib.Decide.{dec_lt, ℕ_discrete}
use native.Mathlib.Omega.{arith}
use lib.ListN.{length, length-append}
use Rattle.codec.specs.Area.{part, repeated}
use Rattle.codec.proofs.Areas.{length_part, length_repeated}
use Rattle.flash.specs.Chip.{page_of, programmed}
use Rattle.flash.proofs.Pages.{length_programmed, page_programmed_lem, page_elsewhere}
use Rattle.bloom.proofs.Turns.{length_open_page_lem}
use Rattle.header.specs.declared.Closing.{Closing}
use Rattle.header.proofs.HeaderBytes.{length_header}
use Rattle.segment.specs.Pages.{page_due, close_page, page_programmed, pages_programmed, close_programmed}
use Rattle.segment.proofs.Turns.{image_lifts, image_tree, image_bloom, image_header}
use Rattle.segment.proofs.TreeRun.{tree_run}

-- the sizes of what a close is given
pub record Shaped (nor : List ℕ) (c : Closing) : Type 0 where
  pub nor_size : length nor ≡ 6144
  pub some : 1 ≤ c.count
  pub most : c.count ≤ 320
  pub few : c.buckets ≤ 36
  pub heads_four : length c.heads ≡ 4
  pub page_size : length c.page ≡ 512
  pub bloom_size : length c.bloom ≡ 128

-- ---- lengths

pub length_tree : (nor : List ℕ) (buckets i : ℕ) → i * 512 ≤ length nor → buckets * 128 ≤ length nor
    → length (tree_run nor buckets i) ≡ 512
unfolding tree_run
length_tree nor buckets i h k =
    let n = min 512 (buckets * 128 - i * 512) in
    length-append (part nor (i * 512) n) (repeated (512 - n) 255)
    ∙ omega (arith, length_part nor (i * 512) n (omega arith), length_repeated (512 - n) 255)

-- an image has 512 bytes, whether it is due or not
pub length_image : (nor : List ℕ) (c : Closing) (p : ℕ) → Shaped nor c → length (close_page nor c p) ≡ 512
length_image nor c p f = go (dec_lt p 20) (dec_lt p 29) (dec_lt p 31)
  where
    go : Dec (p < 20) → Dec (p < 29) → Dec (p < 31) → length (close_page nor c p) ≡ 512
    go (yes h) d e = ap length (image_lifts nor c p h) ∙ f.page_size
    go (no h) (yes k) e =
        ap length (image_tree nor c p (omega arith) k)
        ∙ length_tree nor c.buckets (p - 20) (omega (arith, f.nor_size)) (omega (arith, f.nor_size, f.few))
    go (no h) (no k) (yes l) =
        ap length (image_bloom nor c p (omega arith) l) ∙ length_open_page_lem nor c.bloom c.count (p - 29) f.some f.most
    go (no h) (no k) (no l) = ap length (image_header nor c p (omega arith)) ∙ length_header c f.heads_four

module _ (nor : List ℕ) (c : Closing) (shaped : Shaped nor c) (slots slot : ℕ) (there : slot < slots) where
  -- ---- one page

  abbrev due : ℕ → Bool
  due p = page_due c.count c.buckets p

  module _ (nand : List ℕ) (size : length nand ≡ slots * 16384) (k : ℕ) (h : k < 32) where
    by_due : (P : List ℕ → Type 0) → P (programmed nand slot k (close_page nor c k)) → P nand → P (page_programmed nand nor slot c k)
    unfolding page_programmed
    by_due P yes' no' = go (due k)
      where
        go : (b : Bool) → P (cond b (programmed nand slot k (close_page nor c k)) nand)
        go true = yes'
        go false = no'

    pub length_one : length (page_programmed nand nor slot c k) ≡ length nand
    length_one =
        by_due (λ t. length t ≡ length nand) (length_programmed nand slots size slot there k (close_page nor c k) h
        (length_image nor c k shaped)) refl

    pub one_elsewhere : (slot' p : ℕ) → slot' < slots → p < 32 → (slot' * 32 + p ≡ slot * 32 + k → ⊥)
        → page_of (page_programmed nand nor slot c k) slot' p ≡ page_of nand slot' p
    one_elsewhere slot' p l m other =
        by_due (λ t. page_of t slot' p ≡ page_of nand slot' p)
        (page_elsewhere nand slots size slot there k (close_page nor c k) slot' p h (length_image nor c k shaped) l m other) refl

    one_here : page_of (page_programmed nand nor slot c k) slot k ≡ cond (due k) (close_page nor c k) (page_of nand slot k)
    unfolding page_programmed
    one_here = go (due k)
      where
        go : (b : Bool) → page_of (cond b (programmed nand slot k (close_page nor c k)) nand) slot k
            ≡ cond b (close_page nor c k) (page_of nand slot k)
        go true = page_programmed_lem nand slots size slot there k (close_page nor c k) h (length_image nor c k shaped)
        go false = refl

  -- ---- the n pages from q on

  pub length_closed_from : (n q : ℕ) (nand : List ℕ) → length nand ≡ slots * 16384 → q + n ≤ 32
      → length (pages_programmed n q nand nor slot c) ≡ length nand
  unfolding pages_programmed
  length_closed_from zero q nand size h = refl
  length_closed_from (suc n) q nand size h =
      let l = length_one nand size q (omega arith) in
      length_closed_from n (suc q) (page_programmed nand nor slot c q) (l ∙ size) (omega arith) ∙ l

  -- a page that is none of them
  pub page_outside : (n q : ℕ) (nand : List ℕ) → length nand ≡ slots * 16384 → q + n ≤ 32 → (slot' p : ℕ) → slot' < slots → p < 32
      → ((k : ℕ) → q ≤ k → k < q + n → slot' * 32 + p ≡ slot * 32 + k → ⊥)
      → page_of (pages_programmed n q nand nor slot c) slot' p ≡ page_of nand slot' p
  unfolding pages_programmed
  page_outside zero q nand size h slot' p l m other = refl
  page_outside (suc n) q nand size h slot' p l m other =
      page_outside n (suc q) (page_programmed nand nor slot c q) (length_one nand size q (omega arith) ∙ size)
      (omega arith) slot' p l m
      (λ k a b. other k (omega arith) (omega arith))
      ∙ one_elsewhere nand size q (omega arith) slot' p l m (other q (omega arith) (omega arith))

  -- a page that is one of them
  pub page_inside : (n q : ℕ) (nand : List ℕ) → length nand ≡ slots * 16384 → q + n ≤ 32 → (p : ℕ) → q ≤ p → p < q + n
      → page_of (pages_programmed n q nand nor slot c) slot p ≡ cond (due p) (close_page nor c p) (page_of nand slot p)
  unfolding pages_programmed
  page_inside zero q nand size h p a b = absurd (omega arith)
  page_inside (suc n) q nand size h p a b = go (ℕ_discrete p q)
      (page_inside n (suc q) (page_programmed nand nor slot c q) (length_one nand size q (omega arith) ∙ size) (omega arith) p)
    where
      nand' : List ℕ
      nand' = page_programmed nand nor slot c q

      go : Dec (p ≡ q)
          → (suc q ≤ p → p < suc q + n → page_of (pages_programmed n (suc q) nand' nor slot c) slot p
          ≡ cond (due p) (close_page nor c p) (page_of nand' slot p))
          → page_of (pages_programmed n (suc q) nand' nor slot c) slot p ≡ cond (due p) (close_page nor c p) (page_of nand slot p)
      go (yes e) ih =
          page_outside n (suc q) nand' (length_one nand size q (omega arith) ∙ size) (omega arith) slot p there (omega arith)
          (λ k u v w. omega arith)
          ∙ ap (λ (r : ℕ). page_of nand' slot r) e ∙ one_here nand size q (omega arith)
          ∙ ap (λ (r : ℕ). cond (due r) (close_page nor c r) (page_of nand slot r)) (sym e)
      go (no f) ih =
          ih (omega arith) (omega arith)
          ∙ ap (cond (due p) (close_page nor c p)) (one_elsewhere nand size q (omega arith) slot p there (omega arith)
          (λ w. f (omega arith)))

  -- ---- a close

  module _ (nand : List ℕ) (size : length nand ≡ slots * 16384) where
    pub length_closed : length (close_programmed nand nor slot c) ≡ length nand
    length_closed = length_closed_from 32 0 nand size (omega arith)

    -- a page of the slot
    pub page_closed : (p : ℕ) → p < 32
        → page_of (close_programmed nand nor slot c) slot p
        ≡ cond (page_due c.count c.buckets p) (close_page nor c p) (page_of nand slot p)
    page_closed p h = page_inside 32 0 nand size (omega arith) p (omega arith) (omega arith)

    -- a page of another slot
    pub page_other : (slot' p : ℕ) → slot' < slots → p < 32 → (slot' ≡ slot → ⊥)
        → page_of (close_programmed nand nor slot c) slot' p ≡ page_of nand slot' p
    page_other slot' p l m other = page_outside 32 0 nand size (omega arith) slot' p l m (λ k a b e. other (omega arith))

-- Every page of an image has 512 bytes, and the chip's page p of slot s is the image's. Assumes nothing.
use mathlib.Core.Path.{◌≡◌, refl, ap, ap₂, ◌∙◌}
use mathlib.Core.Bool.{Bool, true, false, cond}
use mathlib.Core.List.{List, [], ◌∷◌}
use Prim.Native.Nat.{ℕ, zero, suc, ◌+◌, ◌-◌, ◌*◌, ◌/◌, ◌%◌, ◌<◌}
use native.Mathlib.Omega.{arith}
use lib.Dec.{eqb, ltb}
use lib.ListN.{length}
use borrow.Author.Tests.{ltb-true, ltb-false}
use Rattle.form.specs.declared.Form.{Form}
use Rattle.codec.specs.Area.{part}
use Rattle.codec.proofs.Areas.{length_repeated, length_part}
use Rattle.flash.specs.Chip.{slot_of, page_of, erased_page}
use Rattle.bloom.specs.Pages.{each, five_sections, segment_sections, bloom_page}
use Rattle.bloom.proofs.Each.{length_each, get_or_each}
use Rattle.bloom.proofs.Fragments as F
use Rattle.bloom.proofs.Pages as P
use Rattle.skiplist.specs.declared.Pointer.{Pointer}
use Rattle.skiplist.specs.Skip.{pointing, level_of, heads_after, no_heads}
use Rattle.skiplist.proofs.Nodes.{length_heads}
use Rattle.header.proofs.HeaderBytes.{level_most, length_header}
use Rattle.tree.specs.Rules.{buckets_of}
use Rattle.tree.proofs.Written.{length_tree}
use Rattle.found.proofs.Wide.{Wide}
use Rattle.search.proofs.Rows.{length_rows, row_at}
use Rattle.paper_log.specs.Log.{Lift, codes}
use Rattle.refinement.specs.Inner.Segments.{lift_page, tree_area, closing_of, closed_page, open_page, heads_from, start_time}
use Rattle.refinement.specs.Inner.Image.{History, oldest_heads, page_from, page_image, nand_image}
use Rattle.refinement.proofs.Good.{Built, AllBuilt, Segments, none, more, Good}
use Rattle.refinement.proofs.Lengths.{length_lift_page, length_codes}

pub length_erased : length erased_page ≡ 512
length_erased = length_repeated 512 255

-- heads are four
pub four_after : (heads : List Pointer) (n : ℕ) (p : Pointer) → length heads ≡ 4 → length (heads_after heads (level_of n) p) ≡ 4
four_after heads n p e = length_heads heads e (level_of n) (level_most n) p

pub four_heads : (v : Form) (slots n : ℕ) (ts : List ℕ) (heads : List Pointer) → length heads ≡ 4 → length (heads_from v slots n ts heads) ≡ 4
unfolding heads_from
four_heads v slots n [] heads e = e
four_heads v slots n (t ∷ ts) heads e = four_heads v slots (suc n) ts _ (four_after heads n (pointing v (slot_of n slots) n t) e)

-- one of two pages, by a test
page_by : (t : Bool) (a b : List ℕ) → (t ≡ true → length a ≡ 512) → (t ≡ false → length b ≡ 512) → length (cond t a b) ≡ 512
page_by true a b f g = f refl
page_by false a b f g = g refl

pub length_area : (ls : List Lift) → length (tree_area ls) ≡ 4608
unfolding tree_area
length_area ls = length_tree (buckets_of (codes ls))

module _ (ls : List Lift) (b : Built ls) (some_lift : 0 < length ls) where
  pub few_sections : F.Length (length (segment_sections (codes ls)))
  few_sections =
      let n = P.length_segment_sections (codes ls) in
      let c = length_codes ls in
      F.fragment_length_lem (length (segment_sections (codes ls))) (omega arith) (omega (arith, b.few))

  pub length_bloom : (i : ℕ) → length (bloom_page (segment_sections (codes ls)) i) ≡ 512
  length_bloom i = F.length_page (segment_sections (codes ls)) i few_sections

  pub length_closed_page : (v : Form) (n : ℕ) (heads : List Pointer) (p : ℕ) → length heads ≡ 4 → length (closed_page v n ls heads p) ≡ 512
  unfolding closed_page closing_of
  length_closed_page v n heads p four =
      page_by (ltb p 20) _ _ (λ t. length_lift_page ls b.lifts b.few p (ltb-true p 20 t)) (λ f20.
      page_by (ltb p 29) _ _
      (λ t. length_part (tree_area ls) ((p - 20) * 512) 512 (omega (arith, ltb-true p 29 t, ltb-false p 20 f20, length_area ls))) (λ f29.
      page_by (eqb p 29) _ _ (λ t. length_bloom 0) (λ f.
      page_by (eqb p 30) _ _
      (λ t. page_by (five_sections (length ls)) _ _ (λ t. length_bloom 1) (λ f. length_erased))
      (λ f. length_header (closing_of v n ls heads) four))))

pub length_open_page : (ls : List Lift) (p : ℕ) → Built ls → length (open_page ls p) ≡ 512
unfolding open_page
length_open_page ls p b =
    page_by (ltb p (length ls / 16)) (lift_page ls p) erased_page
    (λ t. length_lift_page ls b.lifts b.few p (omega (arith, ltb-true p (length ls / 16) t, b.few))) (λ f. length_erased)

-- segments, each with a lift
abbrev pub AllSome : List (List Lift) → Type 0
AllSome [] = Unit {0}
AllSome (ls ∷ rest) = (0 < length ls) × AllSome rest

pub length_page_from : (v : Form) (slots n : ℕ) (closed : List (List Lift)) (current : List Lift) (heads : List Pointer) (s p : ℕ) → AllBuilt closed
    → AllSome closed → Built current → length heads ≡ 4 → length (page_from v slots n closed current heads s p) ≡ 512
unfolding page_from
length_page_from v slots n [] current heads s p bs ss b four =
    page_by (eqb (slot_of n slots) s) (open_page current p) erased_page (λ t. length_open_page current p b) (λ f. length_erased)
length_page_from v slots n (ls ∷ rest) current heads s p bs ss b four =
    page_by (eqb (slot_of n slots) s) _ _ (λ t. length_closed_page ls bs.0 ss.0 v n heads p four)
    (λ f. length_page_from v slots (suc n) rest current _ s p bs.1 ss.1 b (four_after heads n (pointing v (slot_of n slots) n (start_time ls)) four))

pub all_some : {d n m : ℕ} {closed : List (List Lift)} → Segments d n closed m → AllSome closed
all_some none = tt
all_some (more t rest) = (omega arith, all_some rest)

module _ (h : History) (g : Good h) where
  pub four_oldest : length (oldest_heads h) ≡ 4
  four_oldest = four_heads h.log.form h.log.slots 1 h.gone no_heads refl

  pub length_page_image : (s p : ℕ) → length (page_image h s p) ≡ 512
  length_page_image s p =
      length_page_from h.log.form h.log.slots h.log.oldest h.log.closed h.log.current (oldest_heads h) s p g.segments (all_some g.closed)
      g.segment four_oldest

  wide_pages : (from n : ℕ) → Wide 512 (each (λ k. page_image h (k / 32) (k % 32)) from n)
  unfolding each
  wide_pages from zero = tt
  wide_pages from (suc n) = (length_page_image (from / 32) (from % 32), wide_pages (suc from) n)

  pub length_nand : length (nand_image h) ≡ h.log.slots * 16384
  unfolding nand_image
  length_nand =
      length_rows 512 (each (λ k. page_image h (k / 32) (k % 32)) 0 (h.log.slots * 32)) (wide_pages 0 (h.log.slots * 32))
      ∙ omega (arith, length_each (λ k. page_image h (k / 32) (k % 32)) 0 (h.log.slots * 32))

  -- page p of slot s of the chip
  pub page_of_nand : (s p : ℕ) → s < h.log.slots → p < 32 → page_of (nand_image h) s p ≡ page_image h s p
  unfolding nand_image
  page_of_nand s p ls lp =
      let k : ℕ = s * 32 + p in
      let e : s * 16384 + p * 512 ≡ k * 512 = omega arith in
      let n = length_each (λ k. page_image h (k / 32) (k % 32)) 0 (h.log.slots * 32) in
      let q : (0 + k) / 32 ≡ s = omega arith in
      let r : (0 + k) % 32 ≡ p = omega arith in
      ap (λ (a : ℕ). part (nand_image h) a 512) e
      ∙ row_at 512 (each (λ k. page_image h (k / 32) (k % 32)) 0 (h.log.slots * 32)) (wide_pages 0 (h.log.slots * 32)) k [] (omega arith)
      ∙ get_or_each (λ k. page_image h (k / 32) (k % 32)) 0 (h.log.slots * 32) k [] (omega arith) ∙ ap₂ (page_image h) q r

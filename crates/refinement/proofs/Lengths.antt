-- Lengths of the parts of an image. Assumes nothing.
use mathlib.Core.Path.{◌≡◌, ap, ◌∙◌}
use mathlib.Core.List.{List, [], ◌∷◌, ◌++◌, map}
use Prim.Native.Nat.{ℕ, zero, suc, ◌-◌, ◌*◌, ◌/◌, ◌≤◌, ◌<◌}
use native.Mathlib.Omega.{arith}
use lib.ListN.{length, drop, length-append, length-drop, length-map}
use Rattle.codec.specs.Area.{part, repeated}
use Rattle.codec.proofs.Areas.{length_repeated, length_part}
use Rattle.lift.specs.Limits.{stored}
use Rattle.lift.proofs.Codes.{within_limits}
use Rattle.lift.proofs.Records.{length_record}
use Rattle.bloom.specs.Bloom.{section_of}
use Rattle.bloom.specs.Pages.{each}
use Rattle.bloom.proofs.Each.{length_each}
use Rattle.bloom.proofs.Section.{length_section_of}
use Rattle.tree.specs.Rules.{buckets_of}
use Rattle.tree.specs.Inner.Loads.{Loads}
use Rattle.tree.proofs.Written.{length_tree}
use Rattle.found.proofs.Wide.{Wide}
use Rattle.search.proofs.Rows.{length_rows}
use Rattle.paper_log.specs.Log.{Lift, row_of, codes}
use Rattle.refinement.specs.Inner.Segments.{records_of, lift_area, lift_page, page_buffer, bloom_buffer, whole_sections, nor_of, tree_area}
use Rattle.refinement.proofs.Good.{GoodLifts}

-- ---- records

pub wide_records : (ls : List Lift) → GoodLifts ls → Wide 32 (map row_of ls)
wide_records [] g = tt
wide_records (l ∷ ls) g = (length_record l.time (stored l.load) l.note g.0.note, wide_records ls g.1)

pub length_records : (ls : List Lift) → GoodLifts ls → length (records_of ls) ≡ length ls * 32
unfolding records_of
length_records ls g = length_rows 32 (map row_of ls) (wide_records ls g) ∙ ap (λ (n : ℕ). n * 32) (length-map ls row_of)

module _ (ls : List Lift) (g : GoodLifts ls) (few : length ls ≤ 320) where
  pub length_lift_area : length (lift_area ls) ≡ 10240
  unfolding lift_area
  length_lift_area =
      let n = length_records ls g in
      length-append (records_of ls) (repeated (10240 - length (records_of ls)) 255)
      ∙ omega (arith, length_repeated (10240 - length (records_of ls)) 255)

  pub length_lift_page : (p : ℕ) → p < 20 → length (lift_page ls p) ≡ 512
  length_lift_page p h = length_part (lift_area ls) (p * 512) 512 (omega (arith, length_lift_area))

pub length_page_buffer : (ls : List Lift) → GoodLifts ls → length (page_buffer ls) ≡ 512
unfolding page_buffer
length_page_buffer ls g =
    let n = length_records ls g in
    let d = length-drop (length ls / 16 * 512) (records_of ls) in
    length-append (drop (length ls / 16 * 512) (records_of ls)) (repeated (512 - length (drop (length ls / 16 * 512) (records_of ls))) 255)
    ∙ omega (arith, length_repeated (512 - length (drop (length ls / 16 * 512) (records_of ls))) 255)

-- ---- index

pub length_bloom_buffer : (cs : List ℕ) → length (bloom_buffer cs) ≡ 128
unfolding bloom_buffer
length_bloom_buffer cs = length_section_of (drop (length cs / 64 * 64) cs)

wide_each : (f : ℕ → List ℕ) (w from n : ℕ) → ((k : ℕ) → length (f k) ≡ w) → Wide w (each f from n)
unfolding each
wide_each f w from zero h = tt
wide_each f w from (suc n) h = (h from, wide_each f w (suc from) n h)

pub wide_sections : (cs : List ℕ) (n : ℕ) → Wide 128 (each (λ j. section_of (part cs (64 * j) 64)) 0 n)
wide_sections cs n = wide_each (λ j. section_of (part cs (64 * j) 64)) 128 0 n (λ j. length_section_of (part cs (64 * j) 64))

pub length_sections : (cs : List ℕ) → length (whole_sections cs) ≡ length cs / 64 * 128
unfolding whole_sections
length_sections cs =
    length_rows 128 (each (λ j. section_of (part cs (64 * j) 64)) 0 (length cs / 64)) (wide_sections cs (length cs / 64))
    ∙ ap (λ (n : ℕ). n * 128) (length_each (λ j. section_of (part cs (64 * j) 64)) 0 (length cs / 64))

pub length_codes : (ls : List Lift) → length (codes ls) ≡ length ls
length_codes ls = length-map ls (λ l. stored l.load)

pub length_nor : (ls : List Lift) → length ls ≤ 320 → length (nor_of ls) ≡ 6144
unfolding nor_of tree_area
length_nor ls few =
    let t = length_tree (buckets_of (codes ls)) in
    let s = length_sections (codes ls) in
    let c = length_codes ls in
    length-append (tree_area ls) (whole_sections (codes ls) ++ repeated (1536 - length (whole_sections (codes ls))) 255)
    ∙ omega (
      arith,
      length-append (whole_sections (codes ls)) (repeated (1536 - length (whole_sections (codes ls))) 255),
      length_repeated (1536 - length (whole_sections (codes ls))) 255,
    )

-- the loads of good lifts, as stored
pub good_loads : (ls : List Lift) → GoodLifts ls → Loads (codes ls)
good_loads [] g = tt
good_loads (l ∷ ls) g =
    let s = within_limits l.load g.0.load in
    (s.low, s.high, good_loads ls g.1)

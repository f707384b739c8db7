-- The tree pages of a close side by side: the buckets of NOR, then 255. Byte by byte. Assumes nothing.
use mathlib.Core.Path.{◌≡◌, sym, ap, ◌∙◌}
use mathlib.Core.List.{List, ◌++◌}
use Prim.Native.Nat.{ℕ, ◌+◌, ◌-◌, ◌*◌, ◌≤◌, ◌<◌, min}
use native.Mathlib.Decide.{dec_lt}
use native.Mathlib.Omega.{arith}
use lib.ListN.{length, get_or, length-append, get_or-append}
use lib.Seq.{get_or-append-add, ext_get_or}
use Rattle.codec.specs.Area.{part, repeated}
use Rattle.codec.proofs.Areas.{length_part, get_d_part, part_add, part_part, part_append_left, length_repeated, get_or_repeated}
use Rattle.flash.specs.Chip.{nor_tree, erased_page}
use Rattle.segment.proofs.ClosedPages.{length_tree}
use Rattle.segment.proofs.TreeRun.{tree_run}

-- the buckets of a close, and 255 for those that are not used
unfoldable pub tree_area : List ℕ → ℕ → List ℕ
tree_area nor buckets = part nor 0 (buckets * 128) ++ repeated (4608 - buckets * 128) 255

-- bytes of a front part and of 255 behind it
front_byte : (s : List ℕ) (at n m k : ℕ) → at + n ≤ length s → k < n → get_or (part s at n ++ repeated m 255) k 0 ≡ get_or s (at + k) 0
front_byte s at n m k h l =
    get_or-append (part s at n) (repeated m 255) 0 k (omega (arith, length_part s at n h)) ∙ get_d_part s at n k l

back_byte : (s : List ℕ) (at n m k : ℕ) → at + n ≤ length s → n ≤ k → k < n + m → get_or (part s at n ++ repeated m 255) k 0 ≡ 255
back_byte s at n m k h l b =
    let e : k ≡ length (part s at n) + (k - n) = omega (arith, length_part s at n h) in
    ap (λ (j : ℕ). get_or (part s at n ++ repeated m 255) j 0) e ∙ get_or-append-add (part s at n) (repeated m 255) (k - n) 0
    ∙ get_or_repeated m 255 (k - n) (omega arith)

module _ (nor : List ℕ) (buckets : ℕ) (room : 4608 ≤ length nor) (few : buckets ≤ 36) where
  pub length_tree_area : length (tree_area nor buckets) ≡ 4608
  unfolding tree_area
  length_tree_area =
      length-append (part nor 0 (buckets * 128)) (repeated (4608 - buckets * 128) 255)
      ∙ omega (arith, length_part nor 0 (buckets * 128) (omega arith), length_repeated (4608 - buckets * 128) 255)

  -- page i of it
  pub area_page : (i : ℕ) → i < 9 → part (tree_area nor buckets) (i * 512) 512 ≡ tree_run nor buckets i
  unfolding tree_area tree_run
  area_page i h =
      let l = length_tree_area in
      let p = length_part (tree_area nor buckets) (i * 512) 512 (omega arith) in
      let t = length_tree nor buckets i (omega arith) (omega arith) in
      ext_get_or 0 (part (tree_area nor buckets) (i * 512) 512) (tree_run nor buckets i) (p ∙ sym t) (λ j b.
      let k : j < 512 = omega arith in
      get_d_part (tree_area nor buckets) (i * 512) 512 j k ∙ byte j k (dec_lt (i * 512 + j) (buckets * 128)))
    where
      byte : (j : ℕ) → j < 512 → Dec (i * 512 + j < buckets * 128)
          → get_or (tree_area nor buckets) (i * 512 + j) 0 ≡ get_or (tree_run nor buckets i) j 0
      byte j k (yes l) =
          front_byte nor 0 (buckets * 128) (4608 - buckets * 128) (i * 512 + j) (omega arith) l
          ∙ ap (λ (n : ℕ). get_or nor n 0) (omega arith)
          ∙ sym (front_byte nor (i * 512) (min 512 (buckets * 128 - i * 512)) _ j (omega arith) (omega arith))
      byte j k (no l) =
          back_byte nor 0 (buckets * 128) (4608 - buckets * 128) (i * 512 + j) (omega arith) (omega arith) (omega arith)
          ∙ sym (back_byte nor (i * 512) (min 512 (buckets * 128 - i * 512)) _ j (omega arith) (omega arith) (omega arith))

  -- bucket b of it
  pub area_bucket : (b : ℕ) → b < buckets → part (tree_area nor buckets) (b * 128) 128 ≡ part nor (b * 128) 128
  unfolding tree_area
  area_bucket b h =
      let l = length_part nor 0 (buckets * 128) (omega arith) in
      part_append_left (part nor 0 (buckets * 128)) _ (b * 128) 128 (omega arith)
      ∙ part_part nor 0 (buckets * 128) (b * 128) 128 (omega arith) (omega arith) ∙ ap (λ (n : ℕ). part nor n 128) (omega arith)

  -- a page past the last bucket is 255
  pub page_past : (i : ℕ) → i < 9 → buckets ≤ i * 4 → tree_run nor buckets i ≡ erased_page
  unfolding tree_run part
  page_past i h k =
      let e : buckets * 128 - i * 512 ≡ 0 = omega arith in
      rw e

  -- NOR that is 255 past the last bucket
  pub area_whole : part nor (buckets * 128) (4608 - buckets * 128) ≡ repeated (4608 - buckets * 128) 255
      → tree_area nor buckets ≡ nor_tree nor
  unfolding tree_area
  area_whole e =
      let n : buckets * 128 + (4608 - buckets * 128) ≡ 4608 = omega arith in
      let z : 0 + buckets * 128 ≡ buckets * 128 = omega arith in
      ap (λ (t : List ℕ). part nor 0 (buckets * 128) ++ t) (sym e)
      ∙ ap (λ (k : ℕ). part nor 0 (buckets * 128) ++ part nor k (4608 - buckets * 128)) (sym z)
      ∙ sym (part_add nor 0 (buckets * 128) (4608 - buckets * 128)) ∙ ap (part nor 0) n

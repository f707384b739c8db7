-- An append that closes no segment only turns ones of NOR to zeros. Assumes nothing.
use mathlib.Core.Path.{◌≡◌, sym, ap, subst, ◌∙◌}
use mathlib.Core.Bool.{Bool, true, false, cond}
use mathlib.Core.List.{List, [], ◌∷◌, ◌++◌}
use Prim.Native.Nat.{ℕ, ◌+◌, ◌-◌, ◌*◌, ◌/◌, ◌%◌, ◌≤◌, ◌<◌}
use native.Mathlib.Omega.{arith}
use lib.Dec.{eqb}
use lib.ListN.{length, length-append, get_or}
use Rattle.codec.specs.Area.{part, splice, repeated, all_ones}
use Rattle.codec.proofs.Areas.{part_append_right, part_repeated, ones_repeated, length_repeated}
use Rattle.flash.specs.Chip.{nor_tree}
use Rattle.flash.specs.Clears.{OnlyClears}
use Rattle.flash.proofs.Clearing.{clears_trans, clears_ones}
use Rattle.lift.specs.Limits.{stored}
use Rattle.bloom.specs.Bloom.{noted}
use Rattle.bloom.proofs.Section.{length_noted, section_of_bytes}
use Rattle.tree.specs.Writes.{writes_of, all_written}
use Rattle.tree.proofs.Clears.{insertion_clears}
use Rattle.paper_log.specs.Log.{Lift, open_serial, codes, is_full, put_log}
use Rattle.refinement.specs.Inner.Segments as S
use Rattle.refinement.specs.Inner.Image.{History, image}
use Rattle.refinement.proofs.Good.{GoodLift, Good}
use Rattle.refinement.proofs.Lengths.{length_codes, length_sections, length_nor, length_bloom_buffer}
use Rattle.refinement.proofs.PageLengths.{length_area}
use Rattle.refinement.proofs.ClosePage.{few_buckets}
use Rattle.refinement.proofs.OneMore as O
use Rattle.refinement.proofs.Close.{close_history}
use Rattle.refinement.proofs.Put.{Takes, nor_is}
use Rattle.refinement.proofs.Entry.{Enters, plan_in}
use Rattle.refinement.proofs.Append.{room_history, shed_history, append_history, roomy, Shed, shed, takes, entry}

-- the place of the next section is free
pub section_free : (tree w : List ℕ) (at : ℕ) → length tree ≡ 4608 → length w ≡ at → at + 128 ≤ 1536
    → part (tree ++ (w ++ repeated (1536 - length w) 255)) (4608 + at) 128 ≡ repeated 128 255
section_free tree w at lt lw room =
    let r = length_repeated (1536 - length w) 255 in
    let n = length-append w (repeated (1536 - length w) 255) in
    part_append_right tree (w ++ repeated (1536 - length w) 255) at (4608 + at) 128 (omega arith) (omega arith)
    ∙ part_append_right w (repeated (1536 - length w) 255) 0 at 128 (omega arith) (omega arith) ∙ part_repeated (1536 - length w) 255 0 128 (omega arith)

module _ (h : History) (l : Lift) (g : Good h) (t : Takes h l) (e : Enters h.log.current l (plan_in h.log.current l.load)) where
  abbrev ls : List Lift
  ls = h.log.current

  abbrev entered : List ℕ
  entered = all_written (S.nor_of ls) (writes_of (plan_in ls l.load) (S.bucket_count ls) (stored l.load) (length ls))

  abbrev section : List ℕ
  section = noted (S.bloom_buffer (codes ls)) (stored l.load)

  -- the entry
  entry_clears : OnlyClears (S.nor_of ls) entered
  entry_clears =
      insertion_clears (S.nor_of ls) (nor_tree (S.nor_of ls)) (S.bucket_count ls) (length ls) _ (stored l.load) (length ls)
      (omega (arith, length_nor ls g.segment.few)) (few_buckets ls g.segment) e.clear

  -- the section
  section_clears : OnlyClears entered (splice entered (4608 + length ls / 64 * 128) section)
  section_clears =
      let n = length_noted (S.bloom_buffer (codes ls)) (stored l.load) ∙ length_bloom_buffer (codes ls) in
      clears_ones entered (4608 + length ls / 64 * 128) section (omega (arith, long_entered, t.room, n)) section_bytes (rw n free)
    where
      long_entered : length entered ≡ 6144
      long_entered = entry_clears.long ∙ length_nor ls g.segment.few

      section_bytes : (i : ℕ) → get_or section i 0 < 256
      section_bytes i =
          subst (λ (s : List ℕ). get_or s i 0 < 256) (sym (O.bits_with (codes ls) (stored l.load))) (section_of_bytes _ i)

      free : all_ones (part entered (4608 + length ls / 64 * 128) 128) ≡ true
      free =
          ap (λ (w : List ℕ). all_ones (part w (4608 + length ls / 64 * 128) 128)) e.written
          ∙ ap all_ones (section_free (S.tree_area (ls ++ (l ∷ []))) (S.whole_sections (codes ls)) (length ls / 64 * 128) (length_area (ls ++ (l ∷ [])))
          (omega (arith, length_sections (codes ls), length_codes ls)) (omega (arith, t.room))) ∙ ones_repeated 128

  pub put_clears : OnlyClears (S.nor_of ls) (S.nor_of (ls ++ (l ∷ [])))
  put_clears =
      subst (OnlyClears (S.nor_of ls)) (nor_is h l g t entered e.written) (go (eqb (length ls % 64) 63))
    where
      go : (b : Bool) → OnlyClears (S.nor_of ls) (cond b (splice entered (4608 + length ls / 64 * 128) section) entered)
      go true = clears_trans entry_clears section_clears
      go false = entry_clears

-- an append that closes no segment
pub append_clears : (h : History) (g : Good h) (l : Lift) (gl : GoodLift l) → h.log.next ≤ l.time → open_serial h.log < 999999998
    → is_full h.log.current l.load ≡ false → OnlyClears (image h).nor (image (append_history h l)).nor
unfolding image put_log
append_clears h g l gl later early f =
    subst (λ (c : List Lift). OnlyClears (S.nor_of c) (S.nor_of (s.log.current ++ (l ∷ [])))) same
    (put_clears s l sh.good (takes h g l gl later early)
    (subst (λ (c : List Lift). Enters s.log.current l (plan_in c l.load)) (sym same) (entry h g l gl later early)))
  where
    r : History
    r = room_history h l.load

    s : History
    s = shed_history r

    sh : Shed r s
    sh = shed r (roomy h g l gl).good

    same : s.log.current ≡ h.log.current
    same = sh.current ∙ ap (λ (t : Bool). (cond t (close_history h) h).log.current) f

-- A lift put into a history's world gives the world of the history with it, wherever its entry's writes give the tree with its load.
-- Assumes nothing.
use mathlib.Core.Path.{◌≡◌, refl, sym, ap, ◌∙◌}
use mathlib.Core.Bool.{Bool, true, false, cond}
use mathlib.Core.Option.{some}
use mathlib.Core.List.{List, [], ◌∷◌, ◌++◌, append_assoc}
use Prim.Native.Nat.{ℕ, ◌+◌, ◌-◌, ◌*◌, ◌/◌, ◌%◌, ◌≤◌, ◌<◌}
use native.Mathlib.Decide.{ℕ_discrete}
use native.Mathlib.Nat.{le_refl}
use native.Mathlib.Omega.{arith}
use lib.Dec.{eqb}
use lib.ListN.{length, get_or, length-append, length-map}
use borrow.Author.Tests.{eqb-true, eqb-false, lt-ltb, le-ltb}
use Rattle.form.specs.declared.Form.{Form}
use Rattle.form.specs.declared.Form.TheVariants.{Old, New}
use Rattle.form.specs.Forms.{step}
use Rattle.codec.specs.Area.{splice, repeated}
use Rattle.codec.proofs.Areas.{splice_right}
use Rattle.flash.specs.Chip.{slot_of, page_of, programmed, erased_page}
use Rattle.flash.proofs.Pages.{chips_equal, length_programmed, page_programmed_lem, page_elsewhere}
use Rattle.bounds.specs.Lifts.{pushed, low_with, high_with}
use Rattle.lift.specs.Limits.{stored}
use Rattle.bloom.specs.Bloom.{noted, empty_section}
use Rattle.bloom.proofs.Section.{length_noted}
use Rattle.header.proofs.Fields.{front_put}
use Rattle.tree.specs.Rules.{Bucket, tree_of}
use Rattle.tree.specs.Plan.{Plan}
use Rattle.tree.specs.Writes.{writes_of, all_written, buckets_after}
use Rattle.store.specs.World.{live_time, live_with, nand_with, nor_with, state_given, state_with, put_world}
use Rattle.skiplist.specs.Skip.{none}
use Rattle.paper_log.specs.Log.{Lift, open_serial, codes, row_of, put_log}
use Rattle.refinement.specs.Inner.Segments as S
use Rattle.refinement.specs.Inner.Image.{History, oldest_heads, first_start, page_image, nand_image, state_image, image}
use Rattle.refinement.proofs.Good as G
use Rattle.refinement.proofs.Good.{GoodLift, Times, Good}
use Rattle.flash.proofs.Slots.{slot_below}
use Rattle.refinement.proofs.Lengths.{length_lift_page, length_codes, length_sections, length_bloom_buffer}
use Rattle.refinement.proofs.PageLengths.{length_nand, page_of_nand, length_area}
use Rattle.refinement.proofs.OneMore as O
use Rattle.refinement.proofs.Dead.{dead_later, least_up}
use Rattle.refinement.proofs.PutState.{last_loads_lem, live_with_lem, start_with, low_with_lem, high_with_lem}
use Rattle.refinement.proofs.PageFrom.{page_open, page_current}
use Rattle.refinement.proofs.ClosePage.{lt_cases}

-- the history with a lift more
abbrev pub put_history : History → Lift → History
put_history h l = record { log = put_log h.log l; gone = h.gone }

open_full : (ls : List Lift) (p : ℕ) → p < length ls / 16 → S.open_page ls p ≡ S.lift_page ls p
unfolding S.open_page
open_full ls p h = rw (lt-ltb p (length ls / 16) h)

-- whole sections, filled with 255 to the end of NOR
abbrev padded : List ℕ → List ℕ
padded w = w ++ repeated (1536 - length w) 255

put_section : (tree w sec : List ℕ) (at : ℕ) → length tree ≡ 4608 → length w ≡ at → at + 128 ≤ 1536 → length sec ≡ 128
    → splice (tree ++ padded w) (4608 + at) sec ≡ tree ++ padded (w ++ sec)
put_section tree w sec at lt lw room ls =
    let n = length-append w sec in
    let z : length w + 0 ≡ at = omega arith in
    let k : 1536 - length w - length sec ≡ 1536 - length (w ++ sec) = omega arith in
    splice_right tree (padded w) at (4608 + at) sec (omega arith)
    ∙ ap (λ (r : List ℕ). tree ++ r) (splice_right w (repeated (1536 - length w) 255) 0 at sec z
    ∙ ap (λ (r : List ℕ). w ++ r) (front_put (1536 - length w) 255 sec (omega arith) ∙ ap (λ (m : ℕ). sec ++ repeated m 255) k)
    ∙ sym (append_assoc w sec (repeated (1536 - length (w ++ sec)) 255)))

-- what the lift has to be, for the open segment to take it
pub record Takes (h : History) (l : Lift) : Type 0 where
  pub lift : GoodLift l
  pub later : h.log.next ≤ l.time
  pub room : length h.log.current < 320
  pub slot : length h.log.closed < h.log.slots
  pub serial : open_serial h.log ≤ 999999998
  pub tree : List Bucket
  pub is : tree_of (codes (h.log.current ++ (l ∷ []))) ≡ some tree

times_snoc : (ls : List Lift) {d n m : ℕ} → Times d n ls m → (l : Lift) → m ≤ l.time → Times d n (ls ++ (l ∷ [])) (l.time + d)
times_snoc [] G.none l h = G.more h G.none
times_snoc (k ∷ ls) (G.more a t) l h = G.more a (times_snoc ls t l h)

live_once : (v : Form) (b : Bool) (t a : ℕ) → live_time v (cond b t (live_time v a)) ≡ live_time v (cond b t a)
live_once Old b t a = refl
live_once New b t a = refl

-- a lift does not make the oldest retained one earlier
first_up : (closed : List (List Lift)) (ls : List Lift) (l : Lift) (next after : ℕ) → next ≤ l.time
    → first_start closed ls next ≤ first_start closed (ls ++ (l ∷ [])) after
first_up [] [] l next after h = h
first_up [] (m ∷ ls) l next after h = le_refl _
first_up (ms ∷ rest) ls l next after h = le_refl _

pub good_put : (h : History) (l : Lift) → Good h → Takes h l → Good (put_history h l)
unfolding put_log
good_put h l g t =
    let n = O.length_snoc h.log.current l in
    record {
      least = g.least;
      most = g.most;
      serial = g.serial;
      room = g.room;
      busy = λ q. t.slot;
      last = g.last;
      still = λ q. t.serial;
      before = g.before;
      begun = g.begun;
      fresh = g.fresh;
      later = g.later;
      limited = g.limited;
      dead = λ k. dead_later (get_or (oldest_heads h) k none) h.log.form _ _
          (least_up h.log.form (first_up h.log.closed h.log.current l h.log.next (l.time + step h.log.form) t.later) (le_refl _))
          (g.dead k);
      closed = g.closed;
      current = times_snoc h.log.current g.current l t.later;
      end = omega (arith, t.lift.time);
      segments = g.segments;
      segment = record {
        few = omega (arith, t.room);
        lifts = O.good_snoc h.log.current l g.segment.lifts t.lift;
        tree = t.tree;
        is = t.is;
      };
    }

module _ (h : History) (l : Lift) (g : Good h) (t : Takes h l) where
  abbrev ls : List Lift
  ls = h.log.current

  abbrev more : List Lift
  more = ls ++ (l ∷ [])

  abbrev slots : ℕ
  slots = h.log.slots

  abbrev slot : ℕ
  slot = slot_of (open_serial h.log) slots

  abbrev page : List ℕ
  page = splice (S.page_buffer ls) (length ls % 16 * 32) (row_of l)

  good : Good (put_history h l)
  good = good_put h l g t

  slot_there : slot < slots
  slot_there = slot_below slots (open_serial h.log) (omega (arith, g.least))

  -- ---- NAND

  pub open_below : (p : ℕ) → p < length ls / 16 → S.open_page ls p ≡ S.open_page more p
  unfolding S.open_page
  open_below p k =
      let n = O.length_snoc ls l in
      rw (lt-ltb p (length ls / 16) k, lt-ltb p (length more / 16) (omega arith)) (sym (O.page_kept ls l g.segment.lifts t.lift p k))

  open_above : (p : ℕ) → length more / 16 ≤ p → S.open_page ls p ≡ S.open_page more p
  unfolding S.open_page
  open_above p k =
      let n = O.length_snoc ls l in
      rw (le-ltb p (length ls / 16) (omega arith), le-ltb p (length more / 16) k)

  pub same_page : (s p : ℕ) → (slot ≡ s → S.open_page ls p ≡ S.open_page more p) → page_image h s p ≡ page_image (put_history h l) s p
  unfolding put_log
  same_page s p f = page_current h.log.form slots h.log.oldest h.log.closed ls more (oldest_heads h) s p f

  -- the lift is not the last of its page
  kept : (length ls % 16 ≡ 15 → ⊥) → nand_image h ≡ nand_image (put_history h l)
  unfolding put_log
  kept f =
      let n = O.length_snoc ls l in
      chips_equal (nand_image h) (nand_image (put_history h l)) slots (length_nand h g) (length_nand (put_history h l) good) (λ s p a b.
      page_of_nand h g s p a b ∙ same_page s p (λ e. lt_cases p (length ls / 16) (λ k. open_below p k) (λ k. open_above p (omega arith)) (λ k. open_above p (omega arith)))
      ∙ sym (page_of_nand (put_history h l) good s p a b))

  -- it is: its page goes out
  full_page : length ls % 16 ≡ 15 → page ≡ S.lift_page more (length ls / 16)
  full_page e = O.buffer_with ls l g.segment.lifts t.lift ∙ O.page_full ls l g.segment.lifts t.lift e t.room

  long_page : length ls % 16 ≡ 15 → length page ≡ 512
  long_page e =
      let n = O.length_snoc ls l in
      ap length (full_page e)
      ∙ length_lift_page more (O.good_snoc ls l g.segment.lifts t.lift) (omega (arith, t.room)) (length ls / 16) (omega (arith, t.room))

  out_page : length ls % 16 ≡ 15 → (s p : ℕ) → s < slots → p < 32
      → page_of (programmed (nand_image h) slot (length ls / 16) page) s p ≡ page_image (put_history h l) s p
  unfolding put_log
  out_page e s p a b = go (ℕ_discrete (s * 32 + p) (slot * 32 + length ls / 16))
    where
      n : length more ≡ length ls + 1
      n = O.length_snoc ls l

      here : page_image (put_history h l) slot (length ls / 16) ≡ S.lift_page more (length ls / 16)
      here =
          page_open h.log.form slots h.log.oldest h.log.closed more (oldest_heads h) (length ls / 16) (omega (arith, g.serial)) t.slot
          ∙ open_full more (length ls / 16) (omega (arith, n))

      go : Dec (s * 32 + p ≡ slot * 32 + length ls / 16) → page_of (programmed (nand_image h) slot (length ls / 16) page) s p ≡ page_image (put_history h l) s p
      go (yes q) =
          let es : s ≡ slot = omega (arith, t.room) in
          let ep : p ≡ length ls / 16 = omega (arith, t.room) in
          rw (es, ep) (page_programmed_lem (nand_image h) slots (length_nand h g) slot slot_there (length ls / 16) page (omega (arith, t.room)) (long_page e)
          ∙ full_page e ∙ sym here)
      go (no q) =
          page_elsewhere (nand_image h) slots (length_nand h g) slot slot_there (length ls / 16) page s p (omega (arith, t.room)) (long_page e) a b q
          ∙ page_of_nand h g s p a b ∙ same_page s p (λ z. lt_cases p (length ls / 16) (λ k. open_below p k)
          (λ k. absurd (q (omega arith))) (λ k. open_above p (omega (arith, n))))

  out : length ls % 16 ≡ 15 → programmed (nand_image h) slot (length ls / 16) page ≡ nand_image (put_history h l)
  unfolding put_log
  out e =
      chips_equal (programmed (nand_image h) slot (length ls / 16) page) (nand_image (put_history h l)) slots
      (length_programmed (nand_image h) slots (length_nand h g) slot slot_there (length ls / 16) page (omega (arith, t.room)) (long_page e) ∙ length_nand h g)
      (length_nand (put_history h l) good) (λ s p a b. out_page e s p a b ∙ sym (page_of_nand (put_history h l) good s p a b))

  nand_is : cond (eqb (length ls % 16) 15) (programmed (nand_image h) slot (length ls / 16) page) (nand_image h) ≡ nand_image (put_history h l)
  nand_is = go (eqb (length ls % 16) 15) refl
    where
      go : (b : Bool) → eqb (length ls % 16) 15 ≡ b
          → cond b (programmed (nand_image h) slot (length ls / 16) page) (nand_image h) ≡ nand_image (put_history h l)
      go true e = out (eqb-true (length ls % 16) 15 e)
      go false e = kept (eqb-false (length ls % 16) 15 e)

  -- the page buffer
  buffer_is : cond (eqb (length ls % 16) 15) erased_page page ≡ S.page_buffer more
  buffer_is = go (eqb (length ls % 16) 15) refl
    where
      go : (b : Bool) → eqb (length ls % 16) 15 ≡ b → cond b erased_page page ≡ S.page_buffer more
      go true e = sym (O.buffer_empty ls l g.segment.lifts t.lift (eqb-true (length ls % 16) 15 e))
      go false e =
          O.buffer_with ls l g.segment.lifts t.lift ∙ O.buffer_more ls l g.segment.lifts t.lift (eqb-false (length ls % 16) 15 e)

  -- ---- NOR

  abbrev cs : List ℕ
  cs = codes ls

  abbrev code : ℕ
  code = stored l.load

  abbrev sections : List ℕ
  sections = S.whole_sections cs ++ repeated (1536 - length (S.whole_sections cs)) 255

  codes_snoc : codes more ≡ cs ++ (code ∷ [])
  codes_snoc = O.map_snoc (λ l. stored l.load) ls l

  pub nor_is : (entered : List ℕ) → entered ≡ S.tree_area more ++ sections
      → cond (eqb (length ls % 64) 63) (splice entered (4608 + length ls / 64 * 128) (noted (S.bloom_buffer cs) code)) entered ≡ S.nor_of more
  unfolding S.nor_of
  nor_is entered w = go (eqb (length ls % 64) 63) refl
    where
      n : length cs ≡ length ls
      n = length_codes ls

      go : (b : Bool) → eqb (length ls % 64) 63 ≡ b
          → cond b (splice entered (4608 + length ls / 64 * 128) (noted (S.bloom_buffer cs) code)) entered ≡ S.tree_area more ++ padded (S.whole_sections (codes more))
      go true e =
          let q : length cs % 64 ≡ 63 = omega (arith, n, eqb-true (length ls % 64) 63 e) in
          rw (w, codes_snoc, O.sections_full cs code q)
          (put_section (S.tree_area more) (S.whole_sections cs) (noted (S.bloom_buffer cs) code) (length ls / 64 * 128) (length_area more)
          (omega (arith, n, length_sections cs)) (omega (arith, t.room)) (length_noted (S.bloom_buffer cs) code ∙ length_bloom_buffer cs))
      go false e =
          let q : length cs % 64 ≡ 63 → ⊥ = λ z. eqb-false (length ls % 64) 63 e (omega (arith, n)) in
          rw (codes_snoc, O.sections_more cs code q) w

  bloom_is : cond (eqb (length ls % 64) 63) empty_section (noted (S.bloom_buffer cs) code) ≡ S.bloom_buffer (codes more)
  bloom_is = go (eqb (length ls % 64) 63) refl
    where
      n : length cs ≡ length ls
      n = length_codes ls

      go : (b : Bool) → eqb (length ls % 64) 63 ≡ b → cond b empty_section (noted (S.bloom_buffer cs) code) ≡ S.bloom_buffer (codes more)
      go true e =
          let q : length cs % 64 ≡ 63 = omega (arith, n, eqb-true (length ls % 64) 63 e) in
          rw codes_snoc (sym (O.bits_empty cs code q))
      go false e =
          let q : length cs % 64 ≡ 63 → ⊥ = λ z. eqb-false (length ls % 64) 63 e (omega (arith, n)) in
          rw codes_snoc (O.bits_more cs code q)

  -- ---- the state

  loads_snoc : S.loads_of more ≡ S.loads_of ls ++ (l.load ∷ [])
  loads_snoc = O.map_snoc (λ l. l.load) ls l

  as_many : length (S.loads_of ls) ≡ length ls
  as_many = length-map ls (λ l. l.load)

  loads_is : pushed (S.last_thirteen (S.loads_of ls)) (length ls) l.load ≡ S.last_thirteen (S.loads_of more)
  loads_is =
      ap (λ (n : ℕ). pushed (S.last_thirteen (S.loads_of ls)) n l.load) (sym as_many) ∙ last_loads_lem (S.loads_of ls) l.load ∙ ap S.last_thirteen (sym loads_snoc)

  low_is : low_with (length ls) (S.low_of (S.loads_of ls)) l.load ≡ S.low_of (S.loads_of more)
  low_is = ap (λ (n : ℕ). low_with n (S.low_of (S.loads_of ls)) l.load) (sym as_many) ∙ low_with_lem (S.loads_of ls) l.load ∙ ap S.low_of (sym loads_snoc)

  high_is : high_with (length ls) (S.high_of (S.loads_of ls)) l.load ≡ S.high_of (S.loads_of more)
  high_is = ap (λ (n : ℕ). high_with n (S.high_of (S.loads_of ls)) l.load) (sym as_many) ∙ high_with_lem (S.loads_of ls) l.load ∙ ap S.high_of (sym loads_snoc)

  -- ---- the world

  module _ (p : Plan) (written : all_written (S.nor_of ls) (writes_of p (S.bucket_count ls) code (length ls)) ≡ S.tree_area more ++ sections)
      (buckets : buckets_after p (S.bucket_count ls) ≡ S.bucket_count more) where
    state_is : state_with h.log.form (state_image h) l.time l.load l.note p ≡ state_image (put_history h l)
    unfolding state_with state_given state_image put_log
    state_is =
        let n = sym (O.length_snoc ls l) in
        rw (n, buckets, loads_is, buffer_is, bloom_is, start_with ls l, low_is, high_is)

    pub put_world_lem : put_world (image h) slots l.time l.load l.note p ≡ image (put_history h l)
    unfolding put_world nand_with nor_with live_with image state_image put_log
    put_world_lem = rw (
      nand_is,
      nor_is _ written,
      state_is,
      live_once h.log.form _ l.time (first_start h.log.closed ls h.log.next),
      live_with_lem h.log.closed ls l h.log.oldest h.log.next (l.time + step h.log.form),
    )

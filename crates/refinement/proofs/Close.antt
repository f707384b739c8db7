-- A close of a history's world is the world of the history closed. Assumes nothing.
use mathlib.Core.Path.{◌≡◌, refl, sym, ap, subst, ◌∙◌}
use mathlib.Core.Bool.{cond}
use mathlib.Core.List.{List, [], ◌∷◌, ◌++◌, map}
use Prim.Native.Nat.{ℕ, ◌+◌, ◌-◌, ◌≤◌, ◌<◌}
use native.Mathlib.Nat.{mod-lt}
use native.Mathlib.Decide.{ℕ_discrete}
use native.Mathlib.Omega.{arith}
use lib.ListN.{length, length-append}
use Rattle.codec.specs.Area.{repeated}
use Rattle.codec.proofs.Areas.{repeated_append}
use Rattle.flash.specs.Chip.{slot_of, page_of, chip_erased}
use Rattle.flash.proofs.Pages.{chips_equal}
use Rattle.bloom.specs.Bloom.{section_of, noted_all}
use Rattle.bloom.specs.Pages.{each}
use Rattle.segment.specs.Pages.{page_due, close_page, close_programmed}
use Rattle.segment.proofs.ClosedPages.{Shaped, length_closed, page_closed, page_other}
use Rattle.tree.specs.Rules.{buckets_of}
use Rattle.tree.proofs.Built.{tree_of_none, buckets_of_lem}
use Rattle.tree.proofs.Written.{tree_none}
use Rattle.search.specs.Answers.{row_bytes}
use Rattle.store.specs.World.{closing, moved_on, close_world}
use Rattle.paper_log.specs.Log.{Lift, open_serial, close_log, codes}
use Rattle.refinement.specs.Inner.Segments as S
use Rattle.refinement.specs.Inner.Image.{History, oldest_heads, open_heads, page_image, nand_image, first_start, state_image, image}
use Rattle.refinement.proofs.Good.{Built, AllBuilt, Times, none, more, Segments, Good}
use Rattle.refinement.proofs.Lengths.{length_nor, length_page_buffer, length_bloom_buffer}
use Rattle.refinement.proofs.PageLengths.{four_heads, four_oldest, length_nand, page_of_nand}
use Rattle.refinement.proofs.ClosePage.{few_buckets, page_after_close}
use Rattle.refinement.proofs.PageFrom.{page_open, page_newest, page_elsewhere, heads_snoc}

-- the history after a close
abbrev pub close_history : History → History
close_history h = record { log = close_log h.log; gone = h.gone }

-- next time is the last lift's time and a step
last_time_lem : (l : Lift) (ls : List Lift) {d n m : ℕ} → Times d n (l ∷ ls) m → m ≡ S.last_of l.time ls + d
last_time_lem l [] (more h none) = refl
last_time_lem l (k ∷ ks) (more h t) = last_time_lem k ks t

pub end_time_lem : (ls : List Lift) {d n m : ℕ} → Times d n ls m → 0 < length ls → m - d ≡ S.end_time ls
end_time_lem [] t h = absurd (omega arith)
end_time_lem (l ∷ ls) t h = omega (arith, last_time_lem l ls t)

-- an empty segment's parts
pub no_buckets : buckets_of [] ≡ []
no_buckets = buckets_of_lem [] [] tree_of_none

pub nor_none : S.nor_of [] ≡ repeated 6144 255
unfolding S.nor_of S.tree_area S.whole_sections row_bytes each
nor_none = rw (no_buckets, tree_none) (repeated_append 4608 1536 255)

-- ---- the history closed is good

segments_snoc : {d n m k : ℕ} {closed : List (List Lift)} → Segments d n closed m → (ls : List Lift) → Times d m ls k → 0 < length ls
    → Segments d n (closed ++ (ls ∷ [])) k
segments_snoc none [] t h = absurd (omega arith)
segments_snoc none (l ∷ ls) t h = more t none
segments_snoc (more s rest) ls t h = more s (segments_snoc rest ls t h)

built_snoc : (closed : List (List Lift)) (ls : List Lift) → AllBuilt closed → Built ls → AllBuilt (closed ++ (ls ∷ []))
built_snoc [] ls b c = (c, tt)
built_snoc (ms ∷ rest) ls b c = (b.0, built_snoc rest ls b.1 c)

pub built_none : Built []
built_none = record { few = omega arith; lifts = tt; tree = []; is = tree_of_none }

-- the oldest retained lift stays
first_closed : (closed : List (List Lift)) (ls : List Lift) (next : ℕ) → 0 < length ls
    → first_start closed ls next ≡ first_start (closed ++ (ls ∷ [])) [] next
first_closed [] [] next q = absurd (omega arith)
first_closed [] (l ∷ ls) next q = refl
first_closed (ms ∷ rest) ls next q = refl

pub good_close : (h : History) → Good h → 0 < length h.log.current → Good (close_history h)
unfolding close_log
good_close h g some_lift =
    let n = length-append h.log.closed (h.log.current ∷ []) in
    let b = g.busy some_lift in
    let s = g.still some_lift in
    record {
      least = g.least;
      most = g.most;
      serial = g.serial;
      room = omega arith;
      busy = λ q. absurd (omega arith);
      last = omega arith;
      still = λ q. absurd (omega arith);
      before = g.before;
      begun = h.log.next;
      fresh = g.fresh;
      later = g.later;
      limited = g.limited;
      dead = rw (← first_closed h.log.closed h.log.current h.log.next some_lift) g.dead;
      closed = segments_snoc g.closed h.log.current g.current some_lift;
      current = none;
      end = g.end;
      segments = built_snoc h.log.closed h.log.current g.segments g.segment;
      segment = built_none;
    }

module _ (h : History) (g : Good h) (some_lift : 0 < length h.log.current) where
  abbrev ls : List Lift
  ls = h.log.current

  abbrev serial : ℕ
  serial = open_serial h.log

  abbrev slots : ℕ
  slots = h.log.slots

  abbrev slot : ℕ
  slot = slot_of serial slots

  -- what the close is given
  closing_is : closing h.log.form (state_image h) ≡ S.closing_of h.log.form serial ls (open_heads h)
  unfolding closing state_image S.closing_of
  closing_is = rw (end_time_lem ls g.current some_lift)

  slot_there : slot < slots
  unfolding slot_of
  slot_there = let l = g.least in mod-lt (serial - 1) (omega arith)

  four_open : length (open_heads h) ≡ 4
  four_open = four_heads h.log.form slots h.log.oldest (map S.start_time h.log.closed) (oldest_heads h) (four_oldest h g)

  shaped : Shaped (S.nor_of ls) (S.closing_of h.log.form serial ls (open_heads h))
  unfolding S.closing_of
  shaped = record {
    nor_size = length_nor ls g.segment.few;
    some = some_lift;
    most = g.segment.few;
    few = few_buckets ls g.segment;
    heads_four = four_open;
    page_size = length_page_buffer ls g.segment.lifts;
    bloom_size = length_bloom_buffer (codes ls);
  }

  abbrev closed_nand : List ℕ
  closed_nand = close_programmed (nand_image h) (S.nor_of ls) slot (S.closing_of h.log.form serial ls (open_heads h))

  first : 1 ≤ h.log.oldest
  first = omega (arith, g.serial)

  -- NAND, page by page
  page_is : (s p : ℕ) → s < slots → p < 32
      → page_of closed_nand s p ≡ page_image (close_history h) s p
  unfolding close_log S.closing_of
  page_is s p l m = go (ℕ_discrete s slot)
    where
      go : Dec (s ≡ slot) → page_of closed_nand s p ≡ page_image (close_history h) s p
      go (yes e) = subst (λ (t : ℕ). page_of closed_nand t p ≡ page_image (close_history h) t p) (sym e)
          (page_closed (S.nor_of ls) (S.closing_of h.log.form serial ls (open_heads h)) shaped slots slot slot_there (nand_image h) (length_nand h g) p m
          ∙ ap (cond (page_due (length ls) (S.bucket_count ls) p) (close_page (S.nor_of ls) (S.closing_of h.log.form serial ls (open_heads h)) p))
          (page_of_nand h g slot p slot_there m
          ∙ page_open h.log.form slots h.log.oldest h.log.closed ls (oldest_heads h) p first (g.busy some_lift))
          ∙ page_after_close ls g.segment h.log.form serial (open_heads h) p m
          ∙ sym (page_newest h.log.form slots h.log.oldest h.log.closed ls (oldest_heads h) p first (g.busy some_lift)))
      go (no f) =
          page_other (S.nor_of ls) (S.closing_of h.log.form serial ls (open_heads h)) shaped slots slot slot_there (nand_image h) (length_nand h g) s p l m f
          ∙ page_of_nand h g s p l m ∙ sym (page_elsewhere h.log.form slots h.log.oldest h.log.closed ls (oldest_heads h) s p (λ e. f (sym e)))

  nand_is : closed_nand ≡ nand_image (close_history h)
  unfolding close_log
  nand_is =
      let c = good_close h g some_lift in
      chips_equal closed_nand (nand_image (close_history h)) slots
      (length_closed (S.nor_of ls) (S.closing_of h.log.form serial ls (open_heads h)) shaped slots slot slot_there (nand_image h) (length_nand h g) ∙ length_nand h g)
      (length_nand (close_history h) c) (λ s p l m. page_is s p l m ∙ sym (page_of_nand (close_history h) c s p l m))

  nor_is : chip_erased (length (S.nor_of ls)) ≡ S.nor_of []
  nor_is = ap (λ (n : ℕ). repeated n 255) (length_nor ls g.segment.few) ∙ sym nor_none

  state_is : moved_on h.log.form (state_image h) slot ≡ state_image (close_history h)
  unfolding moved_on state_image close_log S.last_thirteen S.page_buffer S.records_of S.bloom_buffer section_of noted_all row_bytes
  state_is =
      let n = length-append h.log.closed (ls ∷ []) in
      let e : h.log.oldest + length h.log.closed + 1 ≡ h.log.oldest + length (h.log.closed ++ (ls ∷ [])) = omega arith in
      rw (e, no_buckets, heads_snoc h.log.form slots h.log.oldest h.log.closed ls (oldest_heads h))

  -- the close of the history's world
  pub close_world_lem : close_world (image h) slots ≡ image (close_history h)
  unfolding close_world image state_image close_log
  close_world_lem = rw (closing_is, nand_is, nor_is, state_is, first_closed h.log.closed ls h.log.next some_lift)

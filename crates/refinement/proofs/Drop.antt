-- A drop of a history's world is the world of the history without its oldest serial, and no damage is met. Assumes nothing.
use mathlib.Core.Path.{◌≡◌, refl, sym, ap, ◌∙◌}
use mathlib.Core.Bool.{Bool, true, false, cond, not, ◌&&◌}
use mathlib.Core.List.{List, [], ◌∷◌, ◌++◌}
use Prim.Native.Nat.{ℕ, suc, ◌+◌, ◌≤◌, ◌<◌}
use native.Mathlib.Decide.{ℕ_discrete, dec_lt}
use native.Mathlib.Omega.{arith}
use lib.Dec.{eqb}
use lib.ListN.{length, get_or, length-append}
use borrow.Author.Tests.{lt-ltb, le-ltb, ne_eqb}
use Rattle.form.specs.declared.Form.{Form}
use Rattle.form.specs.Forms.{step}
use Rattle.flash.specs.Chip.{slot_of, page_of, slot_erased, erased_page}
use Rattle.flash.proofs.Pages.{chips_equal, length_slot_erased, page_slot_erased, page_other_slot}
use Rattle.skiplist.specs.declared.Pointer.{Pointer}
use Rattle.skiplist.proofs.Nodes.{heads_below, heads_above}
use Rattle.header.proofs.HeaderBytes.{level_most}
use Rattle.skiplist.specs.Skip.{Live, pointing, none, is_live, level_of, heads_after, no_heads}
use Rattle.header.specs.declared.Header.{Header}
use Rattle.store.specs.World.{live_time, oldest_by, next_oldest, closed_remains, live_after, without_oldest, drop_world}
use Rattle.store.specs.Calls.{reads_header, drop_damage}
use Rattle.paper_log.specs.Log.{Lift, open_serial, drop_log}
use Rattle.refinement.specs.Inner.Segments as S
use Rattle.refinement.specs.Inner.Image.{History, oldest_heads, page_from, page_image, nand_image, first_start, live_of, state_image, image}
use Rattle.refinement.proofs.Good.{Limited, Good}
use Rattle.flash.proofs.Slots.{slots_differ, slot_below}
use Rattle.refinement.proofs.PageLengths.{four_oldest, length_nand, page_of_nand}
use Rattle.refinement.proofs.PageFrom.{open_none}
use Rattle.refinement.proofs.InBounds.{times_up, segments_up, start_below}
use Rattle.refinement.proofs.Dead.{dead_below, dead_later, first_above, least_up, age_below}
use Rattle.refinement.proofs.Retained.{Among, among, retained_header}

-- the start of the oldest closed serial
abbrev oldest_start : List (List Lift) → List ℕ
oldest_start [] = []
oldest_start (ls ∷ rest) = S.start_time ls ∷ []

-- the history after a drop
abbrev pub drop_history : History → History
drop_history h = record { log = drop_log h.log; gone = h.gone ++ oldest_start h.log.closed }

-- ---- the heads of the serials that went

heads_gone : (v : Form) (slots n : ℕ) (ts : List ℕ) (t : ℕ) (heads : List Pointer)
    → S.heads_from v slots n (ts ++ (t ∷ [])) heads
    ≡ heads_after (S.heads_from v slots n ts heads) (level_of (n + length ts)) (pointing v (slot_of (n + length ts) slots) (n + length ts) t)
unfolding S.heads_from
heads_gone v slots n [] t heads = let e : n + 0 ≡ n = omega arith in rw e
heads_gone v slots n (u ∷ ts) t heads =
    let e : n + suc (length ts) ≡ suc n + length ts = omega arith in
    rw e (heads_gone v slots (suc n) ts t _)

limited_snoc : (ts : List ℕ) (t : ℕ) → Limited ts → t ≤ 999999999999999 → Limited (ts ++ (t ∷ []))
limited_snoc [] t l m = (m, tt)
limited_snoc (u ∷ ts) t l m = (l.0, limited_snoc ts t l.1 m)

-- ---- no later serial has the slot that is erased

gone_page : (v : Form) (slots n : ℕ) (closed : List (List Lift)) (current : List Lift) (heads : List Pointer) (p k : ℕ) → 1 ≤ k → k < n → n + length closed ≤ k + slots
    → (n + length closed ≡ k + slots → current ≡ []) → page_from v slots n closed current heads (slot_of k slots) p ≡ erased_page
unfolding page_from
gone_page v slots n [] current heads p k a b c f = go (dec_lt n (k + slots))
  where
    go : Dec (n < k + slots) → cond (eqb (slot_of n slots) (slot_of k slots)) (S.open_page current p) erased_page ≡ erased_page
    go (yes l) = rw (ne_eqb (slot_of n slots) (slot_of k slots) (λ e. slots_differ slots k n a b l (sym e)))
    go (no l) = let z : current ≡ [] = f (omega arith) in rw z (either (eqb (slot_of n slots) (slot_of k slots)))
      where
        either : (t : Bool) → cond t (S.open_page [] p) erased_page ≡ erased_page
        either true = open_none p
        either false = refl
gone_page v slots n (ls ∷ rest) current heads p k a b c f =
    rw (ne_eqb (slot_of n slots) (slot_of k slots) (λ e. slots_differ slots k n a b (omega arith) (sym e)))
    (gone_page v slots (suc n) rest current _ p k a (omega arith) (omega arith) (λ e. f (omega arith)))

empty : (ls : List Lift) → (0 < length ls → ⊥) → ls ≡ []
empty [] f = refl
empty (l ∷ ls) f = absurd (f (omega arith))

pub first_skips : (v : Form) (slots n : ℕ) (ms : List Lift) (rest : List (List Lift)) (current : List Lift) (heads : List Pointer) (s p : ℕ)
    → (slot_of n slots ≡ s → ⊥) → page_from v slots n (ms ∷ rest) current heads s p
    ≡ page_from v slots (suc n) rest current (heads_after heads (level_of n) (pointing v (slot_of n slots) n (S.start_time ms))) s p
unfolding page_from
first_skips v slots n ms rest current heads s p f = rw (ne_eqb (slot_of n slots) s f)

pub no_right : (a b : Bool) → b ≡ false → (a && b) ≡ false
no_right true b e = e
no_right false b e = refl

by_lifts : (ls : List Lift) (next : ℕ) → cond (eqb (length ls) 0) next (S.start_time ls) ≡ first_start [] ls next
by_lifts [] next = refl
by_lifts (l ∷ ls) next = rw (ne_eqb (suc (length ls)) 0 (λ z. omega arith))

-- ---- a history with a closed serial

abbrev pub history : Form → ℕ → ℕ → List (List Lift) → List Lift → ℕ → List ℕ → History
history v slots oldest closed current next gone =
    record { log = record { form = v; slots = slots; oldest = oldest; closed = closed; current = current; next = next }; gone = gone }

module _ (v : Form) (slots oldest : ℕ) (ms : List Lift) (rest : List (List Lift)) (current : List Lift) (next : ℕ) (gone : List ℕ)
    (g : Good (history v slots oldest (ms ∷ rest) current next gone)) where
  abbrev h : History
  h = history v slots oldest (ms ∷ rest) current next gone

  -- the heads of the oldest serial left
  pub heads_left : oldest_heads (drop_history h) ≡ heads_after (oldest_heads h) (level_of oldest) (pointing v (slot_of oldest slots) oldest (S.start_time ms))
  unfolding drop_log
  heads_left =
      let e : 1 + length gone ≡ oldest = omega (arith, g.serial) in
      heads_gone v slots 1 gone (S.start_time ms) no_heads
      ∙ ap (λ (n : ℕ). heads_after (oldest_heads h) (level_of n) (pointing v (slot_of n slots) n (S.start_time ms))) e

  own : Among (step v) g.before [] ms rest g.begun
  own = among [] ms rest g.closed

  -- the oldest retained lift after the drop is a step later
  first_later : S.start_time ms + step v ≤ first_start rest current next
  first_later =
      omega (arith, (start_below ms own.own own.some_lift).1, first_above rest current own.later g.current)

  dead_left : (k : ℕ) → is_live (get_or (oldest_heads (drop_history h)) k none) (live_of (drop_history h).log) ≡ false
  unfolding drop_log
  dead_left k = rw heads_left (go (dec_lt k (level_of oldest)))
    where
      last : Pointer
      last = pointing v (slot_of oldest slots) oldest (S.start_time ms)

      now' : Live
      now' = oldest_by v (live_time v (first_start rest current next)) (oldest + 1)

      go : Dec (k < level_of oldest) → is_live (get_or (heads_after (oldest_heads h) (level_of oldest) last) k none) now' ≡ false
      go (yes l) =
          rw (heads_below (oldest_heads h) (four_oldest h g) (level_of oldest) (level_most oldest) last k l)
          (dead_below last now' (age_below v (slot_of oldest slots) oldest (S.start_time ms) (first_start rest current next) first_later))
      go (no l) =
          rw (heads_above (oldest_heads h) (four_oldest h g) (level_of oldest) (level_most oldest) last k (omega arith))
          (dead_later (get_or (oldest_heads h) k none) v _ _ (least_up v (omega (arith, first_later)) (omega arith)) (g.dead k))

  pub good_drop_some : Good (drop_history h)
  unfolding drop_log
  good_drop_some =
      let f = own in
      let t = start_below ms f.own f.some_lift in
      let n = length-append gone (S.start_time ms ∷ []) in
      record {
        least = g.least;
        most = g.most;
        serial = omega (arith, g.serial);
        room = omega (arith, g.room);
        busy = λ q. omega (arith, g.busy q);
        last = omega (arith, g.last);
        still = λ q. omega (arith, g.still q);
        before = f.to;
        begun = g.begun;
        fresh = λ q. absurd (omega arith);
        later = λ q. omega (arith, t.1);
        limited = limited_snoc gone (S.start_time ms) g.limited (omega (arith, t.1, segments_up f.later, times_up g.current, g.end));
        dead = dead_left;
        closed = f.later;
        current = g.current;
        end = g.end;
        segments = g.segments.1;
        segment = g.segment;
      }

  slot_there : slot_of oldest slots < slots
  slot_there = slot_below slots oldest (omega (arith, g.least))

  alone : suc oldest + length rest ≡ oldest + slots → current ≡ []
  alone e = empty current (λ q. omega (arith, g.busy q))

  page_is : (s p : ℕ) → s < slots → p < 32 → page_of (slot_erased (nand_image h) (slot_of oldest slots)) s p ≡ page_image (drop_history h) s p
  unfolding drop_log
  page_is s p l m = go (ℕ_discrete s (slot_of oldest slots))
    where
      after : List Pointer
      after = heads_after (oldest_heads h) (level_of oldest) (pointing v (slot_of oldest slots) oldest (S.start_time ms))

      left : page_image (drop_history h) s p ≡ page_from v slots (suc oldest) rest current after s p
      left =
          let e : oldest + 1 ≡ suc oldest = omega arith in
          rw (heads_left, e)

      go : Dec (s ≡ slot_of oldest slots) → page_of (slot_erased (nand_image h) (slot_of oldest slots)) s p ≡ page_image (drop_history h) s p
      go (yes e) =
          ap (λ (t : ℕ). page_of (slot_erased (nand_image h) (slot_of oldest slots)) t p) e
          ∙ page_slot_erased (nand_image h) slots (length_nand h g) (slot_of oldest slots) slot_there p m
          ∙ sym (left ∙ ap (λ (t : ℕ). page_from v slots (suc oldest) rest current after t p) e
          ∙ gone_page v slots (suc oldest) rest current after p oldest (omega (arith, g.serial)) (omega arith) (omega (arith, g.room)) alone)
      go (no f) =
          page_other_slot (nand_image h) slots (length_nand h g) (slot_of oldest slots) slot_there s p l m f ∙ page_of_nand h g s p l m ∙ skips ∙ sym left
        where
          skips : page_image h s p ≡ page_from v slots (suc oldest) rest current after s p
          skips = first_skips v slots oldest ms rest current (oldest_heads h) s p (λ e. f (sym e))

  nand_is : slot_erased (nand_image h) (slot_of oldest slots) ≡ nand_image (drop_history h)
  unfolding drop_log
  nand_is =
      chips_equal (slot_erased (nand_image h) (slot_of oldest slots)) (nand_image (drop_history h)) slots
      (length_slot_erased (nand_image h) slots (length_nand h g) (slot_of oldest slots) slot_there ∙ length_nand h g)
      (length_nand (drop_history h) good_drop_some) (λ s p l m. page_is s p l m ∙ sym (page_of_nand (drop_history h) good_drop_some s p l m))

  -- the header that a drop reads is the next serial's, without damage
  next_header : (ns : List Lift) (more' : List (List Lift)) → rest ≡ ns ∷ more' → ((next_oldest (image h) slots).good ≡ true) × ((next_oldest (image h) slots).start ≡ S.start_time ns)
  unfolding image state_image S.closing_of
  next_header ns more' e =
      let r = retained_header h g (ms ∷ []) ns more' (ap (λ (c : List (List Lift)). ms ∷ c) e) (open_serial h.log) (omega (arith, ap length e)) in
      (ap (λ (x : Header). x.good) r, ap (λ (x : Header). x.start) r)

  pub no_damage : drop_damage (image h) slots ≡ false
  unfolding image state_image
  no_damage = no_right (reads_header v) _ (go rest refl)
    where
      go : (r : List (List Lift)) → rest ≡ r → (closed_remains (state_image h) && not (next_oldest (image h) slots).good) ≡ false
      go [] e = rw (le-ltb (oldest + 1) (oldest + suc (length rest)) (omega (arith, ap length e)))
      go (ns ∷ more') e = no_right (closed_remains (state_image h)) (not (next_oldest (image h) slots).good) (ap not (next_header ns more' e).0)

  live_is : live_after (image h) slots ≡ live_time v (first_start rest current next)
  unfolding live_after image state_image
  live_is = ap (live_time v) (go rest refl)
    where
      go : (r : List (List Lift)) → rest ≡ r
          → cond (closed_remains (state_image h)) (next_oldest (image h) slots).start (cond (eqb (length current) 0) next (S.start_time current))
          ≡ first_start rest current next
      go [] e = rw (le-ltb (oldest + 1) (oldest + suc (length rest)) (omega (arith, ap length e)), e) (by_lifts current next)
      go (ns ∷ more') e =
          rw (lt-ltb (oldest + 1) (oldest + suc (length rest)) (omega (arith, ap length e))) ((next_header ns more' e).1
          ∙ sym (ap (λ (r : List (List Lift)). first_start r current next) e))

  state_is : without_oldest (state_image h) ≡ state_image (drop_history h)
  unfolding without_oldest state_image drop_log S.heads_from
  state_is =
      let e : oldest + suc (length rest) ≡ oldest + 1 + length rest = omega arith in
      let d : suc oldest ≡ oldest + 1 = omega arith in
      rw (heads_left, e, d)

  pub drop_world_some : drop_world (image h) slots ≡ image (drop_history h)
  unfolding drop_world image state_image drop_log
  drop_world_some = rw (nand_is, state_is, live_is)

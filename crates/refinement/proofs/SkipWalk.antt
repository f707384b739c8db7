-- The skip walk ends in front of closed segments that have no wanted lift, and makes few moves: each move leads to a retained segment that
-- starts after t2, so it and all behind it are too late. By induction on the hops. Assumes nothing.
use mathlib.Core.Path.{◌≡◌, refl, sym, ap, subst, ◌∙◌}
use mathlib.Core.Bool.{Bool, true, false, cond, ◌&&◌}
use mathlib.Core.List.{List, [], ◌∷◌, ◌++◌, append-nil}
use Prim.Native.Nat.{ℕ, zero, suc, ◌+◌, ◌≤◌, ◌<◌}
use native.Mathlib.Decide.{dec_lt}
use native.Mathlib.Nat.{le_refl}
use native.Mathlib.Omega.{arith}
use lib.Dec.{ltb}
use lib.IntN.{ℤ, pos}
use lib.ListN.{length, get_or, length-append}
use borrow.Author.Tests.{ltb-true, ltb-false}
use Rattle.codec.proofs.Truth.{and_parts}
use Rattle.skiplist.specs.declared.Pointer.{Pointer}
use Rattle.form.specs.Forms.{step}
use Rattle.skiplist.specs.Skip.{none, is_live, level_of}
use Rattle.header.specs.declared.Header.{Header}
use Rattle.header.proofs.HeaderRead.{header_of}
use Rattle.walk.specs.Seek.{SkipWalk, header_at, hop_at, hop, hops, skip_walk}
use Rattle.questions.specs.Queries.{log_of}
use Rattle.paper_log.specs.Log.{Lift, among, joined}
use Rattle.refinement.specs.Inner.Segments as S
use Rattle.refinement.specs.Inner.Image.{History, oldest_heads, nand_image, live_of, state_image}
use Rattle.refinement.specs.Rules.{header_pages_most}
use Rattle.refinement.proofs.Good as G
use Rattle.refinement.proofs.Good.{Times, Segments, Good}
use Rattle.refinement.proofs.PageFrom.{heads_at}
use Rattle.refinement.proofs.Retained.{facts, retained_header}
use Rattle.refinement.proofs.Wanted.{none_wanted, late_all}
use Rattle.refinement.proofs.Levels.{moves_left, NoneAbove, move_less, down_less, moves_most}
use Rattle.refinement.proofs.Pointers.{among_first, Leads, dead, to, level_least, leads_heads, leads_node, live_retained}
use Rattle.refinement.proofs.Late.{early_count, early_low, early_high}

-- next time before a segment may be taken as its start
from_start : (ls : List Lift) {d n k m : ℕ} (rest : List (List Lift)) → 0 < length ls → Times d n ls k → Segments d k rest m
    → Segments d (S.start_time ls) (ls ∷ rest) m
from_start [] rest h t r = absurd (omega arith)
from_start (l ∷ ls) rest h (G.more a t) r = G.more (G.more (le_refl _) t) r

-- the first serial whose segment starts after t2, or the open one
abbrev late_from : History → ℕ → ℕ
late_from h t2 = h.log.oldest + early_count t2 h.log.closed

module _ (h : History) (t1 t2 : ℕ) (k1 k2 : ℤ) where
  -- the walk is behind some closed segments, and those it has skipped have no wanted lift; its moves and those left have their bound
  pub record Reaches (w : SkipWalk) : Type 0 where
    pub good : w.good ≡ true
    pub older : List (List Lift)
    pub skipped : List (List Lift)
    pub is : h.log.closed ≡ older ++ skipped
    pub before : w.before ≡ h.log.oldest + length older
    pub height : ℕ
    pub some : 1 ≤ height
    pub most : (w.level ≤ height) × (w.level ≤ 4)
    pub leads : (k : ℕ) → k < height → Leads h older k (get_or w.pointers k none)
    pub unwanted : among t1 t2 k1 k2 (joined skipped) ≡ []
    pub counted : w.moves + moves_left w.level (late_from h t2) w.before ≤ header_pages_most h.log.slots

module _ (h : History) (g : Good h) (t1 t2 : ℕ) (k1 k2 : ℤ) where
  abbrev At : SkipWalk → Type 0
  At w = Reaches h t1 t2 k1 k2 w

  abbrev late : ℕ
  late = late_from h t2

  -- a retained segment that starts after t2
  too_late : (before : List (List Lift)) (ls : List Lift) (after : List (List Lift)) → h.log.closed ≡ before ++ (ls ∷ after)
      → t2 < S.start_time ls
      → among t1 t2 k1 k2 (joined (ls ∷ after)) ≡ []
  too_late before ls after is l =
      let a = facts h g before ls after is in
      late_all t1 t2 k1 k2 (from_start ls after a.some_lift a.own a.later) l

  -- its serial is a late one, and that of one that does not is not
  late_serial : (before : List (List Lift)) (ls : List Lift) (after : List (List Lift)) → h.log.closed ≡ before ++ (ls ∷ after)
      → t2 < S.start_time ls → late ≤ h.log.oldest + length before
  late_serial before ls after is l = go (dec_lt (length before) (early_count t2 h.log.closed))
    where
      go : Dec (length before < early_count t2 h.log.closed) → late ≤ h.log.oldest + length before
      go (yes m) = absurd (omega (arith, early_low t2 before ls after (rw is at m)))
      go (no m) = omega arith

  early_serial : (before : List (List Lift)) (ls : List Lift) (after : List (List Lift)) → h.log.closed ≡ before ++ (ls ∷ after)
      → S.start_time ls ≤ t2 → h.log.oldest + length before < late
  early_serial before ls after is l = go (dec_lt (length before) (early_count t2 h.log.closed))
    where
      go : Dec (length before < early_count t2 h.log.closed) → h.log.oldest + length before < late
      go (yes m) = omega arith
      go (no m) =
          let s = subst (λ (c : List (List Lift)). Segments (step h.log.form) g.before c g.begun) is g.closed in
          let n : early_count t2 (before ++ (ls ∷ after)) ≤ length before = rw (← is) (omega arith) in
          absurd (omega (arith, early_high t2 before ls after s n))

  -- the pointer of a level is not followed: no late serial has the level
  none_late : (older skipped : List (List Lift)) → h.log.closed ≡ older ++ skipped → (k : ℕ) (p : Pointer) → Leads h older k p
      → (is_live p (live_of h.log) && ltb t2 p.time) ≡ false → NoneAbove k late (h.log.oldest + length older)
  none_late older skipped is k p (dead d z) e s l m = z s (omega arith) m
  none_late older skipped is k p (to before ls after eq a z q) e s l m =
      let there = among_first before ls after skipped is eq in
      let alive : is_live p (live_of h.log) ≡ true = rw q (live_retained h g before ls (after ++ skipped) there) in
      let f : ltb t2 p.time ≡ false = rw alive at e in
      let t : ltb t2 (S.start_time ls) ≡ false = ap (λ (x : Pointer). ltb t2 x.time) (sym q) ∙ f in
      z s (omega (arith, early_serial before ls (after ++ skipped) there (ltb-false t2 (S.start_time ls) t))) m

  hop_reaches : (w : SkipWalk) (k : ℕ) → w.level ≡ k → At w → At (hop (nand_image h) h.log.slots (live_of h.log) t2 w k)
  unfolding hop_at S.closing_of
  hop_reaches w zero lv r = r
  hop_reaches w (suc k) lv r = go (is_live p (live_of h.log) && ltb t2 p.time) refl (r.leads k (omega (arith, r.most)))
    where
      p : Pointer
      p = get_or w.pointers k none

      first : 1 ≤ late
      first = omega (arith, g.serial)

      few : k < 4
      few = omega (arith, r.most)

      count : w.moves + moves_left (suc k) late (h.log.oldest + length r.older) ≤ header_pages_most h.log.slots
      count = rw (lv, r.before) at r.counted

      moved : Header → SkipWalk
      moved hd =
          record { good = hd.good; level = cond hd.good (suc k) 0; before = hd.serial; pointers = hd.next; moves = w.moves + 1 }

      go : (t : Bool) → (is_live p (live_of h.log) && ltb t2 p.time) ≡ t → Leads h r.older k p
          → At (cond t (moved (header_at h.log.form (nand_image h) h.log.slots p w.before))
          (record { good = true; level = k; before = w.before; pointers = w.pointers; moves = w.moves }))
      go false e lead = record {
        good = refl;
        older = r.older;
        skipped = r.skipped;
        is = r.is;
        before = r.before;
        height = r.height;
        some = r.some;
        most = (omega (arith, r.most), omega (arith, few));
        leads = r.leads;
        unwanted = r.unwanted;
        counted = rw r.before
            (omega (arith, count, down_less late (h.log.oldest + length r.older) first k few (none_late r.older r.skipped r.is k p lead e)));
      }
      go true e (dead d z) = let y : ◌≡◌ {A = ℕ} 0 1 = cc (rw d at e) in absurd (omega arith)
      go true e (to before ls after eq a z q) =
          let there = among_first before ls after r.skipped r.is eq in
          let n = ap length eq ∙ length-append before (ls ∷ after) in
          let serial = h.log.oldest + length before in
          let after_t2 : t2 < S.start_time ls =
          ltb-true t2 (S.start_time ls) (ap (λ (x : Pointer). ltb t2 x.time) (sym q)
          ∙ (and_parts (is_live p (live_of h.log)) (ltb t2 p.time) e).1) in
          let read : header_at h.log.form (nand_image h) h.log.slots p w.before
          ≡ header_of (S.closing_of h.log.form serial ls (heads_at h.log.form h.log.slots h.log.oldest before (oldest_heads h))) true =
          ap (λ (x : Pointer). header_at h.log.form (nand_image h) h.log.slots x w.before) q
          ∙ retained_header h g before ls (after ++ r.skipped) there w.before (omega (arith, r.before)) in
          let fewer = move_less late (h.log.oldest + length r.older) first k few serial (omega arith)
          (late_serial before ls (after ++ r.skipped) there after_t2) a in
          subst (λ (hd : Header). At (moved hd)) (sym read) (record {
            good = refl;
            older = before;
            skipped = ls ∷ (after ++ r.skipped);
            is = there;
            before = refl;
            height = level_of serial;
            some = level_least serial;
            most = (omega arith, omega (arith, few));
            leads = leads_node h g before serial;
            unwanted = too_late before ls (after ++ r.skipped) there after_t2;
            counted = omega (arith, count, fewer);
          })

  hops_reach : (n : ℕ) (w : SkipWalk) → At w → At (hops n (nand_image h) h.log.slots (live_of h.log) t2 w)
  unfolding hops
  hops_reach zero w r = r
  hops_reach (suc n) w r = hops_reach n _ (hop_reaches w w.level refl r)

  -- the walk from the heads
  pub walk_reaches : Reaches h t1 t2 k1 k2 (skip_walk (nand_image h) (log_of (state_image h) h.log.slots) (live_of h.log) t2)
  unfolding skip_walk state_image joined
  walk_reaches =
      hops_reach _ _ (record {
        good = refl;
        older = h.log.closed;
        skipped = [];
        is = sym (append-nil h.log.closed);
        before = refl;
        height = 4;
        some = omega arith;
        most = (omega arith, omega arith);
        leads = λ k l. leads_heads h g h.log.closed k;
        unwanted = none_wanted t1 t2 k1 k2 [] (λ p l. absurd (omega arith));
        counted =
            let m = moves_most late (h.log.oldest + length h.log.closed) h.log.slots (omega (arith, g.room)) in
            omega arith;
      })

-- however the walk goes on
pub walk_moves : (h : History) → Good h → (t2 : ℕ)
    → (skip_walk (nand_image h) (log_of (state_image h) h.log.slots) (live_of h.log) t2).moves ≤ header_pages_most h.log.slots
walk_moves h g t2 = omega (arith, (walk_reaches h g 0 t2 (pos 0) (pos 0)).counted)

-- Where a history's skip pointers lead: each is that of the last closed segment before with its level or a higher one, or is not live, where
-- no such one is retained. By induction over the segments in order of closing. Assumes nothing.
use mathlib.Core.Path.{◌≡◌, refl, sym, ap, subst, ◌∙◌}
use mathlib.Core.Bool.{true, false}
use mathlib.Core.List.{List, [], ◌∷◌, ◌++◌, map, append_assoc, append-nil}
use Prim.Native.Nat.{ℕ, suc, ◌+◌, ◌≤◌, ◌<◌}
use native.Mathlib.Decide.{ℕ_discrete, dec_lt}
use native.Mathlib.Nat.{le_refl}
use native.Mathlib.Omega.{arith}
use lib.ListN.{length, get_or, length-append}
use borrow.Author.Tests.{le-leb, ne_eqb}
use Rattle.form.specs.declared.Form.{Form}
use Rattle.form.specs.declared.Form.TheVariants.{Old, New}
use Rattle.form.specs.Forms.{step}
use Rattle.flash.specs.Chip.{slot_of}
use Rattle.skiplist.specs.declared.Pointer.{Pointer}
use Rattle.skiplist.specs.Skip.{pointing, none, age_of, is_live, level_of, node_of, heads_after}
use Rattle.skiplist.proofs.Nodes.{node_below, heads_below, heads_above}
use Rattle.header.proofs.HeaderBytes.{level_most}
use Rattle.store.specs.World.{live_time, least_by}
use Rattle.paper_log.specs.Log.{Lift}
use Rattle.refinement.specs.Inner.Segments as S
use Rattle.refinement.specs.Inner.Image.{History, oldest_heads, first_start, live_of}
use Rattle.refinement.proofs.Good as G
use Rattle.refinement.proofs.Good.{Segments, Good}
use Rattle.refinement.proofs.InBounds.{segments_up, start_below}
use Rattle.flash.proofs.Slots.{slot_below}
use Rattle.refinement.proofs.PageLengths.{four_after, four_heads, four_oldest}
use Rattle.refinement.proofs.PageFrom.{heads_at}
use Rattle.refinement.proofs.Retained.{among}
use Rattle.refinement.proofs.OneMore.{length_snoc}
use Rattle.refinement.proofs.Levels.{NoneAbove}

-- the pointer to the closed segment behind these
abbrev pub pointer_to : History → List (List Lift) → List Lift → Pointer
pointer_to h before ls =
    pointing h.log.form (slot_of (h.log.oldest + length before) h.log.slots) (h.log.oldest + length before) (S.start_time ls)

-- a segment among the first of the closed ones, by what stands before and behind it
pub among_first : {closed b : List (List Lift)} (before : List (List Lift)) (ls : List Lift) (after rest : List (List Lift)) → closed ≡ b ++ rest
    → b ≡ before ++ (ls ∷ after) → closed ≡ before ++ (ls ∷ (after ++ rest))
among_first before ls after rest is eq =
    is ∙ ap (λ (x : List (List Lift)). x ++ rest) eq ∙ append_assoc before (ls ∷ after) rest

-- the pointer p of level k + 1, where the closed segments so far are b
pub data Leads (h : History) (b : List (List Lift)) (k : ℕ) (p : Pointer) : Type 0 where
  dead : is_live p (live_of h.log) ≡ false → NoneAbove k h.log.oldest (h.log.oldest + length b) → Leads h b k p
  to : (before : List (List Lift)) (ls : List Lift) (after : List (List Lift)) → b ≡ before ++ (ls ∷ after)
      → k < level_of (h.log.oldest + length before) → NoneAbove k (suc (h.log.oldest + length before)) (h.log.oldest + length b)
      → p ≡ pointer_to h before ls → Leads h b k p

pub level_least : (n : ℕ) → 1 ≤ level_of n
unfolding level_of
level_least n = omega arith

-- every serial has level 1: so before a segment that its pointer leads to there is none, and none at all where it leads nowhere
pub last_held : (h : History) (before : List (List Lift)) (ls : List Lift) (after : List (List Lift))
    → NoneAbove 0 (suc (h.log.oldest + length before)) (h.log.oldest + length (before ++ (ls ∷ after))) → after ≡ []
last_held h before ls [] z = refl
last_held h before ls (ms ∷ after) z =
    let s = suc (h.log.oldest + length before) in
    absurd (omega (arith, z s (omega arith) (omega (arith, length-append before (ls ∷ ms ∷ after))), level_least s))

pub none_held : (h : History) (b : List (List Lift)) → NoneAbove 0 h.log.oldest (h.log.oldest + length b) → b ≡ []
none_held h [] z = refl
none_held h (ls ∷ b) z = absurd (omega (arith, z h.log.oldest (omega arith) (omega arith), level_least h.log.oldest))

-- ---- one segment closed

module _ (h : History) (b : List (List Lift)) (ls : List Lift) where
  abbrev serial : ℕ
  serial = h.log.oldest + length b

  leads_new : (k : ℕ) → k < level_of serial → Leads h (b ++ (ls ∷ [])) k (pointer_to h b ls)
  leads_new k l = to b ls [] refl l (λ s u v. absurd (omega (arith, length_snoc b ls))) refl

  -- with a segment that does not have the level
  none_on : (k from : ℕ) → level_of serial ≤ k → NoneAbove k from serial → NoneAbove k from (h.log.oldest + length (b ++ (ls ∷ [])))
  none_on k from l z s u v = go (ℕ_discrete s serial)
    where
      go : Dec (s ≡ serial) → level_of s ≤ k
      go (yes e) = rw e l
      go (no e) = z s u (omega (arith, length_snoc b ls))

  leads_on : (k : ℕ) (p : Pointer) → level_of serial ≤ k → Leads h b k p → Leads h (b ++ (ls ∷ [])) k p
  leads_on k p l (dead d z) = dead d (none_on k h.log.oldest l z)
  leads_on k p l (to before ms after e a z q) =
      to before ms (after ++ (ls ∷ []))
      (ap (λ (x : List (List Lift)). x ++ (ls ∷ [])) e ∙ append_assoc before (ms ∷ after) (ls ∷ [])) a
      (none_on k (suc (h.log.oldest + length before)) l z) q

  leads_after : (heads : List Pointer) → length heads ≡ 4 → ((k : ℕ) → Leads h b k (get_or heads k none))
      → (k : ℕ) → Leads h (b ++ (ls ∷ [])) k (get_or (heads_after heads (level_of serial) (pointer_to h b ls)) k none)
  leads_after heads four f k = go (dec_lt k (level_of serial))
    where
      go : Dec (k < level_of serial) → Leads h (b ++ (ls ∷ [])) k (get_or (heads_after heads (level_of serial) (pointer_to h b ls)) k none)
      go (yes l) = rw (heads_below heads four (level_of serial) (level_most serial) (pointer_to h b ls) k l) (leads_new k l)
      go (no l) =
          rw (heads_above heads four (level_of serial) (level_most serial) (pointer_to h b ls) k (omega arith))
          (leads_on k (get_or heads k none) (omega arith) (f k))

-- ---- some segments closed

leads_from : (h : History) (b c : List (List Lift)) (heads : List Pointer) → length heads ≡ 4
    → ((k : ℕ) → Leads h b k (get_or heads k none))
    → (k : ℕ)
    → Leads h (b ++ c) k (get_or (S.heads_from h.log.form h.log.slots (h.log.oldest + length b) (map S.start_time c) heads) k none)
unfolding S.heads_from
leads_from h b [] heads four f k = rw (append-nil b) (f k)
leads_from h b (ls ∷ c) heads four f k =
    let n : ℕ = h.log.oldest + length b in
    let e : suc n ≡ h.log.oldest + length (b ++ (ls ∷ [])) = omega (arith, length_snoc b ls) in
    let after : List Pointer = heads_after heads (level_of n) (pointer_to h b ls) in
    subst (λ (x : List (List Lift)). Leads h x k (get_or (S.heads_from h.log.form h.log.slots (suc n) (map S.start_time c) after) k none))
    (append_assoc b (ls ∷ []) c)
    (subst (λ (m : ℕ). Leads h ((b ++ (ls ∷ [])) ++ c) k
    (get_or (S.heads_from h.log.form h.log.slots m (map S.start_time c) after) k none)) (sym e)
    (leads_from h (b ++ (ls ∷ [])) c (heads_after heads (level_of (h.log.oldest + length b)) (pointer_to h b ls))
    (four_after heads n (pointer_to h b ls) four) (leads_after h b ls heads four f) k))

-- ---- the start of the oldest retained lift

pub live_below : (before : List (List Lift)) (ls : List Lift) (after : List (List Lift)) (current : List Lift) (next : ℕ) {d n m : ℕ}
    → Segments d n (before ++ (ls ∷ after)) m → first_start (before ++ (ls ∷ after)) current next ≤ S.start_time ls
live_below [] ls after current next s = le_refl _
live_below ((l ∷ ms) ∷ before) ls after current next (G.more t r) =
    let a = among before ls after r in
    omega (arith, start_below (l ∷ ms) t (omega arith), segments_up a.earlier, start_below ls a.own a.some_lift)
live_below ([] ∷ before) ls after current next s = elim s [ ]

-- ---- the pointers of a history

module _ (h : History) (g : Good h) where
  -- the heads where the segments b are closed
  pub leads_heads : (b : List (List Lift)) (k : ℕ)
      → Leads h b k (get_or (heads_at h.log.form h.log.slots h.log.oldest b (oldest_heads h)) k none)
  leads_heads b k =
      let z : h.log.oldest + 0 ≡ h.log.oldest = omega arith in
      rw z at (leads_from h [] b (oldest_heads h) (four_oldest h g) (λ k. dead (g.dead k) (λ s u v. absurd (omega arith))) k)

  -- the node of the segment behind them, up to its level
  pub leads_node : (b : List (List Lift)) (n k : ℕ) → k < level_of n
      → Leads h b k (get_or (node_of (heads_at h.log.form h.log.slots h.log.oldest b (oldest_heads h)) (level_of n)) k none)
  leads_node b n k l = rw (node_below heads four (level_of n) (level_most n) k l) (leads_heads b k)
    where
      heads : List Pointer
      heads = heads_at h.log.form h.log.slots h.log.oldest b (oldest_heads h)

      four : length heads ≡ 4
      four = four_heads h.log.form h.log.slots h.log.oldest (map S.start_time b) (oldest_heads h) (four_oldest h g)

  -- a retained segment's pointer is live
  pub live_retained : (before : List (List Lift)) (ls : List Lift) (after : List (List Lift))
      → h.log.closed ≡ before ++ (ls ∷ after)
      → is_live (pointer_to h before ls) (live_of h.log) ≡ true
  live_retained before ls after is =
      let s = slot_below h.log.slots (h.log.oldest + length before) (omega (arith, g.least)) in
      rw (ne_eqb (slot_of (h.log.oldest + length before) h.log.slots) 65535 (λ e. omega (arith, g.most)), is)
      (le-leb _ _ (old_enough h.log.form))
    where
      closed : List (List Lift)
      closed = before ++ (ls ∷ after)

      old_enough : (v : Form) → least_by v (live_time v (first_start closed h.log.current h.log.next)) h.log.oldest
          ≤ age_of v (pointing v (slot_of (h.log.oldest + length before) h.log.slots) (h.log.oldest + length before) (S.start_time ls))
      old_enough Old =
          live_below before ls after h.log.current h.log.next
          (subst (λ (c : List (List Lift)). Segments (step h.log.form) g.before c g.begun) is g.closed)
      old_enough New = omega arith

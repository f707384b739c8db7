-- The pointers of a history of form 1, as ground 14 looks at them: where none of them is late, the heads where the oldest retained
-- serial was closed are not live in form 0 either, and the other way round. Assumes nothing.
use mathlib.Core.Path.{◌≡◌, refl, sym, subst, ◌∙◌}
use mathlib.Core.Bool.{Bool, true, false, not, ◌&&◌}
use mathlib.Core.List.{List, [], ◌∷◌, ◌++◌, map, append_assoc, append-nil}
use Prim.Native.Nat.{ℕ, ◌+◌, ◌≤◌, ◌<◌}
use native.Mathlib.Decide.{dec_lt}
use native.Mathlib.Omega.{arith}
use lib.Dec.{leb}
use lib.ListN.{length, get_or, get_or-eq_default}
use borrow.Author.Tests.{le-leb}
use Rattle.flash.specs.Chip.{slot_of}
use Rattle.form.specs.declared.Form.{Form}
use Rattle.form.specs.declared.Form.TheVariants.{Old, New}
use Rattle.skiplist.specs.declared.Pointer.{Pointer}
use Rattle.skiplist.specs.Skip.{pointing, none, is_none, is_live, serials_from, level_of, node_of}
use Rattle.skiplist.proofs.Nodes.{node_below, node_above, heads_above}
use Rattle.header.proofs.HeaderBytes.{level_most}
use Rattle.paper_log.specs.Log.{Lift}
use Rattle.refinement.specs.Inner.Segments as S
use Rattle.refinement.specs.Inner.Image.{History, oldest_heads, open_heads, live_of}
use Rattle.refinement.proofs.Good.{Good}
use Rattle.refinement.proofs.PageFrom.{heads_at, heads_snoc}
use Rattle.refinement.proofs.PageLengths.{four_heads, four_oldest}
use Rattle.carry.specs.Carried.{pointer_into}
use Rattle.retained.specs.Retained.{is_late}
use Rattle.round_trips.proofs.AllHeads.{heads_all}
use Rattle.round_trips.proofs.Histories.{into}
use Rattle.round_trips.proofs.Heads.{heads_into, four_into}

-- ---- one pointer

-- live in form 0 from the time `first` on
abbrev pub is_live_from : ℕ → Pointer → Bool
is_live_from first p = is_live p (record { form = Old; oldest = first })

-- a pointer that is not live and not late is not live in form 0
late_dead : (oldest first n k : ℕ) (p : Pointer) → is_live p (serials_from oldest) ≡ false → is_late oldest first p ≡ false
    → is_live_from first (pointer_into Old n k p) ≡ false
unfolding pointer_into
late_dead oldest first n k p d e = go (is_none p) (is_live p (serials_from oldest)) (leb first p.time) d e
  where
    go : (x y z : Bool) → y ≡ false → (not x && (not y && z)) ≡ false → (not x && z) ≡ false
    go true y z d e = refl
    go false true z d e = cc
    go false false z d e = e

-- one that is not live in form 0 is not late
dead_fine : (oldest first n k : ℕ) (p : Pointer) → is_live_from first (pointer_into Old n k p) ≡ false → is_late oldest first p ≡ false
unfolding pointer_into
dead_fine oldest first n k p e = go (is_none p) (is_live p (serials_from oldest)) (leb first p.time) e
  where
    go : (x y z : Bool) → (not x && z) ≡ false → (not x && (not y && z)) ≡ false
    go true y z e = refl
    go false true z e = refl
    go false false z e = e

-- none is not late
none_fine : (oldest first : ℕ) → is_late oldest first none ≡ false
none_fine oldest first = refl

-- nor is a pointer to a retained segment
retained_fine : (oldest first slot n t : ℕ) → oldest ≤ n → is_late oldest first (pointing New slot n t) ≡ false
retained_fine oldest first slot n t l = go (is_none (pointing New slot n t)) (leb oldest n) (leb first t) (le-leb oldest n l)
  where
    go : (x y z : Bool) → y ≡ true → (not x && (not (not x && y) && z)) ≡ false
    go true y z e = refl
    go false true z e = refl
    go false false z e = cc

-- ---- the heads of a history

module _ (h : History) (g : Good h) (e : h.log.form ≡ New) (first : ℕ) where
  abbrev oldest : ℕ
  oldest = h.log.oldest

  abbrev heads : List (List Lift) → List Pointer
  heads b = heads_at h.log.form h.log.slots h.log.oldest b (oldest_heads h)

  abbrev Fine : Pointer → Type 0
  Fine p = is_late h.log.oldest first p ≡ false

  four_at : (b : List (List Lift)) → length (heads b) ≡ 4
  four_at b = four_heads h.log.form h.log.slots oldest (map S.start_time b) (oldest_heads h) (four_oldest h g)

  -- what ground 14 looks at: the heads, and the node of each retained closed segment
  pub record AllFine : Type 0 where
    pub at_end : (k : ℕ) → k < 4 → is_late h.log.oldest first (get_or (open_heads h) k none) ≡ false
    pub nodes : (b : List (List Lift)) (ls : List Lift) (after : List (List Lift)) → h.log.closed ≡ b ++ (ls ∷ after) → (k : ℕ) → k < 4
        → is_late h.log.oldest first
        (get_or (node_of (heads_at h.log.form h.log.slots h.log.oldest b (oldest_heads h)) (level_of (h.log.oldest + length b))) k none)
        ≡ false

  -- the heads behind the segments b, by the nodes of those that follow and the heads at the end
  fine_from : (before c : List (List Lift)) → h.log.closed ≡ before ++ c → AllFine → (k : ℕ) → k < 4 → Fine (get_or (heads before) k none)
  fine_from before [] is all k l = subst (λ (b : List (List Lift)). Fine (get_or (heads b) k none)) (is ∙ append-nil before) (all.at_end k l)
  fine_from before (ls ∷ rest) is all k l =
      go (dec_lt k (level_of n)) (fine_from (before ++ (ls ∷ [])) rest (is ∙ sym (append_assoc before (ls ∷ []) rest)) all k l)
    where
      n : ℕ
      n = oldest + length before

      p : Pointer
      p = pointing h.log.form (slot_of n h.log.slots) n (S.start_time ls)

      go : Dec (k < level_of n) → Fine (get_or (heads (before ++ (ls ∷ []))) k none) → Fine (get_or (heads before) k none)
      go (yes m) ih = rw (node_below (heads before) (four_at before) (level_of n) (level_most n) k m) at (all.nodes before ls rest is k l)
      go (no m) ih =
          rw (
            heads_snoc h.log.form h.log.slots oldest before ls (oldest_heads h),
            heads_above (heads before) (four_at before) (level_of n) (level_most n) p k (omega arith),
          ) at ih

  live_is : live_of h.log ≡ serials_from oldest
  live_is = rw e

  oldest_into : (k : ℕ) → k < 4 → pointer_into Old (oldest + 0) k (get_or (oldest_heads h) k none) ≡ get_or (oldest_heads (into Old h)) k none
  unfolding S.heads_from
  oldest_into k l = heads_into Old h g e [] k l

  -- none of them late: the heads where the oldest retained serial was closed are not live in form 0
  pub dead_in_old : AllFine → (k : ℕ) → is_live_from first (get_or (oldest_heads (into Old h)) k none) ≡ false
  unfolding S.heads_from
  dead_in_old all k = go (dec_lt k 4)
    where
      go : Dec (k < 4) → is_live_from first (get_or (oldest_heads (into Old h)) k none) ≡ false
      go (yes l) =
          rw (sym (oldest_into k l)) (late_dead oldest first (oldest + 0) k (get_or (oldest_heads h) k none)
          (subst (λ live. is_live (get_or (oldest_heads h) k none) live ≡ false) live_is (g.dead k)) (fine_from [] h.log.closed refl all k l))
      go (no l) =
          rw (get_or-eq_default (oldest_heads (into Old h)) none {n = k} (omega (arith, four_into Old h g e)))

  -- ---- the other way round

  pub fine_if_dead : ((k : ℕ) → is_live_from first (get_or (oldest_heads (into Old h)) k none) ≡ false) → AllFine
  fine_if_dead dead = record {
    at_end = all h.log.closed;
    nodes = λ b ls after is k l. in_node b (level_of (oldest + length b)) (level_most (oldest + length b)) k l;
  }
    where
      at_oldest : (k : ℕ) → k < 4 → Fine (get_or (oldest_heads h) k none)
      at_oldest k l =
          dead_fine oldest first (oldest + 0) k (get_or (oldest_heads h) k none)
          (subst (λ (p : Pointer). is_live_from first p ≡ false) (sym (oldest_into k l)) (dead k))

      all : (b : List (List Lift)) (k : ℕ) → k < 4 → Fine (get_or (heads b) k none)
      all b =
          subst (λ (v : Form). (k : ℕ) → k < 4 → Fine (get_or (S.heads_from v h.log.slots oldest (map S.start_time b) (oldest_heads h)) k none)) (sym e)
          (heads_all (λ k p. k < 4 → Fine p) New h.log.slots oldest (map S.start_time b) (oldest_heads h) (four_oldest h g)
          (λ k m t a c l. retained_fine oldest first (slot_of m h.log.slots) m t a) at_oldest)

      in_node : (b : List (List Lift)) (level : ℕ) → level ≤ 4 → (k : ℕ) → k < 4 → Fine (get_or (node_of (heads b) level) k none)
      in_node b level few k l = go (dec_lt k level)
        where
          go : Dec (k < level) → Fine (get_or (node_of (heads b) level) k none)
          go (yes m) = rw (node_below (heads b) (four_at b) level few k m) (all b k l)
          go (no m) = rw (node_above (heads b) (four_at b) level few k (omega arith) l) (none_fine oldest first)

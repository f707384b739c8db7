-- The skip walk kept as a place is the definition's: a header loaded is a hop, a level left is a hop, damage ends both. Assumes nothing.
use mathlib.Core.Path.{◌≡◌, refl, sym, ap, ◌∙◌}
use mathlib.Core.Bool.{Bool, true, false, cond, not, ◌&&◌}
use mathlib.Core.List.{List}
use Prim.Native.Nat.{ℕ, suc, ◌+◌, ◌*◌, ◌^◌, ◌≤◌, ◌<◌}
use native.Mathlib.Omega.{arith}
use lib.Dec.{eqb, ltb}
use lib.ListN.{length, get_or}
use borrow.Author.Tests.{not-true, not-false, ne_eqb}
use Rattle.codec.proofs.Truth.{and_parts}
use Rattle.codec.specs.Number.{number_at}
use Rattle.flash.specs.Chip.{page_of}
use Rattle.form.specs.declared.Form.TheVariants.{New}
use Rattle.skiplist.specs.declared.Pointer.{Pointer}
use Rattle.skiplist.specs.Skip.{none, is_live, serials_from}
use Rattle.skiplist.specs.PointerBytes.{pointers_at}
use Rattle.header.specs.Header.{header_in, header_good}
use Rattle.header.proofs.HeaderFacts.{header_facts, good_slots}
use Rattle.visit.specs.declared.Log.{Log}
use Rattle.visit.specs.Inner.Sound.{InSlots}
use Rattle.walk.specs.declared.Place.{Place}
use Rattle.walk.specs.Seek.{SkipWalk, hop_at, skip_walk}
use Rattle.walk.specs.Inner.Placed.{PlaceSound, pointers_of, loaded_at, walk_at, hops_left, walked_on}
use Rattle.walk.proofs.Hops.{live_inside, left_level, hop_falls, walk_step, walk_end}

-- ---- what the code reads

pub loaded_made : (nand : List ℕ) (slots slot before moves : ℕ) (page : List ℕ) → page ≡ page_of nand slot 31 → (good : Bool) (serial : ℕ)
    → good ≡ header_good New page slots before → serial ≡ number_at page 0 4
    → ◌≡◌ {A = Place} (record { good = good; slot = slot; before = serial; moves = moves }) (loaded_at nand slots slot before moves)
loaded_made nand slots slot before moves page is good serial e f = rw (e, f, is)

module _ (nand : List ℕ) (heads : List Pointer) (w : Place) (k : ℕ) (p : Pointer) where
  pub pointer_head : w.moves ≡ 0 → p ≡ get_or heads k none → p ≡ get_or (pointers_of nand heads w) k none
  pointer_head e f = rw e f

  pub pointer_there : (w.moves ≡ 0 → ⊥) → (page : List ℕ) → page ≡ page_of nand w.slot 31 → p ≡ get_or (pointers_at New page 40) k none
      → p ≡ get_or (pointers_of nand heads w) k none
  pointer_there e page is f = rw (ne_eqb w.moves 0 e, ← is) f

-- ---- a hop

module _ (nand : List ℕ) (slots oldest t2 : ℕ) (heads : List Pointer) (k : ℕ) (w : Place) (p : Pointer)
    (p_is : p ≡ get_or (pointers_of nand heads w) k none) (live : Bool) (live_is : live ≡ is_live p (serials_from oldest)) where
  abbrev here : SkipWalk
  here = walk_at nand heads (suc k) w

  abbrev Leads : SkipWalk → SkipWalk → Type 0
  Leads v u = walked_on nand slots (serials_from oldest) t2 v ≡ walked_on nand slots (serials_from oldest) t2 u

  level_is : w.good ≡ true → here.level ≡ suc k
  level_is g = rw g

  -- no more at this level
  down : w.good ≡ true → (live && ltb t2 p.time) ≡ false → walk_at nand heads k w ≡ hop_at nand slots (serials_from oldest) t2 here k
  unfolding hop_at
  down g e = rw (← p_is, ← live_is, e, g)

  pub level_done : not (w.good && (live && ltb t2 p.time)) ≡ true → Leads (walk_at nand heads k w) here
  level_done e = go w.good refl (not-true _ e)
    where
      go : (b : Bool) → w.good ≡ b → (b && (live && ltb t2 p.time)) ≡ false → Leads (walk_at nand heads k w) here
      go false g h = let s : walk_at nand heads k w ≡ here = rw g in ap (walked_on nand slots (serials_from oldest) t2) s
      go true g h =
          ap (walked_on nand slots (serials_from oldest) t2) (down g h) ∙ walk_step nand slots (serials_from oldest) t2 here k (level_is g)

  -- a header on
  module _ (onward : not (w.good && (live && ltb t2 p.time)) ≡ false) where
    is_good : w.good ≡ true
    is_good = (and_parts w.good (live && ltb t2 p.time) (not-false _ onward)).0

    goes : (live && ltb t2 p.time) ≡ true
    goes = (and_parts w.good (live && ltb t2 p.time) (not-false _ onward)).1

    pub next_few : PlaceSound nand slots heads w → w.moves < 2 ^ 32
    next_few s = omega (arith, s.few is_good)

    pub next_inside : length nand ≡ slots * 16384 → PlaceSound nand slots heads w → p.slot * 16384 + 16384 ≤ length nand
    next_inside size s =
        live_inside (length nand) slots (serials_from oldest) p size (rw p_is (s.pointed is_good k))
        (sym live_is ∙ (and_parts live (ltb t2 p.time) goes).0)

    next : Place
    next = loaded_at nand slots p.slot w.before (w.moves + 1)

    moved : eqb (w.moves + 1) 0 ≡ false
    moved = ne_eqb (w.moves + 1) 0 (λ e. omega arith)

    on : walk_at nand heads (suc k) next ≡ hop_at nand slots (serials_from oldest) t2 here k
    unfolding hop_at header_in next
    on = rw (← p_is, ← live_is, goes, moved)

    pub next_leads : (u : Place) → u ≡ loaded_at nand slots p.slot w.before (w.moves + 1) → Leads (walk_at nand heads (suc k) u) here
    unfolding next
    next_leads u e =
        ap (λ (v : Place). walked_on nand slots (serials_from oldest) t2 (walk_at nand heads (suc k) v)) e
        ∙ ap (walked_on nand slots (serials_from oldest) t2) on ∙ walk_step nand slots (serials_from oldest) t2 here k (level_is is_good)

    pub next_falls : (u : Place) → u ≡ loaded_at nand slots p.slot w.before (w.moves + 1)
        → hops_left (walk_at nand heads (suc k) u) < hops_left here
    unfolding next
    next_falls u e =
        let f = hop_falls nand slots (serials_from oldest) t2 here k in
        let l = left_level here k (level_is is_good) in
        let q : hops_left (walk_at nand heads (suc k) u) ≡ hops_left (hop_at nand slots (serials_from oldest) t2 here k) =
        ap (λ (v : Place). hops_left (walk_at nand heads (suc k) v)) e ∙ ap hops_left on in
        omega (arith, f, l, q)

    pub next_sound : length nand ≡ slots * 16384 → PlaceSound nand slots heads w → (u : Place) → u ≡ loaded_at nand slots p.slot w.before (w.moves + 1)
        → PlaceSound nand slots heads u
    unfolding header_in
    next_sound size s u e =
        rw e
        (record {
          inside = λ n. next_inside size s;
          pointed = λ g i. rw moved (good_slots slots _ i (header_facts New (page_of nand p.slot 31) slots w.before g).pointers);
          few = λ g. omega (arith, s.few is_good, (header_facts New (page_of nand p.slot 31) slots w.before g).serial_below);
        })

-- from the heads, and where all four levels lead
pub heads_sound : (nand : List ℕ) (slots current : ℕ) (heads : List Pointer) → InSlots slots heads → current < 2 ^ 32
    → PlaceSound nand slots heads (record { good = true; slot = 0; before = current; moves = 0 })
heads_sound nand slots current heads h n = record { inside = λ e. absurd (e refl); pointed = λ e. h; few = λ e. omega arith }

pub levels_done : (nand : List ℕ) (g : Log) (t2 : ℕ) (w : Place)
    → walked_on nand g.slots (serials_from g.oldest) t2 (walk_at nand g.heads 0 w)
    ≡ walked_on nand g.slots (serials_from g.oldest) t2
    (walk_at nand g.heads 4 (record { good = true; slot = 0; before = g.current; moves = 0 }))
    → walk_at nand g.heads 0 w ≡ skip_walk nand g (serials_from g.oldest) t2
unfolding skip_walk
levels_done nand g t2 w e = sym (walk_end nand g.slots (serials_from g.oldest) t2 (walk_at nand g.heads 0 w) (none w.good)) ∙ e
  where
    none : (b : Bool) → ◌≡◌ {A = ℕ} (cond b 0 0) 0
    none true = refl
    none false = refl

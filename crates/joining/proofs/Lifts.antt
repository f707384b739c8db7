-- The lifts of the first log, one by one and segment by segment: each leads to where the pass stands next. Assumes nothing.
use Rattle.std.specs.Prelude.{Some, None}
use Rattle.std.specs.Prelude.{Option as Maybe}
use mathlib.Core.Path.{◌≡◌, refl, sym, ap, ◌∙◌}
use mathlib.Core.Bool.{Bool, cond}
use mathlib.Core.List.{List, [], ◌∷◌, ◌++◌, map}
use Prim.Native.Nat.{ℕ, ◌+◌, ◌*◌, ◌≤◌, ◌<◌}
use native.Mathlib.Omega.{arith}
use lib.Dec.{ltb}
use lib.ListN.{length, length-map}
use borrow.Author.Tests.{eq-eqb, ne_eqb}
use Rattle.codec.specs.Area.{splice}
use Rattle.bitset.specs.declared.Bits.{Bits}
use Rattle.bitset.specs.Inner.Words.{Below}
use Rattle.lift.specs.Record.{member_at}
use Rattle.visit.specs.declared.Log.{Log}
use Rattle.supersets.specs.Pairs.{pair_with, joins}
use Rattle.whole_log.specs.Inner.Held.{row_at, Room}
use Rattle.joining.specs.declared.Joining.{Joining}
use Rattle.joining.specs.declared.look.Sought.{Sought}
use Rattle.joining.specs.declared.look.Taken.{Taken}
use Rattle.joining.specs.Inner.Looking.{fit_row, taken_of}
use Rattle.joining.specs.Inner.Passing.{sought_for, made_of, free_after, written_on, Standing, join_one, join_list, free_from, standing}
use Rattle.joining.specs.Inner.Passing.{ReadableFrom, taken_row, Takes, JoinsOn}

-- lists of lifts, one after the other
pub list_append : (rising : Bool) (rows : ℕ) (xs ys : List (List ℕ)) (s : Standing)
    → join_list rising rows (xs ++ ys) s ≡ join_list rising rows ys (join_list rising rows xs s)
unfolding join_list
list_append rising rows [] ys s = refl
list_append rising rows (x ∷ xs) ys s = list_append rising rows xs ys (join_one rising rows x s)

-- there is room as before
pub room_kept : (g : Log) (way : List ℕ) (sets new : List Bits) → Room g way sets → length new ≡ length sets → Room g way new
room_kept g way sets new r e = record { slots_most_lem = r.slots_most_lem; ways = r.ways; words = omega (arith, r.words) }

-- from a later segment on
pub readable_on : (nand page : List ℕ) (g : Log) (way : List ℕ) (free : List Bits) (from at : ℕ) → ReadableFrom nand page g way free from → from ≤ at → at ≤ g.slots
    → ReadableFrom nand page g way free at
readable_on nand page g way free from at r l m = record { from_most = m; each = λ i a b. r.each i (omega arith) b }

module _ (nand page : List ℕ) (g : Log) (way : List ℕ) (rising : Bool) (rows : ℕ) (a : List ℕ) where
  -- a lift of no member stands alone
  pub lift_nobody : (free : List Bits) (area : List ℕ) (j : Joining) → member_at a 0 ≡ 0 → ReadableFrom nand page g way free j.from
      → JoinsOn nand page g way rising rows (a ∷ []) free area j free area j
  unfolding join_list join_one made_of free_after written_on
  lift_nobody free area j e r =
      let z = eq-eqb (member_at a 0) 0 e in
      let k : j.count + 0 ≡ j.count = omega arith in
      record { leads = rw (z, k); readable = r; few = omega arith }

  -- another one, whose look began at the first segment with free lifts
  module _ (named : member_at a 0 ≡ 0 → ⊥) (s : Sought) (s_is : s ≡ sought_for rising a) (free new : List Bits) (from at : ℕ)
      (same : free_from nand page g way free at ≡ free_from nand page g way free from) (k : Maybe Taken)
      (takes : Takes nand page g way s free new at k) where
    left : free_from nand page g way new at ≡ free_after rising a (free_from nand page g way free from)
    unfolding free_after
    left = takes.left_is ∙ rw (ne_eqb (member_at a 0) 0 named, s_is, same)

    taken : taken_row nand page g way k ≡ taken_of rising (fit_row (sought_for rising a)) (free_from nand page g way free from)
    taken = takes.taken_is ∙ rw (s_is, same)

    made : made_of rising a (free_from nand page g way free from) ≡ pair_with joins a (taken_row nand page g way k)
    unfolding made_of
    made = rw (ne_eqb (member_at a 0) 0 named) (ap (pair_with joins a) (sym taken))

    -- none fits
    pub lift_alone : (area : List ℕ) (count : ℕ) → k ≡ None
        → JoinsOn nand page g way rising rows (a ∷ []) free area (record { from = from; count = count }) new area (record { from = at; count = count })
    unfolding join_list join_one written_on
    lift_alone area count e =
        let m : made_of rising a (free_from nand page g way free from) ≡ [] = made ∙ rw e in
        let c : count + 0 ≡ count = omega arith in
        record { leads = rw (m, c, left); readable = takes.readable; few = omega arith }

    -- one is joined
    pub lift_joined : (area new_area : List ℕ) (count : ℕ) (t : Taken) → k ≡ Some t
        → new_area ≡ cond (ltb count rows) (splice area (count * 64) (a ++ row_at nand page g way t.segment t.at)) area
        → JoinsOn nand page g way rising rows (a ∷ []) free area (record { from = from; count = count }) new new_area (record { from = at; count = count + 1 })
    unfolding join_list join_one written_on
    lift_joined area new_area count t e w =
        let m : made_of rising a (free_from nand page g way free from) ≡ (a, row_at nand page g way t.segment t.at) ∷ [] = made ∙ rw e in
        record { leads = rw (m, left, w); readable = takes.readable; few = omega arith }

-- ---- the lifts of one set

module _ (nand page : List ℕ) (g : Log) (way : List ℕ) (rising : Bool) (rows : ℕ) (row : ℕ → List ℕ) (count : ℕ) where
  abbrev goes : List ℕ → Standing → Standing
  goes ps s = join_list rising rows (map row ps) s

  -- those of the places left are to do
  pub record SetGoes (free₀ : List Bits) (area₀ : List ℕ) (j₀ : Joining) (all : List ℕ) (free : List Bits) (area : List ℕ) (j : Joining) (left : List ℕ) : Type 0 where
    pub leads : goes left (standing nand page g way free j area) ≡ goes all (standing nand page g way free₀ j₀ area₀)
    pub readable : ReadableFrom nand page g way free j.from
    pub below : Below count left
    pub few : j.count + length left ≤ j₀.count + length all
    pub area_long : length area ≡ length area₀
    pub free_long : length free ≡ length free₀

  module _ (free₀ : List Bits) (area₀ : List ℕ) (j₀ : Joining) (all : List ℕ) (free : List Bits) (area : List ℕ) (j : Joining) (left : List ℕ)
      (i : SetGoes free₀ area₀ j₀ all free area j left) where
    pub set_over : left ≡ [] → JoinsOn nand page g way rising rows (map row all) free₀ area₀ j₀ free area j
    unfolding join_list
    set_over z =
        let l = length-map all row in
        record { leads = rw z at i.leads; readable = i.readable; few = omega (arith, i.few) }

    module _ (p : ℕ) (rest : List ℕ) (m : left ≡ p ∷ rest) where
      pub set_below : p < count
      set_below = (rw m at i.below).0

      pub set_more : (new_free : List Bits) (new_area : List ℕ) (next : Joining) → length new_area ≡ length area → length new_free ≡ length free
          → JoinsOn nand page g way rising rows (row p ∷ []) free area j new_free new_area next
          → SetGoes free₀ area₀ j₀ all new_free new_area next rest
      unfolding join_list
      set_more new_free new_area next la lf o =
          record {
            leads = ap (goes rest) o.leads ∙ rw m at i.leads;
            readable = o.readable;
            below = (rw m at i.below).1;
            few = omega (arith, o.few, i.few, ap (λ (ps : List ℕ). length ps) m);
            area_long = la ∙ i.area_long;
            free_long = lf ∙ i.free_long;
          }

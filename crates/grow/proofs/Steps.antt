-- A step of the descent: the plan from here is the plan from the root. Assumes nothing.
use Prim.Native.Nat.{ℕ, suc, ◌-◌, ◌≤◌, ◌<◌}
use mathlib.Core.Path.{◌≡◌, sym, subst}
use mathlib.Core.Bool.{true, false, cond}
use mathlib.Core.Option.{none, some}
use mathlib.Core.List.{List}
use native.Mathlib.Omega.{arith}
use borrow.Author.Tests.{eq-eqb, ne_eqb}
use Rattle.tree.specs.Rules.{next}
use Rattle.tree.specs.Reading.{bucket_at, Node, node_in, kids_of, node_good}
use Rattle.tree.specs.Plan as Tree
use Rattle.tree.specs.Plan.{damaged, no_room, new_root, plan_here, plan_from, or_no_room, plan_on}
use Rattle.tree.proofs.Clears.{next_below, good_kids, Within, plan_within}
use Rattle.grow.specs.Inner.Meaning.{meaning, Fitting}
use Rattle.grow.specs.declared.Plan.{Plan}
use Rattle.grow.specs.declared.Plan.TheVariants.{Damage, Full, Root, Entry, Child, Split}

module _ (area : List ℕ) (buckets count : ℕ) (loads : List ℕ) (l : ℕ) (w : Tree.Plan) (steps b : ℕ)
    (leads : or_no_room buckets (plan_from area buckets count loads l steps b) ≡ w) where
  pub step_end : steps ≤ 0 → damaged ≡ w
  unfolding plan_from
  step_end h = let z : steps ≡ 0 = omega arith in rw z at leads

  module _ (more : 0 < steps) where
    abbrev node : Node
    node = node_in (bucket_at area b)

    -- this bucket's part in the plan
    opened : or_no_room buckets
        (cond (node_good node b buckets count)
        (elim (next (kids_of node) l) [
          | none ↦ plan_here node b loads l (kids_of node)
          | some c ↦ plan_from area buckets count loads l (steps - 1) c
        ])
        damaged)
        ≡ w
    unfolding plan_from
    opened = let e : steps ≡ suc (steps - 1) = omega arith in rw e at leads

    pub step_damage : node_good node b buckets count ≡ false → damaged ≡ w
    step_damage e = rw e at opened

    module _ (good : node_good node b buckets count ≡ true) where
      pub step_here : next (kids_of node) l ≡ none → or_no_room buckets (plan_here node b loads l (kids_of node)) ≡ w
      step_here e = rw (good, e) at opened

      pub step_down : (c : ℕ) → next (kids_of node) l ≡ some c
          → or_no_room buckets (plan_from area buckets count loads l (steps - 1) c) ≡ w
      step_down c e = rw (good, e) at opened

      pub step_below : (c : ℕ) → next (kids_of node) l ≡ some c → c < buckets
      step_below c e = next_below b buckets node.x node.y (kids_of node) l c (good_kids node b buckets count good) e

-- ---- the whole plan

module _ (area : List ℕ) (buckets count : ℕ) (loads : List ℕ) (l : ℕ) where
  pub plan_none : count ≡ 0 → new_root ≡ plan_on area buckets count loads l
  unfolding plan_on
  plan_none e = rw (eq-eqb count 0 e)

  pub plan_full : (count ≡ 0 → ⊥) → count ≡ 320 → no_room ≡ plan_on area buckets count loads l
  unfolding plan_on
  plan_full h e = rw (ne_eqb count 0 h, eq-eqb count 320 e)

  pub plan_open : (count ≡ 0 → ⊥) → (count ≡ 320 → ⊥)
      → or_no_room buckets (plan_from area buckets count loads l buckets 0) ≡ plan_on area buckets count loads l
  unfolding plan_on
  plan_open h k = rw (ne_eqb count 0 h, ne_eqb count 320 k)

  -- the numbers of a plan are in their ranges
  pub plan_fits : (p : Plan) → meaning p ≡ plan_on area buckets count loads l → Fitting buckets p
  plan_fits p e = go p (subst (Within 36 buckets) (sym e) (plan_within area buckets count loads l))
    where
      go : (p : Plan) → Within 36 buckets (meaning p) → Fitting buckets p
      go Damage w = tt
      go Full w = tt
      go Root w = tt
      go (Entry b i) w = w
      go (Child b side x y) w = (w.0, w.1)
      go (Split b m side x y) w = (w.0, w.1)

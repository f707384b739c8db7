-- A bucket on the path: the child that the load goes to, and the plan where it has none, by the same tests as the rules'.
-- Assumes nothing.
use Prim.Native.Nat.{ℕ, ◌≤◌, ◌<◌}
use mathlib.Core.Path.{◌≡◌, refl, sym, ap, ◌∙◌}
use mathlib.Core.Bool.{Bool, true, false, cond, ◌&&◌}
use mathlib.Core.Option.{none, some}
use Rattle.std.specs.Prelude.{Some}
use mathlib.Core.List.{List}
use native.Mathlib.Omega.{arith}
use lib.Dec.{leb, ltb, eqb}
use borrow.Author.Tests.{lt-ltb, le-ltb, le-leb, lt-leb, leb-true, leb-false, eq-eqb, ne_eqb}
use Rattle.codec.proofs.Truth.{and_parts}
use Rattle.split.specs.Split.{midpoint}
use Rattle.tree.specs.Rules.{next}
use Rattle.tree.specs.Bytes.{no_mid}
use Rattle.tree.specs.Reading as Reading
use Rattle.tree.specs.Reading.{child_at, kids_of, node_in, node_good}
use Rattle.tree.specs.Plan.{no_room, into_bucket, new_child, split_bucket, plan_here, or_no_room}
use Rattle.tree.specs.Inner.Seen.{seen_node}
use Rattle.tree.specs.declared.Node.{Node}
use Rattle.tree.proofs.Looked.{sound, seen_some}
use Rattle.grow.specs.declared.Side.{Side}
use Rattle.grow.specs.declared.Side.TheVariants.{Left, Right}
use Rattle.grow.specs.Inner.Meaning.{byte_of}
use Rattle.grow.specs.Inner.Sight.{Sees}

-- what was read of the bucket in these bytes, which has no damage
module _ (s : List ℕ) (b buckets count : ℕ) (n : Node) (is : Some n ≡ seen_node s b buckets count) where
  pub good_is : node_good (node_in s) b buckets count ≡ true
  good_is = (seen_some s b buckets count n is).0

  pub sees : Sees n (node_in s)
  sees =
      let e = (seen_some s b buckets count n is).1 in
      record {
        x = ap (λ (k : Node). k.x) e;
        y = ap (λ (k : Node). k.y) e;
        mid = ap (λ (k : Node). k.mid) e;
        left = ap (λ (k : Node). k.left) e;
        right = ap (λ (k : Node). k.right) e;
        used = ap (λ (k : Node). k.used) e;
      }

  pub good_range : (n.x < n.y) × (n.y ≤ 150001)
  good_range =
      let v = sees in
      let d = sound (node_in s) b buckets count good_is in
      (omega (arith, v.x, v.y, d.wide), omega (arith, v.y, d.top))

-- the side of the load l at a mid c, and the child's range there
pub record Sided (n : Node) (l c x y : ℕ) (side : Side) : Type 0 where
  pub byte : byte_of side ≡ cond (leb l c) 12 13
  pub low : x ≡ cond (leb l c) n.x c
  pub high : y ≡ cond (leb l c) c n.y

pub sided : (n : Node) (l c : ℕ) (p : Side × ℕ × ℕ) → (l ≤ c → p ≡ (Left, n.x, c)) → (c < l → p ≡ (Right, c, n.y))
    → Sided n l c p.1 p.2 p.0
sided n l c p left right = go (leb l c) refl
  where
    go : (q : Bool) → leb l c ≡ q → Sided n l c p.1 p.2 p.0
    go true e = rw (left (leb-true l c e)) (record { byte = rw e refl; low = rw e refl; high = rw e refl })
    go false e = rw (right (leb-false l c e)) (record { byte = rw e refl; low = rw e refl; high = rw e refl })

module _ (n : Node) (m : Reading.Node) (s : Sees n m) (l : ℕ) where
  -- ---- the child

  pub child_whole : n.mid ≡ no_mid → next (kids_of m) l ≡ none
  unfolding kids_of
  child_whole e = rw (eq-eqb m.mid no_mid (sym s.mid ∙ e))

  child_left : (n.mid ≡ no_mid → ⊥) → l ≤ n.mid → next (kids_of m) l ≡ child_at n.left
  unfolding kids_of
  child_left h k = rw (← s.mid, ne_eqb n.mid no_mid h, le-leb l n.mid k, s.left)

  child_right : (n.mid ≡ no_mid → ⊥) → n.mid < l → next (kids_of m) l ≡ child_at n.right
  unfolding kids_of
  child_right h k = rw (← s.mid, ne_eqb n.mid no_mid h, lt-leb l n.mid k, s.right)

  -- of a split bucket the child on the load's side
  module _ (h : n.mid ≡ no_mid → ⊥) (c : ℕ) (left : l ≤ n.mid → c ≡ n.left) (right : n.mid < l → c ≡ n.right) where
    child_there : next (kids_of m) l ≡ child_at c
    child_there = go (leb l n.mid) refl
      where
        go : (q : Bool) → leb l n.mid ≡ q → next (kids_of m) l ≡ child_at c
        go true e = let k = leb-true l n.mid e in rw (left k) (child_left h k)
        go false e = let k = leb-false l n.mid e in rw (right k) (child_right h k)

    pub child_none : c ≡ 255 → next (kids_of m) l ≡ none
    child_none e = child_there ∙ rw (eq-eqb c 255 e)

    pub child_some : (c ≡ 255 → ⊥) → next (kids_of m) l ≡ some c
    child_some e = child_there ∙ rw (ne_eqb c 255 e)

  -- ---- the plan

  module _ (b buckets : ℕ) (loads : List ℕ) where
    pub here_entry : (eqb n.mid no_mid && ltb n.used 13) ≡ true
        → into_bucket b n.used ≡ or_no_room buckets (plan_here m b loads l (kids_of m))
    unfolding kids_of
    here_entry e =
        let t = and_parts (eqb n.mid no_mid) (ltb n.used 13) e in
        rw (← s.mid, t.0, ← s.used, t.1)

    pub here_split : (eqb n.mid no_mid && ltb n.used 13) ≡ false → buckets < 36 → eqb n.mid no_mid ≡ true
        → (c x y : ℕ) (side : Side) → c ≡ midpoint n.x n.y loads → Sided n l c x y side
        → split_bucket b c (byte_of side) x y ≡ or_no_room buckets (plan_here m b loads l (kids_of m))
    unfolding kids_of
    here_split e h w c x y side ec r =
        let u : ltb n.used 13 ≡ false = rw w at e in
        rw (r.byte, r.low, r.high, ec, ← s.mid, w, ← s.used, u, ← s.x, ← s.y, lt-ltb buckets 36 h)

    pub here_child : buckets < 36 → eqb n.mid no_mid ≡ false
        → (c x y : ℕ) (side : Side) → c ≡ n.mid → Sided n l c x y side
        → new_child b (byte_of side) x y ≡ or_no_room buckets (plan_here m b loads l (kids_of m))
    unfolding kids_of
    here_child h w c x y side ec r = rw (r.byte, r.low, r.high, ec, ← s.mid, w, ← s.x, ← s.y, lt-ltb buckets 36 h)

    pub here_full : (eqb n.mid no_mid && ltb n.used 13) ≡ false → 36 ≤ buckets
        → no_room ≡ or_no_room buckets (plan_here m b loads l (kids_of m))
    unfolding kids_of
    here_full e h = go (eqb n.mid no_mid) refl e
      where
        go : (w : Bool) → eqb n.mid no_mid ≡ w → (w && ltb n.used 13) ≡ false
            → no_room ≡ or_no_room buckets (plan_here m b loads l (kids_of m))
        go true w u = rw (← s.mid, w, ← s.used, u, le-ltb buckets 36 h)
        go false w u = rw (← s.mid, w, le-ltb buckets 36 h)

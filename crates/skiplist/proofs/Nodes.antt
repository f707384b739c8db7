-- A segment's node and the heads after it, level by level. Assumes nothing.
use mathlib.Core.Path.{◌≡◌, ap, ◌∙◌}
use mathlib.Core.List.{List, ◌++◌}
use Prim.Native.Nat.{ℕ, ◌+◌, ◌-◌, ◌≤◌, ◌<◌}
use native.Mathlib.Omega.{arith}
use lib.ListN.{length, take, drop, get_or, replicate, length-append, length-replicate, length-drop, get_or-replicate, get_or-append}
use lib.Seq.{length-take-le, get_or-take, get_or-drop, get_or-append-add}
use Rattle.skiplist.specs.declared.Pointer.{Pointer}
use Rattle.skiplist.specs.Skip.{none, node_of, heads_after}

-- place k behind a list of n places
behind : (a b : List Pointer) (n k : ℕ) → length a ≡ n → n ≤ k → get_or (a ++ b) k none ≡ get_or b (k - n) none
behind a b n k l h =
    let e : k ≡ length a + (k - n) = omega arith in
    ap (λ (i : ℕ). get_or (a ++ b) i none) e ∙ get_or-append-add a b (k - n) none

module _ (heads : List Pointer) (four : length heads ≡ 4) (level : ℕ) (few : level ≤ 4) where
  front : length (take level heads) ≡ level
  front = length-take-le level heads (omega arith)

  pub length_node : length (node_of heads level) ≡ 4
  unfolding node_of
  length_node = simp (length-append, length-replicate, front) (omega arith)

  -- a node copies the heads below its level, the others are none
  pub node_below : (k : ℕ) → k < level → get_or (node_of heads level) k none ≡ get_or heads k none
  unfolding node_of
  node_below k h =
      get_or-append (take level heads) (replicate (4 - level) none) none k (omega (arith, front)) ∙ get_or-take level heads k none h

  pub node_above : (k : ℕ) → level ≤ k → k < 4 → get_or (node_of heads level) k none ≡ none
  unfolding node_of
  node_above k h l = behind (take level heads) (replicate (4 - level) none) level k front h ∙ get_or-replicate (4 - level) (k - level) none none (omega arith)

  module _ (p : Pointer) where
    pub length_heads : length (heads_after heads level p) ≡ 4
    unfolding heads_after
    length_heads = simp (length-append, length-replicate, length-drop) (omega arith)

    -- the heads below its level point to the segment, the others stay
    pub heads_below : (k : ℕ) → k < level → get_or (heads_after heads level p) k none ≡ p
    unfolding heads_after
    heads_below k h =
        get_or-append (replicate level p) (drop level heads) none k (omega (arith, length-replicate level p)) ∙ get_or-replicate level k p none h

    pub heads_above : (k : ℕ) → level ≤ k → get_or (heads_after heads level p) k none ≡ get_or heads k none
    unfolding heads_after
    heads_above k h =
        let e : level + (k - level) ≡ k = omega arith in
        behind (replicate level p) (drop level heads) level k (length-replicate level p) h ∙ get_or-drop level heads (k - level) none
        ∙ ap (λ (i : ℕ). get_or heads i none) e

-- A bucket that is not reached is not visited, and only the buckets still to come have to be told apart. Assumes nothing.
use Prim.Native.Nat.{ℕ, zero, suc, ◌+◌, ◌≤◌, ◌<◌}
use mathlib.Core.Path.{◌≡◌, refl, ap, ◌∙◌}
use mathlib.Core.Bool.{Bool, true, false, cond}
use mathlib.Core.Option.{Option, none, some}
use mathlib.Core.List.{List, ◌∷◌}
use native.Mathlib.Omega.{arith}
use lib.Dec.{leb, ltb, eqb}
use Rattle.tree.specs.Rules.{Kids, whole, split}
use Rattle.tree.specs.Reading.{kids_of}
use Rattle.tree.specs.Search.{reached_with, reached}
use Rattle.tree.specs.Sweep.{node_at, visited_from}

-- whether bucket j is reached goes by whether it was before
pub reached_same : (k1 k2 : ℕ) (kids : Kids) (r s : ℕ → Bool) (j : ℕ) → r j ≡ s j → reached k1 k2 kids r j ≡ reached k1 k2 kids s j
reached_same k1 k2 whole r s j e = e
reached_same k1 k2 (split m left right) r s j e =
    with_same (ltb m k2) right (reached_with (leb k1 m) left r) (reached_with (leb k1 m) left s) (with_same (leb k1 m) left r s e)
  where
    with_same : (taken : Bool) (c : Option ℕ) (p q : ℕ → Bool) → p j ≡ q j → reached_with taken c p j ≡ reached_with taken c q j
    with_same false c p q f = f
    with_same true none p q f = f
    with_same true (some c) p q f = ap (cond (eqb j c) true) f

module _ (area : List ℕ) (k1 k2 : ℕ) where
  abbrev from : ℕ → ℕ → (ℕ → Bool) → List ℕ
  from n b r = visited_from area k1 k2 n b r

  skip_one : (n b : ℕ) (r : ℕ → Bool) → r b ≡ false → from (suc n) b r ≡ from n (suc b) r
  unfolding visited_from
  skip_one n b r e = rw e

  -- d buckets that are not reached
  pub skip : (d n b : ℕ) (r : ℕ → Bool) → ((j : ℕ) → b ≤ j → j < b + d → r j ≡ false) → from (d + n) b r ≡ from n (b + d) r
  skip zero n b r h =
      let e : zero + n ≡ n = omega arith in
      let f : b + zero ≡ b = omega arith in
      rw (e, f)
  skip (suc d) n b r h =
      let e : suc d + n ≡ suc (d + n) = omega arith in
      let f : b + suc d ≡ suc b + d = omega arith in
      rw (e, f) (skip_one (d + n) b r (h b (omega arith) (omega arith)) ∙ skip d n (suc b) r (λ j l m. h j (omega arith) (omega arith)))

  -- the first of them is reached
  pub visit_first : (n b : ℕ) (r : ℕ → Bool) → r b ≡ true
      → from (suc n) b r ≡ b ∷ from n (suc b) (reached k1 k2 (kids_of (node_at area b)) r)
  unfolding visited_from
  visit_first n b r e = rw e

  -- the set matters from b on
  pub same_from : (n b : ℕ) (r s : ℕ → Bool) → ((j : ℕ) → b ≤ j → r j ≡ s j) → from n b r ≡ from n b s
  unfolding visited_from
  same_from zero b r s h = refl
  same_from (suc n) b r s h = rw (h b (omega arith)) (go (s b) (λ p q k. same_from n (suc b) p q k))
    where
      go : (t : Bool) → ((p q : ℕ → Bool) → ((j : ℕ) → suc b ≤ j → p j ≡ q j) → from n (suc b) p ≡ from n (suc b) q)
          → cond t (b ∷ from n (suc b) (reached k1 k2 (kids_of (node_at area b)) r)) (from n (suc b) r)
          ≡ cond t (b ∷ from n (suc b) (reached k1 k2 (kids_of (node_at area b)) s)) (from n (suc b) s)
      go true next =
          ap (λ (l : List ℕ). b ∷ l)
          (next _ _ (λ j l. reached_same k1 k2 (kids_of (node_at area b)) r s j (h j (omega arith))))
      go false next = next r s (λ j l. h j (omega arith))

-- Each position stands once in the bucket that is its home, with its load, and in no other bucket. Assumes nothing.
use Prim.Native.Nat.{ℕ, zero, suc, ◌+◌, ◌≤◌, ◌<◌}
use mathlib.Core.Path.{◌≡◌, refl, ◌∙◌, ap}
use mathlib.Core.Bool.{Bool, true, false, cond}
use mathlib.Core.Logic.{◌⊎◌, inl, inr}
use mathlib.Core.Option.{some}
use mathlib.Core.List.Memᴰ
use mathlib.Core.List.{List, [], ◌∷◌, Memᴰ}
use native.Mathlib.Omega.{arith}
use lib.Dec.{eqb}
use lib.ListN.{length, get_or}
use borrow.Author.Tests.{eqb-true, eq-eqb, ne_eqb}
use Rattle.tree.specs.Rules.{Entry, Bucket, at, tree_of}
use Rattle.tree.specs.Inner.Loads.{Loads}
use Rattle.tree.specs.Search.{within, hits}
use Rattle.tree.specs.Inner.Find.{times}
use Rattle.tree.proofs.Held.{Way, start, down, Housed, Both, home, Inv}
use Rattle.tree.proofs.Descent.{step}
use Rattle.tree.proofs.Built.{built_inv}

pub both_at : (P : ℕ → ℕ → Type 0) (hs ls : List ℕ) → Both P hs ls → (k : ℕ) → k < length ls → P (get_or hs k 0) (get_or ls k 0)
both_at P [] [] b k h = absurd (omega arith)
both_at P [] (l ∷ ls) b k h = absurd b
both_at P (g ∷ hs) [] b k h = absurd b
both_at P (g ∷ hs) (l ∷ ls) b zero h = b.0
both_at P (g ∷ hs) (l ∷ ls) b (suc k) h = both_at P hs ls b.1 k (omega arith)

-- ---- an entry of a bucket

-- an entry of home i is load k with position p + k, and its home is i
record Home (i p : ℕ) (hs ls : List ℕ) (e : Entry) : Type 0 where
  k : ℕ
  below : k < length ls
  position : e.position ≡ p + k
  load : e.load ≡ get_or ls k 0
  house : get_or hs k 0 ≡ i

home_of : (i p : ℕ) (hs ls : List ℕ) (e : Entry) → Memᴰ e (home i p hs ls) → Home i p hs ls e
home_of i p [] ls e m = absurd (Memᴰ.not-nil m)
home_of i p (h ∷ hs) [] e m = absurd (Memᴰ.not-nil m)
home_of i p (h ∷ hs) (l ∷ ls) e m = go (eqb h i) refl m (home_of i (suc p) hs ls e)
  where
    later : Home i (suc p) hs ls e → Home i p (h ∷ hs) (l ∷ ls) e
    later q =
        record {
          k = suc q.k;
          below = omega (arith, q.below);
          position = omega (arith, q.position);
          load = q.load;
          house = q.house;
        }

    first : eqb h i ≡ true → (e ≡ record { load = l; position = p }) ⊎ Memᴰ e (home i (suc p) hs ls)
        → (Memᴰ e (home i (suc p) hs ls) → Home i (suc p) hs ls e) → Home i p (h ∷ hs) (l ∷ ls) e
    first f (inl q) k =
        record {
          k = 0;
          below = omega arith;
          position = ap (λ (z : Entry). z.position) q ∙ omega arith;
          load = ap (λ (z : Entry). z.load) q;
          house = eqb-true h i f;
        }
    first f (inr n) k = later (k n)

    go : (b : Bool) → eqb h i ≡ b
        → Memᴰ e (cond b (record { load = l; position = p } ∷ home i (suc p) hs ls) (home i (suc p) hs ls))
        → (Memᴰ e (home i (suc p) hs ls) → Home i (suc p) hs ls e) → Home i p (h ∷ hs) (l ∷ ls) e
    go true f n k = first f (Memᴰ.cases_cons n) k
    go false f n k = later (k n)

-- an entry of a built tree: its position is that of a load, which is its load and in its bucket's range
pub record Placed (ls : List ℕ) (b : Bucket) (e : Entry) : Type 0 where
  pub below : e.position < length ls
  pub load : e.load ≡ get_or ls e.position 0
  pub low : b.x < e.load
  pub high : e.load ≤ b.y

record In (b : Bucket) (l : ℕ) : Type 0 where
  low : b.x < l
  high : l ≤ b.y

module _ (ls hs : List ℕ) (t : List Bucket) (v : Inv ls hs t) where
  way_in : (l : ℕ) → 0 < l → l ≤ 150001 → {i : ℕ} → Way t l i → In (at t i) l
  way_in l p q start = record { low = omega (arith, v.low); high = omega (arith, v.high) }
  way_in l p q (down {i} {c} w e) =
      let h = way_in l p q w in
      let s = step t i l _ _ (at t i).kids c (v.good i).parts e h.low h.high in
      record { low = s.low; high = s.high }

  pub placed : (i : ℕ) (e : Entry) → Memᴰ e (at t i).entries → Placed ls (at t i) e
  placed i e m =
      let g = home_of i 0 hs ls e (rw (v.held i) at m) in
      let u = both_at (Housed t) hs ls v.housed g.k g.below in
      let k : g.k ≡ e.position = omega (arith, g.position) in
      let w : In (at t i) e.load = rw g.load (way_in (get_or ls g.k 0) u.low u.high (rw g.house at u.way)) in
      record { below = omega (arith, g.below); load = rw k at g.load; low = w.low; high = w.high }

pub built_placed : (ls : List ℕ) → Loads ls → (t : List Bucket) → tree_of ls ≡ some t → (i : ℕ) (e : Entry)
    → Memᴰ e (at t i).entries → Placed ls (at t i) e
built_placed ls ok t e = let v = built_inv ls ok t e in placed ls v.0 t v.1

-- ---- how often a position is hit

module _ (k1 k2 p : ℕ) where
  times_first : (b : Bool) (e : Entry) (es : List Entry)
      → times p (hits k1 k2 (cond b (e ∷ es) es))
      ≡ cond b (cond (within k1 k2 e.load) (cond (eqb e.position p) 1 0) 0) 0 + times p (hits k1 k2 es)
  unfolding times hits
  times_first true e es = go (within k1 k2 e.load)
    where
      go : (b : Bool) → times p (cond b (e.position ∷ hits k1 k2 es) (hits k1 k2 es))
          ≡ cond b (cond (eqb e.position p) 1 0) 0 + times p (hits k1 k2 es)
      go true = refl
      go false = omega arith
  times_first false e es = omega arith

  cond_zero : (b : Bool) (n : ℕ) → n ≡ 0 → cond b n 0 ≡ 0
  cond_zero true n e = e
  cond_zero false n e = refl

  -- a position that none of the loads has
  times_absent : (i q : ℕ) (hs ls : List ℕ) → ((k : ℕ) → k < length ls → q + k ≡ p → ⊥)
      → times p (hits k1 k2 (home i q hs ls)) ≡ 0
  unfolding times hits
  times_absent i q [] ls f = refl
  times_absent i q (h ∷ hs) [] f = refl
  times_absent i q (h ∷ hs) (l ∷ ls) f =
      let z : times p (hits k1 k2 (home i (suc q) hs ls)) ≡ 0 =
      times_absent i (suc q) hs ls (λ k b e. f (suc k) (omega arith) (omega arith)) in
      let n : eqb q p ≡ false = ne_eqb q p (λ e. f 0 (omega arith) (omega arith)) in
      times_first (eqb h i) (record { load = l; position = q }) (home i (suc q) hs ls)
      ∙ rw (n, cond_zero (within k1 k2 l) 0 refl, cond_zero (eqb h i) 0 refl, z)

  times_home : (P : ℕ → ℕ → Type 0) (i q : ℕ) (hs ls : List ℕ) → Both P hs ls → (k : ℕ) → p ≡ q + k → k < length ls
      → times p (hits k1 k2 (home i q hs ls)) ≡ cond (eqb (get_or hs k 0) i) (cond (within k1 k2 (get_or ls k 0)) 1 0) 0
  times_home P i q [] [] b k e h = absurd (omega arith)
  times_home P i q [] (l ∷ ls) b k e h = absurd b
  times_home P i q (g ∷ hs) [] b k e h = absurd b
  times_home P i q (g ∷ hs) (l ∷ ls) b zero e h =
      let z : times p (hits k1 k2 (home i (suc q) hs ls)) ≡ 0 = times_absent i (suc q) hs ls (λ k b d. omega arith) in
      let n : eqb q p ≡ true = eq-eqb q p (omega arith) in
      times_first (eqb g i) (record { load = l; position = q }) (home i (suc q) hs ls) ∙ rw (n, z) (omega arith)
  times_home P i q (g ∷ hs) (l ∷ ls) b (suc k) e h =
      let z = times_home P i (suc q) hs ls b.1 k (omega arith) (omega arith) in
      let n : eqb q p ≡ false = ne_eqb q p (omega arith) in
      times_first (eqb g i) (record { load = l; position = q }) (home i (suc q) hs ls)
      ∙ rw (n, cond_zero (within k1 k2 l) 0 refl, cond_zero (eqb g i) 0 refl, z) (omega arith)

  module _ (ls hs : List ℕ) (t : List Bucket) (v : Inv ls hs t) where
    -- in the buckets of a tree: once in its home if its load is in the range, and in no other bucket
    pub times_bucket : p < length ls → (i : ℕ)
        → times p (hits k1 k2 (at t i).entries) ≡ cond (eqb (get_or hs p 0) i) (cond (within k1 k2 (get_or ls p 0)) 1 0) 0
    times_bucket h i = rw (v.held i) (times_home (Housed t) i 0 hs ls v.housed p (omega arith) h)

    pub times_past : length ls ≤ p → (i : ℕ) → times p (hits k1 k2 (at t i).entries) ≡ 0
    times_past h i = rw (v.held i) (times_absent i 0 hs ls (λ k b e. omega arith))

-- A descent ends where the load has no child to go to, in a bucket whose range holds the load; a tree that has grown keeps
-- its ways. Assumes nothing.
use Prim.Native.Nat.{ℕ, zero, suc, ◌+◌, ◌≤◌, ◌<◌}
use mathlib.Core.Path.{◌≡◌, refl, ◌∙◌, subst}
use mathlib.Core.Bool.{Bool, true, false}
use mathlib.Core.Option.{Option, none, some}
use mathlib.Core.List.{List, [], ◌∷◌, ◌++◌}
use native.Mathlib.Omega.{arith}
use lib.Dec.{leb, ltb}
use lib.ListN.{length, set, length-append, length-set, get_or-append, get_or-eq_default}
use lib.Seq.{get_or-set_same, get_or-set_other, get_or-append_seam, lt-length-set}
use borrow.Author.Tests.{ltb-true, ltb-false, leb-true, leb-false}
use Rattle.tree.specs.Rules.{Bucket, Kids, whole, split, root, at, next, descend}
use Rattle.tree.proofs.Held.{Way, start, down, Child, Parts, Good}

-- two ways for a test
pub if : {P : Type 0} (b : Bool) → (b ≡ true → P) → (b ≡ false → P) → P
if true f g = f refl
if false f g = g refl

pub none_some : {A P : Type 0} {c : A} → none ≡ some c → P
none_some e = let z : ◌≡◌ {A = ℕ} 0 1 = cc in absurd (omega arith)

-- the buckets of a tree after a store and a new bucket
module _ (t : List Bucket) (i : ℕ) (b n : Bucket) (h : i < length t) where
  pub at_same : at (set t i b ++ (n ∷ [])) i ≡ b
  at_same =
      rw (get_or-append (set t i b) (n ∷ []) (root []) i (lt-length-set t i b h)) (get_or-set_same t i b (root []) h)

  pub at_new : at (set t i b ++ (n ∷ [])) (length t) ≡ n
  at_new = rw (length-set t i b) at (get_or-append_seam (set t i b) n [] (root []))

  pub at_else : (j : ℕ) → (j ≡ i → ⊥) → (j ≡ length t → ⊥) → at (set t i b ++ (n ∷ [])) j ≡ at t j
  at_else j p q =
      if (ltb j (length t))
      (λ e. let k : j < length t = omega (arith, ltb-true) in
      rw (get_or-append (set t i b) (n ∷ []) (root []) j (lt-length-set t i b k)) (get_or-set_other t i j b (root []) p))
      (λ e. let k : length t ≤ j = omega (arith, ltb-false) in
      rw (get_or-eq_default t (root []) k)
      (get_or-eq_default (set t i b ++ (n ∷ [])) (root []) (simp (length-append, length-set) (omega arith))))

-- a tree that has grown: the ranges stay, and so does each step of a descent
pub record Ext (t t' : List Bucket) : Type 0 where
  pub longer : length t ≤ length t'
  pub xs : (i : ℕ) → i < length t → (at t' i).x ≡ (at t i).x
  pub ys : (i : ℕ) → i < length t → (at t' i).y ≡ (at t i).y
  pub grows : (i l c : ℕ) → next (at t i).kids l ≡ some c → next (at t' i).kids l ≡ some c

module _ {t t' : List Bucket} (x : Ext t t') where
  pub way_ext : {l i : ℕ} → Way t l i → Way t' l i
  way_ext start = start
  way_ext (down {i} {c} w e) = down (way_ext w) (x.grows i _ c e)

  child_ext : (i u v : ℕ) (a : Option ℕ) → Child t i u v a → Child t' i u v a
  child_ext i u v none h = tt
  child_ext i u v (some c) h =
      record {
        above = h.above;
        there = omega (arith, x.longer);
        from = x.xs c h.there ∙ h.from;
        to = x.ys c h.there ∙ h.to;
      }

  pub parts_ext : (i u v : ℕ) (k : Kids) → Parts t i u v k → Parts t' i u v k
  parts_ext i u v whole h = tt
  parts_ext i u v (split m a c) h =
      record { over = h.over; under = h.under; left = child_ext i u m a h.left; right = child_ext i m v c h.right }

-- one step of a descent
pub record Step (t : List Bucket) (i l c : ℕ) : Type 0 where
  pub above : i < c
  pub there : c < length t
  pub low : (at t c).x < l
  pub high : l ≤ (at t c).y

module _ (t : List Bucket) (i l : ℕ) where
  child_step : (u v : ℕ) (a : Option ℕ) (c : ℕ) → Child t i u v a → a ≡ some c → u < l → l ≤ v → Step t i l c
  child_step u v none c h e p q = none_some e
  child_step u v (some d) c h e p q =
      let e' : d ≡ c = cc in
      subst (Step t i l) e' (record { above = h.above; there = h.there; low = omega arith; high = omega arith })

  pub step : (x y : ℕ) (k : Kids) (c : ℕ) → Parts t i x y k → next k l ≡ some c → x < l → l ≤ y → Step t i l c
  step x y whole c h e p q = none_some e
  step x y (split m a b) c h e p q =
      if (leb l m)
      (λ f. child_step x m a c h.left (rw f at e) p (omega (arith, leb-true)))
      (λ f. child_step m y b c h.right (rw f at e) (omega (arith, leb-false)) q)

-- the end of a descent
pub record End (t : List Bucket) (l i : ℕ) : Type 0 where
  pub there : i < length t
  pub way : Way t l i
  pub low : (at t i).x < l
  pub high : l ≤ (at t i).y
  pub stop : next (at t i).kids l ≡ none

module _ (t : List Bucket) (good : (i : ℕ) → Good t i (at t i)) (l : ℕ) where
  pub descend_ends : (f i : ℕ) → length t ≤ i + f → i < length t → Way t l i → (at t i).x < l → l ≤ (at t i).y
      → End t l (descend f t l i)
  unfolding descend
  descend_ends zero i r p w lo hi = absurd (omega arith)
  descend_ends (suc f) i r p w lo hi = go (next (at t i).kids l) refl (λ c. descend_ends f c)
    where
      go : (o : Option ℕ) → next (at t i).kids l ≡ o
          → ((c : ℕ) → length t ≤ c + f → c < length t → Way t l c → (at t c).x < l → l ≤ (at t c).y → End t l (descend f t l c))
          → End t l (elim o [ none ↦ i | some c ↦ descend f t l c ])
      go none e k = record { there = p; way = w; low = lo; high = hi; stop = e }
      go (some c) e k =
          let s = step t i l (at t i).x (at t i).y (at t i).kids c (good i).parts e lo hi in
          k c (omega arith) s.there (down w e) s.low s.high

-- Laws of growing lists, from which an insert keeps the invariant: what holds of every bucket after a store and after a new
-- bucket, the homes with one load more, and a split bucket with one child more. Assumes nothing.
use Prim.Native.Nat.{ℕ, suc, ◌+◌, ◌≤◌, ◌<◌}
use mathlib.Core.Path.{◌≡◌, refl, sym, ◌∙◌, ap}
use mathlib.Core.Bool.{Bool, true, false, cond}
use mathlib.Core.Option.{Option, none, some}
use mathlib.Core.List.{List, [], ◌∷◌, ◌++◌}
use native.Mathlib.Omega.{arith}
use lib.Dec.{leb, eqb}
use lib.ListN.{length, set, get_or-eq_default}
use lib.Seq.{get_or-set_same, get_or-set_other}
use borrow.Author.Tests.{leb-false, eqb-true, eqb-false}
use Rattle.tree.specs.Rules.{Entry, Bucket, Kids, split, root, at, next}
use Rattle.tree.proofs.Held.{IsChild, Halves, Parts, Both, home}
use Rattle.tree.proofs.Descent.{if, none_some, at_same, at_new, at_else}

module _ (P : ℕ → Bucket → Type 0) (t : List Bucket) (i : ℕ) (b : Bucket) (h : i < length t) where
  pub set_cases : P i b → ((j : ℕ) → (j ≡ i → ⊥) → P j (at t j)) → (j : ℕ) → P j (at (set t i b) j)
  set_cases p f j =
      if (eqb j i)
      (λ e. let q : j ≡ i = eqb-true j i e in
      rw q (rw (get_or-set_same t i b (root []) h) p))
      (λ e. rw (get_or-set_other t i j b (root []) (eqb-false j i e)) (f j (eqb-false j i e)))

  pub grow_cases : (n : Bucket) → P i b → P (length t) n → ((j : ℕ) → (j ≡ i → ⊥) → (j ≡ length t → ⊥) → P j (at t j))
      → (j : ℕ) → P j (at (set t i b ++ (n ∷ [])) j)
  grow_cases n p r f j =
      if (eqb j i)
      (λ e. let q : j ≡ i = eqb-true j i e in
      rw q (rw (at_same t i b n h) p))
      (λ e. if (eqb j (length t))
      (λ g. let q : j ≡ length t = eqb-true j (length t) g in
      rw q (rw (at_new t i b n h) r))
      (λ g. rw (at_else t i b n h j (eqb-false j i e) (eqb-false j (length t) g))
      (f j (eqb-false j i e) (eqb-false j (length t) g))))

module _ {P Q : ℕ → ℕ → Type 0} (f : (h l : ℕ) → P h l → Q h l) where
  pub both_map : (hs ls : List ℕ) → Both P hs ls → Both Q hs ls
  both_map [] [] p = tt
  both_map [] (l ∷ ls) p = p
  both_map (h ∷ hs) [] p = p
  both_map (h ∷ hs) (l ∷ ls) p = (f h l p.0, both_map hs ls p.1)

module _ (P : ℕ → ℕ → Type 0) (h l : ℕ) where
  pub both_snoc : (hs ls : List ℕ) → Both P hs ls → P h l → Both P (hs ++ (h ∷ [])) (ls ++ (l ∷ []))
  both_snoc [] [] p q = (q, tt)
  both_snoc [] (k ∷ ls) p q = absurd p
  both_snoc (g ∷ hs) [] p q = absurd p
  both_snoc (g ∷ hs) (k ∷ ls) p q = (p.0, both_snoc hs ls p.1 q)

cond_append : (b : Bool) (e : Entry) (s s' r : List Entry) → s' ≡ s ++ r → cond b (e ∷ s') s' ≡ cond b (e ∷ s) s ++ r
cond_append true e s s' r h = ap (λ (z : List Entry). e ∷ z) h
cond_append false e s s' r h = h

-- one load more goes last into its home, and into no other bucket
pub home_snoc : (P : ℕ → ℕ → Type 0) (i p q h l : ℕ) (hs ls : List ℕ) → Both P hs ls → q ≡ p + length ls
    → home i p (hs ++ (h ∷ [])) (ls ++ (l ∷ [])) ≡ home i p hs ls ++ cond (eqb h i) (record { load = l; position = q } ∷ []) []
home_snoc P i p q h l [] [] b e = let e' : p ≡ q = omega arith in rw e'
home_snoc P i p q h l [] (k ∷ ls) b e = absurd b
home_snoc P i p q h l (g ∷ hs) [] b e = absurd b
home_snoc P i p q h l (g ∷ hs) (k ∷ ls) b e =
    cond_append (eqb g i) _ _ _ _ (home_snoc P i (suc p) q h l hs ls b.1 (omega arith))

-- a split bucket whose new child n is on the side q: the child is on the way of the load, and no other way changes
module _ (m : ℕ) (a c : Option ℕ) (n : ℕ) where
  abbrev pub link : Bool → Kids
  link q = cond q (split m (some n) c) (split m a (some n))

  side_left : (b : Bool) (d : ℕ) → a ≡ none → cond b a c ≡ some d → cond b (some n) c ≡ some d
  side_left true d s e = none_some (sym s ∙ e)
  side_left false d s e = e

  side_right : (b : Bool) (d : ℕ) → c ≡ none → cond b a c ≡ some d → cond b a (some n) ≡ some d
  side_right true d s e = e
  side_right false d s e = none_some (sym s ∙ e)

  pub link_grow : (q : Bool) (l d : ℕ) → cond q a c ≡ none → next (split m a c) l ≡ some d → next (link q) l ≡ some d
  link_grow true l d s e = side_left (leb l m) d s e
  link_grow false l d s e = side_right (leb l m) d s e

  pub link_next : (q : Bool) (l : ℕ) → leb l m ≡ q → next (link q) l ≡ some n
  link_next true l e = rw e
  link_next false l e = rw e

  pub link_parts : (t : List Bucket) (i x y : ℕ) (q : Bool) → Halves t i x y m a c → IsChild t i (cond q x m) (cond q m y) n
      → Parts t i x y (link q)
  link_parts t i x y true h k = record { over = h.over; under = h.under; left = k; right = h.right }
  link_parts t i x y false h k = record { over = h.over; under = h.under; left = h.left; right = k }

-- the new child's range is not empty and ends where its parent's does, or before
module _ (m : ℕ) where
  pub child_wide : (x y l : ℕ) (q : Bool) → leb l m ≡ q → x < m → l ≤ y → cond q x m < cond q m y
  child_wide x y l true e p r = p
  child_wide x y l false e p r = omega (arith, leb-false)

  pub child_top : (y : ℕ) (q : Bool) → m ≤ y → y ≤ 150001 → cond q m y ≤ 150001
  child_top y true p r = omega arith
  child_top y false p r = r

pub cond_none : (q : Bool) → ◌≡◌ {A = Option ℕ} (cond q none none) none
cond_none true = refl
cond_none false = refl

pub past_end : (t : List Bucket) (l d : ℕ) → next (at t (length t)).kids l ≡ some d → none ≡ some d
past_end t l d e = ap (λ (b : Bucket). next b.kids l) (sym (get_or-eq_default t (root []) (omega arith))) ∙ e

-- The tests of a conversion as statements about each serial and each pointer that they look at. Assumes nothing.
use mathlib.Core.Path.{◌≡◌, refl}
use mathlib.Core.Bool.{Bool, true, false, not, ◌&&◌, ◌||◌}
use mathlib.Core.List.{List, [], ◌∷◌}
use Prim.Native.Nat.{ℕ, zero, suc, ◌+◌, ◌<◌}
use native.Mathlib.Omega.{arith}
use lib.Dec.{leb}
use lib.ListN.{length, get_or}
use borrow.Author.Tests.{leb-false, lt-leb}
use Rattle.codec.proofs.Truth.{or_left, or_right}
use Rattle.skiplist.specs.declared.Pointer.{Pointer}
use Rattle.skiplist.specs.Skip.{none, is_none, is_live, serials_from}
use Rattle.retained.specs.Retained.{any_from, is_late, any_late}

-- ---- serials; `none_has` of `conversion` is the other way round

pub has_none : (has : ℕ → Bool) (m n : ℕ) → ((i : ℕ) → i < m → has (n + i) ≡ false) → any_from has m n ≡ false
unfolding any_from
has_none has zero n f = refl
has_none has (suc m) n f = rw (f m (omega arith)) (has_none has m n (λ i l. f i (omega arith)))

-- ---- pointers

module _ (oldest first : ℕ) where
  pub none_late : (ps : List Pointer) → ((k : ℕ) → k < length ps → is_late oldest first (get_or ps k none) ≡ false)
      → any_late oldest first ps ≡ false
  unfolding any_late
  none_late [] f = refl
  none_late (p ∷ ps) f = neither _ _ (f 0 (omega arith)) (none_late ps (λ k l. f (suc k) (omega arith)))
    where
      neither : (a b : Bool) → a ≡ false → b ≡ false → (a || b) ≡ false
      neither true b e f = e
      neither false b e f = f

  pub late_not : (ps : List Pointer) → any_late oldest first ps ≡ false → (k : ℕ) → k < length ps
      → is_late oldest first (get_or ps k none) ≡ false
  unfolding any_late
  late_not [] e k l = absurd (omega arith)
  late_not (p ∷ ps) e zero l = or_left (is_late oldest first p) (any_late oldest first ps) e
  late_not (p ∷ ps) e (suc k) l = late_not ps (or_right (is_late oldest first p) (any_late oldest first ps) e) k (omega arith)

  -- one pointer
  pub earlier_if : (p : Pointer) → is_late oldest first p ≡ false → is_none p ≡ false → is_live p (serials_from oldest) ≡ false → p.time < first
  earlier_if p e n d = leb-false first p.time (go (is_none p) (is_live p (serials_from oldest)) (leb first p.time) e n d)
    where
      go : (x y z : Bool) → (not x && (not y && z)) ≡ false → x ≡ false → y ≡ false → z ≡ false
      go true y z e p q = cc
      go false true z e p q = cc
      go false false z e p q = e

  pub not_late : (p : Pointer) → (is_none p ≡ false → is_live p (serials_from oldest) ≡ false → p.time < first) → is_late oldest first p ≡ false
  not_late p f = go (is_none p) (is_live p (serials_from oldest)) refl refl
    where
      go : (x y : Bool) → is_none p ≡ x → is_live p (serials_from oldest) ≡ y → (not x && (not y && leb first p.time)) ≡ false
      go true y p q = refl
      go false true p q = refl
      go false false a b = lt-leb first p.time (f a b)

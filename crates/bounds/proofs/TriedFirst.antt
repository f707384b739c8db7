-- The number that is tried first, of two that grounds gave. Assumes nothing.
use mathlib.Core.Path.{◌≡◌, refl}
use mathlib.Core.Bool.{Bool, true, false, cond}
use Prim.Native.Nat.{ℕ, ◌≤◌}
use lib.Dec.{eqb, ltb}
use borrow.Author.Tests.{eqb-true, eqb-false, ne_eqb, le-ltb}
use Rattle.bounds.specs.Grounds.{sooner}

-- none holds
pub sooner_none : (a b : ℕ) → sooner a b ≡ 0 → (a ≡ 0) × (b ≡ 0)
unfolding sooner
sooner_none a b e = go (eqb a 0) refl (eqb b 0) refl (ltb b a) refl e
  where
    go : (x : Bool) → eqb a 0 ≡ x → (y : Bool) → eqb b 0 ≡ y → (z : Bool) → ltb b a ≡ z → cond x b (cond y a (cond z b a)) ≡ 0 → (a ≡ 0) × (b ≡ 0)
    go true d y f z g e = (eqb-true _ _ d, e)
    go false d true f z g e = absurd (eqb-false _ _ d e)
    go false d false f true g e = absurd (eqb-false _ _ f e)
    go false d false f false g e = absurd (eqb-false _ _ d e)

-- the first one, where the second is none or not before it
pub sooner_first : (a b : ℕ) → (a ≡ 0 → ⊥) → (b ≡ 0 → ⊥) → a ≤ b → sooner a b ≡ a
unfolding sooner
sooner_first a b f g h = rw (ne_eqb a 0 f, ne_eqb b 0 g, le-ltb b a h)

pub sooner_alone : (a b : ℕ) → (a ≡ 0 → ⊥) → b ≡ 0 → sooner a b ≡ a
unfolding sooner
sooner_alone a b f g = rw (ne_eqb a 0 f, g)

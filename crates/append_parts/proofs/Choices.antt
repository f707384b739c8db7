-- One of two by a number: what a part of an append does at a page's sixteenth or a section's sixty-fourth lift alone. By cases. Assumes
-- nothing.
use mathlib.Core.Path.{◌≡◌}
use mathlib.Core.Bool.{cond}
use Prim.Native.Nat.{ℕ}
use lib.Dec.{eqb}
use borrow.Author.Tests.{eq-eqb, ne_eqb}

module _ {A : Type 0} (n k : ℕ) (x y : A) where
  pub chosen : (r : A) → n ≡ k → r ≡ x → r ≡ cond (eqb n k) x y
  chosen r h e = rw (eq-eqb n k h) e

  pub passed : (n ≡ k → ⊥) → y ≡ cond (eqb n k) x y
  passed h = rw (ne_eqb n k h)

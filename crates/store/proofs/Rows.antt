-- Grounds 1 to 3 in a row before later ones, whatever their tests: where one holds the later do not matter, where none holds they
-- decide. Assumes nothing.
use mathlib.Core.Path.{◌≡◌, refl}
use mathlib.Core.Bool.{Bool, true, false}
use Prim.Native.Nat.{ℕ}
use native.Mathlib.Omega.{arith}
use Rattle.bounds.specs.Grounds.{ground}

abbrev pub row : Bool → Bool → Bool → ℕ → ℕ
row a b c later = ground 1 a (ground 2 b (ground 3 c later))

-- other later grounds that give the same number
pub row_same : (a b c : Bool) (n later later' : ℕ) → n ≡ row a b c later → (n ≡ later → n ≡ later') → n ≡ row a b c later'
row_same true b c n later later' e f = e
row_same false true c n later later' e f = e
row_same false false true n later later' e f = e
row_same false false false n later later' e f = f e

-- none of the three holds
pub row_later : (a b c : Bool) (n later later' : ℕ) → n ≡ row a b c later → n ≡ 0 → (m : ℕ) → m ≡ later' → m ≡ row a b c later'
row_later true b c n later later' e z m f = absurd (omega arith)
row_later false true c n later later' e z m f = absurd (omega arith)
row_later false false true n later later' e z m f = absurd (omega arith)
row_later false false false n later later' e z m f = f

pub row_none : (a b c : Bool) (later : ℕ) → row a b c later ≡ 0 → (row a b c 0 ≡ 0) × (later ≡ 0)
row_none true b c later e = absurd (omega arith)
row_none false true c later e = absurd (omega arith)
row_none false false true later e = absurd (omega arith)
row_none false false false later e = (refl, e)

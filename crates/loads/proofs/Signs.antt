-- Signed numbers and their 32 bits determine each other: −1 less a number is its complement. Assumes nothing.
use mathlib.Core.Path.{◌≡◌, refl, ap, ◌∙◌}
use mathlib.Core.Bool.{Bool, true, false, cond}
use Prim.Native.Nat.{ℕ, suc, ◌-◌, ◌^◌, ◌<◌}
use native.Mathlib.Omega.{arith}
use lib.Dec.{ltb}
use lib.IntN.{ℤ, pos, negsuc}
use lib.Signed.{mag}
use mir.Syntax.{w32}
use mir.Val.{to_z, of_z, sel}
use mir.ValLaws.{to_z-of_z}
use borrow.Author.Tests.{lt-ltb, le-ltb}
use Rattle.loads.specs.Signed.{signed, unsigned}

-- a number that fits is read back from its bits
pub read_back : (z e : ℤ) → mag z < 2 ^ 31 → z ≡ e → to_z w32 (of_z w32 z) ≡ e
read_back z e h p = to_z-of_z w32 z (record { sfits = h }) ∙ p

-- the library's casts
pub signed_is : (n : ℕ) → to_z w32 n ≡ signed n
unfolding signed
signed_is n = go (ltb n 2147483648)
  where
    go : (t : Bool) → sel t (pos n) (negsuc (2 ^ 32 - suc n)) ≡ cond t (pos n) (negsuc (4294967295 - n))
    go true = refl
    go false = ap negsuc (omega arith)

pub unsigned_is : (z : ℤ) → of_z w32 z ≡ unsigned z
unfolding unsigned
unsigned_is (pos n) = refl
unsigned_is (negsuc n) = omega arith

-- the bits are read back
pub signed_unsigned : (z : ℤ) → mag z < 2 ^ 31 → signed (unsigned z) ≡ z
unfolding signed unsigned
signed_unsigned (pos n) h = ap (λ t. cond t (pos n) (negsuc (4294967295 - n))) (lt-ltb n 2147483648 h)
signed_unsigned (negsuc n) h =
    ap (λ t. cond t (pos (4294967295 - n)) (negsuc (4294967295 - (4294967295 - n)))) (le-ltb (4294967295 - n) 2147483648 (omega arith))
    ∙ ap negsuc (omega arith)

pub unsigned_fits : (z : ℤ) → mag z < 2 ^ 31 → unsigned z < 256 ^ 4
unfolding unsigned
unsigned_fits (pos n) h = omega arith
unsigned_fits (negsuc n) h = omega arith

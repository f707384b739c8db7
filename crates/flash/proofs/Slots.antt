-- Serials less than S apart have different slots. Assumes nothing.
use mathlib.Core.Path.{◌≡◌}
use Prim.Native.Nat.{ℕ, suc, ◌+◌, ◌-◌, ◌*◌, ◌/◌, ◌%◌, ◌≤◌, ◌<◌}
use native.Mathlib.Nat.{div-add-mod', mul-le-mul_right, mod-lt}
use native.Mathlib.Decide.{dec_lt}
use native.Mathlib.Omega.{arith}
use Rattle.flash.specs.Chip.{slot_of}

-- equal remainders of numbers less than s apart
same_rest : (s x y : ℕ) → x < y → y < x + s → x % s ≡ y % s → ⊥
same_rest s x y l h e = go (dec_lt (x / s) (y / s))
  where
    dx : x / s * s + x % s ≡ x
    dx = div-add-mod' x s

    dy : y / s * s + y % s ≡ y
    dy = div-add-mod' y s

    go : Dec (x / s < y / s) → ⊥
    go (yes p) = omega (arith, dx, dy, mul-le-mul_right {m = suc (x / s)} {n = y / s} s p)
    go (no p) =
        let q : y / s ≤ x / s = omega arith in
        omega (arith, dx, dy, mul-le-mul_right {m = y / s} {n = x / s} s q)

pub slots_differ : (slots a b : ℕ) → 1 ≤ a → a < b → b < a + slots → slot_of a slots ≡ slot_of b slots → ⊥
unfolding slot_of
slots_differ slots a b p l h e = same_rest slots (a - 1) (b - 1) (omega arith) (omega arith) e

pub slot_below : (slots n : ℕ) → 1 ≤ slots → slot_of n slots < slots
unfolding slot_of
slot_below slots n h = mod-lt (n - 1) h

-- `plate::sticker::upper_end` meets its contract: each entry of the table is the upper end of its plate's band.
use mathlib.Core.Path.{◌≡◌}
use Prim.Native.Nat.{ℕ, zero, suc, ◌≤◌}
use native.Mathlib.Omega.{arith}
use Rattle.plate.proofs.sticker.upper_end.Goals as goal

-- n is none of the first k numbers, as a `match` leaves it
abbrev NoneOf : ℕ → ℕ → Type 0
NoneOf zero n = Unit
NoneOf (suc k) n = NoneOf k n × (n ≡ k → ⊥)

past : (k n : ℕ) → NoneOf k n → k ≤ n
past zero n u = omega arith
past (suc k) n u = omega (arith, past k n u.0, u.1)

no_end_past_20 : (n : ℕ) → n ≤ 20 → 21 ≤ n → ⊥
no_end_past_20 n h l = omega arith

pub returns-in_default : goal.returns-in_default
returns-in_default c = absurd (no_end_past_20 _ c.requires (past 21 _ c.in_default.in_default-own.rest))

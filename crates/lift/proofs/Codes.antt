-- A load and the number it is stored as determine each other and compare alike: the offset drops out of every difference.
-- Assumes nothing.
use mathlib.Core.Path.{◌≡◌, refl, sym, ap, ap₂, ◌∙◌}
use mathlib.Core.Bool.{true, ◌&&◌}
use Prim.Native.Nat.{ℕ, suc, ◌+◌, ◌-◌, ◌^◌, ◌≤◌, ◌<◌}
use native.Mathlib.Omega.{arith}
use lib.Dec.{leb, ltb}
use lib.IntN.{ℤ, pos, negsuc, sub_ℕ, ◌+ℤ◌}
use lib.Signed.{lt_z, le_z}
use mir.Syntax.{w32}
use mir.Val.{SFits, to_z, of_z}
use mir.ValLaws.{to_z-of_z, to_z_pos}
use borrow.Author.Tests.{leb-true}
use Rattle.codec.proofs.Truth.{and_left}
use Rattle.lift.specs.Limits.{natural, load_ok, stored, load_of, code_ok}
use Rattle.lift.proofs.Differences as D

-- a natural above its load by 50,001 and b more
pub stored_shifted : (a b : ℕ) → stored (sub_ℕ a (50001 + b)) ≡ a - b
unfolding stored
stored_shifted a b =
    D.by_sign a (50001 + b) (λ z. stored z ≡ a - b)
    (λ n p. omega arith)
    (λ n p. D.by_sign 50001 (suc n) (λ z. natural z ≡ a - b) (λ m q. omega arith) (λ m q. omega arith))

-- the number is read back
pub stored_load : (code : ℕ) → stored (load_of code) ≡ code
stored_load code = stored_shifted code 0 ∙ omega arith

-- loads compare as their numbers do
pub load_le : (a b : ℕ) → le_z (load_of a) (load_of b) ≡ leb a b
load_le a b = D.le_offset 50001 a b

pub load_lt : (a b : ℕ) → lt_z (load_of a) (load_of b) ≡ ltb a b
load_lt a b = D.lt_offset 50001 a b

-- a number is within its limits where its load is
pub code_limits : (code : ℕ) → code_ok code ≡ load_ok (load_of code)
code_limits code =
    sym (ap₂ ◌&&◌ (D.le 0 50000 code 50001 1 code (omega arith)) (D.le code 50001 100000 0 code 150001 (omega arith)))

-- what is known of the number of a load within its limits
pub record Stored (z : ℤ) : Type 0 where
  pub sum : z +ℤ pos 50001 ≡ pos (stored z)
  pub load : load_of (stored z) ≡ z
  pub low : 1 ≤ stored z
  pub high : stored z ≤ 150001

pub within_limits : (z : ℤ) → load_ok z ≡ true → Stored z
unfolding stored
within_limits (pos n) h =
    let b = leb-true n 100000 h in
    record {
      sum = refl;
      load = D.is_pos (n + 50001) 50001 n (omega arith);
      low = omega arith;
      high = omega arith;
    }
within_limits (negsuc n) h =
    let b = leb-true n 49999 (and_left _ true h) in
    let p : sub_ℕ 50001 (suc n) ≡ pos (50000 - n) = D.is_pos 50001 (suc n) (50000 - n) (omega arith) in
    let e : stored (negsuc n) ≡ 50000 - n = ap natural p in
    record {
      sum = p ∙ ap pos (sym e);
      load = ap load_of e ∙ D.is_neg (50000 - n) 50001 n (omega arith);
      low = rw e (omega arith);
      high = rw e (omega arith);
    }

-- loads within their limits compare as what they are stored as
pub stored_le : (a b : ℤ) → load_ok a ≡ true → load_ok b ≡ true → le_z a b ≡ leb (stored a) (stored b)
stored_le a b ha hb =
    sym (ap₂ le_z (within_limits a ha).load (within_limits b hb).load) ∙ load_le (stored a) (stored b)

pub stored_lt : (a b : ℤ) → load_ok a ≡ true → load_ok b ≡ true → lt_z a b ≡ ltb (stored a) (stored b)
stored_lt a b ha hb =
    sym (ap₂ lt_z (within_limits a ha).load (within_limits b hb).load) ∙ load_lt (stored a) (stored b)

pub stored_limits : (z : ℤ) → load_ok z ≡ true → code_ok (stored z) ≡ true
stored_limits z h = code_limits (stored z) ∙ ap load_ok (within_limits z h).load ∙ h

-- the code's sum of a load and 50,001, read back from its bits
pub sum_read : (z : ℤ) → SFits w32 z → Stored z → to_z w32 (of_z w32 (to_z w32 (of_z w32 z) +ℤ pos 50001)) ≡ pos (stored z)
sum_read z f s = rw (to_z-of_z w32 z f, s.sum) (to_z_pos w32 (stored z) (omega (arith, s.high)))

pub load_fits : (code : ℕ) → code < 2 ^ 31 → SFits w32 (load_of code)
load_fits code h =
    D.by_sign code 50001 (λ z. SFits w32 z) (λ m p. record { sfits = omega arith }) (λ m p. record { sfits = omega arith })

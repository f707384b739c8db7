-- The grounds of a tolerant search's window are those of a plain search with 17 among them (document 02, W-209). By the four tests.
-- Assumes nothing.
use mathlib.Core.Path.{◌≡◌, refl}
use mathlib.Core.Bool.{Bool, true, false, cond, not, ◌&&◌, ◌||◌}
use Prim.Native.Nat.{ℕ, ◌≤◌}
use native.Mathlib.Omega.{arith}
use lib.Dec.{eqb, ltb}
use lib.IntN.{ℤ}
use lib.Signed.{lt_z}
use borrow.Author.Tests.{ltb-false}
use Rattle.lift.specs.Limits.{time_ok, load_ok}
use Rattle.bounds.specs.Grounds.{ground, query_ground}
use Rattle.tolerance.specs.Grounds.{tolerance_most, tolerance_ground}

-- ---- by the tests alone

abbrev plain : Bool → Bool → Bool → ℕ
plain late heavy backwards = ground 4 late (ground 5 heavy (ground 6 backwards 0))

abbrev tolerant : Bool → Bool → Bool → Bool → ℕ
tolerant late heavy wide backwards = ground 4 late (ground 5 heavy (ground 17 wide (ground 6 backwards 0)))

in_order : (late heavy wide backwards : Bool) → tolerant late heavy wide backwards
    ≡ cond (eqb (plain late heavy backwards) 4 || eqb (plain late heavy backwards) 5) (plain late heavy backwards)
    (cond wide 17 (plain late heavy backwards))
in_order true heavy wide backwards = refl
in_order false true wide backwards = refl
in_order false false wide true = refl
in_order false false wide false = refl

no_ground : (late heavy wide backwards : Bool) → tolerant late heavy wide backwards ≡ 0 → (plain late heavy backwards ≡ 0) × (wide ≡ false)
no_ground true heavy wide backwards h = absurd (omega arith)
no_ground false true wide backwards h = absurd (omega arith)
no_ground false false true backwards h = absurd (omega arith)
no_ground false false false backwards h = (h, refl)

-- ---- a window

module _ (t1 t2 : ℕ) (k1 k2 : ℤ) (d : ℕ) where
  -- 4 and 5 of a plain search come first, then 17, then what else the plain search gives
  pub ground_in_order : (n : ℕ) → n ≡ query_ground t1 t2 k1 k2
      → tolerance_ground t1 t2 k1 k2 d ≡ cond (eqb n 4 || eqb n 5) n (cond (ltb tolerance_most d) 17 n)
  unfolding query_ground tolerance_ground
  ground_in_order n e =
      rw e (in_order (not (time_ok t1 && time_ok t2)) (not (load_ok k1 && load_ok k2)) (ltb tolerance_most d) (ltb t2 t1 || lt_z k2 k1))

  -- where there is none
  pub ground_window : tolerance_ground t1 t2 k1 k2 d ≡ 0 → (query_ground t1 t2 k1 k2 ≡ 0) × (d ≤ 1000)
  unfolding query_ground tolerance_ground
  ground_window h =
      let n = no_ground (not (time_ok t1 && time_ok t2)) (not (load_ok k1 && load_ok k2)) (ltb tolerance_most d) (ltb t2 t1 || lt_z k2 k1) h in
      (n.0, ltb-false 1000 d n.1)

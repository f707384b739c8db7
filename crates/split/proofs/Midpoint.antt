-- A midpoint lies in its bucket's range whatever the loads: every integer is a difference, so all stand above one offset.
-- Assumes nothing.
use mathlib.Core.Path.{◌≡◌, sym, ap, ◌∙◌}
use mathlib.Core.List.{List, map}
use Prim.Native.Nat.{ℕ, ◌+◌, ◌-◌, ◌≤◌, ◌<◌}
use native.Mathlib.Omega.{arith}
use lib.IntN.{ℤ, sub_ℕ}
use Rattle.lift.specs.Limits.{stored, load_of}
use Rattle.lift.proofs.Differences as D
use Rattle.lift.proofs.Codes.{stored_shifted}
use Rattle.split.specs.Split.{bring, mid, sum, slope, low, high, midpoint}
use Rattle.split.specs.Inner.Work.{value_of, Predicts}
use Rattle.split.proofs.Offset.{bring_within}

brought_within : (x y : ℕ) → x < y → (m : ℤ)
    → (x < stored (bring m (load_of x) (load_of y))) × (stored (bring m (load_of x) (load_of y)) ≤ y)
brought_within x y h =
    D.every (λ m. (x < stored (bring m (load_of x) (load_of y))) × (stored (bring m (load_of x) (load_of y)) ≤ y)) (λ a b.
    let em : sub_ℕ a b ≡ sub_ℕ (a + 50001) (50001 + b) = D.same a b (a + 50001) (50001 + b) (omega arith) in
    let ex : load_of x ≡ sub_ℕ (x + b) (50001 + b) = D.same x 50001 (x + b) (50001 + b) (omega arith) in
    let ey : load_of y ≡ sub_ℕ (y + b) (50001 + b) = D.same y 50001 (y + b) (50001 + b) (omega arith) in
    let w = bring_within (50001 + b) (a + 50001) (x + b) (y + b) (omega arith) in
    rw (em, ex, ey, w.is, stored_shifted w.number b) (omega (arith, w.above, w.below)))

pub midpoint_within : (x y : ℕ) (codes : List ℕ) → x < y → (x < midpoint x y codes) × (midpoint x y codes ≤ y)
unfolding midpoint mid
midpoint_within x y codes h = brought_within x y h _

-- r is the midpoint, and lies in its range
abbrev pub Midway : ℕ → ℕ → List ℕ → ℕ → Type 0
Midway x y codes r = (r ≡ midpoint x y codes) × ((x < r) × (r ≤ y))

-- the midpoint by the numbers of the code's work
pub midpoint_work : (x y l h m : ℕ) (codes : List ℕ) → x < y
    → Predicts (sum (map load_of codes)) (slope (map load_of codes)) l h
    → value_of m ≡ mid (value_of (x + 2949999)) (value_of (y + 2949999)) (value_of l) (value_of h)
    → Midway x y codes (m - 2949999)
unfolding midpoint low high
midpoint_work x y l h m codes b p e =
    let ex : value_of (x + 2949999) ≡ load_of x = D.same (x + 2949999) 3000000 x 50001 (omega arith) in
    let ey : value_of (y + 2949999) ≡ load_of y = D.same (y + 2949999) 3000000 y 50001 (omega arith) in
    let em : m - 2949999 ≡ midpoint x y codes =
    sym (stored_shifted m 2949999) ∙ ap stored (rw (ex, ey, p.low, p.high) at e) in
    (em, rw em (midpoint_within x y codes b))

-- Loads and their bytes: their lengths, the load at a place among others, and loads read back from what was written. Assumes nothing.
use mathlib.Core.Path.{◌≡◌, refl, sym, ap, ap₂, ◌∙◌}
use mathlib.Core.List.{List, [], ◌∷◌, ◌++◌}
use Prim.Native.Nat.{ℕ, zero, suc, ◌+◌, ◌*◌, ◌^◌, ◌≤◌, ◌<◌}
use native.Mathlib.Omega.{arith}
use lib.IntN.{ℤ, pos}
use lib.ListN.{length, get_or}
use lib.Signed.{mag}
use Rattle.codec.specs.Area.{part}
use Rattle.codec.specs.Number.{le}
use Rattle.codec.proofs.Areas.{part_part, part_append_left, part_append_right, part_all}
use Rattle.codec.proofs.Numbers.{length_bytes, le_bytes}
use Rattle.loads.specs.Signed.{signed, unsigned, side_by_side, load_bytes, loads_bytes, load_at, loads_at}
use Rattle.loads.proofs.Signs.{signed_unsigned, unsigned_fits}
use Rattle.loads.proofs.SideBySide.{length_side}

-- ---- lengths

pub length_load : (z : ℤ) → length (load_bytes z) ≡ 4
unfolding load_bytes
length_load z = length_bytes 4 (unsigned z)

pub length_loads : (zs : List ℤ) → length (loads_bytes zs) ≡ 4 * length zs
length_loads zs = length_side load_bytes 4 length_load zs

-- ---- loads side by side

pub length_loads_at : (s : List ℕ) (at n : ℕ) → length (loads_at s at n) ≡ n
unfolding loads_at
length_loads_at s at zero = refl
length_loads_at s at (suc n) = ap suc (length_loads_at s (at + 4) n)

-- load i of those from `at`
pub load_among : (s : List ℕ) (at n i : ℕ) (d : ℤ) → i < n → get_or (loads_at s at n) i d ≡ load_at s (at + 4 * i)
unfolding loads_at
load_among s at zero i d h = absurd (omega arith)
load_among s at (suc n) zero d h = let e : at ≡ at + 4 * 0 = omega arith in ap (load_at s) e
load_among s at (suc n) (suc i) d h =
    let e : at + 4 + 4 * i ≡ at + 4 * suc i = omega arith in
    load_among s (at + 4) n i d (omega arith) ∙ ap (load_at s) e

pub load_read : (s : List ℕ) (at : ℕ) (z : ℤ) → mag z < 2 ^ 31 → part s at 4 ≡ load_bytes z → load_at s at ≡ z
unfolding load_at load_bytes
load_read s at z h e =
    ap (λ p. signed (le p)) e ∙ ap signed (le_bytes 4 (unsigned z) (unsigned_fits z h)) ∙ signed_unsigned z h

plus_none : (n : ℕ) → n ≡ n + 0
plus_none n = omega arith

pub loads_read : (s : List ℕ) (at : ℕ) (zs : List ℤ) → ((i : ℕ) → mag (get_or zs i (pos 0)) < 2 ^ 31) → at + 4 * length zs ≤ length s
    → part s at (4 * length zs) ≡ loads_bytes zs → loads_at s at (length zs) ≡ zs
unfolding loads_at side_by_side
loads_read s at [] f h e = refl
loads_read s at (z ∷ zs) f h e =
    let n = 4 * length zs in
    let m : 4 * suc (length zs) ≡ 4 + n = omega arith in
    let whole : part s at (4 + n) ≡ load_bytes z ++ loads_bytes zs = ap (part s at) (sym m) ∙ e in
    let r = length_loads zs in
    let l = length_load z in
    let front : part s at 4 ≡ load_bytes z =
    ap (λ (k : ℕ). part s k 4) (plus_none at) ∙ sym (part_part s at (4 + n) 0 4 (omega arith) (omega arith))
    ∙ ap (λ p. part p 0 4) whole ∙ part_append_left (load_bytes z) (loads_bytes zs) 0 4 (omega arith) ∙ part_all (load_bytes z) 4 l in
    let rest : part s (at + 4) n ≡ loads_bytes zs =
    sym (part_part s at (4 + n) 4 n (omega arith) (omega arith)) ∙ ap (λ p. part p 4 n) whole
    ∙ part_append_right (load_bytes z) (loads_bytes zs) 0 4 n (omega arith) (omega arith) ∙ part_all (loads_bytes zs) n r in
    ap₂ ◌∷◌ (load_read s at z (f 0) front) (loads_read s (at + 4) zs (λ i. f (suc i)) (omega arith) rest)

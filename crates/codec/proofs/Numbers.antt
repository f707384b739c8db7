-- Laws of little-endian numbers, over every width. Assumes nothing.
use mathlib.Core.Path.{◌≡◌, refl, sym, ap, ◌∙◌}
use mathlib.Core.List.{List, [], ◌∷◌}
use Prim.Native.Nat.{ℕ, zero, suc, ◌+◌, ◌*◌, ◌/◌, ◌%◌, ◌^◌, ◌≤◌, ◌<◌}
use native.Mathlib.Nat.{pow-suc, pow-zero}
use native.Mathlib.Decide.{dec_lt}
use native.Mathlib.Omega.{arith}
use lib.ListN.{length, get_or, get_or-eq_default}
use Rattle.codec.specs.Area.{part, splice}
use Rattle.codec.specs.Number.{le, bytes, number_at}
use Rattle.codec.proofs.Areas.{length_part, get_d_part, part_splice}

pub length_bytes : (n v : ℕ) → length (bytes n v) ≡ n
unfolding bytes
length_bytes zero v = refl
length_bytes (suc n) v = ap suc (length_bytes n (v / 256))

-- a number below 256 ^ n is what its n bytes say
pub le_bytes : (n v : ℕ) → v < 256 ^ n → le (bytes n v) ≡ v
unfolding le bytes
le_bytes zero v h = omega (arith, rw pow-zero at h)
le_bytes (suc n) v h =
    let h' : v < 256 ^ n * 256 = rw pow-suc at h in
    let q : v / 256 < 256 ^ n = omega arith in
    omega (arith, le_bytes n (v / 256) q)

-- the bytes of a number are bytes
pub bytes_below : (n v i : ℕ) → get_or (bytes n v) i 0 < 256
unfolding bytes
bytes_below zero v i = omega arith
bytes_below (suc n) v zero = omega arith
bytes_below (suc n) v (suc i) = bytes_below n (v / 256) i

-- a list of bytes is the bytes of its number
pub bytes_le : (p : List ℕ) → ((i : ℕ) → get_or p i 0 < 256) → bytes (length p) (le p) ≡ p
unfolding le bytes
bytes_le [] h = refl
bytes_le (b ∷ p) h =
    let l : b < 256 = h 0 in
    let r : (b + 256 * le p) % 256 ≡ b = omega arith in
    let q : (b + 256 * le p) / 256 ≡ le p = omega arith in
    rw (r, q, bytes_le p (λ i. h (suc i)))

pub le_below : (p : List ℕ) → ((i : ℕ) → get_or p i 0 < 256) → le p < 256 ^ length p
unfolding le
le_below [] h = rw pow-zero (omega arith)
le_below (b ∷ p) h =
    let l : b < 256 = h 0 in
    rw pow-suc (omega (arith, le_below p (λ i. h (suc i))))

-- what was put is what is got
pub get_put : (s : List ℕ) (at n v : ℕ) → at + n ≤ length s → v < 256 ^ n → number_at (splice s at (bytes n v)) at n ≡ v
get_put s at n v h b =
    let l = length_bytes n v in
    ap le (part_splice s at (bytes n v) (omega arith) n l) ∙ le_bytes n v b

-- a part of bytes has bytes
part_below : (s : List ℕ) (at n i : ℕ) → at + n ≤ length s → ((j : ℕ) → get_or s j 0 < 256) → get_or (part s at n) i 0 < 256
part_below s at n i h b = go (dec_lt i n)
  where
    go : Dec (i < n) → get_or (part s at n) i 0 < 256
    go (yes l) = rw (get_d_part s at n i l) (b (at + i))
    go (no l) =
        let p = length_part s at n h in
        rw (get_or-eq_default (part s at n) 0 {n = i} (omega arith)) (omega arith)

-- a number read from bytes and written gives the same bytes
pub put_get : (s : List ℕ) (at n : ℕ) → at + n ≤ length s → ((i : ℕ) → get_or s i 0 < 256) → bytes n (number_at s at n) ≡ part s at n
put_get s at n l b =
    let p = length_part s at n l in
    ap (λ (m : ℕ). bytes m (le (part s at n))) (sym p) ∙ bytes_le (part s at n) (λ i. part_below s at n i l b)

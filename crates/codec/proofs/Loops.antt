-- The turns of the loops of `get`, `put`, `copy_long` and `all_ones`, and the runs that these lend out. Assumes nothing.
use mathlib.Core.Path.{◌≡◌, refl, sym, ◌∙◌}
use mathlib.Core.Bool.{Bool, true, false, ◌&&◌}
use mathlib.Core.List.{List, [], append_assoc}
use Prim.Native.Nat.{ℕ, zero, suc, ◌+◌, ◌-◌, ◌*◌, ◌/◌, ◌%◌, ◌^◌, ◌≤◌, ◌<◌}
use native.Mathlib.Nat.{pow-suc, pow-le-pow_right, lt_of_lt_of_le}
use native.Mathlib.Numerals.{add-one}
use native.Mathlib.Omega.{arith}
use lib.Dec.{eqb}
use borrow.Rule.Slice.PartMut.{put_mid, Post-is}
use lib.ListN.{length, take, drop, get_or, set}
use lib.Seq.{sets, sets-eq, drop-cons, paste, take_all}
use Rattle.std.proofs.lemmas.List.{append-nil, drop_all}
use Rattle.codec.specs.Area.{part, splice, all_ones}
use Rattle.codec.specs.Number.{le, bytes, number_at}

-- ---- get: acc is the number in the bytes passed, the last n - i

pub get_step : (s : List ℕ) (at n i acc : ℕ) → 0 < i → i ≤ n → at + n ≤ length s → acc ≡ number_at s (at + i) (n - i)
    → acc * 256 + get_or s (at + (i - 1)) 0 ≡ number_at s (at + (i - 1)) (n - (i - 1))
unfolding le part
get_step s at n i acc h k w e =
    let b : at + (i - 1) < length s = omega arith in
    let m : n - (i - 1) ≡ suc (n - i) = omega arith in
    let j : suc (at + (i - 1)) ≡ at + i = omega arith in
    rw (m, drop-cons s (at + (i - 1)) 0, j) (omega arith)

pub get_bound : (n i acc b : ℕ) → 0 < i → i ≤ n → acc < 256 ^ (n - i) → b < 256 → acc * 256 + b < 256 ^ (n - (i - 1))
get_bound n i acc b h k l m =
    let e : n - (i - 1) ≡ suc (n - i) = omega arith in
    rw (e, pow-suc) (omega arith)

pub get_room : (n i acc : ℕ) → 0 < i → i ≤ n → n ≤ 8 → acc < 256 ^ (n - i) → acc < 256 ^ 7
get_room n i acc h k l m =
    let e : n - i ≤ 7 = omega arith in
    let z : 0 < 256 = omega arith in
    lt_of_lt_of_le m (pow-le-pow_right z e)

pub get_none : (s : List ℕ) (at n : ℕ) → (0 ≡ number_at s (at + n) (n - n)) × (0 < 256 ^ (n - n))
unfolding le part
get_none s at n =
    let e : n - n ≡ 0 = omega arith in
    rw e (refl, omega arith)

-- ---- a run of an area that was lent as a slice, when it is back

pub back : (s : List ℕ) (at n : ℕ) (ys p : List ℕ) → ys ≡ p → length p ≡ n → put_mid at (at + n - at) s ys ≡ splice s at p
unfolding splice
back s at n ys p e l =
    let k : at ≤ at + n = omega arith in
    rw (Post-is at (at + n) s k, e, l) (sym (append_assoc (take at s) p _))

-- ---- put: what is left to store, stored, gives what the whole gives

pub put_none : (s p : List ℕ) → length s ≡ length p → sets s 0 p ≡ p
put_none s p e =
    let d : drop (0 + length p) s ≡ [] = drop_all (0 + length p) s (omega arith) in
    sets-eq p s 0 (omega arith) ∙ rw d (append-nil p)

pub put_step : (s : List ℕ) (to left rest : ℕ) → 0 < left
    → sets (set s to (rest % 256)) (to + 1) (bytes (left - 1) (rest / 256)) ≡ sets s to (bytes left rest)
unfolding bytes
put_step s to zero rest h = absurd (omega arith)
put_step s to (suc k) rest h =
    let e : suc k - 1 ≡ k = omega arith in
    rw (add-one, e)

pub sets_done : (s : List ℕ) (at n : ℕ) (p : List ℕ) → length p ≡ n → at + n ≤ length s → sets s at p ≡ splice s at p
unfolding splice
sets_done s at n p l h = sets-eq p s at (omega arith)

-- ---- copy_long

pub copy_done : (s : List ℕ) (at : ℕ) (p : List ℕ) (i : ℕ) → length p ≡ i → paste s at p i ≡ splice s at p
unfolding splice
copy_done s at p i e =
    let a : take i p ≡ p = take_all i p (omega arith) in
    rw (a, ← e)

-- ---- all_ones

pub ones_more : (s : List ℕ) (good : Bool) (i : ℕ) → i < length s
    → ((good && eqb (get_or s i 0) 255) && all_ones (drop (i + 1) s)) ≡ (good && all_ones (drop i s))
unfolding all_ones
ones_more s true i h = rw (drop-cons s i 0, add-one)
ones_more s false i h = refl

pub ones_none : (s : List ℕ) (good : Bool) (i : ℕ) → length s ≤ i → good ≡ (good && all_ones (drop i s))
unfolding all_ones
ones_none s true i h = rw (drop_all i s h)
ones_none s false i h = refl

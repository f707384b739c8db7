-- Programming an erased page and writing NOR bytes that are 255 only clear bits: every bit of 255 that a byte can have is set. Assumes nothing.
use mathlib.Core.Path.{◌≡◌, refl, sym, ap, ◌∙◌}
use mathlib.Core.Bool.{true}
use mathlib.Core.List.{List}
use Prim.Native.Nat.{ℕ, zero, suc, ◌+◌, ◌-◌, ◌/◌, ◌^◌, ◌≤◌, ◌<◌}
use native.Mathlib.Nat.{le_refl, le_trans}
use native.Mathlib.Omega.{arith}
use lib.ListN.{length, get_or}
use lib.Pow.{pow_pos, shr-shr}
use Rattle.codec.specs.Area.{part, splice, repeated, all_ones}
use Rattle.codec.specs.Number.{bytes}
use Rattle.codec.proofs.Areas.{length_part, get_d_part, length_splice, splice_bytes, repeated_ones, get_or_repeated}
use Rattle.codec.proofs.Numbers.{length_bytes, bytes_below}
use Rattle.flash.specs.Chip.{page_start, page_erased, programmed}
use Rattle.flash.specs.Clears.{OnlyClears, bit_of}

-- a number of n digits has its bits among those of 2 ^ n − 1
pub bits_of_ones : (n k b : ℕ) → b < 2 ^ n → bit_of b k ≤ bit_of (2 ^ n - 1) k
bits_of_ones zero k b h = let z : b ≡ 0 = omega arith in rw z (le_refl _)
bits_of_ones (suc n) zero b h = omega (arith, pow_pos n)
bits_of_ones (suc n) (suc k) b h =
    let e : suc k ≡ 1 + k = omega arith in
    let o : (2 ^ suc n - 1) / 2 ^ 1 ≡ 2 ^ n - 1 = omega (arith, pow_pos n) in
    rw (e, ← shr-shr b 1 k, ← shr-shr (2 ^ suc n - 1) 1 k, o) (bits_of_ones n k (b / 2 ^ 1) (omega arith))

pub clears_none : (s : List ℕ) → OnlyClears s s
clears_none s = record { long = refl; falls = λ i k. le_refl _ }

pub clears_trans : {a b c : List ℕ} → OnlyClears a b → OnlyClears b c → OnlyClears a c
clears_trans f g = record { long = g.long ∙ f.long; falls = λ i k. le_trans (g.falls i k) (f.falls i k) }

-- a write over bytes that are all 255
pub clears_ones : (s : List ℕ) (at : ℕ) (p : List ℕ) → at + length p ≤ length s → ((i : ℕ) → get_or p i 0 < 256)
    → all_ones (part s at (length p)) ≡ true → OnlyClears s (splice s at p)
clears_ones s at p h b e = record {
  long = length_splice s at p h;
  falls = λ i k. splice_bytes (λ j x. bit_of x k ≤ bit_of (get_or s j 0) k) s at p h (λ j l. rw (old j l) (bits_of_ones 8 k (get_or p j 0) (b j))) (λ j l. le_refl _) i;
}
  where
    old : (j : ℕ) → j < length p → get_or s (at + j) 0 ≡ 255
    old j l =
        let q : part s at (length p) ≡ repeated (length (part s at (length p))) 255 = repeated_ones (part s at (length p)) e in
        let m = length_part s at (length p) h in
        sym (get_d_part s at (length p) j l) ∙ ap (λ (t : List ℕ). get_or t j 0) q ∙ get_or_repeated (length (part s at (length p))) 255 j (omega arith)

-- a number written into NOR bytes that are all 255
pub clears_number : (nor : List ℕ) (at n v : ℕ) → at + n ≤ length nor → all_ones (part nor at n) ≡ true
    → OnlyClears nor (splice nor at (bytes n v))
clears_number nor at n v h e =
    let l = length_bytes n v in
    clears_ones nor at (bytes n v) (omega arith) (bytes_below n v) (rw l e)

-- programming an erased page
pub clears_page : (nand : List ℕ) (slot p : ℕ) (page : List ℕ) → page_start slot p + 512 ≤ length nand → length page ≡ 512
    → ((i : ℕ) → get_or page i 0 < 256) → page_erased nand slot p ≡ true → OnlyClears nand (programmed nand slot p page)
clears_page nand slot p page h l b e = clears_ones nand (page_start slot p) page (omega arith) b (rw l e)

-- The counts in their area: which bytes are which count, and one of them written is one place changed. By induction over the counts.
-- Assumes nothing.
use mathlib.Core.Path.{◌≡◌, refl, sym, ap, ap₂, ◌∙◌}
use mathlib.Core.List.{List, [], ◌∷◌, ◌++◌}
use Prim.Native.Nat.{ℕ, zero, suc, ◌+◌, ◌*◌, ◌≤◌, ◌<◌}
use native.Mathlib.Omega.{arith}
use lib.ListN.{length, get_or, set}
use Rattle.codec.specs.Area.{part, splice}
use Rattle.codec.specs.Number.{bytes, number_at}
use Rattle.codec.proofs.Areas.{part_add, part_all, splice_left, splice_right, splice_all}
use Rattle.codec.proofs.Numbers.{length_bytes, put_get}
use Rattle.bloom.specs.Pages.{each}
use Rattle.bloom.proofs.Each.{length_each, get_or_each}
use Rattle.loads.specs.Signed.{side_by_side}
use Rattle.counts.specs.CountsBytes.{counts_bytes, counts_in}

pub length_in : (area : List ℕ) → length (counts_in area) ≡ 22
unfolding counts_in
length_in area = length_each (λ i. number_at area (4 * i) 4) 0 22

pub count_in_lem : (area : List ℕ) (i : ℕ) → i < 22 → get_or (counts_in area) i 0 ≡ number_at area (4 * i) 4
unfolding counts_in
count_in_lem area i h =
    let z : 0 + i ≡ i = omega arith in
    get_or_each (λ j. number_at area (4 * j) 4) 0 22 i 0 h ∙ ap (λ (j : ℕ). number_at area (4 * j) 4) z

-- ---- written back as they were read

numbers_back : (area : List ℕ) → ((i : ℕ) → get_or area i 0 < 256) → (n from : ℕ) → 4 * from + 4 * n ≤ length area
    → side_by_side (bytes 4) (each (λ i. number_at area (4 * i) 4) from n) ≡ part area (4 * from) (4 * n)
unfolding each side_by_side part
numbers_back area b zero from h = refl
numbers_back area b (suc n) from h =
    let m : 4 * suc n ≡ 4 + 4 * n = omega arith in
    let f : 4 * suc from ≡ 4 * from + 4 = omega arith in
    ap₂ {C = List ℕ} (λ x y. x ++ y) (put_get area (4 * from) 4 (omega arith) b)
    (numbers_back area b n (suc from) (omega arith) ∙ ap (λ (k : ℕ). part area k (4 * n)) f)
    ∙ sym (ap (part area (4 * from)) m ∙ part_add area (4 * from) 4 (4 * n))

counts_back : (area : List ℕ) → length area ≡ 88 → ((i : ℕ) → get_or area i 0 < 256) → counts_bytes (counts_in area) ≡ area
unfolding counts_bytes counts_in
counts_back area l b = numbers_back area b 22 0 (omega arith) ∙ part_all area 88 l

-- ---- one of them

set_number : (counts : List ℕ) (i v : ℕ) → i < length counts → splice (side_by_side (bytes 4) counts) (4 * i) (bytes 4 v) ≡ side_by_side (bytes 4) (set counts i v)
unfolding side_by_side
set_number [] i v h = absurd (omega arith)
set_number (n ∷ counts) zero v h =
    let a = length_bytes 4 n in
    let b = length_bytes 4 v in
    splice_left (bytes 4 n) (side_by_side (bytes 4) counts) 0 (bytes 4 v) (omega arith)
    ∙ ap (λ x. x ++ side_by_side (bytes 4) counts) (splice_all (bytes 4 n) (bytes 4 v) (omega arith))
set_number (n ∷ counts) (suc i) v h =
    let a = length_bytes 4 n in
    splice_right (bytes 4 n) (side_by_side (bytes 4) counts) (4 * i) (4 * suc i) (bytes 4 v) (omega arith)
    ∙ ap (λ x. bytes 4 n ++ x) (set_number counts i v (omega arith))

pub count_put : (area : List ℕ) (i v : ℕ) → length area ≡ 88 → ((j : ℕ) → get_or area j 0 < 256) → i < 22
    → splice area (4 * i) (bytes 4 v) ≡ counts_bytes (set (counts_in area) i v)
unfolding counts_bytes
count_put area i v l b h =
    let n = length_in area in
    ap (λ s. splice s (4 * i) (bytes 4 v)) (sym (counts_back area l b)) ∙ set_number (counts_in area) i v (omega arith)

-- The widened ends as stored loads, and certain and possible loads by ends (document 02, W-209). Assumes nothing.
use mathlib.Core.Path.{◌≡◌, refl, sym, ap, ap₂, ◌∙◌}
use mathlib.Core.Bool.{Bool, true, false, cond, not, ◌&&◌, ◌||◌}
use mathlib.Core.List.{List}
use Prim.Native.Nat.{ℕ, suc, ◌+◌, ◌-◌, ◌≤◌}
use native.Mathlib.Omega.{arith}
use lib.Dec.{leb, ltb}
use lib.IntN.{ℤ, pos, ◌+ℤ◌, ◌-ℤ◌}
use lib.Signed.{le_z, lt_z}
use borrow.Author.Tests.{ltb-true, leb-true, leb-false, le-leb, lt-leb, not-false}
use Rattle.codec.proofs.Lists.{chosen_same}
use Rattle.codec.proofs.Truth.{and_both, and_left, and_right, and_parts, or_parts}
use Rattle.lift.specs.Limits.{time_ok, load_ok, load_least, load_most, load_shift, code_most, stored, load_of}
use Rattle.lift.specs.Record.{code_at}
use Rattle.lift.proofs.Codes.{stored_load, load_le, within_limits}
use Rattle.lift.proofs.Differences as D
use Rattle.bounds.specs.Grounds.{query_ground}
use Rattle.bounds.proofs.Within.{ground_not, ground_rest}
use Rattle.tolerance.specs.Tolerance.{is_certain, is_possible, low_end, high_end, certain_rows}
use Rattle.tolerance.specs.Inner.Ends.{in_ends, narrowed_ends, rows_in_ends}
use Rattle.tolerance.proofs.Order.{le_trans, le_other, lt_not, more, less, less_right, less_left, less_self, more_self}

-- ---- the widened ends

-- they stop at the load limits
pub low_end_ok : (k1 : ℤ) (d : ℕ) → load_ok k1 ≡ true → load_ok (low_end k1 d) ≡ true
unfolding low_end
low_end_ok k1 d ok = go (le_z load_least (k1 -ℤ pos d)) refl
  where
    go : (t : Bool) → le_z load_least (k1 -ℤ pos d) ≡ t → load_ok (cond t (k1 -ℤ pos d) load_least) ≡ true
    go true e =
        and_both (le_z load_least (k1 -ℤ pos d)) (le_z (k1 -ℤ pos d) load_most) e
        (le_trans (k1 -ℤ pos d) k1 load_most (less_self k1 d) (and_right (le_z load_least k1) (le_z k1 load_most) ok))
    go false e = refl

pub high_end_ok : (k2 : ℤ) (d : ℕ) → load_ok k2 ≡ true → load_ok (high_end k2 d) ≡ true
unfolding high_end
high_end_ok k2 d ok = go (le_z (k2 +ℤ pos d) load_most) refl
  where
    go : (t : Bool) → le_z (k2 +ℤ pos d) load_most ≡ t → load_ok (cond t (k2 +ℤ pos d) load_most) ≡ true
    go true e =
        and_both (le_z load_least (k2 +ℤ pos d)) (le_z (k2 +ℤ pos d) load_most)
        (le_trans load_least k2 (k2 +ℤ pos d) (and_left (le_z load_least k2) (le_z k2 load_most) ok) (more_self k2 d)) e
    go false e = refl

-- of stored loads
low_of : (s d : ℕ) → low_end (load_of s) d ≡ load_of (cond (ltb d s) (s - d) 1)
unfolding low_end
low_of s d = rw test (go (ltb d s) refl)
  where
    test : le_z load_least (load_of s -ℤ pos d) ≡ ltb d s
    test = rw (less s load_shift d) (D.le 1 load_shift s (load_shift + d) (suc d) s (omega arith))

    go : (t : Bool) → ltb d s ≡ t → cond t (load_of s -ℤ pos d) load_least ≡ load_of (cond t (s - d) 1)
    go true e = less s load_shift d ∙ D.same s (load_shift + d) (s - d) load_shift (omega (arith, ltb-true d s e))
    go false e = refl

high_of_lem : (s d : ℕ) → high_end (load_of s) d ≡ load_of (cond (leb (s + d) code_most) (s + d) code_most)
unfolding high_end
high_of_lem s d = rw (more s load_shift d, load_le (s + d) code_most) (go (leb (s + d) code_most))
  where
    go : (t : Bool) → cond t (load_of (s + d)) load_most ≡ load_of (cond t (s + d) code_most)
    go true = refl
    go false = refl

-- 1 or d less, and the smaller of 150,001 and d more
pub low_end_code : (k1 : ℤ) (d : ℕ) → load_ok k1 ≡ true → stored (low_end k1 d) ≡ cond (ltb d (stored k1)) (stored k1 - d) 1
low_end_code k1 d ok =
    sym (ap (λ z. stored (low_end z d)) (within_limits k1 ok).load) ∙ ap stored (low_of (stored k1) d) ∙ stored_load _

pub high_end_code : (k2 : ℤ) (d : ℕ) → load_ok k2 ≡ true
    → stored (high_end k2 d) ≡ cond (leb (stored k2 + d) code_most) (stored k2 + d) code_most
high_end_code k2 d ok =
    sym (ap (λ z. stored (high_end z d)) (within_limits k2 ok).load) ∙ ap stored (high_of_lem (stored k2) d) ∙ stored_load _

-- ---- possible loads

-- a load within the limits lies between the widened ends where it is possible
module _ (k : ℤ) (d : ℕ) (load : ℤ) where
  above_low : le_z load_least load ≡ true → le_z (low_end k d) load ≡ le_z k (load +ℤ pos d)
  unfolding low_end
  above_low ok = go (le_z load_least (k -ℤ pos d)) refl ∙ less_left k load d
    where
      go : (t : Bool) → le_z load_least (k -ℤ pos d) ≡ t → le_z (cond t (k -ℤ pos d) load_least) load ≡ le_z (k -ℤ pos d) load
      go true e = refl
      go false e = ok ∙ sym (le_trans (k -ℤ pos d) load_least load (le_other load_least (k -ℤ pos d) e) ok)

  below_high : le_z load load_most ≡ true → le_z load (high_end k d) ≡ le_z (load -ℤ pos d) k
  unfolding high_end
  below_high ok = go (le_z (k +ℤ pos d) load_most) refl ∙ sym (less_left load k d)
    where
      go : (t : Bool) → le_z (k +ℤ pos d) load_most ≡ t → le_z load (cond t (k +ℤ pos d) load_most) ≡ le_z load (k +ℤ pos d)
      go true e = refl
      go false e = ok ∙ sym (le_trans load load_most (k +ℤ pos d) ok (le_other (k +ℤ pos d) load_most e))

pub possible_ends : (k1 k2 : ℤ) (d : ℕ) (load : ℤ) → load_ok load ≡ true
    → (le_z (low_end k1 d) load && le_z load (high_end k2 d)) ≡ is_possible k1 k2 d load
unfolding is_possible
possible_ends k1 k2 d load ok =
    ap₂ ◌&&◌ (above_low k1 d load (and_left (le_z load_least load) (le_z load load_most) ok))
    (below_high k2 d load (and_right (le_z load_least load) (le_z load load_most) ok))

-- ---- the plain search over the widened ends

low_end_le : (k1 : ℤ) (d : ℕ) → load_ok k1 ≡ true → le_z (low_end k1 d) k1 ≡ true
low_end_le k1 d ok = above_low k1 d k1 (and_left (le_z load_least k1) (le_z k1 load_most) ok) ∙ more_self k1 d

high_end_le : (k2 : ℤ) (d : ℕ) → load_ok k2 ≡ true → le_z k2 (high_end k2 d) ≡ true
high_end_le k2 d ok = below_high k2 d k2 (and_right (le_z load_least k2) (le_z k2 load_most) ok) ∙ less_self k2 d

-- it is not refused
pub widened_window : (t1 t2 : ℕ) (k1 k2 : ℤ) (d : ℕ) → query_ground t1 t2 k1 k2 ≡ 0 → query_ground t1 t2 (low_end k1 d) (high_end k2 d) ≡ 0
unfolding query_ground
widened_window t1 t2 k1 k2 d h =
    let low = low_end k1 d in
    let high = high_end k2 d in
    let times = ground_not 4 (not (time_ok t1 && time_ok t2)) _ (λ z. omega arith) h in
    let rest = ground_rest 4 (not (time_ok t1 && time_ok t2)) _ (λ z. omega arith) h in
    let loads = not-false (load_ok k1 && load_ok k2) (ground_not 5 (not (load_ok k1 && load_ok k2)) _ (λ z. omega arith) rest) in
    let ok = and_parts (load_ok k1) (load_ok k2) loads in
    let last = ground_rest 5 (not (load_ok k1 && load_ok k2)) _ (λ z. omega arith) rest in
    let order = or_parts (ltb t2 t1) (lt_z k2 k1) (ground_not 6 (ltb t2 t1 || lt_z k2 k1) 0 (λ z. omega arith) last) in
    let rise = not-false (le_z k1 k2) (sym (lt_not k2 k1) ∙ order.1) in
    let wide : le_z low high ≡ true = le_trans low k1 high (low_end_le k1 d ok.0) (le_trans k1 k2 high rise (high_end_le k2 d ok.1)) in
    rw (times, low_end_ok k1 d ok.0, high_end_ok k2 d ok.1, order.0, lt_not high low, wide)

-- ---- certain loads

certain_of : (low high d code : ℕ) → is_certain (load_of low) (load_of high) d (load_of code) ≡ (leb (low + d) code && leb (code + d) high)
unfolding is_certain
certain_of low high d code =
    ap₂ ◌&&◌
    (less_right (load_of low) (load_of code) d ∙ ap (λ z. le_z z (load_of code)) (more low load_shift d) ∙ load_le (low + d) code)
    (ap (λ z. le_z z (load_of high)) (more code load_shift d) ∙ load_le (code + d) high)

-- a number is stored from 1 on, so none lies between ends that have crossed
narrow : (low high d code : ℕ) → 1 ≤ low → (leb (low + d) code && leb (code + d) high) ≡ in_ends (narrowed_ends low high d) code
narrow low high d code some = go (leb (low + d) code) refl (leb (code + d) high) refl
  where
    go : (s : Bool) → leb (low + d) code ≡ s → (t : Bool) → leb (code + d) high ≡ t → (s && t) ≡ (s && leb code (high - d))
    go false e t f = refl
    go true e true f = sym (le-leb code (high - d) (omega (arith, leb-true (code + d) high f)))
    go true e false f = sym (lt-leb code (high - d) (omega (arith, leb-true (low + d) code e, leb-false (code + d) high f)))

pub certain_code : (k1 k2 : ℤ) (d code : ℕ) → load_ok k1 ≡ true → load_ok k2 ≡ true
    → is_certain k1 k2 d (load_of code) ≡ in_ends (narrowed_ends (stored k1) (stored k2) d) code
certain_code k1 k2 d code ok1 ok2 =
    let low = within_limits k1 ok1 in
    let high = within_limits k2 ok2 in
    sym (ap₂ (λ x y. is_certain x y d (load_of code)) low.load high.load)
    ∙ certain_of (stored k1) (stored k2) d code
    ∙ narrow (stored k1) (stored k2) d code low.low

pub certain_rows_lem : (k1 k2 : ℤ) (d : ℕ) → load_ok k1 ≡ true → load_ok k2 ≡ true → (rows : List (List ℕ))
    → certain_rows k1 k2 d rows ≡ rows_in_ends (narrowed_ends (stored k1) (stored k2) d) rows
unfolding certain_rows
certain_rows_lem k1 k2 d ok1 ok2 rows =
    chosen_same (λ r. is_certain k1 k2 d (load_of (code_at r 0))) (λ r. in_ends (narrowed_ends (stored k1) (stored k2) d) (code_at r 0))
    (λ r. certain_code k1 k2 d (code_at r 0) ok1 ok2)
    rows

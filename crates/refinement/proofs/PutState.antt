-- The state with one lift more is the state of the history with it. Assumes nothing.
use mathlib.Core.Path.{◌≡◌, refl, sym, ap, ◌∙◌}
use mathlib.Core.Bool.{Bool, true, false, cond, ◌&&◌}
use mathlib.Core.List.{List, [], ◌∷◌, ◌++◌, append-nil}
use Prim.Native.Nat.{ℕ, suc, ◌+◌, ◌-◌, ◌≤◌, ◌<◌}
use native.Mathlib.Decide.{dec_lt}
use native.Mathlib.Omega.{arith}
use lib.Dec.{eqb, ltb}
use lib.IntN.{ℤ, pos}
use lib.ListN.{length, drop, set, replicate}
use lib.Seq.{drop-drop, drop-append-le, set_at, append_snoc}
use lib.Signed.{lt_z}
use borrow.Author.Tests.{lt-ltb, le-ltb, eq-eqb, ne_eqb}
use Rattle.bounds.specs.Lifts.{pushed, shifted, low_with, high_with}
use Rattle.paper_log.specs.Log.{Lift}
use Rattle.refinement.specs.Inner.Segments as S
use Rattle.refinement.specs.Inner.Image.{first_start}
use Rattle.refinement.proofs.OneMore.{length_snoc}

-- the last 13 loads
pub last_loads_lem : (xs : List ℤ) (x : ℤ) → pushed (S.last_thirteen xs) (length xs) x ≡ S.last_thirteen (xs ++ (x ∷ []))
unfolding pushed S.last_thirteen shifted
last_loads_lem xs x = go (dec_lt (length xs) 13)
  where
    n : length (xs ++ (x ∷ [])) ≡ length xs + 1
    n = length_snoc xs x

    go : Dec (length xs < 13) → cond (ltb (length xs) 13) (set (S.last_thirteen xs) (length xs) x) (drop 1 (S.last_thirteen xs) ++ (x ∷ []))
        ≡ S.last_thirteen (xs ++ (x ∷ []))
    go (yes h) =
        let a : length xs - 13 ≡ 0 = omega arith in
        let b : 13 - length xs ≡ suc (12 - length xs) = omega arith in
        let c : length (xs ++ (x ∷ [])) - 13 ≡ 0 = omega (arith, n) in
        let d : 13 - length (xs ++ (x ∷ [])) ≡ 12 - length xs = omega (arith, n) in
        rw (lt-ltb (length xs) 13 h, a, b, c, d)
        (set_at xs (pos 0) (replicate (12 - length xs) (pos 0)) x (length xs) refl ∙ sym (append_snoc xs x (replicate (12 - length xs) (pos 0))))
    go (no h) =
        let k : 13 ≤ length xs = omega arith in
        let b : 13 - length xs ≡ 0 = omega arith in
        let c : length (xs ++ (x ∷ [])) - 13 ≡ length xs - 13 + 1 = omega (arith, n) in
        let d : 13 - length (xs ++ (x ∷ [])) ≡ 0 = omega (arith, n) in
        rw (le-ltb (length xs) 13 k, b, c, d)
        (ap (λ (t : List ℤ). drop 1 t ++ (x ∷ [])) (append-nil (drop (length xs - 13) xs))
        ∙ ap (λ (t : List ℤ). t ++ (x ∷ [])) (drop-drop 1 (length xs - 13) xs)
        ∙ sym (append-nil (drop (length xs - 13 + 1) (xs ++ (x ∷ []))) ∙ drop-append-le (length xs - 13 + 1) xs (x ∷ []) (omega arith)))

-- the start of the oldest retained lift, form 0's oldest live time
pub live_with_lem : (closed : List (List Lift)) (ls : List Lift) (l : Lift) (oldest next : ℕ)
    → (after : ℕ) → cond (eqb (length ls) 0 && eqb oldest (oldest + length closed)) l.time (first_start closed ls next)
    ≡ first_start closed (ls ++ (l ∷ [])) after
live_with_lem [] [] l oldest next after = let e : oldest ≡ oldest + 0 = omega arith in rw (eq-eqb oldest (oldest + 0) e)
live_with_lem [] (m ∷ ls) l oldest next after = rw (ne_eqb (suc (length ls)) 0 (λ z. omega arith))
live_with_lem (ms ∷ rest) ls l oldest next after = rw (ne_eqb oldest (oldest + suc (length rest)) (λ z. omega arith)) (off (eqb (length ls) 0))
  where
    off : (t : Bool) → cond (t && false) l.time (S.start_time ms) ≡ S.start_time ms
    off true = refl
    off false = refl

pub start_with : (ls : List Lift) (l : Lift) → cond (eqb (length ls) 0) l.time (S.start_time ls) ≡ S.start_time (ls ++ (l ∷ []))
start_with [] l = refl
start_with (m ∷ ls) l = rw (ne_eqb (suc (length ls)) 0 (λ z. omega arith))

-- the low and the high load
low_snoc : (m : ℤ) (xs : List ℤ) (x : ℤ) → S.low_from m (xs ++ (x ∷ [])) ≡ cond (lt_z x (S.low_from m xs)) x (S.low_from m xs)
unfolding S.low_from
low_snoc m [] x = refl
low_snoc m (y ∷ xs) x = low_snoc (cond (lt_z y m) y m) xs x

pub low_with_lem : (xs : List ℤ) (x : ℤ) → low_with (length xs) (S.low_of xs) x ≡ S.low_of (xs ++ (x ∷ []))
unfolding low_with S.low_from
low_with_lem [] x = refl
low_with_lem (y ∷ xs) x = rw (ne_eqb (suc (length xs)) 0 (λ z. omega arith)) (sym (low_snoc y xs x))

high_snoc : (m : ℤ) (xs : List ℤ) (x : ℤ) → S.high_from m (xs ++ (x ∷ [])) ≡ cond (lt_z (S.high_from m xs) x) x (S.high_from m xs)
unfolding S.high_from
high_snoc m [] x = refl
high_snoc m (y ∷ xs) x = high_snoc (cond (lt_z m y) y m) xs x

pub high_with_lem : (xs : List ℤ) (x : ℤ) → high_with (length xs) (S.high_of xs) x ≡ S.high_of (xs ++ (x ∷ []))
unfolding high_with S.high_from
high_with_lem [] x = refl
high_with_lem (y ∷ xs) x = rw (ne_eqb (suc (length xs)) 0 (λ z. omega arith)) (sym (high_snoc y xs x))

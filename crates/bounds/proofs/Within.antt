-- What the tests of grounds 1 to 5 and 7, 8 say where they pass: bounds as orders of numbers. By taking the tests apart. Assumes
-- nothing.
use mathlib.Core.Path.{◌≡◌, refl}
use mathlib.Core.Bool.{Bool, true, false, cond, not, ◌&&◌, ◌||◌, false≢true}
use Prim.Native.Nat.{ℕ, ◌-◌, ◌*◌, ◌≤◌, ◌<◌}
use native.Mathlib.Omega.{arith}
use lib.Dec.{eqb, leb, ltb}
use lib.IntN.{ℤ}
use borrow.Author.Tests.{ltb-true, ltb-false, leb-true, leb-false, eqb-true, eqb-false, ne_eqb, not-false}
use Rattle.codec.proofs.Truth.{and_left, and_right, or_left, or_other, or_right}
use Rattle.lift.specs.Limits.{time_ok, load_ok}
use Rattle.bounds.specs.Bounds.{exactly, serials_ok, counts_ok, span_ok}
use Rattle.bounds.specs.Grounds.{ground, nand_bad, nor_bad, format_ground, lift_ground}

-- a ground that does not hold leaves the others
pub ground_not : (n : ℕ) (holds : Bool) (rest : ℕ) → (n ≡ 0 → ⊥) → ground n holds rest ≡ 0 → holds ≡ false
ground_not n true rest h e = absurd (h e)
ground_not n false rest h e = refl

-- what a number 0 of the grounds in a row says
pub ground_rest : (n : ℕ) (holds : Bool) (rest : ℕ) → (n ≡ 0 → ⊥) → ground n holds rest ≡ 0 → rest ≡ 0
ground_rest n true rest h e = absurd (h e)
ground_rest n false rest h e = e

-- ---- the chips

pub record ChipsFit (nand nor slots : ℕ) : Type 0 where
  pub least : 2 ≤ slots
  pub most : slots ≤ 4096
  pub nand_size : nand ≡ slots * 16384
  pub nor_size : nor ≡ 6144

pub chips_fit_if : (nand nor slots : ℕ) → nand_bad nand slots ≡ false → nor_bad nor ≡ false → ChipsFit nand nor slots
chips_fit_if nand nor slots p q =
    let f = or_left (ltb slots 2) _ p in
    let r = or_right (ltb slots 2) _ p in
    record {
      least = ltb-false slots 2 f;
      most = ltb-false 4096 slots (or_left (ltb 4096 slots) _ r);
      nand_size = eqb-true nand (slots * 16384) (not-false (eqb nand (slots * 16384)) (or_right (ltb 4096 slots) _ r));
      nor_size = eqb-true nor 6144 (not-false (eqb nor 6144) q);
    }

pub chips_fitting : (nand nor slots : ℕ) → format_ground nand nor slots ≡ 0 → ChipsFit nand nor slots
unfolding format_ground
chips_fitting nand nor slots e =
    chips_fit_if nand nor slots (ground_not 1 (nand_bad nand slots) _ (λ z. omega arith) e)
    (ground_not 2 (nor_bad nor) 0 (λ z. omega arith) (ground_rest 1 (nand_bad nand slots) _ (λ z. omega arith) e))

-- ---- the state's numbers

pub record Serials (oldest current count slots : ℕ) : Type 0 where
  pub first : 1 ≤ oldest
  pub rising : oldest ≤ current
  pub last : current ≤ 999999999
  pub held : current - oldest ≤ slots
  pub fewer : 1 ≤ count → current - oldest < slots

pub serials_within : (oldest current count slots : ℕ) → serials_ok oldest current count slots ≡ true
    → Serials oldest current count slots
unfolding serials_ok
serials_within oldest current count slots e =
    let a = and_left (leb 1 oldest && (leb oldest current && leb current 999999999)) _ e in
    let b = and_right (leb 1 oldest && (leb oldest current && leb current 999999999)) _ e in
    let r = and_right (leb 1 oldest) (leb oldest current && leb current 999999999) a in
    let m = and_right (leb (current - oldest) slots) _ b in
    record {
      first = leb-true 1 oldest (and_left (leb 1 oldest) _ a);
      rising = leb-true oldest current (and_left (leb oldest current) _ r);
      last = leb-true current 999999999 (and_right (leb oldest current) _ r);
      held = leb-true (current - oldest) slots (and_left (leb (current - oldest) slots) _ b);
      fewer = λ h. ltb-true (current - oldest) slots (or_other (eqb count 0) _ (ne_eqb count 0 (λ z. omega arith)) m);
    }

pub record Counts (current count buckets : ℕ) : Type 0 where
  pub lifts : count ≤ 320
  pub few : buckets ≤ 36
  pub some : 1 ≤ count → 1 ≤ buckets
  pub goes_on : 1 ≤ count → current ≡ 999999999 → ⊥

pub counts_within : (current count buckets : ℕ) → counts_ok current count buckets ≡ true → Counts current count buckets
unfolding counts_ok
counts_within current count buckets e =
    let a = and_left (leb count 320 && leb buckets 36) _ e in
    let b = and_right (leb count 320 && leb buckets 36) _ e in
    record {
      lifts = leb-true count 320 (and_left (leb count 320) _ a);
      few = leb-true buckets 36 (and_right (leb count 320) _ a);
      some =
          λ h. bare (ne_eqb count 0 (λ z. omega arith)) (and_left (exactly (eqb buckets 0) (eqb count 0))
          (not (eqb current 999999999) || eqb count 0) b);
      goes_on =
          λ h. onward (ne_eqb count 0 (λ z. omega arith)) (and_right (exactly (eqb buckets 0) (eqb count 0))
          (not (eqb current 999999999) || eqb count 0) b);
    }
  where
    bare : eqb count 0 ≡ false → ((eqb buckets 0 && eqb count 0) || (not (eqb buckets 0) && not (eqb count 0))) ≡ true → 1 ≤ buckets
    bare f t = go (eqb buckets 0) refl (rw f at t)
      where
        go : (z : Bool) → eqb buckets 0 ≡ z → ((z && false) || (not z && true)) ≡ true → 1 ≤ buckets
        go true w u = absurd (false≢true u)
        go false w u = let n = eqb-false buckets 0 w in omega arith

    onward : eqb count 0 ≡ false → (not (eqb current 999999999) || eqb count 0) ≡ true → current ≡ 999999999 → ⊥
    onward f t = go (eqb current 999999999) refl (rw f at t)
      where
        go : (z : Bool) → eqb current 999999999 ≡ z → (not z || false) ≡ true → current ≡ 999999999 → ⊥
        go true w u = absurd (false≢true u)
        go false w u = eqb-false current 999999999 w

pub record Span (low high : ℤ) : Type 0 where
  pub low_ok : load_ok low ≡ true
  pub high_ok : load_ok high ≡ true

pub span_within : (count : ℕ) (low high : ℤ) → span_ok count low high ≡ true → Span low high
unfolding span_ok
span_within count low high e =
    let a = and_left (load_ok low && load_ok high) _ e in
    record { low_ok = and_left (load_ok low) (load_ok high) a; high_ok = and_right (load_ok low) (load_ok high) a }

-- ---- an append's lift

pub record Liftable (time : ℕ) (load : ℤ) (next current : ℕ) : Type 0 where
  pub timely : time ≤ 999999999999999
  pub load_ok : load_ok load ≡ true
  pub later : next ≤ time
  pub onward : current < 999999998

pub lift_within : (time : ℕ) (load : ℤ) (next current : ℕ) → lift_ground time load next current 0 ≡ 0
    → Liftable time load next current
unfolding lift_ground
lift_within time load next current e =
    let a = ground_not 4 (not (time_ok time)) _ (λ z. omega arith) e in
    let e5 = ground_rest 4 (not (time_ok time)) _ (λ z. omega arith) e in
    let b = ground_not 5 (not (load_ok load)) _ (λ z. omega arith) e5 in
    let e7 = ground_rest 5 (not (load_ok load)) _ (λ z. omega arith) e5 in
    let c = ground_not 7 (ltb time next) _ (λ z. omega arith) e7 in
    let e8 = ground_rest 7 (ltb time next) _ (λ z. omega arith) e7 in
    record {
      timely = leb-true time 999999999999999 (not-false (time_ok time) a);
      load_ok = not-false (load_ok load) b;
      later = ltb-false time next c;
      onward = leb-false 999999998 current (ground_not 8 (leb 999999998 current) 0 (λ z. omega arith) e8);
    }

-- the grounds after these: where none of these holds, they decide
pub lift_then : (time : ℕ) (load : ℤ) (next current rest : ℕ)
    → lift_ground time load next current rest ≡ cond (eqb (lift_ground time load next current 0) 0) rest
    (lift_ground time load next current 0)
unfolding lift_ground
lift_then time load next current rest = go (not (time_ok time)) (not (load_ok load)) (ltb time next) (leb 999999998 current)
  where
    row : Bool → Bool → Bool → Bool → ℕ → ℕ
    row a b c d n = ground 4 a (ground 5 b (ground 7 c (ground 8 d n)))

    go : (a b c d : Bool) → row a b c d rest ≡ cond (eqb (row a b c d 0) 0) rest (row a b c d 0)
    go true b c d = refl
    go false true c d = refl
    go false false true d = refl
    go false false false true = refl
    go false false false false = refl

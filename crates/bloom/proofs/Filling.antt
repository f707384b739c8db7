-- A page that is written fragment by fragment from its front until it is another.
use mathlib.Core.Path.{◌≡◌, sym, ap, ◌∙◌}
use mathlib.Core.List.{List}
use Prim.Native.Nat.{ℕ, ◌+◌, ◌-◌, ◌≤◌, ◌<◌}
use native.Mathlib.Decide.{dec_lt}
use native.Mathlib.Omega.{arith}
use lib.ListN.{length, get_or}
use lib.Seq.{ext_get_or}
use Rattle.codec.specs.Area.{splice, repeated}
use Rattle.codec.proofs.Areas.{length_repeated, length_splice, byte_before, byte_inside, byte_after}
use Rattle.bloom.proofs.Section.{zeros}

-- the first n bytes of d are those of `all`, the others 0
pub record Filled (all d : List ℕ) (n : ℕ) : Type 0 where
  pub long : length d ≡ length all
  pub same : (k : ℕ) → k < n → get_or d k 0 ≡ get_or all k 0
  pub rest : (k : ℕ) → n ≤ k → get_or d k 0 ≡ 0

pub filled_none : (all : List ℕ) (n : ℕ) → length all ≡ n → Filled all (repeated n 0) 0
filled_none all n e =
    record { long = length_repeated n 0 ∙ sym e; same = λ k h. absurd (omega arith); rest = λ k h. zeros n k }

-- p goes behind them; `all` has p there, and 0 where p is shorter than l
module _ (all d : List ℕ) (n l : ℕ) (p : List ℕ) (f : Filled all d n) (room : n + l ≤ length all) (short : length p ≤ l)
    (is : (m : ℕ) → m < length p → get_or p m 0 ≡ get_or all (n + m) 0)
    (past : (m : ℕ) → length p ≤ m → m < l → get_or all (n + m) 0 ≡ 0) where
  fits : n + length p ≤ length d
  fits = omega (arith, f.long)

  next_same : (k : ℕ) → k < n + l → get_or (splice d n p) k 0 ≡ get_or all k 0
  next_same k h = go (dec_lt k n) (dec_lt (k - n) (length p))
    where
      go : Dec (k < n) → Dec (k - n < length p) → get_or (splice d n p) k 0 ≡ get_or all k 0
      go (yes a) b = byte_before d n p fits k a ∙ f.same k a
      go (no a) (yes b) =
          let e : k ≡ n + (k - n) = omega arith in
          ap (λ (i : ℕ). get_or (splice d n p) i 0) e ∙ byte_inside d n p fits (k - n) b ∙ is (k - n) b
          ∙ ap (λ (i : ℕ). get_or all i 0) (sym e)
      go (no a) (no b) =
          let e : k ≡ n + (k - n) = omega arith in
          byte_after d n p fits k (omega arith) ∙ f.rest k (omega arith) ∙ sym (past (k - n) (omega arith) (omega arith))
          ∙ ap (λ (i : ℕ). get_or all i 0) (sym e)

  pub filled_more : Filled all (splice d n p) (n + l)
  filled_more =
      record {
        long = length_splice d n p fits ∙ f.long;
        same = next_same;
        rest = λ k h. byte_after d n p fits k (omega arith) ∙ f.rest k (omega arith);
      }

pub filled_all : (all d : List ℕ) (n : ℕ) → Filled all d n → ((k : ℕ) → n ≤ k → get_or all k 0 ≡ 0) → d ≡ all
filled_all all d n f past = ext_get_or 0 d all f.long (λ k l. go k (dec_lt k n))
  where
    go : (k : ℕ) → Dec (k < n) → get_or d k 0 ≡ get_or all k 0
    go k (yes h) = f.same k h
    go k (no h) = f.rest k (omega arith) ∙ sym (past k (omega arith))

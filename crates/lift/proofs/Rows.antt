-- What a segment's areas hold at a place is what the record of that place holds. Assumes nothing.
use mathlib.Core.Path.{◌≡◌, refl, ap, ◌∙◌}
use mathlib.Core.Bool.{Bool, true, false, cond}
use mathlib.Core.List.{List}
use Prim.Native.Nat.{ℕ, ◌+◌, ◌-◌, ◌*◌, ◌≤◌}
use native.Mathlib.Omega.{arith}
use lib.Dec.{ltb}
use lib.ListN.{length}
use Rattle.codec.specs.Area.{part}
use Rattle.codec.specs.Number.{le, number_at}
use Rattle.codec.proofs.Areas.{length_part, part_part}
use Rattle.lift.specs.Record.{time_at, code_at, member_at}
use Rattle.lift.specs.Rows.{time_in, code_in, member_in, record_in}

-- a number of a record
number_of : (s : List ℕ) (at k to n : ℕ) → at + k ≡ to → at + 32 ≤ length s → k + n ≤ 32 → number_at (part s at 32) k n ≡ number_at s to n
number_of s at k to n e h l = ap le (part_part s at 32 k n h l ∙ ap (λ (j : ℕ). part s j n) e)

module _ (lifts tail : List ℕ) (first p : ℕ) (before : p * 32 + 32 ≤ length lifts) (behind : (p - first) * 32 + 32 ≤ length tail) where
  pub time_of_record : time_at (record_in lifts tail first p) 0 ≡ time_in lifts tail first p
  unfolding record_in time_in
  time_of_record = go (ltb p first)
    where
      go : (b : Bool) → time_at (cond b (part lifts (p * 32) 32) (part tail ((p - first) * 32) 32)) 0
          ≡ cond b (time_at lifts (p * 32)) (time_at tail ((p - first) * 32))
      go true = number_of lifts (p * 32) 0 _ 8 (omega arith) before (omega arith)
      go false = number_of tail ((p - first) * 32) 0 _ 8 (omega arith) behind (omega arith)

  pub code_of_record : code_at (record_in lifts tail first p) 0 ≡ code_in lifts tail first p
  unfolding record_in code_in
  code_of_record = go (ltb p first)
    where
      go : (b : Bool) → code_at (cond b (part lifts (p * 32) 32) (part tail ((p - first) * 32) 32)) 0
          ≡ cond b (code_at lifts (p * 32)) (code_at tail ((p - first) * 32))
      go true = number_of lifts (p * 32) 8 _ 4 refl before (omega arith)
      go false = number_of tail ((p - first) * 32) 8 _ 4 refl behind (omega arith)

  pub member_of_record : member_at (record_in lifts tail first p) 0 ≡ member_in lifts tail first p
  unfolding record_in member_in
  member_of_record = go (ltb p first)
    where
      go : (b : Bool) → member_at (cond b (part lifts (p * 32) 32) (part tail ((p - first) * 32) 32)) 0
          ≡ cond b (member_at lifts (p * 32)) (member_at tail ((p - first) * 32))
      go true = number_of lifts (p * 32) 12 _ 4 refl before (omega arith)
      go false = number_of tail ((p - first) * 32) 12 _ 4 refl behind (omega arith)

  pub record_length : length (record_in lifts tail first p) ≡ 32
  unfolding record_in
  record_length = go (ltb p first)
    where
      go : (b : Bool) → length (cond b (part lifts (p * 32) 32) (part tail ((p - first) * 32) 32)) ≡ 32
      go true = length_part lifts (p * 32) 32 before
      go false = length_part tail ((p - first) * 32) 32 behind

-- `count`: the ones of the five words.
use Prim.Native.Nat.{ℕ}
use mir.Syntax.{w64}
use mir.Val.{Fits}
use lib.ListN.{get_or}
use Rattle.bitset.proofs.Counting.{members_count}
use native.Mathlib.Omega.{arith}
use borrow.Author.Rules.{rules}
use Rattle.bitset.proofs.Bits.count.Goals as goal

pub returns : goal.returns
returns c =
    let ws = c.args.self.words in
    let f : (k : ℕ) → Fits w64 (get_or ws k 0) = λ k. search rules in
    omega (arith, members_count ws (λ k. (f k).fits))

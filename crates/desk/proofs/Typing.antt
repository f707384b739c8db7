-- The bytes of the input, one by one: what is left to type from here gives what the whole gives. Assumes nothing.
use mathlib.Core.Path.{◌≡◌}
use mathlib.Core.Bool.{true, false}
use mathlib.Core.List.{List, []}
use Prim.Native.Nat.{ℕ, ◌+◌, ◌≤◌, ◌<◌}
use native.Mathlib.Numerals.{add-one}
use native.Mathlib.Omega.{arith}
use borrow.Author.Tests.{lt-ltb, le-ltb}
use lib.Dec.{eqb}
use lib.ListN.{length, take, drop, get_or, set}
use lib.Seq.{length-take-le, take-suc-set, drop-cons, drop-length}
use Rattle.lines.specs.Forms.{line_of, line_feed}
use Rattle.store.specs.World.{world}
use Rattle.desk.specs.declared.Reader.{Reader}
use Rattle.desk.specs.Obeyed.{Desk, desk, obeyed, kept, typed, typed_all}

module _ (line : List ℕ) (n b : ℕ) (h : length line ≡ 48) where
  pub push_more : n < 48 → take (n + 1) (set line n b) ≡ kept (take n line) b
  unfolding kept
  push_more l =
      let e : length (take n line) ≡ n = length-take-le n line (omega arith) in
      let m : n < length line = omega arith in
      rw (e, lt-ltb n 48 l, add-one n) (take-suc-set line n b m)

  pub push_full : n ≤ 48 → 48 ≤ n → take n line ≡ kept (take n line) b
  unfolding kept
  push_full k l =
      let e : length (take n line) ≡ n = length-take-le n line (omega arith) in
      rw (e, le-ltb n 48 l)

pub line_ended : (d : Desk) (b : ℕ) (nand nor : List ℕ) (r : Reader) → eqb b line_feed ≡ true → r.len ≡ 0
    → world nand nor r.state ≡ obeyed d.world (line_of d.line) → desk nand nor r ≡ typed d b
unfolding typed
line_ended d b nand nor r h e w = rw (h, e, w)

pub line_longer : (d : Desk) (b : ℕ) (nand nor : List ℕ) (r : Reader) → eqb b line_feed ≡ false
    → world nand nor r.state ≡ d.world → take r.len r.line ≡ kept d.line b → desk nand nor r ≡ typed d b
unfolding typed
line_longer d b nand nor r h w e = rw (h, e, w)

pub typed_step : (d e : Desk) (bytes : List ℕ) (i : ℕ) → i < length bytes → e ≡ typed d (get_or bytes i 0)
    → typed_all e (drop (i + 1) bytes) ≡ typed_all d (drop i bytes)
unfolding typed_all
typed_step d e bytes i h p = rw (p, add-one i, drop-cons bytes i 0)

pub typed_done : (d e : Desk) (bytes : List ℕ) (i : ℕ) → i ≡ length bytes → typed_all d (drop i bytes) ≡ e → d ≡ e
unfolding typed_all
typed_done d e bytes i h p =
    let z : drop i bytes ≡ [] = rw h (drop-length bytes) in
    rw z at p

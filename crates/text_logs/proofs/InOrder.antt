-- The lifts that a search of a history finds come in the order of their times, in either form, and are at most 320 for each slot. Assumes nothing.
use mathlib.Core.Path.{sym, subst}
use mathlib.Core.Bool.{Bool, true, false, cond}
use mathlib.Core.List.{List, [], ◌∷◌, ◌++◌, map, append_assoc, append-nil}
use Prim.Native.Nat.{ℕ, ◌+◌, ◌≤◌}
use native.Mathlib.Omega.{arith}
use lib.IntN.{ℤ}
use Rattle.paper_log.specs.Log.{Lift, wanted, among, joined, retained, found}
use Rattle.refinement.specs.Inner.Image.{History}
use Rattle.refinement.proofs.Good as G
use Rattle.refinement.proofs.Good.{Times, Segments, Good}
use Rattle.lift_text.specs.Text.{Told}
use Rattle.text_logs.specs.TextLog.{told_of}

-- no time is below n, nor below the one before it
abbrev pub NotFalling : ℕ → List Told → Type 0
NotFalling n [] = Unit {0}
NotFalling n (r ∷ rs) = (n ≤ r.time) × NotFalling r.time rs

from_less : (n m : ℕ) → n ≤ m → (rs : List Told) → NotFalling m rs → NotFalling n rs
from_less n m h [] f = tt
from_less n m h (r ∷ rs) f = let a = f.0 in (omega arith, f.1)

-- ---- the retained lifts

times_order : {s n m : ℕ} {ls : List Lift} → Times s n ls m → (rest : List Lift) → NotFalling m (map told_of rest) → NotFalling n (map told_of (ls ++ rest))
times_order G.none rest f = f
times_order {s} (G.more {l = l} {ls = ls} a t) rest f =
    (a, from_less l.time (l.time + s) (omega arith) (map told_of (ls ++ rest)) (times_order t rest f))

segments_order : {s n m : ℕ} {closed : List (List Lift)} → Segments s n closed m → (rest : List Lift) → NotFalling m (map told_of rest)
    → NotFalling n (map told_of (joined closed ++ rest))
unfolding joined
segments_order G.none rest f = f
segments_order {n = n} (G.more {l = l} {ls = ls} {rest = more} t ts) rest f =
    subst (λ (x : List Lift). NotFalling n (map told_of x)) (sym (append_assoc (l ∷ ls) (joined more) rest))
    (times_order t (joined more ++ rest) (segments_order ts rest f))

no_more : {s n m : ℕ} {ls : List Lift} → Times s n ls m → NotFalling n (map told_of ls)
no_more {n = n} {ls = ls} t = subst (λ (x : List Lift). NotFalling n (map told_of x)) (append-nil ls) (times_order t [] tt)

-- ---- those found among them

module _ (t1 t2 : ℕ) (k1 k2 : ℤ) where
  among_order : (ls : List Lift) (n : ℕ) → NotFalling n (map told_of ls) → NotFalling n (map told_of (among t1 t2 k1 k2 ls))
  unfolding among
  among_order [] n f = tt
  among_order (l ∷ ls) n f = go (wanted t1 t2 k1 k2 l) (among_order ls l.time f.1)
    where
      go : (t : Bool) → NotFalling l.time (map told_of (among t1 t2 k1 k2 ls))
          → NotFalling n (map told_of (cond t (l ∷ among t1 t2 k1 k2 ls) (among t1 t2 k1 k2 ls)))
      go true rest = (f.0, rest)
      go false rest = from_less n l.time f.0 (map told_of (among t1 t2 k1 k2 ls)) rest

  module _ (h : History) (g : Good h) where
    pub found_order : NotFalling 0 (map told_of (found h.log t1 t2 k1 k2))
    unfolding found
    found_order =
        among_order (retained h.log) 0
        (from_less 0 g.before (omega arith) (map told_of (retained h.log))
        (segments_order g.closed h.log.current (no_more g.current)))

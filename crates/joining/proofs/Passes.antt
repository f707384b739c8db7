-- The pass over the first log makes the pairs of the two lists: the look takes the first unused lift that fits, and what it leaves out
-- fits none of the later lifts. Assumes nothing.
use mathlib.Core.Path.{◌≡◌, refl, sym, ap, ap₂, ◌∙◌}
use mathlib.Core.Bool.{Bool, true, false, cond}
use mathlib.Core.Option.{none}
use mathlib.Core.List.{List, [], ◌∷◌, ◌++◌, map}
use Prim.Native.Nat.{ℕ, suc, ◌+◌, ◌*◌, ◌≤◌}
use native.Mathlib.Omega.{arith}
use lib.Dec.{eqb}
use lib.ListN.{length, length-append}
use borrow.Author.Tests.{lt-ltb, le-ltb}
use Rattle.codec.specs.Area.{splice}
use Rattle.codec.proofs.Areas.{length_splice, splice_none, splice_next}
use Rattle.lift.specs.Record.{time_at, member_at}
use Rattle.search.specs.Answers.{row_bytes}
use Rattle.supersets.specs.Pairs.{first_fit, without_fit, pair_with, pairs_of, side_by_side, joins}
use Rattle.supersets.proofs.Fitting.{without_none}
use Rattle.supersets.proofs.Leaving.{same_pairs}
use Rattle.whole_log.specs.Inner.Rising.{Rising}
use Rattle.joining.specs.Inner.Looking.{fit_row, taken_of, left_of}
use Rattle.joining.specs.Inner.Passing.{sought_for, made_of, free_after, written_on, Standing, join_one, join_list}
use Rattle.joining.proofs.Fitting.{joins_nobody}
use Rattle.joining.proofs.Lists.{NoneBefore, taken_first, left_without, taken_rising, left_rising, rising_left}

-- the pairs that the pass makes
unfoldable pub pass_of : Bool → List (List ℕ) → List (List ℕ) → List (List ℕ × List ℕ)
pass_of rising [] free = []
pass_of rising (a ∷ later) free = made_of rising a free ++ pass_of rising later (free_after rising a free)

-- ---- they are the pairs of the lists

rising_none : (t : ℕ) (rest : List (List ℕ)) → Rising t rest → NoneBefore t rest
rising_none t [] r = tt
rising_none t (a ∷ rest) r = (r.0, lower (rising_none (time_at a 0) rest r.1))
  where
    lower : NoneBefore (time_at a 0) rest → NoneBefore t rest
    lower n = go rest n
      where
        go : (l : List (List ℕ)) → NoneBefore (time_at a 0) l → NoneBefore t l
        go [] m = tt
        go (b ∷ l) m = let u = r.0 in let v = m.0 in (omega arith, go l m.1)

nobody_none : (a : List ℕ) → eqb (member_at a 0) 0 ≡ true → (bs : List (List ℕ)) → first_fit joins a bs ≡ none
unfolding first_fit
nobody_none a e [] = refl
nobody_none a e (b ∷ bs) = rw (joins_nobody a b e) (nobody_none a e bs)

-- the times of both lists never fall, where the look goes by that
pub record NeverFall (rising : Bool) (first free : List (List ℕ)) : Type 0 where
  pub since : ℕ
  pub firsts : rising ≡ true → Rising since first
  pub from : ℕ
  pub frees : rising ≡ true → Rising from free

-- one lift: its pair, and the pairs of the later ones
made_first : (rising : Bool) (a : List ℕ) (later free : List (List ℕ)) → NeverFall rising (a ∷ later) free
    → (made_of rising a free ≡ pair_with joins a (first_fit joins a free))
    × (pairs_of joins later (free_after rising a free) ≡ pairs_of joins later (without_fit joins a free))
unfolding made_of free_after
made_first rising a later free n = go rising (eqb (member_at a 0) 0) refl n.firsts n.frees
  where
    go : (r m : Bool) → eqb (member_at a 0) 0 ≡ m → (r ≡ true → Rising n.since (a ∷ later)) → (r ≡ true → Rising n.from free)
        → (cond m [] (pair_with joins a (taken_of r (fit_row (sought_for r a)) free)) ≡ pair_with joins a (first_fit joins a free))
        × (pairs_of joins later (cond m free (left_of r (fit_row (sought_for r a)) free)) ≡ pairs_of joins later (without_fit joins a free))
    go r true e f g =
        let z = nobody_none a e free in
        (rw z, ap (pairs_of joins later) (sym (without_none joins a free z)))
    go false false e f g =
        (ap (pair_with joins a) (taken_first a e free), ap (pairs_of joins later) (left_without a e free))
    go true false e f g = (
      ap (pair_with joins a) (taken_rising a e free n.from (g refl)),
      same_pairs joins later _ _ (left_rising a e later (rising_none (time_at a 0) later (f refl).1) free n.from (g refl)),
    )

-- the later ones go on as before
falls_after : (rising : Bool) (a : List ℕ) (later free : List (List ℕ)) → NeverFall rising (a ∷ later) free
    → NeverFall rising later (free_after rising a free)
unfolding free_after
falls_after rising a later free n =
    record {
      since = time_at a 0;
      firsts = λ e. (n.firsts e).1;
      from = n.from;
      frees = go rising (eqb (member_at a 0) 0) refl n.frees;
    }
  where
    go : (r m : Bool) → eqb (member_at a 0) 0 ≡ m → (r ≡ true → Rising n.from free) → r ≡ true
        → Rising n.from (cond m free (left_of r (fit_row (sought_for r a)) free))
    go r true e f h = f h
    go true false e f h = rising_left a e free n.from (f h)
    go false false e f h = absurd (let z : ◌≡◌ {A = ℕ} 0 1 = cc in omega arith)

pub pass_pairs : (rising : Bool) (first free : List (List ℕ)) → NeverFall rising first free → pass_of rising first free ≡ pairs_of joins first free
unfolding pass_of pairs_of
pass_pairs rising [] free n = refl
pass_pairs rising (a ∷ later) free n =
    let m = made_first rising a later free n in
    ap₂ ◌++◌ m.0 (pass_pairs rising later (free_after rising a free) (falls_after rising a later free n) ∙ m.1)

-- ---- what the pass leaves

written_append : (rows n : ℕ) (area : List ℕ) (ps qs : List (List ℕ × List ℕ))
    → written_on rows n area (ps ++ qs) ≡ written_on rows (n + length ps) (written_on rows n area ps) qs
unfolding written_on
written_append rows n area [] qs = let z : n + 0 ≡ n = omega arith in rw z
written_append rows n area (p ∷ ps) qs =
    let z : n + suc (length ps) ≡ n + 1 + length ps = omega arith in
    rw z (written_append rows (n + 1) _ ps qs)

pub record Comes (rising : Bool) (rows : ℕ) (first : List (List ℕ)) (s : Standing) : Type 0 where
  pub count_is : (join_list rising rows first s).count ≡ s.count + length (pass_of rising first s.free)
  pub area_is : (join_list rising rows first s).area ≡ written_on rows s.count s.area (pass_of rising first s.free)

pub list_comes : (rising : Bool) (rows : ℕ) (first : List (List ℕ)) (s : Standing) → Comes rising rows first s
unfolding join_list join_one pass_of written_on
list_comes rising rows [] s = record { count_is = omega arith; area_is = refl }
list_comes rising rows (a ∷ later) s =
    let ih = list_comes rising rows later (join_one rising rows a s) in
    let made = made_of rising a s.free in
    let rest = pass_of rising later (free_after rising a s.free) in
    let l : s.count + length made + length rest ≡ s.count + length (made ++ rest) = omega (arith, length-append made rest) in
    record { count_is = ih.count_is ∙ l; area_is = ih.area_is ∙ sym (written_append rows s.count s.area made rest) }

-- nothing is written where no rows are asked for
pub written_none : (n : ℕ) (area : List ℕ) (ps : List (List ℕ × List ℕ)) → written_on 0 n area ps ≡ area
unfolding written_on
written_none n area [] = refl
written_none n area (p ∷ ps) = rw (le-ltb n 0 (omega arith)) (written_none (n + 1) area ps)

-- a pair has 64 bytes
abbrev pub WidePairs : List (List ℕ × List ℕ) → Type 0
WidePairs [] = Unit {0}
WidePairs (p ∷ ps) = (length (side_by_side p) ≡ 64) × WidePairs ps

-- all are written, side by side
pub written_all : (rows n : ℕ) (area : List ℕ) (ps : List (List ℕ × List ℕ)) → WidePairs ps → n + length ps ≤ rows → rows * 64 ≤ length area
    → written_on rows n area ps ≡ splice area (n * 64) (row_bytes (map side_by_side ps))
unfolding written_on row_bytes
written_all rows n area [] w h r = sym (splice_none area (n * 64) [] refl)
written_all rows n area (p ∷ ps) w h r =
    let l : n * 64 + length (side_by_side p) ≤ length area = omega (arith, w.0) in
    let s = length_splice area (n * 64) (side_by_side p) l in
    rw (lt-ltb n rows (omega arith))
    (written_all rows (n + 1) (splice area (n * 64) (side_by_side p)) ps w.1 (omega arith) (omega arith)
    ∙ splice_next area (n * 64) (side_by_side p) ((n + 1) * 64) (row_bytes (map side_by_side ps)) (omega (arith, w.0)) (omega arith))

-- What each step of the paper log does to its retained lifts: a close keeps them, a drop takes the oldest serial's off, a lift that is put comes
-- last. So over a list of calls those appended less those dropped stay. Assumes nothing.
use mathlib.Core.Path.{◌≡◌, refl, sym, ap, ◌∙◌}
use mathlib.Core.Bool.{Bool, true, false, cond}
use mathlib.Core.List.{List, [], ◌∷◌, ◌++◌, append_assoc, append-nil}
use Prim.Native.Nat.{◌+◌}
use native.Mathlib.Omega.{arith}
use lib.Dec.{eqb, leb}
use lib.ListN.{length, length-append}
use Rattle.paper_log.specs.Log.{Lift, Log, is_full, joined, retained, close_log, drop_log, room_log, shed_log, put_log, append_log}
use Rattle.paper_log.specs.Calls as Paper
use Rattle.refinement.proofs.Wanted.{joined_append}
use Rattle.keeping_up.specs.KeptRun.{oldest_lifts, appends, drops, appended, dropped}

-- a step that keeps something keeps it also where it is not taken
pub either_way : {A B : Type 0} (f : A → B) (t : Bool) (a b : A) → f a ≡ f b → f (cond t a b) ≡ f b
either_way f true a b e = e
either_way f false a b e = refl

-- ---- the steps

pub close_keeps : (g : Log) → retained (close_log g) ≡ retained g
unfolding close_log joined
close_keeps g =
    append-nil (joined (g.closed ++ (g.current ∷ []))) ∙ joined_append g.closed (g.current ∷ [])
    ∙ ap (λ (ls : List Lift). joined g.closed ++ ls) (append-nil g.current)

pub drop_takes : (g : Log) (ls : List Lift) (rest : List (List Lift)) → g.closed ≡ ls ∷ rest → retained g ≡ ls ++ retained (drop_log g)
unfolding drop_log joined
drop_takes g ls rest is = rw is (append_assoc ls (joined rest) g.current)

pub put_last : (g : Log) (l : Lift) → retained (put_log g l) ≡ retained g ++ (l ∷ [])
unfolding put_log
put_last g l = sym (append_assoc (joined g.closed) g.current (l ∷ []))

-- ---- how many they are

drop_count : (g : Log) → length (retained (drop_log g)) + oldest_lifts g.closed ≡ length (retained g)
unfolding drop_log
drop_count g = go g.closed refl
  where
    go : (c : List (List Lift)) → g.closed ≡ c → length (retained (drop_log g)) + oldest_lifts g.closed ≡ length (retained g)
    go [] e = rw e (omega arith)
    go (ls ∷ rest) e = omega (arith, ap oldest_lifts e, ap length (drop_takes g ls rest e), length-append ls (retained (drop_log g)))

shed_count : (g : Log)
    → length (retained (shed_log g)) + cond (leb g.slots (length g.closed)) (oldest_lifts g.closed) 0 ≡ length (retained g)
unfolding shed_log
shed_count g = go (leb g.slots (length g.closed))
  where
    go : (t : Bool) → length (retained (cond t (drop_log g) g)) + cond t (oldest_lifts g.closed) 0 ≡ length (retained g)
    go true = drop_count g
    go false = omega arith

after_count : (g : Log) (c : Paper.Call) → length (retained (Paper.after g c)) + drops g c ≡ length (retained g) + appends c
unfolding Paper.after drops appends append_log room_log
after_count g (Paper.append k l) =
    let r : Log = room_log g l.load in
    let s : Log = shed_log r in
    omega (
      arith,
      ap length (put_last s l),
      length-append (retained s) (l ∷ []),
      shed_count r,
      ap length (either_way retained (is_full g.current l.load) (close_log g) g (close_keeps g)),
    )
after_count g (Paper.close k) = omega (arith, ap length (close_keeps g))
after_count g (Paper.drop k) = omega (arith, drop_count g)
after_count g (Paper.search k t1 t2 k1 k2 rows) = refl

stepped_count : (g : Log) (c : Paper.Call) → length (retained (Paper.stepped g c)) + cond (eqb (Paper.number_of g c) 0) (drops g c) 0
    ≡ length (retained g) + cond (eqb (Paper.number_of g c) 0) (appends c) 0
unfolding Paper.stepped
stepped_count g c = go (eqb (Paper.number_of g c) 0)
  where
    go : (t : Bool) → length (retained (cond t (Paper.after g c) g)) + cond t (drops g c) 0 ≡ length (retained g) + cond t (appends c) 0
    go true = after_count g c
    go false = refl

-- "the lifts appended less those dropped"
pub log_count : (cs : List Paper.Call) (g : Log) → length (retained (Paper.log_after g cs)) + dropped g cs ≡ length (retained g) + appended g cs
unfolding Paper.log_after appended dropped
log_count [] g = refl
log_count (c ∷ cs) g = omega (arith, stepped_count g c, log_count cs (Paper.stepped g c))

-- What a plain paper log answers to a tolerant search (document 02, W-209). Assumes nothing.
use Rattle.std.specs.Prelude.{Bool, cond, not, ◌&&◌, List, map, ℕ, eqb, leb, ℤ}
use Rattle.codec.specs.Lists.{chosen}
use Rattle.bounds.specs.Grounds.{ground}
use Rattle.paper_log.specs.Log.{Lift, Log, retained, row_of}
use Rattle.tolerance.specs.Tolerance.{is_certain, is_possible}
use Rattle.tolerance.specs.Grounds.{tolerance_ground}
use Rattle.tolerant.specs.Answers.{TolerantAnswer, refused_both, listed_both}

-- t1 ≤ time ≤ t2
abbrev pub is_timely : ℕ → ℕ → Lift → Bool
is_timely t1 t2 l = leb t1 l.time && leb l.time t2

-- the retained lifts within the times, by serial, then arrival: those with load − d ≥ k1 and load + d ≤ k2
unfoldable pub certain_lifts : Log → ℕ → ℕ → ℤ → ℤ → ℕ → List Lift
certain_lifts g t1 t2 k1 k2 d = chosen (λ l. is_timely t1 t2 l && is_certain k1 k2 d l.load) (retained g)

-- and those with load + d ≥ k1 and load − d ≤ k2
unfoldable pub possible_lifts : Log → ℕ → ℕ → ℤ → ℤ → ℕ → List Lift
possible_lifts g t1 t2 k1 k2 d = chosen (λ l. is_timely t1 t2 l && is_possible k1 k2 d l.load) (retained g)

-- another S gets number 1, any other call the first of 4, 5, 17, 6 and 12 that holds, or 0 with both lists as records
unfoldable pub tolerant_of_log : Log → ℕ → ℕ → ℕ → ℤ → ℤ → ℕ → List ℕ → List ℕ → TolerantAnswer
tolerant_of_log g slots t1 t2 k1 k2 d certain_area possible_area =
    let n = ground 1 (not (eqb slots g.slots)) (tolerance_ground t1 t2 k1 k2 d) in
    cond (eqb n 0)
    (listed_both certain_area possible_area (map row_of (certain_lifts g t1 t2 k1 k2 d)) (map row_of (possible_lifts g t1 t2 k1 k2 d)))
    (refused_both n certain_area possible_area)

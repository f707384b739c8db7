-- The tolerant search (document 02, W-209), for any chips and any state. Assumes nothing.
use Rattle.std.specs.Prelude.{cond, List, ℕ, eqb, ℤ}
use Rattle.std.proofs.Math.Option.{Option}
use Rattle.found.specs.Found.{found_rows}
use Rattle.store.specs.World.{World, liveness_of}
use Rattle.store.specs.Calls.{state_ground}
use Rattle.questions.specs.Queries.{log_of, query_of}
use Rattle.tolerance.specs.Tolerance.{low_end, high_end, certain_rows}
use Rattle.tolerance.specs.Grounds.{tolerance_ground}
use Rattle.tolerant.specs.Answers.{TolerantAnswer, refused_both, tolerant_answer}

-- grounds 1 to 3, then 4, 5, 17 and 6
unfoldable pub tolerant_ground : World → ℕ → ℕ → ℕ → ℤ → ℤ → ℕ → ℕ
tolerant_ground w slots t1 t2 k1 k2 d = state_ground w slots (tolerance_ground t1 t2 k1 k2 d)

-- "one plain search over the widened ends"
unfoldable pub widened_rows : World → ℕ → ℕ → ℕ → ℤ → ℤ → ℕ → Option (List (List ℕ))
widened_rows w slots t1 t2 k1 k2 d =
    found_rows w.nand w.nor w.state.page (log_of w.state slots) (liveness_of w) (query_of t1 t2 (low_end k1 d) (high_end k2 d))

-- then grounds 10 and 12, and the two lists
unfoldable pub tolerant_outcome : World → ℕ → ℕ → ℕ → ℤ → ℤ → ℕ → List ℕ → List ℕ → TolerantAnswer
tolerant_outcome w slots t1 t2 k1 k2 d certain_area possible_area =
    let n = tolerant_ground w slots t1 t2 k1 k2 d in
    cond (eqb n 0)
    (tolerant_answer (certain_rows k1 k2 d) certain_area possible_area (widened_rows w slots t1 t2 k1 k2 d))
    (refused_both n certain_area possible_area)

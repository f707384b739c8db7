-- The call for pairs over two stores (document 02, W-208), for any chips and any states. Assumes nothing.
use Rattle.std.specs.Prelude.{cond, List, ℕ, eqb}
use Rattle.std.proofs.Math.Option.{Option}
use Rattle.bounds.specs.Grounds.{sooner}
use Rattle.lift.specs.Limits.{time_limit, load_least, load_most}
use Rattle.found.specs.Found.{found_rows}
use Rattle.store.specs.World.{World, liveness_of}
use Rattle.questions.specs.Queries.{log_of, query_of, search_ground}
use Rattle.pairs.specs.Answers.{PairsAnswer, refused_pairs, pairs_answer}

-- "Take both logs as a search over all times and loads gives or refuses them, ground 12 aside": its grounds 1 to 3, and what it finds
unfoldable pub whole_ground : World → ℕ → ℕ
whole_ground w slots = search_ground w slots 0 time_limit load_least load_most

unfoldable pub whole_log : World → ℕ → Option (List (List ℕ))
whole_log w slots =
    found_rows w.nand w.nor w.state.page (log_of w.state slots) (liveness_of w) (query_of 0 time_limit load_least load_most)

-- each ground is tried on the first store and then on the second before the next is
unfoldable pub pairs_outcome : World → ℕ → World → ℕ → List ℕ → PairsAnswer
pairs_outcome w1 slots1 w2 slots2 area =
    let n = sooner (whole_ground w1 slots1) (whole_ground w2 slots2) in
    cond (eqb n 0) (pairs_answer area (whole_log w1 slots1) (whole_log w2 slots2)) (refused_pairs n area)

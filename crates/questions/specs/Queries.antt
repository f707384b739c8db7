-- The calls that read: search and tally, with their grounds in checking order (document 01, "Twelve grounds"), for any chips and
-- any state. Assumes nothing.
use Rattle.std.specs.Prelude.{cond, List, ℕ, eqb, ℤ}
use Rattle.lift.specs.Limits.{load_least, load_most, stored}
use Rattle.plate.specs.Plate.{no_counts}
use Rattle.visit.specs.declared.Log.{Log}
use Rattle.visit.specs.declared.Query.{Query}
use Rattle.found.specs.Found.{found_rows}
use Rattle.found.specs.Pages.{pages_read}
use Rattle.search.specs.Answers.{SearchAnswer, search_answer, refused_answer}
use Rattle.tally.specs.Answers.{TallyAnswer, tally_answer}
use Rattle.bounds.specs.Grounds.{query_ground}
use Rattle.store.specs.declared.State.{State}
use Rattle.store.specs.World.{World, liveness_of}
use Rattle.store.specs.Calls.{state_ground}

-- what a search needs of the state
abbrev pub log_of : State → ℕ → Log
log_of s slots = record {
  slots = slots;
  current = s.current;
  count = s.count;
  buckets = s.buckets;
  start = s.start;
  oldest = s.oldest;
  heads = s.heads;
}

-- the question, its loads as stored
abbrev pub query_of : ℕ → ℕ → ℤ → ℤ → Query
query_of t1 t2 k1 k2 = record { t1 = t1; t2 = t2; k1 = stored k1; k2 = stored k2 }

-- grounds 1 to 6: both times, then both loads, then both ranges
unfoldable pub search_ground : World → ℕ → ℕ → ℕ → ℤ → ℤ → ℕ
search_ground w slots t1 t2 k1 k2 = state_ground w slots (query_ground t1 t2 k1 k2)

-- grounds 10 and 12, then the rows and the pages read
unfoldable pub search_outcome : World → ℕ → ℕ → ℕ → ℤ → ℤ → List ℕ → SearchAnswer
search_outcome w slots t1 t2 k1 k2 area =
    let n = search_ground w slots t1 t2 k1 k2 in
    cond (eqb n 0)
    (search_answer area (pages_read w.nand (log_of w.state slots) (liveness_of w) (query_of t1 t2 k1 k2))
    (found_rows w.nand w.nor w.state.page (log_of w.state slots) (liveness_of w) (query_of t1 t2 k1 k2)))
    (refused_answer n area)

-- "it counts what a search over all loads finds, and refuses as that would, ground 12 aside"
unfoldable pub tally_outcome : World → ℕ → ℕ → ℕ → TallyAnswer
tally_outcome w slots t1 t2 =
    let n = search_ground w slots t1 t2 load_least load_most in
    cond (eqb n 0)
    (tally_answer (found_rows w.nand w.nor w.state.page (log_of w.state slots) (liveness_of w)
    (query_of t1 t2 load_least load_most)))
    (record { number = n; counts = no_counts })

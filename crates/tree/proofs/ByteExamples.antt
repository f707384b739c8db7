-- Trees in bytes by computation: what is read, a search, the writes of the fourteenth of equal loads. Assumes nothing.
use mathlib.Core.Path.{◌≡◌, refl}
use mathlib.Core.Bool.{true, false}
use mathlib.Core.Option.{none, some}
use mathlib.Core.List.{[], ◌∷◌, ◌++◌}
use lib.ListN.{get_or}
use Rattle.codec.specs.Area.{part, splice, repeated, all_ones}
use Rattle.codec.specs.Number.{le, bytes}
use Rattle.lift.specs.Limits.{stored}
use Rattle.split.specs.Split.{overlap, rule, bring, mid, sum, weighed, slope, fitted, low_from, high_from, low, high, midpoint}
use Rattle.tree.specs.Rules.{Bucket, split}
use Rattle.tree.specs.Search.{hits}
use Rattle.tree.specs.Place.{bucket_start}
use Rattle.tree.specs.Bytes.{places, entry_bytes, bucket_bytes, tree_bytes}
use Rattle.tree.specs.Reading.{bucket_at, entries_from, node_in, kids_of, positions_good, node_good}
use Rattle.tree.specs.Sweep.{records_good, visited_from, gathered, sweep_on}
use Rattle.tree.specs.Plan.{Plan, split_bucket, plan_from, plan_on}
use Rattle.tree.specs.Writes.{writes_of, all_clear, all_written}
use Rattle.tree.proofs.Examples.{entries, equal, rising, grown, thirteen, fourteen}

-- the range (499, 500] is split at 500
abbrev narrow : Bucket
narrow = record { x = 50500; y = 50501; kids = split 50501 (some 7) none; entries = entries 0 (equal 13) }

good_nodes :
    (node_good (node_in (bucket_at (tree_bytes grown) 0)) 0 3 15 ≡ true)
    × (node_good (node_in (bucket_bytes narrow)) 6 8 13 ≡ true)
    × (node_good (node_in (bucket_bytes narrow)) 7 8 13 ≡ false)
    × (node_good (node_in (bucket_bytes narrow)) 6 7 13 ≡ false)
    × (node_good (node_in (bucket_bytes narrow)) 6 8 12 ≡ false)
unfolding bucket_start tree_bytes places bucket_bytes entry_bytes node_in entries_from kids_of positions_good node_good part repeated le bytes
good_nodes = (refl, refl, refl, refl, refl)

-- a search of the bytes, and one where a record has another load
sweeps :
    (sweep_on (tree_bytes grown) 3 15 (λ p. get_or (rising ++ (50901 ∷ 50756 ∷ [])) p 0) 50601 50901
    ≡ some (10 ∷ 11 ∷ 12 ∷ 13 ∷ 14 ∷ []))
    × (sweep_on (tree_bytes grown) 3 15 (λ p. get_or rising p 0) 50601 50901 ≡ none)
unfolding bucket_start tree_bytes places bucket_bytes entry_bytes node_in entries_from kids_of positions_good node_good part repeated le bytes
    sweep_on gathered visited_from records_good hits
sweeps = (refl, refl)

-- the fourteenth load splits the root: the plan, and what its writes leave
abbrev plan : Plan
plan = plan_on (tree_bytes thirteen) 1 13 (equal 13) 50501

planned : plan ≡ split_bucket 0 50501 12 0 50501
unfolding bucket_start tree_bytes places bucket_bytes entry_bytes node_in entries_from kids_of positions_good node_good part repeated le bytes
    plan_on plan_from midpoint mid overlap rule bring low high low_from high_from fitted slope sum weighed stored
planned = refl

after_writes :
    (all_clear (tree_bytes thirteen) (writes_of (split_bucket 0 50501 12 0 50501) 1 50501 13) ≡ true)
    × (all_written (tree_bytes thirteen) (writes_of (split_bucket 0 50501 12 0 50501) 1 50501 13) ≡ tree_bytes fourteen)
unfolding bucket_start tree_bytes places bucket_bytes entry_bytes part splice repeated bytes all_ones writes_of all_clear all_written
after_writes = (refl, refl)

-- The call for pairs over two stores that are reached from formats (document 02, W-208), in either form: it lists the pairs of all lifts
-- that the two paper logs hold, or refuses by ground 16, and by no other ground. Assumes nothing.
use mathlib.Core.Path.{◌≡◌, refl, sym, ap, ap₂, ◌∙◌}
use mathlib.Core.Bool.{Bool, true, false, cond}
use mathlib.Core.Logic.{◌⊎◌, inl, inr}
use mathlib.Core.Option.{Option, some}
use mathlib.Core.List.{List, map}
use Prim.Native.Nat.{ℕ, ◌≤◌}
use lib.Dec.{ltb}
use lib.ListN.{length}
use Rattle.codec.specs.Area.{splice}
use Rattle.bounds.specs.Grounds.{sooner}
use Rattle.search.specs.Answers.{row_bytes}
use Rattle.form.specs.declared.Form.{Form}
use Rattle.store.specs.World.{World}
use Rattle.store.specs.Calls.{format_outcome}
use Rattle.paper_log.specs.Log.{Log, begun}
use Rattle.paper_log.specs.Calls as Paper
use Rattle.refinement.specs.Run.{Request, call_of, run_after, AllTyped}
use Rattle.refinement.proofs.AllFound.{no_ground, all_rows_lem}
use Rattle.round_trips.specs.Reaches.{Chips, Reaches}
use Rattle.round_trips.proofs.Known.{Known, known}
use Rattle.round_trips.proofs.RoundTrips.{after_calls}
use Rattle.supersets.specs.Pairs.{pair_rows}
use Rattle.pairs.specs.Answers.{PairsAnswer, whole_pairs, refused_pairs, listed, pairs_answer}
use Rattle.pairs.specs.Call.{whole_ground, whole_log, pairs_outcome}
use Rattle.paired_logs.specs.AllRows.{all_rows}

-- ---- one store

module _ (slots : ℕ) (least : 2 ≤ slots) (most : slots ≤ 4096) {w : World} {g : Log} (r : Reaches slots w g) where
  k : Known slots w g
  k = known slots least most r

  ground_passes : whole_ground w slots ≡ 0
  unfolding whole_ground
  ground_passes = ap₂ {C = ℕ} whole_ground k.world (sym k.same_slots) ∙ no_ground k.history k.good

  -- "as a search over all times and loads gives" it: all lifts of the paper log
  log_is : whole_log w slots ≡ some (all_rows g)
  unfolding whole_log
  log_is =
      ap₂ {C = Option (List (List ℕ))} whole_log k.world (sym k.same_slots) ∙ all_rows_lem k.history k.good
      ∙ ap (λ (l : Log). some (all_rows l)) k.log

-- ---- two stores

zero_or_16 : (area : List ℕ) (pairs : List (List ℕ)) → ((listed area pairs).number ≡ 0) ⊎ ((listed area pairs).number ≡ 16)
zero_or_16 area pairs = go (ltb (whole_pairs area) (length pairs))
  where
    all : PairsAnswer
    all = record { number = 0; count = length pairs; area = splice area 0 (row_bytes pairs) }

    go : (t : Bool) → ((cond t (refused_pairs 16 area) all).number ≡ 0) ⊎ ((cond t (refused_pairs 16 area) all).number ≡ 16)
    go true = inr refl
    go false = inl refl

module _ (slots1 slots2 : ℕ) (least1 : 2 ≤ slots1) (most1 : slots1 ≤ 4096) (least2 : 2 ≤ slots2) (most2 : slots2 ≤ 4096) where
  module _ {w1 w2 : World} {g1 g2 : Log} (first : Reaches slots1 w1 g1) (second : Reaches slots2 w2 g2) (area : List ℕ) where
    -- the pairs are those of all retained lifts of the two paper logs
    pub pairs_reached : pairs_outcome w1 slots1 w2 slots2 area ≡ listed area (pair_rows (all_rows g1) (all_rows g2))
    unfolding pairs_outcome sooner pairs_answer
    pairs_reached =
        rw (
          ground_passes slots1 least1 most1 first,
          ground_passes slots2 least2 most2 second,
          log_is slots1 least1 most1 first,
          log_is slots2 least2 most2 second,
        )

    -- accepted, or "the pairs outnumber the whole 64-byte rows of their area"
    pub pairs_or_16 : ((pairs_outcome w1 slots1 w2 slots2 area).number ≡ 0) ⊎ ((pairs_outcome w1 slots1 w2 slots2 area).number ≡ 16)
    pairs_or_16 = rw pairs_reached (zero_or_16 area (pair_rows (all_rows g1) (all_rows g2)))

  -- after an accepted format and any list of calls, each
  pub pairs_of_calls : (v1 v2 : Form) (nand1 nor1 nand2 nor2 : List ℕ) → Chips slots1 nand1 nor1 → Chips slots2 nand2 nor2
      → (calls1 calls2 : List Request) → AllTyped calls1 → AllTyped calls2 → (area : List ℕ)
      → pairs_outcome (run_after (format_outcome v1 nand1 nor1 slots1).world calls1) slots1
      (run_after (format_outcome v2 nand2 nor2 slots2).world calls2) slots2 area
      ≡ listed area (pair_rows (all_rows (Paper.log_after (begun v1 slots1) (map call_of calls1)))
      (all_rows (Paper.log_after (begun v2 slots2) (map call_of calls2))))
  pairs_of_calls v1 v2 nand1 nor1 nand2 nor2 chips1 chips2 calls1 calls2 typed1 typed2 area =
      pairs_reached (after_calls slots1 v1 nand1 nor1 chips1 calls1 typed1) (after_calls slots2 v2 nand2 nor2 chips2 calls2 typed2) area

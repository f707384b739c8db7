-- Searches and tallies before and after a conversion agree: both answer as the paper log, and the lifts are the same. Assumes nothing.
use mathlib.Core.Path.{◌≡◌, sym, ◌∙◌}
use mathlib.Core.List.{List}
use Prim.Native.Nat.{ℕ}
use lib.IntN.{ℤ}
use Rattle.form.specs.declared.Form.{Form}
use Rattle.questions.specs.Queries.{search_outcome, tally_outcome}
use Rattle.paper_log.specs.Log.{found}
use Rattle.paper_log.specs.Calls as Paper
use Rattle.refinement.specs.Inner.Image.{History, image}
use Rattle.refinement.specs.Run.{searched}
use Rattle.refinement.proofs.Good.{Good}
use Rattle.refinement.proofs.SearchStep.{search_step}
use Rattle.refinement.proofs.TallyFound.{tally_is}
use Rattle.round_trips.proofs.Histories.{into}

pub answers_agree : (f : Form) (h : History) → Good h → Good (into f h) → (k t1 t2 : ℕ) (k1 k2 : ℤ) (area : List ℕ)
    → searched (search_outcome (image (into f h)) k t1 t2 k1 k2 area) ≡ searched (search_outcome (image h) k t1 t2 k1 k2 area)
unfolding Paper.number_of found
answers_agree f h g g' k t1 t2 k1 k2 area = search_step (into f h) g' k t1 t2 k1 k2 area ∙ sym (search_step h g k t1 t2 k1 k2 area)

pub tallies_agree : (f : Form) (h : History) → Good h → Good (into f h) → (k t1 t2 : ℕ)
    → tally_outcome (image (into f h)) k t1 t2 ≡ tally_outcome (image h) k t1 t2
unfolding Paper.tally_number Paper.number_of found
tallies_agree f h g g' k t1 t2 = tally_is (into f h) g' k t1 t2 ∙ sym (tally_is h g k t1 t2)

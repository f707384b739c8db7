-- The loads of a segment's rows are those that the code reads, place by place. Assumes nothing.
use mathlib.Core.Path.{◌≡◌, refl, sym, ap, ◌∙◌}
use mathlib.Core.List.{List, [], ◌∷◌, map}
use Prim.Native.Nat.{ℕ}
use Rattle.bitset.specs.Inner.Words.{Below}
use Rattle.lift.specs.Rows.{code_in, record_in}
use Rattle.lift.proofs.Rows.{code_of_record}
use Rattle.sweep.specs.declared.Records.{Records}
use Rattle.sweep.specs.Inner.Swept.{Recorded}
use Rattle.visit.proofs.Emptying.{recorded_at}
use Rattle.found.proofs.Placed.{Placed}
use Rattle.tally.specs.Answers.{row_codes}

codes_are : (lifts tail : List ℕ) (g : Records) → Recorded lifts tail g → (ps : List ℕ) → Below g.count ps
    → row_codes (map (record_in lifts tail g.first) ps) ≡ map (code_in lifts tail g.first) ps
codes_are lifts tail g r [] b = refl
codes_are lifts tail g r (p ∷ ps) b =
    let h = recorded_at lifts tail g p r b.0 in
    rw (code_of_record lifts tail g.first p h.0 h.1, codes_are lifts tail g r ps b.1)

pub placed_codes : (l tail : List ℕ) (g : Records) (ps : List ℕ) (rows : List (List ℕ)) → Placed l tail g ps rows
    → map (code_in l tail g.first) ps ≡ row_codes rows
placed_codes l tail g ps rows p = sym (codes_are l tail g p.recorded ps p.below) ∙ ap row_codes p.are

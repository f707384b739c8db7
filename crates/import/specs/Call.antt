-- The import into a store (document 02, W-211), with kept counts and without, for any chips, any state, any counts and any text. Assumes nothing.
use Rattle.std.specs.Prelude.{List, ◌++◌, ℕ}
use Rattle.codec.specs.Area.{repeated}
use Rattle.codec.specs.Number.{bytes}
use Rattle.lift_text.specs.Text.{Told}
use Rattle.counts.specs.Counts.{counts_broken}
use Rattle.store.specs.World.{World}
use Rattle.store.specs.Calls.{Outcome, state_ground, append_outcome}
use Rattle.keeping.specs.Keeping.{Store, Counted, with_ground, append_kept}
use Rattle.import.specs.Fold.{Imported, import_text}

-- the member in note bytes 0 to 3, "the other note bytes 0"
unfoldable pub note_of : ℕ → List ℕ
note_of member = bytes 4 member ++ repeated 16 0

-- ---- without counts

abbrev pub append_told : ℕ → World → Told → Outcome
append_told slots w r = append_outcome w slots r.time r.load (note_of r.member)

unfoldable pub import_outcome : World → ℕ → List ℕ → Imported World
import_outcome w slots text = import_text (λ v. state_ground v slots 0) (λ v r. (append_told slots v r).number) (λ v r. (append_told slots v r).world) text w

-- ---- "keeping any counts"

-- ground 3 looks at the counts too
abbrev pub ground_kept : ℕ → Store → ℕ
ground_kept slots s = with_ground 3 (counts_broken s.counts) (state_ground s.world slots 0)

abbrev pub append_told_kept : ℕ → Store → Told → Counted
append_told_kept slots s r = append_kept s.world slots r.time r.load (note_of r.member) s.counts

abbrev pub store_of : Counted → Store
store_of c = record { world = c.world; counts = c.counts }

unfoldable pub import_kept : Store → ℕ → List ℕ → Imported Store
import_kept s slots text =
    import_text (ground_kept slots) (λ v r. (append_told_kept slots v r).number) (λ v r. store_of (append_told_kept slots v r)) text s

-- A line of an import as the code has it: read, and appended. Assumes nothing.
use Rattle.std.specs.Prelude.{Option as Maybe, Some, None, ℕ}
use Rattle.std.proofs.Math.Option.{Option, none, some}
use Rattle.lift_text.specs.Text.{Told}
use Rattle.csv_text.specs.declared.Line.{Line}
use Rattle.csv_text.specs.Inner.Reading.{told_by}
use Rattle.store.specs.World.{World}
use Rattle.store.specs.Calls.{Outcome, state_ground}
use Rattle.keeping.specs.Keeping.{Store, Counted}
use Rattle.import.specs.Fold.{Imported, line_number, line_after}
use Rattle.import.specs.Call.{append_told, ground_kept, append_told_kept, store_of}

-- what a line tells; none is a bad record
abbrev pub told_or : Maybe Line → Option Told
told_or None = none
told_or (Some l) = some (told_by l)

-- what is left of a line
abbrev pub line_outcome : ℕ → World → Option Told → Outcome
line_outcome slots w o = record {
  number = line_number (λ v. state_ground v slots 0) (λ v r. (append_told slots v r).number) (λ v r. (append_told slots v r).world) w o;
  world = line_after (λ v. state_ground v slots 0) (λ v r. (append_told slots v r).number) (λ v r. (append_told slots v r).world) w o;
}

abbrev pub line_kept : ℕ → Store → Option Told → Counted
line_kept slots s o =
    let left = line_after (ground_kept slots) (λ v r. (append_told_kept slots v r).number) (λ v r. store_of (append_told_kept slots v r)) s o in
    record {
      number = line_number (ground_kept slots) (λ v r. (append_told_kept slots v r).number) (λ v r. store_of (append_told_kept slots v r)) s o;
      world = left.world;
      counts = left.counts;
    }

abbrev pub imported : {X : Type 0} → ℕ → ℕ → X → Imported X
imported number line left = record { number = number; line = line; left = left }

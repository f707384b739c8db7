-- `area_import::counted::import_lines` meets its contract: what is left to import gives what the whole does.
use mathlib.Core.Path.{◌≡◌}
use Prim.Native.Nat.{◌-◌}
use lib.ListN.{length, drop}
use Rattle.csv_text.specs.Grammar.{lines_of}
use Rattle.import.specs.Fold.{import_lines}
use Rattle.import.proofs.Folding.{Imports}
use Rattle.areas.specs.Areas.{lent_kept, kept_ground, append_kept_in, kept_after}
use Rattle.area_import.proofs.counted.import_lines.Given as goal

abbrev pub invariant-loop-at : goal.invariant-loop-at
invariant-loop-at l =
    Imports (kept_ground l.slots) (λ v t. (append_kept_in l.slots v t).number) (kept_after l.slots) l.text
    (import_lines (kept_ground l.slots) (λ v t. (append_kept_in l.slots v t).number) (kept_after l.slots) 2
    (lines_of (drop l.from l.text)) (lent_kept l.initial.state l.initial.counts l.initial.nand l.initial.nor)) l.at l.line (lent_kept l.state l.counts l.nand l.nor)
    × (length l.state ≡ length l.initial.state) × (length l.counts ≡ length l.initial.counts) × (length l.nand ≡ length l.initial.nand) × (length l.nor ≡ length l.initial.nor)

abbrev pub decreases-loop-at : goal.decreases-loop-at
decreases-loop-at l = length l.text - l.at

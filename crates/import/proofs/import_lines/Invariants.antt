-- `import::import_lines` meets its contract: what is left to import gives what the whole does.
use mathlib.Core.Path.{◌≡◌}
use Prim.Native.Nat.{◌-◌}
use lib.ListN.{length, drop}
use Rattle.csv_text.specs.Grammar.{lines_of}
use Rattle.store.specs.World.{world}
use Rattle.store.specs.Calls.{state_ground}
use Rattle.import.specs.Fold.{import_lines}
use Rattle.import.specs.Call.{append_told}
use Rattle.import.proofs.Folding.{Imports}
use Rattle.import.proofs.import_lines.Given as goal

abbrev pub invariant-loop-at : goal.invariant-loop-at
invariant-loop-at l =
    Imports (λ v. state_ground v l.slots 0) (λ v t. (append_told l.slots v t).number) (λ v t. (append_told l.slots v t).world) l.text
    (import_lines (λ v. state_ground v l.slots 0) (λ v t. (append_told l.slots v t).number) (λ v t. (append_told l.slots v t).world) 2
    (lines_of (drop l.from l.text)) (world l.initial.nand l.initial.nor l.initial.state)) l.at l.line (world l.nand l.nor l.state)
    × (length l.nand ≡ length l.initial.nand) × (length l.nor ≡ length l.initial.nor)

abbrev pub decreases-loop-at : goal.decreases-loop-at
decreases-loop-at l = length l.text - l.at

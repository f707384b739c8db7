-- `import::counted::import_lines` meets its contract: what is left to import gives what the whole does.
use mathlib.Core.Path.{◌≡◌}
use Prim.Native.Nat.{◌-◌}
use lib.ListN.{length, drop}
use Rattle.csv_text.specs.Grammar.{lines_of}
use Rattle.store.specs.World.{world}
use Rattle.keeping.specs.Keeping.{store}
use Rattle.import.specs.Fold.{import_lines}
use Rattle.import.specs.Call.{ground_kept, append_told_kept, store_of}
use Rattle.import.proofs.Folding.{Imports}
use Rattle.import.proofs.counted.import_lines.Given as goal

abbrev pub invariant-loop-at : goal.invariant-loop-at
invariant-loop-at l =
    Imports (ground_kept l.slots) (λ v t. (append_told_kept l.slots v t).number) (λ v t. store_of (append_told_kept l.slots v t)) l.text
    (import_lines (ground_kept l.slots) (λ v t. (append_told_kept l.slots v t).number) (λ v t. store_of (append_told_kept l.slots v t)) 2
    (lines_of (drop l.from l.text)) (store (world l.initial.nand l.initial.nor l.initial.kept.state) l.initial.kept.counts)) l.at l.line (store (world l.nand l.nor l.kept.state) l.kept.counts)
    × (length l.nand ≡ length l.initial.nand) × (length l.nor ≡ length l.initial.nor)

abbrev pub decreases-loop-at : goal.decreases-loop-at
decreases-loop-at l = length l.text - l.at

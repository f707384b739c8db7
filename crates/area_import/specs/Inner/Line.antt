-- What is left of a line of an import over areas. Assumes nothing.
use Rattle.std.proofs.Math.Option.{Option}
use Rattle.std.specs.Prelude.{ℕ}
use Rattle.lift_text.specs.Text.{Told}
use Rattle.import.specs.Fold.{line_number, line_after}
use Rattle.areas.specs.Areas.{Left, left, Lent, lent_ground, append_in, lent_after}
use Rattle.areas.specs.Areas.{LeftKept, left_kept, LentKept, kept_ground, append_kept_in, kept_after}

abbrev pub line_left : ℕ → Lent → Option Told → Left
line_left slots x o =
    let y = line_after (lent_ground slots) (λ v r. (append_in slots v r).number) (lent_after slots) x o in
    left (line_number (lent_ground slots) (λ v r. (append_in slots v r).number) (lent_after slots) x o) y.state y.nand y.nor

abbrev pub line_left_kept : ℕ → LentKept → Option Told → LeftKept
line_left_kept slots x o =
    let y = line_after (kept_ground slots) (λ v r. (append_kept_in slots v r).number) (kept_after slots) x o in
    left_kept (line_number (kept_ground slots) (λ v r. (append_kept_in slots v r).number) (kept_after slots) x o)
    y.state y.counts y.nand y.nor

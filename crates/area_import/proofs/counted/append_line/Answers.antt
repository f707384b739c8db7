-- `area_import::counted::append_line` meets its contract: the append of what it tells.
use mathlib.Core.Path.{◌≡◌, ap, ◌∙◌}
use lib.IntN.{ℤ}
use mir.Syntax.{w32, w64}
use mir.Val.{to_z, of_z}
use Rattle.areas.specs.Areas.{append_kept_called}
use Rattle.area_import.proofs.Left.{left_told_kept}
use borrow.Author.Rules.{rules}
use Rattle.area_import.proofs.counted.append_line.Goals as goal

pub returns : goal.returns
returns c =
    let load_is : to_z w64 (of_z w64 c.args.l.load) ≡ c.args.l.load = search rules in
    let passed : to_z w32 (of_z w32 c.fitted-load.result) ≡ c.fitted-load.result = search rules in
    let a = c.args in
    let f = rw load_is at c.fitted-load.ensures in
    (c.append.ensures
    ∙ ap (λ (z : ℤ). append_kept_called a.state.now a.counts.now a.nand.now a.nor.now a.slots a.l.time z c.note_of-note.result)
    passed
    ∙ left_told_kept a.state.now a.counts.now a.nand.now a.nor.now a.slots a.l.time a.l.load c.fitted-load.result a.l.member
    c.note_of-note.result f c.note_of-note.ensures)

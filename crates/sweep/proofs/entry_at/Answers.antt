-- `sweep::entry_at` meets its contract: an entry out of the range, one whose record is in a page, one whose record is in the tail.
use mathlib.Core.Path.{◌≡◌, sym, ◌∙◌}
use mathlib.Core.Bool.{true}
use Rattle.tree.specs.Reading.{entry_in}
use Rattle.tree.specs.Search.{within}
use Rattle.sweep.specs.Inner.Turns.{codes_of, times_of}
use Rattle.sweep.proofs.Passing.{entry_out, entry_in_lem, early, late}
use Rattle.sweep.proofs.entry_at.Goals as goal

pub returns-then-not-in_range : goal.returns-then-not-in_range
returns-then-not-in_range c =
    let a = c.args in
    entry_out (codes_of a.lifts.now a.tail.now a.g) (times_of a.lifts.now a.tail.now a.g) a.r
    (entry_in a.bucket.now a.i) a.s _ c.entry_code-code.ensures
    (sym c.in_range.ensures ∙ c.if-not-in_range.true)

pub returns-then-p-g : goal.returns-then-p-g
returns-then-p-g c =
    let ranged : let a = c.args in
    within a.r.k1 a.r.k2 c.entry_code-code.result ≡ true = sym c.in_range.ensures ∙ c.if-not-in_range.false in
    let a = c.args in
    let at = early a.lifts.now a.tail.now a.g _ c.if-p-g.true in
    entry_in_lem (codes_of a.lifts.now a.tail.now a.g) (times_of a.lifts.now a.tail.now a.g) a.r
    (entry_in a.bucket.now a.i) a.s _ c.entry_code-code.ensures ranged _ _ _
    c.entry_position-p.ensures at.0 at.1 _ c.compared.ensures

pub returns : goal.returns
returns c =
    let ranged : let a = c.args in
    within a.r.k1 a.r.k2 c.entry_code-code.result ≡ true = sym c.in_range.ensures ∙ c.if-not-in_range.false in
    let a = c.args in
    let at = late a.lifts.now a.tail.now a.g _ c.if-p-g.false in
    entry_in_lem (codes_of a.lifts.now a.tail.now a.g) (times_of a.lifts.now a.tail.now a.g) a.r
    (entry_in a.bucket.now a.i) a.s _ c.entry_code-code.ensures ranged _ _ _
    c.entry_position-p.ensures at.0 at.1 _ c.compared-2.ensures

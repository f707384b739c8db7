-- `tally::by_plate::tally_one` meets its contract: damage, or the set's lifts counted.
use mathlib.Core.Path.{◌≡◌, refl, sym, ap}
use Rattle.std.specs.Prelude.{Err}
use Rattle.grounds.specs.declared.Ground.TheVariants.{Damage}
use Rattle.sweep.specs.Inner.Swept.{none_swept}
use Rattle.tally.specs.Inner.Turns.{tally_of}
use Rattle.found.proofs.Matched.{closed_none, closed_some}
use Rattle.found.proofs.Placed.{closed_placed}
use Rattle.tally.proofs.Codes.{placed_codes}
use Rattle.tally.proofs.PlateTurns.{tally_some}
use borrow.Author.Rules.{rules}
use Rattle.tally.proofs.by_plate.tally_one.Goals as goal

pub returns-in_err-set : goal.returns-in_err-set
returns-in_err-set c =
    let e : c.from_residual.result ≡ Err c.in_err-set.field-0.0 = search rules in
    let none = c.in_err-set.ensures.ok_part in
    let v = rw none at c.in_err-set.ensures.value in
    let d : c.in_err-set.field-0.0 ≡ Damage = cc in
    rw (e, d) (sym (ap (tally_of _) (closed_none _ _ _ none_swept (rw none at c.closed_matches.ensures) refl)))

pub tally_set-requires : goal.tally_set-requires
tally_set-requires c =
    let p = closed_placed _ _ c.args.q c.requires.closed_sound _ (rw c.in_ok-set.ensures.ok_part at c.closed_matches.ensures)
    _ c.closed_lifts-lifts.ensures _ c.closed_records-r.ensures in
    record { recorded = p.recorded; below = p.below; none_above = c.requires.none_above }

pub returns : goal.returns
returns c =
    let some = rw c.in_ok-set.ensures.ok_part at c.closed_matches.ensures in
    let p = closed_placed _ _ _ c.requires.closed_sound _ some _ c.closed_lifts-lifts.ensures _ c.closed_records-r.ensures in
    tally_some _ _ _ _ _ refl c.tally_set.ensures (placed_codes _ _ _ _ _ p) (closed_some _ _ _ _ some refl)

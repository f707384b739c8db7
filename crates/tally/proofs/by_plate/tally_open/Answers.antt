-- `tally::by_plate::tally_open` meets its contract: no lifts, damage, or the set's lifts counted.
use mathlib.Core.Path.{◌≡◌, refl, sym, ap, ◌∙◌}
use Rattle.std.specs.Prelude.{Ok, Err}
use Rattle.grounds.specs.declared.Ground.TheVariants.{Damage}
use Rattle.sweep.specs.Inner.Swept.{none_swept}
use Rattle.tally.specs.Inner.Turns.{counted_all, tally_of}
use Rattle.found.proofs.Matched.{open_none, open_damage, open_good}
use Rattle.found.proofs.Placed.{open_placed}
use Rattle.tally.proofs.Codes.{placed_codes}
use Rattle.tally.proofs.PlateTurns.{tally_some}
use Rattle.tally.proofs.Tallies.{none_zero}
use borrow.Author.Rules.{rules}
use native.Mathlib.Omega.{arith}
use Rattle.tally.proofs.by_plate.tally_open.Goals as goal

pub returns-then-g-eq0 : goal.returns-then-g-eq0
unfolding counted_all
returns-then-g-eq0 c =
    ap Ok c.no_counts-none.ensures ∙ sym (ap (tally_of _) (open_none _ _ _ _ _ c.if-g-eq0.true))

pub returns-in_err-set : goal.returns-in_err-set
returns-in_err-set c =
    let e : c.from_residual.result ≡ Err c.in_err-set.field-0.0 = search rules in
    let none = c.in_err-set.ensures.ok_part in
    let v = rw none at c.in_err-set.ensures.value in
    let d : c.in_err-set.field-0.0 ≡ Damage = cc in
    rw (e, d) (sym (ap (tally_of _) (open_damage _ _ _ _ _ c.if-g-eq0.false none_swept (rw none at c.open_matches.ensures) refl)))

pub tally_set-requires : goal.tally_set-requires
tally_set-requires c =
    let p =
    open_placed _ _ _ _ c.args.q c.requires.log_sound c.requires.page_len c.if-g-eq0.false _
    (rw c.in_ok-set.ensures.ok_part at c.open_matches.ensures) _ c.open_lifts-lifts.ensures _ c.open_records-r.ensures in
    record {
      recorded = p.recorded;
      below = p.below;
      none_above = λ i. rw c.no_counts-none.ensures (omega (arith, none_zero i));
    }

pub returns : goal.returns
returns c =
    let some = rw c.in_ok-set.ensures.ok_part at c.open_matches.ensures in
    let p =
    open_placed _ _ _ _ _ c.requires.log_sound c.requires.page_len c.if-g-eq0.false _ some _ c.open_lifts-lifts.ensures
    _ c.open_records-r.ensures in
    tally_some _ _ _ _ _ c.no_counts-none.ensures c.tally_set.ensures (placed_codes _ _ _ _ _ p)
    (open_good _ _ _ _ _ c.if-g-eq0.false _ some refl)

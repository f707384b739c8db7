-- `visit::closed_sweep` meets its contract: the matches in the slot's pages.
use Rattle.std.proofs.lemmas.Option.{IfSome_then}
use Rattle.visit.proofs.Areas.{closed_held, closed_are, closed_read}
use Rattle.visit.proofs.closed_sweep.Goals as goal

pub matches-requires : goal.matches-requires
matches-requires c =
    closed_held _ _ c.requires _ _ c.pages_of-t.ensures
    c.closed_lifts-lifts.ensures _ c.closed_records-g.ensures

pub returns : goal.returns
returns c =
    let p = c.requires in
    let tree = c.pages_of-t.ensures in
    let lifts = c.closed_lifts-lifts.ensures in
    let records = c.closed_records-g.ensures in
    record {
      found = closed_are _ _ p _ _ tree lifts _ records _ _ c.matches.ensures.found;
      pages = IfSome_then _ c.matches.ensures.pages (λ m. closed_read _ _ p _ _ tree lifts _ records _ _);
    }

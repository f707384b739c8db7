-- `visit::open_matches` meets its contract: the matches in NOR, the slot's pages and the page buffer.
use Rattle.std.specs.Prelude.{None}
use Rattle.std.proofs.Common.{◌≡◌, rules}
use Rattle.visit.proofs.Areas.{open_held, open_are}
use Rattle.visit.proofs.open_matches.Goals as goal

pub matches-requires : goal.matches-requires
matches-requires c =
    open_held _ _ _ c.requires.log_sound _
    c.requires.page_len _ _ c.nor_tree-t.ensures
    c.open_lifts-lifts.ensures _ c.open_records-r.ensures

pub returns-in_err-matches : goal.returns-in_err-matches
returns-in_err-matches c =
    let damage : c.from_residual.result ≡ None = search rules in
    rw damage (open_are _ _ _ c.requires.log_sound _
    c.requires.page_len _ _ c.nor_tree-t.ensures
    c.open_lifts-lifts.ensures _ c.open_records-r.ensures _ _ c.in_err-matches.ensures.found)

pub returns : goal.returns
returns c =
    open_are _ _ _ c.requires.log_sound _
    c.requires.page_len _ _ c.nor_tree-t.ensures
    c.open_lifts-lifts.ensures _ c.open_records-r.ensures _ _ c.in_ok-matches.ensures.found

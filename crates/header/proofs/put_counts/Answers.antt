-- `put_counts`: seven fields side by side.
use Rattle.header.proofs.HeaderBytes.{fragment_fits, counts_put}
use Rattle.header.proofs.put_counts.Goals as goal

pub overflow_cast-fragment : goal.overflow_cast-fragment
overflow_cast-fragment c =
    let p = c.requires in
    record { fits = fragment_fits _ _ _ p.1 p.2 c.sections_of-sections.ensures c.fragment_of-fragment.ensures }

pub returns : goal.returns
returns c =
    counts_put _ _ _ _ _ _ _ _ c.requires.0 c.sections_of-sections.ensures
    c.fragment_of-fragment.ensures c.level_of-level.ensures.0 _ _ _ _ _ _ _ c.put_u32.ensures c.put_u16.ensures
    c.put_u8.ensures c.put_u8-2.ensures c.put_u8-3.ensures c.put_u8-4.ensures c.put_form.ensures

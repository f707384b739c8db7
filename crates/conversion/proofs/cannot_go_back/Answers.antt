-- `cannot_go_back`: the times, the heads, the headers.
use mathlib.Core.Path.{ap, ◌∙◌}
use lib.ListN.{length}
use Rattle.form.specs.declared.Form.TheVariants.{Old, New}
use Rattle.retained.specs.Retained.{any_late, has_late}
use Rattle.retained.specs.Inner.Loops.{any_header}
use Rattle.conversion.specs.Inner.Pieces.{serials_of}
use Rattle.conversion.proofs.Judged.{stands, next_most, counts_fit, not_rising, late_head, late_node}
use native.Mathlib.Omega.{arith}
use mathlib.Core.Bool.{not}
use Rattle.conversion.proofs.cannot_go_back.Goals as goal

pub all_rise-requires : goal.all_rise-requires
all_rise-requires c =
    let st = stands New c.args.s 0 (length c.args.nand.now) c.args.slots c.requires.chips c.requires.bounds in
    record {
      nand_len = (st.chips.nand_size, omega (arith, st.chips.least), st.serials.first, st.serials.rising, st.counts.lifts);
      counts_fit = counts_fit Old _ _ _ _ c.requires;
    }

pub returns-then-not-all_rise : goal.returns-then-not-all_rise
returns-then-not-all_rise c =
    let a = c.args in
    not_rising a.nand.now a.s a.slots _ c.all_rise.ensures (ap not c.if-not-all_rise.true)

pub first_time-first-requires : goal.first_time-first-requires
first_time-first-requires c =
    let st = stands New c.args.s 0 (length c.args.nand.now) c.args.slots c.requires.chips c.requires.bounds in
    (st.chips.nand_size, omega (arith, st.chips.least), st.serials.first, next_most New _ _ _ c.requires.bounds)

pub returns-then-any_late : goal.returns-then-any_late
returns-then-any_late c =
    late_head c.args.nand.now c.args.s c.args.slots _ c.all_rise.ensures _ (ap not c.if-not-all_rise.false)
    (c.any_late.ensures ∙ ap (λ t. any_late c.args.s.oldest t c.args.s.heads) c.first_time-first.ensures) c.if-any_late.true

pub any_late_node-requires : goal.any_late_node-requires
any_late_node-requires c =
    let st = stands New c.args.s 0 (length c.args.nand.now) c.args.slots c.requires.chips c.requires.bounds in
    (st.chips.nand_size, omega (arith, st.chips.least), st.serials.first, st.serials.rising)

pub returns : goal.returns
returns c =
    late_node c.args.nand.now c.args.s c.args.slots _ c.all_rise.ensures _ _ (ap not c.if-not-all_rise.false)
    (c.any_late.ensures ∙ ap (λ t. any_late c.args.s.oldest t c.args.s.heads) c.first_time-first.ensures) c.if-any_late.false
    (c.any_late_node.ensures ∙ ap (λ t. any_header (has_late c.args.s.oldest t) (serials_of c.args.s c.args.slots) c.args.nand.now) c.first_time-first.ensures)

-- `stack_list::reading::read_list` meets its contract. The invariant: the lines left, judged with the counts so far, decide about the text.
use Rattle.std.proofs.Common.{arith}
use Rattle.stack_list.proofs.ReadTurns.{reading_first, end_at, end_within, stops, room_left, reading_on, list_read, none_in_last}
use Rattle.stack_list.proofs.reading.read_list.Goals as goal

pub loop-at-init : goal.loop-at-init
loop-at-init c = reading_first _ _

pub overflow_add-end : goal.overflow_add-end
overflow_add-end c =
    let t = c.args.text.now in
    let h = c.loop-at-test.true in
    let e = end_at t c.loop-at.at h _ c.line_length.ensures in
    omega (arith, end_within t c.loop-at.at h)

pub slice_bounds-read_line-end : goal.slice_bounds-read_line-end
slice_bounds-read_line-end c =
    let t = c.args.text.now in
    let h = c.loop-at-test.true in
    let e = end_at t c.loop-at.at h _ c.line_length.ensures in
    omega (arith, end_within t c.loop-at.at h)

pub returns-in_err-r : goal.returns-in_err-r
returns-in_err-r c =
    let h = c.loop-at-test.true in
    rw c.from_residual.ensures
    (stops _ _ _ _ _ _ _ c.loop-at.invariant c.requires h _ (end_at _ _ h _ c.line_length.ensures) c.in_err-r.ensures)

pub bounds-numbers-lines : goal.bounds-numbers-lines
bounds-numbers-lines c =
    let h = c.loop-at-test.true in
    room_left _ _ _ _ _ _ _ c.loop-at.invariant c.requires h _ (end_at _ _ h _ c.line_length.ensures) _ c.in_ok-r.ensures

pub loop-at-preserved : goal.loop-at-preserved
loop-at-preserved c =
    let h = c.loop-at-test.true in
    reading_on _ _ _ _ _ _ _ c.loop-at.invariant c.requires h _ (end_at _ _ h _ c.line_length.ensures) _ c.in_ok-r.ensures _
    c.after_line-at.ensures

pub returns-then-plates-eq0 : goal.returns-then-plates-eq0
returns-then-plates-eq0 c =
    none_in_last _ _ _ _ _ _ _ c.loop-at.invariant c.requires c.loop-at-test.false c.if-plates-eq0.true

pub returns-else-plates-eq0 : goal.returns-else-plates-eq0
returns-else-plates-eq0 c =
    list_read _ _ _ _ _ _ _ c.loop-at.invariant c.requires c.loop-at-test.false c.if-plates-eq0.false

-- `csv_text::run_at` meets its contract. The invariant: what is left to read from here gives what the whole gives.
use Rattle.std.proofs.Common.{◌≡◌, ◌+◌, get_or, arith}
use Rattle.csv_text.proofs.Digits.{run_start, run_room, run_end, run_stop, run_on, asked_yes, asked_no}
use Rattle.csv_text.proofs.run_at.Goals as goal

pub loop-end-init : goal.loop-end-init
loop-end-init c = run_start _ _ _ c.requires (omega arith)

pub returns-then-b : goal.returns-then-b
returns-then-b c = run_stop _ _ _ _ _ c.loop-end.invariant c.loop-end-test.true (asked_no (get_or c.args.text.now c.loop-end.end 0) c.if-b.true)

pub overflow_mul-value : goal.overflow_mul-value
overflow_mul-value c = omega (arith, run_room _ _ _ _ _ c.loop-end.invariant c.loop-end-test.true)

pub overflow_add-value : goal.overflow_add-value
overflow_add-value c = omega (arith, run_room _ _ _ _ _ c.loop-end.invariant c.loop-end-test.true)

pub loop-end-preserved : goal.loop-end-preserved
loop-end-preserved c = run_on _ _ _ _ _ c.loop-end.invariant c.loop-end-test.true (asked_yes (get_or c.args.text.now c.loop-end.end 0) c.if-b.false)

pub returns : goal.returns
returns c = let m : c.loop-end.end ≡ c.args.at + c.min.result = omega arith in rw (← m) (run_end _ _ _ _ _ c.loop-end.invariant c.loop-end-test.false)

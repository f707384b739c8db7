-- `any_serial`: one that passes is found, and without one none is.
use Rattle.std.proofs.Common.{◌≡◌, sym, ◌∙◌, ◌+◌, ◌-◌, arith}
use Rattle.retained.proofs.Seeking.{found_at, none_at}
use Rattle.retained.proofs.headers.any_serial.Goals as goal

pub returns-then-has : goal.returns-then-has
returns-then-has g c = λ p told.
    let n = c.loop-n.n - 1 in
    let oldest = c.args.s.oldest in
    let e : oldest + (n - oldest) ≡ n = omega arith in
    sym (found_at p _ oldest (n - oldest) (omega arith) (rw e (sym (told n _ (omega arith) (omega arith) c.has.ensures) ∙ c.if-has.true)))

pub returns : goal.returns
returns g c = λ p told.
    sym (none_at p _ _ (λ i l. sym (told _ _ (omega arith) (omega arith) (c.loop-n.invariant (c.args.s.oldest + i) (omega arith) (omega arith)))))

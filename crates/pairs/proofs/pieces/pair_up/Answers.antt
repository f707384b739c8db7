-- `pair_up` meets its contract: damage in either log, or the pairs of both.
use Rattle.std.proofs.lemmas.Result.{err_from_is_err_and}
use Rattle.codec.proofs.Truth.{and_left}
use Rattle.pairs.proofs.Paired.{lends, answer_first, answer_second}
use Rattle.pairs.proofs.pieces.pair_up.Goals as goal

pub returns-in_err-a : goal.returns-in_err-a
returns-in_err-a c =
    let p = err_from_is_err_and c.from_residual.result c.from_residual.ensures.1 in
    let d = c.in_err-a.ensures.damage in
    rw (p.1, p.2, d.0) (answer_first _ _ _ d.1)

pub returns-in_err-b : goal.returns-in_err-b
returns-in_err-b c =
    let p = err_from_is_err_and c.from_residual-in_err-b.result c.from_residual-in_err-b.ensures.1 in
    let d = c.in_err-b.ensures.damage in
    rw (p.1, p.2, d.0) (answer_second _ _ _ d.1)

pub list_pairs-requires-clause-lends : goal.list_pairs-requires-clause-lends
list_pairs-requires-clause-lends c =
    lends _ _ _ _ _ _ _ _ _ _ _ (λ e. and_left c.in_ok-a.a.rising c.in_ok-b.b.rising e) c.in_ok-a.ensures.hand

-- `with_word`: each word by its constant place, the word at i as the closure gives it.
use Rattle.std.proofs.Common.{◌≡◌, length, rules}
use borrow.Author.Tests.{eq-eqb, ne_eqb}
use Rattle.bitset.proofs.Words.{one_changed}
use Rattle.bitset.proofs.Bits.with_word.Goals as goal

pub returns : goal.returns
returns g c =
    let l : length c.args.self.words ≡ 5 = search rules in
    one_changed (λ x y. g.F.Fn.post c.args.change (x, tt {0}) y) _ _ _ _ _ c.args.self.words c.args.i l c.requires.place
    (record { here = λ e. c.changed-a.ensures.own (eq-eqb c.args.i 0 e); other = λ n. c.changed-a.ensures.other (ne_eqb c.args.i 0 n) })
    (record { here = λ e. c.changed-b.ensures.own (eq-eqb c.args.i 1 e); other = λ n. c.changed-b.ensures.other (ne_eqb c.args.i 1 n) })
    (record { here = λ e. c.changed-c.ensures.own (eq-eqb c.args.i 2 e); other = λ n. c.changed-c.ensures.other (ne_eqb c.args.i 2 n) })
    (record { here = λ e. c.changed-d.ensures.own (eq-eqb c.args.i 3 e); other = λ n. c.changed-d.ensures.other (ne_eqb c.args.i 3 n) })
    (record { here = λ e. c.changed-e.ensures.own (eq-eqb c.args.i 4 e); other = λ n. c.changed-e.ensures.other (ne_eqb c.args.i 4 n) })

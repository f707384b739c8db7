-- `lift_text::put_digits` meets its contract. The invariant: whoever writes what is left has written the whole.
use mathlib.Core.Path.{refl}
use lib.ListN.{length-set}
use Rattle.lift_text.proofs.Before.{digits_left, digit_first}
use Rattle.lift_text.proofs.Lines.{digit_more, some_digit}
use native.Mathlib.Omega.{arith}
use borrow.Author.Rules.{rules}
use Rattle.lift_text.proofs.put_digits.Goals as goal

pub loop-rest-init : goal.loop-rest-init
loop-rest-init c = (search rules, (search rules, (refl, λ new r p. p)))

pub overflow_sub-to : goal.overflow_sub-to
overflow_sub-to c = let n = some_digit c.loop-rest.rest in search rules

pub bounds-area-to : goal.bounds-area-to
bounds-area-to c = let n = some_digit c.loop-rest.rest in search rules

pub returns-then-rest-lt10 : goal.returns-then-rest-lt10
returns-then-rest-lt10 c =
    let l = c.loop-rest in
    let n = some_digit l.rest in
    l.invariant.1.1.1 _ _ (digit_first l.area l.rest _ l.to c.if-rest-lt10.true (omega arith) l.invariant.1.0)

pub loop-rest-preserved : goal.loop-rest-preserved
loop-rest-preserved c =
    let l = c.loop-rest in
    let n = digit_more l.rest c.if-rest-lt10.false in (
      omega arith,
      (
        simp length-set (omega arith),
        (
          simp length-set l.invariant.1.1.0,
          λ new r p. l.invariant.1.1.1 new r
              (digits_left l.area new l.rest _ l.to r c.if-rest-lt10.false (omega arith) l.invariant.1.0 p),
        ),
      ),
    )

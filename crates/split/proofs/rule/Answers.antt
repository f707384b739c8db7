-- `split::rule` meets its contract, case by case: each comes out of the laws of offset numbers.
use borrow.Author.Tests.{lt-ltb, le-ltb}
use Rattle.split.specs.Split.{rule}
use Rattle.split.proofs.Offset.{half_of, left_of_lem, right_of, min_of, max_of, rule_rest}
use Rattle.split.proofs.rule.Goals as goal

pub returns-in-0 : goal.returns-in-0
unfolding rule
returns-in-0 c = simp (c.halfway.ensures, c.in-0.is, half_of 3000000)

pub returns-in-1 : goal.returns-in-1
unfolding rule
returns-in-1 c = simp (c.halfway-in-1.ensures, c.in-1.is, half_of 3000000)

pub returns-then-x-h : goal.returns-then-x-h
unfolding rule
returns-then-x-h c =
    simp (
      c.halfway-then-x-h.ensures,
      c.in-2.is,
      left_of_lem 3000000,
      lt-ltb _ _ c.if-x-h.true,
      half_of 3000000,
    )

pub returns-else-x-h : goal.returns-else-x-h
unfolding rule
returns-else-x-h c =
    simp (
      c.max.ensures,
      c.halfway-else-x-h.ensures,
      c.in-2.is,
      left_of_lem 3000000,
      le-ltb _ _ c.if-x-h.false,
      half_of 3000000,
      max_of 3000000,
    )

pub returns-then-h-l : goal.returns-then-h-l
unfolding rule
returns-then-h-l c =
    simp (
      c.halfway-then-h-l.ensures,
      c.in-3.is,
      right_of 3000000,
      lt-ltb _ _ c.if-h-l.true,
      half_of 3000000,
    )

pub returns-else-h-l : goal.returns-else-h-l
unfolding rule
returns-else-h-l c =
    simp (
      c.min.ensures,
      c.halfway-else-h-l.ensures,
      c.in-3.is,
      right_of 3000000,
      le-ltb _ _ c.if-h-l.false,
      half_of 3000000,
      min_of 3000000,
    )

pub returns-in_default : goal.returns-in_default
returns-in_default c =
    let m = c.in_default.in_default-own.rest in
    rw (c.halfway-in_default.ensures, rule_rest 3000000 _ _ _ _ _ m.0.0.0.1 m.0.0.1 m.0.1 m.1)

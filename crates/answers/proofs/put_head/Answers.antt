-- `answers::put_head` meets its contract: the letter, and the number after it.
use mathlib.Core.Path.{◌≡◌, ◌∙◌}
use lib.ListN.{length, length-set}
use Rattle.answers.specs.Printed.{number}
use Rattle.answers.proofs.Justified.{length_justified}
use Rattle.answers.proofs.Printing.{head_printed}
use native.Mathlib.Omega.{arith}
use Rattle.answers.proofs.put_head.Goals as goal

pub shape_of-s : goal.shape_of-s
shape_of-s c = c.put_number.auto.s ∙ simp length-set

pub returns : goal.returns
returns c =
    let a = c.args in
    let l : length (number 3 a.number) ≡ 3 = length_justified 3 _ in
    c.put_number.ensures ∙ head_printed _ _ _ (omega arith)

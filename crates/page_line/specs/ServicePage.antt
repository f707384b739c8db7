-- What a line P prints (document 02, W-201): "letter and T's number and, if that is 0, a page". Assumes nothing.
use Rattle.std.specs.Prelude.{cond, List, [], ◌∷◌, ◌++◌, ℕ, eqb}
use Rattle.tally.specs.Answers.{TallyAnswer}
use Rattle.answers.specs.Printed.{head_bytes}
use Rattle.service_page.specs.Page.{page_of}

-- of the tally of a window; 80 is the letter P, 10 the line feed
unfoldable pub page_answer : TallyAnswer → ℕ → ℕ → List ℕ
page_answer t t1 t2 = head_bytes 80 t.number ++ (10 ∷ []) ++ cond (eqb t.number 0) (page_of t1 t2 t.counts) []

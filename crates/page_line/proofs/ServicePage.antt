-- The service page of an accepted tally (document 02, W-201), for any chips, any state and any S: every line has 40 characters, the
-- counts printed are the tally's and add up to the total, and no number is too wide for its columns. An accepted tally has 22 counts,
-- together at most 1,311,040, and times within their limits, so all that the page shows fits. Assumes nothing.
use mathlib.Core.Path.{◌≡◌, sym, ap, ◌∙◌}
use mathlib.Core.List.{List, [], ◌∷◌, ◌++◌, append-nil}
use Prim.Native.Nat.{ℕ, ◌+◌, ◌-◌, ◌≤◌}
use native.Mathlib.Omega.{arith}
use borrow.Author.Tests.{eq-eqb, ne_eqb}
use lib.ListN.{length, get_or, set, length-append}
use Rattle.codec.specs.Area.{splice}
use Rattle.codec.proofs.Areas.{length_splice, splice_next}
use Rattle.tally.specs.Answers.{TallyAnswer}
use Rattle.store.specs.World.{World}
use Rattle.questions.specs.Queries.{tally_outcome}
use Rattle.questions.proofs.TallyMost.{tally_fits, tally_length, tally_window}
use Rattle.answers.specs.Printed.{digits, head_bytes}
use Rattle.service_page.specs.Page.{page_lines, page_of, page_bytes}
use Rattle.service_page.specs.PageRead.{Holds, Shows}
use Rattle.answers.proofs.Justified.{length_justified}
use Rattle.answers.proofs.Printing.{byte_stored}
use Rattle.service_page.proofs.PageWritten.{length_page}
use Rattle.service_page.proofs.PageShown.{page_shows}
use Rattle.page_line.specs.ServicePage.{page_answer}
use Rattle.page_line.specs.Inner.PagePut.{PagePut}

pub page_of_tally : (w : World) (slots t1 t2 : ℕ) → (tally_outcome w slots t1 t2).number ≡ 0
    → Shows (page_lines t1 t2 (tally_outcome w slots t1 t2).counts) t1 t2 (tally_outcome w slots t1 t2).counts
page_of_tally w slots t1 t2 accepted =
    let window = tally_window w slots t1 t2 accepted in
    page_shows t1 t2 (tally_outcome w slots t1 t2).counts (omega arith) (omega arith) (omega (arith, tally_fits w slots t1 t2))
    (omega (arith, tally_length w slots t1 t2))

-- it has 24 lines, and after the heading the one of plate 21
pub top_line : (w : World) (slots t1 t2 : ℕ) → (tally_outcome w slots t1 t2).number ≡ 0
    → let page = page_lines t1 t2 (tally_outcome w slots t1 t2).counts in
    (length page ≡ 24) × (Holds (get_or page 1 []) 0 4 21 × Holds (get_or page 1 []) 4 9 (get_or (tally_outcome w slots t1 t2).counts 21 0))
top_line w slots t1 t2 accepted =
    let counts = (tally_outcome w slots t1 t2).counts in
    let shown = page_of_tally w slots t1 t2 accepted in
    let n : length counts ≡ 22 = tally_length w slots t1 t2 in
    let one : length counts - 21 ≡ 1 = omega arith in
    (omega (arith, shown.lines), (rw one at (shown.plate 21 (omega arith)), rw one at (shown.count 21 (omega arith))))

-- ---- the answer as it is laid out

module _ (w : World) (slots t1 t2 : ℕ) {n : ℕ} {counts : List ℕ}
    (is : ◌≡◌ {A = TallyAnswer} (record { number = n; counts = counts }) (tally_outcome w slots t1 t2)) where
  counts_long : length counts ≡ 22
  counts_long = ap (λ (a : TallyAnswer). length a.counts) is ∙ tally_length w slots t1 t2

  module _ (area : List ℕ) (room : 5 + page_bytes ≤ length area) (one : List ℕ) (put : one ≡ splice area 0 (head_bytes 80 n)) where
    head_long : length (head_bytes 80 n) ≡ 4
    head_long = omega (arith, length_justified 3 (digits n))

    head_put : set one 4 10 ≡ splice area 0 (head_bytes 80 n ++ (10 ∷ []))
    head_put =
        let h = head_long in
        let l : length one ≡ length area = rw put (length_splice area 0 (head_bytes 80 n) (omega arith)) in
        byte_stored one 4 10 (omega arith) ∙ ap (λ (s : List ℕ). splice s 4 (10 ∷ [])) put
        ∙ splice_next area 0 (head_bytes 80 n) 4 (10 ∷ []) (omega arith) (omega arith)

    -- a number above 0 stands alone
    pub refused_put : (n ≡ 0 → ⊥) → PagePut area (set one 4 10) 5 (page_answer (tally_outcome w slots t1 t2) t1 t2)
    unfolding page_answer
    refused_put h =
        let e : head_bytes 80 n ++ (10 ∷ []) ++ [] ≡ head_bytes 80 n ++ (10 ∷ []) = append-nil (head_bytes 80 n ++ (10 ∷ [])) in
        rw (← is, ne_eqb n 0 h, e) (record { are = head_put; long = simp length-append (omega (arith, head_long)); inside = omega arith })

    -- after 0 comes the page
    pub page_put : n ≡ 0 → (new : List ℕ) → new ≡ splice (set one 4 10) 5 (page_of t1 t2 counts)
        → PagePut area new (5 + page_bytes) (page_answer (tally_outcome w slots t1 t2) t1 t2)
    unfolding page_answer
    page_put z new e =
        let h : length (head_bytes 80 n ++ (10 ∷ [])) ≡ 5 = simp length-append (omega (arith, head_long)) in
        let p : length (page_of t1 t2 counts) ≡ page_bytes = length_page t1 t2 counts counts_long in
        let q : length (head_bytes 80 n ++ (10 ∷ []) ++ page_of t1 t2 counts) ≡ 5 + page_bytes =
        length-append (head_bytes 80 n ++ (10 ∷ [])) (page_of t1 t2 counts) ∙ omega arith in
        let next = splice_next area 0 (head_bytes 80 n ++ (10 ∷ [])) 5 (page_of t1 t2 counts) (omega arith) (omega arith) in
        rw (← is, eq-eqb n 0 z) (record {
          are = e ∙ ap (λ (s : List ℕ). splice s 5 (page_of t1 t2 counts)) head_put ∙ next;
          long = sym q;
          inside = omega arith;
        })

-- The lines of the service page as the code writes them: fields written side by side are one line. Assumes nothing.
use mathlib.Core.Path.{◌≡◌, refl, sym, ap, ◌∙◌}
use mathlib.Core.List.{List, [], ◌∷◌, ◌++◌, append_assoc, append-nil}
use Prim.Native.Nat.{ℕ, zero, suc, ◌+◌, ◌-◌, ◌*◌, ◌≤◌, ◌<◌}
use native.Mathlib.Omega.{arith}
use lib.ListN.{length, get_or, length-append}
use Rattle.std.specs.Prelude.{sum}
use Rattle.std.proofs.lemmas.List.Recursion.{is_sum_by}
use Rattle.codec.specs.Area.{splice}
use Rattle.codec.proofs.Areas.{length_repeated, splice_next, splice_none}
use Rattle.plate.specs.Total.{total}
use Rattle.plate.specs.Plate.{plates}
use Rattle.answers.specs.Printed.{spaces, number}
use Rattle.service_page.specs.Page.{page_bytes, heading, percentage, plate_line, plate_lines, total_line, page_lines, text_of, page_of}
use Rattle.answers.proofs.Justified.{length_justified}

-- ---- fields side by side

module _ (s : List ℕ) (at : ℕ) (a b c d : List ℕ) {i j k : ℕ} (ea : at + length a ≡ i) (eb : i + length b ≡ j) (ec : j + length c ≡ k)
    (h : k ≤ length s) where
  pub four_fields : splice (splice (splice (splice s at a) i b) j c) k d ≡ splice s at (a ++ b ++ c ++ d)
  four_fields =
      let n : at + length (a ++ b) ≡ j = simp length-append (omega arith) in
      let m : at + length (a ++ b ++ c) ≡ k = simp length-append (omega arith) in
      ap (λ (t : List ℕ). splice (splice t j c) k d) (splice_next s at a i b ea (omega arith))
      ∙ ap (λ (t : List ℕ). splice t k d) (splice_next s at (a ++ b) j c n (omega arith))
      ∙ splice_next s at (a ++ b ++ c) k d m h

  pub five_fields : (e : List ℕ) {l : ℕ} → k + length d ≡ l → l ≤ length s
      → splice (splice (splice (splice (splice s at a) i b) j c) k d) l e ≡ splice s at (a ++ b ++ c ++ d ++ e)
  five_fields e {l} ed g =
      let n : at + length (a ++ b ++ c ++ d) ≡ l = simp length-append (omega arith) in
      ap (λ (t : List ℕ). splice t l e) four_fields ∙ splice_next s at (a ++ b ++ c ++ d) l e n g

-- ---- the lines

module _ (s : List ℕ) (at : ℕ) (h : at + 41 ≤ length s) where
  pub heading_written : (t1 t2 : ℕ)
      → splice (splice (splice (splice s at (number 15 t1)) (at + 15) (spaces 10)) (at + 25) (number 15 t2)) (at + 40) (10 ∷ [])
      ≡ splice s at (heading t1 t2 ++ (10 ∷ []))
  unfolding heading
  heading_written t1 t2 =
      let a : length (number 15 t1) ≡ 15 = length_justified 15 _ in
      let b : length (spaces 10) ≡ 10 = length_repeated 10 32 in
      let c : length (number 15 t2) ≡ 15 = length_justified 15 _ in
      four_fields s at (number 15 t1) (spaces 10) (number 15 t2) (10 ∷ []) (omega arith) (omega arith) (omega arith) (omega arith)

  pub plate_written : (all plate count : ℕ)
      → splice (splice (splice (splice (splice s at (number 4 plate)) (at + 4) (number 9 count)) (at + 13)
      (number 5 (percentage count all))) (at + 18) (spaces 22)) (at + 40) (10 ∷ [])
      ≡ splice s at (plate_line all plate count ++ (10 ∷ []))
  unfolding plate_line
  plate_written all plate count =
      let a : length (number 4 plate) ≡ 4 = length_justified 4 _ in
      let b : length (number 9 count) ≡ 9 = length_justified 9 _ in
      let c : length (number 5 (percentage count all)) ≡ 5 = length_justified 5 _ in
      let d : length (spaces 22) ≡ 22 = length_repeated 22 32 in
      five_fields s at (number 4 plate) (number 9 count) (number 5 (percentage count all)) (spaces 22) (omega arith) (omega arith)
      (omega arith) (omega arith) (10 ∷ []) (omega arith) (omega arith)

  pub total_written : (all : ℕ)
      → splice (splice (splice (splice s at (spaces 4)) (at + 4) (number 9 all)) (at + 13) (spaces 27)) (at + 40) (10 ∷ [])
      ≡ splice s at (total_line all ++ (10 ∷ []))
  unfolding total_line
  total_written all =
      let a : length (spaces 4) ≡ 4 = length_repeated 4 32 in
      let b : length (number 9 all) ≡ 9 = length_justified 9 _ in
      let c : length (spaces 27) ≡ 27 = length_repeated 27 32 in
      four_fields s at (spaces 4) (number 9 all) (spaces 27) (10 ∷ []) (omega arith) (omega arith) (omega arith) (omega arith)

-- ---- the percentage

-- ---- the lines have 40 characters

pub length_heading : (t1 t2 : ℕ) → length (heading t1 t2) ≡ 40
unfolding heading
length_heading t1 t2 = simp (length-append, length_justified, length_repeated)

pub length_plate : (all plate count : ℕ) → length (plate_line all plate count) ≡ 40
unfolding plate_line
length_plate all plate count = simp (length-append, length_justified, length_repeated)

pub length_total : (all : ℕ) → length (total_line all) ≡ 40
unfolding total_line
length_total all = simp (length-append, length_justified, length_repeated)

-- ---- one line after another

-- a turn of `put_plates`
pub plates_step : (s : List ℕ) (to left : ℕ) (counts : List ℕ) → 0 < left → to + 41 ≤ length s
    → splice (splice s to (plate_line (total counts) (left - 1) (get_or counts (left - 1) 0) ++ (10 ∷ []))) (to + 41)
    (text_of (plate_lines counts (left - 1)))
    ≡ splice s to (text_of (plate_lines counts left))
unfolding plate_lines text_of
plates_step s to zero counts z h = absurd (omega arith)
plates_step s to (suc n) counts z h =
    let e : suc n - 1 ≡ n = omega arith in
    let line : List ℕ = plate_line (total counts) n (get_or counts n 0) in
    let l : length (line ++ (10 ∷ [])) ≡ 41 = length-append line (10 ∷ []) ∙ omega (arith, length_plate (total counts) n (get_or counts n 0)) in
    rw e (splice_next s to (line ++ (10 ∷ [])) (to + 41) (text_of (plate_lines counts n)) (omega arith) (omega arith))

pub plates_done : (s t : List ℕ) (to left : ℕ) (counts : List ℕ) → left ≤ 0
    → splice s to (text_of (plate_lines counts left)) ≡ t → s ≡ t
unfolding plate_lines text_of
plates_done s t to left counts h e =
    let z : left ≡ 0 = omega arith in
    sym (splice_none s to (text_of (plate_lines counts left)) (rw z)) ∙ e

length_plates : (counts : List ℕ) (n : ℕ) → length (text_of (plate_lines counts n)) ≡ 41 * n
unfolding plate_lines text_of
length_plates counts zero = refl
length_plates counts (suc n) =
    let l = length_plate (total counts) n (get_or counts n 0) in
    simp length-append (omega (arith, length_plates counts n))

text_append : (a b : List (List ℕ)) → text_of (a ++ b) ≡ text_of a ++ text_of b
unfolding text_of
text_append [] b = refl
text_append (l ∷ a) b = rw (text_append a b) (sym (append_assoc (l ++ (10 ∷ [])) (text_of a) (text_of b)))

page_text : (t1 t2 : ℕ) (counts : List ℕ)
    → heading t1 t2 ++ (10 ∷ []) ++ text_of (plate_lines counts (length counts)) ++ (total_line (total counts) ++ (10 ∷ [])) ≡ page_of t1 t2 counts
unfolding page_of page_lines text_of
page_text t1 t2 counts =
    let first : List ℕ = heading t1 t2 ++ (10 ∷ []) in
    let plates : List (List ℕ) = plate_lines counts (length counts) in
    let last : List ℕ = total_line (total counts) ++ (10 ∷ []) in
    append_assoc first (text_of plates) last
    ∙ ap (λ (l : List ℕ). first ++ l)
    (ap (λ (l : List ℕ). text_of plates ++ l) (sym (append-nil last)) ∙ sym (text_append plates (total_line (total counts) ∷ [])))

-- heading, plates and total
pub page_written : (s : List ℕ) (at t1 t2 : ℕ) (counts : List ℕ) → length counts ≡ plates → at + page_bytes ≤ length s
    → splice (splice (splice s at (heading t1 t2 ++ (10 ∷ []))) (at + 41) (text_of (plate_lines counts plates))) (at + 943)
    (total_line (total counts) ++ (10 ∷ []))
    ≡ splice s at (page_of t1 t2 counts)
page_written s at t1 t2 counts n h =
    let first : List ℕ = heading t1 t2 ++ (10 ∷ []) in
    let lines : List ℕ = text_of (plate_lines counts plates) in
    let last : List ℕ = total_line (total counts) ++ (10 ∷ []) in
    let a : length first ≡ 41 = length-append (heading t1 t2) (10 ∷ []) ∙ omega (arith, length_heading t1 t2) in
    let b : length (first ++ lines) ≡ 943 = length-append first lines ∙ omega (arith, length_plates counts plates) in
    let e : first ++ text_of (plate_lines counts (length counts)) ++ last ≡ page_of t1 t2 counts = page_text t1 t2 counts in
    ap (λ (t : List ℕ). splice t (at + 943) last) (splice_next s at first (at + 41) lines (omega arith) (omega arith))
    ∙ splice_next s at (first ++ lines) (at + 943) last (omega arith) (omega arith)
    ∙ ap (splice s at) (rw n at e)

pub length_page : (t1 t2 : ℕ) (counts : List ℕ) → length counts ≡ plates → length (page_of t1 t2 counts) ≡ page_bytes
length_page t1 t2 counts n =
    let a = length_heading t1 t2 in
    let b = length_total (total counts) in
    rw (← page_text t1 t2 counts) (simp length-append (omega (arith, length_plates counts (length counts))))

-- ---- the sum of the counts, as the library has it

pub total_sum : (counts : List ℕ) → total counts ≡ sum counts
unfolding total
total_sum = is_sum_by total (λ n. n) refl (λ n ns. refl)

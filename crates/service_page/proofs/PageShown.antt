-- What the service page shows, read from its characters. The idea: a line's fields stand where its columns say, and a number that fits
-- its columns reads back. Assumes nothing.
use mathlib.Core.Path.{◌≡◌, refl, sym, ap, ◌∙◌}
use mathlib.Core.Bool.{Bool, true, false, cond}
use mathlib.Core.List.{List, [], ◌∷◌, ◌++◌, map, append_assoc, append-nil}
use Prim.Native.Nat.{ℕ, zero, suc, ◌+◌, ◌-◌, ◌*◌, ◌/◌, ◌^◌, ◌≤◌, ◌<◌}
use native.Mathlib.Nat.{div-mul-le_self, lt-div-mul-add, div-lt_iff_lt-mul, add-mul}
use native.Mathlib.Omega.{arith}
use borrow.Author.Tests.{eqb-false, ne_eqb, ltb-true, ltb-false}
use lib.Dec.{eqb, ltb}
use lib.ListN.{length, get_or, drop, length-append}
use lib.Seq.{take_at, get_or_at}
use Rattle.codec.specs.Area.{part}
use Rattle.codec.proofs.Areas.{length_repeated, part_append_left, part_append_right, part_all}
use Rattle.plate.specs.Total.{total}
use Rattle.plate.proofs.Totals.{place_total, total_from, total_past}
use Rattle.lines.specs.Columns.{field_in, value_of}
use Rattle.answers.specs.Printed.{digits, spaces, number}
use Rattle.service_page.specs.Page.{heading, percentage, plate_line, plate_lines, total_line, page_lines}
use Rattle.service_page.specs.PageRead.{EachLong, Holds, count_in, between, plate_line_of, Shows}
use Rattle.answers.proofs.Justified.{digits_few, length_justified, justified_fits}
use Rattle.answers.proofs.ReadBack.{reads_back}
use Rattle.service_page.proofs.PageWritten.{length_heading, length_plate, length_total}

-- ---- the percentage

-- p × total ≤ 100 × count < (p + 1) × total
pub percentage_right : (count all : ℕ) → 0 < all
    → (percentage count all * all ≤ 100 * count) × (100 * count < (percentage count all + 1) * all)
unfolding percentage
percentage_right count all h =
    let e : eqb all 0 ≡ false = ne_eqb all 0 (λ z. omega arith) in
    let p : ℕ = 100 * count / all in
    rw e (div-mul-le_self (100 * count) all, omega (arith, lt-div-mul-add {a = 100 * count} h, add-mul p 1 all))

pub percentage_most : (count all : ℕ) → count ≤ all → percentage count all ≤ 100
unfolding percentage
percentage_most count all h = go (eqb all 0) refl
  where
    some : (n : ℕ) → (n ≡ 0 → ⊥) → 0 < n
    some zero h = absurd (h refl)
    some (suc n) h = omega arith

    go : (t : Bool) → eqb all 0 ≡ t → cond t 0 (100 * count / all) ≤ 100
    go true e = omega arith
    go false e =
        let z = some all (eqb-false all 0 e) in
        omega (arith, (div-lt_iff_lt-mul {k = all} {x = 100 * count} {y = 101} z).1 (omega arith))

-- ---- a number in its columns

-- a field of w columns with others before and after it
field_holds : (a b : List ℕ) (at w j v : ℕ) → length a ≡ at → 0 < j → v < 10 ^ j → j ≤ w → Holds (a ++ number w v ++ b) at w v
field_holds a b at w j v e z h k =
    let n = length_justified w (digits v) in
    let d = digits_few j v z h in
    let p : part (a ++ number w v ++ b) at w ≡ number w v =
    part_append_left (a ++ number w v) b at w (simp length-append (omega arith))
    ∙ part_append_right a (number w v) 0 at w (omega arith) (omega arith) ∙ part_all (number w v) w n in
    record {
      fits = omega arith;
      justified = p ∙ justified_fits w (digits v) (omega arith);
      reads = ap field_in p ∙ reads_back w v false (omega arith);
    }

-- ---- the lines

module _ (t1 t2 : ℕ) (h1 : t1 < 10 ^ 15) (h2 : t2 < 10 ^ 15) where
  from_holds : Holds (heading t1 t2) 0 15 t1
  unfolding heading
  from_holds =
      rw append_assoc (field_holds [] (spaces 10 ++ number 15 t2) 0 15 15 t1 refl (omega arith) h1 (omega arith))

  to_holds : Holds (heading t1 t2) 25 15 t2
  unfolding heading
  to_holds =
      let n : length (number 15 t1 ++ spaces 10) ≡ 25 = simp (length-append, length_justified, length_repeated) in
      rw (← append-nil (number 15 t1 ++ spaces 10 ++ number 15 t2))
      (field_holds (number 15 t1 ++ spaces 10) [] 25 15 15 t2 n (omega arith) h2 (omega arith))

module _ (all plate count : ℕ) (few : plate < 10 ^ 4) (most : all < 10 ^ 9) (within : count ≤ all) where
  abbrev share : ℕ
  share = percentage count all

  plate_holds : Holds (plate_line all plate count) 0 4 plate
  unfolding plate_line
  plate_holds =
      let e : number 4 plate ++ number 9 count ++ number 5 share ++ spaces 22 ≡ number 4 plate ++ (number 9 count ++ number 5 share ++ spaces 22) = simp append_assoc in
      rw e (field_holds [] (number 9 count ++ number 5 share ++ spaces 22) 0 4 4 plate refl (omega arith) few (omega arith))

  count_holds : Holds (plate_line all plate count) 4 9 count
  unfolding plate_line
  count_holds =
      let n : length (number 4 plate) ≡ 4 = length_justified 4 (digits plate) in
      let e : number 4 plate ++ number 9 count ++ number 5 share ++ spaces 22 ≡ number 4 plate ++ number 9 count ++ (number 5 share ++ spaces 22) = simp append_assoc in
      rw e (field_holds (number 4 plate) (number 5 share ++ spaces 22) 4 9 9 count n (omega arith) (omega arith) (omega arith))

  share_holds : Holds (plate_line all plate count) 13 5 (percentage count all)
  unfolding plate_line
  share_holds =
      let n : length (number 4 plate ++ number 9 count) ≡ 13 = simp (length-append, length_justified) in
      field_holds (number 4 plate ++ number 9 count) (spaces 22) 13 5 3 share n (omega arith)
      (omega (arith, percentage_most count all within)) (omega arith)

total_holds : (all : ℕ) → all < 10 ^ 9 → Holds (total_line all) 4 9 all
unfolding total_line
total_holds all most =
    field_holds (spaces 4) (spaces 27) 4 9 9 all (length_repeated 4 32) (omega arith) most (omega arith)

-- ---- the plates, heaviest first

module _ (counts : List ℕ) where
  length_plates : (k : ℕ) → length (plate_lines counts k) ≡ k
  unfolding plate_lines
  length_plates zero = refl
  length_plates (suc k) = ap suc (length_plates k)

  plates_long : (k : ℕ) → EachLong 40 (plate_lines counts k)
  unfolding plate_lines
  plates_long zero = tt
  plates_long (suc k) = (length_plate (total counts) k (get_or counts k 0), plates_long k)

  plate_at : (rest : List (List ℕ)) (k n : ℕ) → n < k
      → get_or (plate_lines counts k ++ rest) (k - suc n) [] ≡ plate_line (total counts) n (get_or counts n 0)
  unfolding plate_lines
  plate_at rest zero n h = absurd (omega arith)
  plate_at rest (suc k) n h = go (ltb n k) refl (plate_at rest k n)
    where
      go : (t : Bool) → ltb n k ≡ t
          → (n < k → get_or (plate_lines counts k ++ rest) (k - suc n) [] ≡ plate_line (total counts) n (get_or counts n 0))
          → get_or (plate_line (total counts) k (get_or counts k 0) ∷ (plate_lines counts k ++ rest)) (suc k - suc n) []
          ≡ plate_line (total counts) n (get_or counts n 0)
      go true e ih =
          let l = ltb-true n k e in
          let m : suc k - suc n ≡ suc (k - suc n) = omega arith in
          rw m (ih l)
      go false e ih =
          let l = ltb-false n k e in
          let m : suc k - suc n ≡ 0 = omega arith in
          let same : n ≡ k = omega arith in
          rw (m, same)

  module _ (most : total counts < 10 ^ 9) (few : length counts < 10 ^ 4) where
    counted : (n : ℕ) → n < length counts → count_in (plate_line (total counts) n (get_or counts n 0)) ≡ get_or counts n 0
    counted n h = ap value_of (count_holds (total counts) n (get_or counts n 0) (omega arith) most (place_total counts n)).reads

    -- the counts of k plates, and those of the others
    plates_total : (k : ℕ) → k ≤ length counts → total (map count_in (plate_lines counts k)) + total (drop k counts) ≡ total counts
    unfolding plate_lines total
    plates_total zero h = omega arith
    plates_total (suc k) h =
        let c = counted k (omega arith) in
        let t = total_from counts k (omega arith) in
        omega (arith, plates_total k (omega arith))

-- ---- the page

each_append : (n : ℕ) (a b : List (List ℕ)) → EachLong n a → EachLong n b → EachLong n (a ++ b)
each_append n [] b p q = q
each_append n (l ∷ a) b p q = (p.0, each_append n a b p.1 q)

module _ (t1 t2 : ℕ) (counts : List ℕ) (h1 : t1 < 10 ^ 15) (h2 : t2 < 10 ^ 15) (most : total counts < 10 ^ 9)
    (few : length counts < 10 ^ 4) where
  abbrev page : List (List ℕ)
  page = page_lines t1 t2 counts

  abbrev last : List (List ℕ)
  last = total_line (total counts) ∷ []

  at_plate : (n : ℕ) → n < length counts → plate_line_of page (length counts) n ≡ plate_line (total counts) n (get_or counts n 0)
  unfolding page_lines
  at_plate n h =
      let m : length counts - n ≡ suc (length counts - suc n) = omega arith in
      rw m (plate_at counts last (length counts) n h)

  at_total : get_or page (length counts + 1) [] ≡ total_line (total counts)
  unfolding page_lines
  at_total =
      let m : length counts + 1 ≡ suc (length counts) = omega arith in
      rw m (get_or_at (plate_lines counts (length counts)) (total_line (total counts)) [] [] (length counts)
      (length_plates counts (length counts)))

  between_plates : between page ≡ plate_lines counts (length counts)
  unfolding page_lines
  between_plates =
      let l = length_plates counts (length counts) in
      let n : length page - 2 ≡ length counts = simp length-append (omega arith) in
      rw n (take_at (plate_lines counts (length counts)) last (length counts) l)

  moved : (l m : List ℕ) (at n v : ℕ) → l ≡ m → Holds m at n v → Holds l at n v
  moved l m at n v e h = rw e h

  on_plate : (n : ℕ) → n < length counts → (at w v : ℕ) → Holds (plate_line (total counts) n (get_or counts n 0)) at w v
      → Holds (plate_line_of page (length counts) n) at w v
  on_plate n h at w v = moved (plate_line_of page (length counts) n) (plate_line (total counts) n (get_or counts n 0)) at w v (at_plate n h)

  on_total : Holds (get_or page (length counts + 1) []) 4 9 (total counts)
  on_total = moved (get_or page (length counts + 1) []) (total_line (total counts)) 4 9 (total counts) at_total (total_holds (total counts) most)

  -- the page of any counts that fit shows them
  pub page_shows : Shows page t1 t2 counts
  unfolding page_lines
  page_shows =
      let plates = plate_lines counts (length counts) in
      let sum = plates_total counts most few (length counts) (omega arith) in
      let none = total_past counts (length counts) refl in
      record {
        width =
            (length_heading t1 t2, each_append 40 plates last (plates_long counts (length counts)) (length_total (total counts), tt));
        lines = simp length-append (omega (arith, length_plates counts (length counts)));
        from = from_holds t1 t2 h1 h2;
        to = to_holds t1 t2 h1 h2;
        plate = λ n h. on_plate n h 0 4 n
            (plate_holds (total counts) n (get_or counts n 0) (omega arith) most (place_total counts n));
        count = λ n h. on_plate n h 4 9 (get_or counts n 0)
            (count_holds (total counts) n (get_or counts n 0) (omega arith) most (place_total counts n));
        share = λ n h. on_plate n h 13 5 (percentage (get_or counts n 0) (total counts))
            (share_holds (total counts) n (get_or counts n 0) (omega arith) most (place_total counts n));
        all = on_total;
        adds_up =
            ap (λ (ls : List (List ℕ)). total (map count_in ls)) between_plates ∙ omega arith ∙ sym (ap value_of on_total.reads);
      }

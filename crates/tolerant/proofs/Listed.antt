-- Both lists in their areas: the rows of an area read back, grounds 10 and 12, then what is written. Assumes nothing.
use mathlib.Core.Path.{◌≡◌, refl, ap, ap₂, ◌∙◌}
use mathlib.Core.Bool.{Bool, true, false, ◌||◌}
use mathlib.Core.Option.{Option, none}
use mathlib.Core.List.{List, [], ◌∷◌}
use Prim.Native.Nat.{ℕ, suc, ◌+◌, ◌*◌, ◌/◌, ◌≤◌, ◌<◌}
use native.Mathlib.Nat.{mul-le-mul_right}
use native.Mathlib.Omega.{arith}
use lib.Dec.{ltb}
use lib.ListN.{length, get_or}
use borrow.Author.Tests.{ltb-false}
use Rattle.codec.specs.Area.{part, splice}
use Rattle.codec.proofs.Areas.{length_splice, part_inside}
use Rattle.codec.proofs.Truth.{or_parts}
use Rattle.found.proofs.Wide.{AllIn, Wide}
use Rattle.search.specs.Answers.{row_bytes}
use Rattle.search.specs.Inner.Turns.{written_in, CountIs}
use Rattle.search.proofs.Rows.{length_rows, row_at}
use Rattle.tolerance.specs.declared.Ends.{Ends}
use Rattle.tolerance.specs.Inner.Ends.{rows_in_ends}
use Rattle.tolerant.specs.declared.pieces.Both.{Both}
use Rattle.tolerant.specs.Answers.{TolerantAnswer, refused_both, tolerant_answer}
use Rattle.tolerant.specs.Inner.Counted.{CountsBoth}
use Rattle.tolerant.specs.Inner.Rows.{rows_in}

-- ---- the rows of an area

rows_are : (s : List ℕ) (rows : List (List ℕ)) (i : ℕ) → ((k : ℕ) → k < length rows → part s ((i + k) * 32) 32 ≡ get_or rows k [])
    → rows_in s i (length rows) ≡ rows
unfolding rows_in
rows_are s [] i h = refl
rows_are s (r ∷ rows) i h =
    let z : i + 0 ≡ i = omega arith in
    ap₂ {C = List (List ℕ)} (λ a b. a ∷ b) (rw z at (h 0 (omega arith)))
    (rows_are s rows (suc i) (λ k l. let n : i + suc k ≡ suc i + k = omega arith in rw n at (h (suc k) (omega arith))))

-- rows that were written are read back
rows_back : (area : List ℕ) (rows : List (List ℕ)) → Wide 32 rows → length rows * 32 ≤ length area
    → rows_in (splice area 0 (row_bytes rows)) 0 (length rows) ≡ rows
rows_back area rows w h =
    let l = length_rows 32 rows w in
    rows_are (splice area 0 (row_bytes rows)) rows 0 (λ k m.
    let z : (0 + k) * 32 ≡ 0 + k * 32 = omega arith in
    rw z (part_inside area 0 (row_bytes rows) (omega arith) (k * 32) 32 (omega (arith, mul-le-mul_right {m = suc k} 32 m)) ∙ row_at 32 rows w k [] m))

-- ---- the answer

module _ (certain_area possible_area : List ℕ) (e : Ends) (o : Option (List (List ℕ))) (n : Both) (counts : CountsBoth e o n) where
  abbrev answer : Option (List (List ℕ)) → TolerantAnswer
  answer x = tolerant_answer (rows_in_ends e) certain_area possible_area x

  pub listed_count : CountIs n.possible o
  listed_count = rw counts.are counts.possible

  module _ (certain_rows_lem possible_rows : ℕ) (certain_is : certain_rows_lem ≡ length certain_area / 32)
      (possible_is : possible_rows ≡ length possible_area / 32) where
    abbrev is_small : Bool
    is_small = ltb certain_rows_lem n.certain || ltb possible_rows n.possible

    pub listed_small : is_small ≡ true → refused_both 12 certain_area possible_area ≡ answer o
    unfolding tolerant_answer
    listed_small h = rw (counts.are, ← certain_is, ← possible_is, ← counts.certain, ← counts.possible, h)

    module _ (fits : is_small ≡ false) where
      pub certain_fits : n.certain * 32 ≤ length certain_area
      certain_fits = let h = ltb-false certain_rows_lem n.certain (or_parts (ltb certain_rows_lem n.certain) (ltb possible_rows n.possible) fits).0 in omega arith

      pub possible_fits : n.possible * 32 ≤ length possible_area
      possible_fits = let h = ltb-false possible_rows n.possible (or_parts (ltb certain_rows_lem n.certain) (ltb possible_rows n.possible) fits).1 in omega arith

      module _ (wide : AllIn (λ r. length r ≡ 32) o) (written : List ℕ) (written_is : written ≡ written_in possible_area o) where
        wide_rows : Wide 32 counts.rows
        wide_rows = rw counts.are at wide

        written_rows : written ≡ splice possible_area 0 (row_bytes counts.rows)
        written_rows = rw counts.are at written_is

        back : rows_in written 0 n.possible ≡ counts.rows
        back = rw (written_rows, counts.possible) (rows_back possible_area counts.rows wide_rows (omega (arith, possible_fits, counts.possible)))

        pub rows_inside : n.possible * 32 ≤ length written
        rows_inside =
            let l = length_rows 32 counts.rows wide_rows in
            let m = counts.possible in
            omega (
              arith,
              possible_fits,
              ap length written_rows,
              length_splice possible_area 0 (row_bytes counts.rows) (omega (arith, possible_fits)),
            )

        -- the rows that are picked from are those that were found
        pub picked_room : length (rows_in_ends e (rows_in written 0 n.possible)) * 32 ≤ length certain_area
        picked_room = rw back (omega (arith, certain_fits, counts.certain))

        pub listed_both_lem : (picked : List ℕ) → picked ≡ splice certain_area 0 (row_bytes (rows_in_ends e (rows_in written 0 n.possible)))
            → ◌≡◌ {A = TolerantAnswer} (record {
              number = 0;
              certain = n.certain;
              possible = n.possible;
              certain_area = picked;
              possible_area = written;
            })
            (answer o)
        unfolding tolerant_answer
        listed_both_lem picked picked-is =
            rw (counts.are, ← certain_is, ← possible_is, ← counts.certain, ← counts.possible, fits)
            (rw (picked-is, back, written_rows) (rw (counts.certain, counts.possible) refl))

-- damage
pub listed_damage : (certain_area possible_area : List ℕ) (e : Ends) (o : Option (List (List ℕ))) → o ≡ none
    → refused_both 10 certain_area possible_area ≡ tolerant_answer (rows_in_ends e) certain_area possible_area o
unfolding tolerant_answer
listed_damage certain_area possible_area e o d = rw d

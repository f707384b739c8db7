-- Rows picked from one area into another: those that are picked and those that are left come to the whole. Assumes nothing.
use mathlib.Core.Path.{◌≡◌, refl, sym, ap, ◌∙◌}
use mathlib.Core.Bool.{true, false, cond}
use mathlib.Core.List.{List, [], ◌∷◌}
use Prim.Native.Nat.{ℕ, suc, ◌+◌, ◌-◌, ◌*◌, ◌≤◌, ◌<◌}
use native.Mathlib.Omega.{arith}
use native.Mathlib.Numerals.{add-one}
use lib.ListN.{length}
use borrow.Author.Tests.{lt-ltb}
use Rattle.codec.specs.Area.{splice}
use Rattle.codec.specs.Lists.{chosen}
use Rattle.codec.proofs.Areas.{length_splice, splice_next, splice_none}
use Rattle.lift.specs.Record.{code_at}
use Rattle.lift.specs.Rows.{code_in, record_in}
use Rattle.lift.proofs.Rows.{code_of_record, record_length}
use Rattle.search.specs.Answers.{row_bytes}
use Rattle.tolerance.specs.declared.Ends.{Ends}
use Rattle.tolerance.specs.Inner.Ends.{in_ends, rows_in_ends}
use Rattle.tolerant.specs.Inner.Rows.{rows_in}

-- the first of some rows
first_row : (area : List ℕ) (rows i : ℕ) → i < rows
    → rows_in area i (rows - i) ≡ record_in area area rows i ∷ rows_in area (i + 1) (rows - (i + 1))
unfolding rows_in record_in
first_row area rows i h =
    let n : rows - i ≡ suc (rows - (i + 1)) = omega arith in
    let t = lt-ltb i rows h in
    rw (n, t, add-one)

module _ (possible : List ℕ) (rows : ℕ) (e : Ends) where
  -- the rows from row i on that are to be picked
  abbrev left : ℕ → List (List ℕ)
  left i = rows_in_ends e (rows_in possible i (rows - i))

  -- `to` rows are picked of those before row i; with the others the area comes to `all`
  pub record Picks (all : List ℕ) (size : ℕ) (area : List ℕ) (i to : ℕ) : Type 0 where
    pub most : i ≤ rows
    pub room : (to + length (left i)) * 32 ≤ length area
    pub long : length area ≡ size
    pub leads : splice area (to * 32) (row_bytes (left i)) ≡ all

  pub picks_none : (area : List ℕ) → length (rows_in_ends e (rows_in possible 0 rows)) * 32 ≤ length area
      → Picks (splice area 0 (row_bytes (rows_in_ends e (rows_in possible 0 rows)))) (length area) area 0 0
  picks_none area room =
      let z : rows - 0 ≡ rows = omega arith in
      let n : 0 * 32 ≡ 0 = omega arith in
      record { most = omega arith; room = rw z (omega arith); long = refl; leads = rw (z, n) }

  module _ (inside : rows * 32 ≤ length possible) (all : List ℕ) (size : ℕ) (area : List ℕ) (i to : ℕ) (p : Picks all size area i to) where
    pub picks_over : rows ≤ i → area ≡ all
    unfolding rows_in chosen row_bytes
    picks_over h = let z : rows - i ≡ 0 = omega arith in sym (splice_none area (to * 32) [] refl) ∙ rw z at p.leads

    module _ (h : i < rows) where
      pub row_inside : (i * 32 + 32 ≤ length possible) × ((i - rows) * 32 + 32 ≤ length possible)
      row_inside = (omega arith, omega arith)

      abbrev row : List ℕ
      row = record_in possible possible rows i

      module _ (code : ℕ) (code_is : code ≡ code_in possible possible rows i) where
        here : left i ≡ cond (in_ends e code) (row ∷ left (i + 1)) (left (i + 1))
        unfolding chosen
        here =
            let c : code_at row 0 ≡ code = code_of_record possible possible rows i row_inside.0 row_inside.1 ∙ sym code_is in
            rw (first_row possible rows i h, c)

        pub picks_out : in_ends e code ≡ false → (new : List ℕ) (at : ℕ) → new ≡ area → at ≡ to → Picks all size new (i + 1) at
        picks_out t new at same stays =
            let l : left i ≡ left (i + 1) = here ∙ rw t in
            rw (same, stays)
            (record {
              most = omega arith;
              room = rw l at p.room;
              long = p.long;
              leads = rw l at p.leads;
            })

        module _ (t : in_ends e code ≡ true) where
          taken : left i ≡ row ∷ left (i + 1)
          taken = here ∙ rw t

          pub row_room : to * 32 + 32 ≤ length area
          row_room = omega (arith, p.room, ap length taken)

          pub picks_in : (new : List ℕ) (at : ℕ) → new ≡ splice area (to * 32) row → at ≡ to + 1 → Picks all size new (i + 1) at
          unfolding row_bytes
          picks_in new at f moves =
              let w = record_length possible possible rows i row_inside.0 row_inside.1 in
              let l : length new ≡ length area = ap length f ∙ length_splice area (to * 32) row (omega (arith, row_room)) in
              rw moves
              (record {
                most = omega arith;
                room = omega (arith, p.room, ap length taken);
                long = l ∙ p.long;
                leads =
                    ap (λ (s : List ℕ). splice s ((to + 1) * 32) (row_bytes (left (i + 1)))) f
                    ∙ splice_next area (to * 32) row ((to + 1) * 32) (row_bytes (left (i + 1))) (omega arith) (omega (arith, row_room))
                    ∙ rw taken at p.leads;
              })

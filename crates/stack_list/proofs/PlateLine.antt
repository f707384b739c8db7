-- A line by itself: the plate that it is, or none, and what it does to the counts. Assumes nothing.
use mathlib.Core.Path.{◌≡◌, refl, sym, ap, ◌∙◌}
use mathlib.Core.Bool.{Bool, true, false, cond, ◌&&◌}
use mathlib.Core.List.{List, [], ◌∷◌}
use Prim.Native.Nat.{ℕ, ◌+◌}
use native.Mathlib.Numerals.{add-one}
use native.Mathlib.Omega.{arith}
use borrow.Author.Tests.{eq-eqb, ne_eqb, lt-ltb}
use lib.Dec.{eqb, ltb}
use lib.ListN.{length}
use Rattle.std.specs.Prelude.{Some, None}
use Rattle.codec.specs.Area.{part}
use Rattle.codec.proofs.Truth.{and_true, and_false}
use Rattle.plate.proofs.Ends.{plate_sizes}
use Rattle.codec.proofs.Areas.{part_all}
use Rattle.plate.specs.Stack.{is_plate}
use Rattle.lines.specs.declared.Field.{Field}
use Rattle.lines.specs.Columns.{field_in, value_of, is_time}
use Rattle.stack_list.specs.declared.reading.Read.{Read}
use Rattle.stack_list.specs.ListForm.{is_blank, six_columns}
use Rattle.stack_list.specs.Inner.Turns.{plate_or0, IsPlate, read_line}

abbrev the_read : Read → Read
the_read r = r

-- ---- the plate of a line

pub other_length : (line : List ℕ) → (length line ≡ 6 → ⊥) → plate_or0 line ≡ 0
unfolding plate_or0 six_columns
other_length line n = rw (ne_eqb (length line) 6 n)

module _ (line : List ℕ) (six : length line ≡ 6) (f : Field) (e : f ≡ field_in (part line 0 6)) where
  whole : field_in line ≡ f
  whole = sym (e ∙ ap field_in (part_all line 6 six))

  pub no_number : None ≡ cond (is_time f) (Some (value_of f)) None → plate_or0 line ≡ 0
  unfolding plate_or0 six_columns
  no_number n = go (is_time f) refl n
    where
      go : (t : Bool) → is_time f ≡ t → None ≡ cond t (Some (value_of f)) None
          → cond ((eqb (length line) 6 && is_time (field_in line)) && is_plate (value_of (field_in line))) (value_of (field_in line)) 0 ≡ 0
      go true t n = cc
      go false t n = rw (eq-eqb (length line) 6 six, whole, t)

  module _ (v : ℕ) (s : Some v ≡ cond (is_time f) (Some (value_of f)) None) where
    time_is : (is_time f ≡ true) × (v ≡ value_of f)
    time_is = go (is_time f) s
      where
        go : (t : Bool) → Some v ≡ cond t (Some (value_of f)) None → (t ≡ true) × (v ≡ value_of f)
        go true n = (refl, cc)
        go false n = cc

    pub no_plate : is_plate v ≡ false → plate_or0 line ≡ 0
    unfolding plate_or0 six_columns
    no_plate p = rw (eq-eqb (length line) 6 six, whole, time_is.0, ← time_is.1, p)

    pub a_plate : is_plate v ≡ true → IsPlate line v
    unfolding plate_or0 six_columns
    a_plate p = record {
      is = rw (eq-eqb (length line) 6 six, whole, time_is.0, ← time_is.1, p);
      some = (let l = plate_sizes v p in omega arith);
    }

-- ---- a line and the counts

module _ (stacks plates : ℕ) where
  pub blank_line : (t : Bool) → (ltb 0 plates && ltb stacks 16) ≡ t → (line : List ℕ) → length line ≡ 0
      → cond t (Some (the_read (record { number = 0; stacks = stacks + 1; plates = 0 }))) None
      ≡ read_line line stacks plates
  unfolding read_line is_blank
  blank_line t e [] z = rw (add-one, e)
  blank_line t e (b ∷ l) z = absurd (omega arith)

  pub no_plate_line : (line : List ℕ) → (length line ≡ 0 → ⊥) → plate_or0 line ≡ 0 → None ≡ read_line line stacks plates
  unfolding read_line is_blank
  no_plate_line [] z e = absurd (z refl)
  no_plate_line (b ∷ l) z e = rw (e, and_false (ltb plates 24))

  pub plate_line_lem : (line : List ℕ) (n : ℕ) → (length line ≡ 0 → ⊥) → IsPlate line n
      → cond (ltb plates 24) (Some (the_read (record { number = n; stacks = stacks; plates = plates + 1 }))) None
      ≡ read_line line stacks plates
  unfolding read_line is_blank
  plate_line_lem [] n z p = absurd (z refl)
  plate_line_lem (b ∷ l) n z p =
      let h = p.some in
      let t : ltb 0 n ≡ true = lt-ltb 0 n h in
      rw (add-one, ← p.is, t, and_true (ltb plates 24))

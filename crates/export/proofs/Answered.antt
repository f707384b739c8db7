-- Each return of an export is what the definition gives there: a ground, damage, an area too small, or the text. Assumes nothing.
use mathlib.Core.Path.{◌≡◌, refl, ap, ◌∙◌}
use mathlib.Core.Option.{Option, none}
use mathlib.Core.List.{List}
use Prim.Native.Nat.{ℕ, ◌+◌, ◌≤◌, ◌<◌}
use native.Mathlib.Omega.{arith}
use lib.IntN.{ℤ}
use lib.ListN.{length, length-append}
use borrow.Author.Tests.{ne_eqb, lt-ltb, le-ltb}
use Rattle.codec.specs.Area.{splice}
use Rattle.codec.proofs.Areas.{splice_next}
use Rattle.lift_text.specs.Text.{head_text, file_text}
use Rattle.skiplist.specs.Skip.{serials_from}
use Rattle.visit.specs.declared.Log.{Log}
use Rattle.visit.specs.declared.Query.{Query}
use Rattle.found.specs.Found.{found_rows}
use Rattle.store.specs.declared.State.{State}
use Rattle.store.specs.World.{world}
use Rattle.questions.specs.Queries.{log_of, query_of, search_ground}
use Rattle.export.specs.Answers.{ExportAnswer, refused_export, rows_text, export_answer}
use Rattle.export.specs.Call.{export_outcome}
use Rattle.export.specs.Inner.Sizing.{row_lines, SizeIs, EndsAt, lines_from}

-- the header and the lines are the text
text_length : (rows : List (List ℕ)) → length (rows_text rows) ≡ 18 + length (row_lines rows)
unfolding file_text
text_length rows = length-append head_text (row_lines rows)

pub export_damage : (area : List ℕ) (o : Option (List (List ℕ))) → o ≡ none → refused_export 10 area ≡ export_answer area o
unfolding export_answer
export_damage area o d = rw d

module _ (area : List ℕ) (o : Option (List (List ℕ))) (n : ℕ) (sized : SizeIs o n) (long : ℕ) (long_is : long ≡ n + 18) where
  pub ends_at : EndsAt long o
  ends_at = rw sized.are (omega (arith, sized.bytes))

  long_rows : length (rows_text sized.rows) ≡ long
  long_rows = omega (arith, text_length sized.rows, sized.bytes)

  pub export_small : length area < long → refused_export 12 area ≡ export_answer area o
  unfolding export_answer
  export_small h = rw (sized.are, long_rows, lt-ltb (length area) long h)

  -- the header, then the lines behind it
  pub export_text : long ≤ length area → (headed written : List ℕ) → headed ≡ splice area 0 head_text
      → written ≡ lines_from headed o
      → ◌≡◌ {A = ExportAnswer} (record { number = 0; long = long; area = written }) (export_answer area o)
  unfolding export_answer file_text
  export_text fits headed written headed-is written_is =
      let w : written ≡ splice headed 18 (row_lines sized.rows) = rw sized.are at written_is in
      let t : written ≡ splice area 0 (rows_text sized.rows) =
      w ∙ ap (λ (a : List ℕ). splice a 18 (row_lines sized.rows)) headed-is
      ∙ splice_next area 0 head_text 18 (row_lines sized.rows) refl (omega (arith, sized.bytes)) in
      rw (sized.are, long_rows, le-ltb (length area) long fits, t)

-- ---- the grounds before

module _ (nand nor : List ℕ) (s : State) (slots t1 t2 : ℕ) (k1 k2 : ℤ) (area : List ℕ) (n : ℕ)
    (judged : n ≡ search_ground (world nand nor s) slots t1 t2 k1 k2) where
  pub export_refused : (n ≡ 0 → ⊥) → refused_export n area ≡ export_outcome (world nand nor s) slots t1 t2 k1 k2 area
  unfolding export_outcome
  export_refused h = rw (← judged, ne_eqb n 0 h)

  -- g, the page and the question as the code has them
  pub export_done : n ≡ 0 → (g : Log) (page : List ℕ) (q : Query) → g ≡ log_of s slots → page ≡ s.page → q ≡ query_of t1 t2 k1 k2
      → (a : ExportAnswer) → a ≡ export_answer area (found_rows nand nor page g (serials_from g.oldest) q)
      → a ≡ export_outcome (world nand nor s) slots t1 t2 k1 k2 area
  unfolding export_outcome
  export_done z g page q e p w a f = rw (← judged, z) (f ∙ rw (e, p, w))

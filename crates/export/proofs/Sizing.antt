-- The lines of lifts counted in bytes: the lifts of a set one after the other, then segment by segment. Assumes nothing.
use Rattle.std.specs.Prelude.{Some, None}
use Rattle.std.specs.Prelude.{Option as Maybe}
use mathlib.Core.Path.{◌≡◌, refl, sym, ap, ◌∙◌}
use mathlib.Core.Bool.{true, false}
use mathlib.Core.Option.{Option, none}
use mathlib.Core.List.{List, [], ◌∷◌, ◌++◌, map, map-append}
use Prim.Native.Nat.{ℕ, ◌+◌, ◌-◌, ◌*◌, ◌≤◌, ◌<◌}
use native.Mathlib.Omega.{arith}
use lib.ListN.{length, length-append}
use Rattle.bitset.specs.declared.Bits.{Bits}
use Rattle.bitset.specs.Inner.Words.{members, Below}
use Rattle.lift.specs.Limits.{load_of}
use Rattle.lift.specs.Rows.{time_in, code_in, member_in, record_in}
use Rattle.lift.proofs.Rows.{time_of_record, code_of_record, member_of_record}
use Rattle.skiplist.specs.Skip.{Live}
use Rattle.sweep.specs.declared.Records.{Records}
use Rattle.sweep.specs.Inner.Swept.{Recorded}
use Rattle.visit.specs.declared.Query.{Query}
use Rattle.visit.proofs.Emptying.{recorded_at}
use Rattle.found.specs.Inner.Turns.{rows_after}
use Rattle.lift_text.specs.Text.{Told, told_in, line_text, lines_text}
use Rattle.lift_text.proofs.Lines.{lines_append}
use Rattle.each_segment.specs.declared.Turn.{Turn}
use Rattle.each_segment.specs.Inner.Turns.{turns_left, rows_of, IsTurn, Through}
use Rattle.each_segment.proofs.Turns.{through_none, through_damage, through_all, through_more}
use Rattle.export.specs.Inner.Sizing.{row_lines, set_lines, SizeIs}

-- ---- a lift

module _ (lifts tail : List ℕ) (g : Records) where
  -- what the code reads of the lift at a place is what its record tells
  pub told_at : (p : ℕ) → p * 32 + 32 ≤ length lifts → (p - g.first) * 32 + 32 ≤ length tail → (time code member : ℕ)
      → time ≡ time_in lifts tail g.first p → code ≡ code_in lifts tail g.first p → member ≡ member_in lifts tail g.first p
      → ◌≡◌ {A = Told} (record { time = time; load = load_of code; member = member }) (told_in (record_in lifts tail g.first p))
  told_at p a b time code member t c m =
      rw (
        t ∙ sym (time_of_record lifts tail g.first p a b),
        c ∙ sym (code_of_record lifts tail g.first p a b),
        m ∙ sym (member_of_record lifts tail g.first p a b),
      )

  -- ---- the lifts of a set

  abbrev pub lines_in : Bits → List ℕ
  lines_in set = set_lines lifts tail g.first set.words

  -- n bytes are counted; with those of the places left they come to the total
  pub record Sums (total : ℕ) (left : List ℕ) (n : ℕ) : Type 0 where
    pub below : Below g.count left
    pub sum : n + length (row_lines (map (record_in lifts tail g.first) left)) ≡ total
    pub room : n + 65 * length left ≤ 20800

  module _ (r : Recorded lifts tail g) (total : ℕ) (left : List ℕ) (n : ℕ) (i : Sums total left n) where
    pub sums_over : left ≡ [] → (n ≡ total) × (n ≤ 20800)
    unfolding lines_text
    sums_over z = (omega (arith, rw z at i.sum), omega (arith, i.room))

    module _ (p : ℕ) (rest : List ℕ) (m : left ≡ p ∷ rest) where
      pub place_read : (p * 32 + 32 ≤ length lifts) × ((p - g.first) * 32 + 32 ≤ length tail)
      place_read = recorded_at lifts tail g p r (rw m at i.below).0

      pub sums_more : (time code member width : ℕ) → time ≡ time_in lifts tail g.first p
          → code ≡ code_in lifts tail g.first p → member ≡ member_in lifts tail g.first p
          → width ≡ length (line_text (record { time = time; load = load_of code; member = member })) → width ≤ 65
          → Sums total rest (n + width)
      unfolding lines_text
      sums_more time code member width t c m' w few =
          let told = told_at p place_read.0 place_read.1 time code member t c m' in
          let line : width ≡ length (line_text (told_in (record_in lifts tail g.first p))) =
          w ∙ ap (λ (x : Told). length (line_text x)) told in
          let sum = rw m at i.sum in
          let room = rw m at i.room in
          let both = length-append (line_text (told_in (record_in lifts tail g.first p))) (row_lines (map (record_in lifts tail g.first) rest)) in
          record {
            below = (rw m at i.below).1;
            sum = omega arith;
            room = omega arith;
          }

-- ---- segment by segment

module _ (nand : List ℕ) (slots : ℕ) (live : Live) (q : Query) (page : List ℕ) (o : Option (List (List ℕ))) (top : ℕ) where
  -- the newer rows are counted
  pub record Sizes (t : Maybe Turn) (bytes : ℕ) : Type 0 where
    pub newer : List (List ℕ)
    pub through : Through nand slots live q page o top t newer
    pub bytes_are : bytes ≡ length (row_lines newer)
    pub few : bytes + 20800 * turns_left t ≤ 20800 * top

  pub sizes_none : (t : Maybe Turn) → IsTurn nand slots live q page o top t → Sizes t 0
  unfolding lines_text
  sizes_none t i =
      record { newer = []; through = through_none nand slots live q page o top t i; bytes_are = refl; few = omega (arith, i.few) }

  module _ (bytes : ℕ) where
    pub sizes_all : Sizes None bytes → SizeIs o bytes
    sizes_all i = record { rows = i.newer; are = through_all nand slots live q page o top i.newer i.through; bytes = i.bytes_are }

    module _ (t : Turn) (i : Sizes (Some t) bytes) where
      pub sizes_damage : rows_after nand slots live q t.c ≡ none → o ≡ none
      sizes_damage d = through_damage nand slots live q page o top i.newer t i.through d

      pub sizes_more : (here : ℕ) → here ≡ length (row_lines (rows_of nand page t)) → here ≤ 20800 → (next : Maybe Turn)
          → IsTurn nand slots live q page (rows_after nand slots live q t.c) t.c.before next → Sizes next (bytes + here)
      sizes_more here here_is small next n =
          record {
            newer = rows_of nand page t ++ i.newer;
            through = through_more nand slots live q page o top i.newer t i.through next n;
            bytes_are =
                rw (map-append told_in (rows_of nand page t) i.newer, lines_append (map told_in (rows_of nand page t)) (map told_in i.newer))
                (simp length-append (omega (arith, i.bytes_are, here_is)));
            few = omega (arith, i.few, n.few);
          }

-- Lines written from their end backwards: the lifts of a set from the highest place down, then segment by segment, the newest first. Assumes nothing.
use Rattle.std.specs.Prelude.{Result, Ok, Err, Some, None, IfOk, IfErr}
use Rattle.std.specs.Prelude.{Option as Maybe}
use mathlib.Core.Path.{◌≡◌, refl, sym, ap, subst, ◌∙◌}
use mathlib.Core.Bool.{true, false}
use mathlib.Core.Option.{Option, none, some}
use mathlib.Core.List.{List, [], ◌∷◌, ◌++◌, map, map-append, append_assoc, append-nil}
use Prim.Native.Nat.{ℕ, ◌+◌, ◌-◌, ◌*◌, ◌≤◌, ◌<◌}
use native.Mathlib.Omega.{arith}
use lib.ListN.{length, length-append}
use Rattle.bitset.specs.Inner.Words.{Below}
use Rattle.lift.specs.Limits.{load_of}
use Rattle.lift.specs.Rows.{time_in, code_in, member_in, record_in}
use Rattle.skiplist.specs.Skip.{Live}
use Rattle.sweep.specs.declared.Records.{Records}
use Rattle.sweep.specs.Inner.Swept.{Recorded}
use Rattle.visit.specs.declared.Query.{Query}
use Rattle.visit.proofs.Emptying.{recorded_at}
use Rattle.found.specs.Inner.Turns.{rows_after}
use Rattle.lift_text.specs.Text.{Told, told_in, line_text, lines_text}
use Rattle.lift_text.specs.Inner.Before.{PutBefore}
use Rattle.lift_text.proofs.Lines.{lines_append}
use Rattle.lift_text.proofs.Before.{put_nothing, put_before_both, length_put}
use Rattle.each_segment.specs.declared.Turn.{Turn}
use Rattle.grounds.specs.declared.Ground.{Ground}
use Rattle.each_segment.specs.Inner.Turns.{turns_left, rows_left, rows_of, IsDamage, IsTurn, Through}
use Rattle.each_segment.proofs.Turns.{through_none, through_all, through_damage, through_more}
use Rattle.export.specs.Inner.Sizing.{row_lines, EndsAt, lines_from}
use Rattle.export.proofs.Sizing.{lines_in, told_at}

-- ---- the lifts of a set

below_parts : (n : ℕ) (ps : List ℕ) (p : ℕ) → Below n (ps ++ (p ∷ [])) → Below n ps × (p < n)
below_parts n [] p b = (tt, b.0)
below_parts n (q ∷ ps) p b = let r = below_parts n ps p b.1 in ((b.0, r.0), r.1)

module _ (lifts tail : List ℕ) (g : Records) (area : List ℕ) (end : ℕ) (whole : List ℕ) where
  abbrev lines_of : List ℕ → List ℕ
  lines_of ps = row_lines (map (record_in lifts tail g.first) ps)

  -- the lines of the places above are written; with those of the places left they are the whole
  pub record Puts (left new : List ℕ) (to : ℕ) : Type 0 where
    pub below : Below g.count left
    pub done : List ℕ
    pub sides : lines_of left ++ done ≡ whole
    pub put : PutBefore area new done end to

  pub puts_none : (left : List ℕ) → Below g.count left → lines_of left ≡ whole → Puts left area end
  puts_none left b e = record { below = b; done = []; sides = append-nil (lines_of left) ∙ e; put = put_nothing area end }

  pub puts_length : end ≤ length area → (left new : List ℕ) (to : ℕ) → Puts left new to → length new ≡ length area
  puts_length inside left new to i = length_put area new i.done end to inside i.put

  module _ (r : Recorded lifts tail g) (left new : List ℕ) (to : ℕ) (i : Puts left new to) where
    pub puts_over : left ≡ [] → PutBefore area new whole end to
    unfolding lines_text
    puts_over f = subst (λ (t : List ℕ). PutBefore area new t end to) (rw f at i.sides) i.put

    module _ (p : ℕ) (rest : List ℕ) (f : left ≡ rest ++ (p ∷ [])) where
      parts : Below g.count rest × (p < g.count)
      parts = below_parts g.count rest p (rw f at i.below)

      pub last_read : (p * 32 + 32 ≤ length lifts) × ((p - g.first) * 32 + 32 ≤ length tail)
      last_read = recorded_at lifts tail g p r parts.1

      -- the line of the highest place stands behind those of the rest
      line_behind : lines_of left ≡ lines_of rest ++ line_text (told_in (record_in lifts tail g.first p))
      unfolding lines_text
      line_behind =
          let here = record_in lifts tail g.first in
          rw (
            f,
            map-append here rest (p ∷ []),
            map-append told_in (map here rest) (here p ∷ []),
            lines_append (map told_in (map here rest)) (told_in (here p) ∷ []),
            append-nil (line_text (told_in (here p))),
          )

      module _ (time code member : ℕ) (t : time ≡ time_in lifts tail g.first p) (c : code ≡ code_in lifts tail g.first p)
          (m : member ≡ member_in lifts tail g.first p) where
        abbrev line : List ℕ
        line = line_text (record { time = time; load = load_of code; member = member })

        line_is : lines_of rest ++ line ≡ lines_of left
        line_is =
            ap (λ (x : Told). lines_of rest ++ line_text x)
            (told_at lifts tail g p last_read.0 last_read.1 time code member t c m)
            ∙ sym line_behind

        pub line_room : length whole ≤ end → end ≤ length area
            → (length (line_text (record { time = time; load = load_of code; member = member })) ≤ to) × (to ≤ length new)
        line_room fits inside = (
          omega (
            arith,
            ap length i.sides,
            length-append (lines_of left) i.done,
            ap length line_is,
            length-append (lines_of rest) line,
            i.put.begins,
          ),
          omega (arith, i.put.begins, length_put area new i.done end to inside i.put),
        )

        pub puts_more : end ≤ length area → (new2 : List ℕ) (to2 : ℕ)
            → PutBefore new new2 (line_text (record { time = time; load = load_of code; member = member })) to to2 → Puts rest new2 to2
        puts_more inside new2 to2 q =
            record {
              below = parts.0;
              done = line ++ i.done;
              sides =
                  sym (append_assoc (lines_of rest) line i.done) ∙ ap (λ (x : List ℕ). x ++ i.done) line_is ∙ i.sides;
              put = put_before_both area new new2 line i.done end to to2 inside i.put q;
            }

-- ---- segment by segment

-- the rows left, none where damage was met, and how many turns there may be yet
abbrev pub rows_next : List ℕ → ℕ → Live → Query → List ℕ → Result (Maybe Turn) Ground → Option (List (List ℕ))
rows_next nand slots live q page (Ok t) = rows_left nand slots live q page t
rows_next nand slots live q page (Err g) = none

abbrev pub turns_next : Result (Maybe Turn) Ground → ℕ
turns_next (Ok t) = turns_left t
turns_next (Err g) = 0

module _ (nand : List ℕ) (slots : ℕ) (live : Live) (q : Query) (page : List ℕ) (o : Option (List (List ℕ))) (top : ℕ)
    (area : List ℕ) (end : ℕ) where
  pub record Writes (t : Maybe Turn) (new : List ℕ) (to : ℕ) : Type 0 where
    pub newer : List (List ℕ)
    pub through : Through nand slots live q page o top t newer
    pub put : PutBefore area new (row_lines newer) end to

  -- no damage is met
  abbrev pub WritesOn : Result (Maybe Turn) Ground → List ℕ → ℕ → Type 0
  WritesOn (Ok t) new to = Writes t new to
  WritesOn (Err g) new to = ⊥

  pub writes_here : (next : Result (Maybe Turn) Ground) (new : List ℕ) (to : ℕ) → WritesOn next new to → (m : Maybe Turn) → next ≡ Ok m → (t : Turn)
      → m ≡ Some t → Writes (Some t) new to
  writes_here next new to i m e t f =
      subst (λ (x : Maybe Turn). Writes x new to) f (subst (λ (x : Result (Maybe Turn) Ground). WritesOn x new to) e i)

  pub writes_none : (t : Maybe Turn) → IsTurn nand slots live q page o top t → Writes t area end
  unfolding lines_text
  writes_none t i = record { newer = []; through = through_none nand slots live q page o top t i; put = put_nothing area end }

  module _ (ends : EndsAt end o) (inside : end ≤ length area) (new : List ℕ) (to : ℕ) where
    pub writes_length : (t : Result (Maybe Turn) Ground) → WritesOn t new to → length new ≡ length area
    writes_length (Ok t) i = length_put area new (row_lines i.newer) end to inside i.put
    writes_length (Err g) i = absurd i

    pub writes_all : (t : Result (Maybe Turn) Ground) → WritesOn t new to → ((here : Turn) → t ≡ Ok (Some here) → ⊥) → new ≡ lines_from area o
    writes_all (Err g) i f = absurd i
    writes_all (Ok (Some here)) i f = absurd (f here refl)
    writes_all (Ok None) i f =
        let e : o ≡ some i.newer = through_all nand slots live q page o top i.newer i.through in
        let n : 18 + length (row_lines i.newer) ≡ end = subst (EndsAt end) e ends in
        let at : to ≡ 18 = omega (arith, i.put.begins) in
        rw e (rw at at i.put.written)

    module _ (t : Turn) (i : Writes (Some t) new to) where
      -- the rows at hand have room before what is written
      pub rows_room : (length (row_lines (rows_of nand page t)) ≤ to) × (to ≤ length new)
      rows_room =
          (go (rows_after nand slots live q t.c) refl, omega (arith, i.put.begins, length_put area new (row_lines i.newer) end to inside i.put))
        where
          here : List (List ℕ)
          here = rows_of nand page t

          go : (x : Option (List (List ℕ))) → rows_after nand slots live q t.c ≡ x → length (row_lines here) ≤ to
          go none e = let z : o ≡ none = i.through.rows ∙ rw e in absurd (subst (EndsAt end) z ends)
          go (some older) e =
              let z : o ≡ some ((older ++ here) ++ i.newer) = i.through.rows ∙ rw e in
              let n : 18 + length (row_lines ((older ++ here) ++ i.newer)) ≡ end = subst (EndsAt end) z ends in
              omega (
                arith,
                n,
                ap length (both (older ++ here) i.newer),
                length-append (row_lines (older ++ here)) (row_lines i.newer),
                ap length (both older here),
                length-append (row_lines older) (row_lines here),
                i.put.begins,
              )
            where
              both : (a b : List (List ℕ)) → row_lines (a ++ b) ≡ row_lines a ++ row_lines b
              both a b = rw (map-append told_in a b, lines_append (map told_in a) (map told_in b))

      pub writes_more : (new2 : List ℕ) (to2 : ℕ) → PutBefore new new2 (row_lines (rows_of nand page t)) to to2
          → (next : Result (Maybe Turn) Ground)
          → IfOk next (λ n. IsTurn nand slots live q page (rows_after nand slots live q t.c) t.c.before n)
          → IfErr next (IsDamage (rows_after nand slots live q t.c)) → WritesOn next new2 to2
      writes_more new2 to2 p (Err g) n d =
          let z : o ≡ none = through_damage nand slots live q page o top i.newer t i.through d.1 in absurd (subst (EndsAt end) z ends)
      writes_more new2 to2 p (Ok next) n d =
          record {
            newer = rows_of nand page t ++ i.newer;
            through = through_more nand slots live q page o top i.newer t i.through next n;
            put =
                rw (map-append told_in (rows_of nand page t) i.newer, lines_append (map told_in (rows_of nand page t)) (map told_in i.newer))
                (put_before_both area new new2 (row_lines (rows_of nand page t)) (row_lines i.newer) end to to2 inside i.put p);
          }

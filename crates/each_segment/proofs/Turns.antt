-- From turn to turn: rows at hand and rows left are all rows, so are those that had their turn and those that have it yet. Assumes nothing.
use Rattle.std.specs.Prelude.{Some, None}
use Rattle.std.specs.Prelude.{Option as Maybe}
use mathlib.Core.Path.{◌≡◌, refl, sym, ap, ◌∙◌}
use mathlib.Core.Option.{Option, none, some}
use mathlib.Core.List.{List, [], ◌++◌, append_assoc, append-nil}
use Prim.Native.Nat.{ℕ, ◌*◌, ◌≤◌, ◌<◌}
use native.Mathlib.Omega.{arith}
use lib.ListN.{length, length-append, length-map}
use Rattle.bitset.proofs.Set.{length_members}
use Rattle.skiplist.specs.Skip.{Live}
use Rattle.visit.specs.declared.Query.{Query}
use Rattle.walk.specs.declared.Cursor.{Cursor}
use Rattle.walk.specs.Inner.Sound.{Sound}
use Rattle.found.specs.Found.{join_rows}
use Rattle.found.specs.Inner.Turns.{rows_after}
use Rattle.found.proofs.All.{join_none}
use Rattle.each_segment.specs.declared.Turn.{Turn}
use Rattle.each_segment.specs.Inner.Turns.{rows_of, AtHand, rows_left, IsTurn, Through}

join_assoc : (a : Option (List (List ℕ))) (b c : List (List ℕ)) → join_rows (join_rows a (some b)) (some c) ≡ join_rows a (some (b ++ c))
join_assoc none b c = refl
join_assoc (some a) b c = ap some (append_assoc a b c)

join_nothing : (a : Option (List (List ℕ))) → join_rows a (some []) ≡ a
join_nothing none = refl
join_nothing (some a) = ap some (append-nil a)

module _ (nand : List ℕ) (slots : ℕ) (live : Live) (q : Query) (page : List ℕ) where
  -- ---- a turn

  -- no segment more
  pub over_turn : (o : Option (List (List ℕ))) (most : ℕ) → o ≡ some [] → IsTurn nand slots live q page o most None
  over_turn o most e = record { rows = sym e; can = tt; few = omega arith }

  -- a segment at hand, the closed ones behind it
  pub turn_at_hand : (o all : Option (List (List ℕ))) (c : Cursor) (t : Turn) → AtHand nand page o c t → Sound slots c
      → join_rows (rows_after nand slots live q c) o ≡ all → (most : ℕ) → c.before < most → IsTurn nand slots live q page all most (Some t)
  turn_at_hand o all c t h sound e most few =
      record {
        rows = rw h.same_cursor (ap (join_rows (rows_after nand slots live q c)) (sym h.rows) ∙ e);
        can = (h.readable, rw h.same_cursor sound);
        few = rw h.same_cursor (omega arith);
      }

  -- damage in it
  pub damage_joined : (o all : Option (List (List ℕ))) (c : Cursor) → o ≡ none → join_rows (rows_after nand slots live q c) o ≡ all
      → all ≡ none
  damage_joined o all c d e =
      sym e ∙ ap (join_rows (rows_after nand slots live q c)) d ∙ join_none (rows_after nand slots live q c)

  -- ---- through all turns

  module _ (o : Option (List (List ℕ))) (top : ℕ) where
    pub through_none : (t : Maybe Turn) → IsTurn nand slots live q page o top t → Through nand slots live q page o top t []
    through_none t i =
        record {
          rows = sym (join_nothing (rows_left nand slots live q page t) ∙ i.rows);
          can = i.can;
          room = omega (arith, i.few);
        }

    module _ (newer : List (List ℕ)) where
      pub through_all : Through nand slots live q page o top None newer → o ≡ some newer
      through_all i = i.rows

      -- no more rows than there is room for
      pub through_few : (t : Maybe Turn) → Through nand slots live q page o top t newer → length newer ≤ 320 * top
      through_few t i = omega (arith, i.room)

      module _ (t : Turn) (i : Through nand slots live q page o top (Some t) newer) where
        at_hand : o ≡ join_rows (rows_after nand slots live q t.c) (some (rows_of nand page t ++ newer))
        at_hand = i.rows ∙ join_assoc (rows_after nand slots live q t.c) (rows_of nand page t) newer

        here_few : length (rows_of nand page t) ≤ 320
        here_few = simp length-map (length_members t.set.words)

        -- damage behind it
        pub through_damage : rows_after nand slots live q t.c ≡ none → o ≡ none
        through_damage d = at_hand ∙ rw d

        pub through_more : (next : Maybe Turn) → IsTurn nand slots live q page (rows_after nand slots live q t.c) t.c.before next
            → Through nand slots live q page o top next (rows_of nand page t ++ newer)
        through_more next n =
            record {
              rows = at_hand ∙ ap (λ (x : Option (List (List ℕ))). join_rows x (some (rows_of nand page t ++ newer))) (sym n.rows);
              can = n.can;
              room = simp length-append (omega (arith, i.room, n.few, here_few));
            }

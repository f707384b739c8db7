-- Both lists counted: the lifts of a set one after the other, then segment by segment. Assumes nothing.
use Rattle.std.specs.Prelude.{Some, None}
use Rattle.std.specs.Prelude.{Option as Maybe}
use mathlib.Core.Path.{◌≡◌, refl, sym, ◌∙◌}
use mathlib.Core.Bool.{Bool, true, false, cond}
use mathlib.Core.Option.{Option, none}
use mathlib.Core.List.{List, [], ◌∷◌, ◌++◌, map}
use Prim.Native.Nat.{ℕ, ◌+◌, ◌*◌, ◌≤◌, ◌-◌, ◌<◌}
use native.Mathlib.Omega.{arith}
use lib.ListN.{length, length-append, length-map}
use Rattle.codec.specs.Lists.{chosen}
use Rattle.codec.proofs.Lists.{chosen_few, chosen_append}
use Rattle.bitset.specs.declared.Bits.{Bits}
use Rattle.bitset.specs.Inner.Words.{members, Below}
use Rattle.bitset.proofs.Set.{length_members}
use Rattle.lift.specs.Record.{code_at}
use Rattle.lift.specs.Rows.{code_in, record_in}
use Rattle.lift.proofs.Rows.{code_of_record}
use Rattle.skiplist.specs.Skip.{Live}
use Rattle.sweep.specs.declared.Records.{Records}
use Rattle.sweep.specs.Inner.Swept.{Recorded}
use Rattle.visit.specs.declared.Query.{Query}
use Rattle.visit.proofs.Emptying.{recorded_at}
use Rattle.found.specs.Inner.Turns.{rows_after}
use Rattle.tolerance.specs.declared.Ends.{Ends}
use Rattle.tolerance.specs.Inner.Ends.{in_ends, rows_in_ends}
use Rattle.each_segment.specs.declared.Turn.{Turn}
use Rattle.each_segment.specs.Inner.Turns.{rows_of, IsTurn, Through}
use Rattle.each_segment.proofs.Turns.{through_none, through_damage, through_all, through_few, through_more}
use Rattle.tolerant.specs.Inner.Counted.{CountsBoth}

-- ---- the lifts of a set

module _ (lifts tail : List ℕ) (g : Records) (e : Ends) where
  -- how many of a set's lifts have loads between the ends
  abbrev pub many_of : Bits → ℕ
  many_of set = length (rows_in_ends e (map (record_in lifts tail g.first) (members set.words)))

  pub many_few : (set : Bits) → many_of set ≤ 320
  many_few set =
      omega (
        arith,
        chosen_few (λ r. in_ends e (code_at r 0)) (map (record_in lifts tail g.first) (members set.words)),
        length-map (members set.words) (record_in lifts tail g.first),
        length_members set.words,
      )

  -- as many of a list of places
  abbrev pub many_left : List ℕ → ℕ
  many_left ps = length (rows_in_ends e (map (record_in lifts tail g.first) ps))

  -- n are counted; with those of the places left they come to the total
  pub record Sorts (total : ℕ) (left : List ℕ) (n : ℕ) : Type 0 where
    pub below : Below g.count left
    pub sum : n + many_left left ≡ total

  module _ (r : Recorded lifts tail g) (total : ℕ) (left : List ℕ) (n : ℕ) (i : Sorts total left n) where
    pub sorts_over : left ≡ [] → n ≡ total
    unfolding chosen
    sorts_over z = omega (arith, rw z at i.sum)

    module _ (p : ℕ) (rest : List ℕ) (m : left ≡ p ∷ rest) where
      pub sorts_read : (p * 32 + 32 ≤ length lifts) × ((p - g.first) * 32 + 32 ≤ length tail)
      sorts_read = recorded_at lifts tail g p r (rw m at i.below).0

      module _ (code : ℕ) (code_is : code ≡ code_in lifts tail g.first p) where
        here : many_left left ≡ cond (in_ends e code) (many_left rest + 1) (many_left rest)
        unfolding chosen
        here =
            let c : code_at (record_in lifts tail g.first p) 0 ≡ code =
            code_of_record lifts tail g.first p sorts_read.0 sorts_read.1 ∙ sym code_is in
            rw (m, c) (go (in_ends e code))
          where
            go : (t : Bool) → length (cond t (record_in lifts tail g.first p ∷ rows_in_ends e (map (record_in lifts tail g.first) rest))
                (rows_in_ends e (map (record_in lifts tail g.first) rest)))
                ≡ cond t (many_left rest + 1) (many_left rest)
            go true = omega arith
            go false = refl

        pub sorts_in : in_ends e code ≡ true → Sorts total rest (n + 1)
        sorts_in t = record { below = (rw m at i.below).1; sum = omega (arith, i.sum, rw t at here) }

        pub sorts_out : in_ends e code ≡ false → Sorts total rest n
        sorts_out t = record { below = (rw m at i.below).1; sum = omega (arith, i.sum, rw t at here) }

-- ---- segment by segment

module _ (nand : List ℕ) (slots : ℕ) (live : Live) (q : Query) (page : List ℕ) (e : Ends) (o : Option (List (List ℕ))) (top : ℕ) where
  -- the newer rows are counted
  pub record Counts (t : Maybe Turn) (certain possible : ℕ) : Type 0 where
    pub newer : List (List ℕ)
    pub through : Through nand slots live q page o top t newer
    pub certain_is : certain ≡ length (rows_in_ends e newer)
    pub possible_is : possible ≡ length newer

  pub counts_none : (t : Maybe Turn) → IsTurn nand slots live q page o top t → Counts t 0 0
  unfolding chosen
  counts_none t i =
      record { newer = []; through = through_none nand slots live q page o top t i; certain_is = refl; possible_is = refl }

  module _ (certain possible : ℕ) where
    pub counts_all : Counts None certain possible → CountsBoth e o (record { certain = certain; possible = possible })
    counts_all i =
        record {
          rows = i.newer;
          are = through_all nand slots live q page o top i.newer i.through;
          certain = i.certain_is;
          possible = i.possible_is;
        }

    module _ (t : Turn) (i : Counts (Some t) certain possible) where
      pub certain_few : certain ≤ 320 * top
      certain_few =
          omega (
            arith,
            i.certain_is,
            chosen_few (λ r. in_ends e (code_at r 0)) i.newer,
            through_few nand slots live q page o top i.newer (Some t) i.through,
          )

      pub possible_few : possible ≤ 320 * top
      possible_few = omega (arith, i.possible_is, through_few nand slots live q page o top i.newer (Some t) i.through)

      pub counts_damage : rows_after nand slots live q t.c ≡ none → o ≡ none
      counts_damage d = through_damage nand slots live q page o top i.newer t i.through d

      pub counts_more : (sure many : ℕ) → sure ≡ length (rows_in_ends e (rows_of nand page t))
          → many ≡ length (members t.set.words) → (next : Maybe Turn)
          → IsTurn nand slots live q page (rows_after nand slots live q t.c) t.c.before next
          → Counts next (certain + sure) (possible + many)
      counts_more sure many sure-is many_is next n =
          record {
            newer = rows_of nand page t ++ i.newer;
            through = through_more nand slots live q page o top i.newer t i.through next n;
            certain_is =
                rw (chosen_append (λ r. in_ends e (code_at r 0)) (rows_of nand page t) i.newer)
                (simp length-append (omega (arith, i.certain_is, sure-is)));
            possible_is = simp (length-append, length-map) (omega (arith, i.possible_is, many_is));
          }

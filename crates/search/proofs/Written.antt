-- Writing rows: a set's records one after the other, a segment's rows up to an end, and from segment to segment backwards.
-- Assumes nothing.
use mathlib.Core.Path.{◌≡◌, refl, sym, ap, ◌∙◌}
use mathlib.Core.Bool.{true, false}
use mathlib.Core.Option.{Option, none, some}
use mathlib.Core.List.{List, [], ◌∷◌, map}
use Prim.Native.Nat.{ℕ, ◌+◌, ◌-◌, ◌*◌, ◌≤◌, ◌<◌}
use native.Mathlib.Omega.{arith}
use lib.ListN.{length, length-append, length-map}
use Rattle.codec.specs.Area.{splice}
use Rattle.codec.proofs.Areas.{length_splice, splice_next}
use Rattle.bitset.specs.Inner.Words.{Below}
use Rattle.lift.specs.Rows.{record_in}
use Rattle.skiplist.specs.Skip.{Live}
use Rattle.sweep.specs.declared.Records.{Records}
use Rattle.sweep.specs.Inner.Swept.{Recorded}
use Rattle.visit.specs.declared.Closed.{Closed}
use Rattle.visit.specs.declared.Query.{Query}
use Rattle.visit.specs.Visit.{closed_rows}
use Rattle.walk.specs.declared.Cursor.{Cursor}
use Rattle.walk.specs.Inner.Sound.{Sound}
use Rattle.found.specs.Found.{join_rows}
use Rattle.found.specs.Inner.Turns.{rows_after, rows_in, Onward}
use Rattle.found.proofs.Counts.{never}
use Rattle.found.proofs.Matched.{WideIn, record_size, closed_wide}
use Rattle.found.proofs.Wide.{Wide}
use Rattle.found.proofs.Placed.{Placed}
use Rattle.found.proofs.Segments.{rows_wide}
use Rattle.search.specs.Answers.{row_bytes}
use Rattle.search.specs.Inner.Turns.{written_in, WrittenUpTo, CountIs}
use Rattle.search.proofs.Backwards.{backwards, splice_none}
use Rattle.search.proofs.Rows.{length_rows}

-- ---- the records of a set

-- rows before `to` are written; with those of the places left the area comes to `all`
pub record Puts (lifts tail : List ℕ) (g : Records) (all : List ℕ) (size : ℕ) (area left : List ℕ) (to : ℕ) : Type 0 where
  pub below : Below g.count left
  pub room : (to + length left) * 32 ≤ length area
  pub long : length area ≡ size
  pub leads : splice area (to * 32) (row_bytes (map (record_in lifts tail g.first) left)) ≡ all

pub puts_begin : (lifts tail : List ℕ) (g : Records) (area left : List ℕ) (to : ℕ) → Below g.count left
    → (to + length left) * 32 ≤ length area
    → Puts lifts tail g (splice area (to * 32) (row_bytes (map (record_in lifts tail g.first) left))) (length area) area left to
puts_begin lifts tail g area left to b r = record { below = b; room = r; long = refl; leads = refl }

module _ (lifts tail : List ℕ) (g : Records) (r : Recorded lifts tail g) (all : List ℕ) (size : ℕ) (area left : List ℕ) (to : ℕ)
    (i : Puts lifts tail g all size area left to) where
  pub puts_over : left ≡ [] → area ≡ all
  unfolding row_bytes
  puts_over e = sym (splice_none area (to * 32)) ∙ rw e at i.leads

  module _ (p : ℕ) (more : List ℕ) (e : left ≡ p ∷ more) where
    pub puts_below : p < g.count
    puts_below = (rw e at i.below).0

    pub puts_room : to * 32 + 32 ≤ length area
    puts_room = omega (arith, i.room, ap length e)

    pub puts_more : (new : List ℕ) → new ≡ splice area (to * 32) (record_in lifts tail g.first p)
        → Puts lifts tail g all size new more (to + 1)
    unfolding row_bytes
    puts_more new f =
        let w = record_size lifts tail g r p puts_below in
        let l : length new ≡ length area = ap length f ∙ length_splice area (to * 32) (record_in lifts tail g.first p)
        (omega (arith, puts_room)) in
        record {
          below = (rw e at i.below).1;
          room = omega (arith, i.room, ap length e);
          long = l ∙ i.long;
          leads =
              ap (λ (s : List ℕ). splice s ((to + 1) * 32) (row_bytes
              (map (record_in lifts tail g.first) more))) f
              ∙ splice_next area (to * 32) (record_in lifts tail g.first p) ((to + 1) * 32)
              (row_bytes (map (record_in lifts tail g.first) more)) (omega arith)
              (omega (arith, puts_room))
              ∙ rw e at i.leads;
        }

-- ---- the rows of a segment

module _ (f : ℕ → List ℕ) (ps : List ℕ) (rows : List (List ℕ)) (are : map f ps ≡ rows) (n : ℕ) (n_is : n ≡ length ps) where
  pub as_many : n ≡ length rows
  as_many = n_is ∙ sym (length-map ps f) ∙ ap length are

  pub written_up_to : (area new : List ℕ) (end : ℕ) → length rows ≤ end → new ≡ splice area ((end - n) * 32) (row_bytes (map f ps))
      → WrittenUpTo area new rows end (end - n)
  written_up_to area new end h e =
      record {
        begins = omega (arith, as_many);
        are = e ∙ ap (λ (r : List (List ℕ)). splice area ((end - n) * 32) (row_bytes r))
            are;
      }

module _ (l tail : List ℕ) (g : Records) (ps : List ℕ) (rows : List (List ℕ)) (p : Placed l tail g ps rows) where
  pub placed_many : (n : ℕ) → n ≡ length ps → n ≡ length rows
  placed_many n e = as_many (record_in l tail g.first) ps rows p.are n e

  pub placed_written : (n : ℕ) → n ≡ length ps → (area new : List ℕ) (end : ℕ) → length rows ≤ end
      → new ≡ splice area ((end - n) * 32) (row_bytes (map (record_in l tail g.first) ps))
      → WrittenUpTo area new rows end (end - n)
  placed_written n e area new end h is = written_up_to (record_in l tail g.first) ps rows p.are n e area new end h is

pub written_none : (area : List ℕ) (end : ℕ) → WrittenUpTo area area [] end end
unfolding row_bytes
written_none area end = record { begins = omega arith; are = sym (splice_none area (end * 32)) }

pub written_size : (area new : List ℕ) (rows : List (List ℕ)) (end r : ℕ) → Wide 32 rows → end * 32 ≤ length area
    → WrittenUpTo area new rows end r
    → length new ≡ length area
written_size area new rows end r w h u =
    let l = length_rows 32 rows w in
    let b = u.begins in
    ap length u.are ∙ length_splice area (r * 32) (row_bytes rows) (omega arith)

-- ---- newer rows, then the older ones before them

pub newer_fit : (row : ℕ) (older newer : Option (List (List ℕ))) → CountIs row (join_rows older newer)
    → length (rows_in newer) ≤ row
newer_fit row none newer h = absurd h
newer_fit row (some older) none h = absurd h
newer_fit row (some older) (some newer) h = omega (arith, length-append older newer)

module _ (area new : List ℕ) (row before : ℕ) (room : row * 32 ≤ length area) where
  pub older_left : (older newer : Option (List (List ℕ))) → CountIs row (join_rows older newer)
      → WrittenUpTo area new (rows_in newer) row before
      → CountIs before older
  older_left none newer h u = absurd h
  older_left (some older) none h u = absurd h
  older_left (some older) (some newer) h u = let b = u.begins in omega (arith, length-append older newer)

  pub older_before : (older newer : Option (List (List ℕ))) → WideIn older → CountIs row (join_rows older newer)
      → WrittenUpTo area new (rows_in newer) row before → written_in new older ≡ written_in area (join_rows older newer)
  older_before none newer w h u = absurd h
  older_before (some older) none w h u = absurd h
  older_before (some older) (some newer) w h u =
      let b = u.begins in
      let l = length-append older newer in
      ap (λ (s : List ℕ). splice s 0 (row_bytes older)) u.are ∙ backwards area older newer before w (omega arith) (omega arith)

pub wide_in : (o : Option (List (List ℕ))) → WideIn o → Wide 32 (rows_in o)
wide_in none w = tt
wide_in (some rows) w = w

-- ---- rows on their way

module _ (nand : List ℕ) (slots : ℕ) (live : Live) (q : Query) (all : List ℕ) (size : ℕ) where
  -- rows from `row` on are written; with those before them the area comes to `all`
  pub record WriteGoes (area : List ℕ) (c : Cursor) (row : ℕ) : Type 0 where
    pub sound : Sound slots c
    pub counts : CountIs row (rows_after nand slots live q c)
    pub room : row * 32 ≤ length area
    pub long : length area ≡ size
    pub leads : written_in area (rows_after nand slots live q c) ≡ all

  module _ (area : List ℕ) (c : Cursor) (row : ℕ) (i : WriteGoes area c row) where
    -- no segment is left, and there is no damage
    pub write_over : rows_after nand slots live q c ≡ some [] → area ≡ all
    unfolding row_bytes
    write_over e = sym (splice_none area 0) ∙ rw e at i.leads

    module _ (s : Closed) (d : Cursor) (o : Onward nand slots live q c s d) where
      parts : CountIs row (join_rows (rows_after nand slots live q d) (closed_rows nand s q))
      parts = rw o.rows at i.counts

      pub write_fits : length (rows_in (closed_rows nand s q)) ≤ row
      write_fits = newer_fit row (rows_after nand slots live q d) (closed_rows nand s q) parts

      module _ (size_is : length nand ≡ slots * 16384) (new : List ℕ) (before : ℕ)
          (u : WrittenUpTo area new (rows_in (closed_rows nand s q)) row before) where
        pub write_size : length new ≡ length area
        write_size =
            written_size area new (rows_in (closed_rows nand s q)) row before
            (wide_in (closed_rows nand s q) (closed_wide nand s q o.closed)) i.room u

        pub write_again : WriteGoes new d before
        write_again =
            let b = u.begins in
            let l = write_size in
            let r = i.room in
            record {
              sound = o.sound;
              counts = older_left area new row before i.room (rows_after nand slots live q d) (closed_rows nand s q) parts u;
              room = omega arith;
              long = l ∙ i.long;
              leads =
                  older_before area new row before i.room (rows_after nand slots live q d) (closed_rows nand s q)
                  (rows_wide nand slots live q size_is d o.sound) parts u
                  ∙ ap (written_in area) (sym o.rows) ∙ i.leads;
            }

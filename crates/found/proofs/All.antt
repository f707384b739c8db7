-- All segments together: their rows, and how many they are. Assumes nothing.
use mathlib.Core.Path.{◌≡◌, refl, sym, ap, ◌∙◌}
use mathlib.Core.Bool.{Bool, true, false, cond, not, ◌&&◌}
use mathlib.Core.Option.{Option, none, some}
use mathlib.Core.List.{List}
use Prim.Native.Nat.{ℕ, ◌+◌, ◌*◌, ◌≤◌}
use Rattle.std.specs.Prelude.{Some, None}
use native.Mathlib.Omega.{arith}
use lib.ListN.{length}
use borrow.Author.Tests.{not-true, not-false}
use Rattle.codec.proofs.Truth.{and_left, and_right}
use Rattle.skiplist.specs.Skip.{Live}
use Rattle.visit.specs.declared.Log.{Log}
use Rattle.visit.specs.declared.Query.{Query}
use Rattle.visit.specs.Visit.{open_rows}
use Rattle.visit.specs.Inner.Sound.{InSlots}
use Rattle.walk.specs.declared.Cursor.{Cursor}
use Rattle.walk.specs.Seek.{start_of, moves_of}
use Rattle.walk.specs.Inner.Sound.{Begun}
use Rattle.walk.proofs.Hops.{start_begun}
use Rattle.found.specs.declared.Counted.{Counted}
use Rattle.found.specs.Found.{join_rows, rows_from, closed_found, found_rows}
use Rattle.found.specs.declared.Pages.{Pages}
use Rattle.found.specs.Pages.{Read, bloom_sum, tree_sum, segments_read, pages_read}
use Rattle.found.specs.Inner.Turns.{all_rows, rows_after, rows_in, count_of, with_read, read_after, all_pages, count_after}
use Rattle.found.proofs.Counts.{never, count_join}
use Rattle.found.proofs.Matched.{open_few}
use Rattle.found.proofs.Segments.{rows_any, read_any}

pub join_none : (older : Option (List (List ℕ))) → join_rows older none ≡ none
join_none none = refl
join_none (some rows) = refl

-- a count without damage is that of rows
pub record CountedIn (total : ℕ) (pages : Pages) (o : Option (List (List ℕ))) (n : Counted) : Type 0 where
  pub rows : o ≡ some (rows_in o)
  pub is : n ≡ record { total = total + length (rows_in o); pages = pages }

module _ (total : ℕ) (pages : Pages) where
  pub counted_some : (o : Option (List (List ℕ))) (n : Counted) → Some n ≡ count_of total pages o → CountedIn total pages o n
  counted_some none n e = absurd (cc)
  counted_some (some rows) n e = record { rows = refl; is = cc }

-- ---- all segments

-- the count of the open segment
pub record OpenCount (n : Counted) : Type 0 where
  pub few : n.total ≤ 320
  pub bloom_none : n.pages.bloom ≡ 0
  pub tree_none : n.pages.tree ≡ 0

module _ (nand nor page : List ℕ) (g : Log) (live : Live) (q : Query) (c : Cursor) where
  -- damage on the way to the closed segments, or in the open one
  pub all_none : (b : Bool) → (b ≡ false → open_rows nand nor page g q ≡ none) → (c.good && b) ≡ false
      → all_rows nand nor page g live q c ≡ none
  all_none b f e = go c.good refl e
    where
      go : (t : Bool) → c.good ≡ t → (t && b) ≡ false → all_rows nand nor page g live q c ≡ none
      go false h e = rw h
      go true h e = ap (join_rows (closed_found nand g live q c)) (f e) ∙ join_none (closed_found nand g live q c)

  module _ (size : length nand ≡ g.slots * 16384) (begun : Begun g c) where
    pub closed_is : c.good ≡ true → closed_found nand g live q c ≡ rows_after nand g.slots live q c
    closed_is e =
        ap (λ (b : Bool). cond b (rows_from (g.current + 1) nand g.slots live q c) none) e
        ∙ rows_any nand g.slots live q size c begun.sound (g.current + 1) (omega (arith, begun.before_most e))

    pub all_is : c.good ≡ true → all_rows nand nor page g live q c
        ≡ join_rows (rows_after nand g.slots live q c) (open_rows nand nor page g q)
    all_is e = ap (λ (o : Option (List (List ℕ))). join_rows o (open_rows nand nor page g q)) (closed_is e)

    -- the pages of the closed segments, behind so many moves
    pages_are : c.good ≡ true → (moves : ℕ)
        → with_read (record { headers = moves; bloom = 0; tree = 0 }) (read_after nand g.slots live q c) ≡ all_pages nand g live q c moves
    pages_are e moves =
        let rs : List Read = read_after nand g.slots live q c in
        let b : 0 + bloom_sum rs ≡ bloom_sum rs = omega arith in
        let t : 0 + tree_sum rs ≡ tree_sum rs = omega arith in
        let r = read_any nand g.slots live q size c begun.sound (g.current + 1) (omega (arith, begun.before_most e)) in
        rw (r, b, t)

  -- counting
  module _ (moves : ℕ) where
    abbrev walked : Pages
    walked = record { headers = moves; bloom = 0; tree = 0 }

    module _ (n : Counted) (is : Some n ≡ count_of 0 walked (open_rows nand nor page g q)) where
      abbrev counted : CountedIn 0 walked (open_rows nand nor page g q) n
      counted = counted_some 0 walked (open_rows nand nor page g q) n is

      pub count_few : OpenCount n
      count_few =
          let f = rw counted.rows at (open_few nand nor page g q) in
          rw counted.is (record { few = omega arith; bloom_none = refl; tree_none = refl })

      pub count_whole : length nand ≡ g.slots * 16384 → Begun g c → c.good ≡ true
          → count_after nand g.slots live q n c ≡ count_of 0 (all_pages nand g live q c moves) (all_rows nand nor page g live q c)
      count_whole size begun e =
          rw counted.is (count_join 0 walked (read_after nand g.slots live q c) (rows_after nand g.slots live q c)
          (rows_in (open_rows nand nor page g q)))
          ∙ ap (λ (o : Option (List (List ℕ))). count_of 0 (with_read walked (read_after nand g.slots live q c))
          (join_rows (rows_after nand g.slots live q c) o)) (sym counted.rows)
          ∙ ap (λ (p : Pages). count_of 0 p (join_rows (rows_after nand g.slots live q c) (open_rows nand nor page g q)))
          (pages_are size begun e moves)
          ∙ ap (count_of 0 (all_pages nand g live q c moves)) (sym (all_is size begun e))

-- ---- where the closed segments begin

pub begun_at : (nand : List ℕ) (g : Log) (live : Live) (q : Query) (c : Cursor) → InSlots g.slots g.heads
    → c ≡ start_of nand g live q → Begun g c
begun_at nand g live q c h e = rw e (start_begun nand g live q h)

pub found_is : (nand nor page : List ℕ) (g : Log) (live : Live) (q : Query) (c : Cursor) → c ≡ start_of nand g live q
    → all_rows nand nor page g live q c ≡ found_rows nand nor page g live q
unfolding found_rows
found_is nand nor page g live q c e = rw e

pub pages_is : (nand : List ℕ) (g : Log) (live : Live) (q : Query) (c : Cursor) (moves : ℕ) → c ≡ start_of nand g live q
    → moves ≡ moves_of nand g live q → all_pages nand g live q c moves ≡ pages_read nand g live q
unfolding pages_read segments_read
pages_is nand g live q c moves e f = rw (e, f)

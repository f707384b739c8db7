-- The rows of all segments written, and the answer of a search: grounds 10 and 12, then the rows. Assumes nothing.
use mathlib.Core.Path.{◌≡◌, refl, sym, ap, ap₂, ◌∙◌}
use mathlib.Core.Bool.{Bool, true, false}
use mathlib.Core.Option.{Option, none, some}
use mathlib.Core.List.{List}
use Prim.Native.Nat.{ℕ, ◌*◌, ◌/◌, ◌≤◌, ◌<◌}
use Rattle.std.specs.Prelude.{Some, None, Ok}
use native.Mathlib.Omega.{arith}
use lib.ListN.{length}
use borrow.Author.Tests.{lt-ltb, le-ltb}
use Rattle.skiplist.specs.Skip.{Live}
use Rattle.visit.specs.declared.Log.{Log}
use Rattle.visit.specs.declared.Query.{Query}
use Rattle.visit.specs.Visit.{open_rows}
use Rattle.walk.specs.declared.Cursor.{Cursor}
use Rattle.walk.specs.Seek.{start_of, moves_of}
use Rattle.walk.specs.Inner.Sound.{Begun}
use Rattle.found.specs.declared.Counted.{Counted}
use Rattle.found.specs.declared.Pages.{Pages}
use Rattle.found.specs.Found.{join_rows, found_rows}
use Rattle.found.specs.Pages.{pages_read}
use Rattle.found.specs.Inner.Turns.{all_rows, all_pages, rows_after, rows_in, count_of}
use Rattle.found.proofs.All.{CountedIn, counted_some, all_none, all_is, found_is, pages_is}
use Rattle.found.proofs.Counts.{never}
use Rattle.found.proofs.Segments.{rows_wide}
use Rattle.search.specs.Answers.{SearchAnswer, answer_of, refused_answer, search_answer}
use Rattle.search.specs.Inner.Turns.{written_in, WrittenUpTo, CountIs}
use Rattle.search.proofs.Written.{newer_fit, older_left, older_before}

-- ---- all segments

module _ (nand nor page : List ℕ) (g : Log) (live : Live) (q : Query) (c : Cursor) (size : length nand ≡ g.slots * 16384)
    (begun : Begun g c) (total : ℕ) (counts : CountIs total (all_rows nand nor page g live q c)) where
  pub all_good : c.good ≡ true
  all_good = go c.good refl
    where
      go : (t : Bool) → c.good ≡ t → c.good ≡ true
      go true h = h
      go false h =
          let z : CountIs total none = rw (all_none nand nor page g live q c true (λ e. never e) (rw h refl)) at counts in
          absurd z

  joined : CountIs total (join_rows (rows_after nand g.slots live q c) (open_rows nand nor page g q))
  joined = rw (all_is nand nor page g live q c size begun all_good) at counts

  pub open_fits : length (rows_in (open_rows nand nor page g q)) ≤ total
  open_fits = newer_fit total (rows_after nand g.slots live q c) (open_rows nand nor page g q) joined

  module _ (area new : List ℕ) (row : ℕ) (room : total * 32 ≤ length area)
      (u : WrittenUpTo area new (rows_in (open_rows nand nor page g q)) total row) where
    pub closed_count : CountIs row (rows_after nand g.slots live q c)
    closed_count =
        older_left area new total row room (rows_after nand g.slots live q c) (open_rows nand nor page g q) joined u

    pub all_written_lem : (final : List ℕ) → final ≡ written_in new (rows_after nand g.slots live q c)
        → final ≡ written_in area (all_rows nand nor page g live q c)
    all_written_lem final e =
        e ∙ older_before area new total row room (rows_after nand g.slots live q c) (open_rows nand nor page g q)
        (rows_wide nand g.slots live q size c begun.sound) joined u
        ∙ ap (written_in area) (sym (all_is nand nor page g live q c size begun all_good))

-- ---- the answer

module _ (area : List ℕ) (pages : Pages) (o : Option (List (List ℕ))) where
  pub answer_damage : None ≡ count_of 0 pages o → refused_answer 10 area ≡ search_answer area pages o
  unfolding search_answer
  answer_damage e = go o e
    where
      go : (o : Option (List (List ℕ))) → None ≡ count_of 0 pages o → refused_answer 10 area ≡ search_answer area pages o
      go none e = refl
      go (some rows) e = absurd (cc)

  module _ (n : Counted) (is : Some n ≡ count_of 0 pages o) where
    abbrev counted : CountedIn 0 pages o n
    counted = counted_some 0 pages o n is

    pub counted_is : CountIs n.total o
    counted_is =
        rw counted.rows (ap (λ (x : Counted). x.total) counted.is ∙ omega arith)

    module _ (rows : ℕ) (rows_is : rows ≡ length area / 32) where
      pub answer_small : rows < n.total → refused_answer 12 area ≡ search_answer area pages o
      unfolding search_answer
      answer_small h = go o counted_is
        where
          go : (o : Option (List (List ℕ))) → CountIs n.total o → refused_answer 12 area ≡ search_answer area pages o
          go none k = absurd k
          go (some rs) k = let t = lt-ltb (length area / 32) (length rs) (omega arith) in rw t

      pub answer_found : n.total ≤ rows → (new : List ℕ) → new ≡ written_in area o
          → answer_of (Ok (record { count = n.total; pages = n.pages })) new ≡ search_answer area pages o
      unfolding search_answer
      answer_found h new e = go o counted_is e (ap (λ (x : Counted). x.pages) counted.is)
        where
          go : (o : Option (List (List ℕ))) → CountIs n.total o → new ≡ written_in area o → n.pages ≡ pages
              → answer_of (Ok (record { count = n.total; pages = n.pages })) new ≡ search_answer area pages o
          go none k e p = absurd k
          go (some rs) k e p = let t = le-ltb (length area / 32) (length rs) (omega arith) in rw (t, k, e, p)

-- all rows and pages from where the closed segments begin are those of the definition
pub answer_whole : (area nand nor page : List ℕ) (g : Log) (live : Live) (q : Query) (c : Cursor) → c ≡ start_of nand g live q
    → (moves : ℕ) → moves ≡ moves_of nand g live q
    → search_answer area (all_pages nand g live q c moves) (all_rows nand nor page g live q c)
    ≡ search_answer area (pages_read nand g live q) (found_rows nand nor page g live q)
answer_whole area nand nor page g live q c e moves f =
    ap₂ {C = SearchAnswer} (search_answer area) (pages_is nand g live q c moves e f) (found_is nand nor page g live q c e)

-- The pages read by a search (document 02, W-207): header pages, and the Bloom and tree pages of the closed segments from the one found on.
-- Assumes nothing.
use Rattle.std.specs.Prelude.{List, [], ◌∷◌, ℕ, zero, suc, ◌+◌}
use Rattle.skiplist.specs.Skip.{Live}
use Rattle.visit.specs.declared.Log.{Log}
use Rattle.visit.specs.declared.Query.{Query}
use Rattle.visit.specs.Visit.{tree_read}
use Rattle.walk.specs.declared.Cursor.{Cursor}
use Rattle.walk.specs.declared.Step.TheVariants.{End, Damage, Pass, Visit}
use Rattle.walk.specs.Seek.{header_at, start_of, moves_of}
use Rattle.walk.specs.Advance.{bloom_read, advance_of}
use Rattle.found.specs.declared.Pages.{Pages}

-- a closed segment's Bloom pages that hold a bit tried, and its tree pages that hold a bucket visited
pub record Read : Type 0 where
  pub bloom : ℕ
  pub tree : ℕ

-- the Bloom pages of the segment that a cursor leads to
abbrev pub bloom_at : List ℕ → ℕ → Live → Query → Cursor → ℕ
bloom_at nand slots live q c = bloom_read nand c.next.slot (header_at live.form nand slots c.next c.before) q

-- the closed segments from a cursor on, in n steps as in `rows_from`; no bucket of one that is passed over is visited
unfoldable pub read_from : ℕ → List ℕ → ℕ → Live → Query → Cursor → List Read
read_from zero nand slots live q c = []
read_from (suc n) nand slots live q c =
    elim (advance_of nand slots live q c) [
      | End ↦ []
      | Damage ↦ []
      | Pass d ↦ record { bloom = bloom_at nand slots live q c; tree = 0 } ∷ read_from n nand slots live q d
      | Visit s d ↦ record { bloom = bloom_at nand slots live q c; tree = tree_read nand s q } ∷ read_from n nand slots live q d
    ]

-- those "from the one found on"
unfoldable pub segments_read : List ℕ → Log → Live → Query → List Read
segments_read nand g live q = read_from (g.current + 1) nand g.slots live q (start_of nand g live q)

-- summed over them
unfoldable pub bloom_sum : List Read → ℕ
bloom_sum [] = 0
bloom_sum (r ∷ rs) = r.bloom + bloom_sum rs

unfoldable pub tree_sum : List Read → ℕ
tree_sum [] = 0
tree_sum (r ∷ rs) = r.tree + tree_sum rs

-- the three counts
unfoldable pub pages_read : List ℕ → Log → Live → Query → Pages
pages_read nand g live q = record {
  headers = moves_of nand g live q;
  bloom = bloom_sum (segments_read nand g live q);
  tree = tree_sum (segments_read nand g live q);
}

-- "A refusal returns its number alone" (document 01): no pages
abbrev pub no_pages : Pages
no_pages = record { headers = 0; bloom = 0; tree = 0 }

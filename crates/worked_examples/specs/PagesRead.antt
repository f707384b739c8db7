-- Worked examples of the pages read by a search (document 02, W-207). Assumes nothing.
use Rattle.std.specs.Prelude.{List, [], ◌∷◌, ◌++◌, map, ℕ, zero, suc, ◌+◌, ◌-◌, ◌*◌, ◌/◌, ◌%◌, replicate}
use Rattle.bitset.specs.Set.{distinct}
use Rattle.bloom.specs.Bloom.{set_in}
use Rattle.bloom.specs.Tried.{pages_tried}
use Rattle.form.specs.declared.Form.TheVariants.{New}
use Rattle.skiplist.specs.declared.Pointer.{Pointer}
use Rattle.skiplist.specs.Skip.{level_of, heads_after, serials_from}
use Rattle.header.specs.Header.{header_page}
use Rattle.tree.specs.Place.{bucket_page}
use Rattle.walk.specs.Seek.{moves_of}
use Rattle.worked_examples.specs.States.{pointing, no_heads}

-- ---- header pages

-- S = 8: serial n is closed with one lift at time 10n, in slot (n − 1) mod 8; the heads behind it
unfoldable pub heads_to : ℕ → List Pointer
heads_to zero = no_heads
heads_to (suc n) = heads_after (heads_to n) (level_of (suc n)) (pointing (n % 8) (suc n) (10 * suc n))

-- its slot, in which a walk looks at the header alone
unfoldable pub slot_with : ℕ → List ℕ
slot_with n =
    replicate 15872 255 ++ header_page (record {
      form = New;
      serial = n;
      count = 1;
      buckets = 1;
      start = 10 * n;
      end = 10 * n;
      low = 50001;
      high = 50001;
      heads = heads_to (n - 1);
      page = [];
      bloom = [];
    })

-- serials 9 to 16
unfoldable pub eight_closed : List ℕ
eight_closed =
    slot_with 9 ++ (slot_with 10 ++ (slot_with 11 ++ (slot_with 12 ++ (slot_with 13 ++ (slot_with 14 ++ (slot_with 15 ++ slot_with 16))))))

-- the moves of a search up to t2, serial 17 open with so many lifts from time 170 on
abbrev pub moves_up_to : ℕ → ℕ → ℕ → ℕ
moves_up_to count t1 t2 =
    moves_of eight_closed (record { slots = 8; current = 17; count = count; buckets = 0; start = 170; oldest = 9; heads = heads_to 16 }) (serials_from 9)
    (record { t1 = t1; t2 = t2; k1 = 1; k2 = 150001 })

unfoldable pub header_pages : List (ℕ × ℕ)
header_pages =
    -- t2 before all: 16 at level 4, 12 at level 3, 10 at level 2, 9 at level 1; "at most S/8 rounded up, plus 3"
    (moves_up_to 0 0 0, 4)
    ∷ (moves_up_to 0 0 89, 4)
    ∷ ((8 + 7) / 8 + 3, 4)
    -- 9 starts at t2 and is found: its own header is not counted
    ∷ (moves_up_to 0 0 90, 3)
    -- 15 is found behind 16, then 16 itself
    ∷ (moves_up_to 0 0 159, 1)
    ∷ (moves_up_to 0 0 160, 0)
    -- lifts in the open segment: it is searched first, and a walk takes place unless it starts before t1
    ∷ (moves_up_to 5 170 170, 0)
    ∷ (moves_up_to 5 0 100, 3)
    ∷ (moves_up_to 5 171 200, 0)
    ∷ []

-- ---- Bloom pages

-- sections of which the first has these bits
unfoldable pub set_all : List ℕ → List ℕ → List ℕ
set_all section [] = section
set_all section (b ∷ bs) = set_all (set_in section b) bs

abbrev pub sections_with : ℕ → List ℕ → List (List ℕ)
sections_with others bs = set_all (replicate 128 0) bs ∷ replicate others (replicate 128 0)

-- load 750, stored 50,751, has bits 230, 822 and 360, in bytes 28, 102 and 45; 6,500, stored 56,501, has 942, 815 and 461, in bytes 117, 101 and 57.
-- With five sections page 29 has bytes 0 to 101 of each and page 30 the rest; with four page 29 has all
unfoldable pub bloom_pages : List (ℕ × ℕ)
bloom_pages =
    -- up to the first that is clear, that one included
    (pages_tried (sections_with 4 []) 50751, 1)
    ∷ (pages_tried (sections_with 4 (230 ∷ [])) 50751, 2)
    ∷ (pages_tried (sections_with 4 (822 ∷ 360 ∷ [])) 50751, 1)
    ∷ (pages_tried (sections_with 4 (230 ∷ 822 ∷ [])) 50751, 2)
    ∷ (pages_tried (sections_with 4 (230 ∷ 822 ∷ 360 ∷ [])) 50751, 2)
    ∷ (pages_tried (sections_with 3 (230 ∷ 822 ∷ 360 ∷ [])) 50751, 1)
    ∷ (pages_tried (sections_with 4 (942 ∷ [])) 56501, 2)
    ∷ (pages_tried (sections_with 3 (942 ∷ [])) 56501, 1)
    ∷ []

-- ---- tree pages

-- "four buckets a page"
unfoldable pub tree_pages : List (ℕ × ℕ)
tree_pages =
    (distinct (map bucket_page (0 ∷ [])), 1)
    ∷ (distinct (map bucket_page (0 ∷ 1 ∷ 2 ∷ 3 ∷ [])), 1)
    ∷ (distinct (map bucket_page (0 ∷ 4 ∷ [])), 2)
    ∷ (distinct (map bucket_page (0 ∷ 3 ∷ 4 ∷ 7 ∷ 8 ∷ 35 ∷ [])), 4)
    ∷ []

-- A segment's records as the code has them at hand: its areas, its set and its rows. Assumes nothing.
use mathlib.Core.Path.{◌≡◌, refl, ap, ◌∙◌}
use mathlib.Core.List.{List, [], ◌∷◌, map}
use Prim.Native.Nat.{ℕ, ◌≤◌, ◌<◌}
use native.Mathlib.Omega.{arith}
use lib.ListN.{length}
use borrow.Author.Tests.{lt-ltb}
use Rattle.bitset.specs.Inner.Words.{empty_words, members, Below}
use Rattle.lift.specs.Rows.{record_in}
use Rattle.sweep.specs.declared.Records.{Records}
use Rattle.sweep.specs.declared.Sweep.{Sweep}
use Rattle.sweep.specs.Inner.Swept.{swept_from, Recorded}
use Rattle.visit.specs.declared.Closed.{Closed}
use Rattle.visit.specs.declared.Log.{Log}
use Rattle.visit.specs.declared.Query.{Query}
use Rattle.visit.specs.Visit.{closed_matches, closed_lifts, closed_rows, open_matches, open_lifts, open_rows}
use Rattle.visit.specs.Inner.Sound.{ClosedSound, LogSound, closed_records, open_records}
use Rattle.sweep.proofs.Found.{below_more}
use Rattle.visit.proofs.Areas.{closed_size, closed_recorded, open_recorded}
use Rattle.found.specs.Inner.Turns.{rows_in}
use Rattle.found.proofs.Matched.{closed_rows_are, closed_below, open_rows_are, open_below}

-- the rows of a set's places in areas `l` and `tail`
pub record Placed (l tail : List ℕ) (g : Records) (ps : List ℕ) (rows : List (List ℕ)) : Type 0 where
  pub recorded : Recorded l tail g
  pub below : Below g.count ps
  pub are : map (record_in l tail g.first) ps ≡ rows

pub closed_placed : (nand : List ℕ) (s : Closed) (q : Query) → ClosedSound nand s → (m : Sweep)
    → m ≡ swept_from empty_words (closed_matches nand s q)
    → (l : List ℕ) → l ≡ closed_lifts nand s → (g : Records) → g ≡ closed_records s
    → Placed l l g (members m.set.words) (rows_in (closed_rows nand s q))
closed_placed nand s q sound m is l l_is g g-is =
    rw (l_is, g-is)
    (record { recorded = closed_recorded nand s sound; below = closed_below nand s q m is; are = closed_rows_are nand s q m is })

-- ---- whatever stands behind the pages of a closed segment

pub map_below : (n : ℕ) (f h : ℕ → List ℕ) → ((p : ℕ) → p < n → f p ≡ h p) → (ps : List ℕ) → Below n ps → map f ps ≡ map h ps
map_below n f h e [] b = refl
map_below n f h e (p ∷ ps) b =
    ap (λ (r : List ℕ). r ∷ map f ps) (e p b.0) ∙ ap (λ (rs : List (List ℕ)). h p ∷ rs) (map_below n f h e ps b.1)

-- below place 320 nothing is read there
pub tail_unread : (lifts a b : List ℕ) (p : ℕ) → p < 320 → record_in lifts a 320 p ≡ record_in lifts b 320 p
unfolding record_in
tail_unread lifts a b p h = let t = lt-ltb p 320 h in rw t

pub closed_anyhow : (nand : List ℕ) (s : Closed) (q : Query) → ClosedSound nand s → (m : Sweep)
    → m ≡ swept_from empty_words (closed_matches nand s q) → (tail : List ℕ) → 32 ≤ length tail → (g : Records) → g ≡ closed_records s
    → Placed (closed_lifts nand s) tail g (members m.set.words) (rows_in (closed_rows nand s q))
closed_anyhow nand s q sound m is tail any g g-is =
    let l = closed_size nand s sound in
    let b = closed_below nand s q m is in
    rw g-is
    (record {
      recorded = record { few = sound.most; before = omega arith; after = omega arith; any = any };
      below = b;
      are =
          map_below 320 _ _ (tail_unread (closed_lifts nand s) tail (closed_lifts nand s)) (members m.set.words)
          (below_more s.count 320 (members m.set.words) sound.most b) ∙ closed_rows_are nand s q m is;
    })

-- ---- the open segment

pub open_placed : (nand nor page : List ℕ) (g : Log) (q : Query) → LogSound nand nor g → length page ≡ 512 → (g.count ≡ 0 → ⊥)
    → (m : Sweep) → m ≡ swept_from empty_words (open_matches nand nor page g q)
    → (l : List ℕ) → l ≡ open_lifts nand g → (r : Records) → r ≡ open_records g
    → Placed l page r (members m.set.words) (rows_in (open_rows nand nor page g q))
open_placed nand nor page g q sound size some m is l l_is r r_is =
    rw (l_is, r_is)
    (record {
      recorded = open_recorded nand nor g sound page size;
      below = open_below nand nor page g q some m is;
      are = open_rows_are nand nor page g q some m is;
    })

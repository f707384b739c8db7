-- The rows of one segment: as many as the places of its set, each of 32 bytes, in the places' order. Assumes nothing.
use mathlib.Core.Path.{◌≡◌, refl, sym, ap, ◌∙◌}
use mathlib.Core.Bool.{Bool, true, false, cond}
use mathlib.Core.Option.{Option, none, some}
use mathlib.Core.List.{List, [], ◌∷◌, map}
use Prim.Native.Nat.{ℕ, ◌≤◌, ◌<◌}
use native.Mathlib.Omega.{arith}
use lib.Dec.{eqb}
use lib.ListN.{length, length-map}
use borrow.Author.Tests.{eq-eqb, ne_eqb}
use Rattle.bitset.specs.Inner.Words.{empty_words, insert_all, members, Below}
use Rattle.bitset.proofs.Set.{members_empty, length_members}
use Rattle.lift.specs.Rows.{record_in, in_full_pages}
use Rattle.lift.proofs.Rows.{record_length}
use Rattle.sweep.specs.declared.Records.{Records}
use Rattle.sweep.specs.declared.Sweep.{Sweep}
use Rattle.sweep.specs.Inner.Swept.{swept_from, Recorded}
use Rattle.visit.specs.declared.Closed.{Closed}
use Rattle.visit.specs.declared.Log.{Log}
use Rattle.visit.specs.declared.Query.{Query}
use Rattle.visit.specs.Visit.{rows_at, closed_matches, closed_lifts, closed_rows, open_matches, open_lifts, open_rows}
use Rattle.visit.specs.Inner.Sound.{ClosedSound, LogSound, closed_records, open_records}
use Rattle.visit.proofs.Emptying.{recorded_at}
use Rattle.visit.proofs.Matched.{Places, matches_places}
use Rattle.visit.proofs.Areas.{closed_recorded, open_recorded}
use Rattle.found.specs.declared.Pages.{Pages}
use Rattle.found.specs.Inner.Turns.{rows_in, count_of, counted_with}
use Rattle.found.proofs.Wide.{AllIn, Wide}

-- at most 320 rows; rows of 32 bytes
abbrev pub FewIn : Option (List (List ℕ)) → Type 0
FewIn none = Unit {0}
FewIn (some rows) = length rows ≤ 320

abbrev pub WideIn : Option (List (List ℕ)) → Type 0
WideIn o = AllIn (λ r. length r ≡ 32) o

-- ---- the rows of any matches

module _ (count : ℕ) (f : ℕ → List ℕ) where
  pub rows_few : (o : Option (List ℕ)) → Places count o → FewIn (rows_at f o)
  rows_few none p = tt
  rows_few (some ps) p =
      let m : length (members (insert_all empty_words ps)) ≡ length ps = ap length p.1 in
      omega (arith, length-map ps f, length_members (insert_all empty_words ps))

  wide_below : ((p : ℕ) → p < count → length (f p) ≡ 32) → (ps : List ℕ) → Below count ps → Wide 32 (map f ps)
  wide_below h [] b = tt
  wide_below h (p ∷ ps) b = (h p b.0, wide_below h ps b.1)

  pub rows_wide : ((p : ℕ) → p < count → length (f p) ≡ 32) → (o : Option (List ℕ)) → Places count o → WideIn (rows_at f o)
  rows_wide h none p = tt
  rows_wide h (some ps) p = wide_below h ps p.0

  module _ (m : Sweep) where
    pub rows_counted : (o : Option (List ℕ)) → Places count o → m ≡ swept_from empty_words o → (total : ℕ) (pages : Pages)
        → counted_with total pages m ≡ count_of total pages (rows_at f o)
    rows_counted none p is total pages = rw is
    rows_counted (some ps) p is total pages = rw (is, p.1, length-map ps f)

    pub rows_none : (o : Option (List ℕ)) → m ≡ swept_from empty_words o → m.good ≡ false → rows_at f o ≡ none
    rows_none none is e = refl
    rows_none (some ps) is e = let z : true ≡ false = sym (ap (λ (x : Sweep). x.good) is) ∙ e in cc

    pub rows_some : (o : Option (List ℕ)) → m ≡ swept_from empty_words o → m.good ≡ true → rows_at f o ≡ some (rows_in (rows_at f o))
    rows_some none is e = let z : false ≡ true = sym (ap (λ (x : Sweep). x.good) is) ∙ e in cc
    rows_some (some ps) is e = refl

    pub rows_are : (o : Option (List ℕ)) → Places count o → m ≡ swept_from empty_words o
        → map f (members m.set.words) ≡ rows_in (rows_at f o)
    rows_are none p is = rw (is, members_empty)
    rows_are (some ps) p is = rw (is, p.1)

    pub rows_below : (o : Option (List ℕ)) → Places count o → m ≡ swept_from empty_words o → Below count (members m.set.words)
    rows_below none p is = rw (is, members_empty) tt
    rows_below (some ps) p is = rw (is, p.1) p.0

-- ---- a record's bytes

module _ (lifts tail : List ℕ) (g : Records) (r : Recorded lifts tail g) (p : ℕ) (h : p < g.count) where
  pub record_size : length (record_in lifts tail g.first p) ≡ 32
  record_size = let b = recorded_at lifts tail g p r h in record_length lifts tail g.first p b.0 b.1

-- ---- of a closed segment

module _ (nand : List ℕ) (s : Closed) (q : Query) where
  pub closed_places : Places s.count (closed_matches nand s q)
  unfolding closed_matches
  closed_places = matches_places _ _ _ _ s.count _ q

  pub closed_few : FewIn (closed_rows nand s q)
  unfolding closed_rows
  closed_few = rows_few s.count _ (closed_matches nand s q) closed_places

  pub closed_wide : ClosedSound nand s → WideIn (closed_rows nand s q)
  unfolding closed_rows
  closed_wide sound =
      rows_wide s.count _ (λ p h. record_size (closed_lifts nand s) (closed_lifts nand s) (closed_records s)
      (closed_recorded nand s sound) p h)
      (closed_matches nand s q) closed_places

  module _ (m : Sweep) (is : m ≡ swept_from empty_words (closed_matches nand s q)) where
    pub closed_counted : (total : ℕ) (pages : Pages) → counted_with total pages m ≡ count_of total pages (closed_rows nand s q)
    unfolding closed_rows
    closed_counted total pages = rows_counted s.count _ m (closed_matches nand s q) closed_places is total pages

    pub closed_rows_are : map (record_in (closed_lifts nand s) (closed_lifts nand s) 320) (members m.set.words)
        ≡ rows_in (closed_rows nand s q)
    unfolding closed_rows
    closed_rows_are = rows_are s.count _ m (closed_matches nand s q) closed_places is

    pub closed_none : m.good ≡ false → closed_rows nand s q ≡ none
    unfolding closed_rows
    closed_none e = rows_none s.count _ m (closed_matches nand s q) is e

    pub closed_some : m.good ≡ true → closed_rows nand s q ≡ some (rows_in (closed_rows nand s q))
    unfolding closed_rows
    closed_some e = rows_some s.count _ m (closed_matches nand s q) is e

    pub closed_below : Below s.count (members m.set.words)
    closed_below = rows_below s.count (λ p. []) m (closed_matches nand s q) closed_places is

-- ---- of the open segment

module _ (nand nor page : List ℕ) (g : Log) (q : Query) where
  pub open_places : Places g.count (open_matches nand nor page g q)
  unfolding open_matches
  open_places = matches_places _ _ _ _ g.count _ q

  pub open_none : g.count ≡ 0 → open_rows nand nor page g q ≡ some []
  unfolding open_rows
  open_none e = let z = eq-eqb g.count 0 e in rw z

  pub open_some : (g.count ≡ 0 → ⊥)
      → open_rows nand nor page g q
      ≡ rows_at (record_in (open_lifts nand g) page (in_full_pages g.count)) (open_matches nand nor page g q)
  unfolding open_rows
  open_some h = let z = ne_eqb g.count 0 h in rw z

  module _ (h : g.count ≡ 0 → ⊥) (m : Sweep) (is : m ≡ swept_from empty_words (open_matches nand nor page g q)) where
    pub open_counted : (total : ℕ) (pages : Pages) → counted_with total pages m ≡ count_of total pages (open_rows nand nor page g q)
    open_counted total pages = rw (open_some h) (rows_counted g.count _ m (open_matches nand nor page g q) open_places is total pages)

    pub open_rows_are : map (record_in (open_lifts nand g) page (in_full_pages g.count)) (members m.set.words)
        ≡ rows_in (open_rows nand nor page g q)
    open_rows_are = rw (open_some h) (rows_are g.count _ m (open_matches nand nor page g q) open_places is)

    pub open_damage : m.good ≡ false → open_rows nand nor page g q ≡ none
    open_damage e = open_some h ∙ rows_none g.count _ m (open_matches nand nor page g q) is e

    pub open_good : m.good ≡ true → open_rows nand nor page g q ≡ some (rows_in (open_rows nand nor page g q))
    open_good e = rw (open_some h) (rows_some g.count _ m (open_matches nand nor page g q) is e)

    pub open_below : Below g.count (members m.set.words)
    open_below = rows_below g.count (λ p. []) m (open_matches nand nor page g q) open_places is

  pub open_wide : LogSound nand nor g → length page ≡ 512 → WideIn (open_rows nand nor page g q)
  unfolding open_rows
  open_wide sound size = go (eqb g.count 0)
    where
      go : (b : Bool) → WideIn (cond b (some [])
          (rows_at (record_in (open_lifts nand g) page (in_full_pages g.count)) (open_matches nand nor page g q)))
      go true = tt
      go false =
          rows_wide g.count _ (λ p h. record_size (open_lifts nand g) page (open_records g) (open_recorded nand nor g sound page size) p h)
          (open_matches nand nor page g q) open_places

  pub open_few : FewIn (open_rows nand nor page g q)
  unfolding open_rows
  open_few = go (eqb g.count 0)
    where
      go : (b : Bool) → FewIn (cond b (some [])
          (rows_at (record_in (open_lifts nand g) page (in_full_pages g.count)) (open_matches nand nor page g q)))
      go true = omega arith
      go false =
          rows_few g.count (record_in (open_lifts nand g) page (in_full_pages g.count)) (open_matches nand nor page g q)
          open_places

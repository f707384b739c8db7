-- The rows of the closed segments from a cursor on, and the pages read there, by the cursor's next step. Assumes nothing.
use mathlib.Core.Path.{◌≡◌, refl}
use mathlib.Core.Option.{Option, none, some}
use mathlib.Core.List.{List, [], ◌∷◌}
use Prim.Native.Nat.{ℕ, zero, suc, ◌+◌, ◌*◌, ◌<◌}
use lib.ListN.{length}
use Rattle.skiplist.specs.Skip.{Live}
use Rattle.visit.specs.declared.Closed.{Closed}
use Rattle.visit.specs.declared.Query.{Query}
use Rattle.visit.specs.Visit.{closed_rows, tree_read}
use Rattle.visit.specs.Inner.Sound.{ClosedSound}
use Rattle.walk.specs.declared.Cursor.{Cursor}
use Rattle.walk.specs.declared.Step.{Step}
use Rattle.walk.specs.declared.Step.TheVariants.{End, Damage, Pass, Visit}
use Rattle.walk.specs.Advance.{advance_of}
use Rattle.walk.specs.Inner.Sound.{Sound}
use Rattle.walk.proofs.Steps.{StepFacts, step_facts}
use Rattle.found.specs.Found.{join_rows, rows_from}
use Rattle.found.specs.Pages.{Read, bloom_at, read_from}
use Rattle.found.specs.Inner.Turns.{rows_after, read_after}
use Rattle.found.proofs.Wide.{AllIn, all_join}
use Rattle.found.proofs.Matched.{WideIn, closed_wide}
use Rattle.found.proofs.Falling as F

module _ (nand : List ℕ) (slots : ℕ) (live : Live) (q : Query) (size : length nand ≡ slots * 16384) where
  -- ---- rows

  abbrev from : ℕ → Cursor → Option (List (List ℕ))
  from n c = rows_from n nand slots live q c

  abbrev pass_rows : Cursor → Option (List (List ℕ)) → Option (List (List ℕ))
  pass_rows c o = o

  abbrev visit_rows : Cursor → Closed → Option (List (List ℕ)) → Option (List (List ℕ))
  visit_rows c s o = join_rows o (closed_rows nand s q)

  -- one step, where f gives the rows from the next cursor on
  abbrev pub after : (Cursor → Option (List (List ℕ))) → Cursor → Step → Option (List (List ℕ))
  after f c s = F.after nand slots live q size (some []) none pass_rows visit_rows f c s

  pub from_step : (n : ℕ) (c : Cursor) (s : Step) → advance_of nand slots live q c ≡ s → from (suc n) c ≡ after (from n) c s
  unfolding rows_from
  from_step n c s e = rw (e, rows_from) (same s)
    where
      same : (s : Step)
          → elim s [
            | End ↦ some []
            | Damage ↦ none
            | Pass d ↦ from n d
            | Visit s d ↦ join_rows (from n d) (closed_rows nand s q)
          ]
          ≡ after (from n) c s
      same End = refl
      same Damage = refl
      same (Pass d) = refl
      same (Visit s d) = refl

  -- what holds of every row of a closed segment holds of all of them
  module _ (P : List ℕ → Type 0) (each : (s : Closed) → ClosedSound nand s → AllIn P (closed_rows nand s q)) where
    pub from_all : (n : ℕ) (c : Cursor) → Sound slots c → AllIn P (from n c)
    unfolding rows_from
    from_all zero c sound = tt
    from_all (suc n) c sound =
        rw (from_step n c (advance_of nand slots live q c) refl)
        (go (advance_of nand slots live q c) (step_facts nand slots live q c size sound) (λ d. from_all n d))
      where
        go : (s : Step) → StepFacts nand slots c.before s → ((d : Cursor) → Sound slots d → AllIn P (from n d))
            → AllIn P (after (from n) c s)
        go End f ih = tt
        go Damage f ih = tt
        go (Pass d) f ih = ih d f.sound
        go (Visit s d) f ih = all_join P (from n d) (closed_rows nand s q) (ih d f.1.sound) (each s f.0)

  -- ---- pages

  abbrev reads : ℕ → Cursor → List Read
  reads n c = read_from n nand slots live q c

  abbrev pub pass_read : Cursor → List Read → List Read
  pass_read c rs = record { bloom = bloom_at nand slots live q c; tree = 0 } ∷ rs

  abbrev pub visit_read : Cursor → Closed → List Read → List Read
  visit_read c s rs = record { bloom = bloom_at nand slots live q c; tree = tree_read nand s q } ∷ rs

  pub read_step : (n : ℕ) (c : Cursor) (s : Step) → advance_of nand slots live q c ≡ s
      → reads (suc n) c ≡ F.after nand slots live q size [] [] pass_read visit_read (reads n) c s
  unfolding read_from
  read_step n c s e = rw (e, read_from) (same s)
    where
      same : (s : Step)
          → elim s [
            | End ↦ []
            | Damage ↦ []
            | Pass d ↦ pass_read c (reads n d)
            | Visit s d ↦ visit_read c s (reads n d)
          ]
          ≡ F.after nand slots live q size [] [] pass_read visit_read (reads n) c s
      same End = refl
      same Damage = refl
      same (Pass d) = refl
      same (Visit s d) = refl

  -- ---- from a cursor on

  module _ (c : Cursor) (sound : Sound slots c) where
    pub rows_any : (n : ℕ) → c.before < n → rows_from n nand slots live q c ≡ rows_after nand slots live q c
    unfolding rows_after
    rows_any n h = F.from_any nand slots live q size (some []) none pass_rows visit_rows from from_step c sound n h

    pub read_any : (n : ℕ) → c.before < n → read_from n nand slots live q c ≡ read_after nand slots live q c
    unfolding read_after
    read_any n h = F.from_any nand slots live q size [] [] pass_read visit_read reads read_step c sound n h

    pub rows_all : (P : List ℕ → Type 0) → ((s : Closed) → ClosedSound nand s → AllIn P (closed_rows nand s q))
        → AllIn P (rows_after nand slots live q c)
    unfolding rows_after
    rows_all P each = from_all P each (c.before + 1) c sound

    pub rows_wide : WideIn (rows_after nand slots live q c)
    rows_wide = rows_all (λ r. length r ≡ 32) (λ s h. closed_wide nand s q h)

    pub rows_end : advance_of nand slots live q c ≡ End → rows_after nand slots live q c ≡ some []
    unfolding rows_after
    rows_end e = F.from_first nand slots live q size (some []) none pass_rows visit_rows from from_step c sound End e

    pub read_end : advance_of nand slots live q c ≡ End → read_after nand slots live q c ≡ []
    unfolding read_after
    read_end e = F.from_first nand slots live q size [] [] pass_read visit_read reads read_step c sound End e

    pub rows_damage : advance_of nand slots live q c ≡ Damage → rows_after nand slots live q c ≡ none
    unfolding rows_after
    rows_damage e = F.from_first nand slots live q size (some []) none pass_rows visit_rows from from_step c sound Damage e

    module _ (d : Cursor) where
      pub rows_pass : advance_of nand slots live q c ≡ Pass d → rows_after nand slots live q c ≡ rows_after nand slots live q d
      unfolding rows_after
      rows_pass e = F.from_pass nand slots live q size (some []) none pass_rows visit_rows from from_step c sound d e

      pub read_pass : advance_of nand slots live q c ≡ Pass d
          → read_after nand slots live q c ≡ record { bloom = bloom_at nand slots live q c; tree = 0 } ∷ read_after nand slots live q d
      unfolding read_after
      read_pass e = F.from_pass nand slots live q size [] [] pass_read visit_read reads read_step c sound d e

      module _ (s : Closed) (e : advance_of nand slots live q c ≡ Visit s d) where
        pub rows_visit : rows_after nand slots live q c ≡ join_rows (rows_after nand slots live q d) (closed_rows nand s q)
        unfolding rows_after
        rows_visit = F.from_visit nand slots live q size (some []) none pass_rows visit_rows from from_step c sound d s e

        pub read_visit : read_after nand slots live q c
            ≡ record { bloom = bloom_at nand slots live q c; tree = tree_read nand s q } ∷ read_after nand slots live q d
        unfolding read_after
        read_visit = F.from_visit nand slots live q size [] [] pass_read visit_read reads read_step c sound d s e

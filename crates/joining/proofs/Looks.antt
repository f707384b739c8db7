-- A look through lists side by side, and through the places of a set. By induction on the list. Assumes nothing.
use mathlib.Core.Path.{◌≡◌, refl, sym, ap, ◌∙◌}
use mathlib.Core.Bool.{Bool, true, false, cond}
use mathlib.Core.Option.{Option, none, some}
use mathlib.Core.List.{List, [], ◌∷◌, ◌++◌, map}
use Prim.Native.Nat.{ℕ, ◌<◌}
use Rattle.bitset.specs.Inner.Words.{Below}
use Rattle.found.proofs.Counts.{never}
use Rattle.joining.specs.declared.look.Fit.{Fit}
use Rattle.joining.specs.declared.look.Fit.TheVariants.{Behind, Ahead, Joins, Other}
use Rattle.joining.specs.Inner.Looking.{ends_by, ends, taken_by, taken_of, left_by, left_of}

-- ---- two lists side by side

module _ {A : Type 0} (rising : Bool) (fit : A → Fit) where
  -- what is left of both and what is taken, by whether the look ends in the first
  abbrev left_both : Bool → List A → List A → List A
  left_both e xs ys = left_of rising fit xs ++ cond e ys (left_of rising fit ys)

  abbrev taken_both : Bool → List A → List A → Option A
  taken_both e xs ys = cond e (taken_of rising fit xs) (taken_of rising fit ys)

  pub left_append : (xs ys : List A) → left_of rising fit (xs ++ ys) ≡ left_both (ends rising fit xs) xs ys
  unfolding left_of ends
  left_append [] ys = refl
  left_append (b ∷ xs) ys = go rising (fit b) (left_append xs ys)
    where
      left : List A
      left = left_of rising fit xs

      go : (r : Bool) (f : Fit) → left_of rising fit (xs ++ ys) ≡ left ++ cond (ends rising fit xs) ys (left_of rising fit ys)
          → left_by r fit f b (xs ++ ys) (left_of rising fit (xs ++ ys))
          ≡ left_by r fit f b xs left ++ cond (ends_by r fit f (ends rising fit xs)) ys (left_of rising fit ys)
      go true Behind ih = ih
      go false Behind ih = ap {B = List A} (λ l. b ∷ l) ih
      go true Ahead ih = refl
      go false Ahead ih = ap {B = List A} (λ l. b ∷ l) ih
      go r Joins ih = refl
      go r Other ih = ap {B = List A} (λ l. b ∷ l) ih

  pub taken_append : (xs ys : List A) → taken_of rising fit (xs ++ ys) ≡ taken_both (ends rising fit xs) xs ys
  unfolding taken_of ends
  taken_append [] ys = refl
  taken_append (b ∷ xs) ys = go rising (fit b) (taken_append xs ys)
    where
      go : (r : Bool) (f : Fit)
          → taken_of rising fit (xs ++ ys) ≡ cond (ends rising fit xs) (taken_of rising fit xs) (taken_of rising fit ys)
          → taken_by r fit f b (taken_of rising fit (xs ++ ys))
          ≡ cond (ends_by r fit f (ends rising fit xs)) (taken_by r fit f b (taken_of rising fit xs)) (taken_of rising fit ys)
      go r Behind ih = ih
      go true Ahead ih = refl
      go false Ahead ih = ih
      go r Joins ih = refl
      go r Other ih = ih

-- ---- the places of a set, and the rows that stand there

abbrev pub mapped : {A B : Type 0} → (A → B) → Option A → Option B
mapped f none = none
mapped f (some a) = some (f a)

module _ (rising : Bool) (n : ℕ) (row : ℕ → List ℕ) (fit : List ℕ → Fit) (at : ℕ → Fit) (same : (p : ℕ) → p < n → fit (row p) ≡ at p) where
  pub left_rows : (ps : List ℕ) → Below n ps → left_of rising fit (map row ps) ≡ map row (left_of rising at ps)
  unfolding left_of
  left_rows [] b = refl
  left_rows (p ∷ ps) b = ap (λ (f : Fit). left_by rising fit f (row p) (map row ps) (left_of rising fit (map row ps))) (same p b.0) ∙ go rising (at p) (left_rows ps b.1)
    where
      go : (r : Bool) (f : Fit) → left_of rising fit (map row ps) ≡ map row (left_of rising at ps)
          → left_by r fit f (row p) (map row ps) (left_of rising fit (map row ps)) ≡ map row (left_by r at f p ps (left_of rising at ps))
      go true Behind ih = ih
      go false Behind ih = rw ih
      go true Ahead ih = refl
      go false Ahead ih = rw ih
      go r Joins ih = refl
      go r Other ih = rw ih

  pub taken_rows : (ps : List ℕ) → Below n ps → taken_of rising fit (map row ps) ≡ mapped row (taken_of rising at ps)
  unfolding taken_of
  taken_rows [] b = refl
  taken_rows (p ∷ ps) b = ap (λ (f : Fit). taken_by rising fit f (row p) (taken_of rising fit (map row ps))) (same p b.0) ∙ go rising (at p) (taken_rows ps b.1)
    where
      go : (r : Bool) (f : Fit) → taken_of rising fit (map row ps) ≡ mapped row (taken_of rising at ps)
          → taken_by r fit f (row p) (taken_of rising fit (map row ps)) ≡ mapped row (taken_by r at f p (taken_of rising at ps))
      go r Behind ih = ih
      go true Ahead ih = refl
      go false Ahead ih = ih
      go r Joins ih = refl
      go r Other ih = ih

  pub ends_rows : (ps : List ℕ) → Below n ps → ends rising fit (map row ps) ≡ ends rising at ps
  unfolding ends
  ends_rows [] b = refl
  ends_rows (p ∷ ps) b = ap (λ (f : Fit). ends_by rising fit f (ends rising fit (map row ps))) (same p b.0) ∙ go rising (at p) (ends_rows ps b.1)
    where
      go : (r : Bool) (f : Fit) → ends rising fit (map row ps) ≡ ends rising at ps
          → ends_by r fit f (ends rising fit (map row ps)) ≡ ends_by r at f (ends rising at ps)
      go r Behind ih = ih
      go true Ahead ih = refl
      go false Ahead ih = ih
      go r Joins ih = refl
      go r Other ih = ih

-- ---- what is left and what is taken are places of the list

abbrev is_some : Option ℕ → Bool
is_some none = false
is_some (some p) = true

module _ (rising : Bool) (fit : ℕ → Fit) (n : ℕ) where
  pub left_below : (ps : List ℕ) → Below n ps → Below n (left_of rising fit ps)
  unfolding left_of
  left_below [] b = tt
  left_below (p ∷ ps) b = go rising (fit p) (left_below ps b.1)
    where
      go : (r : Bool) (f : Fit) → Below n (left_of rising fit ps) → Below n (left_by r fit f p ps (left_of rising fit ps))
      go true Behind ih = ih
      go false Behind ih = (b.0, ih)
      go true Ahead ih = b
      go false Ahead ih = (b.0, ih)
      go r Joins ih = b.1
      go r Other ih = (b.0, ih)

  pub taken_below : (ps : List ℕ) → Below n ps → (p : ℕ) → taken_of rising fit ps ≡ some p → p < n
  unfolding taken_of
  taken_below [] b p e = never (sym (ap is_some e))
  taken_below (q ∷ ps) b p e = go rising (fit q) e (taken_below ps b.1 p)
    where
      go : (r : Bool) (f : Fit) → taken_by r fit f q (taken_of rising fit ps) ≡ some p → (taken_of rising fit ps ≡ some p → p < n) → p < n
      go r Behind e ih = ih e
      go true Ahead e ih = never (sym (ap is_some e))
      go false Ahead e ih = ih e
      go r Joins e ih = let s : q ≡ p = cc in rw (← s) b.0
      go r Other e ih = ih e

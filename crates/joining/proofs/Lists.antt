-- A look through a list, and the first that fits: the same is taken; the same is left, but for lifts that can be joined no more. Assumes
-- nothing.
use mathlib.Core.Path.{◌≡◌, refl, sym, ap}
use mathlib.Core.Bool.{Bool, true, false, cond}
use mathlib.Core.Option.{some}
use mathlib.Core.List.{List, [], ◌∷◌}
use Prim.Native.Nat.{ℕ, ◌≤◌}
use native.Mathlib.Omega.{arith}
use lib.Dec.{eqb}
use Rattle.lift.specs.Record.{time_at, member_at}
use Rattle.supersets.specs.Pairs.{first_fit, without_fit, joins}
use Rattle.codec.specs.Lists.{chosen}
use Rattle.supersets.proofs.Leaving.{fits_any}
use Rattle.whole_log.specs.Inner.Rising.{Rising}
use Rattle.joining.specs.declared.look.Fit.{Fit}
use Rattle.joining.specs.declared.look.Fit.TheVariants.{Behind, Ahead, Joins, Other}
use Rattle.joining.specs.Inner.Looking.{fit_row, taken_by, taken_of, left_by, left_of}
use Rattle.joining.specs.Inner.Passing.{sought_for}
use Rattle.joining.proofs.Fitting.{is_joins, joins_is, joins_behind, fit_behind, fit_ahead, ahead_first, ahead_without}

-- ---- whatever the times

module _ (a : List ℕ) (named : eqb (member_at a 0) 0 ≡ false) where
  abbrev fit : List ℕ → Fit
  fit b = fit_row (sought_for false a) b

  pub taken_first : (bs : List (List ℕ)) → taken_of false fit bs ≡ first_fit joins a bs
  unfolding taken_of first_fit
  taken_first [] = refl
  taken_first (b ∷ bs) = go (fit b) (joins_is a b false named) (taken_first bs)
    where
      go : (f : Fit) → joins a b ≡ is_joins f → taken_of false fit bs ≡ first_fit joins a bs
          → taken_by false fit f b (taken_of false fit bs) ≡ cond (joins a b) (some b) (first_fit joins a bs)
      go Behind e ih = rw e ih
      go Ahead e ih = rw e ih
      go Joins e ih = rw e
      go Other e ih = rw e ih

  pub left_without : (bs : List (List ℕ)) → left_of false fit bs ≡ without_fit joins a bs
  unfolding left_of without_fit
  left_without [] = refl
  left_without (b ∷ bs) = go (fit b) (joins_is a b false named) (left_without bs)
    where
      go : (f : Fit) → joins a b ≡ is_joins f → left_of false fit bs ≡ without_fit joins a bs
          → left_by false fit f b bs (left_of false fit bs) ≡ cond (joins a b) bs (b ∷ without_fit joins a bs)
      go Behind e ih = rw (e, ih)
      go Ahead e ih = rw (e, ih)
      go Joins e ih = rw e
      go Other e ih = rw (e, ih)

-- ---- where times never fall

-- no lift of a list is earlier than a time
abbrev pub NoneBefore : ℕ → List (List ℕ) → Type 0
NoneBefore t [] = Unit {0}
NoneBefore t (a ∷ rest) = (t ≤ time_at a 0) × NoneBefore t rest

-- none of them joins a lift that is not later than the time
behind_none : (t : ℕ) (b : List ℕ) → time_at b 0 ≤ t → (rest : List (List ℕ)) → NoneBefore t rest → fits_any joins rest b ≡ false
unfolding fits_any
behind_none t b h [] n = refl
behind_none t b h (a ∷ rest) n =
    let u = n.0 in
    rw (joins_behind a b (omega arith)) (behind_none t b h rest n.1)

module _ (a : List ℕ) (named : eqb (member_at a 0) 0 ≡ false) where
  abbrev fitted : List ℕ → Fit
  fitted b = fit_row (sought_for true a) b

  pub taken_rising : (bs : List (List ℕ)) (t : ℕ) → Rising t bs → taken_of true fitted bs ≡ first_fit joins a bs
  unfolding taken_of first_fit
  taken_rising [] t r = refl
  taken_rising (b ∷ bs) t r = go (fitted b) refl (joins_is a b true named) (taken_rising bs (time_at b 0) r.1)
    where
      go : (f : Fit) → fitted b ≡ f → joins a b ≡ is_joins f → taken_of true fitted bs ≡ first_fit joins a bs
          → taken_by true fitted f b (taken_of true fitted bs) ≡ cond (joins a b) (some b) (first_fit joins a bs)
      go Behind d e ih = rw e ih
      go Ahead d e ih = sym (ahead_first a b bs t r (fit_ahead a b true d))
      go Joins d e ih = rw e
      go Other d e ih = rw e ih

  -- what is left differs only by lifts that none of the later ones joins
  pub left_rising : (later : List (List ℕ)) → NoneBefore (time_at a 0) later → (bs : List (List ℕ)) (t : ℕ) → Rising t bs
      → chosen (fits_any joins later) (left_of true fitted bs) ≡ chosen (fits_any joins later) (without_fit joins a bs)
  unfolding left_of without_fit chosen
  left_rising later n [] t r = refl
  left_rising later n (b ∷ bs) t r = go (fitted b) refl (joins_is a b true named) (left_rising later n bs (time_at b 0) r.1)
    where
      use' : List ℕ → Bool
      use' c = fits_any joins later c

      go : (f : Fit) → fitted b ≡ f → joins a b ≡ is_joins f
          → chosen use' (left_of true fitted bs) ≡ chosen use' (without_fit joins a bs)
          → chosen use' (left_by true fitted f b bs (left_of true fitted bs)) ≡ chosen use' (cond (joins a b) bs (b ∷ without_fit joins a bs))
      go Behind d e ih = rw (e, behind_none (time_at a 0) b (fit_behind a b true d) later n) ih
      go Ahead d e ih = ap (chosen use') (sym (ahead_without a b bs t r (fit_ahead a b true d)))
      go Joins d e ih = rw e
      go Other d e ih = rw (e, ih)

  -- it still never falls
  rising_from : (s t : ℕ) (bs : List (List ℕ)) → s ≤ t → Rising t bs → Rising s bs
  rising_from s t [] h r = tt
  rising_from s t (b ∷ bs) h r = let u = r.0 in (omega arith, r.1)

  pub rising_left : (bs : List (List ℕ)) (t : ℕ) → Rising t bs → Rising t (left_of true fitted bs)
  unfolding left_of
  rising_left [] t r = tt
  rising_left (b ∷ bs) t r = go (fitted b) (rising_left bs (time_at b 0) r.1)
    where
      go : (f : Fit) → Rising (time_at b 0) (left_of true fitted bs) → Rising t (left_by true fitted f b bs (left_of true fitted bs))
      go Behind ih = rising_from t (time_at b 0) (left_of true fitted bs) r.0 ih
      go Ahead ih = r
      go Joins ih = rising_from t (time_at b 0) bs r.0 r.1
      go Other ih = (r.0, ih)

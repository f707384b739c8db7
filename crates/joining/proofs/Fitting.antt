-- What a lift is to the one that is sought for, and whether the two join. Assumes nothing.
use mathlib.Core.Path.{◌≡◌, refl, sym, ap, ◌∙◌}
use mathlib.Core.Bool.{Bool, true, false, cond, not, ◌&&◌}
use mathlib.Core.Option.{none}
use mathlib.Core.List.{List, [], ◌∷◌}
use Prim.Native.Nat.{ℕ, ◌+◌, ◌-◌, ◌≤◌, ◌<◌}
use native.Mathlib.Omega.{arith}
use lib.Dec.{eqb, leb, ltb}
use borrow.Author.Tests.{leb-true, leb-false, ltb-true, ltb-false, lt-ltb, le-ltb, le-leb, lt-leb}
use Rattle.codec.proofs.Truth.{and_true, and_false}
use Rattle.lift.specs.Record.{time_at, member_at}
use Rattle.found.proofs.Counts.{never}
use Rattle.supersets.specs.Pairs.{first_fit, without_fit, joins}
use Rattle.supersets.proofs.Fitting.{without_none}
use Rattle.whole_log.specs.Inner.Rising.{Rising}
use Rattle.joining.specs.declared.look.Fit.{Fit}
use Rattle.joining.specs.declared.look.Fit.TheVariants.{Behind, Ahead, Joins, Other}
use Rattle.joining.specs.Inner.Looking.{fit_of, fit_row}
use Rattle.joining.specs.Inner.Passing.{sought_for}

abbrev pub is_joins : Fit → Bool
is_joins Behind = false
is_joins Ahead = false
is_joins Joins = true
is_joins Other = false

abbrev is_behind : Fit → Bool
is_behind Behind = true
is_behind Ahead = false
is_behind Joins = false
is_behind Other = false

abbrev is_ahead : Fit → Bool
is_ahead Behind = false
is_ahead Ahead = true
is_ahead Joins = false
is_ahead Other = false

-- ---- one lift and another

module _ (a b : List ℕ) where
  -- later by 1 to 30,000 ms
  abbrev later : Bool
  later = ltb (time_at a 0) (time_at b 0) && leb (time_at b 0) (time_at a 0 + 30000)

  -- member 0 joins nothing
  pub joins_nobody : eqb (member_at a 0) 0 ≡ true → joins a b ≡ false
  unfolding joins
  joins_nobody e = rw e

  -- nor does a lift join one that is not later, or later by too much
  joins_none : later ≡ false → joins a b ≡ false
  unfolding joins
  joins_none e =
      ap (λ (l : Bool). (not (eqb (member_at a 0) 0) && eqb (member_at b 0) (member_at a 0)) && l) e
      ∙ and_false (not (eqb (member_at a 0) 0) && eqb (member_at b 0) (member_at a 0))

  -- a later one by the member is joined
  joins_both : eqb (member_at a 0) 0 ≡ false → later ≡ true → joins a b ≡ eqb (member_at b 0) (member_at a 0)
  unfolding joins
  joins_both m e = rw (m, e) (and_true (eqb (member_at b 0) (member_at a 0)))

  pub joins_behind : time_at b 0 ≤ time_at a 0 → joins a b ≡ false
  joins_behind h = joins_none (ap (λ (l : Bool). l && leb (time_at b 0) (time_at a 0 + 30000)) (le-ltb _ _ h))

  pub joins_ahead : time_at a 0 + 30000 < time_at b 0 → joins a b ≡ false
  joins_ahead h =
      joins_none (ap (λ (l : Bool). ltb (time_at a 0) (time_at b 0) && l) (lt-leb _ _ h) ∙ and_false (ltb (time_at a 0) (time_at b 0)))

  module _ (rising : Bool) where
    abbrev fit : Fit
    fit = fit_row (sought_for rising a) b

    -- the two join exactly where the look says so
    pub joins_is : eqb (member_at a 0) 0 ≡ false → joins a b ≡ is_joins fit
    unfolding fit_of
    joins_is m = go (leb (time_at b 0) (time_at a 0)) refl (ltb 30000 (time_at b 0 - time_at a 0)) refl
      where
        member : Fit
        member = cond (eqb (member_at b 0) (member_at a 0)) Joins Other

        by_member : (t : Bool) → t ≡ is_joins (cond t Joins Other)
        by_member true = refl
        by_member false = refl

        go : (x : Bool) → leb (time_at b 0) (time_at a 0) ≡ x → (y : Bool) → ltb 30000 (time_at b 0 - time_at a 0) ≡ y
            → joins a b ≡ is_joins (cond x Behind (cond y Ahead member))
        go true e y d = joins_behind (leb-true _ _ e)
        go false e true d = let h = ltb-true 30000 (time_at b 0 - time_at a 0) d in joins_ahead (omega arith)
        go false e false d =
            let h = leb-false (time_at b 0) (time_at a 0) e in
            let k = ltb-false 30000 (time_at b 0 - time_at a 0) d in
            joins_both m (rw (lt-ltb (time_at a 0) (time_at b 0) h) (le-leb (time_at b 0) (time_at a 0 + 30000) (omega arith)))
            ∙ by_member (eqb (member_at b 0) (member_at a 0))

    pub fit_behind : fit ≡ Behind → time_at b 0 ≤ time_at a 0
    unfolding fit_of
    fit_behind e = go (leb (time_at b 0) (time_at a 0)) refl (ltb 30000 (time_at b 0 - time_at a 0)) (eqb (member_at b 0) (member_at a 0)) e
      where
        go : (x : Bool) → leb (time_at b 0) (time_at a 0) ≡ x → (y z : Bool) → cond x Behind (cond y Ahead (cond z Joins Other)) ≡ Behind
            → time_at b 0 ≤ time_at a 0
        go true d y z e = leb-true _ _ d
        go false d true z e = never (sym (ap is_behind e))
        go false d false true e = never (sym (ap is_behind e))
        go false d false false e = never (sym (ap is_behind e))

    pub fit_ahead : fit ≡ Ahead → time_at a 0 + 30000 < time_at b 0
    unfolding fit_of
    fit_ahead e = go (leb (time_at b 0) (time_at a 0)) (ltb 30000 (time_at b 0 - time_at a 0)) refl (eqb (member_at b 0) (member_at a 0)) e
      where
        go : (x y : Bool) → ltb 30000 (time_at b 0 - time_at a 0) ≡ y → (z : Bool) → cond x Behind (cond y Ahead (cond z Joins Other)) ≡ Ahead
            → time_at a 0 + 30000 < time_at b 0
        go true y d z e = never (ap is_behind e)
        go false true d z e = let h = ltb-true 30000 (time_at b 0 - time_at a 0) d in omega arith
        go false false d true e = never (sym (ap is_ahead e))
        go false false d false e = never (sym (ap is_ahead e))

-- ---- where times never fall, nothing behind a lift that is too late is joined

ahead_none : (a : List ℕ) (bs : List (List ℕ)) (t : ℕ) → Rising t bs → time_at a 0 + 30000 < t → first_fit joins a bs ≡ none
unfolding first_fit
ahead_none a [] t r h = refl
ahead_none a (b ∷ bs) t r h =
    let u = r.0 in
    rw (joins_ahead a b (omega arith)) (ahead_none a bs (time_at b 0) r.1 (omega arith))

pub ahead_first : (a b : List ℕ) (bs : List (List ℕ)) (t : ℕ) → Rising t (b ∷ bs) → time_at a 0 + 30000 < time_at b 0
    → first_fit joins a (b ∷ bs) ≡ none
ahead_first a b bs t r h = ahead_none a (b ∷ bs) (time_at b 0) (omega arith, r.1) h

pub ahead_without : (a b : List ℕ) (bs : List (List ℕ)) (t : ℕ) → Rising t (b ∷ bs) → time_at a 0 + 30000 < time_at b 0
    → without_fit joins a (b ∷ bs) ≡ b ∷ bs
ahead_without a b bs t r h = without_none joins a (b ∷ bs) (ahead_first a b bs t r h)

-- A look for the first free lift that fits, as the code goes about it: it stops at a lift that is too late, and leaves out those that can
-- be joined no more, where times never fall. Assumes nothing.
use Rattle.std.specs.Prelude.{◌≡◌, Bool, true, false, cond, List, [], ◌∷◌, ◌++◌, ℕ, ◌-◌, eqb, leb, ltb}
use Rattle.std.proofs.Math.Option.{Option, none, some}
use Rattle.bitset.specs.declared.Bits.{Bits}
use Rattle.bitset.specs.Inner.Words.{members}
use Rattle.lift.specs.Record.{time_at, member_at}
use Rattle.lift.specs.Rows.{time_in, member_in}
use Rattle.joining.specs.declared.look.Fit.{Fit}
use Rattle.joining.specs.declared.look.Fit.TheVariants.{Behind, Ahead, Joins, Other}
use Rattle.joining.specs.declared.look.End.{End}
use Rattle.joining.specs.declared.look.End.TheVariants.{Found, Late, Through}
use Rattle.joining.specs.declared.look.Look.{Look}
use Rattle.joining.specs.declared.look.Sought.{Sought}

-- "later by 1 to 30,000 ms"
abbrev pub later_most : ℕ
later_most = 30000

-- what a lift of a time and a member is to the one that is sought for
unfoldable pub fit_of : Sought → ℕ → ℕ → Fit
fit_of s time member =
    cond (leb time s.time) Behind
    (cond (ltb later_most (time - s.time)) Ahead
    (cond (eqb member s.member) Joins Other))

abbrev pub fit_row : Sought → List ℕ → Fit
fit_row s b = fit_of s (time_at b 0) (member_at b 0)

abbrev pub fit_in : Sought → List ℕ → List ℕ → ℕ → ℕ → Fit
fit_in s lifts tail first p = fit_of s (time_in lifts tail first p) (member_in lifts tail first p)

-- ---- through a list, where `fit` says what each is

module _ {A : Type 0} (rising : Bool) (fit : A → Fit) where
  -- whether the look ends within the list
  abbrev pub ends_by : Fit → Bool → Bool
  ends_by Behind more = more
  ends_by Ahead more = cond rising true more
  ends_by Joins more = true
  ends_by Other more = more

  unfoldable pub ends : List A → Bool
  ends [] = false
  ends (b ∷ bs) = ends_by (fit b) (ends bs)

  -- the one that is taken
  abbrev pub taken_by : Fit → A → Option A → Option A
  taken_by Behind b more = more
  taken_by Ahead b more = cond rising none more
  taken_by Joins b more = some b
  taken_by Other b more = more

  unfoldable pub taken_of : List A → Option A
  taken_of [] = none
  taken_of (b ∷ bs) = taken_by (fit b) b (taken_of bs)

  -- those that are left
  abbrev pub left_by : Fit → A → List A → List A → List A
  left_by Behind b bs more = cond rising more (b ∷ more)
  left_by Ahead b bs more = b ∷ cond rising bs more
  left_by Joins b bs more = bs
  left_by Other b bs more = b ∷ more

  unfoldable pub left_of : List A → List A
  left_of [] = []
  left_of (b ∷ bs) = left_by (fit b) b bs (left_of bs)

-- ---- through the places of one set

-- what was taken, and whether the look ends there
abbrev pub taken_at : End → Option ℕ
taken_at (Found p) = some p
taken_at Late = none
taken_at Through = none

abbrev pub ends_at : End → Bool
ends_at (Found p) = true
ends_at Late = true
ends_at Through = false

module _ (rising : Bool) (fit : ℕ → Fit) (left : List ℕ) (taken : Option ℕ) (last : Bool) where
  -- on the way: some places that stay free were looked at, the rest is not yet; what the look comes to
  pub record Looks (free : Bits) (rest : List ℕ) : Type 0 where
    pub kept : List ℕ
    pub are : members free.words ≡ kept ++ rest
    pub left_is : kept ++ left_of rising fit rest ≡ left
    pub taken_is : taken_of rising fit rest ≡ taken
    pub last_is : ends rising fit rest ≡ last

  -- over
  pub record Looked (k : Look) : Type 0 where
    pub left_is : members k.left.words ≡ left
    pub taken_is : taken_at k.end ≡ taken
    pub last_is : ends_at k.end ≡ last

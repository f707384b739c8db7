-- An append past grounds 1 to 8 that may or may not drop: it stops before a forced drop, or goes on as the plain append. Assumes nothing.
use mathlib.Core.Path.{◌≡◌, refl, sym, ap, subst, ◌∙◌}
use mathlib.Core.Bool.{Bool, true, false, not, ◌&&◌, false≢true}
use mathlib.Core.List.{List}
use Prim.Native.Nat.{ℕ, ◌≤◌}
use native.Mathlib.Decide.{ℕ_discrete}
use native.Mathlib.Omega.{arith}
use lib.IntN.{ℤ}
use Rattle.std.specs.declared.option.Option.{Option}
use Rattle.std.specs.declared.option.Option.TheVariants.{None, Some}
use Rattle.std.specs.Option.{is_some}
use Rattle.std.specs.declared.result.Result.{Result}
use Rattle.std.specs.declared.result.Result.TheVariants.{Ok, Err}
use Rattle.std.specs.Result.{is_ok}
use Rattle.grounds.specs.declared.Ground.{Ground}
use Rattle.grounds.specs.declared.Ground.TheVariants.{DataChip, IndexChip, State, Time, Load, Backwards, Earlier, LastSerial, NothingThere, Damage, NotErased, ManyRows, OtherForm, NoWayBack, NoStack, ManyPairs, Tolerance, Text, AreaLength}
use Rattle.grounds.specs.Numbers.{number_of, number_in}
use Rattle.grounds.proofs.Numbers.{refused}
use Rattle.bounds.specs.Grounds.{ground}
use Rattle.tree.specs.Plan.{Plan}
use Rattle.store.specs.World.{World, world}
use Rattle.store.specs.Calls.{plan_of, room_world, drops_first, append_damage, append_unerased}
use Rattle.store.specs.Inner.Pieces.{later_ground}
use Rattle.state_bytes.specs.StateBytes.{state_in}
use Rattle.areas.specs.Areas.{Left, left, append_called}
use Rattle.area_append.specs.Inner.Appending.{drops_due, GoesOn, number_or_stop}

-- grounds 10 and 11 are no 255
pub later_small : (w : World) (slots : ℕ) (load : ℤ) (p : Plan) → later_ground w slots load p ≤ 11
unfolding later_ground
later_small w slots load p = go (append_damage (room_world w slots p) slots load p) (append_unerased w (room_world w slots p) slots p)
  where
    go : (a b : Bool) → ground 10 a (ground 11 b 0) ≤ 11
    go true b = omega arith
    go false true = omega arith
    go false false = omega arith

module _ (may_drop : Bool) (area nand nor : List ℕ) (slots time : ℕ) (load : ℤ) (note : List ℕ) where
  abbrev w : World
  w = world nand nor (state_in area)

  -- what the plan shows is due
  module _ (p : Plan) (planned : p ≡ plan_of w load) (drops : Bool) (drops_is : drops ≡ drops_first (room_world w slots p).state slots) where
    due : drops ≡ drops_due w slots load
    due = drops_is ∙ ap (λ (q : Plan). drops_first (room_world w slots q).state slots) planned

    pub stops_here : (not may_drop && drops) ≡ true → GoesOn may_drop area nand nor slots time load note (left 255 area nand nor)
    stops_here e = record { stopped = λ z. (rw due at e, refl); gone = λ f. absurd (f refl) }

    pub goes_past : (not may_drop && drops) ≡ false → (l : Left) → l.number ≤ 11 → l ≡ append_called area nand nor slots time load note
        → GoesOn may_drop area nand nor slots time load note l
    goes_past e l small is = record { stopped = λ z. absurd (omega arith); gone = λ f. (rw due at e, is) }

-- by the load as passed
pub goes_of : (may_drop : Bool) (area nand nor : List ℕ) (slots time : ℕ) (z load : ℤ) → z ≡ load → (note : List ℕ) (l : Left)
    → GoesOn may_drop area nand nor slots time z note l → GoesOn may_drop area nand nor slots time load note l
goes_of may_drop area nand nor slots time z load k note l g = subst (λ (x : ℤ). GoesOn may_drop area nand nor slots time x note l) k g

-- an append that may drop is the plain one
pub goes_plain : (area nand nor : List ℕ) (slots time : ℕ) (z load : ℤ) → z ≡ load → (note : List ℕ) (l : Left)
    → GoesOn true area nand nor slots time z note l → l ≡ append_called area nand nor slots time load note
goes_plain area nand nor slots time z load k note l on = go (ℕ_discrete l.number 255)
  where
    g : GoesOn true area nand nor slots time load note l
    g = goes_of true area nand nor slots time z load k note l on

    go : Dec (l.number ≡ 255) → l ≡ append_called area nand nor slots time load note
    go (yes e) = absurd (false≢true (g.stopped e).0)
    go (no f) = (g.gone f).1

-- it does not stop
pub never_stops : {A : Type 0} (area nand nor area' nand' nor' : List ℕ) (slots time : ℕ) (load : ℤ) (note : List ℕ) (r : Option (Result A Ground))
    → GoesOn true area nand nor slots time load note (left (number_or_stop r) area' nand' nor') → is_some r ≡ true
never_stops area nand nor area' nand' nor' slots time load note None on = absurd (false≢true (on.stopped refl).0)
never_stops area nand nor area' nand' nor' slots time load note (Some r) on = refl

pub went : {A : Type 0} (area nand nor area' nand' nor' : List ℕ) (slots time : ℕ) (z load : ℤ) → z ≡ load → (note : List ℕ)
    → (r : Option (Result A Ground)) (x : Result A Ground) → r ≡ Some x
    → GoesOn true area nand nor slots time z note (left (number_or_stop r) area' nand' nor')
    → left (number_in x) area' nand' nor' ≡ append_called area nand nor slots time load note
went {A} area nand nor area' nand' nor' slots time z load k note r x e on =
    goes_plain area nand nor slots time z load k note _
    (subst (λ (t : Option (Result A Ground)). GoesOn true area nand nor slots time z note (left (number_or_stop t) area' nand' nor')) e on)

-- no ground has the number 255
pub number_small : (g : Ground) → number_of g ≤ 20
number_small DataChip = omega arith
number_small IndexChip = omega arith
number_small State = omega arith
number_small Time = omega arith
number_small Load = omega arith
number_small Backwards = omega arith
number_small Earlier = omega arith
number_small LastSerial = omega arith
number_small NothingThere = omega arith
number_small Damage = omega arith
number_small NotErased = omega arith
number_small ManyRows = omega arith
number_small OtherForm = omega arith
number_small NoWayBack = omega arith
number_small NoStack = omega arith
number_small ManyPairs = omega arith
number_small Tolerance = omega arith
number_small Text = omega arith
number_small AreaLength = omega arith

pub no_stop : {A : Type 0} (r : Result A Ground) → number_in r ≡ 255 → ⊥
no_stop (Ok a) e = absurd (omega arith)
no_stop (Err g) e = let few : number_of g ≤ 20 = number_small g in absurd (omega arith)

-- what a test of the answer says of its number
pub number_ok : {A : Type 0} (r : Result A Ground) → is_ok r ≡ true → number_in r ≡ 0
number_ok (Ok a) e = refl
number_ok (Err g) e = absurd (false≢true e)

pub number_err : {A : Type 0} (r : Result A Ground) → is_ok r ≡ false → number_in r ≡ 0 → ⊥
number_err (Ok a) e z = false≢true (sym e)
number_err (Err g) e z = refused g z

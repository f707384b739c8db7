-- A ground's number is none of a call that is done, and tells its ground. Assumes nothing.
use Rattle.std.proofs.Common.{◌≡◌, refl, ◌<◌, arith}
use Rattle.std.specs.declared.result.Result.{Result}
use Rattle.std.specs.declared.result.Result.TheVariants.{Ok, Err}
use Rattle.grounds.specs.declared.Ground.{Ground}
use Rattle.grounds.specs.declared.Ground.TheVariants.{DataChip, IndexChip, State, Time, Load, Backwards, Earlier, LastSerial, NothingThere, Damage, NotErased, ManyRows, OtherForm, NoWayBack, NoStack, ManyPairs, Tolerance, Text, AreaLength}
use Rattle.grounds.specs.Numbers.{number_of, number_in}

pub number_some : (g : Ground) → 0 < number_of g
number_some DataChip = omega arith
number_some IndexChip = omega arith
number_some State = omega arith
number_some Time = omega arith
number_some Load = omega arith
number_some Backwards = omega arith
number_some Earlier = omega arith
number_some LastSerial = omega arith
number_some NothingThere = omega arith
number_some Damage = omega arith
number_some NotErased = omega arith
number_some ManyRows = omega arith
number_some OtherForm = omega arith
number_some NoWayBack = omega arith
number_some NoStack = omega arith
number_some ManyPairs = omega arith
number_some Tolerance = omega arith
number_some Text = omega arith
number_some AreaLength = omega arith

pub refused : (g : Ground) → number_of g ≡ 0 → ⊥
refused g e = let some : 0 < number_of g = number_some g in omega arith

-- number 0: the call is done, with a value
pub done : {A : Type 0} (r : Result A Ground) → number_in r ≡ 0 → (a : A) × (r ≡ Ok a)
done (Ok a) e = (a, refl)
done (Err g) e = absurd (refused g e)

-- any other: it is refused by a ground of this number
pub not_done : {A : Type 0} (r : Result A Ground) → (number_in r ≡ 0 → ⊥) → (g : Ground) × (r ≡ Err g)
not_done (Ok a) f = absurd (f refl)
not_done (Err g) f = (g, refl)

-- The numbers of the grounds (documents 01 and 02), and of a call that is done or refused by one. Assumes nothing.
use Rattle.std.specs.Prelude.{ℕ}
use Rattle.std.specs.declared.result.Result.{Result}
use Rattle.std.specs.declared.result.Result.TheVariants.{Ok, Err}
use Rattle.grounds.specs.declared.Ground.{Ground}
use Rattle.grounds.specs.declared.Ground.TheVariants.{DataChip, IndexChip, State, Time, Load, Backwards, Earlier, LastSerial, NothingThere, Damage, NotErased, ManyRows, OtherForm, NoWayBack, NoStack, ManyPairs, Tolerance, Text, AreaLength}

abbrev pub number_of : Ground → ℕ
number_of DataChip = 1
number_of IndexChip = 2
number_of State = 3
number_of Time = 4
number_of Load = 5
number_of Backwards = 6
number_of Earlier = 7
number_of LastSerial = 8
number_of NothingThere = 9
number_of Damage = 10
number_of NotErased = 11
number_of ManyRows = 12
number_of OtherForm = 13
number_of NoWayBack = 14
number_of NoStack = 15
number_of ManyPairs = 16
number_of Tolerance = 17
number_of Text = 18
number_of AreaLength = 20

-- 0 means done
abbrev pub number_in : {A : Type 0} → Result A Ground → ℕ
number_in (Ok a) = 0
number_in (Err g) = number_of g

-- The answer of the lookup as the code gives it. Assumes nothing.
use Rattle.std.specs.Prelude.{ℕ}
use Rattle.std.specs.declared.result.Result.{Result}
use Rattle.std.specs.declared.result.Result.TheVariants.{Ok, Err}
use Rattle.grounds.specs.declared.Ground.{Ground}
use Rattle.grounds.specs.Numbers.{number_of}
use Rattle.plate.specs.Lookup.{Lookup}

abbrev pub lookup_of : Result ℕ Ground → Lookup
lookup_of (Ok plate) = record { number = 0; plate = plate }
lookup_of (Err g) = record { number = number_of g; plate = 0 }

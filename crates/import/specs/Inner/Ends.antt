-- How the code says where an import ended. Assumes nothing.
use Rattle.std.specs.Prelude.{ℕ}
use Rattle.std.specs.declared.result.Result.{Result}
use Rattle.std.specs.declared.result.Result.TheVariants.{Ok, Err}
use Rattle.grounds.specs.Numbers.{number_of}
use Rattle.import.specs.declared.Stop.{Stop}
use Rattle.import.specs.Fold.{Imported}
use Rattle.import.specs.Inner.Lines.{imported}

-- its number, and the line that ended it: both 0 if all went in
abbrev pub end_number : {A : Type 0} → Result A Stop → ℕ
end_number (Ok a) = 0
end_number (Err s) = number_of s.ground

abbrev pub end_line : {A : Type 0} → Result A Stop → ℕ
end_line (Ok a) = 0
end_line (Err s) = s.line

abbrev pub imported_by : {A X : Type 0} → Result A Stop → X → Imported X
imported_by end left = imported (end_number end) (end_line end) left

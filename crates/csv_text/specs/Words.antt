-- Which records a file can tell (document 02, W-211): their fields are of the form that an import accepts. Assumes nothing.
use Rattle.std.specs.Prelude.{◌≡◌, true, List, [], ◌∷◌, ◌≤◌}
use Rattle.lift.specs.Limits.{time_limit, load_ok}
use Rattle.lift_text.specs.Text.{Told}
use Rattle.csv_text.specs.Grammar.{member_most}

-- within the limits of a lift's time and load, and of a member
pub record Tellable (r : Told) : Type 0 where
  pub time : r.time ≤ time_limit
  pub load : load_ok r.load ≡ true
  pub member : r.member ≤ member_most

abbrev pub AllTellable : List Told → Type 0
AllTellable [] = Unit {0}
AllTellable (r ∷ rs) = Tellable r × AllTellable rs

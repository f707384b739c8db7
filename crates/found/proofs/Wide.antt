-- What holds of every row that a search finds. Assumes nothing.
use mathlib.Core.Path.{◌≡◌}
use mathlib.Core.Option.{Option, none, some}
use mathlib.Core.List.{List}
use Prim.Native.Nat.{ℕ}
use lib.ListN.{length}
use Rattle.codec.proofs.Lists.{AllOf, all_append}
use Rattle.found.specs.Found.{join_rows}

-- none stands for damage
abbrev pub AllIn : (List ℕ → Type 0) → Option (List (List ℕ)) → Type 0
AllIn P none = Unit {0}
AllIn P (some rows) = AllOf P rows

-- every row has w bytes
abbrev pub Wide : ℕ → List (List ℕ) → Type 0
Wide w rows = AllOf (λ r. length r ≡ w) rows

pub all_join : (P : List ℕ → Type 0) (older newer : Option (List (List ℕ))) → AllIn P older → AllIn P newer
    → AllIn P (join_rows older newer)
all_join P none newer a b = tt
all_join P (some older) none a b = tt
all_join P (some older) (some newer) a b = all_append P older newer a b

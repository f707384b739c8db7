-- The answer of a call for pairs (document 02, W-208; grounds 10 and 16). Assumes nothing.
use Rattle.std.specs.Prelude.{cond, List, ℕ, ◌/◌, ltb, length}
use Rattle.std.proofs.Math.Option.{Option, none, some}
use Rattle.codec.specs.Area.{splice}
use Rattle.search.specs.Answers.{row_bytes}
use Rattle.supersets.specs.Pairs.{pair_rows}

-- "the whole 64-byte rows of their area"
abbrev pub pair_width : ℕ
pair_width = 64

abbrev pub whole_pairs : List ℕ → ℕ
whole_pairs area = length area / pair_width

-- number, count and result area
pub record PairsAnswer : Type 0 where
  pub number : ℕ
  pub count : ℕ
  pub area : List ℕ

-- a refusal
abbrev pub refused_pairs : ℕ → List ℕ → PairsAnswer
refused_pairs n area = record { number = n; count = 0; area = area }

-- "16: the pairs outnumber the whole 64-byte rows of their area"; "The list, with its count, shows each pair once .. and nothing else"
abbrev pub listed : List ℕ → List (List ℕ) → PairsAnswer
listed area pairs =
    cond (ltb (whole_pairs area) (length pairs))
    (refused_pairs 16 area)
    (record { number = 0; count = length pairs; area = splice area 0 (row_bytes pairs) })

-- both logs "as a search over all times and loads gives or refuses them"; none stands for damage
unfoldable pub pairs_answer : List ℕ → Option (List (List ℕ)) → Option (List (List ℕ)) → PairsAnswer
pairs_answer area none second = refused_pairs 10 area
pairs_answer area (some first) none = refused_pairs 10 area
pairs_answer area (some first) (some second) = listed area (pair_rows first second)

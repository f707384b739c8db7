-- Tables of worked examples: rows of what is computed and the figure worked out by hand from the papers. Assumes nothing.
use Rattle.std.specs.Prelude.{◌≡◌, Bool, true, false, List, [], ◌∷◌, map, ℕ, ℤ, pos, neg_ℤ}

-- every row of a table computes to its figure
abbrev pub Agrees : {A : Type 0} → List (A × A) → Type 0
Agrees {A} rows = map (λ (row : A × A). row.0) rows ≡ map (λ (row : A × A). row.1) rows

-- a number below zero
abbrev pub minus : ℕ → ℤ
minus n = neg_ℤ (pos n)

-- what a test of bounds or of damage says
abbrev pub good : Bool
good = true

abbrev pub bad : Bool
bad = false

-- one, two, four and eight bytes, low first
abbrev pub one : ℕ → List ℕ
one a = a ∷ []

abbrev pub two : ℕ → ℕ → List ℕ
two a b = a ∷ b ∷ []

abbrev pub four : ℕ → ℕ → ℕ → ℕ → List ℕ
four a b c d = a ∷ b ∷ c ∷ d ∷ []

abbrev pub eight : ℕ → ℕ → ℕ → ℕ → ℕ → ℕ → ℕ → ℕ → List ℕ
eight a b c d e f g h = a ∷ b ∷ c ∷ d ∷ e ∷ f ∷ g ∷ h ∷ []

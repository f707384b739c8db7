-- What the code reads on its way through a line: digits, a field, the line's end. Assumes nothing.
use Rattle.std.specs.Prelude.{◌≡◌, Bool, true, false, cond, ◌&&◌, List, [], ◌∷◌, ◌++◌, ℕ, zero, suc, ◌+◌, ◌-◌, ◌^◌, ◌≤◌, ◌<◌, eqb, leb, length, get_or, drop}
use Rattle.lift_text.specs.Text.{comma}
use Rattle.csv_text.specs.declared.Run.{Run}
use Rattle.csv_text.specs.declared.Field.{Field}
use Rattle.csv_text.specs.Grammar.{all_digits, value_from}

-- ---- digits

abbrev pub is_digit : ℕ → Bool
is_digit b = leb 48 b && leb b 57

-- the digits at the front, at most n
unfoldable pub leading : ℕ → List ℕ → List ℕ
leading zero bytes = []
leading (suc n) [] = []
leading (suc n) (b ∷ bytes) = cond (is_digit b) (b ∷ leading n bytes) []

pub record RunRead (text : List ℕ) (at : ℕ) (r : Run) : Type 0 where
  pub value : r.value ≡ value_from 0 (leading 15 (drop at text))
  pub end : r.end ≡ at + length (leading 15 (drop at text))

-- from `at` read as far as `end`, of at most `most`: what is left to read from here gives what the whole gives
pub record Running (text : List ℕ) (at most value end : ℕ) : Type 0 where
  pub from : at ≤ end
  pub before : end ≤ most
  pub few : most ≤ at + 15
  pub inside : most ≤ length text
  pub small : value < 10 ^ (end - at)
  pub says : value_from value (leading (most - end) (drop end text)) ≡ value_from 0 (leading 15 (drop at text))
  pub stops : end + length (leading (most - end) (drop end text)) ≡ at + length (leading 15 (drop at text))

-- ---- a field

-- a byte that is there or not
abbrev pub bit : Bool → ℕ
bit there = cond there 1 0

abbrev pub once : Bool → ℕ → List ℕ
once there b = cond there (b ∷ []) []

-- digits after a minus or none, in quotes or not
abbrev pub written : Bool → Bool → List ℕ → List ℕ
written quoted minus digits = once quoted 34 ++ (once minus 45 ++ (digits ++ once quoted 34))

-- a field's form, and what it says
pub record Form (signed : Bool) (field : List ℕ) (minus : Bool) (value : ℕ) : Type 0 where
  pub quoted : Bool
  pub digits : List ℕ
  pub is : field ≡ written quoted minus digits
  pub sign : minus ≡ true → signed ≡ true
  pub all : all_digits digits ≡ true
  pub some : 1 ≤ length digits
  pub few : length digits ≤ 15
  pub says : value ≡ value_from 0 digits

-- what comes next is no digit and no quote
pub record Stops (bytes : List ℕ) : Type 0 where
  pub no_digit : is_digit (get_or bytes 0 0) ≡ false
  pub no_quote : eqb (get_or bytes 0 0) 34 ≡ false

-- a field at the front, and what is behind it
pub record Front (signed : Bool) (bytes : List ℕ) (minus : Bool) (value : ℕ) (behind : List ℕ) : Type 0 where
  pub field : List ℕ
  pub form : Form signed field minus value
  pub whole : bytes ≡ field ++ behind

-- a field from `at` on: what is read is there, and one that is there before a stop is this one
pub record FieldRead (signed : Bool) (text : List ℕ) (at : ℕ) (f : Field) : Type 0 where
  pub inside : f.end ≤ length text
  pub small : f.value < 10 ^ 15
  pub further : at < f.end
  pub good : Front signed (drop at text) f.minus f.value (drop f.end text)
  pub only : (minus : Bool) (value : ℕ) (behind : List ℕ) → Front signed (drop at text) minus value behind → Stops behind
      → (f.minus ≡ minus) × ((f.value ≡ value) × (drop f.end text ≡ behind))

-- none before a stop
pub record NoField (signed : Bool) (text : List ℕ) (at : ℕ) : Type 0 where
  pub never : (minus : Bool) (value : ℕ) (behind : List ℕ) → Front signed (drop at text) minus value behind → Stops behind → ⊥

-- ---- a comma

pub record CommaPassed (text : List ℕ) (at next : ℕ) : Type 0 where
  pub there : drop at text ≡ comma ∷ drop next text
  pub inside : next ≤ length text
  pub further : at < next

pub record NoComma (text : List ℕ) (at : ℕ) : Type 0 where
  pub never : (behind : List ℕ) → drop at text ≡ comma ∷ behind → ⊥

-- ---- a line's end

-- a line ends before these bytes: none, or CRLF first
unfoldable pub ends : List ℕ → Bool
ends [] = true
ends (b ∷ bytes) = eqb b 13 && eqb (get_or bytes 0 0) 10

-- what is behind it
unfoldable pub behind_end : List ℕ → List ℕ
behind_end [] = []
behind_end (b ∷ bytes) = drop 1 bytes

-- a line ends at `at`, and the next one begins
pub record EndPassed (text : List ℕ) (at next : ℕ) : Type 0 where
  pub there : ends (drop at text) ≡ true
  pub from : at ≤ next
  pub inside : next ≤ length text
  pub behind : drop next text ≡ behind_end (drop at text)

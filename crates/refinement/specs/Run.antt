-- Lists of calls on the store, each given the state and chips that the last one left, and the same calls as the paper log gets them.
-- Assumes nothing.
use Rattle.std.specs.Prelude.{◌≡◌, false, cond, ◌||◌, List, [], ◌∷◌, ℕ, ◌<◌, eqb, ℤ, length, get_or}
use Rattle.lift.specs.Rows.{whole_rows}
use Rattle.lift.specs.Record.{note_width}
use Rattle.codec.specs.Area.{splice}
use Rattle.search.specs.Answers.{SearchAnswer, row_bytes}
use Rattle.store.specs.World.{World}
use Rattle.store.specs.Calls.{append_outcome, close_outcome, drop_outcome}
use Rattle.questions.specs.Queries.{search_outcome}
use Rattle.paper_log.specs.Calls as Paper

-- a call as the store gets it; a search brings its result area
pub data Request : Type 0 where
  append : ℕ → ℕ → ℤ → List ℕ → Request
  close : ℕ → Request
  drop : ℕ → Request
  search : ℕ → ℕ → ℕ → ℤ → ℤ → List ℕ → Request

-- what the paper log gets of it: "its kind, its S, times, loads and notes and the number of whole rows in its result area"
abbrev pub call_of : Request → Paper.Call
call_of (append slots time load note) = Paper.append slots (record { time = time; load = load; note = note })
call_of (close slots) = Paper.close slots
call_of (drop slots) = Paper.drop slots
call_of (search slots t1 t2 k1 k2 area) = Paper.search slots t1 t2 k1 k2 (whole_rows area)

-- the number, and of a search its count and its area after the call
pub record Reply : Type 0 where
  pub number : ℕ
  pub count : ℕ
  pub area : List ℕ

abbrev pub plain : ℕ → Reply
plain n = record { number = n; count = 0; area = [] }

abbrev pub searched : SearchAnswer → Reply
searched a = record { number = a.number; count = a.count; area = a.area }

-- the store's reply to a call, and the world after it
unfoldable pub reply : World → Request → Reply
reply w (append slots time load note) = plain (append_outcome w slots time load note).number
reply w (close slots) = plain (close_outcome w slots).number
reply w (drop slots) = plain (drop_outcome w slots).number
reply w (search slots t1 t2 k1 k2 area) = searched (search_outcome w slots t1 t2 k1 k2 area)

unfoldable pub world_after : World → Request → World
world_after w (append slots time load note) = (append_outcome w slots time load note).world
world_after w (close slots) = (close_outcome w slots).world
world_after w (drop slots) = (drop_outcome w slots).world
world_after w (search slots t1 t2 k1 k2 area) = w

unfoldable pub replies : World → List Request → List Reply
replies w [] = []
replies w (r ∷ rs) = reply w r ∷ replies (world_after w r) rs

unfoldable pub run_after : World → List Request → World
run_after w [] = w
run_after w (r ∷ rs) = run_after (world_after w r) rs

-- ---- what the paper log's answer makes of a request

-- the number; of a search the count, and the area with the rows where it is accepted
unfoldable pub expected : Paper.Answer → Request → Reply
expected a (append slots time load note) = plain a.number
expected a (close slots) = plain a.number
expected a (drop slots) = plain a.number
expected a (search slots t1 t2 k1 k2 area) = record {
  number = a.number;
  count = length a.rows;
  area = cond (eqb a.number 0) (splice area 0 (row_bytes a.rows)) area;
}

-- of a list of requests, beside the paper log's answers
unfoldable pub expected_all : List Paper.Answer → List Request → List Reply
expected_all [] rs = []
expected_all (a ∷ rest) [] = []
expected_all (a ∷ rest) (r ∷ rs) = expected a r ∷ expected_all rest rs

-- a note is 20 bytes: what its type can hold
abbrev pub Typed : Request → Type 0
Typed (append slots time load note) = (length note ≡ note_width) × ((i : ℕ) → get_or note i 0 < 256)
Typed (close slots) = Unit {0}
Typed (drop slots) = Unit {0}
Typed (search slots t1 t2 k1 k2 area) = Unit {0}

abbrev pub AllTyped : List Request → Type 0
AllTyped [] = Unit {0}
AllTyped (r ∷ rs) = Typed r × AllTyped rs

-- neither damage nor an unerased page is reported (README, demand 3): no reply has number 10 or 11
abbrev pub NeverDamage : List Reply → Type 0
NeverDamage [] = Unit {0}
NeverDamage (a ∷ rest) = ((eqb a.number 10 || eqb a.number 11) ≡ false) × NeverDamage rest

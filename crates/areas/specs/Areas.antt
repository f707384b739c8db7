-- The calls over byte areas and numbers: each equals the store's call on the state that its area holds. An accepted call leaves the
-- next state there, and its other answers in an area of 8-byte numbers, or of a page; a refusal leaves every area as it was. A conversion
-- reads one store and its state and writes a second one. Assumes nothing.
use Rattle.std.specs.Prelude.{Bool, cond, ◌&&◌, List, [], ◌∷◌, ℕ, ◌*◌, eqb, ℤ, length}
use Rattle.codec.specs.Number.{bytes}
use Rattle.plate.specs.Plate.{plates}
use Rattle.plate.specs.Carried.{lookup}
use Rattle.form.specs.declared.Form.TheVariants.{Old, New}
use Rattle.store.specs.World.{World, world}
use Rattle.store.specs.Calls.{Outcome, state_ground, format_outcome, append_outcome, close_outcome, drop_outcome}
use Rattle.questions.specs.Queries.{search_outcome, tally_outcome}
use Rattle.pairs.specs.Call.{pairs_outcome}
use Rattle.tolerant.specs.Call.{tolerant_outcome}
use Rattle.service_page.specs.Page.{page_bytes, page_of}
use Rattle.loads.specs.Signed.{side_by_side}
use Rattle.conversion.specs.Outcome.{forward_outcome, backward_outcome}
use Rattle.state_bytes.specs.StateBytes.{state_bytes, state_in, old_state_bytes, old_state_in, area_length}
use Rattle.counts.specs.CountsBytes.{counts_length, counts_bytes, counts_in}
use Rattle.keeping.specs.Keeping.{Store, store, Counted, format_kept, append_kept, drop_kept}
use Rattle.kept.specs.Kept.{kept}
use Rattle.lift_text.specs.Text.{Told}
use Rattle.export.specs.Call.{export_outcome}
use Rattle.import.specs.Fold.{Imported, import_text}
use Rattle.import.specs.Call.{note_of, ground_kept}

-- what a call that writes leaves: its number, the state's area and both chips
pub record Left : Type 0 where
  pub number : ℕ
  pub state : List ℕ
  pub nand : List ℕ
  pub nor : List ℕ

abbrev pub left : ℕ → List ℕ → List ℕ → List ℕ → Left
left number state nand nor = record { number = number; state = state; nand = nand; nor = nor }

-- number 20, before everything else: an area of a state has another length; else the call's number, and if that is 0 the next state's
-- bytes
unfoldable pub leaves : Bool → (World → List ℕ) → List ℕ → List ℕ → List ℕ → Outcome → Left
leaves fits to_bytes area nand nor o =
    cond fits (left o.number (kept o.number (to_bytes o.world) area) o.world.nand o.world.nor) (left 20 area nand nor)

-- a state's bytes in form 1, and in form 0
abbrev pub new_bytes : World → List ℕ
new_bytes w = state_bytes w.state

abbrev pub old_bytes : World → List ℕ
old_bytes w = old_state_bytes (record { state = w.state; live = w.live })

-- ---- calls on one store

unfoldable pub called : List ℕ → List ℕ → List ℕ → Outcome → Left
called area nand nor o = leaves (eqb (length area) (area_length New)) new_bytes area nand nor o

unfoldable pub format_called : List ℕ → List ℕ → List ℕ → ℕ → Left
format_called area nand nor slots = called area nand nor (format_outcome New nand nor slots)

unfoldable pub append_called : List ℕ → List ℕ → List ℕ → ℕ → ℕ → ℤ → List ℕ → Left
append_called area nand nor slots time load note =
    called area nand nor (append_outcome (world nand nor (state_in area)) slots time load note)

unfoldable pub close_called : List ℕ → List ℕ → List ℕ → ℕ → Left
close_called area nand nor slots = called area nand nor (close_outcome (world nand nor (state_in area)) slots)

unfoldable pub drop_called : List ℕ → List ℕ → List ℕ → ℕ → Left
drop_called area nand nor slots = called area nand nor (drop_outcome (world nand nor (state_in area)) slots)

-- ---- conversions

-- from form 0, the area `old`, into form 1, the area `area`
unfoldable pub forward_called : List ℕ → List ℕ → List ℕ → ℕ → List ℕ → List ℕ → List ℕ → Left
forward_called old nand nor slots area toNand toNor =
    leaves (eqb (length old) (area_length Old) && eqb (length area) (area_length New)) new_bytes area toNand toNor
    (forward_outcome nand nor (old_state_in old) slots toNand toNor)

-- and back
unfoldable pub backward_called : List ℕ → List ℕ → List ℕ → ℕ → List ℕ → List ℕ → List ℕ → Left
backward_called area nand nor slots old toNand toNor =
    leaves (eqb (length area) (area_length New) && eqb (length old) (area_length Old)) old_bytes old toNand toNor
    (backward_outcome nand nor (state_in area) slots toNand toNor)

-- ---- calls that answer

-- what a call that answers leaves: its number, the result area and the area of its answers
pub record Answered : Type 0 where
  pub number : ℕ
  pub rows : List ℕ
  pub answer : List ℕ

abbrev pub replied : ℕ → List ℕ → List ℕ → Answered
replied number rows answer = record { number = number; rows = rows; answer = answer }

-- number 20, before everything else: the state's area has another length, or the answer's area another than n
unfoldable pub in_lengths : {A : Type 0} → List ℕ → List ℕ → ℕ → A → A → A
in_lengths area answer n a refused = cond (eqb (length area) (area_length New) && eqb (length answer) n) a refused

abbrev pub replied_in : List ℕ → List ℕ → ℕ → List ℕ → Answered → Answered
replied_in area answer n rows a = in_lengths area answer n a (replied 20 rows answer)

-- the count, then the header, Bloom and tree pages read, in 8 bytes each
unfoldable pub search_called : List ℕ → List ℕ → List ℕ → ℕ → ℕ → ℕ → ℤ → ℤ → List ℕ → List ℕ → Answered
search_called area nand nor slots t1 t2 k1 k2 rows answer =
    let o = search_outcome (world nand nor (state_in area)) slots t1 t2 k1 k2 rows in
    let numbers = o.count ∷ o.pages.headers ∷ o.pages.bloom ∷ o.pages.tree ∷ [] in
    replied_in area answer 32 rows (replied o.number o.area (kept o.number (side_by_side (bytes 8) numbers) answer))

-- pairs of two stores (W-208): the states and the answer, in this order, of their lengths
unfoldable pub pairs_called : List ℕ → List ℕ → List ℕ → ℕ → List ℕ → List ℕ → List ℕ → ℕ → List ℕ → List ℕ → Answered
pairs_called first nand1 nor1 slots1 second nand2 nor2 slots2 rows answer =
    let o = pairs_outcome (world nand1 nor1 (state_in first)) slots1 (world nand2 nor2 (state_in second)) slots2 rows in
    cond (eqb (length first) (area_length New))
    (replied_in second answer 8 rows (replied o.number o.area (kept o.number (bytes 8 o.count) answer)))
    (replied 20 rows answer)

-- an export (W-211): the length of the text
unfoldable pub export_called : List ℕ → List ℕ → List ℕ → ℕ → ℕ → ℕ → ℤ → ℤ → List ℕ → List ℕ → Answered
export_called area nand nor slots t1 t2 k1 k2 text answer =
    let o = export_outcome (world nand nor (state_in area)) slots t1 t2 k1 k2 text in
    replied_in area answer 8 text (replied o.number o.area (kept o.number (bytes 8 o.long) answer))

-- what a tolerant search leaves (W-209): its number, both result areas and the area of its answers
pub record AnsweredBoth : Type 0 where
  pub number : ℕ
  pub certain : List ℕ
  pub possible : List ℕ
  pub answer : List ℕ

abbrev pub replied_both : ℕ → List ℕ → List ℕ → List ℕ → AnsweredBoth
replied_both number certain possible answer = record { number = number; certain = certain; possible = possible; answer = answer }

-- the counts of certain and of possible lifts
unfoldable pub tolerant_called : List ℕ → List ℕ → List ℕ → ℕ → ℕ → ℕ → ℤ → ℤ → ℕ → List ℕ → List ℕ → List ℕ → AnsweredBoth
tolerant_called area nand nor slots t1 t2 k1 k2 d certain possible answer =
    let o = tolerant_outcome (world nand nor (state_in area)) slots t1 t2 k1 k2 d certain possible in
    let numbers = o.certain ∷ o.possible ∷ [] in
    in_lengths area answer 16
    (replied_both o.number o.certain_area o.possible_area (kept o.number (side_by_side (bytes 8) numbers) answer))
    (replied_both 20 certain possible answer)

-- 22 counts of 8 bytes
unfoldable pub tally_called : List ℕ → List ℕ → List ℕ → ℕ → ℕ → ℕ → List ℕ → Answered
tally_called area nand nor slots t1 t2 answer =
    let o = tally_outcome (world nand nor (state_in area)) slots t1 t2 in
    replied_in area answer (8 * plates) [] (replied o.number [] (kept o.number (side_by_side (bytes 8) o.counts) answer))

-- the service page of a tally
unfoldable pub page_called : List ℕ → List ℕ → List ℕ → ℕ → ℕ → ℕ → List ℕ → Answered
page_called area nand nor slots t1 t2 page =
    let o = tally_outcome (world nand nor (state_in area)) slots t1 t2 in
    replied_in area page page_bytes [] (replied o.number [] (kept o.number (page_of t1 t2 o.counts) page))

-- the plate in 8 bytes
unfoldable pub plate_called : ℕ → ℤ → List ℕ → Answered
plate_called place load answer =
    let p = lookup place load in
    cond (eqb (length answer) 8) (replied p.number [] (kept p.number (bytes 8 p.plate) answer)) (replied 20 [] answer)

-- ---- calls that keep counts (W-210)

-- what such a call leaves: its number, the areas of the state and of the counts, both chips
pub record LeftKept : Type 0 where
  pub number : ℕ
  pub state : List ℕ
  pub counts : List ℕ
  pub nand : List ℕ
  pub nor : List ℕ

abbrev pub left_kept : ℕ → List ℕ → List ℕ → List ℕ → List ℕ → LeftKept
left_kept number state counts nand nor = record { number = number; state = state; counts = counts; nand = nand; nor = nor }

-- both areas of their lengths, the counts' 88 bytes; then the next state's bytes and the next counts', if the number is 0
unfoldable pub kept_called : List ℕ → List ℕ → List ℕ → List ℕ → Counted → LeftKept
kept_called area counts nand nor o =
    in_lengths area counts counts_length
    (left_kept o.number (kept o.number (new_bytes o.world) area) (kept o.number (counts_bytes o.counts) counts)
    o.world.nand o.world.nor)
    (left_kept 20 area counts nand nor)

unfoldable pub format_kept_called : List ℕ → List ℕ → List ℕ → List ℕ → ℕ → LeftKept
format_kept_called area counts nand nor slots = kept_called area counts nand nor (format_kept New nand nor slots)

unfoldable pub append_kept_called : List ℕ → List ℕ → List ℕ → List ℕ → ℕ → ℕ → ℤ → List ℕ → LeftKept
append_kept_called area counts nand nor slots time load note =
    kept_called area counts nand nor (append_kept (world nand nor (state_in area)) slots time load note (counts_in counts))

unfoldable pub drop_kept_called : List ℕ → List ℕ → List ℕ → List ℕ → ℕ → LeftKept
drop_kept_called area counts nand nor slots =
    kept_called area counts nand nor (drop_kept (world nand nor (state_in area)) slots (counts_in counts))

-- ---- imports (W-211): the appends above, one for each record in turn

-- a store whose state is in an area, and one with counts beside it
pub record Lent : Type 0 where
  pub state : List ℕ
  pub nand : List ℕ
  pub nor : List ℕ

pub record LentKept : Type 0 where
  pub state : List ℕ
  pub counts : List ℕ
  pub nand : List ℕ
  pub nor : List ℕ

abbrev pub lent : List ℕ → List ℕ → List ℕ → Lent
lent state nand nor = record { state = state; nand = nand; nor = nor }

abbrev pub lent_kept : List ℕ → List ℕ → List ℕ → List ℕ → LentKept
lent_kept state counts nand nor = record { state = state; counts = counts; nand = nand; nor = nor }

abbrev pub world_in : Lent → World
world_in x = world x.nand x.nor (state_in x.state)

abbrev pub store_in : LentKept → Store
store_in x = store (world x.nand x.nor (state_in x.state)) (counts_in x.counts)

-- grounds 1 to 3, and the append of a record
abbrev pub lent_ground : ℕ → Lent → ℕ
lent_ground slots x = state_ground (world_in x) slots 0

abbrev pub append_in : ℕ → Lent → Told → Left
append_in slots x r = append_called x.state x.nand x.nor slots r.time r.load (note_of r.member)

abbrev pub lent_after : ℕ → Lent → Told → Lent
lent_after slots x r = let l = append_in slots x r in lent l.state l.nand l.nor

abbrev pub kept_ground : ℕ → LentKept → ℕ
kept_ground slots x = ground_kept slots (store_in x)

abbrev pub append_kept_in : ℕ → LentKept → Told → LeftKept
append_kept_in slots x r = append_kept_called x.state x.counts x.nand x.nor slots r.time r.load (note_of r.member)

abbrev pub kept_after : ℕ → LentKept → Told → LentKept
kept_after slots x r = let l = append_kept_in slots x r in lent_kept l.state l.counts l.nand l.nor

unfoldable pub import_in : Lent → ℕ → List ℕ → Imported Lent
import_in x slots text = import_text (lent_ground slots) (λ v r. (append_in slots v r).number) (lent_after slots) text x

unfoldable pub import_kept_in : LentKept → ℕ → List ℕ → Imported LentKept
import_kept_in x slots text = import_text (kept_ground slots) (λ v r. (append_kept_in slots v r).number) (kept_after slots) text x

-- what an import leaves: its number, the areas and the chips, and the line in 8 bytes, whatever the number is
pub record LeftAfter (X : Type 0) : Type 0 where
  pub number : ℕ
  pub areas : X
  pub answer : List ℕ

abbrev pub left_after : {X : Type 0} → ℕ → X → List ℕ → LeftAfter X
left_after number areas answer = record { number = number; areas = areas; answer = answer }

unfoldable pub import_called : List ℕ → List ℕ → List ℕ → ℕ → List ℕ → List ℕ → LeftAfter Lent
import_called area nand nor slots text answer =
    let o = import_in (lent area nand nor) slots text in
    in_lengths area answer 8 (left_after o.number o.left (bytes 8 o.line)) (left_after 20 (lent area nand nor) answer)

-- the areas of the state, of the counts and of the answer, in this order
unfoldable pub import_kept_called : List ℕ → List ℕ → List ℕ → List ℕ → ℕ → List ℕ → List ℕ → LeftAfter LentKept
import_kept_called area counts nand nor slots text answer =
    let o = import_kept_in (lent_kept area counts nand nor) slots text in
    let refused = left_after 20 (lent_kept area counts nand nor) answer in
    in_lengths area counts counts_length (cond (eqb (length answer) 8) (left_after o.number o.left (bytes 8 o.line)) refused) refused

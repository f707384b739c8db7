-- The paper log (document 01, "Paper log"): lists of lifts under serials, and what each call makes of them. It knows nothing of chips,
-- state or pages; it shares the tree rules with the store. Assumes nothing.
use Rattle.std.specs.Prelude.{Bool, cond, ◌&&◌, ◌||◌, List, [], ◌∷◌, ◌++◌, map, ℕ, ◌+◌, eqb, leb, ℤ, length, drop}
use Rattle.std.specs.Int.Signed.{le_z}
use Rattle.lift.specs.Limits.{stored}
use Rattle.lift.specs.Record.{record_bytes}
use Rattle.lift.specs.Rows.{lifts_most}
use Rattle.form.specs.declared.Form.{Form}
use Rattle.form.specs.Forms.{step}
use Rattle.tree.specs.Rules.{needs_bucket36}

-- a lift: time, load, note
pub record Lift : Type 0 where
  pub time : ℕ
  pub load : ℤ
  pub note : List ℕ

-- "lists of lifts under serials: the last is open, earlier ones closed". `oldest` is the serial of the first list held. The form
-- says how next time moves.
pub record Log : Type 0 where
  pub form : Form
  pub slots : ℕ
  pub oldest : ℕ
  pub closed : List (List Lift)
  pub current : List Lift
  pub next : ℕ

-- the open serial
abbrev pub open_serial : Log → ℕ
open_serial g = g.oldest + length g.closed

-- "It starts with serial 1, open and empty, and next time 0."
unfoldable pub begun : Form → ℕ → Log
begun f slots = record { form = f; slots = slots; oldest = 1; closed = []; current = []; next = 0 }

-- "the open serial closes, the next opens"
unfoldable pub close_log : Log → Log
close_log g = record { form = g.form; slots = g.slots; oldest = g.oldest; closed = g.closed ++ (g.current ∷ []); current = []; next = g.next }

-- "the oldest closed serial goes"
unfoldable pub drop_log : Log → Log
drop_log g = record { form = g.form; slots = g.slots; oldest = g.oldest + 1; closed = drop 1 g.closed; current = g.current; next = g.next }

-- the loads of a list of lifts, as stored
abbrev pub codes : List Lift → List ℕ
codes ls = map (λ l. stored l.load) ls

-- "if open serial n has 320 lifts, or its loads and then the new one need bucket 36 by the tree rules"
unfoldable pub is_full : List Lift → ℤ → Bool
is_full ls load = eqb (length ls) lifts_most || needs_bucket36 (codes ls) (stored load)

-- "n closes and n+1 opens"
unfoldable pub room_log : Log → ℤ → Log
room_log g load = cond (is_full g.current load) (close_log g) g

-- "m − S goes, if held". Held are the serials from the oldest to the open one, m, without a gap, so m − S is held exactly where S or more are
-- closed. More than S never are: a close wants lifts, and the append that brings the first one sheds. So m − S is then the oldest one.
unfoldable pub shed_log : Log → Log
shed_log g = cond (leb g.slots (length g.closed)) (drop_log g) g

-- "The lift goes last into the open serial"; next time is the last accepted + 1 in form 0, the last accepted in form 1
unfoldable pub put_log : Log → Lift → Log
put_log g l = record {
  form = g.form;
  slots = g.slots;
  oldest = g.oldest;
  closed = g.closed;
  current = g.current ++ (l ∷ []);
  next = l.time + step g.form;
}

unfoldable pub append_log : Log → Lift → Log
append_log g l = put_log (shed_log (room_log g l.load)) l

-- the lifts of a list with t1 ≤ time ≤ t2 and k1 ≤ load ≤ k2
abbrev pub wanted : ℕ → ℕ → ℤ → ℤ → Lift → Bool
wanted t1 t2 k1 k2 l = (leb t1 l.time && leb l.time t2) && (le_z k1 l.load && le_z l.load k2)

unfoldable pub among : ℕ → ℕ → ℤ → ℤ → List Lift → List Lift
among t1 t2 k1 k2 [] = []
among t1 t2 k1 k2 (l ∷ ls) = cond (wanted t1 t2 k1 k2 l) (l ∷ among t1 t2 k1 k2 ls) (among t1 t2 k1 k2 ls)

-- all retained lifts, "by serial, then arrival"
unfoldable pub joined : List (List Lift) → List Lift
joined [] = []
joined (ls ∷ rest) = ls ++ joined rest

abbrev pub retained : Log → List Lift
retained g = joined g.closed ++ g.current

-- "It finds the lifts with t1 ≤ time ≤ t2 and k1 ≤ load ≤ k2, by serial, then arrival"
unfoldable pub found : Log → ℕ → ℕ → ℤ → ℤ → List Lift
found g t1 t2 k1 k2 = among t1 t2 k1 k2 (retained g)

-- "the rows are their records in this order"
abbrev pub row_of : Lift → List ℕ
row_of l = record_bytes l.time (stored l.load) l.note

-- The calls that keep counts (document 02, W-210): format, append and drop, for any chips, any state and any counts. What an append and a drop
-- do besides is what the plain ones do. Assumes nothing.
use Rattle.std.specs.Prelude.{Bool, true, false, cond, List, ℕ, eqb, ℤ}
use Rattle.std.proofs.Math.Option.{Option, none, some}
use Rattle.flash.specs.Chip.{slot_of}
use Rattle.lift.specs.Limits.{stored}
use Rattle.plate.specs.Plate.{no_counts}
use Rattle.bounds.specs.Grounds.{ground, sooner}
use Rattle.form.specs.declared.Form.{Form}
use Rattle.store.specs.declared.State.{State}
use Rattle.store.specs.World.{World, world}
use Rattle.store.specs.Calls.{Outcome, format_outcome, append_outcome, drop_outcome, plan_of, room_world, drops_first}
use Rattle.counts.specs.Counts.{counts_broken, one_more, without_segment}

-- a call's number, with the chips, the state and the counts that it leaves
pub record Counted : Type 0 where
  pub number : ℕ
  pub world : World
  pub counts : List ℕ

-- a store, and the counts beside its state
pub record Store : Type 0 where
  pub world : World
  pub counts : List ℕ

abbrev pub store : World → List ℕ → Store
store w counts = record { world = w; counts = counts }

abbrev pub counted : ℕ → List ℕ → List ℕ → State → List ℕ → Counted
counted number nand nor s counts = record { number = number; world = world nand nor s; counts = counts }

-- ground n among others that gave m: it is tried in the order of the numbers
abbrev pub with_ground : ℕ → Bool → ℕ → ℕ
with_ground n holds m = sooner (ground n holds 0) m

-- counts that could not be kept: damage
abbrev pub is_lost : Option (List ℕ) → Bool
is_lost none = true
is_lost (some counts) = false

abbrev pub kept_or : List ℕ → Option (List ℕ) → List ℕ
kept_or counts none = counts
kept_or counts (some next) = next

-- a plain call that keeps counts beside: it refuses on two grounds more, 3 where the counts break it and 10 where they can't be kept; a refusal
-- leaves all as it was
unfoldable pub keeping : World → List ℕ → Outcome → Option (List ℕ) → Counted
keeping w counts plain next =
    let n = with_ground 3 (counts_broken counts) (with_ground 10 (is_lost next) plain.number) in
    record { number = n; world = cond (eqb n 0) plain.world w; counts = cond (eqb n 0) (kept_or counts next) counts }

-- "0 at format"
unfoldable pub format_kept : Form → List ℕ → List ℕ → ℕ → Counted
format_kept f nand nor slots =
    let o = format_outcome f nand nor slots in
    record { number = o.number; world = o.world; counts = no_counts }

-- ---- drop

-- the counts without the oldest segment
abbrev pub counts_dropped : World → ℕ → List ℕ → Option (List ℕ)
counts_dropped w slots counts = without_segment w.form w.nand slots (slot_of w.state.oldest slots) w.state.current counts

unfoldable pub drop_kept : World → ℕ → List ℕ → Counted
drop_kept w slots counts = keeping w counts (drop_outcome w slots) (counts_dropped w slots counts)

-- ---- append

-- those with a lift more, if they could be kept
abbrev pub with_lift : ℕ → Option (List ℕ) → Option (List ℕ)
with_lift code none = none
with_lift code (some counts) = some (one_more counts code)

-- "a forced drop before the new lift"; r is the world after a close that is due
unfoldable pub counts_shed : World → ℕ → List ℕ → Option (List ℕ)
counts_shed r slots counts = cond (drops_first r.state slots) (counts_dropped r slots counts) (some counts)

unfoldable pub counts_appended : World → ℕ → ℤ → List ℕ → Option (List ℕ)
counts_appended w slots load counts = with_lift (stored load) (counts_shed (room_world w slots (plan_of w load)) slots counts)

unfoldable pub append_kept : World → ℕ → ℕ → ℤ → List ℕ → List ℕ → Counted
append_kept w slots time load note counts = keeping w counts (append_outcome w slots time load note) (counts_appended w slots load counts)

-- What an append over areas leaves of a line: by a load and a note made from it as by its own, and all as it was where it refuses. Assumes nothing.
use mathlib.Core.Path.{◌≡◌, refl, ap}
use mathlib.Core.Bool.{Bool, true, false, cond, ◌&&◌}
use mathlib.Core.List.{List}
use Prim.Native.Nat.{ℕ}
use lib.Dec.{eqb}
use lib.IntN.{ℤ}
use lib.ListN.{length}
use Rattle.lift.specs.Limits.{load_ok}
use Rattle.lift_text.specs.Text.{Told}
use Rattle.counts.specs.CountsBytes.{counts_bytes, counts_in}
use Rattle.store.specs.World.{world}
use Rattle.store.specs.Calls.{Outcome}
use Rattle.keeping.specs.Keeping.{Store, Counted}
use Rattle.state_bytes.specs.StateBytes.{state_in}
use Rattle.kept.proofs.Kept.{kept_old}
use Rattle.import.specs.Call.{note_of, store_of}
use Rattle.import.proofs.Appends.{append_told_lem, append_told_kept_lem, append_keeps, kept_append_keeps}
use Rattle.areas.specs.Areas.{Left, left, leaves, new_bytes, called, append_called, LeftKept, left_kept, in_lengths, kept_called, append_kept_called}
use Rattle.areas.specs.Areas.{Lent, lent, world_in, append_in, lent_after, LentKept, lent_kept, store_in, append_kept_in, kept_after}

-- ---- by a load and a note so made

pub left_told : (area nand nor : List ℕ) (slots time : ℕ) (load fitted : ℤ) (member : ℕ) (note : List ℕ)
    → (load_ok load ≡ true → fitted ≡ load) × (load_ok load ≡ false → load_ok fitted ≡ false) → note ≡ note_of member
    → append_called area nand nor slots time fitted note ≡ append_called area nand nor slots time load (note_of member)
unfolding append_called
left_told area nand nor slots time load fitted member note f e =
    ap (called area nand nor) (append_told_lem (world nand nor (state_in area)) slots time load fitted member note f e)

pub left_told_kept : (area counts nand nor : List ℕ) (slots time : ℕ) (load fitted : ℤ) (member : ℕ) (note : List ℕ)
    → (load_ok load ≡ true → fitted ≡ load) × (load_ok load ≡ false → load_ok fitted ≡ false) → note ≡ note_of member
    → append_kept_called area counts nand nor slots time fitted note ≡ append_kept_called area counts nand nor slots time load (note_of member)
unfolding append_kept_called
left_told_kept area counts nand nor slots time load fitted member note f e =
    ap (kept_called area counts nand nor) (append_told_kept_lem (world nand nor (state_in area)) slots time load fitted member note (counts_in counts) f e)

-- ---- a refusal leaves the areas as they were

called_keeps : (x : Lent) (o : Outcome) → ((o.number ≡ 0 → ⊥) → o.world ≡ world_in x)
    → let l = called x.state x.nand x.nor o in (l.number ≡ 0 → ⊥) → lent l.state l.nand l.nor ≡ x
unfolding called leaves
called_keeps x o keeps = go (eqb (length x.state) 783)
  where
    new : Left
    new = left o.number (cond (eqb o.number 0) (new_bytes o.world) x.state) o.world.nand o.world.nor

    go : (t : Bool) → let l = cond t new (left 20 x.state x.nand x.nor) in (l.number ≡ 0 → ⊥) → lent l.state l.nand l.nor ≡ x
    go true f = rw (kept_old o.number (new_bytes o.world) x.state f, keeps f)
    go false f = refl

pub append_in_keeps : (slots : ℕ) (x : Lent) (r : Told) → ((append_in slots x r).number ≡ 0 → ⊥) → lent_after slots x r ≡ x
unfolding append_called
append_in_keeps slots x r f = called_keeps x _ (append_keeps (world_in x) slots r.time r.load (note_of r.member)) f

kept_called_keeps : (x : LentKept) (o : Counted) → ((o.number ≡ 0 → ⊥) → store_of o ≡ store_in x)
    → let l = kept_called x.state x.counts x.nand x.nor o in (l.number ≡ 0 → ⊥) → lent_kept l.state l.counts l.nand l.nor ≡ x
unfolding kept_called in_lengths
kept_called_keeps x o keeps = go (eqb (length x.state) 783 && eqb (length x.counts) 88)
  where
    new : LeftKept
    new =
        left_kept o.number (cond (eqb o.number 0) (new_bytes o.world) x.state)
        (cond (eqb o.number 0) (counts_bytes o.counts) x.counts) o.world.nand o.world.nor

    go : (t : Bool) → let l = cond t new (left_kept 20 x.state x.counts x.nand x.nor) in (l.number ≡ 0 → ⊥)
        → lent_kept l.state l.counts l.nand l.nor ≡ x
    go true f =
        let w : o.world ≡ (store_in x).world = ap (λ (s : Store). s.world) (keeps f) in
        rw (kept_old o.number (new_bytes o.world) x.state f, kept_old o.number (counts_bytes o.counts) x.counts f, w)
    go false f = refl

pub append_kept_in_keeps : (slots : ℕ) (x : LentKept) (r : Told) → ((append_kept_in slots x r).number ≡ 0 → ⊥) → kept_after slots x r ≡ x
unfolding append_kept_called
append_kept_in_keeps slots x r f = kept_called_keeps x _ (kept_append_keeps (store_in x) slots r.time r.load (note_of r.member)) f

-- What an import needs of an append: two loads past their limits are refused alike, and a refusal leaves all as it was. Assumes nothing.
use mathlib.Core.Path.{◌≡◌, refl, sym, ap, ◌∙◌}
use mathlib.Core.Bool.{Bool, true, false, not}
use mathlib.Core.Option.{Option}
use mathlib.Core.List.{List}
use Prim.Native.Nat.{ℕ, ◌≤◌}
use native.Mathlib.Omega.{arith}
use lib.IntN.{ℤ, pos, negsuc}
use lib.ListN.{length, replicate}
use mir.Syntax.{w32}
use mir.Val.{SFits}
use borrow.Author.Tests.{ne_eqb, leb-true}
use Rattle.codec.specs.Area.{splice, repeated}
use Rattle.codec.specs.Number.{bytes}
use Rattle.codec.proofs.Truth.{and_parts}
use Rattle.lift.specs.Limits.{time_ok, load_ok}
use Rattle.bounds.specs.Grounds.{ground, nand_bad, nor_bad, lift_ground}
use Rattle.bounds.proofs.TriedFirst.{sooner_none}
use Rattle.counts.specs.Counts.{counts_broken}
use Rattle.store.specs.Bounds.{within_bounds}
use Rattle.store.specs.World.{World}
use Rattle.store.specs.Calls.{Outcome, append_ground, append_outcome}
use Rattle.keeping.specs.Keeping.{Store, with_ground, is_lost, keeping, counts_appended, append_kept}
use Rattle.keeping.proofs.Numbers.{with_later}
use Rattle.import.specs.Call.{note_of, store_of}

-- grounds 1 to 5, the fifth of which holds
abbrev first_five : Bool → Bool → Bool → Bool → ℕ
first_five a b c d = ground 1 a (ground 2 b (ground 3 c (ground 4 d 5)))

five_some : (a b c d : Bool) → (first_five a b c d ≡ 0 → ⊥) × (first_five a b c d ≤ 10)
five_some true b c d = (λ e. absurd (omega arith), omega arith)
five_some false true c d = (λ e. absurd (omega arith), omega arith)
five_some false false true d = (λ e. absurd (omega arith), omega arith)
five_some false false false true = (λ e. absurd (omega arith), omega arith)
five_some false false false false = (λ e. absurd (omega arith), omega arith)

module _ (w : World) (slots time : ℕ) where
  abbrev refused : ℕ
  refused =
      first_five (nand_bad (length w.nand) slots) (nor_bad (length w.nor)) (not (within_bounds w.form w.state w.live slots))
      (not (time_ok time))

  refused_some : (refused ≡ 0 → ⊥) × (refused ≤ 10)
  refused_some =
      five_some (nand_bad (length w.nand) slots) (nor_bad (length w.nor)) (not (within_bounds w.form w.state w.live slots))
      (not (time_ok time))

  ground_past : (load : ℤ) → load_ok load ≡ false → append_ground w slots time load ≡ refused
  unfolding append_ground lift_ground
  ground_past load h = rw h

  append_past : (load : ℤ) (note : List ℕ) → load_ok load ≡ false
      → ◌≡◌ {A = Outcome} (append_outcome w slots time load note) (record { number = refused; world = w })
  unfolding append_outcome
  append_past load note h = rw (ground_past load h, ne_eqb refused 0 refused_some.0)

  pub past_load : (a b : ℤ) (note : List ℕ) → load_ok a ≡ false → load_ok b ≡ false
      → append_outcome w slots time a note ≡ append_outcome w slots time b note
  past_load a b note ha hb = append_past a note ha ∙ sym (append_past b note hb)

  -- the same where counts are kept
  kept_past : (o : Option (List ℕ)) (counts : List ℕ)
      → keeping w counts (record { number = refused; world = w }) o
      ≡ record { number = with_ground 3 (counts_broken counts) refused; world = w; counts = counts }
  unfolding keeping
  kept_past o counts =
      rw (
        with_later 10 refused (is_lost o) refused_some.0 refused_some.1,
        ne_eqb (with_ground 3 (counts_broken counts) refused) 0 (λ e. refused_some.0 (sooner_none (ground 3 (counts_broken counts) 0) refused e).1),
      )

  pub past_load_kept : (a b : ℤ) (note counts : List ℕ) → load_ok a ≡ false → load_ok b ≡ false
      → append_kept w slots time a note counts ≡ append_kept w slots time b note counts
  unfolding append_kept
  past_load_kept a b note counts ha hb =
      ap (λ (o : Outcome). keeping w counts o (counts_appended w slots a counts)) (append_past a note ha)
      ∙ kept_past (counts_appended w slots a counts) counts
      ∙ sym (ap (λ (o : Outcome). keeping w counts o (counts_appended w slots b counts)) (append_past b note hb)
      ∙ kept_past (counts_appended w slots b counts) counts)

-- ---- a refused append leaves all as it was

pub append_keeps : (w : World) (slots time : ℕ) (load : ℤ) (note : List ℕ) → ((append_outcome w slots time load note).number ≡ 0 → ⊥)
    → (append_outcome w slots time load note).world ≡ w
unfolding append_outcome
append_keeps w slots time load note f = rw (ne_eqb (append_ground w slots time load) 0 f)

keeping_keeps : (w : World) (counts : List ℕ) (o : Outcome) (next : Option (List ℕ)) → ((keeping w counts o next).number ≡ 0 → ⊥)
    → ((keeping w counts o next).world ≡ w) × ((keeping w counts o next).counts ≡ counts)
unfolding keeping
keeping_keeps w counts o next f =
    let n = ne_eqb (with_ground 3 (counts_broken counts) (with_ground 10 (is_lost next) o.number)) 0 f in
    (rw n, rw n)

pub kept_append_keeps : (s : Store) (slots time : ℕ) (load : ℤ) (note : List ℕ) → ((append_kept s.world slots time load note s.counts).number ≡ 0 → ⊥)
    → store_of (append_kept s.world slots time load note s.counts) ≡ s
unfolding append_kept
kept_append_keeps s slots time load note f =
    let k = keeping_keeps s.world s.counts (append_outcome s.world slots time load note) (counts_appended s.world slots load s.counts) f in
    rw (k.0, k.1)

-- ---- a load as an append takes it

-- by what `fitted` says of it
pub fitted_load : {A : Type 0} (f : ℤ → A) (a b : ℤ) → (load_ok a ≡ true → b ≡ a) → (load_ok a ≡ false → load_ok b ≡ false)
    → (load_ok a ≡ false → load_ok b ≡ false → f b ≡ f a) → f b ≡ f a
fitted_load f a b within past same = go (load_ok a) refl
  where
    go : (t : Bool) → load_ok a ≡ t → f b ≡ f a
    go true e = ap f (within e)
    go false e = same e (past e)

-- an append by a load and a note so made
pub append_told_lem : (w : World) (slots time : ℕ) (load fitted : ℤ) (member : ℕ) (note : List ℕ)
    → (load_ok load ≡ true → fitted ≡ load) × (load_ok load ≡ false → load_ok fitted ≡ false) → note ≡ note_of member
    → append_outcome w slots time fitted note ≡ append_outcome w slots time load (note_of member)
append_told_lem w slots time load fitted member note f e =
    ap (append_outcome w slots time fitted) e
    ∙ fitted_load (λ (z : ℤ). append_outcome w slots time z (note_of member)) load fitted f.0 f.1 (λ p q. past_load w slots time fitted load _ q p)

pub append_told_kept_lem : (w : World) (slots time : ℕ) (load fitted : ℤ) (member : ℕ) (note counts : List ℕ)
    → (load_ok load ≡ true → fitted ≡ load) × (load_ok load ≡ false → load_ok fitted ≡ false) → note ≡ note_of member
    → append_kept w slots time fitted note counts ≡ append_kept w slots time load (note_of member) counts
append_told_kept_lem w slots time load fitted member note counts f e =
    ap (λ (n : List ℕ). append_kept w slots time fitted n counts) e
    ∙ fitted_load (λ (z : ℤ). append_kept w slots time z (note_of member) counts) load fitted f.0 f.1
    (λ p q. past_load_kept w slots time fitted load _ counts q p)

-- a load within its limits fits 32 bits
pub load_fits : (z : ℤ) → load_ok z ≡ true → SFits w32 z
load_fits (pos n) h = let l = leb-true n 100000 h in record { sfits = omega arith }
load_fits (negsuc n) h = let l = leb-true n 49999 (and_parts _ true h).0 in record { sfits = omega arith }

-- ---- the note of a member

pub note_made : (member : ℕ) → splice (replicate 20 0) 0 (bytes 4 member) ≡ note_of member
unfolding splice bytes note_of repeated
note_made member = refl

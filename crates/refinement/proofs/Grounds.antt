-- The numbers of the calls that write, on a history's world, are the paper log's. Assumes nothing.
use mathlib.Core.Path.{◌≡◌, refl, ◌∙◌}
use mathlib.Core.Bool.{Bool, true, false, not, ◌||◌}
use mathlib.Core.List.{List, [], ◌∷◌}
use Prim.Native.Nat.{ℕ, zero, suc, ◌+◌, ◌*◌, ◌≤◌, ◌<◌}
use native.Mathlib.Decide.{ℕ_discrete}
use native.Mathlib.Omega.{arith}
use lib.Dec.{eqb, leb, ltb}
use lib.ListN.{length}
use borrow.Author.Tests.{eqb-true, eq-eqb, ne_eqb, le-ltb, ltb-false, leb-false}
use Rattle.form.specs.declared.Form.{Form}
use Rattle.bounds.specs.Grounds as B
use Rattle.bounds.specs.Grounds.{nand_bad}
use Rattle.flash.specs.Chip.{slot_of}
use Rattle.lift.specs.Limits.{time_ok, load_ok}
use Rattle.segment.specs.Pages.{close_erased}
use Rattle.store.specs.Calls.{state_ground, close_ground, drop_ground, append_ground, drop_damage, plan_of, room_world, append_damage, append_unerased}
use Rattle.paper_log.specs.Log.{Lift, open_serial}
use Rattle.paper_log.specs.Calls as Paper
use Rattle.refinement.specs.Inner.Segments as S
use Rattle.refinement.specs.Inner.Image.{History, nand_image, state_image, image}
use Rattle.refinement.proofs.Good.{GoodLift, Good}
use Rattle.refinement.proofs.Lengths.{length_nor}
use Rattle.refinement.proofs.PageLengths.{length_nand}
use Rattle.refinement.proofs.InBounds.{in_bounds}
use Rattle.refinement.proofs.Drop.{history, no_damage}
use Rattle.refinement.proofs.Append.{close_erased_lem, append_undamaged, append_erased}

-- ---- grounds 1 to 3

-- another S is refused
other_bad : (s k : ℕ) → 2 ≤ s → s ≤ 4096 → (k ≡ s → ⊥) → nand_bad (s * 16384) k ≡ true
other_bad s k a b f = rw (ne_eqb (s * 16384) (k * 16384) (λ e. f (omega arith))) (last (ltb k 2) (ltb 4096 k))
  where
    last : (a b : Bool) → (a || (b || true)) ≡ true
    last true b = refl
    last false true = refl
    last false false = refl

pub own_good : (s : ℕ) → 2 ≤ s → s ≤ 4096 → nand_bad (s * 16384) s ≡ false
own_good s a b = rw (le-ltb s 2 a, le-ltb 4096 s b, eq-eqb (s * 16384) (s * 16384) refl)

pub state_passes : (h : History) → Good h → (k rest : ℕ) → state_ground (image h) k rest ≡ Paper.ground 1 (not (eqb k h.log.slots)) rest
unfolding image
state_passes h g k rest = go (ℕ_discrete k h.log.slots)
  where
    go : Dec (k ≡ h.log.slots) → state_ground (image h) k rest ≡ Paper.ground 1 (not (eqb k h.log.slots)) rest
    go (yes e) =
        rw (e, length_nand h g, own_good h.log.slots g.least g.most, length_nor h.log.current g.segment.few, in_bounds h g, eq-eqb h.log.slots h.log.slots refl)
    go (no f) = rw (length_nand h g, other_bad h.log.slots k g.least g.most f, ne_eqb k h.log.slots f)

-- what is asked only where S is right
same_s : (k s a b : ℕ) → (k ≡ s → a ≡ b) → Paper.ground 1 (not (eqb k s)) a ≡ Paper.ground 1 (not (eqb k s)) b
same_s k s a b f = go (eqb k s) refl
  where
    go : (t : Bool) → eqb k s ≡ t → Paper.ground 1 (not t) a ≡ Paper.ground 1 (not t) b
    go true e = f (eqb-true k s e)
    go false e = refl

-- ---- close

close_rest : (count : ℕ) (erased : Bool) → (0 < count → erased ≡ true)
    → Paper.ground 9 (eqb count 0) (Paper.ground 11 (not erased) 0) ≡ Paper.ground 9 (eqb count 0) 0
close_rest zero erased f = refl
close_rest (suc n) erased f = rw (f (omega arith))

pub close_number : (h : History) → Good h → (k : ℕ) → close_ground (image h) k ≡ Paper.number_of h.log (Paper.close k)
unfolding close_ground Paper.number_of image state_image
close_number h g k =
    state_passes h g k _ ∙ same_s k h.log.slots _ _ (λ e.
    close_rest (length h.log.current)
    (close_erased (nand_image h) (slot_of (open_serial h.log) k) (length h.log.current) (S.bucket_count h.log.current)) (λ q. rw e (close_erased_lem h g q)))

-- ---- drop

drop_rest : (h : History) → Good h
    → Paper.ground 9 (eqb h.log.oldest (open_serial h.log)) (Paper.ground 10 (drop_damage (image h) h.log.slots) 0)
    ≡ Paper.ground 9 (eqb (length h.log.closed) 0) 0
drop_rest h g = go h.log.form h.log.slots h.log.oldest h.log.closed h.log.current h.log.next h.gone g
  where
    go : (v : Form) (slots oldest : ℕ) (closed : List (List Lift)) (current : List Lift) (next : ℕ) (gone : List ℕ) → Good (history v slots oldest closed current next gone)
        → Paper.ground 9 (eqb oldest (oldest + length closed)) (Paper.ground 10 (drop_damage (image (history v slots oldest closed current next gone)) slots) 0)
        ≡ Paper.ground 9 (eqb (length closed) 0) 0
    go v slots oldest [] current next gone g = let e : oldest ≡ oldest + 0 = omega arith in rw (eq-eqb oldest (oldest + 0) e)
    go v slots oldest (ms ∷ rest) current next gone g =
        rw (
          ne_eqb oldest (oldest + suc (length rest)) (λ z. omega arith),
          no_damage v slots oldest ms rest current next gone g,
          ne_eqb (suc (length rest)) 0 (λ z. omega arith),
        )

pub drop_number : (h : History) → Good h → (k : ℕ) → drop_ground (image h) k ≡ Paper.number_of h.log (Paper.drop k)
unfolding drop_ground Paper.number_of image state_image
drop_number h g k = state_passes h g k _ ∙ same_s k h.log.slots _ _ (λ e. rw e (drop_rest h g))

-- ---- append

passed : (b : Bool) → not b ≡ false → b ≡ true
passed true e = refl
passed false e = cc

append_rest : (a b c d x y : Bool) → (a ≡ false → b ≡ false → c ≡ false → d ≡ false → (x ≡ false) × (y ≡ false))
    → Paper.ground 4 a (Paper.ground 5 b (Paper.ground 7 c (Paper.ground 8 d (Paper.ground 10 x (Paper.ground 11 y 0)))))
    ≡ Paper.ground 4 a (Paper.ground 5 b (Paper.ground 7 c (Paper.ground 8 d 0)))
append_rest true b c d x y f = refl
append_rest false true c d x y f = refl
append_rest false false true d x y f = refl
append_rest false false false true x y f = refl
append_rest false false false false x y f = let p = f refl refl refl refl in rw (p.0, p.1)

-- grounds 10 and 11 never hold
lifted : (h : History) (g : Good h) (l : Lift) → (load_ok l.load ≡ true → time_ok l.time ≡ true → GoodLift l)
    → B.lift_ground l.time l.load (image h).state.next (image h).state.current
    (B.ground 10 (append_damage (room_world (image h) h.log.slots (plan_of (image h) l.load)) h.log.slots l.load (plan_of (image h) l.load))
    (B.ground 11 (append_unerased (image h) (room_world (image h) h.log.slots (plan_of (image h) l.load)) h.log.slots (plan_of (image h) l.load)) 0))
    ≡ Paper.ground 4 (not (time_ok l.time)) (Paper.ground 5 (not (load_ok l.load)) (Paper.ground 7 (ltb l.time h.log.next) (Paper.ground 8 (leb 999999998 (open_serial h.log)) 0)))
unfolding image state_image B.lift_ground
lifted h g l gl = append_rest _ _ _ _ _ _ (λ a b c d.
    let lift = gl (passed _ b) (passed _ a) in
    let later = ltb-false l.time h.log.next c in
    let early = leb-false 999999998 (open_serial h.log) d in
    (append_undamaged h g l lift later early, append_erased h g l lift later early))

pub append_number : (h : History) → Good h → (k : ℕ) (l : Lift) → (load_ok l.load ≡ true → time_ok l.time ≡ true → GoodLift l)
    → append_ground (image h) k l.time l.load ≡ Paper.number_of h.log (Paper.append k l)
unfolding append_ground Paper.number_of
append_number h g k l gl = state_passes h g k _ ∙ same_s k h.log.slots _ _ (λ e. rw e (lifted h g l gl))

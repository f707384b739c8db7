-- An append on a history's world: no damage is met, no page due is programmed twice, and what is left is the world of the history that the
-- paper log's append makes. Assumes nothing.
use mathlib.Core.Path.{◌≡◌, refl, sym, ap, subst, ◌∙◌}
use mathlib.Core.Bool.{Bool, true, false, cond, not, ◌&&◌, ◌||◌}
use mathlib.Core.List.{List, [], ◌∷◌}
use Prim.Native.Nat.{ℕ, zero, suc, ◌+◌, ◌-◌, ◌*◌, ◌/◌, ◌%◌, ◌≤◌, ◌<◌}
use native.Mathlib.Decide.{dec_lt}
use native.Mathlib.Omega.{arith}
use lib.Dec.{eqb, leb}
use lib.IntN.{ℤ}
use lib.ListN.{length, length-append}
use borrow.Author.Tests.{eqb-true, eqb-false, ne_eqb, leb-true, leb-false, lt-leb, le-ltb}
use Rattle.form.specs.declared.Form.{Form}
use Rattle.codec.specs.Area.{part, repeated, all_ones}
use Rattle.codec.proofs.Areas.{part_append_right, part_repeated, ones_repeated, length_repeated}
use Rattle.codec.proofs.Truth.{and_both, and_right, or_parts, or_second}
use Rattle.flash.specs.Chip.{slot_of, page_erased}
use Rattle.lift.specs.Limits.{stored}
use Rattle.segment.specs.Pages.{page_due, pages_erased, close_erased}
use Rattle.segment.proofs.Tests.{due_lifts}
use Rattle.tree.specs.Rules.{needs_bucket36}
use Rattle.tree.specs.Plan.{Plan, damaged, no_room, new_root, into_bucket, new_child, split_bucket, is_damaged, is_no_room}
use Rattle.tree.proofs.Built.{first_fits}
use Rattle.store.specs.World.{World, drop_world, put_world, fills_page}
use Rattle.store.specs.Calls.{drop_damage, plan_of, room_world, drops_first, nor_clear, append_damage, append_unerased, append_world}
use Rattle.paper_log.specs.Log.{Lift, Log, open_serial, codes, is_full, close_log, drop_log, put_log, room_log, shed_log, append_log}
use Rattle.refinement.specs.Inner.Segments as S
use Rattle.refinement.specs.Inner.Image.{History, oldest_heads, nand_image, state_image, image}
use Rattle.refinement.proofs.Good.{GoodLift, Good}
use Rattle.refinement.proofs.Lengths.{length_codes, length_sections}
use Rattle.flash.proofs.Slots.{slot_below}
use Rattle.refinement.proofs.PageLengths.{page_of_nand, length_area}
use Rattle.refinement.proofs.PageFrom.{page_open}
use Rattle.refinement.proofs.Close.{close_history, good_close, close_world_lem}
use Rattle.refinement.proofs.Drop.{history, drop_history, good_drop_some, no_damage, drop_world_some}
use Rattle.refinement.proofs.Put.{put_history, Takes, good_put, put_world_lem}
use Rattle.refinement.proofs.Entry.{Enters, plan_in, sections_of, room_is, sound_is, enters, full_plan, enters_first}

-- ---- the steps of an append on histories

abbrev pub room_history : History → ℤ → History
room_history h load = cond (is_full h.log.current load) (close_history h) h

abbrev pub shed_history : History → History
shed_history h = cond (leb h.log.slots (length h.log.closed)) (drop_history h) h

abbrev pub append_history : History → Lift → History
append_history h l = put_history (shed_history (room_history h l.load)) l

-- their logs are the paper log's
pub append_log_lem : (h : History) (l : Lift) → (append_history h l).log ≡ append_log h.log l
unfolding append_log room_log shed_log
append_log_lem h l = ap (λ (g : Log). put_log g l) (shed (room_history h l.load) ∙ ap shed_log (room (is_full h.log.current l.load)))
  where
    room : (t : Bool) → (cond t (close_history h) h).log ≡ cond t (close_log h.log) h.log
    room true = refl
    room false = refl

    either : (t : Bool) (k : History) → (cond t (drop_history k) k).log ≡ cond t (drop_log k.log) k.log
    either true k = refl
    either false k = refl

    shed : (k : History) → (shed_history k).log ≡ shed_log k.log
    shed k = either (leb k.log.slots (length k.log.closed)) k

-- ---- the plan

module _ (h : History) (g : Good h) (l : Lift) (gl : GoodLift l) where
  abbrev ls : List Lift
  ls = h.log.current

  pub plan_is : plan_of (image h) l.load ≡ plan_in ls l.load
  unfolding image state_image
  plan_is = refl

  -- it closes the segment exactly where the paper log does
  pub full_is : is_no_room (plan_in ls l.load) ≡ is_full ls l.load
  unfolding is_full
  full_is = go (eqb (length ls) 320) refl
    where
      go : (t : Bool) → eqb (length ls) 320 ≡ t → is_no_room (plan_in ls l.load) ≡ (t || needs_bucket36 (codes ls) (stored l.load))
      go true e = ap is_no_room (full_plan ls l.load (eqb-true (length ls) 320 e))
      go false e = room_is ls g.segment l gl (omega (arith, g.segment.few, eqb-false (length ls) 320 e))

  pub sound_plan : is_damaged (plan_in ls l.load) ≡ false
  sound_plan = go (eqb (length ls) 320) refl
    where
      go : (t : Bool) → eqb (length ls) 320 ≡ t → is_damaged (plan_in ls l.load) ≡ false
      go true e = ap is_damaged (full_plan ls l.load (eqb-true (length ls) 320 e))
      go false e = sound_is ls g.segment l gl (omega (arith, g.segment.few, eqb-false (length ls) 320 e))

-- a segment that closes has a lift
pub some_lift : (ls : List Lift) (load : ℤ) → is_full ls load ≡ true → 0 < length ls
unfolding is_full
some_lift [] load e =
    let z : ◌≡◌ {A = Bool} true false = sym e ∙ first_fits (stored load) in
    let o : ◌≡◌ {A = ℕ} 0 1 = cc in
    omega arith
some_lift (l ∷ ls) load e = omega arith

no_room_is : (p : Plan) → is_no_room p ≡ true → p ≡ no_room
no_room_is no_room e = refl
no_room_is damaged e = cc
no_room_is new_root e = cc
no_room_is (into_bucket b i) e = cc
no_room_is (new_child b s x y) e = cc
no_room_is (split_bucket b m s x y) e = cc

-- ---- room for the lift

-- the history r has room for the lift, and the plan p enters it there
pub record Roomy (h : History) (l : Lift) (p : Plan) (r : History) : Type 0 where
  pub good : Good r
  pub world : room_world (image h) h.log.slots p ≡ image r
  pub enters : Enters r.log.current l p
  pub room : length r.log.current < 320
  pub serial : open_serial r.log ≤ open_serial h.log + 1
  pub slots : r.log.slots ≡ h.log.slots
  pub next : r.log.next ≡ h.log.next

-- the segment closes first
roomy_closed : (h : History) (g : Good h) (l : Lift) (gl : GoodLift l) (p : Plan) → is_no_room p ≡ true → 0 < length h.log.current
    → Roomy h l p (close_history h)
unfolding room_world close_log
roomy_closed h g l gl p e busy =
    let n = length-append h.log.closed (h.log.current ∷ []) in
    record {
      good = good_close h g busy;
      world = rw e (close_world_lem h g busy);
      enters = rw (no_room_is p e) (enters_first l gl);
      room = omega arith;
      serial = omega arith;
      slots = refl;
      next = refl;
    }

-- there is room
roomy_open : (h : History) (g : Good h) (l : Lift) (gl : GoodLift l) → is_full h.log.current l.load ≡ false
    → Roomy h l (plan_in h.log.current l.load) h
unfolding room_world is_full
roomy_open h g l gl e =
    let o = or_parts (eqb (length h.log.current) 320) (needs_bucket36 (codes h.log.current) (stored l.load)) e in
    let few : length h.log.current < 320 = omega (arith, g.segment.few, eqb-false (length h.log.current) 320 o.0) in
    record {
      good = g;
      world = rw (full_is h g l gl ∙ e);
      enters = enters h.log.current g.segment l gl few o.1;
      room = few;
      serial = omega arith;
      slots = refl;
      next = refl;
    }

pub roomy : (h : History) (g : Good h) (l : Lift) (gl : GoodLift l) → Roomy h l (plan_in h.log.current l.load) (room_history h l.load)
roomy h g l gl = go (is_full h.log.current l.load) refl
  where
    go : (t : Bool) → is_full h.log.current l.load ≡ t → Roomy h l (plan_in h.log.current l.load) (cond t (close_history h) h)
    go true e = roomy_closed h g l gl (plan_in h.log.current l.load) (full_is h g l gl ∙ e) (some_lift h.log.current l.load e)
    go false e = roomy_open h g l gl e

-- ---- the drop that a first lift forces

-- the history s has a slot for the open serial
pub record Shed (r : History) (s : History) : Type 0 where
  pub good : Good s
  pub world : cond (drops_first (image r).state r.log.slots) (drop_world (image r) r.log.slots) (image r) ≡ image s
  pub undamaged : (drops_first (image r).state r.log.slots && drop_damage (image r) r.log.slots) ≡ false
  pub current : s.log.current ≡ r.log.current
  pub slot : length s.log.closed < s.log.slots
  pub serial : open_serial s.log ≡ open_serial r.log
  pub slots : s.log.slots ≡ r.log.slots
  pub next : s.log.next ≡ r.log.next

-- a drop is forced exactly where S closed serials are held
pub drops_is : (r : History) → Good r → drops_first (image r).state r.log.slots ≡ leb r.log.slots (length r.log.closed)
unfolding image state_image
drops_is r g =
    let d : open_serial r.log - r.log.oldest ≡ length r.log.closed = omega arith in
    rw d (go (length r.log.current) g.busy)
  where
    go : (n : ℕ) → (0 < n → length r.log.closed < r.log.slots)
        → (eqb n 0 && leb r.log.slots (length r.log.closed)) ≡ leb r.log.slots (length r.log.closed)
    go zero f = refl
    go (suc n) f = rw (ne_eqb (suc n) 0 (λ z. omega arith), lt-leb r.log.slots (length r.log.closed) (f (omega arith)))

shed_some : (v : Form) (slots oldest : ℕ) (closed : List (List Lift)) (current : List Lift) (next : ℕ) (gone : List ℕ)
    → (g : Good (history v slots oldest closed current next gone)) → drops_first (image (history v slots oldest closed current next gone)).state slots ≡ true
    → slots ≤ length closed → Shed (history v slots oldest closed current next gone) (drop_history (history v slots oldest closed current next gone))
unfolding drop_log
shed_some v slots oldest [] current next gone g d h = absurd (omega (arith, g.least))
shed_some v slots oldest (ms ∷ rest) current next gone g d h = record {
  good = good_drop_some v slots oldest ms rest current next gone g;
  world = rw d (drop_world_some v slots oldest ms rest current next gone g);
  undamaged = rw d (no_damage v slots oldest ms rest current next gone g);
  current = refl;
  slot = omega (arith, g.room);
  serial = omega arith;
  slots = refl;
  next = refl;
}

pub shed : (r : History) (g : Good r) → Shed r (shed_history r)
shed r g = go (leb r.log.slots (length r.log.closed)) refl
  where
    go : (t : Bool) → leb r.log.slots (length r.log.closed) ≡ t → Shed r (cond t (drop_history r) r)
    go true e = shed_some r.log.form r.log.slots r.log.oldest r.log.closed r.log.current r.log.next r.gone g (drops_is r g ∙ e) (leb-true _ _ e)
    go false e =
        let d = drops_is r g ∙ e in
        record {
          good = g;
          world = rw d;
          undamaged = rw d;
          current = refl;
          slot = leb-false _ _ e;
          serial = refl;
          slots = refl;
          next = refl;
        }

-- ---- no damage

-- NOR bytes due for writing are 255
clear_is : (r : History) (l : Lift) (p : Plan) → Enters r.log.current l p → length r.log.current < 320 → nor_clear (image r) l.load p ≡ true
unfolding nor_clear image state_image S.nor_of
clear_is r l p e few =
    rw e.clear
    (or_second (not (eqb (length ls % 64) 63)) (all_ones (part (S.nor_of ls) (4608 + length ls / 64 * 128) 128)) (ap all_ones free ∙ ones_repeated 128))
  where
    ls : List Lift
    ls = r.log.current

    w : List ℕ
    w = S.whole_sections (codes ls)

    long : length w ≡ length ls / 64 * 128
    long = length_sections (codes ls) ∙ ap (λ (n : ℕ). n / 64 * 128) (length_codes ls)

    free : part (S.nor_of ls) (4608 + length ls / 64 * 128) 128 ≡ repeated 128 255
    free =
        part_append_right (S.tree_area ls) (sections_of ls) (length ls / 64 * 128) (4608 + length ls / 64 * 128) 128 (omega (arith, length_area ls)) (room)
        ∙ part_append_right w (repeated (1536 - length w) 255) 0 (length ls / 64 * 128) 128 (omega (arith, long)) (omega (arith, long, few, length_repeated (1536 - length w) 255))
        ∙ part_repeated (1536 - length w) 255 0 128 (omega (arith, long, few))
      where
        room : length ls / 64 * 128 + 128 ≤ length (sections_of ls)
        room = omega (arith, long, few, length-append w (repeated (1536 - length w) 255), length_repeated (1536 - length w) 255)

damage_none : (r : World) (slots : ℕ) (load : ℤ) (p : Plan) → is_damaged p ≡ false → (drops_first r.state slots && drop_damage r slots) ≡ false → nor_clear r load p ≡ true
    → append_damage r slots load p ≡ false
unfolding append_damage
damage_none r slots load p a b c = rw (a, b, c)

-- ---- pages due are erased

due_erased : (n q : ℕ) (nand : List ℕ) (slot count buckets : ℕ) → ((p : ℕ) → q ≤ p → p < q + n → page_due count buckets p ≡ true → page_erased nand slot p ≡ true)
    → pages_erased n q nand slot count buckets ≡ true
unfolding pages_erased
due_erased zero q nand slot count buckets f = refl
due_erased (suc n) q nand slot count buckets f =
    and_both _ _ (ready (page_due count buckets q) (f q (omega arith) (omega arith)))
    (due_erased n (suc q) nand slot count buckets (λ p a b e. f p (omega arith) (omega arith) e))
  where
    ready : (t : Bool) → (t ≡ true → page_erased nand slot q ≡ true) → (not t || page_erased nand slot q) ≡ true
    ready true g = g refl
    ready false g = refl

-- the page that a lift is the last of, and every page behind it, is erased
open_erased : (r : History) → Good r → length r.log.closed < r.log.slots → (p : ℕ) → length r.log.current / 16 ≤ p → p < 32
    → page_erased (nand_image r) (slot_of (open_serial r.log) r.log.slots) p ≡ true
unfolding S.open_page
open_erased r g few p k m =
    ap all_ones (page_of_nand r g (slot_of (open_serial r.log) r.log.slots) p (slot_below r.log.slots (open_serial r.log) (omega (arith, g.least))) m
    ∙ page_open r.log.form r.log.slots r.log.oldest r.log.closed r.log.current (oldest_heads r) p (omega (arith, g.serial)) few
    ∙ rw (le-ltb p (length r.log.current / 16) k)) ∙ ones_repeated 512

-- a page that a close programs is not one of the full lift pages
due_behind : (count buckets p : ℕ) → count ≤ 320 → page_due count buckets p ≡ true → count / 16 ≤ p
due_behind count buckets p few e = go (dec_lt p 20)
  where
    go : Dec (p < 20) → count / 16 ≤ p
    go (yes l) =
        let q : p ≡ count / 16 = eqb-true p (count / 16) (and_right (not (eqb (count % 16) 0)) (eqb p (count / 16)) (due_lifts count buckets p l ∙ e)) in
        omega arith
    go (no l) = omega arith

pub close_erased_lem : (h : History) → Good h → 0 < length h.log.current
    → close_erased (nand_image h) (slot_of (open_serial h.log) h.log.slots) (length h.log.current) (S.bucket_count h.log.current) ≡ true
close_erased_lem h g some-lifts =
    due_erased 32 0 (nand_image h) _ _ _ (λ p a b e. open_erased h g (g.busy some-lifts) p (due_behind (length h.log.current) (S.bucket_count h.log.current) p g.segment.few e) b)

unerased_none : (w r : World) (slots : ℕ) (p : Plan)
    → (is_no_room p ≡ true → close_erased w.nand (slot_of w.state.current slots) w.state.count w.state.buckets ≡ true)
    → (fills_page r.state ≡ true → page_erased r.nand (slot_of r.state.current slots) (r.state.count / 16) ≡ true)
    → append_unerased w r slots p ≡ false
unfolding append_unerased
unerased_none w r slots p f k = go (is_no_room p) (fills_page r.state) f k
  where
    go : (a b : Bool) → (a ≡ true → close_erased w.nand (slot_of w.state.current slots) w.state.count w.state.buckets ≡ true)
        → (b ≡ true → page_erased r.nand (slot_of r.state.current slots) (r.state.count / 16) ≡ true)
        → ((a && not (close_erased w.nand (slot_of w.state.current slots) w.state.count w.state.buckets))
        || (b && not (page_erased r.nand (slot_of r.state.current slots) (r.state.count / 16)))) ≡ false
    go true true f k = rw (f refl, k refl)
    go true false f k = rw (f refl)
    go false true f k = rw (k refl)
    go false false f k = refl

-- ---- the append

module _ (h : History) (g : Good h) (l : Lift) (gl : GoodLift l) (later : h.log.next ≤ l.time) (early : open_serial h.log < 999999998) where
  abbrev plan : Plan
  plan = plan_in h.log.current l.load

  abbrev r : History
  r = room_history h l.load

  abbrev s : History
  s = shed_history r

  ry : Roomy h l plan r
  ry = roomy h g l gl

  sh : Shed r s
  sh = shed r ry.good

  pub entry : Enters s.log.current l plan
  entry = subst (λ (c : List Lift). Enters c l plan) (sym sh.current) ry.enters

  pub takes : Takes s l
  takes =
      let c = ap length sh.current in
      record {
        lift = gl;
        later = omega (arith, later, sh.next, ry.next);
        room = omega (arith, ry.room);
        slot = sh.slot;
        serial = omega (arith, early, sh.serial, ry.serial);
        tree = entry.tree;
        is = entry.is;
      }

  pub good_append : Good (append_history h l)
  good_append = good_put s l sh.good takes

  -- a drop if it is due, then the lift
  abbrev finish : Plan → World → ℕ → World
  finish q w k = put_world (cond (drops_first w.state k) (drop_world w k) w) k l.time l.load l.note q

  pub append_world_lem : append_world (image h) h.log.slots l.time l.load l.note ≡ image (append_history h l)
  unfolding append_world
  append_world_lem =
      ap (λ (q : Plan). finish q (room_world (image h) h.log.slots q) h.log.slots) (plan_is h g l gl)
      ∙ ap (λ (w : World). finish plan w h.log.slots) ry.world ∙ ap (finish plan (image r)) (sym ry.slots)
      ∙ ap (λ (w : World). put_world w r.log.slots l.time l.load l.note plan) sh.world
      ∙ ap (λ (k : ℕ). put_world (image s) k l.time l.load l.note plan) (sym sh.slots)
      ∙ put_world_lem s l sh.good takes plan entry.written entry.buckets

  pub append_undamaged : append_damage (room_world (image h) h.log.slots (plan_of (image h) l.load)) h.log.slots l.load (plan_of (image h) l.load) ≡ false
  append_undamaged =
      ap (λ (q : Plan). append_damage (room_world (image h) h.log.slots q) h.log.slots l.load q) (plan_is h g l gl)
      ∙ ap (λ (w : World). append_damage w h.log.slots l.load plan) ry.world
      ∙ ap (λ (k : ℕ). append_damage (image r) k l.load plan) (sym ry.slots)
      ∙ damage_none (image r) r.log.slots l.load plan (sound_plan h g l gl) sh.undamaged (clear_is r l plan ry.enters ry.room)

  erased_close : is_no_room plan ≡ true
      → close_erased (image h).nand (slot_of (image h).state.current r.log.slots) (image h).state.count (image h).state.buckets ≡ true
  unfolding image state_image
  erased_close e =
      subst (λ (k : ℕ). close_erased (nand_image h) (slot_of (open_serial h.log) k) (length h.log.current) (S.bucket_count h.log.current) ≡ true) (sym ry.slots)
      (close_erased_lem h g (some_lift h.log.current l.load (sym (full_is h g l gl) ∙ e)))

  erased_page_lem : fills_page (image r).state ≡ true
      → page_erased (image r).nand (slot_of (image r).state.current r.log.slots) ((image r).state.count / 16) ≡ true
  unfolding image state_image
  erased_page_lem e =
      let q : length r.log.current % 16 ≡ 15 = eqb-true (length r.log.current % 16) 15 e in
      open_erased r ry.good (ry.good.busy (omega arith)) (length r.log.current / 16) (omega arith) (omega (arith, ry.room))

  pub append_erased : append_unerased (image h) (room_world (image h) h.log.slots (plan_of (image h) l.load)) h.log.slots (plan_of (image h) l.load) ≡ false
  append_erased =
      ap (λ (q : Plan). append_unerased (image h) (room_world (image h) h.log.slots q) h.log.slots q) (plan_is h g l gl)
      ∙ ap (λ (w : World). append_unerased (image h) w h.log.slots plan) ry.world
      ∙ ap (λ (k : ℕ). append_unerased (image h) (image r) k plan) (sym ry.slots)
      ∙ unerased_none (image h) (image r) r.log.slots plan erased_close erased_page_lem

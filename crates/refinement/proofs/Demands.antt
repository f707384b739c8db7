-- The demands, over every list of calls after an accepted format, in either form, whatever the chips held before. The world after the
-- format is the image of the history that has begun, and each call leads from a good history's image to the next one's. Assumes nothing.
use mathlib.Core.Path.{◌≡◌, refl, sym, ap, ap₂, subst, ◌∙◌}
use mathlib.Core.Bool.{Bool, true, false, cond, not, ◌&&◌, ◌||◌}
use mathlib.Core.List.{List, [], ◌∷◌, map}
use Prim.Native.Nat.{ℕ, ◌*◌, ◌/◌, ◌≤◌}
use native.Mathlib.Omega.{arith}
use borrow.Author.Tests.{eq-eqb}
use lib.Dec.{eqb, leb, ltb}
use lib.ListN.{length, get_or}
use lib.IntN.{ℤ}
use lib.Signed.{lt_z}
use Rattle.form.specs.declared.Form.{Form}
use Rattle.lift.specs.Limits.{time_ok, load_ok}
use Rattle.plate.specs.Total.{total}
use Rattle.plate.specs.Plate.{count_at, counts_of, no_counts}
use Rattle.plate.proofs.Counts.{length_counts, count_place}
use Rattle.tally.specs.Answers.{TallyAnswer}
use Rattle.store.specs.World.{World}
use Rattle.store.specs.Calls.{Outcome, format_outcome}
use Rattle.questions.specs.Queries.{search_outcome, tally_outcome}
use Rattle.paper_log.specs.Log.{Lift, Log, begun, open_serial, codes, found, is_full, close_log, drop_log, room_log, shed_log, put_log, append_log}
use Rattle.paper_log.specs.Calls as Paper
use Rattle.refinement.specs.Inner.Image.{state_image, image}
use Rattle.refinement.specs.Run.{Request, append, close, drop, search, call_of, replies, run_after, expected, expected_all, AllTyped, NeverDamage}
use Rattle.refinement.specs.Rules.{header_pages_most, AllKept}
use Rattle.refinement.specs.ReadBack.{segments_in}
use Rattle.refinement.proofs.Good.{Good}
use Rattle.refinement.proofs.Begun.{begun_history, good_begun, format_world}
use Rattle.refinement.proofs.Reached.{Reached, reached}
use Rattle.refinement.proofs.AllCalls.{replies_are}
use Rattle.refinement.proofs.EachCall.{all_kept}
use Rattle.refinement.proofs.ReadBack.{segments_read_lem}
use Rattle.refinement.proofs.PagesReached as Pages
use Rattle.refinement.proofs.PagesReached.{headers_few}
use Rattle.refinement.proofs.TallyFound.{tally_is}
use Rattle.refinement.proofs.TallyHeld.{counts_held_lem}

-- ---- the paper log has no ground 10 and no ground 11

record Fair (n : ℕ) : Type 0 where
  is : (eqb n 10 || eqb n 11) ≡ false

fair_two : (a b : Bool) → Fair (Paper.ground 1 a (Paper.ground 9 b 0))
fair_two true b = record { is = refl }
fair_two false true = record { is = refl }
fair_two false false = record { is = refl }

fair_five : (m n : ℕ) → Fair m → Fair n → (a b c d e : Bool)
    → Fair (Paper.ground 1 a (Paper.ground 4 b (Paper.ground 5 c (Paper.ground m d (Paper.ground n e 0)))))
fair_five m n x y true b c d e = record { is = refl }
fair_five m n x y false true c d e = record { is = refl }
fair_five m n x y false false true d e = record { is = refl }
fair_five m n x y false false false true e = x
fair_five m n x y false false false false true = y
fair_five m n x y false false false false false = record { is = refl }

fair_number : (g : Log) (r : Request) → Fair (Paper.number_of g (call_of r))
unfolding Paper.number_of
fair_number g (append k time load note) =
    fair_five 7 8 (record { is = refl }) (record { is = refl }) (not (eqb k g.slots)) (not (time_ok time)) (not (load_ok load)) (ltb time g.next)
    (leb 999999998 (open_serial g))
fair_number g (close k) = fair_two (not (eqb k g.slots)) (eqb (length g.current) 0)
fair_number g (drop k) = fair_two (not (eqb k g.slots)) (eqb (length g.closed) 0)
fair_number g (search k t1 t2 k1 k2 area) =
    fair_five 6 12 (record { is = refl }) (record { is = refl }) (not (eqb k g.slots)) (not (time_ok t1 && time_ok t2)) (not (load_ok k1 && load_ok k2))
    (ltb t2 t1 || lt_z k2 k1) (ltb (length area / 32) (length (found g t1 t2 k1 k2)))

number_expected : (a : Paper.Answer) (r : Request) → (expected a r).number ≡ a.number
unfolding expected
number_expected a (append k time load note) = refl
number_expected a (close k) = refl
number_expected a (drop k) = refl
number_expected a (search k t1 t2 k1 k2 area) = refl

pub fair_all : (rs : List Request) (g : Log) → NeverDamage (expected_all (Paper.answers g (map call_of rs)) rs)
unfolding expected_all Paper.answers Paper.answered
fair_all [] g = tt
fair_all (r ∷ rs) g =
    ((subst Fair (sym (number_expected (Paper.answered g (call_of r)) r)) (fair_number g r)).is, fair_all rs (Paper.stepped g (call_of r)))

-- ---- S and the form stay

pub record Stays (before after : Log) : Type 0 where
  pub slots : after.slots ≡ before.slots
  pub form : after.form ≡ before.form

unchanged : {g : Log} → Stays g g
unchanged = record { slots = refl; form = refl }

then : {a b c : Log} → Stays a b → Stays b c → Stays a c
then p q = record { slots = q.slots ∙ p.slots; form = q.form ∙ p.form }

after_stays : (g : Log) (c : Paper.Call) → Stays g (Paper.after g c)
unfolding Paper.after append_log put_log shed_log room_log close_log drop_log
after_stays g (Paper.append k l) =
    let r : Log = room_log g l.load in
    let both = then (room (is_full g.current l.load)) (shed r (leb r.slots (length r.closed))) in
    record { slots = both.slots; form = both.form }
  where
    shed : (r : Log) (t : Bool) → Stays r (cond t (drop_log r) r)
    shed r true = record { slots = refl; form = refl }
    shed r false = unchanged

    room : (t : Bool) → Stays g (cond t (close_log g) g)
    room true = record { slots = refl; form = refl }
    room false = unchanged
after_stays g (Paper.close k) = record { slots = refl; form = refl }
after_stays g (Paper.drop k) = record { slots = refl; form = refl }
after_stays g (Paper.search k t1 t2 k1 k2 rows) = unchanged

pub log_stays : (cs : List Paper.Call) (g : Log) → Stays g (Paper.log_after g cs)
unfolding Paper.log_after Paper.stepped
log_stays [] g = unchanged
log_stays (c ∷ cs) g = then (go (eqb (Paper.number_of g c) 0)) (log_stays cs (Paper.stepped g c))
  where
    go : (t : Bool) → Stays g (cond t (Paper.after g c) g)
    go true = after_stays g c
    go false = unchanged

-- ---- the same for every store that was formatted

module _ (v : Form) (slots : ℕ) (least : 2 ≤ slots) (most : slots ≤ 4096) (nand nor : List ℕ) (nand_size : length nand ≡ slots * 16384) (nor_size : length nor ≡ 6144) where
  formatted : format_outcome v nand nor slots ≡ record { number = 0; world = image (begun_history v slots) }
  formatted = format_world v slots least most nand nor nand_size nor_size

  -- the format is accepted
  pub format_accepted : (format_outcome v nand nor slots).number ≡ 0
  format_accepted = ap (λ (o : Outcome). o.number) formatted

  world_begun : (format_outcome v nand nor slots).world ≡ image (begun_history v slots)
  world_begun = ap (λ (o : Outcome). o.world) formatted

  begun_good : Good (begun_history v slots)
  begun_good = good_begun v slots least most

  module _ (rs : List Request) (typed : AllTyped rs) where
    -- every call of the list answers as the paper log does
    pub store_is_paper_log : replies (format_outcome v nand nor slots).world rs ≡ expected_all (Paper.answers (begun v slots) (map call_of rs)) rs
    store_is_paper_log = ap (λ (w : World). replies w rs) world_begun ∙ replies_are rs (begun_history v slots) begun_good typed

    -- damage and unerased pages are never reported
    pub never_damage : NeverDamage (replies (format_outcome v nand nor slots).world rs)
    never_damage = subst NeverDamage (sym store_is_paper_log) (fair_all rs (begun v slots))

    -- what each call changes of the chips
    pub chips_kept : AllKept (format_outcome v nand nor slots).world (begun v slots) rs
    chips_kept = subst (λ (w : World). AllKept w (begun v slots) rs) (sym world_begun) (all_kept rs (begun_history v slots) begun_good typed)

    here : Reached (run_after (format_outcome v nand nor slots).world rs) (Paper.log_after (begun v slots) (map call_of rs))
    here =
        subst (λ (w : World). Reached (run_after w rs) (Paper.log_after (begun v slots) (map call_of rs))) (sym world_begun)
        (reached rs (begun_history v slots) begun_good typed)

    abbrev at_end : World
    at_end = run_after (format_outcome v nand nor slots).world rs

    abbrev log_end : Log
    log_end = Paper.log_after (begun v slots) (map call_of rs)

    same_slots : here.history.log.slots ≡ slots
    unfolding begun
    same_slots = ap (λ (l : Log). l.slots) here.log ∙ (log_stays (map call_of rs) (begun v slots)).slots

    -- the state's serials are the paper log's
    pub serials_kept : (at_end.state.oldest ≡ log_end.oldest) × (at_end.state.current ≡ open_serial log_end)
    unfolding image state_image
    serials_kept = (
      ap (λ (w : World). w.state.oldest) here.world ∙ ap (λ (l : Log). l.oldest) here.log,
      ap (λ (w : World). w.state.current) here.world ∙ ap open_serial here.log,
    )

    -- every retained closed segment reads back as the lifts that went in, in order
    pub segments_read_back : segments_in at_end slots ≡ log_end.closed
    segments_read_back =
        ap₂ {C = List (List Lift)} segments_in here.world (sym same_slots) ∙ segments_read_lem here.history here.good ∙ ap (λ (l : Log). l.closed) here.log

    -- a search loads few header pages on its way to the newest closed segment: "at most S/8 rounded up, plus 3"
    pub header_pages_few : (k t1 t2 : ℕ) (k1 k2 : ℤ) (area : List ℕ)
        → (search_outcome at_end k t1 t2 k1 k2 area).pages.headers ≤ header_pages_most slots
    header_pages_few k t1 t2 k1 k2 area =
        let same = same_slots in
        omega (
          arith,
          ap (λ (w : World). (search_outcome w k t1 t2 k1 k2 area).pages.headers) here.world,
          headers_few here.history here.good k t1 t2 k1 k2 area,
        )

    -- and goes through retained closed segments alone: at most two Bloom pages and nine tree pages for each
    pub pages_few : (k t1 t2 : ℕ) (k1 k2 : ℤ) (area : List ℕ) → ((search_outcome at_end k t1 t2 k1 k2 area).pages.bloom ≤ 2 * length log_end.closed)
        × ((search_outcome at_end k t1 t2 k1 k2 area).pages.tree ≤ 9 * length log_end.closed)
    pages_few k t1 t2 k1 k2 area = rw (here.world, ← here.log) (Pages.pages_few here.history here.good k t1 t2 k1 k2 area)

    -- a tally counts, by plate, what the paper log's search over all loads finds
    pub tally_counts : (k t1 t2 : ℕ) → tally_outcome at_end k t1 t2 ≡ record {
      number = Paper.tally_number log_end k t1 t2;
      counts = cond (eqb (Paper.tally_number log_end k t1 t2) 0) (counts_of (codes (Paper.all_loads log_end t1 t2))) no_counts;
    }
    tally_counts k t1 t2 =
        ap (λ (w : World). tally_outcome w k t1 t2) here.world ∙ tally_is here.history here.good k t1 t2
        ∙ ap {B = TallyAnswer} (λ (l : Log). record {
          number = Paper.tally_number l k t1 t2;
          counts = cond (eqb (Paper.tally_number l k t1 t2) 0) (counts_of (codes (Paper.all_loads l t1 t2))) no_counts;
        }) here.log

    -- an accepted one has 22 counts, of each plate how many of these lifts have it
    pub tally_by_plate : (k t1 t2 : ℕ) → Paper.tally_number log_end k t1 t2 ≡ 0 → (length (tally_outcome at_end k t1 t2).counts ≡ 22)
        × ((n : ℕ) → n ≤ 21 → get_or (tally_outcome at_end k t1 t2).counts n 0 ≡ count_at n (codes (Paper.all_loads log_end t1 t2)))
    tally_by_plate k t1 t2 z =
        let lifts = codes (Paper.all_loads log_end t1 t2) in
        let e : (tally_outcome at_end k t1 t2).counts ≡ counts_of lifts =
        ap (λ (a : TallyAnswer). a.counts) (tally_counts k t1 t2) ∙ ap (λ t. cond t (counts_of lifts) no_counts) (eq-eqb _ 0 z) in
        rw e (length_counts lifts, λ n h. count_place lifts n h)

    -- it counts at most 320 lifts for each slot
    pub tally_held : (k t1 t2 : ℕ) → total (tally_outcome at_end k t1 t2).counts ≤ slots * 320
    tally_held k t1 t2 =
        let same = same_slots in
        omega (
          arith,
          ap (λ (w : World). total (tally_outcome w k t1 t2).counts) here.world,
          counts_held_lem here.history here.good k t1 t2,
        )

    -- of 4,096 slots
    pub tally_held_most : (k t1 t2 : ℕ) → total (tally_outcome at_end k t1 t2).counts ≤ 1310720
    tally_held_most k t1 t2 = omega (arith, tally_held k t1 t2)

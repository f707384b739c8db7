-- Stores carried into the other form and back (document 02, W-203). The theorems speak of every store that an accepted format, calls
-- and accepted conversions lead to, `Reaches`, and of second stores of the right lengths, whatever their chips hold. Assumes nothing.
use mathlib.Core.Path.{◌≡◌, sym, ap, ap₂, subst, ◌∙◌}
use mathlib.Core.Bool.{Bool, true, false, cond}
use mathlib.Core.List.{List, [], ◌∷◌, map}
use mathlib.Core.Logic.{◌⊎◌, inl, inr}
use Prim.Native.Nat.{ℕ, ◌*◌, ◌≤◌}
use native.Mathlib.Omega.{arith}
use lib.Dec.{eqb}
use lib.IntN.{ℤ}
use lib.ListN.{length}
use Rattle.form.specs.declared.Form.{Form}
use Rattle.form.specs.declared.Form.TheVariants.{Old, New}
use Rattle.plate.specs.Plate.{no_counts, counts_of}
use Rattle.bounds.specs.Grounds.{ground}
use Rattle.tally.specs.Answers.{TallyAnswer}
use Rattle.store.specs.World.{World}
use Rattle.store.specs.Calls.{Outcome, format_outcome}
use Rattle.questions.specs.Queries.{search_outcome, tally_outcome}
use Rattle.paper_log.specs.Log.{Lift, Log, begun, open_serial, codes, retained}
use Rattle.paper_log.specs.Calls as Paper
use Rattle.refinement.specs.Inner.Image.{History, state_image, image}
use Rattle.refinement.specs.Run.{Request, call_of, searched, replies, world_after, run_after, expected_all, AllTyped, NeverDamage}
use Rattle.refinement.specs.Rules.{header_pages_most, AllKept}
use Rattle.refinement.specs.ReadBack.{segments_in}
use Rattle.refinement.proofs.AllCalls.{replies_are}
use Rattle.refinement.proofs.EachCall.{all_kept}
use Rattle.refinement.proofs.ReadBack.{segments_read_lem}
use Rattle.refinement.proofs.PagesReached as Pages
use Rattle.refinement.proofs.PagesReached.{headers_few}
use Rattle.refinement.proofs.TallyFound.{tally_is}
use Rattle.refinement.proofs.Demands.{fair_all, log_stays}
use Rattle.carry.specs.Carried.{other, first_time}
use Rattle.retained.specs.Retained.{rises}
use Rattle.conversion.specs.Outcome.{cannot_go_back, carry_outcome}
use Rattle.round_trips.specs.InForm.{log_into, NextMoves}
use Rattle.round_trips.specs.Reaches.{Chips, Reaches, formatted, called}
use Rattle.round_trips.specs.GoingBack.{times_of, oldest_live, CanGoBack}
use Rattle.round_trips.proofs.Histories.{into, good_up}
use Rattle.round_trips.proofs.FirstTime.{first_retained, first_is}
use Rattle.round_trips.proofs.Searches as Searches
use Rattle.round_trips.proofs.Searches.{answers_agree}
use Rattle.round_trips.proofs.NextTime.{next_there, next_back}
use Rattle.round_trips.proofs.Backwards.{can_if_accepted, accepted_if_can, accepted_undropped}
use Rattle.round_trips.proofs.Known.{Known, same_form, number_is, passes, accepted_if, good_there, carried_is, round_trip, known}

-- ---- the store after a format and any list of calls is one of these

calls_reach : {slots : ℕ} {w : World} {g : Log} → Reaches slots w g → (rs : List Request) → AllTyped rs
    → Reaches slots (run_after w rs) (Paper.log_after g (map call_of rs))
unfolding run_after Paper.log_after
calls_reach r [] ok = r
calls_reach {w = w} {g = g} r (c ∷ rs) ok =
    calls_reach {w = world_after w c} {g = Paper.stepped g (call_of c)} (called r c ok.0) rs ok.1

pub after_calls : (slots : ℕ) (v : Form) (nand nor : List ℕ) → Chips slots nand nor → (rs : List Request) → AllTyped rs
    → Reaches slots (run_after (format_outcome v nand nor slots).world rs) (Paper.log_after (begun v slots) (map call_of rs))
after_calls slots v nand nor chips rs ok = calls_reach (formatted v nand nor chips) rs ok

module _ (slots : ℕ) (least : 2 ≤ slots) (most : slots ≤ 4096) {w : World} {g : Log} (r : Reaches slots w g) where
  k : Known slots w g
  k = known slots least most r

  abbrev h : History
  h = k.history

  -- its form is its log's
  pub form_of_log : w.form ≡ g.form
  form_of_log = same_form k ∙ ap (λ (l : Log). l.form) k.log

  -- ---- there and back, back and there

  -- going there is always accepted
  pub there_accepted : w.form ≡ Old → (nand nor : List ℕ) → Chips slots nand nor → (carry_outcome New w slots nand nor).number ≡ 0
  there_accepted e nand nor chips = accepted_if k New e nand nor chips (good_up h k.good (sym (same_form k) ∙ e))

  module _ (nand nor : List ℕ) (chips : Chips slots nand nor) (nand' nor' : List ℕ) (chips' : Chips slots nand' nor') where
    -- "For stores reached from a format, going there and back yields the first store's bytes and state"
    pub there_and_back : w.form ≡ Old
        → carry_outcome Old (carry_outcome New w slots nand nor).world slots nand' nor' ≡ record { number = 0; world = w }
    there_and_back e = round_trip k New e nand nor chips nand' nor' chips' (there_accepted e nand nor chips)

    -- "so does back and there, wherever going back is accepted"
    pub back_and_there : w.form ≡ New → (carry_outcome Old w slots nand nor).number ≡ 0
        → carry_outcome New (carry_outcome Old w slots nand nor).world slots nand' nor' ≡ record { number = 0; world = w }
    back_and_there e q = round_trip k Old e nand nor chips nand' nor' chips' q

  -- ---- searches and other calls

  module _ (f : Form) (e : w.form ≡ other f) (nand nor : List ℕ) (chips : Chips slots nand nor) (q : (carry_outcome f w slots nand nor).number ≡ 0) where
    -- "For such stores searches before and after agree in number, count and rows", both ways, and so do tallies
    pub searches_agree : (s t1 t2 : ℕ) (k1 k2 : ℤ) (area : List ℕ)
        → searched (search_outcome (carry_outcome f w slots nand nor).world s t1 t2 k1 k2 area) ≡ searched (search_outcome w s t1 t2 k1 k2 area)
    searches_agree s t1 t2 k1 k2 area =
        ap (λ (o : Outcome). searched (search_outcome o.world s t1 t2 k1 k2 area)) (carried_is k f e nand nor chips q)
        ∙ answers_agree f h k.good (good_there k f e nand nor chips q) s t1 t2 k1 k2 area
        ∙ ap (λ (x : World). searched (search_outcome x s t1 t2 k1 k2 area)) (sym k.world)

    pub tallies_agree : (s t1 t2 : ℕ) → tally_outcome (carry_outcome f w slots nand nor).world s t1 t2 ≡ tally_outcome w s t1 t2
    tallies_agree s t1 t2 =
        ap (λ (o : Outcome). tally_outcome o.world s t1 t2) (carried_is k f e nand nor chips q)
        ∙ Searches.tallies_agree f h k.good (good_there k f e nand nor chips q) s t1 t2
        ∙ ap (λ (x : World). tally_outcome x s t1 t2) (sym k.world)

  -- every list of calls is answered as the paper log answers it, also of a store that was carried over, and damage is never reported
  pub goes_on_as_paper_log : (rs : List Request) → AllTyped rs → replies w rs ≡ expected_all (Paper.answers g (map call_of rs)) rs
  goes_on_as_paper_log rs ok =
      ap (λ (x : World). replies x rs) k.world ∙ replies_are rs h k.good ok
      ∙ ap (λ (l : Log). expected_all (Paper.answers l (map call_of rs)) rs) k.log

  pub never_damage : (rs : List Request) → AllTyped rs → NeverDamage (replies w rs)
  never_damage rs ok = subst NeverDamage (sym (goes_on_as_paper_log rs ok)) (fair_all rs g)

  -- what each call of the list changes of the chips
  pub chips_kept : (rs : List Request) → AllTyped rs → AllKept w g rs
  chips_kept rs ok =
      subst (λ (x : World). AllKept x g rs) (sym k.world) (subst (λ (l : Log). AllKept (image h) l rs) k.log (all_kept rs h k.good ok))

  -- every retained closed segment reads back as the lifts that went in, in whichever form they did
  pub segments_read_back : segments_in w slots ≡ g.closed
  segments_read_back =
      ap₂ {C = List (List Lift)} segments_in k.world (sym k.same_slots) ∙ segments_read_lem h k.good ∙ ap (λ (l : Log). l.closed) k.log

  -- a search loads few header pages on its way to the newest closed segment
  pub header_pages_few : (s t1 t2 : ℕ) (k1 k2 : ℤ) (area : List ℕ) → (search_outcome w s t1 t2 k1 k2 area).pages.headers ≤ header_pages_most slots
  header_pages_few s t1 t2 k1 k2 area =
      let same = k.same_slots in
      omega (
        arith,
        ap (λ (x : World). (search_outcome x s t1 t2 k1 k2 area).pages.headers) k.world,
        headers_few h k.good s t1 t2 k1 k2 area,
      )

  -- and Bloom and tree pages of retained closed segments alone
  pub pages_few : (s t1 t2 : ℕ) (k1 k2 : ℤ) (area : List ℕ) → ((search_outcome w s t1 t2 k1 k2 area).pages.bloom ≤ 2 * length g.closed)
      × ((search_outcome w s t1 t2 k1 k2 area).pages.tree ≤ 9 * length g.closed)
  pages_few s t1 t2 k1 k2 area =
      let m = Pages.pages_few h k.good s t1 t2 k1 k2 area in
      let n = ap (λ (l : Log). length l.closed) k.log in (
        omega (arith, ap (λ (x : World). (search_outcome x s t1 t2 k1 k2 area).pages.bloom) k.world, m.0),
        omega (arith, ap (λ (x : World). (search_outcome x s t1 t2 k1 k2 area).pages.tree) k.world, m.1),
      )

  -- the state's serials are the paper log's
  pub serials_kept : (w.state.oldest ≡ g.oldest) × (w.state.current ≡ open_serial g)
  unfolding image state_image
  serials_kept = (
    ap (λ (x : World). x.state.oldest) k.world ∙ ap (λ (l : Log). l.oldest) k.log,
    ap (λ (x : World). x.state.current) k.world ∙ ap open_serial k.log,
  )

  -- a tally counts, by plate, what the paper log's search over all loads finds
  pub tally_counts : (s t1 t2 : ℕ) → tally_outcome w s t1 t2 ≡ record {
    number = Paper.tally_number g s t1 t2;
    counts = cond (eqb (Paper.tally_number g s t1 t2) 0) (counts_of (codes (Paper.all_loads g t1 t2))) no_counts;
  }
  tally_counts s t1 t2 =
      ap (λ (x : World). tally_outcome x s t1 t2) k.world ∙ tally_is h k.good s t1 t2
      ∙ ap {B = TallyAnswer} (λ (l : Log). record {
        number = Paper.tally_number l s t1 t2;
        counts = cond (eqb (Paper.tally_number l s t1 t2) 0) (counts_of (codes (Paper.all_loads l t1 t2))) no_counts;
      }) k.log

  -- ---- next time

  -- one less there, one more back
  pub next_moves_there : w.form ≡ Old → (nand nor : List ℕ) → Chips slots nand nor
      → NextMoves w.state.current w.state.count w.state.next (carry_outcome New w slots nand nor).world.state.next
  unfolding image state_image
  next_moves_there e nand nor chips =
      let q = there_accepted e nand nor chips in
      subst (λ (o : Outcome). NextMoves w.state.current w.state.count w.state.next o.world.state.next)
      (sym (carried_is k New e nand nor chips q))
      (subst (λ (x : World). NextMoves x.state.current x.state.count x.state.next (log_into New h.log).next) (sym k.world)
      (next_there h k.good (sym (same_form k) ∙ e)))

  pub next_moves_back : w.form ≡ New → (nand nor : List ℕ) → Chips slots nand nor → (carry_outcome Old w slots nand nor).number ≡ 0
      → NextMoves w.state.current w.state.count (carry_outcome Old w slots nand nor).world.state.next w.state.next
  unfolding image state_image
  next_moves_back e nand nor chips q =
      subst (λ (o : Outcome). NextMoves w.state.current w.state.count o.world.state.next w.state.next)
      (sym (carried_is k Old e nand nor chips q))
      (subst (λ (x : World). NextMoves x.state.current x.state.count (log_into Old h.log).next x.state.next) (sym k.world)
      (next_back h k.good (sym (same_form k) ∙ e)))

  -- ---- what a technician can tell before going back

  -- the oldest live time that ground 14 goes by is that of the log
  pub oldest_live_is : first_time Old w slots ≡ oldest_live g
  oldest_live_is =
      ap₂ {C = ℕ} (first_time Old) k.world (sym k.same_slots) ∙ first_is Old h k.good
      ∙ first_retained h.log.closed h.log.current k.good.closed (into Old h).log.next ∙ ap oldest_live k.log

  module _ (e : w.form ≡ New) (nand nor : List ℕ) (chips : Chips slots nand nor) where
    of_form : h.log.form ≡ New
    of_form = sym (same_form k) ∙ e

    -- it is accepted, or refused by ground 14
    pub back_or_14 : ((carry_outcome Old w slots nand nor).number ≡ 0) ⊎ ((carry_outcome Old w slots nand nor).number ≡ 14)
    back_or_14 = go (cannot_go_back (image h) h.log.slots) (number_is k Old e nand nor chips)
      where
        go : (b : Bool) → (carry_outcome Old w slots nand nor).number ≡ ground 14 b 0
            → ((carry_outcome Old w slots nand nor).number ≡ 0) ⊎ ((carry_outcome Old w slots nand nor).number ≡ 14)
        go true q = inr q
        go false q = inl q

    -- accepted exactly where the retained lifts' times rise and the pointers that are neither none nor live are early enough
    pub back_accepted_if : CanGoBack w g → (carry_outcome Old w slots nand nor).number ≡ 0
    back_accepted_if c =
        number_is k Old e nand nor chips
        ∙ ap (λ (b : Bool). ground 14 b 0) (accepted_if_can h k.good of_form
        (subst (λ (x : World). CanGoBack x h.log) k.world (subst (CanGoBack w) (sym k.log) c)))

    pub back_accepted_only_if : (carry_outcome Old w slots nand nor).number ≡ 0 → CanGoBack w g
    back_accepted_only_if q =
        subst (CanGoBack w) k.log (subst (λ (x : World). CanGoBack x h.log) (sym k.world)
        (can_if_accepted h k.good of_form (passes k Old e nand nor chips q)))

    -- where no segment has gone the times alone decide
    pub back_accepted_undropped : g.oldest ≡ 1 → rises (times_of (retained g)) ≡ true → (carry_outcome Old w slots nand nor).number ≡ 0
    back_accepted_undropped one up =
        number_is k Old e nand nor chips
        ∙ ap (λ (b : Bool). ground 14 b 0) (accepted_undropped h k.good of_form (ap (λ (l : Log). l.oldest) k.log ∙ one)
        (subst (λ (l : Log). rises (times_of (retained l)) ≡ true) (sym k.log) up))

-- ---- the form of a store after a format and any list of calls

pub form_after_calls : (slots : ℕ) → 2 ≤ slots → slots ≤ 4096 → (v : Form) (nand nor : List ℕ) → Chips slots nand nor → (rs : List Request)
    → AllTyped rs → (run_after (format_outcome v nand nor slots).world rs).form ≡ v
unfolding begun
form_after_calls slots least most v nand nor chips rs ok =
    form_of_log slots least most (after_calls slots v nand nor chips rs ok) ∙ (log_stays (map call_of rs) (begun v slots)).form

-- A history carried into the other form is a good one of that form: always into form 1; into form 0 where the retained lifts' times
-- rise strictly and no pointer to a serial that went would be live. There and back, and back and there, it is the same history.
-- Assumes nothing.
use mathlib.Core.Path.{◌≡◌, refl, sym, ap, ap₂, subst, ◌∙◌}
use mathlib.Core.Bool.{Bool, true, false, cond, not, ◌&&◌}
use mathlib.Core.List.{List, [], ◌∷◌}
use Prim.Native.Nat.{ℕ, suc, ◌+◌, ◌-◌, ◌≤◌, ◌<◌}
use native.Mathlib.Omega.{arith}
use lib.Dec.{eqb, leb}
use lib.ListN.{length, get_or}
use borrow.Author.Tests.{leb-false, eq-eqb, ne_eqb}
use Rattle.flash.specs.Chip.{slot_of}
use Rattle.form.specs.declared.Form.{Form}
use Rattle.form.specs.declared.Form.TheVariants.{Old, New}
use Rattle.form.specs.Forms.{step}
use Rattle.skiplist.specs.declared.Pointer.{Pointer}
use Rattle.skiplist.specs.Skip as Skip
use Rattle.skiplist.specs.Skip.{pointing, serials_from, is_live, is_none, level_of, heads_after, no_heads}
use Rattle.skiplist.proofs.Nodes.{heads_below}
use Rattle.header.proofs.HeaderBytes.{level_most}
use Rattle.paper_log.specs.Log.{Lift, open_serial}
use Rattle.refinement.specs.Inner.Segments as S
use Rattle.refinement.specs.Inner.Image.{History, oldest_heads, first_start, live_of}
use Rattle.refinement.proofs.Good as G
use Rattle.refinement.proofs.Good.{Times, Segments, Good}
use Rattle.refinement.proofs.PageLengths.{four_after}
use Rattle.refinement.proofs.Dead.{dead_below, none_dead}
use Rattle.refinement.proofs.InBounds.{is_new, fresh}
use Rattle.refinement.proofs.Pointers.{level_least}
use Rattle.flash.proofs.Slots.{slot_below}
use Rattle.carry.specs.Carried.{other}
use Rattle.round_trips.specs.InForm.{log_into}
use Rattle.round_trips.proofs.AllHeads.{heads_all}
use Rattle.round_trips.proofs.Rising.{StrictTimes}

-- the history in the form f
abbrev pub into : Form → History → History
into f h = record { log = log_into f h.log; gone = h.gone }

-- ---- times that rise strictly rise

times_weaker : {n m : ℕ} (ls : List Lift) → Times 1 n ls m → Times 0 (n - 1) ls (m - 1)
times_weaker [] G.none = G.none
times_weaker {n} {m} (l ∷ ls) (G.more h t) =
    let e : l.time + 1 - 1 ≡ l.time + 0 = omega arith in
    let q : n - 1 ≤ l.time = omega arith in
    G.more q (subst (λ (k : ℕ). Times 0 k ls (m - 1)) e (times_weaker {n = l.time + 1} {m = m} ls t))

segments_weaker : {n m : ℕ} {c : List (List Lift)} → Segments 1 n c m → Segments 0 (n - 1) c (m - 1)
segments_weaker G.none = G.none
segments_weaker (G.more {l = l} {ls = ls} t r) = G.more (times_weaker (l ∷ ls) t) (segments_weaker r)

-- ---- the serials in the heads are below the next one to be closed

older : (slots n m k : ℕ) (ts : List ℕ) (heads : List Pointer) → length heads ≡ 4 → n + length ts ≤ m
    → ((k : ℕ) → is_live (get_or heads k Skip.none) (serials_from m) ≡ false)
    → is_live (get_or (S.heads_from New slots n ts heads) k Skip.none) (serials_from m) ≡ false
older slots n m k ts heads four l f =
    heads_all (λ j p. is_live p (serials_from m) ≡ false) New slots n ts heads four
    (λ j i t a b. dead_below (pointing New (slot_of i slots) i t) (serials_from m) (omega arith)) f k

-- ---- into form 1

pub good_up : (h : History) → Good h → h.log.form ≡ Old → Good (into New h)
good_up h g e =
    let d : step h.log.form ≡ 1 = ap step e in
    record {
      least = g.least;
      most = g.most;
      serial = g.serial;
      room = g.room;
      busy = g.busy;
      last = g.last;
      still = g.still;
      before = g.before - 1;
      begun = g.begun - 1;
      fresh = λ q. omega (arith, g.fresh q);
      later = λ q. omega arith;
      limited = g.limited;
      dead = λ k.
          older h.log.slots 1 h.log.oldest k h.gone no_heads refl (omega (arith, g.serial)) (λ j. none_dead j (serials_from h.log.oldest));
      closed = segments_weaker (subst (λ (s : ℕ). Segments s g.before h.log.closed g.begun) d g.closed);
      current = times_weaker h.log.current (subst (λ (s : ℕ). Times s g.begun h.log.current h.log.next) d g.current);
      end = omega (arith, g.end);
      segments = g.segments;
      segment = g.segment;
    }

-- ---- into form 0: what ground 14 leaves

-- the retained lifts' times rise strictly from the first one on, and the heads where the oldest retained serial was closed are not
-- live by their times
pub record Strict (h : History) : Type 0 where
  pub times : StrictTimes h.log.closed h.log.current (into Old h).log.next
  pub dead : (k : ℕ) → is_live (get_or (oldest_heads (into Old h)) k Skip.none) (live_of (into Old h).log) ≡ false

-- the level 1 head where serials went is not none
not_none : (slots n t : ℕ) → 1 ≤ slots → slots ≤ 4096 → is_none (pointing Old (slot_of n slots) n t) ≡ false
not_none slots n t a b = let s = slot_below slots n a in ne_eqb (slot_of n slots) 65535 (λ e. omega arith)

head_there : (slots n t : ℕ) (heads : List Pointer) → 1 ≤ slots → slots ≤ 4096 → length heads ≡ 4
    → is_none (get_or (heads_after heads (level_of n) (pointing Old (slot_of n slots) n t)) 0 Skip.none) ≡ false
head_there slots n t heads a b four =
    rw (heads_below heads four (level_of n) (level_most n) (pointing Old (slot_of n slots) n t) 0 (omega (arith, level_least n))) (not_none slots n t a b)

head_stays : (slots n : ℕ) (ts : List ℕ) (heads : List Pointer) → 1 ≤ slots → slots ≤ 4096 → length heads ≡ 4
    → is_none (get_or heads 0 Skip.none) ≡ false → is_none (get_or (S.heads_from Old slots n ts heads) 0 Skip.none) ≡ false
unfolding S.heads_from
head_stays slots n [] heads a b four e = e
head_stays slots n (t ∷ ts) heads a b four e =
    head_stays slots (suc n) ts _ a b (four_after heads n (pointing Old (slot_of n slots) n t) four) (head_there slots n t heads a b four)

some_gone : (slots t : ℕ) (ts : List ℕ) → 1 ≤ slots → slots ≤ 4096 → is_none (get_or (S.heads_from Old slots 1 (t ∷ ts) no_heads) 0 Skip.none) ≡ false
unfolding S.heads_from
some_gone slots t ts a b =
    head_stays slots 2 ts _ a b (four_after no_heads 1 (pointing Old (slot_of 1 slots) 1 t) refl) (head_there slots 1 t no_heads a b refl)

-- a pointer that is neither none nor live has an earlier time
earlier : (p : Pointer) (first : ℕ) → is_none p ≡ false → is_live p (record { form = Old; oldest = first }) ≡ false → p.time < first
earlier p first n e = go (is_none p) n e
  where
    go : (b : Bool) → b ≡ false → (not b && leb first p.time) ≡ false → p.time < first
    go true q e = absurd (let z : ◌≡◌ {A = ℕ} 0 1 = cc in omega arith)
    go false q e = leb-false first p.time e

-- next time before the first retained lift may be taken as 0
pub record Lowered (closed : List (List Lift)) (ls : List Lift) (m : ℕ) : Type 0 where
  pub begun : ℕ
  pub closed_from : Segments 1 0 closed begun
  pub current : Times 1 begun ls m

lowered : (closed : List (List Lift)) (ls : List Lift) {a b m : ℕ} → Segments 1 a closed b → Times 1 b ls m
    → (length closed ≡ 0 → length ls ≡ 0 → m ≡ 0) → Lowered closed ls m
lowered [] [] {m = m} s t z = record { begun = 0; closed_from = G.none; current = subst (λ (k : ℕ). Times 1 0 [] k) (sym (z refl refl)) G.none }
lowered [] (l ∷ ls) s (G.more h t) z =
    let q : 0 ≤ l.time = omega arith in
    record { begun = 0; closed_from = G.none; current = G.more q t }
lowered ((l ∷ ls) ∷ rest) current {b = b} (G.more (G.more h t) r) u z =
    let q : 0 ≤ l.time = omega arith in
    record { begun = b; closed_from = G.more (G.more q t) r; current = u }
lowered ([] ∷ rest) current s u z = elim s [ ]

pub good_down : (h : History) → Good h → h.log.form ≡ New → Strict h → Good (into Old h)
good_down h g e s = go h.gone refl
  where
    next' : ℕ
    next' = (into Old h).log.next

    limit : (b : Bool) → cond b 0 (h.log.next + 1) ≤ 999999999999999 + 1
    limit true = omega arith
    limit false = omega (arith, g.end, ap step e)

    fresh' : h.gone ≡ [] → length h.log.closed ≡ 0 → length h.log.current ≡ 0 → next' ≡ 0
    fresh' q c l = rw (eq-eqb (open_serial h.log) 1 (omega (arith, g.serial, ap length q)), l)

    with_times : (before begun : ℕ) → (length h.gone ≡ 0 → before ≡ 0) → (0 < length h.gone → 1 ≤ before)
        → Segments 1 before h.log.closed begun → Times 1 begun h.log.current next' → Good (into Old h)
    with_times before begun f l c t = record {
      least = g.least;
      most = g.most;
      serial = g.serial;
      room = g.room;
      busy = g.busy;
      last = g.last;
      still = g.still;
      before = before;
      begun = begun;
      fresh = f;
      later = l;
      limited = g.limited;
      dead = s.dead;
      closed = c;
      current = t;
      end = limit (eqb (open_serial h.log) 1 && eqb (length h.log.current) 0);
      segments = g.segments;
      segment = g.segment;
    }

    go : (gone : List ℕ) → h.gone ≡ gone → Good (into Old h)
    go [] q =
        let w = lowered h.log.closed h.log.current s.times.closed_times_lem s.times.current_times (fresh' q) in
        with_times 0 w.begun (λ z. refl) (λ z. absurd (omega (arith, ap length q))) w.closed_from w.current
    go (t ∷ ts) q =
        let first : ℕ = first_start h.log.closed h.log.current next' in
        let head : Pointer = get_or (oldest_heads (into Old h)) 0 Skip.none in
        let n : is_none head ≡ false =
        ap (λ (x : List ℕ). is_none (get_or (S.heads_from Old h.log.slots 1 x no_heads) 0 Skip.none)) q
        ∙ some_gone h.log.slots t ts (omega (arith, g.least)) g.most in
        with_times first s.times.begun
        (λ z. absurd (omega (arith, ap length q))) (λ z. omega (arith, earlier head first n (s.dead 0))) s.times.closed_times_lem s.times.current_times

-- ---- there and back, back and there

abbrev with_form : History → Form → ℕ → History
with_form h f next = record {
  log = record {
    form = f;
    slots = h.log.slots;
    oldest = h.log.oldest;
    closed = h.log.closed;
    current = h.log.current;
    next = next;
  };
  gone = h.gone;
}

pub turned_back : (f : Form) (h : History) → Good h → h.log.form ≡ other f → into (other f) (into f h) ≡ h
turned_back New h g e = ap₂ (with_form h) (sym e) (go (is_new h) refl)
  where
    go : (b : Bool) → is_new h ≡ b → cond (is_new h) 0 (h.log.next - 1 + 1) ≡ h.log.next
    go true q = rw q (sym (fresh h g true q))
    go false q = rw q (omega (arith, fresh h g false q, ap step e))
turned_back Old h g e = ap₂ (with_form h) (sym e) (go (is_new h) refl)
  where
    go : (b : Bool) → is_new h ≡ b → cond (is_new h) 0 (h.log.next + 1) - 1 ≡ h.log.next
    go true q = rw q (omega (arith, fresh h g true q))
    go false q = rw q (omega arith)

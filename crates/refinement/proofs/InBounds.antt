-- The state of a good history breaks no bound. Assumes nothing.
use mathlib.Core.Path.{◌≡◌, refl, sym, ap, ◌∙◌}
use mathlib.Core.Bool.{Bool, true, false, cond, not, ◌&&◌, ◌||◌}
use mathlib.Core.List.{List, [], ◌∷◌, ◌++◌, map}
use Prim.Native.Nat.{ℕ, zero, suc, ◌+◌, ◌-◌, ◌≤◌, ◌<◌}
use native.Mathlib.Omega.{arith}
use lib.Dec.{eqb, leb, ltb}
use lib.IntN.{ℤ, pos, negsuc}
use lib.ListN.{length, drop, replicate}
use lib.Signed.{le_z, lt_z}
use borrow.Author.Tests.{le-leb, lt-ltb, eq-eqb, ne_eqb, leb-true, ltb-true, eqb-true, eqb-false}
use Rattle.codec.proofs.Truth.{and_both, and_parts, and_right, or_second}
use Rattle.form.specs.Forms.{step}
use Rattle.form.specs.declared.Form.TheVariants.{Old, New}
use Rattle.form.specs.declared.Form.{Form}
use Rattle.bounds.specs.Bounds.{exactly, serials_ok, counts_ok, times_ok, span_ok, loads_ok}
use native.Mathlib.Nat.{le_refl}
use Rattle.flash.specs.Chip.{slot_of}
use Rattle.lift.specs.Limits.{load_ok}
use Rattle.tree.proofs.Built.{buckets_of_lem, counted}
use Rattle.skiplist.specs.declared.Pointer.{Pointer}
use Rattle.skiplist.specs.Skip.{pointing, is_none, in_slots, level_of, heads_after, no_heads}
use Rattle.store.specs.World.{live_time}
use Rattle.store.specs.Bounds.{heads_ok, within_bounds}
use Rattle.paper_log.specs.Log.{Lift, open_serial, codes}
use Rattle.refinement.specs.Inner.Segments as S
use Rattle.refinement.specs.Inner.Image.{History, oldest_heads, first_start, oldest_time, state_image}
use Rattle.flash.proofs.Slots.{slot_below}
use Rattle.refinement.proofs.Lengths.{good_loads}
use Rattle.refinement.proofs.ClosePage.{few_buckets}
use Rattle.refinement.proofs.Close.{no_buckets}
use Rattle.refinement.proofs.Good as G
use Rattle.refinement.proofs.Good.{GoodLifts, Built, Times, Segments, Good}

-- two tests that agree
agree : (a b : Bool) → a ≡ b → exactly a b ≡ true
agree true b e = rw (← e)
agree false b e = rw (← e)

-- ---- serials

serials : (h : History) → Good h → serials_ok h.log.oldest (open_serial h.log) (length h.log.current) h.log.slots ≡ true
unfolding serials_ok
serials h g =
    let first = g.serial in
    let d : open_serial h.log - h.log.oldest ≡ length h.log.closed = omega arith in
    and_both _ _
    (and_both _ _ (le-leb 1 h.log.oldest (omega arith))
    (and_both _ _ (le-leb h.log.oldest (open_serial h.log) (omega arith)) (le-leb (open_serial h.log) 999999999 g.last)))
    (rw d (and_both _ _ (le-leb _ _ g.room) (fewer (length h.log.current) g.busy)))
  where
    fewer : (n : ℕ) → (0 < n → length h.log.closed < h.log.slots) → (eqb n 0 || ltb (length h.log.closed) h.log.slots) ≡ true
    fewer zero f = refl
    fewer (suc n) f = or_second (eqb (suc n) 0) (ltb (length h.log.closed) h.log.slots) (lt-ltb (length h.log.closed) h.log.slots (f (omega arith)))

-- ---- counts

bucket_none : (ls : List Lift) → Built ls → eqb (S.bucket_count ls) 0 ≡ eqb (length ls) 0
bucket_none [] b = rw no_buckets
bucket_none (l ∷ ls) b =
    let t = buckets_of_lem (codes (l ∷ ls)) b.tree b.is in
    let k = (counted (codes (l ∷ ls)) (good_loads (l ∷ ls) b.lifts) b.tree b.is).some_bucket (omega arith) in
    ne_eqb (S.bucket_count (l ∷ ls)) 0 (λ z. omega (arith, ap length t)) ∙ sym (ne_eqb (length (l ∷ ls)) 0 (λ z. omega arith))

counts : (h : History) → Good h → counts_ok (open_serial h.log) (length h.log.current) (S.bucket_count h.log.current) ≡ true
unfolding counts_ok
counts h g =
    and_both _ _ (and_both _ _ (le-leb _ _ g.segment.few) (le-leb _ _ (few_buckets h.log.current g.segment)))
    (and_both _ _ (agree _ _ (bucket_none h.log.current g.segment)) (end (length h.log.current) g.still))
  where
    end : (n : ℕ) → (0 < n → open_serial h.log ≤ 999999998) → (not (eqb (open_serial h.log) 999999999) || eqb n 0) ≡ true
    end zero f = or_second (not (eqb (open_serial h.log) 999999999)) true refl
    end (suc n) f = rw (ne_eqb (open_serial h.log) 999999999 (λ e. omega (arith, f (omega arith))))

-- ---- times

-- next time after some lifts
pub times_up : {d n m : ℕ} {ls : List Lift} → Times d n ls m → n ≤ m
times_up G.none = le_refl _
times_up (G.more h t) = omega (arith, times_up t)

pub start_below : (ls : List Lift) {d n m : ℕ} → Times d n ls m → 0 < length ls → (n ≤ S.start_time ls) × (S.start_time ls + d ≤ m)
start_below [] t h = absurd (omega arith)
start_below (l ∷ ls) (G.more k t) h = (k, omega (arith, times_up t))

pub segments_up : {d n m : ℕ} {closed : List (List Lift)} → Segments d n closed m → n ≤ m
segments_up G.none = le_refl _
segments_up (G.more t r) = omega (arith, times_up t, segments_up r)

live_most : (h : History) → Good h → first_start h.log.closed h.log.current h.log.next ≤ h.log.next
live_most h g = go h.log.closed h.log.current g.closed g.current
  where
    go : (closed : List (List Lift)) (ls : List Lift) {d n m k : ℕ} → Segments d n closed m → Times d m ls k → first_start closed ls k ≤ k
    go [] [] s t = le_refl _
    go [] (l ∷ ls) s (G.more a t) = omega (arith, times_up t)
    go (ms ∷ rest) ls (G.more (G.more a u) r) t = omega (arith, times_up u, segments_up r, times_up t)

-- no lift has come where the first serial is open and empty, and then next time is 0; else it is a step or more
abbrev pub is_new : History → Bool
is_new h = eqb (open_serial h.log) 1 && eqb (length h.log.current) 0

fresh_from : (gone : List ℕ) (closed : List (List Lift)) (ls : List Lift) (oldest : ℕ) {d a b m : ℕ} → Segments d a closed b
    → Times d b ls m → oldest ≡ length gone + 1 → (length gone ≡ 0 → a ≡ 0) → (0 < length gone → d ≤ a)
    → (t : Bool) → (eqb (oldest + length closed) 1 && eqb (length ls) 0) ≡ t → cond t (m ≡ 0) (d ≤ m)
fresh_from [] [] [] oldest G.none G.none e f l true t = f refl
fresh_from (x ∷ gone) [] [] oldest G.none G.none e f l true t =
    absurd (omega (arith, eqb-true (oldest + 0) 1 (and_parts _ _ t).0))
fresh_from gone (ms ∷ rest) [] oldest s u e f l true t =
    absurd (omega (arith, eqb-true (oldest + suc (length rest)) 1 (and_parts _ _ t).0))
fresh_from gone closed (k ∷ ls) oldest s u e f l true t =
    absurd (omega (arith, eqb-true (suc (length ls)) 0 (and_parts (eqb (oldest + length closed) 1) (eqb (suc (length ls)) 0) t).1))
fresh_from [] [] [] oldest G.none G.none e f l false t =
    let d : oldest + 0 ≡ 1 = omega arith in
    let z : ◌≡◌ {A = ℕ} 0 1 = cc (rw (eq-eqb (oldest + 0) 1 d) at t) in
    absurd (omega arith)
fresh_from (x ∷ gone) [] [] oldest G.none G.none e f l false t = l (omega arith)
fresh_from gone (ms ∷ rest) [] oldest (G.more (G.more p u) r) G.none e f l false t = omega (arith, times_up u, segments_up r)
fresh_from gone closed (k ∷ ls) oldest s (G.more p u) e f l false t = omega (arith, times_up u)

pub fresh : (h : History) → Good h → (t : Bool) → is_new h ≡ t → cond t (h.log.next ≡ 0) (step h.log.form ≤ h.log.next)
fresh h g t e = fresh_from h.gone h.log.closed h.log.current h.log.oldest g.closed g.current g.serial g.fresh g.later t e

start_most : (h : History) → Good h → S.start_time h.log.current ≤ h.log.next
start_most h g = go h.log.current g.current
  where
    go : (ls : List Lift) {d n m : ℕ} → Times d n ls m → S.start_time ls ≤ m
    go [] t = omega arith
    go (l ∷ ls) (G.more a t) = omega (arith, times_up t)

-- with lifts, the start is a step below next time
start_step : (h : History) → Good h → eqb (length h.log.current) 0 ≡ false → S.start_time h.log.current + step h.log.form ≤ h.log.next
start_step h g e = (start_below h.log.current g.current (omega (arith, eqb-false (length h.log.current) 0 e))).1

times : (h : History) → Good h
    → times_ok h.log.form (open_serial h.log) (length h.log.current) h.log.next (oldest_time h.log)
    (S.start_time h.log.current) ≡ true
unfolding times_ok
times h g = go h.log.form refl
  where
    go : (v : Form) → h.log.form ≡ v
        → times_ok v (open_serial h.log) (length h.log.current) h.log.next
        (live_time v (first_start h.log.closed h.log.current h.log.next)) (S.start_time h.log.current) ≡ true
    go Old e =
        let d : step h.log.form ≡ 1 = ap step e in
        let n : h.log.next ≤ 1000000000000000 = omega (arith, g.end) in
        let f : first_start h.log.closed h.log.current h.log.next ≤ 1000000000000000 = omega (arith, live_most h g) in
        let s : S.start_time h.log.current ≤ 1000000000000000 = omega (arith, start_most h g) in
        and_both _ _ (and_both _ _ (le-leb _ _ n) (and_both _ _ (le-leb _ _ f) (le-leb _ _ s)))
        (and_both _ _ (zero_when (is_new h) refl d) (with_lifts (eqb (length h.log.current) 0) refl d))
      where
        zero_when : (t : Bool) → is_new h ≡ t → step h.log.form ≡ 1 → exactly (eqb h.log.next 0) (is_new h) ≡ true
        zero_when true q d = agree _ _ (eq-eqb h.log.next 0 (fresh h g true q) ∙ sym q)
        zero_when false q d = agree _ _ (ne_eqb h.log.next 0 (λ z. omega (arith, fresh h g false q)) ∙ sym q)

        with_lifts : (t : Bool) → eqb (length h.log.current) 0 ≡ t → step h.log.form ≡ 1
            → (eqb (length h.log.current) 0 || ltb (S.start_time h.log.current) h.log.next) ≡ true
        with_lifts true q d = rw q
        with_lifts false q d = or_second (eqb (length h.log.current) 0) (ltb (S.start_time h.log.current) h.log.next) (lt-ltb (S.start_time h.log.current) h.log.next (omega (arith, start_step h g q)))
    go New e =
        let d : step h.log.form ≡ 0 = ap step e in
        let n : h.log.next ≤ 999999999999999 = omega (arith, g.end) in
        let s : S.start_time h.log.current ≤ 1000000000000000 = omega (arith, start_most h g) in
        and_both _ _ (and_both _ _ (le-leb _ _ n) (le-leb _ _ s)) (and_both _ _ (zero_if (is_new h) refl) (with_lifts (eqb (length h.log.current) 0) refl d))
      where
        zero_if : (t : Bool) → is_new h ≡ t → (not (is_new h) || eqb h.log.next 0) ≡ true
        zero_if true q = rw (q, eq-eqb h.log.next 0 (fresh h g true q))
        zero_if false q = rw q

        with_lifts : (t : Bool) → eqb (length h.log.current) 0 ≡ t → step h.log.form ≡ 0
            → (eqb (length h.log.current) 0 || leb (S.start_time h.log.current) h.log.next) ≡ true
        with_lifts true q d = rw q
        with_lifts false q d = or_second (eqb (length h.log.current) 0) (leb (S.start_time h.log.current) h.log.next) (le-leb (S.start_time h.log.current) h.log.next (omega (arith, start_step h g q)))

-- ---- loads

either : (t : Bool) (a b : ℤ) → load_ok a ≡ true → load_ok b ≡ true → load_ok (cond t a b) ≡ true
either true a b p q = p
either false a b p q = q

-- the low and the high load are loads of the segment
pub low_ok : (m : ℤ) (ls : List Lift) → load_ok m ≡ true → GoodLifts ls → load_ok (S.low_from m (S.loads_of ls)) ≡ true
unfolding S.low_from
low_ok m [] e g = e
low_ok m (l ∷ ls) e g = low_ok (cond (lt_z l.load m) l.load m) ls (either (lt_z l.load m) l.load m g.0.load e) g.1

pub high_ok : (m : ℤ) (ls : List Lift) → load_ok m ≡ true → GoodLifts ls → load_ok (S.high_from m (S.loads_of ls)) ≡ true
unfolding S.high_from
high_ok m [] e g = e
high_ok m (l ∷ ls) e g = high_ok (cond (lt_z m l.load) l.load m) ls (either (lt_z m l.load) l.load m g.0.load e) g.1

-- the order of integers
lt_le : (a b c : ℤ) → lt_z a b ≡ true → le_z b c ≡ true → le_z a c ≡ true
lt_le (pos a) (pos b) (pos c) p q = le-leb a c (omega (arith, ltb-true a b p, leb-true b c q))
lt_le (pos a) (pos b) (negsuc c) p q = cc
lt_le (pos a) (negsuc b) c p q = cc
lt_le (negsuc a) (pos b) (pos c) p q = refl
lt_le (negsuc a) (pos b) (negsuc c) p q = cc
lt_le (negsuc a) (negsuc b) (pos c) p q = refl
lt_le (negsuc a) (negsuc b) (negsuc c) p q = le-leb c a (omega (arith, ltb-true b a p, leb-true c b q))

le_lt : (a b c : ℤ) → le_z a b ≡ true → lt_z b c ≡ true → le_z a c ≡ true
le_lt (pos a) (pos b) (pos c) p q = le-leb a c (omega (arith, leb-true a b p, ltb-true b c q))
le_lt (pos a) (pos b) (negsuc c) p q = cc
le_lt (pos a) (negsuc b) c p q = cc
le_lt (negsuc a) (pos b) (pos c) p q = refl
le_lt (negsuc a) (pos b) (negsuc c) p q = cc
le_lt (negsuc a) (negsuc b) (pos c) p q = refl
le_lt (negsuc a) (negsuc b) (negsuc c) p q = le-leb c a (omega (arith, leb-true b a p, ltb-true c b q))

pub le_self : (a : ℤ) → le_z a a ≡ true
le_self (pos a) = le-leb a a (le_refl a)
le_self (negsuc a) = le-leb a a (le_refl a)

-- low is not above a number that is not below the first load, and high not below one that is not above it
pub low_most : (m k : ℤ) (ls : List ℤ) → le_z m k ≡ true → le_z (S.low_from m ls) k ≡ true
unfolding S.low_from
low_most m k [] e = e
low_most m k (l ∷ ls) e = low_most (cond (lt_z l m) l m) k ls (go (lt_z l m) refl)
  where
    go : (t : Bool) → lt_z l m ≡ t → le_z (cond t l m) k ≡ true
    go true f = lt_le l m k f e
    go false f = e

pub high_least : (m k : ℤ) (ls : List ℤ) → le_z k m ≡ true → le_z k (S.high_from m ls) ≡ true
unfolding S.high_from
high_least m k [] e = e
high_least m k (l ∷ ls) e = high_least (cond (lt_z m l) l m) k ls (go (lt_z m l) refl)
  where
    go : (t : Bool) → lt_z m l ≡ t → le_z k (cond t l m) ≡ true
    go true f = le_lt k m l e f
    go false f = e

span : (ls : List Lift) → GoodLifts ls → span_ok (length ls) (S.low_of (S.loads_of ls)) (S.high_of (S.loads_of ls)) ≡ true
unfolding span_ok
span [] g = refl
span (l ∷ ls) g =
    let low : ℤ = S.low_from l.load (S.loads_of ls) in
    let high : ℤ = S.high_from l.load (S.loads_of ls) in
    and_both _ _ (and_both _ _ (low_ok l.load ls g.0.load g.1) (high_ok l.load ls g.0.load g.1))
    (or_second (eqb (suc (length ls)) 0) (le_z low high)
    (low_most l.load high (S.loads_of ls) (high_least l.load l.load (S.loads_of ls) (le_self l.load))))

all_ok : (ls : List Lift) → GoodLifts ls → loads_ok (S.loads_of ls) ≡ true
unfolding loads_ok
all_ok [] g = refl
all_ok (l ∷ ls) g = and_both _ _ g.0.load (all_ok ls g.1)

ok_drop : (n : ℕ) (ls : List ℤ) → loads_ok ls ≡ true → loads_ok (drop n ls) ≡ true
unfolding loads_ok
ok_drop zero ls e = e
ok_drop (suc n) [] e = refl
ok_drop (suc n) (l ∷ ls) e = ok_drop n ls (and_right (load_ok l) (loads_ok ls) e)

ok_append : (a b : List ℤ) → loads_ok a ≡ true → loads_ok b ≡ true → loads_ok (a ++ b) ≡ true
unfolding loads_ok
ok_append [] b p q = q
ok_append (l ∷ a) b p q = go (load_ok l) p (ok_append a b)
  where
    go : (t : Bool) → (t && loads_ok a) ≡ true → (loads_ok a ≡ true → loads_ok b ≡ true → loads_ok (a ++ b) ≡ true) → (t && loads_ok (a ++ b)) ≡ true
    go true p f = f p q
    go false p f = p

ok_zeros : (n : ℕ) → loads_ok (replicate n (pos 0)) ≡ true
unfolding loads_ok
ok_zeros zero = refl
ok_zeros (suc n) = ok_zeros n

loads : (ls : List Lift) → GoodLifts ls → loads_ok (S.last_thirteen (S.loads_of ls)) ≡ true
unfolding S.last_thirteen
loads ls g = ok_append _ _ (ok_drop (length (S.loads_of ls) - 13) (S.loads_of ls) (all_ok ls g)) (ok_zeros (13 - length (S.loads_of ls)))

-- ---- heads

ok_replicate : (slots level : ℕ) (p : Pointer) (rest : List Pointer) → in_slots p slots ≡ true → heads_ok rest slots ≡ true
    → heads_ok (replicate level p ++ rest) slots ≡ true
unfolding heads_ok
ok_replicate slots zero p rest e f = f
ok_replicate slots (suc n) p rest e f = and_both _ _ e (ok_replicate slots n p rest e f)

ok_later : (slots n : ℕ) (ps : List Pointer) → heads_ok ps slots ≡ true → heads_ok (drop n ps) slots ≡ true
unfolding heads_ok
ok_later slots zero ps e = e
ok_later slots (suc n) [] e = refl
ok_later slots (suc n) (p ∷ ps) e = ok_later slots n ps (and_right (in_slots p slots) (heads_ok ps slots) e)

heads_ok_lem : (v : Form) (slots n : ℕ) (ts : List ℕ) (heads : List Pointer) → 1 ≤ slots → heads_ok heads slots ≡ true → heads_ok (S.heads_from v slots n ts heads) slots ≡ true
unfolding S.heads_from heads_after
heads_ok_lem v slots n [] heads h e = e
heads_ok_lem v slots n (t ∷ ts) heads h e =
    heads_ok_lem v slots (suc n) ts _ h
    (ok_replicate slots (level_of n) (pointing v (slot_of n slots) n t) (drop (level_of n) heads)
    (or_second (is_none (pointing v (slot_of n slots) n t)) (ltb (slot_of n slots) slots) (lt-ltb (slot_of n slots) slots (slot_below slots n h)))
    (ok_later slots (level_of n) heads e))

-- ---- all of them

pub in_bounds : (h : History) → Good h → within_bounds h.log.form (state_image h) (oldest_time h.log) h.log.slots ≡ true
unfolding within_bounds state_image heads_ok
in_bounds h g =
    let s : 1 ≤ h.log.slots = omega (arith, g.least) in
    and_both _ _ (serials h g) (and_both _ _ (counts h g) (and_both _ _ (times h g) (and_both _ _ (span h.log.current g.segment.lifts)
    (and_both _ _ (loads h.log.current g.segment.lifts)
    (heads_ok_lem h.log.form h.log.slots h.log.oldest (map S.start_time h.log.closed) (oldest_heads h) s (heads_ok_lem h.log.form h.log.slots 1 h.gone no_heads s refl))))))

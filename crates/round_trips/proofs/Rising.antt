-- Times of retained lifts that rise, read as the strict times of form 0, and back. Assumes nothing.
use mathlib.Core.Path.{◌≡◌, refl, sym, subst}
use mathlib.Core.Bool.{true}
use mathlib.Core.List.{List, [], ◌∷◌, ◌++◌, append_assoc, append-nil}
use Prim.Native.Nat.{ℕ, ◌+◌, ◌≤◌, ◌<◌}
use native.Mathlib.Nat.{le_refl}
use native.Mathlib.Omega.{arith}
use lib.Dec.{ltb}
use lib.ListN.{length}
use borrow.Author.Tests.{ltb-true, lt-ltb}
use Rattle.codec.proofs.Truth.{and_both, and_left, and_right}
use Rattle.paper_log.specs.Log.{Lift, joined}
use Rattle.refinement.specs.Inner.Image.{first_start}
use Rattle.refinement.proofs.Good as G
use Rattle.refinement.proofs.Good.{Times, Segments}
use Rattle.retained.specs.Retained.{rises_from, rises}
use Rattle.round_trips.specs.GoingBack.{times_of}

-- ---- from times that rise

-- one segment behind a lift at t: its times, and how the list goes on
pub record Behind (t : ℕ) (ls rest : List Lift) (m : ℕ) : Type 0 where
  pub times : Times 1 (t + 1) ls (m + 1)
  pub goes_on : rises_from m (times_of rest) ≡ true

times_behind : (ls rest : List Lift) (t : ℕ) {n m : ℕ} → n ≡ t → Times 0 n ls m → rises_from t (times_of (ls ++ rest)) ≡ true → Behind t ls rest m
unfolding rises_from
times_behind [] rest t {n} e G.none r =
    let z : t + 1 ≡ n + 1 = omega arith in
    record { times = subst (λ (k : ℕ). Times 1 (t + 1) [] k) z G.none; goes_on = subst (λ (k : ℕ). rises_from k (times_of rest) ≡ true) (sym e) r }
times_behind (l ∷ ls) rest t e (G.more a u) r =
    let q : t + 1 ≤ l.time = omega (arith, ltb-true t l.time (and_left _ _ r)) in
    let z : l.time + 0 ≡ l.time = omega arith in
    let b = times_behind ls rest l.time z u (and_right (ltb t l.time) _ r) in
    record { times = G.more q b.times; goes_on = b.goes_on }

pub record AllBehind (n : ℕ) (c : List (List Lift)) (rest : List Lift) (m : ℕ) : Type 0 where
  pub segments : Segments 1 (n + 1) c (m + 1)
  pub goes_on : rises_from m (times_of rest) ≡ true

segments_behind : (c : List (List Lift)) (rest : List Lift) {n m : ℕ} → Segments 0 n c m → rises_from n (times_of (joined c ++ rest)) ≡ true
    → AllBehind n c rest m
unfolding joined
segments_behind [] rest G.none r = record { segments = G.none; goes_on = r }
segments_behind ((l ∷ ls) ∷ c) rest {n} (G.more t s) r =
    let b = times_behind (l ∷ ls) (joined c ++ rest) n refl t
    (subst (λ (x : List Lift). rises_from n (times_of x) ≡ true) (append_assoc (l ∷ ls) (joined c) rest) r) in
    let a = segments_behind c rest s b.goes_on in
    record { segments = G.more b.times a.segments; goes_on = a.goes_on }
segments_behind ([] ∷ c) rest s r = elim s [ ]

-- the times of form 0, from the first retained lift on
pub record StrictTimes (closed : List (List Lift)) (current : List Lift) (next : ℕ) : Type 0 where
  pub begun : ℕ
  pub closed_times_lem : Segments 1 (first_start closed current next) closed begun
  pub current_times : Times 1 begun current next

-- next time of form 0 is one past that of form 1 where a lift is retained
pub strict_times : (closed : List (List Lift)) (current : List Lift) (next : ℕ) {n k m : ℕ} → Segments 0 n closed k → Times 0 k current m
    → rises (times_of (joined closed ++ current)) ≡ true → (0 < length closed + length current → m + 1 ≡ next) → StrictTimes closed current next
unfolding rises joined
strict_times [] [] next G.none G.none r e = record { begun = next; closed_times_lem = G.none; current_times = G.none }
strict_times [] (l ∷ ls) next G.none (G.more a t) r e =
    let z : l.time + 0 ≡ l.time = omega arith in
    let b = times_behind ls [] l.time z t (subst (λ (x : List Lift). rises_from l.time (times_of x) ≡ true) (sym (append-nil ls)) r) in
    record {
      begun = l.time;
      closed_times_lem = G.none;
      current_times = G.more (le_refl _) (subst (λ (x : ℕ). Times 1 (l.time + 1) ls x) (e (omega arith)) b.times);
    }
strict_times ((l ∷ ls) ∷ c) current next {k = k} (G.more (G.more a u) s) t r e =
    let z : l.time + 0 ≡ l.time = omega arith in
    let b = times_behind ls (joined c ++ current) l.time z u
    (subst (λ (x : List Lift). rises_from l.time (times_of x) ≡ true) (append_assoc ls (joined c) current) r) in
    let d = segments_behind c current s b.goes_on in
    let f = times_behind current [] k refl t (subst (λ (x : List Lift). rises_from k (times_of x) ≡ true) (sym (append-nil current)) d.goes_on) in
    record {
      begun = k + 1;
      closed_times_lem = G.more (G.more (le_refl _) b.times) d.segments;
      current_times = subst (λ (x : ℕ). Times 1 (k + 1) current x) (e (omega arith)) f.times;
    }
strict_times ([] ∷ c) current next s t r e = elim s [ ]

-- ---- to times that rise

times_rise : (ls rest : List Lift) (t : ℕ) {n m : ℕ} → n ≡ t + 1 → Times 1 n ls m
    → ((u : ℕ) → m ≡ u + 1 → rises_from u (times_of rest) ≡ true) → rises_from t (times_of (ls ++ rest)) ≡ true
unfolding rises_from
times_rise [] rest t e G.none f = f t e
times_rise (l ∷ ls) rest t e (G.more a u) f = and_both _ _ (lt-ltb t l.time (omega arith)) (times_rise ls rest l.time refl u f)

segments_rise : (c : List (List Lift)) (rest : List Lift) (t : ℕ) {n m : ℕ} → n ≡ t + 1 → Segments 1 n c m
    → ((u : ℕ) → m ≡ u + 1 → rises_from u (times_of rest) ≡ true) → rises_from t (times_of (joined c ++ rest)) ≡ true
unfolding joined
segments_rise [] rest t e G.none f = f t e
segments_rise ((l ∷ ls) ∷ c) rest t e (G.more a s) f =
    subst (λ (x : List Lift). rises_from t (times_of x) ≡ true) (sym (append_assoc (l ∷ ls) (joined c) rest))
    (times_rise (l ∷ ls) (joined c ++ rest) t e a (λ u q. segments_rise c rest u q s f))
segments_rise ([] ∷ c) rest t e s f = elim s [ ]

last_rise : (ls : List Lift) (t : ℕ) {n m : ℕ} → n ≡ t + 1 → Times 1 n ls m → rises_from t (times_of ls) ≡ true
unfolding rises_from
last_rise ls t e a = subst (λ (x : List Lift). rises_from t (times_of x) ≡ true) (append-nil ls) (times_rise ls [] t e a (λ u q. refl))

pub strict_rises : (closed : List (List Lift)) (current : List Lift) {n k m : ℕ} → Segments 1 n closed k → Times 1 k current m
    → rises (times_of (joined closed ++ current)) ≡ true
unfolding rises joined
strict_rises [] [] s t = refl
strict_rises [] (l ∷ ls) s (G.more a t) = last_rise ls l.time refl t
strict_rises ((l ∷ ls) ∷ c) current (G.more (G.more a u) s) t =
    subst (λ (x : List Lift). rises_from l.time (times_of x) ≡ true) (sym (append_assoc ls (joined c) current))
    (times_rise ls (joined c ++ current) l.time refl u (λ v q. segments_rise c current v q s (λ w p. last_rise current w p t)))
strict_rises ([] ∷ c) current s t = elim s [ ]

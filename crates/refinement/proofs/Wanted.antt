-- What a search wants of lists of lifts: part by part, and nothing of lifts that are all before or all after its times. Assumes
-- nothing.
use mathlib.Core.Path.{◌≡◌, refl, sym, ap, ap₂, ◌∙◌}
use mathlib.Core.Bool.{Bool, true, false, cond, ◌&&◌}
use mathlib.Core.List.{List, [], ◌∷◌, ◌++◌, map, append_assoc}
use Prim.Native.Nat.{ℕ, suc, ◌+◌, ◌<◌}
use native.Mathlib.Omega.{arith}
use lib.Dec.{leb}
use lib.IntN.{ℤ, pos}
use lib.ListN.{length, get_or}
use lib.Signed.{le_z}
use borrow.Author.Tests.{lt-leb}
use Rattle.paper_log.specs.Log.{Lift, wanted, among, joined}
use Rattle.refinement.proofs.Good as G
use Rattle.refinement.proofs.Good.{Times, Segments}
use Rattle.refinement.proofs.InBounds.{times_up, segments_up}

-- what `get_or` gives past the last lift
abbrev pub no_lift : Lift
no_lift = record { time = 0; load = pos 0; note = [] }

pub map_append : {A B : Type 0} (f : A → B) (a b : List A) → map f (a ++ b) ≡ map f a ++ map f b
map_append f [] b = refl
map_append {B = B} f (x ∷ a) b = ap {B = List B} (λ t. f x ∷ t) (map_append f a b)

pub joined_append : (a b : List (List Lift)) → joined (a ++ b) ≡ joined a ++ joined b
unfolding joined
joined_append [] b = refl
joined_append (ls ∷ a) b = ap (λ (x : List Lift). ls ++ x) (joined_append a b) ∙ sym (append_assoc ls (joined a) (joined b))

module _ (t1 t2 : ℕ) (k1 k2 : ℤ) where
  abbrev some_of : List Lift → List Lift
  some_of ls = among t1 t2 k1 k2 ls

  pub among_append : (a b : List Lift) → among t1 t2 k1 k2 (a ++ b) ≡ among t1 t2 k1 k2 a ++ among t1 t2 k1 k2 b
  unfolding among
  among_append [] b = refl
  among_append (l ∷ a) b = go (wanted t1 t2 k1 k2 l) (among_append a b)
    where
      go : (t : Bool) → some_of (a ++ b) ≡ some_of a ++ some_of b
          → cond t (l ∷ some_of (a ++ b)) (some_of (a ++ b)) ≡ cond t (l ∷ some_of a) (some_of a) ++ some_of b
      go true e = ap (λ (x : List Lift). l ∷ x) e
      go false e = e

  step_none : (l : Lift) (ls : List Lift) → wanted t1 t2 k1 k2 l ≡ false → some_of ls ≡ [] → some_of (l ∷ ls) ≡ []
  unfolding among
  step_none l ls e d = go (wanted t1 t2 k1 k2 l) e
    where
      go : (t : Bool) → t ≡ false → cond t (l ∷ some_of ls) (some_of ls) ≡ []
      go true f = cc
      go false f = d

  -- no lift of a list is wanted
  pub none_wanted : (ls : List Lift) → ((p : ℕ) → p < length ls → wanted t1 t2 k1 k2 (get_or ls p no_lift) ≡ false)
      → among t1 t2 k1 k2 ls ≡ []
  unfolding among
  none_wanted [] f = refl
  none_wanted (l ∷ ls) f = step_none l ls (f 0 (omega arith)) (none_wanted ls (λ p h. f (suc p) (omega arith)))

  before_window : (l : Lift) → l.time < t1 → wanted t1 t2 k1 k2 l ≡ false
  before_window l h = rw (lt-leb t1 l.time h)

  after_window : (l : Lift) → t2 < l.time → wanted t1 t2 k1 k2 l ≡ false
  after_window l h = rw (lt-leb l.time t2 h) (go (leb t1 l.time))
    where
      go : (a : Bool) → ((a && false) && (le_z k1 l.load && le_z l.load k2)) ≡ false
      go true = refl
      go false = refl

  -- lifts before the window, and after it
  pub early : {d n m : ℕ} {ls : List Lift} → Times d n ls m → m < t1 + d → among t1 t2 k1 k2 ls ≡ []
  early G.none h = none_wanted [] (λ p q. absurd (omega arith))
  early (G.more {l = l} {ls = ls} a t) h = step_none l ls (before_window l (omega (arith, times_up t))) (early t h)

  pub late : {d n m : ℕ} {ls : List Lift} → Times d n ls m → t2 < n → among t1 t2 k1 k2 ls ≡ []
  late G.none h = none_wanted [] (λ p q. absurd (omega arith))
  late (G.more {l = l} {ls = ls} a t) h = step_none l ls (after_window l (omega arith)) (late t (omega arith))

  two : (a b : List Lift) → some_of a ≡ [] → some_of b ≡ [] → some_of (a ++ b) ≡ []
  two a b p q = among_append a b ∙ ap₂ ◌++◌ p q

  pub early_all : {d n m : ℕ} {c : List (List Lift)} → Segments d n c m → m < t1 + d → among t1 t2 k1 k2 (joined c) ≡ []
  unfolding joined
  early_all G.none h = none_wanted [] (λ p q. absurd (omega arith))
  early_all (G.more {l = l} {ls = ls} {rest = rest} t r) h =
      two (l ∷ ls) (joined rest) (early t (omega (arith, segments_up r))) (early_all r h)

  pub late_all : {d n m : ℕ} {c : List (List Lift)} → Segments d n c m → t2 < n → among t1 t2 k1 k2 (joined c) ≡ []
  unfolding joined
  late_all G.none h = none_wanted [] (λ p q. absurd (omega arith))
  late_all (G.more {l = l} {ls = ls} {rest = rest} t r) h =
      two (l ∷ ls) (joined rest) (late t h) (late_all r (omega (arith, times_up t)))

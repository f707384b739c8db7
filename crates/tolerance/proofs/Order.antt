-- The order of integers, and a natural that moves from one side of it to the other: as differences of naturals, each test is one on
-- naturals. Assumes nothing.
use mathlib.Core.Path.{◌≡◌, refl, sym, ap, ◌∙◌}
use mathlib.Core.Bool.{Bool, true, false, not}
use Prim.Native.Nat.{ℕ, ◌+◌}
use native.Mathlib.Omega.{arith}
use lib.Dec.{leb, ltb}
use lib.IntN.{ℤ, pos, negsuc, sub_ℕ, ◌+ℤ◌, ◌-ℤ◌}
use lib.Signed.{le_z, lt_z}
use borrow.Author.Tests.{leb-true, leb-false, lt-ltb, le-ltb, le-leb}
use Rattle.lift.proofs.Differences as D

-- ---- two and three integers

pub le_self : (x : ℤ) → le_z x x ≡ true
le_self (pos n) = le-leb n n (omega arith)
le_self (negsuc n) = le-leb n n (omega arith)

pub le_trans : (x y z : ℤ) → le_z x y ≡ true → le_z y z ≡ true → le_z x z ≡ true
le_trans (pos a) (pos b) (pos c) h k = le-leb a c (omega (arith, leb-true a b h, leb-true b c k))
le_trans (pos a) (pos b) (negsuc c) h k = k
le_trans (pos a) (negsuc b) z h k = cc
le_trans (negsuc a) y (pos c) h k = refl
le_trans (negsuc a) (pos b) (negsuc c) h k = cc
le_trans (negsuc a) (negsuc b) (negsuc c) h k = le-leb c a (omega (arith, leb-true b a h, leb-true c b k))

pub le_other : (x y : ℤ) → le_z x y ≡ false → le_z y x ≡ true
le_other (pos a) (pos b) h = le-leb b a (omega (arith, leb-false a b h))
le_other (pos a) (negsuc b) h = refl
le_other (negsuc a) (pos b) h = cc
le_other (negsuc a) (negsuc b) h = le-leb a b (omega (arith, leb-false b a h))

-- below is not at or above
below_not : (a b : ℕ) → ltb a b ≡ not (leb b a)
below_not a b = go (leb b a) refl
  where
    go : (t : Bool) → leb b a ≡ t → ltb a b ≡ not t
    go true e = le-ltb a b (leb-true b a e)
    go false e = lt-ltb a b (leb-false b a e)

pub lt_not : (x y : ℤ) → lt_z x y ≡ not (le_z y x)
lt_not (pos a) (pos b) = below_not a b
lt_not (pos a) (negsuc b) = refl
lt_not (negsuc a) (pos b) = refl
lt_not (negsuc a) (negsuc b) = below_not b a

-- ---- d more and d less

pub more : (a b d : ℕ) → sub_ℕ a b +ℤ pos d ≡ sub_ℕ (a + d) b
more a b d =
    ap (λ z. sub_ℕ a b +ℤ z) (sym (D.is_pos d 0 d (omega arith))) ∙ D.add a b d 0 ∙ D.same (a + d) (b + 0) (a + d) b (omega arith)

pub less : (a b d : ℕ) → sub_ℕ a b -ℤ pos d ≡ sub_ℕ a (b + d)
less a b d =
    ap (λ z. sub_ℕ a b -ℤ z) (sym (D.is_pos d 0 d (omega arith))) ∙ D.sub a b d 0 ∙ D.same (a + 0) (b + d) a (b + d) (omega arith)

-- x ≤ y − d where x + d ≤ y
pub less_right : (x y : ℤ) (d : ℕ) → le_z x (y -ℤ pos d) ≡ le_z (x +ℤ pos d) y
less_right x y d =
    D.every (λ x. le_z x (y -ℤ pos d) ≡ le_z (x +ℤ pos d) y)
    (λ a b. D.every (λ y. le_z (sub_ℕ a b) (y -ℤ pos d) ≡ le_z (sub_ℕ a b +ℤ pos d) y)
    (λ c e. rw (less c e d, more a b d)
    (D.le a b c (e + d) (a + e + d) (c + b) (omega arith) ∙ sym (D.le (a + d) b c e (a + e + d) (c + b) (omega arith))))
    y)
    x

-- x − d ≤ y where x ≤ y + d
pub less_left : (x y : ℤ) (d : ℕ) → le_z (x -ℤ pos d) y ≡ le_z x (y +ℤ pos d)
less_left x y d =
    D.every (λ x. le_z (x -ℤ pos d) y ≡ le_z x (y +ℤ pos d))
    (λ a b. D.every (λ y. le_z (sub_ℕ a b -ℤ pos d) y ≡ le_z (sub_ℕ a b) (y +ℤ pos d))
    (λ c e. rw (less a b d, more c e d)
    (D.le a (b + d) c e (a + e) (c + b + d) (omega arith) ∙ sym (D.le a b (c + d) e (a + e) (c + b + d) (omega arith))))
    y)
    x

-- x − d ≤ x ≤ x + d
pub less_self : (x : ℤ) (d : ℕ) → le_z (x -ℤ pos d) x ≡ true
less_self x d =
    D.every (λ x. le_z (x -ℤ pos d) x ≡ true)
    (λ a b. rw (less a b d) (D.le a (b + d) a b 0 d (omega arith) ∙ le-leb 0 d (omega arith)))
    x

pub more_self : (x : ℤ) (d : ℕ) → le_z x (x +ℤ pos d) ≡ true
more_self x d = sym (less_left x x d) ∙ less_self x d

pub less_more : (x : ℤ) (d : ℕ) → le_z (x -ℤ pos d) (x +ℤ pos d) ≡ true
less_more x d = le_trans (x -ℤ pos d) x (x +ℤ pos d) (less_self x d) (more_self x d)

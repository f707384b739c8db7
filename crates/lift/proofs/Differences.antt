-- Integers as differences of two naturals, `sub_ℕ a b` for a − b: each operation and each test on them is one on naturals.
-- Assumes nothing.
use mathlib.Core.Path.{◌≡◌, refl, sym, ap, subst, ◌∙◌}
use mathlib.Core.Bool.{Bool, true, false, cond}
use Prim.Native.Nat.{ℕ, zero, suc, ◌+◌, ◌-◌, ◌*◌, ◌/◌, ◌≤◌, ◌<◌}
use native.Mathlib.Nat.{mul-add-div, div-add-mod, div-eq_of_lt, mod-lt, lt_of_mul-lt-mul_left}
use native.Mathlib.Omega.{arith}
use lib.Dec.{ltb, leb}
use lib.IntN.{ℤ, pos, negsuc, neg_ℤ, sub_ℕ, ◌+ℤ◌, ◌-ℤ◌, ◌*ℤ◌}
use lib.Signed.{lt_z, le_z, shr_z}
use borrow.Author.Tests.{ltb-true, ltb-false, leb-true, leb-false, lt-ltb, le-ltb, le-leb, lt-leb}

-- a difference is n where a = b + n, and −(n + 1) where b = a + (n + 1)
pub by_sign : (a b : ℕ) (P : ℤ → Type 0)
    → ((n : ℕ) → a ≡ b + n → P (pos n))
    → ((n : ℕ) → b ≡ a + suc n → P (negsuc n))
    → P (sub_ℕ a b)
by_sign a b P f g = go (ltb a b) refl
  where
    go : (t : Bool) → ltb a b ≡ t → P (cond t (negsuc (b - suc a)) (pos (a - b)))
    go true e = g (b - suc a) (omega (arith, ltb-true a b e))
    go false e = f (a - b) (omega (arith, ltb-false a b e))

pub is_pos : (a b n : ℕ) → a ≡ b + n → sub_ℕ a b ≡ pos n
is_pos a b n e = by_sign a b (λ z. z ≡ pos n) (λ m p. ap pos (omega arith)) (λ m p. absurd (omega arith))

pub is_neg : (a b n : ℕ) → b ≡ a + suc n → sub_ℕ a b ≡ negsuc n
is_neg a b n e = by_sign a b (λ z. z ≡ negsuc n) (λ m p. absurd (omega arith)) (λ m p. ap negsuc (omega arith))

-- every integer is a difference
pub every : (P : ℤ → Type 0) → ((a b : ℕ) → P (sub_ℕ a b)) → (z : ℤ) → P z
every P f (pos n) = subst P (is_pos n 0 n (omega arith)) (f n 0)
every P f (negsuc n) = subst P (is_neg 0 (suc n) n (omega arith)) (f 0 (suc n))

-- a − b = c − d where a + d = c + b
pub same : (a b c d : ℕ) → a + d ≡ c + b → sub_ℕ a b ≡ sub_ℕ c d
same a b c d e =
    by_sign a b (λ z. z ≡ sub_ℕ c d)
    (λ n p. sym (is_pos c d n (omega arith)))
    (λ n p. sym (is_neg c d n (omega arith)))

pub neg : (a b : ℕ) → neg_ℤ (sub_ℕ a b) ≡ sub_ℕ b a
neg a b = by_sign a b (λ z. neg_ℤ z ≡ sub_ℕ b a) f (λ n p. sym (is_pos b a (suc n) p))
  where
    f : (n : ℕ) → a ≡ b + n → neg_ℤ (pos n) ≡ sub_ℕ b a
    f zero p = sym (is_pos b a 0 (omega arith))
    f (suc n) p = sym (is_neg b a n p)

minus : (n : ℕ) → neg_ℤ (pos n) ≡ sub_ℕ 0 n
minus zero = refl
minus (suc n) = sym (is_neg 0 (suc n) n (omega arith))

pub add : (a b c d : ℕ) → sub_ℕ a b +ℤ sub_ℕ c d ≡ sub_ℕ (a + c) (b + d)
add a b c d =
    by_sign a b (λ z. z +ℤ sub_ℕ c d ≡ sub_ℕ (a + c) (b + d))
    (λ m p. by_sign c d (λ z. pos m +ℤ z ≡ sub_ℕ (a + c) (b + d))
    (λ n q. sym (is_pos (a + c) (b + d) (m + n) (omega arith)))
    (λ n q. same m (suc n) (a + c) (b + d) (omega arith)))
    (λ m p. by_sign c d (λ z. negsuc m +ℤ z ≡ sub_ℕ (a + c) (b + d))
    (λ n q. same n (suc m) (a + c) (b + d) (omega arith))
    (λ n q. sym (is_neg (a + c) (b + d) (suc (m + n)) (omega arith))))

pub sub : (a b c d : ℕ) → sub_ℕ a b -ℤ sub_ℕ c d ≡ sub_ℕ (a + d) (b + c)
sub a b c d = ap (λ z. sub_ℕ a b +ℤ z) (neg c d) ∙ add a b d c

pub mul : (a b c d : ℕ) → sub_ℕ a b *ℤ sub_ℕ c d ≡ sub_ℕ (a * c + b * d) (a * d + b * c)
mul a b c d =
    by_sign a b (λ z. z *ℤ sub_ℕ c d ≡ sub_ℕ (a * c + b * d) (a * d + b * c))
    (λ m p. by_sign c d (λ z. pos m *ℤ z ≡ sub_ℕ (a * c + b * d) (a * d + b * c))
    (λ n q. sym (is_pos (a * c + b * d) (a * d + b * c) (m * n) (rw (p, q) (omega arith))))
    (λ n q. minus (m * suc n) ∙ same 0 (m * suc n) (a * c + b * d) (a * d + b * c) (rw (p, q) (omega arith))))
    (λ m p. by_sign c d (λ z. negsuc m *ℤ z ≡ sub_ℕ (a * c + b * d) (a * d + b * c))
    (λ n q. minus (suc m * n) ∙ same 0 (suc m * n) (a * c + b * d) (a * d + b * c) (rw (p, q) (omega arith)))
    (λ n q. sym (is_pos (a * c + b * d) (a * d + b * c) (suc m * suc n) (rw (p, q) (omega arith)))))

-- two tests on naturals are one where each says what the other does
same_ltb : (m n p q : ℕ) → (m < n → p < q) → (n ≤ m → q ≤ p) → ltb m n ≡ ltb p q
same_ltb m n p q f g = go (ltb m n) refl
  where
    go : (t : Bool) → ltb m n ≡ t → t ≡ ltb p q
    go true e = sym (lt-ltb p q (f (ltb-true m n e)))
    go false e = sym (le-ltb p q (g (ltb-false m n e)))

same_leb : (m n p q : ℕ) → (m ≤ n → p ≤ q) → (n < m → q < p) → leb m n ≡ leb p q
same_leb m n p q f g = go (leb m n) refl
  where
    go : (t : Bool) → leb m n ≡ t → t ≡ leb p q
    go true e = sym (le-leb p q (f (leb-true m n e)))
    go false e = sym (lt-leb p q (g (leb-false m n e)))

-- a − b < c − d is a test on any p and q that differ as much
pub lt : (a b c d p q : ℕ) → a + d + q ≡ c + b + p → lt_z (sub_ℕ a b) (sub_ℕ c d) ≡ ltb p q
lt a b c d p q e =
    by_sign a b (λ z. lt_z z (sub_ℕ c d) ≡ ltb p q)
    (λ m i. by_sign c d (λ z. lt_z (pos m) z ≡ ltb p q)
    (λ n j. same_ltb m n p q (λ h. omega arith) (λ h. omega arith))
    (λ n j. sym (le-ltb p q (omega arith))))
    (λ m i. by_sign c d (λ z. lt_z (negsuc m) z ≡ ltb p q)
    (λ n j. sym (lt-ltb p q (omega arith)))
    (λ n j. same_ltb n m p q (λ h. omega arith) (λ h. omega arith)))

pub le : (a b c d p q : ℕ) → a + d + q ≡ c + b + p → le_z (sub_ℕ a b) (sub_ℕ c d) ≡ leb p q
le a b c d p q e =
    by_sign a b (λ z. le_z z (sub_ℕ c d) ≡ leb p q)
    (λ m i. by_sign c d (λ z. le_z (pos m) z ≡ leb p q)
    (λ n j. same_leb m n p q (λ h. omega arith) (λ h. omega arith))
    (λ n j. sym (lt-leb p q (omega arith))))
    (λ m i. by_sign c d (λ z. le_z (negsuc m) z ≡ leb p q)
    (λ n j. sym (le-leb p q (omega arith)))
    (λ n j. same_leb n m p q (λ h. omega arith) (λ h. omega arith)))

-- two naturals above their integers by one offset compare as these do
pub lt_offset : (k a b : ℕ) → lt_z (sub_ℕ a k) (sub_ℕ b k) ≡ ltb a b
lt_offset k a b = lt a k b k a b (omega arith)

pub le_offset : (k a b : ℕ) → le_z (sub_ℕ a k) (sub_ℕ b k) ≡ leb a b
le_offset k a b = le a k b k a b (omega arith)

-- two naturals that sum to one less than m·k have quotients that sum to one less than k
complement : (m k a n : ℕ) → 0 < m → m * k ≡ a + suc n → k ≡ a / m + suc (n / m)
complement m k a n p e =
    let ra = mod-lt a p in
    let rn = mod-lt n p in
    let da = div-add-mod a m in
    let dn = div-add-mod n m in
    let s : ℕ = a / m + n / m in
    let above : s < k = lt_of_mul-lt-mul_left m (omega arith) in
    let below : k < s + 2 = lt_of_mul-lt-mul_left m (omega arith) in
    omega arith

-- rounded down: (a − mk) / m = a / m − k
pub down : (m a k : ℕ) → 0 < m → shr_z (sub_ℕ a (m * k)) m ≡ sub_ℕ (a / m) k
down m a k h =
    by_sign a (m * k) (λ z. shr_z z m ≡ sub_ℕ (a / m) k)
    (λ n p. sym (is_pos (a / m) k (n / m) (rw p (mul-add-div h k n))))
    (λ n p. sym (is_neg (a / m) k (n / m) (complement m k a n h p)))

-- rounded up: (a − mk) / m = q − k, where mq is the first multiple of m from a on
pub up : (m a k q c : ℕ) → a + c ≡ m * q → c < m → neg_ℤ (shr_z (neg_ℤ (sub_ℕ a (m * k))) m) ≡ sub_ℕ q k
up m a k q c e l =
    let h : 0 < m = omega arith in
    let d : (m * k + c) / m ≡ k = mul-add-div h k c ∙ ap (λ (n : ℕ). k + n) (div-eq_of_lt l) ∙ omega arith in
    let s : neg_ℤ (sub_ℕ a (m * k)) ≡ sub_ℕ (m * k + c) (m * q) = neg a (m * k) ∙ same (m * k) a (m * k + c) (m * q) (omega arith) in
    ap (λ z. neg_ℤ (shr_z z m)) s ∙ ap neg_ℤ (down m (m * k + c) q h ∙ ap (λ (n : ℕ). sub_ℕ n q) d) ∙ neg k q

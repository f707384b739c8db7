-- A number right-justified: its digits from the last one back, as the code writes them; how wide it is. The idea: the last column
-- holds the last digit, and the columns before it the number without that digit. Assumes nothing.
use mathlib.Core.Path.{◌≡◌, refl, sym, ap, ◌∙◌}
use mathlib.Core.Bool.{Bool, true, false, cond}
use mathlib.Core.List.{List, [], ◌∷◌, ◌++◌, append_assoc, append-nil}
use Prim.Native.Nat.{ℕ, zero, suc, ◌+◌, ◌-◌, ◌*◌, ◌/◌, ◌%◌, ◌^◌, ◌≤◌, ◌<◌}
use native.Mathlib.Nat.{pow-suc, pow-zero}
use native.Mathlib.Omega.{arith}
use borrow.Author.Tests.{lt-ltb, le-ltb, ltb-true, ltb-false, leb-true, leb-false}
use lib.Dec.{leb, ltb}
use lib.ListN.{length, drop, length-append, length-drop}
use lib.Seq.{drop-append-le, drop-length}
use Rattle.codec.specs.Area.{repeated}
use Rattle.codec.proofs.Areas.{length_repeated, repeated_append}
use Rattle.answers.specs.declared.Pen.TheVariants.{Digits, Spaces}
use Rattle.answers.specs.Printed.{digit, digits_within, digits, numeral, spaces, justified, columns}
use Rattle.answers.specs.Inner.Pen.{lead, columns_of}

-- ---- digits

enough : (m n v : ℕ) → v < m → v < n → digits_within m v ≡ digits_within n v
unfolding digits_within
enough zero n v h k = absurd (omega arith)
enough (suc m) zero v h k = absurd (omega arith)
enough (suc m) (suc n) v h k = go (ltb v 10) refl (enough m n (v / 10))
  where
    go : (t : Bool) → ltb v 10 ≡ t
        → (v / 10 < m → v / 10 < n → digits_within m (v / 10) ≡ digits_within n (v / 10))
        → cond t (digit v ∷ []) (digits_within m (v / 10) ++ (digit (v % 10) ∷ []))
        ≡ cond t (digit v ∷ []) (digits_within n (v / 10) ++ (digit (v % 10) ∷ []))
    go true e ih = refl
    go false e ih = let l = ltb-false v 10 e in rw (ih (omega arith) (omega arith))

pub digits_one : (v : ℕ) → v < 10 → digits v ≡ digit v ∷ []
unfolding digits digits_within
digits_one v h = rw (lt-ltb v 10 h)

pub digits_more : (v : ℕ) → 10 ≤ v → digits v ≡ digits (v / 10) ++ (digit (v % 10) ∷ [])
unfolding digits digits_within
digits_more v h = rw (le-ltb v 10 h, enough v (suc (v / 10)) (v / 10) (omega arith) (omega arith))

-- a number below 10 ^ j has at most j digits
pub digits_few : (j v : ℕ) → 0 < j → v < 10 ^ j → length (digits v) ≤ j
digits_few zero v z h = absurd (omega arith)
digits_few (suc j) v z h = go (ltb v 10) refl (digits_few j (v / 10))
  where
    some : (j : ℕ) → 10 ≤ v → v / 10 < 10 ^ j → 0 < j
    some zero l k = absurd (omega (arith, rw pow-zero at k))
    some (suc j) l k = omega arith

    go : (t : Bool) → ltb v 10 ≡ t → (0 < j → v / 10 < 10 ^ j → length (digits (v / 10)) ≤ j) → length (digits v) ≤ suc j
    go true e ih = rw (digits_one v (ltb-true v 10 e)) (omega arith)
    go false e ih =
        let l = ltb-false v 10 e in
        let p : v < 10 ^ j * 10 = rw pow-suc at h in
        let q : v / 10 < 10 ^ j = omega arith in
        let r = ih (some j l q) q in
        rw (digits_more v l) (simp length-append (omega arith))

pub numeral_few : (j v : ℕ) (minus : Bool) → 0 < j → v < 10 ^ j → length (numeral minus v) ≤ j + cond minus 1 0
numeral_few j v true z h = omega (arith, digits_few j v z h)
numeral_few j v false z h = omega (arith, digits_few j v z h)

-- ---- right-justified

pub length_justified : (w : ℕ) (text : List ℕ) → length (justified w text) ≡ w
unfolding justified
length_justified w text = simp (length-drop, length-append, length_repeated) (omega arith)

fewer : (n w : ℕ) → drop n (spaces w) ≡ spaces (w - n)
unfolding repeated
fewer zero w = let e : w - 0 ≡ w = omega arith in rw e
fewer (suc n) zero = let e : 0 - suc n ≡ 0 = omega arith in rw e
fewer (suc n) (suc w) = let e : suc w - suc n ≡ w - n = omega arith in rw e (fewer n w)

-- where it fits, it stands whole after spaces
pub justified_fits : (w : ℕ) (text : List ℕ) → length text ≤ w → justified w text ≡ spaces (w - length text) ++ text
unfolding justified
justified_fits w text h =
    let l : length text ≤ length (spaces w) = omega (arith, length_repeated w 32) in
    rw (drop-append-le (length text) (spaces w) text l, fewer (length text) w)

justified_zero : (text : List ℕ) → justified 0 text ≡ []
unfolding justified repeated
justified_zero text = drop-length text

justified_last : (w : ℕ) (text : List ℕ) (b : ℕ) → justified (suc w) (text ++ (b ∷ [])) ≡ justified w text ++ (b ∷ [])
unfolding justified repeated
justified_last w text b =
    let n : length (text ++ (b ∷ [])) ≡ suc (length text) = simp length-append (omega arith) in
    let l : length text ≤ length (spaces w ++ text) = simp length-append (omega arith) in
    rw (n, ← append_assoc (spaces w) text (b ∷ [])) (drop-append-le (length text) (spaces w ++ text) (b ∷ []) l)

-- ---- as the code writes it

abbrev sign : Bool → List ℕ
sign minus = cond minus (45 ∷ []) []

-- spaces alone, and the minus after them
blank : (w : ℕ) → columns_of w Spaces ≡ justified w []
unfolding columns_of justified repeated
blank zero = refl
blank (suc w) =
    let n : w + 1 ≡ suc w = omega arith in
    let e : spaces w ++ (32 ∷ []) ≡ spaces (suc w) = repeated_append w 1 32 ∙ ap (λ (k : ℕ). spaces k) n in
    ap (λ (l : List ℕ). l ++ (32 ∷ [])) (blank w ∙ append-nil (spaces w)) ∙ e ∙ sym (append-nil (spaces (suc w)))

lead_written : (w : ℕ) (minus : Bool) → columns_of w (lead minus) ≡ justified w (sign minus)
unfolding columns_of
lead_written w false = blank w
lead_written zero true = sym (justified_zero (45 ∷ []))
lead_written (suc w) true = ap (λ (l : List ℕ). l ++ (45 ∷ [])) (blank w) ∙ sym (justified_last w [] 45)

numeral_more : (v : ℕ) (minus : Bool) → 10 ≤ v → numeral minus (v / 10) ++ (digit (v % 10) ∷ []) ≡ numeral minus v
numeral_more v true h = rw (digits_more v h)
numeral_more v false h = rw (digits_more v h)

numeral_one : (v : ℕ) (minus : Bool) → v < 10 → sign minus ++ (digit (v % 10) ∷ []) ≡ numeral minus v
numeral_one v minus h = let e : v % 10 ≡ v = omega arith in go minus e
  where
    go : (t : Bool) → v % 10 ≡ v → sign t ++ (digit (v % 10) ∷ []) ≡ numeral t v
    go true e = rw (digits_one v h, e)
    go false e = rw (digits_one v h, e)

-- the columns that the code writes are the number's, right-justified
pub pen_written : (w v : ℕ) (minus : Bool) → columns_of w (Digits v minus) ≡ columns w minus v
unfolding columns_of
pen_written zero v minus = sym (justified_zero (numeral minus v))
pen_written (suc w) v minus = go (leb 10 v) refl (pen_written w (v / 10) minus)
  where
    go : (t : Bool) → leb 10 v ≡ t → columns_of w (Digits (v / 10) minus) ≡ columns w minus (v / 10)
        → columns_of w (cond t (Digits (v / 10) minus) (lead minus)) ++ (digit (v % 10) ∷ []) ≡ columns (suc w) minus v
    go true e ih =
        ap (λ (l : List ℕ). l ++ (digit (v % 10) ∷ [])) ih ∙ sym (justified_last w (numeral minus (v / 10)) (digit (v % 10)))
        ∙ ap (justified (suc w)) (numeral_more v minus (leb-true 10 v e))
    go false e ih =
        ap (λ (l : List ℕ). l ++ (digit (v % 10) ∷ [])) (lead_written w minus)
        ∙ sym (justified_last w (sign minus) (digit (v % 10)))
        ∙ ap (justified (suc w)) (numeral_one v minus (leb-false 10 v e))

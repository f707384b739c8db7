-- The turns of the loops that print. The idea: what is left to write, written, gives what the whole gives. Assumes nothing.
use mathlib.Core.Path.{◌≡◌, refl, sym, ap, ap₂, ◌∙◌}
use mathlib.Core.Bool.{true, false, cond}
use mathlib.Core.List.{List, [], ◌∷◌, ◌++◌, append_assoc}
use Prim.Native.Nat.{ℕ, zero, suc, ◌+◌, ◌-◌, ◌*◌, ◌≤◌, ◌<◌}
use native.Mathlib.Numerals.{add-one}
use native.Mathlib.Omega.{arith}
use borrow.Author.Tests.{lt-ltb, le-ltb}
use lib.Dec.{ltb}
use lib.ListN.{length, take, drop, get_or, set, length-append, length-set}
use lib.Seq.{append_snoc, take-set-le, drop-set-lt, drop-cons, get_or-set_same, drop-length}
use Rattle.codec.specs.Area.{splice}
use Rattle.codec.proofs.Areas.{splice_none, splice_next}
use Rattle.lift.specs.Limits.{load_of}
use Rattle.lift.proofs.Differences as D
use Rattle.answers.specs.declared.Pen.{Pen}
use Rattle.answers.specs.Printed.{columns, number, count_bytes, counts_bytes, load_bytes}
use Rattle.answers.specs.Inner.Pen.{pen_byte, pen_next, columns_of}
use Rattle.answers.proofs.Justified.{length_justified}

pub length_columns : (w : ℕ) (p : Pen) → length (columns_of w p) ≡ w
unfolding columns_of
length_columns zero p = refl
length_columns (suc w) p =
    length-append (columns_of w (pen_next p)) (pen_byte p ∷ []) ∙ omega (arith, length_columns w (pen_next p))

-- a byte stored, and a list before it, are one splice
pub splice_last : (s : List ℕ) (at : ℕ) (l : List ℕ) (b k : ℕ) → at + length l ≡ k → k < length s
    → splice (set s k b) at l ≡ splice s at (l ++ (b ∷ []))
unfolding splice
splice_last s at l b k e h =
    let n : at + length (l ++ (b ∷ [])) ≡ suc k = simp length-append (omega arith) in
    let t : take at (set s k b) ≡ take at s = take-set-le at s k b (omega arith) in
    let m : k < length (set s k b) = simp length-set (omega arith) in
    let d : drop k (set s k b) ≡ b ∷ drop (suc k) s =
    drop-cons (set s k b) k 0 m ∙ ap₂ (λ (x : ℕ) (y : List ℕ). x ∷ y) (get_or-set_same s k b 0 h)
    (drop-set-lt (suc k) s k b (omega arith)) in
    rw (e, n, t, d, ← append_assoc (take at s) l (b ∷ [])) (sym (append_snoc (take at s ++ l) b (drop (suc k) s)))

-- a turn of `put_number`
pub column_step : (s : List ℕ) (at left : ℕ) (p : Pen) → 0 < left → at + left ≤ length s
    → splice (set s (at + (left - 1)) (pen_byte p)) at (columns_of (left - 1) (pen_next p)) ≡ splice s at (columns_of left p)
unfolding columns_of
column_step s at zero p h k = absurd (omega arith)
column_step s at (suc w) p h k =
    let e : suc w - 1 ≡ w = omega arith in
    let l : length (columns_of w (pen_next p)) ≡ w = length_columns w (pen_next p) in
    rw e (splice_last s at (columns_of w (pen_next p)) (pen_byte p) (at + w) (omega arith) (omega arith))

pub columns_done : (s t : List ℕ) (at left : ℕ) (p : Pen) → left ≤ 0 → splice s at (columns_of left p) ≡ t → s ≡ t
unfolding columns_of
columns_done s t at left p h e =
    let z : left ≡ 0 = omega arith in
    sym (splice_none s at (columns_of left p) (rw z)) ∙ e

-- a turn of `put_counts`
pub count_step : (s ns : List ℕ) (i : ℕ) → i < length ns → 4 + 7 * (i + 1) ≤ length s
    → splice (splice s (4 + 7 * i) (count_bytes (get_or ns i 0))) (4 + 7 * (i + 1)) (counts_bytes (drop (i + 1) ns))
    ≡ splice s (4 + 7 * i) (counts_bytes (drop i ns))
unfolding counts_bytes
count_step s ns i h k =
    let l : length (count_bytes (get_or ns i 0)) ≡ 7 = length_justified 7 _ in
    rw (add-one i, drop-cons ns i 0)
    (splice_next s (4 + 7 * i) (count_bytes (get_or ns i 0)) (4 + 7 * suc i) (counts_bytes (drop (suc i) ns)) (omega arith)
    (omega arith))

pub counts_done : (s t ns : List ℕ) (at i : ℕ) → length ns ≡ i → splice s at (counts_bytes (drop i ns)) ≡ t → s ≡ t
unfolding counts_bytes
counts_done s t ns at i h e =
    let d : drop i ns ≡ [] = rw (← h) (drop-length ns) in
    sym (splice_none s at (counts_bytes (drop i ns)) (rw d)) ∙ e

-- a load printed from the number it is stored as: its sign and its size
pub load_printed : (code : ℕ) → columns 8 (ltb code 50001) (cond (ltb code 50001) (50001 - code) (code - 50001))
    ≡ load_bytes (load_of code)
unfolding load_bytes
load_printed code = D.by_sign code 50001 (λ z. columns 8 (ltb code 50001) (cond (ltb code 50001) (50001 - code) (code - 50001))
    ≡ load_bytes z)
    (λ n e. let t : ltb code 50001 ≡ false = le-ltb code 50001 (omega arith) in
    let v : code - 50001 ≡ n = omega arith in rw (t, v))
    (λ n e. let t : ltb code 50001 ≡ true = lt-ltb code 50001 (omega arith) in
    let v : 50001 - code ≡ suc n = omega arith in rw (t, v))

-- a byte stored is a splice
pub byte_stored : (s : List ℕ) (k b : ℕ) → k < length s → set s k b ≡ splice s k (b ∷ [])
byte_stored s k b h = sym (splice_none (set s k b) k [] refl) ∙ splice_last s k [] b k (omega arith) h

-- a first byte, and what is put after it, are one splice
pub head_printed : (s : List ℕ) (b : ℕ) (p : List ℕ) → 1 + length p ≤ length s → splice (set s 0 b) 1 p ≡ splice s 0 (b ∷ p)
head_printed s b p h =
    ap (λ (t : List ℕ). splice t 1 p) (byte_stored s 0 b (omega arith)) ∙ splice_next s 0 (b ∷ []) 1 p refl (omega arith)

-- a time, and a load after it
pub lift_printed : (s : List ℕ) (time code : ℕ) → 23 ≤ length s
    → splice (splice s 0 (number 15 time)) 15
    (columns 8 (ltb code 50001) (cond (ltb code 50001) (50001 - code) (code - 50001)))
    ≡ splice s 0 (number 15 time ++ load_bytes (load_of code))
lift_printed s time code h =
    let l : length (number 15 time) ≡ 15 = length_justified 15 _ in
    rw (load_printed code) (splice_next s 0 (number 15 time) 15 (load_bytes (load_of code)) (omega arith) (omega arith))

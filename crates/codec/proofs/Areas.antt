-- Laws of `part` and `splice`: what was put is what is read, a write elsewhere changes nothing, areas that agree at every part are equal.
-- Each is stated once, over the place and the width; the idea is to compare byte by byte. Assumes nothing.
use mathlib.Core.Path.{◌≡◌, refl, sym, ap, subst, ◌∙◌}
use mathlib.Core.Logic.{◌⊎◌, inl, inr, ⊎_elim}
use mathlib.Core.Bool.{Bool, true, false, ◌&&◌}
use mathlib.Core.List.{List, [], ◌∷◌, ◌++◌, append_assoc, append-nil}
use Prim.Native.Nat.{ℕ, zero, suc, ◌+◌, ◌-◌, ◌*◌, ◌/◌, ◌%◌, ◌≤◌, ◌<◌}
use native.Mathlib.Nat.{div-lt_iff_lt-mul, div-add-mod', mod-lt}
use native.Mathlib.Decide.{dec_lt, dec_le}
use native.Mathlib.Omega.{arith}
use lib.ListN.{length, take, drop, get_or, length-append, length-take, length-drop, replicate, length-replicate, get_or-replicate}
use lib.ListN.{get_or-append, replicate-append-replicate, take-append-drop}
use lib.Seq.{take-append-le, drop-append-le, take-append-add, drop-append-add}
use lib.Seq.{length-take-le, drop-drop, take_all, take-add, take_at, drop_at, get_or-take, get_or-drop, get_or-append-add, ext_get_or}
use borrow.Author.Tests.{eqb-true}
use lib.Dec.{eqb}
use Rattle.codec.specs.Area.{part, splice, repeated, all_ones}

-- ---- a part

pub length_part : (s : List ℕ) (at n : ℕ) → at + n ≤ length s → length (part s at n) ≡ n
unfolding part
length_part s at n h = simp (length-take, length-drop) (omega arith)

-- byte i of a part
pub get_d_part : (s : List ℕ) (at n i : ℕ) → i < n → get_or (part s at n) i 0 ≡ get_or s (at + i) 0
unfolding part
get_d_part s at n i h = rw (get_or-take, get_or-drop)

-- the whole area
pub part_all : (s : List ℕ) (n : ℕ) → length s ≡ n → part s 0 n ≡ s
unfolding part
part_all s n h = take_all n s (omega arith)

-- a part in two pieces
pub part_add : (s : List ℕ) (at m n : ℕ) → part s at (m + n) ≡ part s at m ++ part s (at + m) n
unfolding part
part_add s at m n = take-add m n (drop at s) ∙ ap (λ (l : List ℕ). take m (drop at s) ++ take n l) (drop-drop m at s)

-- two parts are equal where their bytes are
pub parts_equal : (s t : List ℕ) (a b n : ℕ) → a + n ≤ length s → b + n ≤ length t
    → ((i : ℕ) → i < n → get_or s (a + i) 0 ≡ get_or t (b + i) 0) → part s a n ≡ part t b n
parts_equal s t a b n h k e =
    let p = length_part s a n h in
    ext_get_or 0 (part s a n) (part t b n) (p ∙ sym (length_part t b n k)) (λ i l.
    let j : i < n = omega arith in
    get_d_part s a n i j ∙ e i j ∙ sym (get_d_part t b n i j))

-- a part of a part
pub part_part : (s : List ℕ) (a n b m : ℕ) → a + n ≤ length s → b + m ≤ n → part (part s a n) b m ≡ part s (a + b) m
part_part s a n b m h k =
    let p = length_part s a n h in
    parts_equal (part s a n) s b (a + b) m (omega arith) (omega arith) (λ i l.
    let e : a + (b + i) ≡ a + b + i = omega arith in
    get_d_part s a n (b + i) (omega arith) ∙ ap (λ (j : ℕ). get_or s j 0) e)

-- areas of n parts of width w that agree at every part are equal
pub agree_at_parts : (s t : List ℕ) (w n : ℕ) → 0 < w → length s ≡ n * w → length t ≡ n * w
    → ((k : ℕ) → k < n → part s (k * w) w ≡ part t (k * w) w) → s ≡ t
agree_at_parts s t w n p ls lt e = ext_get_or 0 s t (ls ∙ sym lt) (λ i h. byte i (omega arith))
  where
    byte : (i : ℕ) → i < n * w → get_or s i 0 ≡ get_or t i 0
    byte i h =
        let q : i / w < n = (div-lt_iff_lt-mul p).1 h in
        let r : i % w < w = mod-lt i p in
        let d : i / w * w + i % w ≡ i = div-add-mod' i w in
        ap (λ (j : ℕ). get_or s j 0) (sym d) ∙ sym (get_d_part s (i / w * w) w (i % w) r)
        ∙ ap (λ (l : List ℕ). get_or l (i % w) 0) (e (i / w) q)
        ∙ get_d_part t (i / w * w) w (i % w) r ∙ ap (λ (j : ℕ). get_or t j 0) d

-- a part of two areas side by side, within the first and within the second
pub part_append_left : (p q : List ℕ) (at n : ℕ) → at + n ≤ length p → part (p ++ q) at n ≡ part p at n
part_append_left p q at n h =
    let l = length-append p q in
    parts_equal (p ++ q) p at at n (omega arith) h (λ i j. get_or-append p q 0 (at + i) (omega arith))

pub part_append_right : (p q : List ℕ) (at to n : ℕ) → length p + at ≡ to → at + n ≤ length q → part (p ++ q) to n ≡ part q at n
part_append_right p q at to n e h =
    let l = length-append p q in
    parts_equal (p ++ q) q to at n (omega arith) h (λ i j.
    let k : to + i ≡ length p + (at + i) = omega arith in
    ap (λ (m : ℕ). get_or (p ++ q) m 0) k ∙ get_or-append-add p q (at + i) 0)

-- the part of a slice from a to e
pub part_from : (s : List ℕ) (a e n : ℕ) → e ≡ a + n → take (e - a) (drop a s) ≡ part s a n
unfolding part
part_from s a e n h =
    let d : e - a ≡ n = omega arith in
    rw d

-- ---- bytes of one value

pub length_repeated : (n v : ℕ) → length (repeated n v) ≡ n
unfolding repeated
length_repeated n v = length-replicate n v

pub get_or_repeated : (n v i : ℕ) → i < n → get_or (repeated n v) i 0 ≡ v
unfolding repeated
get_or_repeated n v i h = get_or-replicate n i v 0 h

pub repeated_append : (a b v : ℕ) → repeated a v ++ repeated b v ≡ repeated (a + b) v
unfolding repeated
repeated_append a b v = replicate-append-replicate a b v

pub part_repeated : (n v at m : ℕ) → at + m ≤ n → part (repeated n v) at m ≡ repeated m v
part_repeated n v at m h =
    let l = length_repeated n v in
    let k = length_repeated m v in
    parts_equal (repeated n v) (repeated m v) at 0 m (omega arith) (omega arith) (λ i j.
    get_or_repeated n v (at + i) (omega arith) ∙ sym (get_or_repeated m v (0 + i) (omega arith))) ∙ part_all (repeated m v) m k

-- ---- all 255

pub ones_repeated : (n : ℕ) → all_ones (repeated n 255) ≡ true
unfolding repeated all_ones
ones_repeated zero = refl
ones_repeated (suc n) = ones_repeated n

-- an area that is all 255 is that many bytes of 255
pub repeated_ones : (s : List ℕ) → all_ones s ≡ true → s ≡ repeated (length s) 255
unfolding repeated all_ones
repeated_ones [] e = refl
repeated_ones (b ∷ s) e = go (eqb b 255) refl e (repeated_ones s)
  where
    go : (t : Bool) → eqb b 255 ≡ t → (t && all_ones s) ≡ true → (all_ones s ≡ true → s ≡ replicate (length s) 255)
        → b ∷ s ≡ 255 ∷ replicate (length s) 255
    go true q r ih = let z : b ≡ 255 = eqb-true b 255 q in rw (z, ← ih r)
    go false q r ih = cc

-- ---- a splice

pub length_splice : (s : List ℕ) (at : ℕ) (p : List ℕ) → at + length p ≤ length s → length (splice s at p) ≡ length s
unfolding splice
length_splice s at p h = simp (length-append, length-take, length-drop) (omega arith)

module _ (s : List ℕ) (at : ℕ) (p : List ℕ) (h : at + length p ≤ length s) where
  front : length (take at s) ≡ at
  front = length-take-le at s (omega arith)

  front_p : length (take at s ++ p) ≡ at + length p
  front_p = length-append (take at s) p ∙ ap (λ (n : ℕ). n + length p) front

  -- a byte before the splice, in it, after it
  pub byte_before : (i : ℕ) → i < at → get_or (splice s at p) i 0 ≡ get_or s i 0
  unfolding splice
  byte_before i l =
      let f = front in
      let g = front_p in
      get_or-append (take at s ++ p) (drop (at + length p) s) 0 i (omega arith)
      ∙ get_or-append (take at s) p 0 i (omega arith) ∙ get_or-take at s i 0 l

  pub byte_inside : (i : ℕ) → i < length p → get_or (splice s at p) (at + i) 0 ≡ get_or p i 0
  unfolding splice
  byte_inside i l =
      let f = front in
      let g = front_p in
      get_or-append (take at s ++ p) (drop (at + length p) s) 0 (at + i) (omega arith)
      ∙ ap (λ (j : ℕ). get_or (take at s ++ p) (j + i) 0) (sym front) ∙ get_or-append-add (take at s) p i 0

  pub byte_after : (i : ℕ) → at + length p ≤ i → get_or (splice s at p) i 0 ≡ get_or s i 0
  unfolding splice
  byte_after i l =
      let d : at + length p + (i - (at + length p)) ≡ i = omega arith in
      ap (λ (j : ℕ). get_or (take at s ++ p ++ drop (at + length p) s) j 0) (sym d)
      ∙ ap (λ (j : ℕ). get_or (take at s ++ p ++ drop (at + length p) s) (j + (i - (at + length p))) 0) (sym front_p)
      ∙ get_or-append-add (take at s ++ p) (drop (at + length p) s) (i - (at + length p)) 0
      ∙ get_or-drop (at + length p) s (i - (at + length p)) 0 ∙ ap (λ (j : ℕ). get_or s j 0) d

  -- a part before the splice, inside it, after it
  pub part_before : (to n : ℕ) → to + n ≤ at → part (splice s at p) to n ≡ part s to n
  part_before to n l =
      let m = length_splice s at p h in
      parts_equal (splice s at p) s to to n (omega arith) (omega arith) (λ i j. byte_before (to + i) (omega arith))

  pub part_inside : (to n : ℕ) → to + n ≤ length p → part (splice s at p) (at + to) n ≡ part p to n
  part_inside to n l =
      let m = length_splice s at p h in
      parts_equal (splice s at p) p (at + to) to n (omega arith) l (λ i j.
      let e : at + to + i ≡ at + (to + i) = omega arith in
      ap (λ (k : ℕ). get_or (splice s at p) k 0) e ∙ byte_inside (to + i) (omega arith))

  pub part_after : (to n : ℕ) → at + length p ≤ to → to + n ≤ length s → part (splice s at p) to n ≡ part s to n
  part_after to n l k =
      let m = length_splice s at p h in
      parts_equal (splice s at p) s to to n (omega arith) k (λ i j. byte_after (to + i) (omega arith))

  -- what was put is what is read
  pub part_splice : (n : ℕ) → length p ≡ n → part (splice s at p) at n ≡ p
  part_splice n e =
      let z : at + 0 ≡ at = omega arith in
      ap (λ (k : ℕ). part (splice s at p) k n) (sym z) ∙ part_inside 0 n (omega arith) ∙ part_all p n e

-- a byte of a splice, wherever it stands: a property that holds of the new bytes inside and of the old ones outside
pub splice_bytes : (P : ℕ → ℕ → Type 0) (s : List ℕ) (at : ℕ) (p : List ℕ) → at + length p ≤ length s
    → ((i : ℕ) → i < length p → P (at + i) (get_or p i 0)) → ((i : ℕ) → (i < at) ⊎ (at + length p ≤ i) → P i (get_or s i 0))
    → (i : ℕ) → P i (get_or (splice s at p) i 0)
splice_bytes P s at p h new old i = go (dec_lt i at) (dec_le (at + length p) i)
  where
    go : Dec (i < at) → Dec (at + length p ≤ i) → P i (get_or (splice s at p) i 0)
    go (yes l) d = rw (byte_before s at p h i l) (old i (inl l))
    go (no l) (yes k) = rw (byte_after s at p h i k) (old i (inr k))
    go (no l) (no k) =
        let e : at + (i - at) ≡ i = omega arith in
        let m : i - at < length p = omega arith in
        subst (λ (j : ℕ). P j (get_or (splice s at p) j 0)) e (rw (byte_inside s at p h (i - at) m) (new (i - at) m))

-- an area spliced with its own part is itself
pub splice_part : (s : List ℕ) (at n : ℕ) → at + n ≤ length s → splice s at (part s at n) ≡ s
splice_part s at n h =
    let l = length_part s at n h in
    let k : at + length (part s at n) ≤ length s = omega arith in
    ext_get_or 0 (splice s at (part s at n)) s (length_splice s at (part s at n) k) (λ i m.
    splice_bytes (λ j b. b ≡ get_or s j 0) s at (part s at n) k (λ j q. get_d_part s at n j (omega arith)) (λ j q. refl) i)

-- the whole area replaced
pub splice_all : (s p : List ℕ) → length p ≡ length s → splice s 0 p ≡ p
splice_all s p e =
    let l = length_splice s 0 p (omega arith) in
    sym (part_all (splice s 0 p) (length s) l) ∙ part_splice s 0 p (omega arith) (length s) e

-- a second splice over the first
pub splice_over : (s : List ℕ) (at : ℕ) (p q : List ℕ) → length p ≡ length q → at + length q ≤ length s
    → splice (splice s at p) at q ≡ splice s at q
splice_over s at p q e h =
    let k : at + length p ≤ length s = omega arith in
    let l = length_splice s at p k in
    let m : at + length q ≤ length (splice s at p) = omega arith in
    ext_get_or 0 (splice (splice s at p) at q) (splice s at q) (length_splice (splice s at p) at q m ∙ l ∙ sym (length_splice s at q h)) (λ i j.
    splice_bytes (λ i b. b ≡ get_or (splice s at q) i 0) (splice s at p) at q m
    (λ i u. sym (byte_inside s at q h i u))
    (λ i u. ⊎_elim
    (λ v. byte_before s at p k i v ∙ sym (byte_before s at q h i v))
    (λ v. byte_after s at p k i (omega arith) ∙ sym (byte_after s at q h i v)) u) i)

-- nothing in place of nothing
pub splice_none : (s : List ℕ) (at : ℕ) (p : List ℕ) → p ≡ [] → splice s at p ≡ s
unfolding splice
splice_none s at p e =
    let z : at + 0 ≡ at = omega arith in
    rw (e, z, append-nil (take at s)) (take-append-drop at s)

-- two splices side by side are one
pub splice_next : (s : List ℕ) (at : ℕ) (p : List ℕ) (to : ℕ) (q : List ℕ) → at + length p ≡ to → to ≤ length s
    → splice (splice s at p) to q ≡ splice s at (p ++ q)
unfolding splice
splice_next s at p to q e h =
    let k : length (take at s) ≡ at = length-take-le at s (omega arith) in
    let m : length (take at s ++ p) ≡ to = simp (length-append, k) (omega arith) in
    let t : take to ((take at s ++ p) ++ drop (at + length p) s) ≡ take at s ++ p = take_at (take at s ++ p) _ to m in
    let n : at + length p + length q ≡ at + length (p ++ q) = simp length-append (omega arith) in
    let d : drop (to + length q) ((take at s ++ p) ++ drop (at + length p) s) ≡ drop (at + length (p ++ q)) s =
    sym (drop-drop (length q) to _) ∙ ap (drop (length q)) (drop_at (take at s ++ p) _ to m)
    ∙ drop-drop (length q) (at + length p) s ∙ ap (λ (n : ℕ). drop n s) n in
    rw (t, d, append_assoc (take at s) p q)

-- ---- a write into one of two joined areas

pub splice_left : (p q : List ℕ) (at : ℕ) (r : List ℕ) → at + length r ≤ length p → splice (p ++ q) at r ≡ splice p at r ++ q
unfolding splice
splice_left p q at r h =
    rw (
      take-append-le at p q (omega arith),
      drop-append-le (at + length r) p q h,
      append_assoc (take at p ++ r) (drop (at + length r) p) q,
    )

pub splice_right : (p q : List ℕ) (k to : ℕ) (r : List ℕ) → length p + k ≡ to → splice (p ++ q) to r ≡ p ++ splice q k r
unfolding splice
splice_right p q k to r e =
    let d : to + length r ≡ length p + (k + length r) = omega arith in
    rw (d, ← e, take-append-add p q k, drop-append-add p q (k + length r))
    (ap (λ (s : List ℕ). s ++ drop (k + length r) q) (append_assoc p (take k q) r)
    ∙ append_assoc p (take k q ++ r) (drop (k + length r) q))

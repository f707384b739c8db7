-- An array of places of one width: what stands at a place, and what a write within a place does to the whole, stated once for
-- entries and buckets. The idea: a write goes past the places before its own. Assumes nothing.
use Prim.Native.Nat.{ℕ, zero, suc, ◌+◌, ◌-◌, ◌*◌, ◌≤◌, ◌<◌}
use mathlib.Core.Path.{◌≡◌, sym, ap, ◌∙◌}
use mathlib.Core.List.{List, [], ◌∷◌, ◌++◌}
use native.Mathlib.Nat.{mul-zero, mul-suc, mul-le-mul_left}
use native.Mathlib.Omega.{arith}
use lib.ListN.{length, get_or, set, length-append, replicate-append-replicate}
use Rattle.codec.specs.Area.{part, splice, repeated}
use Rattle.codec.proofs.Areas.{part_all, part_append_left, part_append_right, length_repeated, part_repeated, splice_left, splice_right}
use Rattle.tree.specs.Bytes.{places}

-- ---- bytes

-- every member of a list is a byte
abbrev pub Bytes : List ℕ → Type 0
Bytes p = (i : ℕ) → get_or p i 0 < 256

pub bytes_append : (p q : List ℕ) → Bytes p → Bytes q → Bytes (p ++ q)
bytes_append [] q f g i = g i
bytes_append (b ∷ p) q f g zero = f 0
bytes_append (b ∷ p) q f g (suc i) = bytes_append p q (λ j. f (suc j)) g i

pub bytes_repeated : (n v : ℕ) → v < 256 → Bytes (repeated n v)
unfolding repeated
bytes_repeated zero v h i = omega arith
bytes_repeated (suc n) v h zero = h
bytes_repeated (suc n) v h (suc i) = bytes_repeated n v h i

pub bytes_places : {A : Type 0} (w : ℕ) (code : A → List ℕ) → ((a : A) → Bytes (code a)) → (n : ℕ) (items : List A)
    → Bytes (places w code n items)
unfolding places
bytes_places w code f zero items i = omega arith
bytes_places w code f (suc n) [] i =
    bytes_append (repeated w 255) (places w code n []) (bytes_repeated w 255 (omega arith)) (bytes_places w code f n []) i
bytes_places w code f (suc n) (a ∷ items) i =
    bytes_append (code a) (places w code n items) (f a) (bytes_places w code f n items) i

-- ---- places

module _ {A : Type 0} (w : ℕ) (code : A → List ℕ) (wide : (a : A) → length (code a) ≡ w) where
  pub length_places : (n : ℕ) (items : List A) → length (places w code n items) ≡ w * n
  unfolding places
  length_places zero items = sym (mul-zero w)
  length_places (suc n) [] =
      length-append (repeated w 255) (places w code n [])
      ∙ rw (length_repeated, length_places n [], mul-suc) (omega arith)
  length_places (suc n) (a ∷ items) =
      length-append (code a) (places w code n items) ∙ rw (wide, length_places n items, mul-suc) (omega arith)

  place_fits : (n : ℕ) (items : List A) (i : ℕ) → i < n → w * i + w ≤ length (places w code n items)
  place_fits n items i h =
      let l = length_places n items in
      let s : w * suc i ≡ w * i + w = mul-suc w i in
      let m : w * suc i ≤ w * n = mul-le-mul_left w h in
      omega arith

  -- what stands at a place with an item, and at one without
  pub place_used : (n : ℕ) (items : List A) (d : A) (i : ℕ) → i < length items → i < n
      → part (places w code n items) (w * i) w ≡ code (get_or items i d)
  unfolding places
  place_used zero items d i h k = absurd (omega arith)
  place_used (suc n) [] d i h k = absurd (omega arith)
  place_used (suc n) (a ∷ items) d zero h k =
      let e = wide a in
      rw mul-zero (part_append_left (code a) (places w code n items) 0 w (omega arith) ∙ part_all (code a) w e)
  place_used (suc n) (a ∷ items) d (suc i) h k =
      let e = wide a in
      let s : w * suc i ≡ w * i + w = mul-suc w i in
      part_append_right (code a) (places w code n items) (w * i) (w * suc i) w (omega arith) (place_fits n items i (omega arith))
      ∙ place_used n items d i (omega arith) (omega arith)

  -- past the items all is 255
  pub places_none : (n : ℕ) → places w code n [] ≡ repeated (w * n) 255
  unfolding places repeated
  places_none zero = let z : w * 0 ≡ 0 = mul-zero w in rw z
  places_none (suc n) =
      let s : w * suc n ≡ w + w * n = mul-suc w n ∙ omega arith in
      rw (places_none n, s) (replicate-append-replicate w (w * n) 255)

  pub rest_free : (n : ℕ) (items : List A) (at m : ℕ) → length items ≤ n → w * length items ≤ at → at + m ≤ w * n
      → part (places w code n items) at m ≡ repeated m 255
  unfolding places
  rest_free n [] at m c h k = rw (places_none n) (part_repeated (w * n) 255 at m k)
  rest_free zero (a ∷ items) at m c h k = absurd (omega arith)
  rest_free (suc n) (a ∷ items) at m c h k =
      let e = wide a in
      let s : w * suc (length items) ≡ w * length items + w = mul-suc w (length items) in
      let u : w * suc n ≡ w * n + w = mul-suc w n in
      let l = length_places n items in
      part_append_right (code a) (places w code n items) (at - w) at m (omega arith) (omega arith)
      ∙ rest_free n items (at - w) m (omega arith) (omega arith) (omega arith)

  pub place_free : (n : ℕ) (items : List A) (i : ℕ) → length items ≤ i → i < n
      → part (places w code n items) (w * i) w ≡ repeated w 255
  place_free n items i h k =
      let s : w * suc i ≡ w * i + w = mul-suc w i in
      let u : w * suc i ≤ w * n = mul-le-mul_left w k in
      rest_free n items (w * i) w (omega arith) (mul-le-mul_left w h) (omega arith)

  -- a write of r at `off` within a place, which makes its item the item a
  module _ (off : ℕ) (r : List ℕ) (a : A) (narrow : off + length r ≤ w) where
    past_first : (p q : List ℕ) (i : ℕ) → length p ≡ w → splice (p ++ q) (w * suc i + off) r ≡ p ++ splice q (w * i + off) r
    past_first p q i e =
        let s : w * suc i ≡ w * i + w = mul-suc w i in
        splice_right p q (w * i + off) (w * suc i + off) r (omega arith)

    in_first : (p q : List ℕ) → length p ≡ w → splice p off r ≡ code a → splice (p ++ q) (w * 0 + off) r ≡ code a ++ q
    in_first p q e c =
        let z : w * 0 + off ≡ off = rw mul-zero (omega arith) in
        rw (z, splice_left p q off r (omega arith), c)

    pub write_used : (n : ℕ) (items : List A) (d : A) (i : ℕ) → i < length items → i < n
        → splice (code (get_or items i d)) off r ≡ code a
        → splice (places w code n items) (w * i + off) r ≡ places w code n (set items i a)
    unfolding places
    write_used zero items d i h k c = absurd (omega arith)
    write_used (suc n) [] d i h k c = absurd (omega arith)
    write_used (suc n) (b ∷ items) d zero h k c = in_first (code b) (places w code n items) (wide b) c
    write_used (suc n) (b ∷ items) d (suc i) h k c =
        past_first (code b) (places w code n items) i (wide b)
        ∙ ap (λ (s : List ℕ). code b ++ s) (write_used n items d i (omega arith) (omega arith) c)

    pub write_new : (n : ℕ) (items : List A) → length items < n → splice (repeated w 255) off r ≡ code a
        → splice (places w code n items) (w * length items + off) r ≡ places w code n (items ++ (a ∷ []))
    unfolding places
    write_new zero items h c = absurd (omega arith)
    write_new (suc n) [] h c = in_first (repeated w 255) (places w code n []) (length_repeated w 255) c
    write_new (suc n) (b ∷ items) h c =
        past_first (code b) (places w code n items) (length items) (wide b)
        ∙ ap (λ (s : List ℕ). code b ++ s) (write_new n items (omega arith) c)

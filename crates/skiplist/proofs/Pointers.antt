-- Pointers in bytes: decode of encode, and lengths, over the width of the serial. Assumes nothing.
use mathlib.Core.Path.{◌≡◌, refl, sym, ap, ap₂, ◌∙◌}
use mathlib.Core.List.{List, [], ◌∷◌, ◌++◌, append_assoc, append-nil}
use Prim.Native.Nat.{ℕ, zero, suc, ◌+◌, ◌-◌, ◌*◌, ◌^◌, ◌≤◌, ◌<◌}
use native.Mathlib.Nat.{mul-le-mul_right}
use native.Mathlib.Omega.{arith}
use lib.ListN.{length, get_or, length-append}
use Rattle.codec.specs.Area.{part, splice}
use Rattle.codec.specs.Number.{le, bytes, number_at}
use Rattle.codec.proofs.Areas.{splice_none, splice_next, part_add, part_part, part_all, part_append_left, part_append_right}
use Rattle.codec.proofs.Numbers.{length_bytes, le_bytes, put_get}
use Rattle.form.specs.declared.Form.{Form}
use Rattle.form.specs.declared.Form.TheVariants.{Old}
use Rattle.form.specs.Forms.{serial_width, pointer_width}
use Rattle.skiplist.specs.declared.Pointer.{Pointer}
use Rattle.skiplist.specs.Skip.{pointer}
use Rattle.skiplist.specs.PointerBytes.{pointer_bytes, pointers_bytes, pointer_at, pointers_at}

-- a pointer written in its numbers, n bytes in all
pub put_numbers : (f : Form) (s s1 s2 s3 : List ℕ) (at n : ℕ) (p : Pointer) → at + n ≤ length s → n ≡ pointer_width f
    → s1 ≡ splice s at (bytes 2 p.slot) → s2 ≡ splice s1 (at + 2) (bytes (serial_width f) p.serial)
    → s3 ≡ splice s2 (at + n - 8) (bytes 8 p.time) → s3 ≡ splice s at (pointer_bytes f p)
unfolding pointer_bytes
put_numbers f s s1 s2 s3 at n p h w e1 e2 e3 =
    let k = length_bytes 2 p.slot in
    let l = length_bytes (serial_width f) p.serial in
    let m = length-append (bytes 2 p.slot) (bytes (serial_width f) p.serial) in
    rw (e3, e2, e1) (ap (λ (t : List ℕ). splice t (at + n - 8) (bytes 8 p.time))
    (splice_next s at (bytes 2 p.slot) (at + 2) (bytes (serial_width f) p.serial) (omega arith) (omega arith))
    ∙ splice_next s at (bytes 2 p.slot ++ bytes (serial_width f) p.serial) (at + n - 8) (bytes 8 p.time) (omega arith) (omega arith)
    ∙ ap (splice s at) (append_assoc (bytes 2 p.slot) (bytes (serial_width f) p.serial) (bytes 8 p.time)))

-- a serial of no bytes is left out
pub put_no_serial : (s : List ℕ) (at serial : ℕ) → s ≡ splice s at (bytes (serial_width Old) serial)
unfolding bytes
put_no_serial s at serial = sym (splice_none s at [] refl)

pub no_serial : (s : List ℕ) (at : ℕ) → 0 ≡ number_at s at (serial_width Old)
unfolding le part
no_serial s at = refl

-- a pointer read from its numbers
pub read_numbers : (f : Form) (s : List ℕ) (at n serial : ℕ) → n ≡ pointer_width f → serial ≡ number_at s (at + 2) (serial_width f)
    → pointer (number_at s at 2) serial (number_at s (at + n - 8) 8) ≡ pointer_at f s at
unfolding pointer_at
read_numbers f s at n serial w e =
    let z : at + n - 8 ≡ at + 2 + serial_width f = omega arith in
    rw (z, e)

module _ (f : Form) where
  abbrev w : ℕ
  w = pointer_width f

  pub length_pointer : (p : Pointer) → length (pointer_bytes f p) ≡ w
  unfolding pointer_bytes
  length_pointer p = simp (length-append, length_bytes) (omega arith)

  pub length_pointers : (ps : List Pointer) → length (pointers_bytes f ps) ≡ length ps * w
  unfolding pointers_bytes
  length_pointers [] = omega arith
  length_pointers (p ∷ ps) =
      length-append (pointer_bytes f p) (pointers_bytes f ps) ∙ more (length ps) (length_pointer p) (length_pointers ps)
    where
      more : (n : ℕ) {a b : ℕ} → a ≡ w → b ≡ n * w → a + b ≡ suc n * w
      more n p q = omega arith

  one : (p : Pointer) → pointer_bytes f p ≡ pointers_bytes f (p ∷ [])
  unfolding pointers_bytes
  one p = sym (append-nil (pointer_bytes f p))

  snoc : (qs : List Pointer) (p : Pointer) → pointers_bytes f (qs ++ (p ∷ [])) ≡ pointers_bytes f qs ++ pointer_bytes f p
  unfolding pointers_bytes
  snoc [] p = append-nil (pointer_bytes f p)
  snoc (q ∷ qs) p =
      ap (λ (t : List ℕ). pointer_bytes f q ++ t) (snoc qs p)
      ∙ sym (append_assoc (pointer_bytes f q) (pointers_bytes f qs) (pointer_bytes f p))

  -- one pointer more, behind those that stand
  next_one : (s : List ℕ) (at : ℕ) (qs : List Pointer) (p : Pointer) (to : ℕ) → at + length qs * w ≡ to → to ≤ length s
      → splice (splice s at (pointers_bytes f qs)) to (pointer_bytes f p) ≡ splice s at (pointers_bytes f (qs ++ (p ∷ [])))
  next_one s at qs p to e h =
      let l = length_pointers qs in
      splice_next s at (pointers_bytes f qs) to (pointer_bytes f p) (omega arith) h ∙ ap (splice s at) (sym (snoc qs p))

  -- four pointers written one after the other
  pub put_four : (s s1 s2 s3 s4 : List ℕ) (at n : ℕ) (ps : List Pointer) (d : Pointer) → length ps ≡ 4 → n ≡ w
      → at + 4 * w ≤ length s
      → s1 ≡ splice s at (pointer_bytes f (get_or ps 0 d)) → s2 ≡ splice s1 (at + n) (pointer_bytes f (get_or ps 1 d))
      → s3 ≡ splice s2 (at + 2 * n) (pointer_bytes f (get_or ps 2 d)) → s4 ≡ splice s3 (at + 3 * n) (pointer_bytes f (get_or ps 3 d))
      → s4 ≡ splice s at (pointers_bytes f ps)
  put_four s s1 s2 s3 s4 at n [] d l i h e1 e2 e3 e4 = absurd (omega arith)
  put_four s s1 s2 s3 s4 at n (a ∷ []) d l i h e1 e2 e3 e4 = absurd (omega arith)
  put_four s s1 s2 s3 s4 at n (a ∷ b ∷ []) d l i h e1 e2 e3 e4 = absurd (omega arith)
  put_four s s1 s2 s3 s4 at n (a ∷ b ∷ c ∷ []) d l i h e1 e2 e3 e4 = absurd (omega arith)
  put_four s s1 s2 s3 s4 at n (a ∷ b ∷ c ∷ g ∷ []) d l i h e1 e2 e3 e4 = rw (e4, e3, e2, e1, one a)
      (rw (
        next_one s at (a ∷ []) b (at + n) (omega arith) (omega arith),
        next_one s at (a ∷ b ∷ []) c (at + 2 * n) (omega arith) (omega arith),
      )
      (next_one s at (a ∷ b ∷ c ∷ []) g (at + 3 * n) (omega arith) (omega arith)))
  put_four s s1 s2 s3 s4 at n (a ∷ b ∷ c ∷ g ∷ h' ∷ ps) d l i h e1 e2 e3 e4 = absurd (omega arith)

  -- ---- decode of encode

  -- a pointer's numbers fit their bytes; in form 0 the serial is 0
  pub record PointerFits (p : Pointer) : Type 0 where
    pub slot : p.slot < 65536
    pub serial : p.serial < 256 ^ serial_width f
    pub time : p.time < 256 ^ 8

  pub pointer_decoded : (s : List ℕ) (at : ℕ) (p : Pointer) → PointerFits p → at + w ≤ length s → part s at w ≡ pointer_bytes f p
      → pointer_at f s at ≡ p
  unfolding pointer_bytes pointer_at
  pointer_decoded s at p fits h e =
      let v : ℕ = serial_width f in
      let A = bytes 2 p.slot in
      let B = bytes v p.serial in
      let C = bytes 8 p.time in
      let k = length_bytes 2 p.slot in
      let l = length_bytes v p.serial in
      let m = length_bytes 8 p.time in
      let n = length-append B C in
      let z : at + 0 ≡ at = omega arith in
      let y : at + (2 + v) ≡ at + 2 + v = omega arith in
      let a : part s at 2 ≡ A =
      ap (λ (i : ℕ). part s i 2) (sym z) ∙ sym (part_part s at w 0 2 h (omega arith)) ∙ ap (λ (t : List ℕ). part t 0 2) e
      ∙ part_append_left A (B ++ C) 0 2 (omega arith) ∙ part_all A 2 k in
      let b : part s (at + 2) v ≡ B =
      sym (part_part s at w 2 v h (omega arith)) ∙ ap (λ (t : List ℕ). part t 2 v) e
      ∙ part_append_right A (B ++ C) 0 2 v (omega arith) (omega arith)
      ∙ part_append_left B C 0 v (omega arith) ∙ part_all B v l in
      let c : part s (at + 2 + v) 8 ≡ C =
      ap (λ (i : ℕ). part s i 8) (sym y) ∙ sym (part_part s at w (2 + v) 8 h (omega arith))
      ∙ ap (λ (t : List ℕ). part t (2 + v) 8) e
      ∙ part_append_right A (B ++ C) v (2 + v) 8 (omega arith) (omega arith)
      ∙ part_append_right B C 0 v 8 (omega arith) (omega arith) ∙ part_all C 8 m in
      rw (a, b, c, le_bytes 2 p.slot fits.slot, le_bytes v p.serial fits.serial, le_bytes 8 p.time fits.time)

  -- pointer k of several side by side
  pointer_in : (ps : List Pointer) (k : ℕ) (d : Pointer) → k < length ps
      → part (pointers_bytes f ps) (k * w) w ≡ pointer_bytes f (get_or ps k d)
  unfolding pointers_bytes
  pointer_in [] k d h = absurd (omega arith)
  pointer_in (p ∷ ps) zero d h =
      let l = length_pointer p in
      let z : 0 * w ≡ 0 = omega arith in
      rw z (part_append_left (pointer_bytes f p) (pointers_bytes f ps) 0 w (omega arith) ∙ part_all (pointer_bytes f p) w l)
  pointer_in (p ∷ ps) (suc k) d h =
      let l = length_pointer p in
      let m = length_pointers ps in
      let n : suc k * w ≤ length ps * w = mul-le-mul_right w (omega arith) in
      part_append_right (pointer_bytes f p) (pointers_bytes f ps) (k * w) (suc k * w) w (omega arith) (omega arith)
      ∙ pointer_in ps k d (omega arith)

  -- four pointers that stand side by side are read back
  pub pointers_decoded : (s : List ℕ) (at : ℕ) (a b c d : Pointer) → PointerFits a → PointerFits b → PointerFits c → PointerFits d
      → at + 4 * w ≤ length s → part s at (4 * w) ≡ pointers_bytes f (a ∷ b ∷ c ∷ d ∷ []) → pointers_at f s at ≡ a ∷ b ∷ c ∷ d ∷ []
  unfolding pointers_at
  pointers_decoded s at a b c d fa fb fc fd h e =
      let z : at ≡ at + 0 * w = omega arith in
      let y : at + w ≡ at + 1 * w = omega arith in
      rw (
        pointer_decoded s at a fa (omega arith) (ap (λ (n : ℕ). part s n w) z ∙ there 0 (omega arith) (omega arith)),
        pointer_decoded s (at + w) b fb (omega arith) (ap (λ (n : ℕ). part s n w) y ∙ there 1 (omega arith) (omega arith)),
        pointer_decoded s (at + 2 * w) c fc (omega arith) (there 2 (omega arith) (omega arith)),
        pointer_decoded s (at + 3 * w) d fd (omega arith) (there 3 (omega arith) (omega arith)),
      )
    where
      there : (k : ℕ) → k < 4 → k * w + w ≤ 4 * w → part s (at + k * w) w ≡ pointer_bytes f (get_or (a ∷ b ∷ c ∷ d ∷ []) k a)
      there k l m =
          sym (part_part s at (4 * w) (k * w) w h m) ∙ ap (λ (t : List ℕ). part t (k * w) w) e
          ∙ pointer_in (a ∷ b ∷ c ∷ d ∷ []) k a l

-- pointers read from bytes and written give the same bytes
module _ (f : Form) (s : List ℕ) (small : (i : ℕ) → get_or s i 0 < 256) where
  pointer_kept : (at : ℕ) → at + pointer_width f ≤ length s → pointer_bytes f (pointer_at f s at) ≡ part s at (pointer_width f)
  unfolding pointer_bytes pointer_at
  pointer_kept at h =
      let w = serial_width f in
      let n : 2 + (w + 8) ≡ 10 + w = omega arith in
      ap₂ ◌++◌ (put_get s at 2 (omega arith) small) (ap₂ ◌++◌ (put_get s (at + 2) w (omega arith) small) (put_get s (at + 2 + w) 8 (omega arith) small)
      ∙ sym (part_add s (at + 2) w 8))
      ∙ sym (part_add s at 2 (w + 8)) ∙ ap (part s at) n

  pub pointers_kept : (at : ℕ) → at + 4 * pointer_width f ≤ length s → pointers_bytes f (pointers_at f s at) ≡ part s at (4 * pointer_width f)
  unfolding pointers_bytes pointers_at
  pointers_kept at h =
      let w = pointer_width f in
      let all : w + (w + (w + w)) ≡ 4 * w = omega arith in
      let two : at + w + w ≡ at + 2 * w = omega arith in
      let three : at + 2 * w + w ≡ at + 3 * w = omega arith in
      let a = pointer_kept at (omega arith) in
      let b = pointer_kept (at + w) (omega arith) in
      let c = pointer_kept (at + 2 * w) (omega arith) in
      let d = pointer_kept (at + 3 * w) (omega arith) in
      ap₂ ◌++◌ a (ap₂ ◌++◌ b (ap₂ ◌++◌ c (ap (λ (l : List ℕ). l ++ []) d ∙ append-nil _)))
      ∙ ap (λ (l : List ℕ). part s at w ++ (part s (at + w) w ++ l))
      (ap (λ (k : ℕ). part s (at + 2 * w) w ++ part s k w) (sym three) ∙ sym (part_add s (at + 2 * w) w w))
      ∙ ap (λ (l : List ℕ). part s at w ++ l)
      (ap (λ (k : ℕ). part s (at + w) w ++ part s k (w + w)) (sym two) ∙ sym (part_add s (at + w) w (w + w)))
      ∙ sym (part_add s at w (w + (w + w))) ∙ ap (part s at) all

-- A section inside an area: setting its bits where they stand is replacing the section, so that nothing else has to be compared.
use mathlib.Core.Path.{◌≡◌, sym, ap, ◌∙◌}
use mathlib.Core.List.{List}
use Prim.Native.Nat.{ℕ, ◌+◌, ◌-◌, ◌/◌, ◌≤◌, ◌<◌}
use native.Mathlib.Decide.{ℕ_discrete, dec_lt, dec_le}
use native.Mathlib.Omega.{arith}
use lib.Bits.{bit_or}
use lib.ListN.{length, get_or, set, length-set}
use lib.Seq.{get_or-set_same, get_or-set_other, ext_get_or}
use Rattle.codec.specs.Area.{part, splice}
use Rattle.codec.proofs.Areas.{length_part, get_d_part, length_splice, byte_before, byte_inside, byte_after, part_splice, splice_over}
use Rattle.bloom.specs.Bloom.{bloom_bit, mask, set_in, noted}
use Rattle.bloom.proofs.Section.{Section, set_section}

module _ (s : List ℕ) (at n : ℕ) (h : at + n ≤ length s) (i v : ℕ) (l : i < n) where
  abbrev inner : List ℕ
  inner = set (part s at n) i v

  long : length inner ≡ n
  long = length-set (part s at n) i v ∙ length_part s at n h

  fits : at + length inner ≤ length s
  fits = omega (arith, long)

  byte_of : (k : ℕ) → get_or (set s (at + i) v) k 0 ≡ get_or (splice s at inner) k 0
  byte_of k = go (dec_lt k at) (dec_le (at + n) k) (ℕ_discrete k (at + i))
    where
      go : Dec (k < at) → Dec (at + n ≤ k) → Dec (k ≡ at + i) → get_or (set s (at + i) v) k 0 ≡ get_or (splice s at inner) k 0
      go (yes a) b c = get_or-set_other s (at + i) k v 0 (omega arith) ∙ sym (byte_before s at inner fits k a)
      go (no a) (yes b) c =
          get_or-set_other s (at + i) k v 0 (omega arith) ∙ sym (byte_after s at inner fits k (omega (arith, long)))
      go (no a) (no b) (yes e) =
          rw e
          (get_or-set_same s (at + i) v 0 (omega arith)
          ∙ sym (byte_inside s at inner fits i (omega (arith, long))
          ∙ get_or-set_same (part s at n) i v 0 (omega (arith, length_part s at n h))))
      go (no a) (no b) (no f) =
          let e : k ≡ at + (k - at) = omega arith in
          let j : k - at < n = omega arith in
          get_or-set_other s (at + i) k v 0 f ∙ ap (λ (m : ℕ). get_or s m 0) e
          ∙ sym (ap (λ (m : ℕ). get_or (splice s at inner) m 0) e ∙ byte_inside s at inner fits (k - at) (omega (arith, long))
          ∙ get_or-set_other (part s at n) i (k - at) v 0 (omega arith) ∙ get_d_part s at n (k - at) j)

  -- a byte set in the area is that byte set in the part
  pub set_in_part : set s (at + i) v ≡ splice s at (set (part s at n) i v)
  set_in_part =
      ext_get_or 0 (set s (at + i) v) (splice s at inner) (length-set s (at + i) v ∙ sym (length_splice s at inner fits)) (λ k m.
      byte_of k)

module _ (s : List ℕ) (at : ℕ) (h : at + 128 ≤ length s) where
  -- one bit
  pub set_at_is : (b : ℕ) → b < 1024
      → set s (at + b / 8) (bit_or (get_or s (at + b / 8) 0) (mask b)) ≡ splice s at (set_in (part s at 128) b)
  set_at_is b k =
      let i : b / 8 < 128 = omega arith in
      ap (λ (x : ℕ). set s (at + b / 8) (bit_or x (mask b))) (sym (get_d_part s at 128 (b / 8) i))
      ∙ set_in_part s at 128 h (b / 8) (bit_or (get_or (part s at 128) (b / 8) 0) (mask b)) i

  -- one bit more, in an area where the section already is x
  set_next : (x t u : List ℕ) (b : ℕ) → Section x → t ≡ splice s at x → u ≡ splice t at (set_in (part t at 128) b)
      → u ≡ splice s at (set_in x b)
  set_next x t u b z e f =
      let r : at + length x ≤ length s = omega arith in
      let y = set_section x b z in
      let g : part t at 128 ≡ x = ap (λ (a : List ℕ). part a at 128) e ∙ part_splice s at x r 128 z in
      f ∙ ap (λ (p : List ℕ). splice t at (set_in p b)) g ∙ ap (λ (a : List ℕ). splice a at (set_in x b)) e
      ∙ splice_over s at x (set_in x b) (z ∙ sym y) (omega (arith, y))

  -- the three bits of a code
  pub noted_at_is : (code a b d : ℕ) (t u v : List ℕ)
      → a ≡ bloom_bit 0 (code - 1) → b ≡ bloom_bit 1 (code - 1) → d ≡ bloom_bit 2 (code - 1)
      → t ≡ splice s at (set_in (part s at 128) a)
      → u ≡ splice t at (set_in (part t at 128) b)
      → v ≡ splice u at (set_in (part u at 128) d)
      → v ≡ splice s at (noted (part s at 128) code)
  unfolding noted
  noted_at_is code a b d t u v p q r e f g =
      let x = set_in (part s at 128) a in
      let m : Section x = set_section (part s at 128) a (length_part s at 128 h) in
      let n : Section (set_in x b) = set_section x b m in
      rw (← p, ← q, ← r) (set_next (set_in x b) u v d n (set_next x t u b m e f) g)

-- The tests of a header, as the code makes them, are the definitions'. Assumes nothing.
use mathlib.Core.Path.{◌≡◌, ap}
use mathlib.Core.Bool.{Bool, false, ◌&&◌}
use mathlib.Core.List.{List, [], ◌∷◌}
use Prim.Native.Nat.{ℕ, zero, suc, ◌+◌, ◌*◌, ◌≤◌, ◌<◌}
use native.Mathlib.Omega.{arith}
use lib.Dec.{eqb, leb, ltb}
use lib.ListN.{length, get_or}
use borrow.Author.Tests.{le-leb, lt-leb}
use Rattle.codec.specs.Number.{number_at}
use Rattle.codec.proofs.Truth.{and_true}
use Rattle.lift.specs.Limits.{time_ok, code_ok}
use Rattle.bloom.specs.Pages.{section_count, fragment_length}
use Rattle.form.specs.declared.Form.{Form}
use Rattle.form.specs.declared.Form.TheVariants.{Old, New}
use Rattle.form.specs.Forms.{pointer_width}
use Rattle.skiplist.specs.declared.Pointer.{Pointer}
use Rattle.skiplist.specs.Skip.{in_slots, none}
use Rattle.skiplist.specs.PointerBytes.{pointer_at, pointers_at}
use Rattle.header.specs.declared.Header.{Header}
use Rattle.header.specs.Header.{counts_good, span_good, pointer_good, pointers_good, form_in, counts_in, span_in, header_good, header_in}

-- ---- counts, span, pointers

pub counts_none : (count buckets sections fragment : ℕ) → count < 1 → false ≡ counts_good count buckets sections fragment
unfolding counts_good
counts_none count buckets sections fragment h = rw (lt-leb 1 count h)

pub counts_some : (count buckets sections fragment s l : ℕ) → 1 ≤ count → s ≡ section_count count → l ≡ fragment_length s
    → (leb count 320 && ((leb 1 buckets && leb buckets 36) && (eqb sections s && eqb fragment l)))
    ≡ counts_good count buckets sections fragment
unfolding counts_good
counts_some count buckets sections fragment s l h e f = rw (f, e, le-leb 1 count h)

pub span_tests : (start end low high : ℕ) (a b c d : Bool) → a ≡ time_ok start → b ≡ time_ok end → c ≡ code_ok low → d ≡ code_ok high
    → ((a && (b && leb start end)) && (c && (d && leb low high))) ≡ span_good start end low high
unfolding span_good
span_tests start end low high a b c d p q r s = rw (p, q, r, s)

pub pointer_tests : (slots : ℕ) (p : Pointer) (a b : Bool) → a ≡ time_ok p.time → b ≡ in_slots p slots
    → (a && b) ≡ pointer_good slots p
unfolding pointer_good
pointer_tests slots p a b e f = rw (e, f)

-- four pointers, one after the other
pub four_pointers : (slots : ℕ) (ps : List Pointer) (e : Pointer) (a b c d : Bool) → length ps ≡ 4
    → a ≡ pointer_good slots (get_or ps 0 e) → b ≡ pointer_good slots (get_or ps 1 e) → c ≡ pointer_good slots (get_or ps 2 e)
    → d ≡ pointer_good slots (get_or ps 3 e) → (a && (b && (c && d))) ≡ pointers_good slots ps
unfolding pointers_good
four_pointers slots [] e a b c d l p q r s = absurd (omega arith)
four_pointers slots (w ∷ []) e a b c d l p q r s = absurd (omega arith)
four_pointers slots (w ∷ x ∷ []) e a b c d l p q r s = absurd (omega arith)
four_pointers slots (w ∷ x ∷ y ∷ []) e a b c d l p q r s = absurd (omega arith)
four_pointers slots (w ∷ x ∷ y ∷ z ∷ []) e a b c d l p q r s = rw (p, q, r, s, and_true (pointer_good slots z))
four_pointers slots (w ∷ x ∷ y ∷ z ∷ v ∷ ps) e a b c d l p q r s = absurd (omega arith)

-- a test of four numbers, as read
pub four_read : (f : ℕ → ℕ → ℕ → ℕ → Bool) (r : Bool) (a b c d a' b' c' d' : ℕ) → a ≡ a' → b ≡ b' → c ≡ c' → d ≡ d'
    → r ≡ f a b c d → r ≡ f a' b' c' d'
four_read f r a b c d a' b' c' d' ea eb ec ed e = rw (← ea, ← eb, ← ec, ← ed) e

-- no damage, as tested
pub good_made : (f : Form) (h : List ℕ) (slots before serial : ℕ) (next : List Pointer) (o a b d : Bool) → o ≡ form_in f h → a ≡ counts_in h
    → b ≡ span_in h → next ≡ pointers_at f h 40 → d ≡ pointers_good slots next → serial ≡ number_at h 0 4
    → (o && (a && (b && (d && ltb serial before)))) ≡ header_good f h slots before
unfolding header_good
good_made f h slots before serial next o a b d e0 e1 e2 e3 e4 e5 = rw (e0, e4, e1, e2, e5, e3)

-- the header that was read
pub header_made : (f : Form) (h : List ℕ) (slots before serial count buckets start low high : ℕ) (next : List Pointer) (good : Bool)
    → good ≡ header_good f h slots before → next ≡ pointers_at f h 40 → serial ≡ number_at h 0 4
    → count ≡ number_at h 4 2 → buckets ≡ number_at h 6 1 → start ≡ number_at h 16 8 → low ≡ number_at h 32 4 → high ≡ number_at h 36 4
    → ◌≡◌ {A = Header} (record {
      good = good;
      serial = serial;
      count = count;
      buckets = buckets;
      start = start;
      low = low;
      high = high;
      next = next;
    }) (header_in f h slots before)
unfolding header_in
header_made f h slots before serial count buckets start low high next good e0 e1 e2 e3 e4 e5 e6 e7 = rw (e0, e1, e2, e3, e4, e5, e6, e7)

-- the pointer of level k + 1, by itself
pub pointer_read : (f : Form) (h : List ℕ) (k : ℕ) → k < 4 → pointer_at f h (40 + pointer_width f * k) ≡ get_or (pointers_at f h 40) k none
unfolding pointers_at
pointer_read f h zero l = ap (pointer_at f h) (omega arith)
pointer_read f h (suc zero) l = ap (pointer_at f h) (omega arith)
pointer_read f h (suc (suc zero)) l = ap (pointer_at f h) (omega arith)
pointer_read f h (suc (suc (suc zero))) l = ap (pointer_at f h) (omega arith)
pointer_read f h (suc (suc (suc (suc k)))) l = absurd (omega arith)

width_most : (f : Form) → pointer_width f ≤ 14
width_most Old = omega arith
width_most New = omega arith

-- it lies in the page
pub pointer_room : (f : Form) (n k : ℕ) → n ≡ pointer_width f → k < 4 → n * k + n ≤ 56
pointer_room f n zero e l = omega (arith, width_most f)
pointer_room f n (suc zero) e l = omega (arith, width_most f)
pointer_room f n (suc (suc zero)) e l = omega (arith, width_most f)
pointer_room f n (suc (suc (suc zero))) e l = omega (arith, width_most f)
pointer_room f n (suc (suc (suc (suc k)))) e l = absurd (omega arith)

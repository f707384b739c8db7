-- The images that a close programs are bytes: they are made of bytes of numbers, of NOR, of the buffers and of 0 and 255.
-- Assumes nothing.
use mathlib.Core.Path.{◌≡◌, ap, ◌∙◌}
use mathlib.Core.List.{List, [], ◌∷◌, ◌++◌}
use Prim.Native.Nat.{ℕ, ◌+◌, ◌-◌, ◌*◌, ◌≤◌, ◌<◌, min}
use native.Mathlib.Decide.{dec_lt, dec_le}
use native.Mathlib.Omega.{arith}
use lib.ListN.{length, get_or, drop, length-take, get_or-append, get_or-eq_default}
use lib.Seq.{get_or-append-add}
use Rattle.codec.specs.Area.{part, repeated}
use Rattle.codec.specs.Number.{bytes}
use Rattle.codec.proofs.Areas.{get_d_part, length_repeated, get_or_repeated}
use Rattle.codec.proofs.Numbers.{bytes_below}
use Rattle.bloom.specs.Pages.{section_count, sections_from, bloom_page}
use Rattle.bloom.proofs.Section.{Bytes}
use Rattle.bloom.proofs.Fragments.{Length, fragment_length_lem, page_bytes_lem}
use Rattle.bloom.proofs.Stored.{length_sections_from, whole_section, last_section}
use Rattle.form.specs.declared.Form.{Form}
use Rattle.skiplist.specs.declared.Pointer.{Pointer}
use Rattle.skiplist.specs.PointerBytes.{pointer_bytes, pointers_bytes}
use Rattle.header.specs.declared.Closing.{Closing}
use Rattle.header.specs.Header.{count_bytes, span_bytes, header_page}
use Rattle.segment.specs.Pages.{close_page}
use Rattle.segment.proofs.ClosedPages.{Shaped}
use Rattle.segment.proofs.Turns.{image_lifts, image_tree, image_bloom, image_header}
use Rattle.segment.proofs.TreeRun.{tree_run}

-- ---- bytes side by side, a part of them, one value

record AreBytes (s : List ℕ) : Type 0 where
  all : Bytes s

past : (s : List ℕ) (i : ℕ) → length s ≤ i → get_or s i 0 < 256
past s i h = rw (get_or-eq_default s 0 {n = i} h) (omega arith)

both : {a b : List ℕ} → AreBytes a → AreBytes b → AreBytes (a ++ b)
both {a} {b} f g = record { all = λ i. go i (dec_lt i (length a)) }
  where
    go : (i : ℕ) → Dec (i < length a) → get_or (a ++ b) i 0 < 256
    go i (yes h) = rw (get_or-append a b 0 i h) (f.all i)
    go i (no h) =
        let e : i ≡ length a + (i - length a) = omega arith in
        rw (ap (λ (k : ℕ). get_or (a ++ b) k 0) e ∙ get_or-append-add a b (i - length a) 0) (g.all (i - length a))

part_most : (s : List ℕ) (at n : ℕ) → length (part s at n) ≤ n
unfolding part
part_most s at n = omega (arith, length-take n (drop at s))

pub bytes_part : (s : List ℕ) (at n : ℕ) → Bytes s → Bytes (part s at n)
bytes_part s at n f i = go (dec_lt i n)
  where
    go : Dec (i < n) → get_or (part s at n) i 0 < 256
    go (yes h) = rw (get_d_part s at n i h) (f (at + i))
    go (no h) = past (part s at n) i (omega (arith, part_most s at n))

repeats : (n v : ℕ) → v < 256 → AreBytes (repeated n v)
repeats n v h = record { all = λ i. go i (dec_lt i n) }
  where
    go : (i : ℕ) → Dec (i < n) → get_or (repeated n v) i 0 < 256
    go i (yes k) = rw (get_or_repeated n v i k) h
    go i (no k) = past (repeated n v) i (omega (arith, length_repeated n v))

number : (n v : ℕ) → AreBytes (bytes n v)
number n v = record { all = bytes_below n v }

-- ---- header, tree, Bloom

pointers : (f : Form) (ps : List Pointer) → AreBytes (pointers_bytes f ps)
unfolding pointers_bytes pointer_bytes
pointers f [] = record { all = λ i. omega arith }
pointers f (p ∷ ps) = both (both (number 2 p.slot) (both (number _ p.serial) (number 8 p.time))) (pointers f ps)

pub bytes_header : (c : Closing) → Bytes (header_page c)
unfolding header_page count_bytes span_bytes
bytes_header c = (both counts (both span (both (pointers _ _) (repeats _ 0 (omega arith))))).all
  where
    counts : AreBytes (count_bytes c.form c.serial c.count c.buckets)
    counts =
        both (number 4 _) (both (number 2 _) (both (number 1 _) (both (number 1 _)
        (both (number 1 _) (both (number 1 _) (both (number 1 _) (repeats 5 0 (omega arith))))))))

    span : AreBytes (span_bytes c.start c.end c.low c.high)
    span = both (number 8 _) (both (number 8 _) (both (number 4 _) (number 4 _)))

pub bytes_tree : (nor : List ℕ) (buckets i : ℕ) → Bytes nor → Bytes (tree_run nor buckets i)
unfolding tree_run
bytes_tree nor buckets i f =
    let n = min 512 (buckets * 128 - i * 512) in
    let front : AreBytes (part nor (i * 512) n) = record { all = bytes_part nor (i * 512) n f } in
    (both front (repeats (512 - n) 255 (omega arith))).all

bytes_sections : (nor buffer : List ℕ) (count : ℕ) → Bytes nor → Bytes buffer → (j : ℕ)
    → Bytes (get_or (sections_from nor buffer count) j [])
bytes_sections nor buffer count f g j = go (dec_le ((j + 1) * 64) count) (dec_lt j (section_count count))
  where
    go : Dec ((j + 1) * 64 ≤ count) → Dec (j < section_count count) → Bytes (get_or (sections_from nor buffer count) j [])
    go (yes h) d = rw (whole_section nor buffer count j h) (bytes_part nor (4608 + 128 * j) 128 f)
    go (no h) (yes k) = rw (last_section nor buffer count j (omega arith) k) g
    go (no h) (no k) =
        rw (get_or-eq_default (sections_from nor buffer count) [] {n = j} (omega (arith, length_sections_from nor buffer count)))
        (λ i. omega arith)

pub bytes_bloom : (nor buffer : List ℕ) (count i : ℕ) → 1 ≤ count → count ≤ 320 → Bytes nor → Bytes buffer
    → Bytes (bloom_page (sections_from nor buffer count) i)
bytes_bloom nor buffer count i h k f g =
    let e = length_sections_from nor buffer count in
    let l : Length (length (sections_from nor buffer count)) = fragment_length_lem _ (omega arith) (omega arith) in
    page_bytes_lem (sections_from nor buffer count) i l (bytes_sections nor buffer count f g)

-- ---- an image

-- what a close is given is bytes
pub record Valued (nor : List ℕ) (c : Closing) : Type 0 where
  pub nor_bytes : Bytes nor
  pub page_is_bytes : Bytes c.page
  pub bloom_bytes : Bytes c.bloom

pub bytes_image : (nor : List ℕ) (c : Closing) (p : ℕ) → Shaped nor c → Valued nor c → Bytes (close_page nor c p)
bytes_image nor c p f v = go (dec_lt p 20) (dec_lt p 29) (dec_lt p 31)
  where
    go : Dec (p < 20) → Dec (p < 29) → Dec (p < 31) → Bytes (close_page nor c p)
    go (yes h) d e = rw (image_lifts nor c p h) v.page_is_bytes
    go (no h) (yes k) e = rw (image_tree nor c p (omega arith) k) (bytes_tree nor c.buckets (p - 20) v.nor_bytes)
    go (no h) (no k) (yes l) =
        rw (image_bloom nor c p (omega arith) l) (bytes_bloom nor c.bloom c.count (p - 29) f.some f.most v.nor_bytes
        v.bloom_bytes)
    go (no h) (no k) (no l) = rw (image_header nor c p (omega arith)) (bytes_header c)

-- A header page written field by field: writes side by side are one write. Assumes nothing.
use mathlib.Core.Path.{◌≡◌, ap, ◌∙◌}
use mathlib.Core.List.{List, [], ◌∷◌, ◌++◌, append_assoc}
use Prim.Native.Nat.{ℕ, ◌+◌, ◌-◌, ◌*◌, ◌≤◌, ◌<◌}
use native.Mathlib.Omega.{arith}
use lib.ListN.{length, length-append}
use Rattle.codec.specs.Area.{splice, repeated}
use Rattle.codec.specs.Number.{bytes}
use Rattle.codec.proofs.Areas.{length_repeated}
use Rattle.codec.proofs.Numbers.{length_bytes}
use Rattle.bloom.specs.Pages.{section_count, fragment_length}
use Rattle.bloom.proofs.Fragments.{fragment_length_lem}
use Rattle.form.specs.declared.Form.{Form}
use Rattle.form.specs.declared.Form.TheVariants.{Old, New}
use Rattle.form.specs.Forms.{byte_ten, serial_width, pointer_width}
use Rattle.skiplist.specs.declared.Pointer.{Pointer}
use Rattle.skiplist.specs.Skip.{level_of, node_of}
use Rattle.skiplist.specs.PointerBytes.{pointers_bytes}
use Rattle.skiplist.proofs.Pointers.{length_pointers}
use Rattle.skiplist.proofs.Nodes.{length_node}
use Rattle.header.specs.declared.Closing.{Closing}
use Rattle.header.specs.Header.{form_bytes, count_bytes, span_bytes, header_page}
use Rattle.header.proofs.Fields.{put_all, fields_put, front_put}

pub level_most : (serial : ℕ) → level_of serial ≤ 4
unfolding level_of
level_most serial = omega arith

-- L is one byte
pub fragment_fits : (count s l : ℕ) → 1 ≤ count → count ≤ 320 → s ≡ section_count count → l ≡ fragment_length s → l < 256
fragment_fits count s l h k a b = omega (arith, (fragment_length_lem s (omega arith) (omega arith)).most)

-- a serial's bytes are at most 4
pub serial_most : (f : Form) → serial_width f ≤ 4
serial_most Old = omega arith
serial_most New = omega arith

module _ (f : Form) (s : List ℕ) (serial count buckets sections fragment level : ℕ) (room : 16 ≤ length s)
    (a : sections ≡ section_count count) (b : fragment ≡ fragment_length sections) (c : level ≡ level_of serial) where
  pub counts_put : (s1 s2 s3 s4 s5 s6 s7 : List ℕ) → s1 ≡ splice s 0 (bytes 4 serial) → s2 ≡ splice s1 4 (bytes 2 count)
      → s3 ≡ splice s2 6 (bytes 1 buckets) → s4 ≡ splice s3 7 (bytes 1 sections) → s5 ≡ splice s4 8 (bytes 1 fragment)
      → s6 ≡ splice s5 9 (bytes 1 level) → s7 ≡ splice s6 10 (form_bytes f) → s7 ≡ splice s 0 (count_bytes f serial count buckets)
  unfolding count_bytes bytes repeated
  counts_put s1 s2 s3 s4 s5 s6 s7 e1 e2 e3 e4 e5 e6 e7 =
      rw (← a, ← b, ← c, e7, e6, e5, e4, e3, e2, e1)
      (fields_put s 0
      (bytes 4 serial ∷ bytes 2 count ∷ bytes 1 buckets ∷ bytes 1 sections ∷ bytes 1 fragment ∷ bytes 1 level ∷ []) (form_bytes f) room)

pub form_put : (f : Form) (ten : ℕ) (s s1 s2 : List ℕ) → 16 ≤ length s → ten ≡ byte_ten f → s1 ≡ splice s 10 (bytes 1 ten)
    → s2 ≡ splice s1 11 (repeated 5 0) → s2 ≡ splice s 10 (form_bytes f)
unfolding bytes repeated
form_put f ten s s1 s2 h e e1 e2 = rw (e2, e1, e) (fields_put s 10 (bytes 1 (byte_ten f) ∷ []) (repeated 5 0) h)

pub span_put : (s s1 s2 s3 s4 : List ℕ) (start end low high : ℕ) → 40 ≤ length s → s1 ≡ splice s 16 (bytes 8 start)
    → s2 ≡ splice s1 24 (bytes 8 end) → s3 ≡ splice s2 32 (bytes 4 low) → s4 ≡ splice s3 36 (bytes 4 high)
    → s4 ≡ splice s 16 (span_bytes start end low high)
unfolding span_bytes bytes
span_put s s1 s2 s3 s4 start end low high room e1 e2 e3 e4 =
    rw (e4, e3, e2, e1) (fields_put s 16 (bytes 8 start ∷ bytes 8 end ∷ bytes 4 low ∷ []) (bytes 4 high) room)

-- ---- lengths

pub length_counts : (f : Form) (serial count buckets : ℕ) → length (count_bytes f serial count buckets) ≡ 16
unfolding count_bytes
length_counts f serial count buckets = simp (length-append, length_bytes, length_repeated)

pub length_span : (start end low high : ℕ) → length (span_bytes start end low high) ≡ 24
unfolding span_bytes
length_span start end low high = simp (length-append, length_bytes)

pub length_node_bytes : (f : Form) (heads : List Pointer) (serial : ℕ) → length heads ≡ 4
    → length (pointers_bytes f (node_of heads (level_of serial))) ≡ 4 * pointer_width f
length_node_bytes f heads serial four =
    length_pointers f (node_of heads (level_of serial))
    ∙ ap (λ (n : ℕ). n * pointer_width f) (length_node heads four (level_of serial) (level_most serial))

pub length_header : (c : Closing) → length c.heads ≡ 4 → length (header_page c) ≡ 512
unfolding header_page
length_header c four = simp (
  length-append,
  length_counts,
  length_span,
  length_node_bytes c.form c.heads c.serial four,
  length_repeated,
) (omega (arith, serial_most c.form))

-- ---- the page

-- counts, span and pointers written into a page of zeros
pub page_put : (c : Closing) (z h1 h2 h3 : List ℕ) (level : ℕ) (node : List Pointer) → length node ≡ 4
    → level ≡ level_of c.serial → node ≡ node_of c.heads level → z ≡ repeated 512 0
    → h1 ≡ splice z 0 (count_bytes c.form c.serial c.count c.buckets)
    → h2 ≡ splice h1 16 (span_bytes c.start c.end c.low c.high) → h3 ≡ splice h2 40 (pointers_bytes c.form node)
    → h3 ≡ header_page c
unfolding header_page
page_put c z h1 h2 h3 level node four el en ez e1 e2 e3 =
    let A = count_bytes c.form c.serial c.count c.buckets in
    let B = span_bytes c.start c.end c.low c.high in
    let w : node ≡ node_of c.heads (level_of c.serial) = en ∙ ap (node_of c.heads) el in
    rw (← w, e3, e2, e1, ez) (chain A B (pointers_bytes c.form node) (length_counts _ _ _ _) (length_span _ _ _ _)
    (length_pointers c.form node ∙ ap (λ (n : ℕ). n * pointer_width c.form) four))
  where
    chain : (A B C : List ℕ) → length A ≡ 16 → length B ≡ 24 → length C ≡ 4 * pointer_width c.form
        → splice (splice (splice (repeated 512 0) 0 A) 16 B) 40 C ≡ A ++ (B ++ (C ++ repeated (432 - 4 * serial_width c.form) 0))
    chain A B C la lb lc =
        let z = length_repeated 512 0 in
        let m = serial_most c.form in
        let n : length (A ++ (B ++ C)) ≡ 40 + 4 * pointer_width c.form = simp (length-append, la, lb, lc) (omega arith) in
        let k : 512 - (40 + 4 * pointer_width c.form) ≡ 432 - 4 * serial_width c.form = omega arith in
        let p : splice (splice (splice (repeated 512 0) 0 A) 16 B) 40 C ≡ put_all (repeated 512 0) 0 (A ∷ B ∷ []) C = rw (la, lb) in
        p ∙ fields_put (repeated 512 0) 0 (A ∷ B ∷ []) C (omega arith) ∙ front_put 512 0 (A ++ (B ++ C)) (omega arith)
        ∙ ap (λ (k : ℕ). (A ++ (B ++ C)) ++ repeated (512 - k) 0) n ∙ ap (λ (k : ℕ). (A ++ (B ++ C)) ++ repeated k 0) k
        ∙ append_assoc A (B ++ C) (repeated (432 - 4 * serial_width c.form) 0)
        ∙ ap (λ (t : List ℕ). A ++ t) (append_assoc B C (repeated (432 - 4 * serial_width c.form) 0))

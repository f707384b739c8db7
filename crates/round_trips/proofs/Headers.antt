-- The header of a closed segment carried into the other form is the header that a close of that form writes. Assumes nothing.
use mathlib.Core.Path.{◌≡◌, refl, sym, ap, ◌∙◌}
use mathlib.Core.List.{List, [], ◌∷◌, ◌++◌, append_assoc}
use Prim.Native.Nat.{ℕ, zero, suc, ◌+◌, ◌-◌, ◌*◌, ◌≤◌, ◌<◌}
use native.Mathlib.Decide.{dec_lt}
use native.Mathlib.Omega.{arith}
use lib.ListN.{length, get_or, length-append}
use lib.Seq.{ext_get_or}
use Rattle.codec.specs.Area.{part, repeated}
use Rattle.codec.specs.Number.{bytes}
use Rattle.codec.proofs.Areas.{part_all, part_append_left, part_append_right}
use Rattle.codec.proofs.Numbers.{length_bytes}
use Rattle.bloom.specs.Pages.{section_count, fragment_length}
use Rattle.form.specs.declared.Form.{Form}
use Rattle.form.specs.declared.Form.TheVariants.{Old, New}
use Rattle.form.specs.Forms.{serial_width}
use Rattle.skiplist.specs.declared.Pointer.{Pointer}
use Rattle.skiplist.specs.Skip.{none, level_of, node_of}
use Rattle.skiplist.specs.PointerBytes.{pointers_bytes, pointers_at}
use Rattle.skiplist.proofs.Nodes.{length_node, node_below, node_above}
use Rattle.header.specs.declared.Closing.{Closing}
use Rattle.header.specs.Header.{form_bytes, count_bytes, span_bytes, header_page}
use Rattle.header.proofs.HeaderBytes.{level_most, length_span}
use Rattle.header.proofs.HeaderRead.{NumbersFit, HeadsFit, header_node}
use Rattle.carry.specs.Carried.{other, pointer_into, pointers_into, header_into}
use Rattle.carry.proofs.Carrying.{length_from, length_form}

-- ---- a node

pub none_carried : (f : Form) (n k : ℕ) → pointer_into f n k none ≡ none
unfolding pointer_into
none_carried Old n k = refl
none_carried New n k = refl

pub at_from : (f : Form) (n j k : ℕ) (ps : List Pointer) → k < length ps → get_or (pointers_into f n j ps) k none ≡ pointer_into f n (j + k) (get_or ps k none)
unfolding pointers_into
at_from f n j k [] l = absurd (omega arith)
at_from f n j zero (p ∷ ps) l = let e : j + 0 ≡ j = omega arith in rw e
at_from f n j (suc k) (p ∷ ps) l = let e : j + suc k ≡ suc j + k = omega arith in rw e (at_from f n (suc j) k ps (omega arith))

module _ (f : Form) (n : ℕ) (from to : List Pointer) (a : length from ≡ 4) (b : length to ≡ 4)
    (carried : (k : ℕ) → k < 4 → pointer_into f n k (get_or from k none) ≡ get_or to k none) where
  pub node_carried : (level : ℕ) → level ≤ 4 → pointers_into f n 0 (node_of from level) ≡ node_of to level
  node_carried level few =
      let l = length_from f n 0 (node_of from level) in
      let four = length_node from a level few in
      ext_get_or none (pointers_into f n 0 (node_of from level)) (node_of to level) (l ∙ four ∙ sym (length_node to b level few))
      (λ k below. one k (omega arith))
    where
      one : (k : ℕ) → k < 4 → get_or (pointers_into f n 0 (node_of from level)) k none ≡ get_or (node_of to level) k none
      one k l =
          let z : 0 + k ≡ k = omega arith in
          at_from f n 0 k (node_of from level) (omega (arith, length_node from a level few)) ∙ rw z (go (dec_lt k level))
        where
          go : Dec (k < level) → pointer_into f n k (get_or (node_of from level) k none) ≡ get_or (node_of to level) k none
          go (yes m) = rw (node_below from a level few k m, node_below to b level few k m) (carried k l)
          go (no m) = rw (node_above from a level few k (omega arith) l, node_above to b level few k (omega arith) l) (none_carried f n k)

-- ---- a header

abbrev front : Closing → List ℕ
front c =
    bytes 4 c.serial ++ (bytes 2 c.count ++ (bytes 1 c.buckets ++ (bytes 1 (section_count c.count)
    ++ (bytes 1 (fragment_length (section_count c.count)) ++ bytes 1 (level_of c.serial)))))

abbrev span : Closing → List ℕ
span c = span_bytes c.start c.end c.low c.high

abbrev tail : Closing → List ℕ
tail c = pointers_bytes c.form (node_of c.heads (level_of c.serial)) ++ repeated (432 - 4 * serial_width c.form) 0

in_parts : (c : Closing) → header_page c ≡ front c ++ (form_bytes c.form ++ (span c ++ tail c))
unfolding header_page count_bytes
in_parts c = simp append_assoc

length_front : (c : Closing) → length (front c) ≡ 10
length_front c = simp (length-append, length_bytes)

front_read : (c : Closing) → part (header_page c) 0 10 ≡ front c
front_read c =
    let l = length_front c in
    rw in_parts (part_append_left (front c) _ 0 10 (omega arith) ∙ part_all (front c) 10 l)

span_read : (c : Closing) → part (header_page c) 16 24 ≡ span c
span_read c =
    let k = length_front c in
    let l = length_form c.form in
    let m = length_span c.start c.end c.low c.high in
    let t = length-append (span c) (tail c) in
    let u = length-append (form_bytes c.form) (span c ++ tail c) in
    rw in_parts (part_append_right (front c) (form_bytes c.form ++ (span c ++ tail c)) 6 16 24 (omega arith) (omega arith)
    ∙ part_append_right (form_bytes c.form) (span c ++ tail c) 0 6 24 (omega arith) (omega arith)
    ∙ part_append_left (span c) (tail c) 0 24 (omega arith) ∙ part_all (span c) 24 m)

-- the same closing with the heads of the form f
abbrev pub in_form : Form → List Pointer → Closing → Closing
in_form f heads c = record {
  form = f;
  serial = c.serial;
  count = c.count;
  buckets = c.buckets;
  start = c.start;
  end = c.end;
  low = c.low;
  high = c.high;
  heads = heads;
  page = c.page;
  bloom = c.bloom;
}

pub header_carried : (f : Form) (c : Closing) (heads : List Pointer) → c.form ≡ other f → NumbersFit c → HeadsFit c → length heads ≡ 4
    → ((k : ℕ) → k < 4 → pointer_into f c.serial k (get_or c.heads k none) ≡ get_or heads k none)
    → header_into f c.serial (header_page c) ≡ header_page (in_form f heads c)
unfolding header_into
header_carried f c heads e nf hf four carried =
    let read : pointers_at (other f) (header_page c) 40 ≡ node_of c.heads (level_of c.serial) =
    ap (λ (v : Form). pointers_at v (header_page c) 40) (sym e) ∙ header_node c nf hf in
    let node = node_carried f c.serial c.heads heads hf.four four carried (level_of c.serial) (level_most c.serial) in
    rw (front_read c, span_read c, read, node) (sym (in_parts (in_form f heads c)))

-- A header page read back gives what was written: each field is read where it starts. Assumes nothing.
use mathlib.Core.Path.{◌≡◌, refl, sym, ap, ◌∙◌}
use mathlib.Core.Bool.{Bool, true, ◌&&◌}
use mathlib.Core.List.{List, [], ◌∷◌, append_assoc}
use Prim.Native.Nat.{ℕ, ◌+◌, ◌-◌, ◌*◌, ◌^◌, ◌≤◌, ◌<◌}
use native.Mathlib.Decide.{dec_lt}
use native.Mathlib.Omega.{arith}
use lib.Dec.{ltb}
use lib.ListN.{length, get_or}
use Rattle.codec.specs.Area.{part, repeated}
use Rattle.codec.specs.Number.{le, bytes, number_at}
use Rattle.codec.proofs.Numbers.{length_bytes, le_bytes}
use Rattle.bloom.specs.Pages.{section_count, fragment_length}
use Rattle.form.specs.declared.Form.{Form}
use Rattle.form.specs.declared.Form.TheVariants.{Old, New}
use Rattle.form.specs.Forms.{byte_ten, serial_width, pointer_width}
use Rattle.skiplist.specs.declared.Pointer.{Pointer}
use Rattle.skiplist.specs.Skip.{none, level_of, node_of}
use Rattle.skiplist.specs.PointerBytes.{pointers_bytes, pointers_at}
use Rattle.skiplist.proofs.Pointers.{PointerFits, pointers_decoded}
use Rattle.skiplist.proofs.Nodes.{length_node, node_below, node_above}
use Rattle.header.specs.declared.Closing.{Closing}
use Rattle.header.specs.declared.Header.{Header}
use Rattle.header.specs.Header.{count_bytes, span_bytes, header_page}
use Rattle.header.specs.Header.{counts_good, span_good, pointers_good, form_in, header_good, header_in}
use Rattle.header.proofs.Fields.{joined, start_of, field_read}
use Rattle.header.proofs.HeaderBytes.{fragment_fits, level_most, serial_most, length_node_bytes, length_header}

-- ---- the numbers

-- a closing's numbers fit their bytes
pub record NumbersFit (c : Closing) : Type 0 where
  pub serial_fits : c.serial < 256 ^ 4
  pub some : 1 ≤ c.count
  pub most : c.count ≤ 320
  pub buckets_fit : c.buckets < 256
  pub start_fits : c.start < 256 ^ 8
  pub end_fits : c.end < 256 ^ 8
  pub low_fits : c.low < 256 ^ 4
  pub high_fits : c.high < 256 ^ 4

-- what the header page h says
pub record Numbers (h : List ℕ) (c : Closing) : Type 0 where
  pub serial_is : number_at h 0 4 ≡ c.serial
  pub count_is : number_at h 4 2 ≡ c.count
  pub buckets_is : number_at h 6 1 ≡ c.buckets
  pub sections_is : number_at h 7 1 ≡ section_count c.count
  pub fragment_is : number_at h 8 1 ≡ fragment_length (section_count c.count)
  pub level_is : number_at h 9 1 ≡ level_of c.serial
  pub form_is : number_at h 10 1 ≡ byte_ten c.form
  pub start_is : number_at h 16 8 ≡ c.start
  pub end_is : number_at h 24 8 ≡ c.end
  pub low_is : number_at h 32 4 ≡ c.low
  pub high_is : number_at h 36 4 ≡ c.high

-- the fields of a header, in front of its zeros
abbrev fields : Closing → List (List ℕ)
fields c =
    bytes 4 c.serial ∷ bytes 2 c.count ∷ bytes 1 c.buckets ∷ bytes 1 (section_count c.count)
    ∷ bytes 1 (fragment_length (section_count c.count)) ∷ bytes 1 (level_of c.serial) ∷ bytes 1 (byte_ten c.form) ∷ repeated 5 0
    ∷ bytes 8 c.start ∷ bytes 8 c.end ∷ bytes 4 c.low ∷ bytes 4 c.high
    ∷ pointers_bytes c.form (node_of c.heads (level_of c.serial)) ∷ []

page_fields : (c : Closing) → header_page c ≡ joined (fields c) (repeated (432 - 4 * serial_width c.form) 0)
unfolding header_page count_bytes span_bytes
page_fields c = simp append_assoc

number_read : (fs : List (List ℕ)) (last : List ℕ) (k n v : ℕ) → k < length fs → get_or fs k [] ≡ bytes n v → v < 256 ^ n
    → number_at (joined fs last) (start_of fs k) n ≡ v
number_read fs last k n v h e b =
    let l : length (get_or fs k []) ≡ n = ap length e ∙ length_bytes n v in
    ap (λ (m : ℕ). le (part (joined fs last) (start_of fs k) m)) (sym l) ∙ ap le (field_read fs last k h ∙ e) ∙ le_bytes n v b

ten_most : (f : Form) → byte_ten f ≤ 1
ten_most Old = omega arith
ten_most New = omega arith

module _ (c : Closing) (last : List ℕ) (f : NumbersFit c) where
  numbers_joined : Numbers (joined (fields c) last) c
  unfolding bytes repeated
  numbers_joined = record {
    serial_is = number_read (fields c) last 0 4 c.serial (omega arith) refl f.serial_fits;
    count_is = number_read (fields c) last 1 2 c.count (omega arith) refl (omega (arith, f.most));
    buckets_is = number_read (fields c) last 2 1 c.buckets (omega arith) refl (omega (arith, f.buckets_fit));
    sections_is = number_read (fields c) last 3 1 (section_count c.count) (omega arith) refl (omega (arith, f.most));
    fragment_is =
        number_read (fields c) last 4 1 (fragment_length (section_count c.count)) (omega arith) refl
        (fragment_fits c.count _ _ f.some f.most refl refl);
    level_is = number_read (fields c) last 5 1 (level_of c.serial) (omega arith) refl (omega (arith, level_most c.serial));
    form_is = number_read (fields c) last 6 1 (byte_ten c.form) (omega arith) refl (omega (arith, ten_most c.form));
    start_is = number_read (fields c) last 8 8 c.start (omega arith) refl f.start_fits;
    end_is = number_read (fields c) last 9 8 c.end (omega arith) refl f.end_fits;
    low_is = number_read (fields c) last 10 4 c.low (omega arith) refl f.low_fits;
    high_is = number_read (fields c) last 11 4 c.high (omega arith) refl f.high_fits;
  }

  pointers_joined : length c.heads ≡ 4 → part (joined (fields c) last) 40 (4 * pointer_width c.form)
      ≡ pointers_bytes c.form (node_of c.heads (level_of c.serial))
  unfolding bytes repeated
  pointers_joined four =
      let l : length (get_or (fields c) 12 []) ≡ 4 * pointer_width c.form = length_node_bytes c.form c.heads c.serial four in
      ap (λ (m : ℕ). part (joined (fields c) last) 40 m) (sym l) ∙ field_read (fields c) last 12 (omega arith)

pub header_numbers : (c : Closing) → NumbersFit c → Numbers (header_page c) c
header_numbers c f = rw page_fields (numbers_joined c _ f)

-- ---- the pointers

none_fits : (f : Form) → PointerFits f none
none_fits Old = record { slot = omega arith; serial = omega arith; time = omega arith }
none_fits New = record { slot = omega arith; serial = omega arith; time = omega arith }

-- the pointers of a node fit where the heads do
node_fits : (v : Form) (heads : List Pointer) (level : ℕ) → length heads ≡ 4 → level ≤ 4
    → ((k : ℕ) → k < 4 → PointerFits v (get_or heads k none))
    → (k : ℕ) → k < 4 → PointerFits v (get_or (node_of heads level) k none)
node_fits v heads level four few f k h = go (dec_lt k level)
  where
    go : Dec (k < level) → PointerFits v (get_or (node_of heads level) k none)
    go (yes l) = rw (node_below heads four level few k l) (f k h)
    go (no l) = rw (node_above heads four level few k (omega arith) h) (none_fits v)

pointers_read : (v : Form) (s : List ℕ) (at : ℕ) (ps : List Pointer) → length ps ≡ 4
    → ((k : ℕ) → k < 4 → PointerFits v (get_or ps k none))
    → at + 4 * pointer_width v ≤ length s → part s at (4 * pointer_width v) ≡ pointers_bytes v ps → pointers_at v s at ≡ ps
pointers_read v s at [] l f h e = absurd (omega arith)
pointers_read v s at (a ∷ []) l f h e = absurd (omega arith)
pointers_read v s at (a ∷ b ∷ []) l f h e = absurd (omega arith)
pointers_read v s at (a ∷ b ∷ c ∷ []) l f h e = absurd (omega arith)
pointers_read v s at (a ∷ b ∷ c ∷ d ∷ []) l f h e =
    pointers_decoded v s at a b c d (f 0 (omega arith)) (f 1 (omega arith)) (f 2 (omega arith)) (f 3 (omega arith)) h e
pointers_read v s at (a ∷ b ∷ c ∷ d ∷ p ∷ ps) l f h e = absurd (omega arith)

-- four heads that fit their bytes
pub record HeadsFit (c : Closing) : Type 0 where
  pub four : length c.heads ≡ 4
  pub fit : (k : ℕ) → k < 4 → PointerFits c.form (get_or c.heads k none)

pub header_node : (c : Closing) → NumbersFit c → HeadsFit c
    → pointers_at c.form (header_page c) 40 ≡ node_of c.heads (level_of c.serial)
header_node c f g =
    let l = length_header c g.four in
    let m = level_most c.serial in
    let e : part (header_page c) 40 (4 * pointer_width c.form) ≡ pointers_bytes c.form (node_of c.heads (level_of c.serial)) =
    rw page_fields (pointers_joined c _ f g.four) in
    pointers_read c.form (header_page c) 40 (node_of c.heads (level_of c.serial))
    (length_node c.heads g.four (level_of c.serial) m)
    (node_fits c.form c.heads (level_of c.serial) g.four m g.fit) (omega (arith, serial_most c.form)) e

-- ---- the header

-- whether the header of a closing has no damage
abbrev pub closing_good : Closing → ℕ → ℕ → Bool
closing_good c slots before =
    counts_good c.count c.buckets (section_count c.count) (fragment_length (section_count c.count))
    && (span_good c.start c.end c.low c.high
    && (pointers_good slots (node_of c.heads (level_of c.serial)) && ltb c.serial before))

-- the header of a closing, with a judgement
abbrev pub header_of : Closing → Bool → Header
header_of c good = record {
  good = good;
  serial = c.serial;
  count = c.count;
  buckets = c.buckets;
  start = c.start;
  low = c.low;
  high = c.high;
  next = node_of c.heads (level_of c.serial);
}

form_read : (f : Form) (h : List ℕ) → number_at h 10 1 ≡ byte_ten f → form_in f h ≡ true
form_read Old h e = refl
form_read New h e = rw e

pub header_read : (c : Closing) (slots before : ℕ) → NumbersFit c → HeadsFit c
    → header_in c.form (header_page c) slots before ≡ header_of c (closing_good c slots before)
unfolding header_in header_good
header_read c slots before f g =
    let n = header_numbers c f in
    rw (
      header_node c f g,
      n.serial_is,
      form_read c.form (header_page c) n.form_is,
      n.count_is,
      n.buckets_is,
      n.sections_is,
      n.fragment_is,
      n.start_is,
      n.end_is,
      n.low_is,
      n.high_is,
    )

-- One bucket in bytes: what is written is read back. Every field stands at a fixed offset, so its bytes are found by
-- computation; only the entries take the law of places. Assumes nothing.
use Prim.Native.Nat.{ℕ, zero, suc, ◌+◌, ◌*◌, ◌≤◌, ◌<◌}
use mathlib.Core.Path.{◌≡◌, refl, sym, ap, ap₂, ◌∙◌}
use mathlib.Core.Bool.{cond}
use mathlib.Core.Option.{Option, none, some}
use mathlib.Core.List.{List, ◌++◌}
use native.Mathlib.Omega.{arith}
use lib.Dec.{ltb, eqb}
use lib.ListN.{length, get_or, drop, length-append, drop_of_length-le}
use lib.Seq.{drop-cons}
use borrow.Author.Tests.{ltb-true, ltb-false, ne_eqb}
use Rattle.codec.specs.Area.{part, repeated}
use Rattle.codec.specs.Number.{le, bytes, number_at}
use Rattle.codec.proofs.Areas.{part_part, part_append_right}
use Rattle.codec.proofs.Numbers.{le_bytes, bytes_below}
use Rattle.tree.specs.Rules.{Entry, Bucket, Kids, whole, split}
use Rattle.tree.specs.Bytes.{places, entry_bytes, no_mid, mid_number, child_number, left_number, right_number, bucket_bytes}
use Rattle.tree.specs.Reading.{entry_in, entries_from, Node, node_in, child_at, kids_of}
use Rattle.tree.proofs.Descent.{if}
use Rattle.tree.proofs.Places.{Bytes, bytes_append, bytes_repeated, bytes_places, length_places, place_used, place_free}

pub length_entry : (e : Entry) → length (entry_bytes e) ≡ 8
unfolding entry_bytes bytes repeated
length_entry e = refl

-- the 24 bytes before the entries
abbrev pub head_bytes : Bucket → List ℕ
head_bytes b =
    bytes 4 b.x ++ bytes 4 b.y ++ bytes 4 (mid_number b.kids)
    ++ bytes 1 (left_number b.kids)
    ++ bytes 1 (right_number b.kids)
    ++ repeated 10 255

pub length_head : (b : Bucket) → length (head_bytes b) ≡ 24
unfolding bytes repeated
length_head b = refl

pub length_bucket : (b : Bucket) → length (bucket_bytes b) ≡ 128
unfolding bucket_bytes
length_bucket b =
    length-append (head_bytes b) (places 8 entry_bytes 13 b.entries)
    ∙ rw (length_head b, length_places 8 entry_bytes length_entry 13 b.entries)

-- a number after bytes
bytes_number : (p : List ℕ) (n v : ℕ) → Bytes p → Bytes (p ++ bytes n v)
bytes_number p n v f = bytes_append p (bytes n v) f (bytes_below n v)

bytes_entry : (e : Entry) → Bytes (entry_bytes e)
unfolding entry_bytes
bytes_entry e =
    bytes_append (bytes 4 e.load ++ bytes 2 e.position) (repeated 2 255)
    (bytes_number (bytes 4 e.load) 2 e.position (bytes_below 4 e.load))
    (bytes_repeated 2 255 (omega arith))

bytes_head : (b : Bucket) → Bytes (head_bytes b)
bytes_head b =
    let p₁ : List ℕ = bytes 4 b.x ++ bytes 4 b.y in
    let p₂ : List ℕ = p₁ ++ bytes 4 (mid_number b.kids) in
    let p₃ : List ℕ = p₂ ++ bytes 1 (left_number b.kids) in
    let p₄ : List ℕ = p₃ ++ bytes 1 (right_number b.kids) in
    bytes_append p₄ (repeated 10 255)
    (bytes_number p₃ 1 (right_number b.kids)
    (bytes_number p₂ 1 (left_number b.kids)
    (bytes_number p₁ 4 (mid_number b.kids) (bytes_number (bytes 4 b.x) 4 b.y (bytes_below 4 b.x)))))
    (bytes_repeated 10 255 (omega arith))

pub bytes_bucket : (b : Bucket) → Bytes (bucket_bytes b)
unfolding bucket_bytes
bytes_bucket b =
    bytes_append (head_bytes b) (places 8 entry_bytes 13 b.entries) (bytes_head b)
    (bytes_places 8 entry_bytes bytes_entry 13 b.entries)

-- ---- numbers that fit their bytes

abbrev pub FitsChild : Option ℕ → Type 0
FitsChild none = Unit {0}
FitsChild (some c) = c < 255

abbrev pub FitsKids : Kids → Type 0
FitsKids whole = Unit {0}
FitsKids (split m a c) = (m < 4294967295) × FitsChild a × FitsChild c

pub record Fits (b : Bucket) : Type 0 where
  pub x : b.x < 4294967296
  pub y : b.y < 4294967296
  pub kids : FitsKids b.kids
  pub room : length b.entries ≤ 13
  pub loads : (i : ℕ) (d : Entry) → i < length b.entries → (get_or b.entries i d).load < 4294967296
  pub positions : (i : ℕ) (d : Entry) → i < length b.entries → (get_or b.entries i d).position < 65535

-- ---- the entries

load_in_lem : (e : Entry) → e.load < 4294967296 → le (part (entry_bytes e) 0 4) ≡ e.load
unfolding part entry_bytes bytes
load_in_lem e h = le_bytes 4 e.load h

position_in : (e : Entry) → e.position < 65535 → le (part (entry_bytes e) 4 2) ≡ e.position
unfolding part entry_bytes bytes
position_in e h = le_bytes 2 e.position (omega arith)

no_position_lem : le (part (repeated 8 255) 4 2) ≡ 65535
unfolding part repeated le
no_position_lem = refl

-- n bytes at `off` of entry i
pub within_entry : (b : Bucket) (i off n to : ℕ) → i < 13 → off + n ≤ 8 → 24 + 8 * i + off ≡ to
    → part (bucket_bytes b) to n ≡ part (part (places 8 entry_bytes 13 b.entries) (8 * i) 8) off n
unfolding bucket_bytes
within_entry b i off n to h k e =
    let l = length_bucket b in
    let m = length_places 8 entry_bytes length_entry 13 b.entries in
    let g = length_head b in
    ap (λ (j : ℕ). part (bucket_bytes b) j n) (sym e) ∙ sym (part_part (bucket_bytes b) (24 + 8 * i) 8 off n (omega arith) k)
    ∙ ap (λ (p : List ℕ). part p off n)
    (part_append_right (head_bytes b) (places 8 entry_bytes 13 b.entries) (8 * i) (24 + 8 * i) 8 (omega arith) (omega arith))

module _ (b : Bucket) (f : Fits b) where
  -- an entry that is used, and one that is not
  entry_used : (i : ℕ) (d : Entry) → i < length b.entries → entry_in (bucket_bytes b) i ≡ get_or b.entries i d
  entry_used i d h =
      let r = f.room in
      let u = place_used 8 entry_bytes length_entry 13 b.entries d i h (omega arith) in
      let p : number_at (bucket_bytes b) (24 + 8 * i) 4 ≡ (get_or b.entries i d).load =
      ap le (within_entry b i 0 4 (24 + 8 * i) (omega arith) (omega arith) (omega arith) ∙ ap (λ (p : List ℕ). part p 0 4) u)
      ∙ load_in_lem (get_or b.entries i d) (f.loads i d h) in
      let q : number_at (bucket_bytes b) (28 + 8 * i) 2 ≡ (get_or b.entries i d).position =
      ap le (within_entry b i 4 2 (28 + 8 * i) (omega arith) (omega arith) (omega arith) ∙ ap (λ (p : List ℕ). part p 4 2) u)
      ∙ position_in (get_or b.entries i d) (f.positions i d h) in
      ap₂ (λ (l p : ℕ). record { load = l; position = p }) p q

  entry_free : (i : ℕ) → length b.entries ≤ i → i < 13 → number_at (bucket_bytes b) (28 + 8 * i) 2 ≡ 65535
  entry_free i h k =
      ap le (within_entry b i 4 2 (28 + 8 * i) k (omega arith) (omega arith)
      ∙ ap (λ (p : List ℕ). part p 4 2) (place_free 8 entry_bytes length_entry 13 b.entries i h k))
      ∙ no_position_lem

  entries_back : (n i : ℕ) → i + n ≡ 13 → i ≤ length b.entries → entries_from (bucket_bytes b) n i ≡ drop i b.entries
  unfolding entries_from
  entries_back zero i e h = sym (drop_of_length-le b.entries {i = i} (omega (arith, f.room)))
  entries_back (suc n) i e h =
      if (ltb i (length b.entries))
      (λ t. let d : Entry = record { load = 0; position = 0 } in
      let k : i < length b.entries = ltb-true i (length b.entries) t in
      let u = entry_used i d k in
      let q : number_at (bucket_bytes b) (28 + 8 * i) 2 ≡ (get_or b.entries i d).position = ap (λ (z : Entry). z.position) u in
      rw (
        ne_eqb (number_at (bucket_bytes b) (28 + 8 * i) 2) 65535 (omega (arith, f.positions i d k)),
        u,
        entries_back n (suc i) (omega arith) k,
        drop-cons b.entries i d k,
      ))
      (λ t. let k : length b.entries ≤ i = ltb-false i (length b.entries) t in
      rw (entry_free i k (omega arith), drop_of_length-le b.entries k))

-- ---- the bucket

-- what stands in a bucket of the tree
abbrev pub node_of : Bucket → Node
node_of b =
    record {
      x = b.x;
      y = b.y;
      mid = mid_number b.kids;
      left = left_number b.kids;
      right = right_number b.kids;
      entries = b.entries;
    }

mid_fits : (k : Kids) → FitsKids k → mid_number k < 4294967296
mid_fits whole f = omega arith
mid_fits (split m a c) f = omega arith

child_fits : (a : Option ℕ) → FitsChild a → child_number a < 256
child_fits none f = omega arith
child_fits (some c) f = omega arith

left_fits : (k : Kids) → FitsKids k → left_number k < 256
left_fits whole f = omega arith
left_fits (split m a c) f = child_fits a f.1

right_fits : (k : Kids) → FitsKids k → right_number k < 256
right_fits whole f = omega arith
right_fits (split m a c) f = child_fits c f.2

pub node_back : (b : Bucket) → Fits b → node_in (bucket_bytes b) ≡ node_of b
unfolding node_in bucket_bytes part bytes repeated
node_back b f = λ i. record {
  x = le_bytes 4 b.x f.x i;
  y = le_bytes 4 b.y f.y i;
  mid = le_bytes 4 (mid_number b.kids) (mid_fits b.kids f.kids) i;
  left = le_bytes 1 (left_number b.kids) (left_fits b.kids f.kids) i;
  right = le_bytes 1 (right_number b.kids) (right_fits b.kids f.kids) i;
  entries = entries_back b f 13 0 (omega arith) (omega arith) i;
}

child_back : (a : Option ℕ) → FitsChild a → child_at (child_number a) ≡ a
child_back none f = refl
child_back (some c) f = rw (ne_eqb c 255 (omega arith))

pub kids_back : (b : Bucket) → FitsKids b.kids → kids_of (node_of b) ≡ b.kids
unfolding kids_of
kids_back b f = go b.kids f
  where
    go : (k : Kids) → FitsKids k
        → cond (eqb (mid_number k) no_mid) whole (split (mid_number k) (child_at (left_number k)) (child_at (right_number k))) ≡ k
    go whole f = refl
    go (split m a c) f = rw (ne_eqb m no_mid (omega arith), child_back a f.1, child_back c f.2)

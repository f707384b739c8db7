-- The writes of an insertion within one bucket: a mid, a child number, a range, an entry. Each stands at a fixed offset, so
-- the bytes after it are found by computation; an entry takes the law of places. What was there before is 255. Assumes
-- nothing.
use Prim.Native.Nat.{ℕ, zero, suc, ◌+◌, ◌*◌, ◌/◌, ◌%◌, ◌^◌, ◌<◌}
use mathlib.Core.Path.{◌≡◌, refl, sym, ap, ◌∙◌}
use mathlib.Core.Bool.{Bool, true, false, cond}
use mathlib.Core.Option.{Option, none, some}
use mathlib.Core.List.{List, [], ◌++◌}
use native.Mathlib.Nat.{pow-suc, suc-add, zero-add, mul_comm, mul_assoc}
use native.Mathlib.Omega.{arith}
use lib.ListN.{length}
use Rattle.codec.specs.Area.{part, splice, repeated, all_ones}
use Rattle.codec.specs.Number.{bytes}
use Rattle.codec.proofs.Areas.{part_repeated, ones_repeated, splice_right}
use Rattle.codec.proofs.Numbers.{length_bytes}
use Rattle.tree.specs.Rules.{Entry, Bucket, Kids, whole, split, added}
use Rattle.tree.specs.Bytes.{places, entry_bytes, bucket_bytes}
use Rattle.tree.specs.Writes.{pair}
use Rattle.tree.proofs.Places.{write_new, place_free}
use Rattle.tree.proofs.Coded.{length_entry, head_bytes, length_head, within_entry}

-- two numbers side by side are one number
pub bytes_join : (m n x y : ℕ) → x < 256 ^ m → bytes (m + n) (x + 256 ^ m * y) ≡ bytes m x ++ bytes n y
unfolding bytes
bytes_join zero n x y h =
    let e : x + 256 ^ 0 * y ≡ y = omega (arith, h) in
    rw (zero-add n, e)
bytes_join (suc m) n x y h =
    let p : 256 ^ suc m ≡ 256 ^ m * 256 = pow-suc 256 m in
    let w : 256 ^ suc m * y ≡ 256 * (256 ^ m * y) =
    ap (λ (k : ℕ). k * y) (p ∙ mul_comm (256 ^ m) 256) ∙ mul_assoc 256 (256 ^ m) y in
    let r : (x + 256 ^ suc m * y) % 256 ≡ x % 256 = omega arith in
    let q : (x + 256 ^ suc m * y) / 256 ≡ x / 256 + 256 ^ m * y = omega arith in
    rw (suc-add m n, r, q, bytes_join m n (x / 256) y (omega arith))

pub pair_bytes : (n x y : ℕ) → x < 4294967296 → bytes (4 + n) (pair x y) ≡ bytes 4 x ++ bytes n y
pair_bytes n x y h = bytes_join 4 n x y h

abbrev pub bucket : ℕ → ℕ → Kids → List Entry → Bucket
bucket x y k es = record { x = x; y = y; kids = k; entries = es }

-- a mid is written into an unsplit bucket
pub mid_written : (x y m : ℕ) (es : List Entry)
    → splice (bucket_bytes (bucket x y whole es)) 8 (bytes 4 m) ≡ bucket_bytes (bucket x y (split m none none) es)
unfolding splice bucket_bytes bytes repeated
mid_written x y m es = refl

-- a child's number
pub left_written : (x y m n : ℕ) (a c : Option ℕ) (es : List Entry)
    → splice (bucket_bytes (bucket x y (split m a c) es)) 12 (bytes 1 n) ≡ bucket_bytes (bucket x y (split m (some n) c) es)
unfolding splice bucket_bytes bytes repeated
left_written x y m n a c es = refl

pub right_written : (x y m n : ℕ) (a c : Option ℕ) (es : List Entry)
    → splice (bucket_bytes (bucket x y (split m a c) es)) 13 (bytes 1 n) ≡ bucket_bytes (bucket x y (split m a (some n)) es)
unfolding splice bucket_bytes bytes repeated
right_written x y m n a c es = refl

-- a new bucket's range, in a place that is 255
pub range_written : (x y : ℕ) → x < 4294967296
    → splice (repeated 128 255) 0 (bytes 8 (pair x y)) ≡ bucket_bytes (bucket x y whole [])
unfolding splice bucket_bytes bytes repeated places
range_written x y h = ap (λ (r : List ℕ). splice (repeated 128 255) 0 r) (pair_bytes 4 x y h)

-- an entry, in a place that is 255
entry_written : (l p : ℕ) → l < 4294967296
    → splice (repeated 8 255) 0 (bytes 6 (pair l p)) ≡ entry_bytes (record { load = l; position = p })
unfolding splice entry_bytes bytes repeated
entry_written l p h = ap (λ (r : List ℕ). splice (repeated 8 255) 0 r) (pair_bytes 2 l p h)

-- one entry more, in a bucket that is not full
pub added_written : (b : Bucket) (l p : ℕ) → l < 4294967296 → length b.entries < 13
    → splice (bucket_bytes b) (24 + 8 * length b.entries) (bytes 6 (pair l p))
    ≡ bucket_bytes (added b (record { load = l; position = p }))
unfolding bucket_bytes
added_written b l p h k =
    let g = length_head b in
    let n = length_bytes 6 (pair l p) in
    let z : 8 * length b.entries + 0 ≡ 8 * length b.entries = omega arith in
    splice_right (head_bytes b) (places 8 entry_bytes 13 b.entries) (8 * length b.entries) (24 + 8 * length b.entries)
    (bytes 6 (pair l p)) (omega arith)
    ∙ ap (λ (s : List ℕ). head_bytes b ++ s)
    (ap (λ (j : ℕ). splice (places 8 entry_bytes 13 b.entries) j (bytes 6 (pair l p))) (sym z)
    ∙ write_new 8 entry_bytes length_entry 0 (bytes 6 (pair l p)) (record { load = l; position = p }) (omega arith) 13 b.entries
    k (entry_written l p h))

-- ---- what was there

pub mid_clear : (x y : ℕ) (es : List Entry) → all_ones (part (bucket_bytes (bucket x y whole es)) 8 4) ≡ true
unfolding part bucket_bytes bytes repeated all_ones
mid_clear x y es = refl

pub whole_clear : (x y : ℕ) (q : Bool) (es : List Entry)
    → all_ones (part (bucket_bytes (bucket x y whole es)) (cond q 12 13) 1) ≡ true
unfolding part bucket_bytes bytes repeated all_ones
whole_clear x y true es = refl
whole_clear x y false es = refl

pub left_clear : (x y m : ℕ) (c : Option ℕ) (es : List Entry)
    → all_ones (part (bucket_bytes (bucket x y (split m none c) es)) 12 1) ≡ true
unfolding part bucket_bytes bytes repeated all_ones
left_clear x y m c es = refl

pub right_clear : (x y m : ℕ) (a : Option ℕ) (es : List Entry)
    → all_ones (part (bucket_bytes (bucket x y (split m a none) es)) 13 1) ≡ true
unfolding part bucket_bytes bytes repeated all_ones
right_clear x y m a es = refl

pub entry_clear : (b : Bucket) → length b.entries < 13 → all_ones (part (bucket_bytes b) (24 + 8 * length b.entries) 6) ≡ true
entry_clear b k =
    rw (
      within_entry b (length b.entries) 0 6 (24 + 8 * length b.entries) k (omega arith) (omega arith),
      place_free 8 entry_bytes length_entry 13 b.entries (length b.entries) (omega arith) k,
      part_repeated 8 255 0 6 (omega arith),
    )
    (ones_repeated 6)

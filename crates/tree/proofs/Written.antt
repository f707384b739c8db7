-- The writes of an insertion into the bytes of a tree give the bytes of the grown tree, and go over bytes that are 255.
-- Each write stays within one place. Assumes nothing.
use Prim.Native.Nat.{ℕ, zero, suc, ◌+◌, ◌-◌, ◌*◌, ◌≤◌, ◌<◌, min}
use mathlib.Core.Path.{◌≡◌, sym, ap, ◌∙◌}
use mathlib.Core.Bool.{Bool, true, false, cond}
use mathlib.Core.Option.{Option, none}
use mathlib.Core.List.{List, [], ◌∷◌, ◌++◌, append-nil}
use native.Mathlib.Omega.{arith}
use lib.ListN.{length, set, length-append}
use lib.Seq.{set-append_seam, get_or-append_seam}
use Rattle.codec.specs.Area.{part, splice, repeated, all_ones}
use Rattle.codec.specs.Number.{bytes}
use Rattle.codec.proofs.Areas.{part_all, part_add, part_part, part_append_left, part_repeated, ones_repeated, splice_left}
use Rattle.codec.proofs.Numbers.{length_bytes}
use Rattle.tree.specs.Rules.{Entry, Bucket, Kids, whole, split, root, at, added, linked}
use Rattle.tree.specs.Place.{bucket_start}
use Rattle.tree.specs.Bytes.{bucket_bytes, tree_bytes}
use Rattle.tree.specs.Writes.{pair, mid_write, child_write, range_write, entry_write, is_clear, written}
use Rattle.tree.proofs.Places.{Bytes, bytes_places, length_places, places_none, rest_free}
use Rattle.tree.proofs.Places.{place_used, place_free, write_used, write_new}
use Rattle.tree.proofs.Coded.{length_bucket, bytes_bucket}
use Rattle.tree.proofs.Fields.{bucket, mid_written, left_written, right_written, range_written, added_written}
use Rattle.tree.proofs.Fields.{mid_clear, whole_clear, left_clear, right_clear, entry_clear}
use Rattle.tree.proofs.Starts.{bucket_start_lem}

pub length_tree : (t : List Bucket) → length (tree_bytes t) ≡ 4608
unfolding tree_bytes
length_tree t = length_places 128 bucket_bytes length_bucket 36 t

pub bytes_tree : (t : List Bucket) → Bytes (tree_bytes t)
unfolding tree_bytes
bytes_tree t = bytes_places 128 bucket_bytes bytes_bucket 36 t

-- a tree without buckets is erased, and so are the places past the last bucket
pub tree_none : tree_bytes [] ≡ repeated 4608 255
unfolding tree_bytes
tree_none = places_none 128 bucket_bytes length_bucket 36

pub tree_rest : (t : List Bucket) (from n : ℕ) → length t ≤ 36 → 128 * length t ≤ from → from + n ≤ 4608
    → part (tree_bytes t) from n ≡ repeated n 255
unfolding tree_bytes
tree_rest t from n few h k = rest_free 128 bucket_bytes length_bucket 36 t from n few h k

-- a part of the tree's bytes: what the buckets reach into it, then 255
pub tree_part : (t : List Bucket) (rest : List ℕ) (from m : ℕ) → length t ≤ 36 → from + m ≤ 4608
    → part (tree_bytes t ++ rest) from (min m (length t * 128 - from)) ++ repeated (m - min m (length t * 128 - from)) 255
    ≡ part (tree_bytes t) from m
unfolding repeated
tree_part t rest from m few h =
    go (min m (length t * 128 - from)) (m - min m (length t * 128 - from)) (omega arith) (λ p. omega arith)
  where
    go : (k r : ℕ) → k + r ≡ m → (0 < r → 128 * length t ≤ from + k)
        → part (tree_bytes t ++ rest) from k ++ repeated r 255 ≡ part (tree_bytes t) from m
    go k zero e f =
        let l = length_tree t in
        let s : k ≡ m = omega arith in
        rw s (append-nil (part (tree_bytes t ++ rest) from m) ∙ part_append_left (tree_bytes t) rest from m (omega arith))
    go k (suc r) e f =
        let l = length_tree t in
        rw (
          part_append_left (tree_bytes t) rest from k (omega arith),
          ← e,
          part_add (tree_bytes t) from k (suc r),
          tree_rest t (from + k) (suc r) few (f (omega arith)) (omega arith),
        )

-- the buckets' part of NOR
pub tree_of_nor : (t : List Bucket) (rest : List ℕ) → part (tree_bytes t ++ rest) 0 4608 ≡ tree_bytes t
tree_of_nor t rest =
    let l = length_tree t in
    part_append_left (tree_bytes t) rest 0 4608 (omega arith) ∙ part_all (tree_bytes t) 4608 l

-- a bucket with the mid m, and no child yet
abbrev pub halved : Bucket → ℕ → Bucket
halved b m = bucket b.x b.y (split m none none) b.entries

linked_written : (b : Bucket) (m : ℕ) (a c : Option ℕ) → b.kids ≡ split m a c → (q : Bool) (n : ℕ)
    → splice (bucket_bytes b) (cond q 12 13) (bytes 1 n) ≡ bucket_bytes (linked b q m a c n)
linked_written b m a c e q n =
    ap (λ (k : Kids). splice (bucket_bytes (bucket b.x b.y k b.entries)) (cond q 12 13) (bytes 1 n)) e
    ∙ go q
  where
    go : (q : Bool) → splice (bucket_bytes (bucket b.x b.y (split m a c) b.entries)) (cond q 12 13) (bytes 1 n)
        ≡ bucket_bytes (linked b q m a c n)
    go true = left_written b.x b.y m n a c b.entries
    go false = right_written b.x b.y m n a c b.entries

halved_written : (b : Bucket) (m : ℕ) → b.kids ≡ whole → splice (bucket_bytes b) 8 (bytes 4 m) ≡ bucket_bytes (halved b m)
halved_written b m e =
    ap (λ (k : Kids). splice (bucket_bytes (bucket b.x b.y k b.entries)) 8 (bytes 4 m)) e
    ∙ mid_written b.x b.y m b.entries

side_fits : (q : Bool) → cond q 12 13 + 1 ≤ 128
side_fits true = omega arith
side_fits false = omega arith

-- the bytes of a tree, and what stands after them
module _ (t : List Bucket) (few : length t ≤ 36) (rest : List ℕ) where
  -- ---- what stands in a place

  part_used : (i off n : ℕ) → i < length t → off + n ≤ 128
      → part (tree_bytes t ++ rest) (bucket_start i + off) n ≡ part (bucket_bytes (at t i)) off n
  unfolding tree_bytes
  part_used i off n h k =
      let l = length_tree t in
      rw (bucket_start_lem i)
      (part_append_left (tree_bytes t) rest (128 * i + off) n (omega arith)
      ∙ sym (part_part (tree_bytes t) (128 * i) 128 off n (omega arith) k)
      ∙ ap (λ (s : List ℕ). part s off n) (place_used 128 bucket_bytes length_bucket 36 t (root []) i h (omega arith)))

  part_free : (i off n : ℕ) → length t ≤ i → i < 36 → off + n ≤ 128
      → part (tree_bytes t ++ rest) (bucket_start i + off) n ≡ repeated n 255
  unfolding tree_bytes
  part_free i off n h u k =
      let l = length_tree t in
      rw (bucket_start_lem i)
      (part_append_left (tree_bytes t) rest (128 * i + off) n (omega arith)
      ∙ sym (part_part (tree_bytes t) (128 * i) 128 off n (omega arith) k)
      ∙ ap (λ (s : List ℕ). part s off n) (place_free 128 bucket_bytes length_bucket 36 t i h u)
      ∙ part_repeated 128 255 off n k)

  clear_free : (i off n : ℕ) → length t ≤ i → i < 36 → off + n ≤ 128
      → all_ones (part (tree_bytes t ++ rest) (bucket_start i + off) n) ≡ true
  clear_free i off n h u k = ap all_ones (part_free i off n h u k) ∙ ones_repeated n

  pub clear_range : (i x y : ℕ) → length t ≤ i → i < 36 → is_clear (tree_bytes t ++ rest) (range_write i x y) ≡ true
  clear_range i x y h u =
      let z : bucket_start i + 0 ≡ bucket_start i = omega arith in
      ap (λ (j : ℕ). all_ones (part (tree_bytes t ++ rest) j 8)) (sym z) ∙ clear_free i 0 8 h u (omega arith)

  pub clear_first : (i l p : ℕ) → length t ≤ i → i < 36 → is_clear (tree_bytes t ++ rest) (entry_write i 0 l p) ≡ true
  clear_first i l p h u = clear_free i 24 6 h u (omega arith)

  pub clear_entry : (i l p : ℕ) → i < length t → length (at t i).entries < 13
      → is_clear (tree_bytes t ++ rest) (entry_write i (length (at t i).entries) l p) ≡ true
  clear_entry i l p h k =
      ap all_ones (part_used i (24 + 8 * length (at t i).entries) 6 h (omega arith)) ∙ entry_clear (at t i) k

  pub clear_mid : (i m : ℕ) → i < length t → (at t i).kids ≡ whole → is_clear (tree_bytes t ++ rest) (mid_write i m) ≡ true
  clear_mid i m h e =
      ap all_ones (part_used i 8 4 h (omega arith))
      ∙ ap (λ (k : Kids). all_ones (part (bucket_bytes (bucket (at t i).x (at t i).y k (at t i).entries)) 8 4)) e
      ∙ mid_clear (at t i).x (at t i).y (at t i).entries

  -- a child's byte, where the bucket is unsplit, and where it is split and has no child on that side
  side : ℕ → Bool → Kids → Bool
  side i q k =
      all_ones (part (bucket_bytes (bucket (at t i).x (at t i).y k (at t i).entries)) (cond q 12 13) 1)

  clear_side : (i : ℕ) (q : Bool) (n : ℕ) → i < length t
      → is_clear (tree_bytes t ++ rest) (child_write i (cond q 12 13) n) ≡ side i q (at t i).kids
  unfolding side
  clear_side i q n h = ap all_ones (part_used i (cond q 12 13) 1 h (side_fits q))

  pub clear_whole : (i : ℕ) (q : Bool) (n : ℕ) → i < length t → (at t i).kids ≡ whole
      → is_clear (tree_bytes t ++ rest) (child_write i (cond q 12 13) n) ≡ true
  unfolding side
  clear_whole i q n h e = clear_side i q n h ∙ ap (side i q) e ∙ whole_clear (at t i).x (at t i).y q (at t i).entries

  pub clear_missing : (i m : ℕ) (a c : Option ℕ) (q : Bool) (n : ℕ) → i < length t → (at t i).kids ≡ split m a c
      → cond q a c ≡ none → is_clear (tree_bytes t ++ rest) (child_write i (cond q 12 13) n) ≡ true
  unfolding side
  clear_missing i m a c true n h e s =
      clear_side i true n h ∙ ap (side i true) (e ∙ ap (λ (o : Option ℕ). split m o c) s)
      ∙ left_clear (at t i).x (at t i).y m c (at t i).entries
  clear_missing i m a c false n h e s =
      clear_side i false n h ∙ ap (side i false) (e ∙ ap (λ (o : Option ℕ). split m a o) s)
      ∙ right_clear (at t i).x (at t i).y m a (at t i).entries

  -- ---- what a write leaves

  used : (i off : ℕ) (r : List ℕ) (b : Bucket) → i < length t → off + length r ≤ 128
      → splice (bucket_bytes (at t i)) off r ≡ bucket_bytes b
      → splice (tree_bytes t ++ rest) (bucket_start i + off) r ≡ tree_bytes (set t i b) ++ rest
  unfolding tree_bytes
  used i off r b h k e =
      let l = length_tree t in
      rw (bucket_start_lem i)
      (splice_left (tree_bytes t) rest (128 * i + off) r (omega arith)
      ∙ ap (λ (s : List ℕ). s ++ rest) (write_used 128 bucket_bytes length_bucket off r b k 36 t (root []) i h (omega arith) e))

  new : (off : ℕ) (r : List ℕ) (b : Bucket) → length t < 36 → off + length r ≤ 128
      → splice (repeated 128 255) off r ≡ bucket_bytes b
      → splice (tree_bytes t ++ rest) (bucket_start (length t) + off) r ≡ tree_bytes (t ++ (b ∷ [])) ++ rest
  unfolding tree_bytes
  new off r b h k e =
      let l = length_tree t in
      rw (bucket_start_lem (length t))
      (splice_left (tree_bytes t) rest (128 * length t + off) r (omega arith)
      ∙ ap (λ (s : List ℕ). s ++ rest) (write_new 128 bucket_bytes length_bucket off r b k 36 t h e))

  pub written_entry : (i l p : ℕ) → i < length t → length (at t i).entries < 13 → l < 4294967296
      → written (tree_bytes t ++ rest) (entry_write i (length (at t i).entries) l p)
      ≡ tree_bytes (set t i (added (at t i) (record { load = l; position = p }))) ++ rest
  written_entry i l p h k b =
      let n = length_bytes 6 (pair l p) in
      used i (24 + 8 * length (at t i).entries) (bytes 6 (pair l p)) (added (at t i) (record { load = l; position = p })) h
      (omega arith) (added_written (at t i) l p b k)

  pub written_mid : (i m : ℕ) → i < length t → (at t i).kids ≡ whole
      → written (tree_bytes t ++ rest) (mid_write i m) ≡ tree_bytes (set t i (halved (at t i) m)) ++ rest
  written_mid i m h e =
      let n = length_bytes 4 m in
      used i 8 (bytes 4 m) (halved (at t i) m) h (omega arith) (halved_written (at t i) m e)

  pub written_child : (i m : ℕ) (a c : Option ℕ) (q : Bool) (n : ℕ) → i < length t → (at t i).kids ≡ split m a c
      → written (tree_bytes t ++ rest) (child_write i (cond q 12 13) n) ≡ tree_bytes (set t i (linked (at t i) q m a c n)) ++ rest
  written_child i m a c q n h e =
      let k = length_bytes 1 n in
      let s = side_fits q in
      used i (cond q 12 13) (bytes 1 n) (linked (at t i) q m a c n) h (omega arith) (linked_written (at t i) m a c e q n)

  written_range : (x y : ℕ) → length t < 36 → x < 4294967296
      → written (tree_bytes t ++ rest) (range_write (length t) x y) ≡ tree_bytes (t ++ (bucket x y whole [] ∷ [])) ++ rest
  written_range x y h b =
      let n = length_bytes 8 (pair x y) in
      let z : bucket_start (length t) + 0 ≡ bucket_start (length t) = omega arith in
      ap (λ (j : ℕ). splice (tree_bytes t ++ rest) j (bytes 8 (pair x y))) (sym z)
      ∙ new 0 (bytes 8 (pair x y)) (bucket x y whole []) h (omega arith) (range_written x y b)

-- a new bucket gets its range and its first entry
module _ (t : List Bucket) (rest : List ℕ) (x y l p : ℕ) (room : length t < 36) (bx : x < 4294967296) (bl : l < 4294967296) where
  abbrev entry : Entry
  entry = record { load = l; position = p }

  -- the tree before the entry
  abbrev u : List Bucket
  u = t ++ (bucket x y whole [] ∷ [])

  last : at u (length t) ≡ bucket x y whole []
  last = get_or-append_seam t (bucket x y whole []) [] (root [])

  first : length (at u (length t)).entries ≡ 0
  first = ap (λ (b : Bucket). length b.entries) last

  pub written_bucket : written (written (tree_bytes t ++ rest) (range_write (length t) x y)) (entry_write (length t) 0 l p)
      ≡ tree_bytes (t ++ (bucket x y whole (entry ∷ []) ∷ [])) ++ rest
  written_bucket =
      let n : length u ≡ length t + 1 = simp length-append (omega arith) in
      ap (λ (s : List ℕ). written s (entry_write (length t) 0 l p)) (written_range t (omega arith) rest x y room bx)
      ∙ ap (λ (k : ℕ). written (tree_bytes u ++ rest) (entry_write (length t) k l p)) (sym first)
      ∙ written_entry u (omega arith) rest (length t) l p (omega arith) (omega (arith, first)) bl
      ∙ ap (λ (b : Bucket). tree_bytes (set u (length t) (added b entry)) ++ rest) last
      ∙ ap (λ (v : List Bucket). tree_bytes v ++ rest)
      (set-append_seam t (bucket x y whole []) [] (bucket x y whole (entry ∷ [])))

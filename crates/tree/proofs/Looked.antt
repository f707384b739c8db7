-- One bucket as the code reads it: the entries counted one by one, mid and children judged by the same tests in the same order.
-- Assumes nothing.
use Prim.Native.Nat.{ℕ, zero, suc, ◌+◌, ◌-◌, ◌*◌, ◌≤◌, ◌<◌}
use mathlib.Core.Path.{◌≡◌, refl, ap}
use mathlib.Core.Bool.{Bool, true, false, cond, ◌&&◌, ◌||◌}
use mathlib.Core.List.{List, [], ◌∷◌}
use native.Mathlib.Numerals.{add-one}
use native.Mathlib.Omega.{arith}
use lib.Dec.{ltb, leb, eqb}
use lib.ListN.{length}
use borrow.Author.Tests.{eq-eqb, ne_eqb, lt-ltb, le-ltb, ltb-true, leb-true}
use Rattle.codec.proofs.Truth.{and_parts}
use Rattle.codec.specs.Number.{number_at}
use Rattle.std.specs.Prelude.{Option, Some, None, option_map}
use mathlib.Core.Option.{some, none}
use Rattle.tree.specs.Bytes.{no_mid}
use Rattle.tree.specs.Reading as Reading
use Rattle.tree.specs.Reading.{entry_in, entries_from, child_at, child_good, kids_of, kids_good, positions_good, node_in, node_good}
use Rattle.tree.specs.Inner.Seen.{head_of, counted_on, read_node, seen_node}
use Rattle.tree.specs.declared.Node.{Node}

-- ---- the entries

pub entries_few : (s : List ℕ) (n i : ℕ) → length (entries_from s n i) ≤ n
unfolding entries_from
entries_few s zero i = omega arith
entries_few s (suc n) i = go (eqb (number_at s (28 + 8 * i) 2) 65535) refl (entries_few s n (suc i))
  where
    go : (q : Bool) → eqb (number_at s (28 + 8 * i) 2) 65535 ≡ q → length (entries_from s n (suc i)) ≤ n
        → length (entries_from s (suc n) i) ≤ suc n
    go true e h = rw e (omega arith)
    go false e h = rw e (omega arith)

pub entries_end : (s : List ℕ) (n i : ℕ) → number_at s (28 + 8 * i) 2 ≡ 65535 → entries_from s n i ≡ []
unfolding entries_from
entries_end s zero i e = refl
entries_end s (suc n) i e = rw (eq-eqb (number_at s (28 + 8 * i) 2) 65535 e)

pub no_places : (s : List ℕ) (n i : ℕ) → n ≡ 0 → entries_from s n i ≡ []
unfolding entries_from
no_places s n i e = rw e

pub entries_more : (s : List ℕ) (n i : ℕ) → 0 < n → (number_at s (28 + 8 * i) 2 ≡ 65535 → ⊥)
    → entries_from s n i ≡ entry_in s i ∷ entries_from s (n - 1) (i + 1)
unfolding entries_from
entries_more s zero i h e = absurd (omega arith)
entries_more s (suc n) i h e =
    let d : suc n - 1 ≡ n = omega arith in
    rw (ne_eqb (number_at s (28 + 8 * i) 2) 65535 e, add-one i, d)

-- where there is an entry left, it is the one at i
pub entries_some : (s : List ℕ) (n i : ℕ) → 0 < length (entries_from s n i)
    → entries_from s n i ≡ entry_in s i ∷ entries_from s (n - 1) (i + 1)
entries_some s n i h =
    entries_more s n i (omega (arith, entries_few s n i)) (λ e.
    let z : length (entries_from s n i) ≡ 0 = ap length (entries_end s n i e) in omega arith)

-- the entries before place i have been passed: all their positions are below the count
pub record Passed (s : List ℕ) (count i : ℕ) : Type 0 where
  pub used : i + length (entries_from s (13 - i) i) ≡ length (entries_from s 13 0)
  pub all : positions_good count (entries_from s (13 - i) i) ≡ positions_good count (entries_from s 13 0)

module _ (s : List ℕ) (count i : ℕ) (h : Passed s count i) where
  -- there is none left
  pub passed_end : entries_from s (13 - i) i ≡ [] → Some i ≡ counted_on count (entries_from s 13 0)
  unfolding positions_good
  passed_end e =
      let u = rw e at h.used in
      let n : length (entries_from s 13 0) ≡ i = omega arith in
      rw (← h.all, e, n)

  module _ (l : i < 13) where
    -- a position below the count is no end
    pub passed_more : count ≤ 65535 → number_at s (28 + 8 * i) 2 < count → Passed s count (i + 1)
    unfolding positions_good
    passed_more c p =
        let m = entries_more s (13 - i) i (omega arith) (λ e. omega arith) in
        let d : 13 - (i + 1) ≡ 13 - i - 1 = omega arith in
        let t = lt-ltb (number_at s (28 + 8 * i) 2) count p in
        record {
          used = rw d (omega (arith, rw m at h.used));
          all = rw d (rw (m, t) at h.all);
        }

    -- one that is neither
    pub passed_damage : count ≤ number_at s (28 + 8 * i) 2 → (number_at s (28 + 8 * i) 2 ≡ 65535 → ⊥)
        → None ≡ counted_on count (entries_from s 13 0)
    unfolding positions_good
    passed_damage p e =
        let m = entries_more s (13 - i) i (omega arith) e in
        let t = le-ltb (number_at s (28 + 8 * i) 2) count p in
        rw (← h.all, m, t)

-- ---- mid and children

pub child_is : (b buckets c : ℕ) → (eqb c 255 || (ltb b c && ltb c buckets)) ≡ child_good b buckets (child_at c)
child_is b buckets c = go (eqb c 255)
  where
    go : (q : Bool) → (q || (ltb b c && ltb c buckets)) ≡ child_good b buckets (cond q none (some c))
    go true = refl
    go false = refl

module _ (b buckets x y mid left right : ℕ) where
  pub kids_whole : mid ≡ no_mid → true ≡ kids_good b buckets x y (kids_of (head_of x y mid left right))
  unfolding kids_of
  kids_whole e = rw (eq-eqb mid no_mid e)

  pub kids_split : (mid ≡ no_mid → ⊥)
      → (ltb x mid && leb mid y && (child_good b buckets (child_at left) && child_good b buckets (child_at right)))
      ≡ kids_good b buckets x y (kids_of (head_of x y mid left right))
  unfolding kids_of
  kids_split e = rw (ne_eqb mid no_mid e)

-- ---- the whole bucket

-- what a bucket without damage has
pub record Sound (n : Reading.Node) (b buckets count : ℕ) : Type 0 where
  pub wide : n.x < n.y
  pub top : n.y ≤ 150001
  pub kids : kids_good b buckets n.x n.y (kids_of n) ≡ true
  pub positions : positions_good count n.entries ≡ true

pub sound : (n : Reading.Node) (b buckets count : ℕ) → node_good n b buckets count ≡ true → Sound n b buckets count
unfolding node_good
sound n b buckets count e =
    let range : Bool = ltb n.x n.y && leb n.y 150001 in
    let kids : Bool = kids_good b buckets n.x n.y (kids_of n) in
    let p = and_parts (range && kids) (positions_good count n.entries) e in
    let k = and_parts range kids p.0 in
    let r = and_parts (ltb n.x n.y) (leb n.y 150001) k.0 in
    record {
      wide = ltb-true n.x n.y r.0;
      top = leb-true n.y 150001 r.1;
      kids = k.1;
      positions = p.1;
    }

count_or_none : (p g : Bool) (n : ℕ) (f : ℕ → Node) → cond p (option_map f (cond g (Some n) None)) None ≡ cond (p && g) (Some (f n)) None
count_or_none false g n f = refl
count_or_none true false n f = refl
count_or_none true true n f = refl

pub seen : (s : List ℕ) (b buckets count x y mid left right : ℕ) (kids : Bool)
    → x ≡ number_at s 0 4 → y ≡ number_at s 4 4 → mid ≡ number_at s 8 4 → left ≡ number_at s 12 1 → right ≡ number_at s 13 1
    → kids ≡ kids_good b buckets x y (kids_of (head_of x y mid left right))
    → (q : Bool) → (ltb x y && leb y 150001 && kids) ≡ q
    → (o : Option ℕ) → o ≡ counted_on count (entries_from s 13 0)
    → cond q (option_map (λ used. record { x = x; y = y; mid = mid; left = left; right = right; used = used }) o) None
    ≡ seen_node s b buckets count
unfolding seen_node node_in node_good kids_of
seen s b buckets count x y mid left right kids ex ey em el er ek q eq o eo =
    rw (← eq, eo, ek, ex, ey, em, el, er) (count_or_none _ _ _ _)

-- what was read is the bucket, which has no damage
pub seen_some : (s : List ℕ) (b buckets count : ℕ) (n : Node) → Some n ≡ seen_node s b buckets count
    → (node_good (node_in s) b buckets count ≡ true) × (n ≡ read_node s)
unfolding seen_node
seen_some s b buckets count n e = go (node_good (node_in s) b buckets count) refl e
  where
    go : (q : Bool) → node_good (node_in s) b buckets count ≡ q → Some n ≡ cond q (Some (read_node s)) None
        → (node_good (node_in s) b buckets count ≡ true) × (n ≡ read_node s)
    go true g h = (g, cc)
    go false g h = cc

pub seen_none : (s : List ℕ) (b buckets count : ℕ) → None ≡ seen_node s b buckets count
    → node_good (node_in s) b buckets count ≡ false
unfolding seen_node
seen_none s b buckets count e = go (node_good (node_in s) b buckets count) refl e
  where
    go : (q : Bool) → node_good (node_in s) b buckets count ≡ q → None ≡ cond q (Some (read_node s)) None
        → node_good (node_in s) b buckets count ≡ false
    go true g h = cc
    go false g h = g

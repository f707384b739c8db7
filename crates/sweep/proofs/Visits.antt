-- A turn of the sweep is a step of the rules' sweep: the buckets before the next that is due, one with damage, one that is opened.
-- Assumes nothing.
use Prim.Native.Nat.{ℕ, suc, ◌+◌, ◌-◌, ◌^◌, ◌<◌, ◌≤◌}
use mathlib.Core.Path.{◌≡◌, refl, sym, ap, ◌∙◌, fun_ext}
use mathlib.Core.Bool.{Bool, true, false, cond, ◌&&◌, ◌||◌}
use mathlib.Core.Option.{Option, none, some}
use mathlib.Core.List.{List, [], ◌∷◌, ◌++◌, map}
use native.Mathlib.Omega.{arith}
use lib.Bits.{bit_or}
use lib.Count.{ones}
use lib.Dec.{leb, ltb, eqb}
use lib.ListN.{length}
use borrow.Author.Tests.{ltb-true, ne_eqb, eqb-true}
use Rattle.codec.proofs.Truth.{and_parts}
use Rattle.bitset.specs.Set.{elem, distinct}
use Rattle.bitset.specs.Inner.Words.{empty_words, insert_in, insert_all}
use Rattle.bitset.specs.declared.Bits.{Bits}
use Rattle.tree.specs.Bytes.{no_mid}
use Rattle.tree.specs.Rules.{Entry, Kids, whole, split}
use Rattle.tree.specs.Reading as Reading
use Rattle.tree.specs.Reading.{bucket_at, entries_from, node_in, child_at, kids_of, child_good, kids_good, positions_good, node_good}
use Rattle.tree.specs.Search.{reached_with, reached, hits}
use Rattle.tree.specs.Place.{bucket_page}
use Rattle.tree.specs.Sweep.{records_good, and_then, node_at, visited_from, visited_on, gathered, sweep_on}
use Rattle.tree.specs.Inner.Seen.{head_of, read_node}
use Rattle.tree.proofs.Looked.{sound}
use Rattle.tree.proofs.Visited.{visited_among}
use Rattle.bitset.proofs.Distinct.{distinct_ones}
use Rattle.tree.specs.declared.Node.{Node}
use Rattle.sweep.specs.declared.Range.{Range}
use Rattle.sweep.specs.declared.Records.{Records}
use Rattle.sweep.specs.declared.Sweep.{Sweep}
use Rattle.sweep.specs.declared.Turn.{Turn}
use Rattle.sweep.specs.Inner.Swept.{none_swept, swept_from, passing, passing_of, timely_at, swept_of}
use Rattle.sweep.specs.Inner.Turns.{is_due, HasBit, DueAbove, codes_of, times_of, with_entries, spoilt_empty, left, onward, read_onward}
use Rattle.bitset.proofs.Digits.{bit_zero}
use Rattle.sweep.proofs.Mask.{due_more, due_root}
use Rattle.sweep.proofs.Skipping.{reached_same, skip, visit_first, same_from}
use Rattle.sweep.proofs.Passing.{entries_are}

-- ---- a bucket without damage

child_bit : (b buckets c : ℕ) → buckets ≤ 36 → child_good b buckets (child_at c) ≡ true → HasBit c
child_bit b buckets c few e h =
    let g : (ltb b c && ltb c buckets) ≡ true = rw (ne_eqb c 255 h) at e in
    omega (arith, ltb-true c buckets (and_parts (ltb b c) (ltb c buckets) g).1)

-- what the code relies on in a bucket that it opens
pub record Opened (bucket : List ℕ) (count : ℕ) (n : Node) : Type 0 where
  pub positions : positions_good count (entries_from bucket 13 0) ≡ true
  pub used : n.used ≡ length (entries_from bucket 13 0)
  pub kids : (n.mid ≡ no_mid → ⊥) → HasBit n.left × HasBit n.right

module _ (bucket : List ℕ) (b buckets count : ℕ) (n : Node) (few : buckets ≤ 36) (is : n ≡ read_node bucket)
    (good : node_good (node_in bucket) b buckets count ≡ true) where
  pub opened : Opened bucket count n
  unfolding node_in kids_of
  opened =
      let v = sound (node_in bucket) b buckets count good in
      record {
        positions = v.positions;
        used = ap (λ (k : Node). k.used) is;
        kids = λ h. rw is (bits (node_in bucket) (λ e. h (ap (λ (k : Node). k.mid) is ∙ e)) v.kids);
      }
    where
      bits : (m : Reading.Node) → (m.mid ≡ no_mid → ⊥) → kids_good b buckets m.x m.y (kids_of m) ≡ true
          → HasBit m.left × HasBit m.right
      bits m h e =
          let one : Bool = child_good b buckets (child_at m.left) in
          let two : Bool = child_good b buckets (child_at m.right) in
          let a : (ltb m.x m.mid && leb m.mid m.y && (one && two)) ≡ true = rw (ne_eqb m.mid no_mid h) at e in
          let d = and_parts one two (and_parts (ltb m.x m.mid && leb m.mid m.y) (one && two) a).1 in
          (child_bit b buckets m.left few d.0, child_bit b buckets m.right few d.1)

-- ---- sets

insert_append : (ws ps qs : List ℕ) → insert_all (insert_all ws ps) qs ≡ insert_all ws (ps ++ qs)
unfolding insert_all
insert_append ws [] qs = refl
insert_append ws (p ∷ ps) qs = insert_append (insert_in ws p) ps qs

module _ (f : ℕ → Bool) where
  pub passing_append : (ps qs : List ℕ) → passing f (ps ++ qs) ≡ passing f ps ++ passing f qs
  passing_append [] qs = refl
  passing_append (p ∷ ps) qs = go (f p) (passing_append ps qs)
    where
      go : (t : Bool) → passing f (ps ++ qs) ≡ passing f ps ++ passing f qs
          → cond t (p ∷ passing f (ps ++ qs)) (passing f (ps ++ qs)) ≡ cond t (p ∷ passing f ps) (passing f ps) ++ passing f qs
      go true e = ap (λ (l : List ℕ). p ∷ l) e
      go false e = e

  swept_then : (ws ps : List ℕ) (o : Option (List ℕ))
      → swept_from (insert_all ws (passing f ps)) (passing_of f o) ≡ swept_from ws (passing_of f (and_then ps o))
  swept_then ws ps none = refl
  swept_then ws ps (some qs) =
      ap (λ (w : List ℕ). record { good = true; set = record { words = w } })
      (insert_append ws (passing f ps) (passing f qs) ∙ ap (insert_all ws) (sym (passing_append ps qs)))

  opens : (q : Bool) (ws ps : List ℕ) (o : Option (List ℕ))
      → cond q (swept_from (insert_all ws (passing f ps)) (passing_of f o)) none_swept
      ≡ swept_from ws (passing_of f (cond q (and_then ps o) none))
  opens true ws ps o = swept_then ws ps o
  opens false ws ps o = refl

-- ---- the buckets that are left

module _ (tree : List ℕ) (g : Records) (r : Range) where
  abbrev rest : Turn → ℕ → ℕ → List ℕ
  rest t n b = visited_from tree r.k1 r.k2 n b (is_due t.due)

  -- none before d is due
  pub left_from : (d n : ℕ) (t : Turn) → g.buckets ≡ d + n → ((j : ℕ) → j < d → is_due t.due j ≡ false) → left tree g r t ≡ rest t n d
  left_from d n t e h =
      ap (λ (m : ℕ). rest t m 0) e ∙ skip tree r.k1 r.k2 d n 0 (is_due t.due) (λ j l m. h j (omega arith)) ∙ ap (rest t n) none_before
    where
      none_before : 0 + d ≡ d
      none_before = omega arith

  -- bucket b is the lowest that is due
  module _ (b : ℕ) (t : Turn) (l : b < g.buckets) (low : (j : ℕ) → j < b → is_due t.due j ≡ false) (due : is_due t.due b ≡ true) where
    abbrev after : ℕ → Bool
    after = reached r.k1 r.k2 (kids_of (node_at tree b)) (is_due t.due)

    pub left_first : left tree g r t ≡ b ∷ visited_from tree r.k1 r.k2 (g.buckets - suc b) (suc b) after
    left_first =
        left_from b (suc (g.buckets - suc b)) t (omega arith) low
        ∙ visit_first tree r.k1 r.k2 (g.buckets - suc b) b (is_due t.due) due

    -- behind it come those that the next turn leaves
    pub left_next : (u : Turn) → DueAbove b u.due → ((j : ℕ) → b < j → is_due u.due j ≡ after j) → left tree g r t ≡ b ∷ left tree g r u
    left_next u above same =
        left_first ∙ ap (λ (bs : List ℕ). b ∷ bs) (sym
        (left_from (suc b) (g.buckets - suc b) u (omega arith) (λ j h. not_due j (is_due u.due j) refl (λ e. omega (arith, above j e)))
        ∙ same_from tree r.k1 r.k2 (g.buckets - suc b) (suc b) (is_due u.due) after (λ j h. same j (omega arith))))
      where
        not_due : (j : ℕ) (q : Bool) → is_due u.due j ≡ q → (is_due u.due j ≡ true → ⊥) → is_due u.due j ≡ false
        not_due j true e h = absurd (h e)
        not_due j false e h = e

-- ---- a turn

module _ (tree lifts tail : List ℕ) (g : Records) (r : Range) (b : ℕ) (t : Turn) (l : b < g.buckets)
    (low : (j : ℕ) → j < b → is_due t.due j ≡ false) (due : is_due t.due b ≡ true) where
  abbrev codes : ℕ → ℕ
  codes = codes_of lifts tail g

  -- it has no damage
  abbrev is_good : Bool
  is_good = node_good (node_in (bucket_at tree b)) b g.buckets g.count

  pub turn_spoilt : is_good ≡ false → none_swept ≡ onward tree lifts tail g r t
  unfolding onward gathered
  turn_spoilt e = rw (left_first tree g r b t l low due, e)

  -- the buckets that are due behind it
  module _ (node : Node) (is : node ≡ read_node (bucket_at tree b)) (lower more : ℕ) (others : (j : ℕ) → b < j → is_due lower j ≡ is_due t.due j)
      (reaches : (j : ℕ) → is_due more j
      ≡ reached r.k1 r.k2 (kids_of (head_of 0 0 node.mid node.left node.right)) (is_due lower) j)
      (above : DueAbove b more) where
    abbrev kids : Kids
    kids = kids_of (node_in (bucket_at tree b))

    same : (j : ℕ) → b < j → is_due more j ≡ reached r.k1 r.k2 kids (is_due t.due) j
    unfolding node_in kids_of
    same j h = (rw is at reaches) j ∙ reached_same r.k1 r.k2 kids (is_due lower) (is_due t.due) j (others j h)

    next_left : (u : Turn) → u.due ≡ more → left tree g r t ≡ b ∷ left tree g r u
    next_left u e = left_next tree g r b t l low due u (rw e above) (λ j h. rw e (same j h))

    -- what a bucket's entries lead to
    abbrev behind : Sweep → Sweep
    behind s =
        cond s.good (swept_from s.set.words (passing_of (timely_at lifts tail g r)
        (gathered tree g.buckets g.count codes r.k1 r.k2 (visited_from tree r.k1 r.k2 g.buckets 0 (is_due more))))) none_swept

    behind_empty : (s : Sweep) → behind (spoilt_empty s) ≡ behind s
    behind_empty s = go s.good refl
      where
        go : (q : Bool) → s.good ≡ q → behind (spoilt_empty s) ≡ behind s
        go true e = rw e
        go false e = rw e

    pub turn_opens : is_good ≡ true → (found : Sweep)
        → found ≡ spoilt_empty (with_entries codes (times_of lifts tail g) r (entries_from (bucket_at tree b) 13 0)
        (record { good = true; set = t.set }))
        → behind found ≡ onward tree lifts tail g r t
    unfolding onward gathered node_in
    turn_opens e found finds =
        let es : List Entry = entries_from (bucket_at tree b) 13 0 in
        let next : Turn = record { due = more; set = t.set; read = 0 } in
        ap behind finds ∙ behind_empty _
        ∙ ap behind (entries_are codes (times_of lifts tail g) r es (record { good = true; set = t.set }))
        ∙ rw (next_left next refl, e)
        (opens (timely_at lifts tail g r) (records_good codes r.k1 r.k2 es) t.set.words (hits r.k1 r.k2 es)
        (gathered tree g.buckets g.count codes r.k1 r.k2 (left tree g r next)))

    next_is : (s : Bits) (n : ℕ) → onward tree lifts tail g r (record { due = more; set = s; read = n }) ≡ behind (record { good = true; set = s })
    unfolding onward
    next_is s n = refl

    pub turn_damaged : is_good ≡ true → none_swept ≡ spoilt_empty (with_entries codes (times_of lifts tail g) r
        (entries_from (bucket_at tree b) 13 0) (record { good = true; set = t.set }))
        → none_swept ≡ onward tree lifts tail g r t
    turn_damaged e finds = turn_opens e none_swept finds

    pub turn_found : is_good ≡ true → (set : Bits) (read : ℕ) → ◌≡◌ {A = Sweep} (record { good = true; set = set })
        (spoilt_empty (with_entries codes (times_of lifts tail g) r (entries_from (bucket_at tree b) 13 0)
        (record { good = true; set = t.set })))
        → onward tree lifts tail g r (record { due = more; set = set; read = read }) ≡ onward tree lifts tail g r t
    turn_found e set read finds = next_is set read ∙ turn_opens e (record { good = true; set = set }) finds

    -- and the pages, bucket b's with those before
    pub turn_pages : (u : Turn) → u.due ≡ more → u.read ≡ bit_or t.read (2 ^ bucket_page b)
        → (j : ℕ) → read_onward tree g r u j ≡ read_onward tree g r t j
    unfolding elem
    turn_pages u e f j = rw (f, next_left u e, due_more t.read (bucket_page b) j) (go (eqb j (bucket_page b)) (is_due t.read j))
      where
        go : (x y : Bool) → (cond x true y || elem j (map bucket_page (left tree g r u))) ≡ (y || (x || elem j (map bucket_page (left tree g r u))))
        go true true = refl
        go true false = refl
        go false true = refl
        go false false = refl

-- ---- what is due after a bucket: its children come after it, and are buckets of the tree

module _ (b buckets : ℕ) where
  abbrev After : ℕ → Type 0
  After j = (b < j) × (j < buckets)

  child_after : (taken : Bool) (c : Option ℕ) (s : ℕ → Bool) (j : ℕ) → child_good b buckets c ≡ true → reached_with taken c s j ≡ true
      → (s j ≡ true → After j) → After j
  child_after false c s j g e h = h e
  child_after true none s j g e h = h e
  child_after true (some c) s j g e h = go (eqb j c) refl e
    where
      go : (q : Bool) → eqb j c ≡ q → cond q true (s j) ≡ true → After j
      go true d f =
          let k = and_parts (ltb b c) (ltb c buckets) g in
          let z : j ≡ c = eqb-true j c d in
          rw z (ltb-true b c k.0, ltb-true c buckets k.1)
      go false d f = h f

  kids_after : (x y k1 k2 : ℕ) (kids : Kids) (s : ℕ → Bool) (j : ℕ) → kids_good b buckets x y kids ≡ true → reached k1 k2 kids s j ≡ true
      → (s j ≡ true → After j) → After j
  kids_after x y k1 k2 whole s j g e h = h e
  kids_after x y k1 k2 (split m left right) s j g e h =
      let k = and_parts (child_good b buckets left) (child_good b buckets right)
      (and_parts (ltb x m && leb m y) (child_good b buckets left && child_good b buckets right) g).1 in
      child_after (ltb m k2) right (reached_with (leb k1 m) left s) j k.1 e (λ f.
      child_after (leb k1 m) left s j k.0 f h)

  pub due_after : (bucket : List ℕ) (count : ℕ) (n : Node) → n ≡ read_node bucket → node_good (node_in bucket) b buckets count ≡ true
      → (k1 k2 rest more : ℕ)
      → ((j : ℕ) → is_due more j ≡ reached k1 k2 (kids_of (head_of 0 0 n.mid n.left n.right)) (is_due rest) j)
      → ((j : ℕ) → is_due rest j ≡ true → After j) → (j : ℕ) → is_due more j ≡ true → After j
  unfolding node_in kids_of
  due_after bucket count n is good k1 k2 rest more reaches h j e =
      let v = sound (node_in bucket) b buckets count good in
      kids_after (node_in bucket).x (node_in bucket).y k1 k2 (kids_of (node_in bucket)) (is_due rest) j v.kids
      (sym ((rw is at reaches) j) ∙ e) (h j)

-- ---- the first turn and the end

module _ (tree lifts tail : List ℕ) (g : Records) (r : Range) where
  -- at first all that is visited from the root on is left
  first_left : (t : Turn) → t.due ≡ 1 → left tree g r t ≡ visited_on tree g.buckets r.k1 r.k2
  first_left t e = rw e (ap (λ (d : ℕ → Bool). visited_from tree r.k1 r.k2 g.buckets 0 d) (fun_ext due_root))

  abbrev pages : List ℕ
  pages = map bucket_page (visited_on tree g.buckets r.k1 r.k2)

  abbrev begun : Bits → Turn
  begun n = record { due = 1; set = n; read = 0 }

  pub turn_first : (n : Bits) → n.words ≡ empty_words → (onward tree lifts tail g r (begun n) ≡ swept_of tree lifts tail g r)
      × ((j : ℕ) → read_onward tree g r (begun n) j ≡ elem j (map bucket_page (visited_on tree g.buckets r.k1 r.k2)))
  unfolding onward swept_of sweep_on
  turn_first n e = let f = first_left (begun n) refl in (rw (f, e), λ j. rw (f, bit_zero j))

  -- a tree of no buckets
  pub turn_bare : (n : Bits) → n.words ≡ empty_words → g.buckets ≡ 0
      → (◌≡◌ {A = Sweep} (record { good = true; set = n }) (swept_of tree lifts tail g r))
      × (ones 0 ≡ distinct (map bucket_page (visited_on tree g.buckets r.k1 r.k2)))
  unfolding swept_of sweep_on gathered visited_from insert_all distinct ones
  turn_bare n e z = (rw z (ap (λ (ws : List ℕ). record { good = true; set = record { words = ws } }) e), rw z)

  -- nothing is due
  none_left : (t : Turn) → t.due ≡ 0 → left tree g r t ≡ []
  unfolding visited_from
  none_left t z = left_from tree g r g.buckets 0 t (omega arith) (λ j h. rw (z, bit_zero j))

  pub turn_last : (t : Turn) → t.due ≡ 0 → ◌≡◌ {A = Sweep} (record { good = true; set = t.set }) (onward tree lifts tail g r t)
  unfolding onward gathered insert_all
  turn_last t e = rw (none_left t e)

  pub turn_read : (t : Turn) → t.due ≡ 0 → t.read < 2 ^ 64 → g.buckets ≤ 36
      → ((j : ℕ) → read_onward tree g r t j ≡ elem j (map bucket_page (visited_on tree g.buckets r.k1 r.k2)))
      → ones t.read ≡ distinct (map bucket_page (visited_on tree g.buckets r.k1 r.k2))
  unfolding elem
  turn_read t e fits few all =
      distinct_ones t.read pages fits (visited_among tree r.k1 r.k2 g.buckets few 0 64 (omega arith) (omega arith))
      (λ j. none_more (is_due t.read j) ∙ (rw (none_left t e) at all) j)
    where
      none_more : (x : Bool) → x ≡ (x || false)
      none_more true = refl
      none_more false = refl

-- Two logs in hand and the pass over them: what it counts and writes are the pairs of their rows. Assumes nothing.
use mathlib.Core.Path.{◌≡◌, refl, sym, ap, ◌∙◌}
use mathlib.Core.Bool.{Bool, true, false, cond}
use mathlib.Core.Option.{Option, none, some}
use mathlib.Core.List.{List, [], ◌∷◌, ◌++◌, map}
use Prim.Native.Nat.{ℕ, zero, suc, ◌+◌, ◌-◌, ◌*◌, ◌/◌, ◌≤◌, ◌<◌}
use native.Mathlib.Omega.{arith}
use lib.ListN.{length, length-map, length-append}
use borrow.Author.Tests.{lt-ltb, le-ltb}
use Rattle.codec.specs.Area.{splice}
use Rattle.bitset.specs.declared.Bits.{Bits}
use Rattle.bitset.specs.Inner.Words.{members, Below}
use Rattle.lift.proofs.Rows.{record_length}
use Rattle.visit.specs.declared.Log.{Log}
use Rattle.visit.specs.declared.Query.{Query}
use Rattle.visit.proofs.Emptying.{recorded_at}
use Rattle.codec.proofs.Lists.{all_append}
use Rattle.found.proofs.Wide.{Wide}
use Rattle.search.specs.Answers.{row_bytes}
use Rattle.supersets.specs.Pairs.{first_fit, without_fit, pair_with, pairs_of, side_by_side, joins, pair_rows}
use Rattle.whole_log.specs.Inner.Held.{rows_on, places_in, records_at, row_at, rows_held, set_for, Room, Held}
use Rattle.whole_log.specs.Inner.Rising.{Rising}
use Rattle.whole_log.specs.Inner.Turns.{Whole}
use Rattle.joining.specs.Inner.Passing.{written_on, ReadableFrom, lent_rows, Joined}
use Rattle.joining.proofs.Segments.{rows_same}
use Rattle.joining.proofs.Passes.{pass_of, pass_pairs, Comes, list_comes, written_none, WidePairs, written_all}
use Rattle.pairs.specs.Answers.{PairsAnswer, pairs_answer}
use Rattle.pairs.specs.Inner.Hands.{InHand, Lends, Known, Writes}

-- ---- the first log goes on without its sets

module _ (nand nor page : List ℕ) (g : Log) (q : Query) (o : Option (List (List ℕ))) (way : List ℕ) (sets : List Bits) (low : ℕ) where
  held_rows : Held nand nor page g q way sets low → rows_held nand page g way sets low ≡ lent_rows nand nor page g q way low
  held_rows h =
      rows_same (row_at nand page g way) (places_in sets) (λ i. members (set_for nand nor page g q way i)) (g.slots + 1 - low) low
      (λ k a b. ap members (h.each k a (omega (arith, h.low_most))).anew)

  pub lends : (rising both : Bool) → (both ≡ true → rising ≡ true) → InHand nand nor page g q o way sets low rising
      → Lends nand nor page g q o way low both
  lends rising both w h =
      record {
        low_most = h.held.low_most;
        each = λ i a b.
            let f = h.held.each i a b in
            record {
              inside = f.readable.inside;
              closed = f.closed;
              recorded = f.readable.recorded;
              below = rw (← f.anew) f.readable.below;
            };
        rows = h.rows ∙ ap some (held_rows h.held);
        rises = λ e. rw (← held_rows h.held) (h.rises (w e));
      }

pub hand_both : (nand nor page : List ℕ) (g : Log) (q : Query) (o : Option (List (List ℕ))) (way : List ℕ) (sets : List Bits) (low : ℕ) (rising both : Bool)
    → (both ≡ true → rising ≡ true) → InHand nand nor page g q o way sets low rising → InHand nand nor page g q o way sets low both
hand_both nand nor page g q o way sets low rising both w h = record { held = h.held; rows = h.rows; rises = λ e. h.rises (w e) }

pub reads : (nand nor page : List ℕ) (g : Log) (q : Query) (way : List ℕ) (sets : List Bits) (low : ℕ) → Held nand nor page g q way sets low
    → ReadableFrom nand page g way sets low
reads nand nor page g q way sets low h = record { from_most = h.low_most; each = λ i a b. (h.each i a b).readable }

-- ---- rows of 32 bytes, pairs of 64

module _ (nand page : List ℕ) (g : Log) (way : List ℕ) (places : ℕ → List ℕ) where
  wide_places : (i : ℕ) → ((p : ℕ) → p < (records_at g i).count → length (row_at nand page g way i p) ≡ 32) → (ps : List ℕ)
      → Below (records_at g i).count ps → Wide 32 (map (row_at nand page g way i) ps)
  wide_places i h [] b = tt
  wide_places i h (p ∷ ps) b = (h p b.0, wide_places i h ps b.1)

  wide_rows : (n i : ℕ) → ((k : ℕ) → i ≤ k → k < i + n → (p : ℕ) → p < (records_at g k).count → length (row_at nand page g way k p) ≡ 32)
      → ((k : ℕ) → i ≤ k → k < i + n → Below (records_at g k).count (places k)) → Wide 32 (rows_on (row_at nand page g way) places i n)
  unfolding rows_on
  wide_rows zero i h b = tt
  wide_rows (suc n) i h b =
      all_append (λ r. length r ≡ 32) (map (row_at nand page g way i) (places i)) (rows_on (row_at nand page g way) places (suc i) n)
      (wide_places i (h i (omega arith) (omega arith)) (places i) (b i (omega arith) (omega arith)))
      (wide_rows n (suc i) (λ k l m. h k (omega arith) (omega arith)) (λ k l m. b k (omega arith) (omega arith)))

pub wide_read : (nand page : List ℕ) (g : Log) (way : List ℕ) (sets : List Bits) (low : ℕ) → ReadableFrom nand page g way sets low
    → Wide 32 (rows_held nand page g way sets low)
wide_read nand page g way sets low r =
    wide_rows nand page g way (places_in sets) (g.slots + 1 - low) low
    (λ k a b p h.
    let s = (r.each k a (omega (arith, r.from_most))).recorded in
    let l = recorded_at _ page (records_at g k) p s h in
    record_length _ page _ p l.0 l.1)
    (λ k a b. (r.each k a (omega (arith, r.from_most))).below)

pub wide_lent : (nand nor page : List ℕ) (g : Log) (q : Query) (o : Option (List (List ℕ))) (way : List ℕ) (low : ℕ) (rising : Bool)
    → Lends nand nor page g q o way low rising → Wide 32 (lent_rows nand nor page g q way low)
wide_lent nand nor page g q o way low rising l =
    wide_rows nand page g way (λ i. members (set_for nand nor page g q way i)) (g.slots + 1 - low) low
    (λ k a b p h.
    let s = (l.each k a (omega (arith, l.low_most))).recorded in
    let e = recorded_at _ page (records_at g k) p s h in
    record_length _ page _ p e.0 e.1)
    (λ k a b. (l.each k a (omega (arith, l.low_most))).below)

-- whatever fits what
module _ (fits : List ℕ → List ℕ → Bool) where
  wide_first : (a b : List ℕ) (bs : List (List ℕ)) → Wide 32 bs → first_fit fits a bs ≡ some b → length b ≡ 32
  unfolding first_fit
  wide_first a b [] w e = absurd (let z : ◌≡◌ {A = ℕ} 0 1 = cc in omega arith)
  wide_first a b (c ∷ bs) w e = go (fits a c) e (wide_first a b bs w.1)
    where
      go : (t : Bool) → cond t (some c) (first_fit fits a bs) ≡ some b → (first_fit fits a bs ≡ some b → length b ≡ 32) → length b ≡ 32
      go true e ih = let s : c ≡ b = cc in rw (← s) w.0
      go false e ih = ih e

  wide_without : (a : List ℕ) (bs : List (List ℕ)) → Wide 32 bs → Wide 32 (without_fit fits a bs)
  unfolding without_fit
  wide_without a [] w = tt
  wide_without a (c ∷ bs) w = go (fits a c) (wide_without a bs w.1)
    where
      go : (t : Bool) → Wide 32 (without_fit fits a bs) → Wide 32 (cond t bs (c ∷ without_fit fits a bs))
      go true ih = w.1
      go false ih = (w.0, ih)

  pub wide_pairs : (first second : List (List ℕ)) → Wide 32 first → Wide 32 second → WidePairs (pairs_of fits first second)
  unfolding pairs_of
  wide_pairs [] second v w = tt
  wide_pairs (a ∷ rest) second v w =
      go (first_fit fits a second) (λ b e. wide_first a b second w e) (wide_pairs rest (without_fit fits a second) v.1 (wide_without a second w))
    where
      go : (o : Option (List ℕ)) → ((b : List ℕ) → o ≡ some b → length b ≡ 32) → WidePairs (pairs_of fits rest (without_fit fits a second))
          → WidePairs (pair_with fits a o ++ pairs_of fits rest (without_fit fits a second))
      go none h ih = ih
      go (some b) h ih = (length-append a b ∙ let x = v.0 in let y = h b refl in omega arith, ih)

-- ---- the pass

module _ (nand page : List ℕ) (g : Log) (way : List ℕ) (rising : Bool) (rows : ℕ) (first : List (List ℕ)) (free : List Bits) (low : ℕ)
    (area new : List ℕ) (n : ℕ)
    (j : Joined nand page g way rising rows first free low area new n) (rises : rising ≡ true → Rising 0 first)
    (rises2 : rising ≡ true → Rising 0 (rows_held nand page g way free low)) where
  abbrev second : List (List ℕ)
  second = rows_held nand page g way free low

  pairs_are : pass_of rising first second ≡ pairs_of joins first second
  pairs_are = pass_pairs rising first second (record { since = 0; firsts = rises; from = 0; frees = rises2 })

  abbrev comes : Comes rising rows first (record { count = 0; area = area; free = second })
  comes = list_comes rising rows first (record { count = 0; area = area; free = second })

  pub counted : n ≡ length (pair_rows first second)
  unfolding pair_rows
  counted =
      let z : 0 + length (pass_of rising first second) ≡ length (pass_of rising first second) = omega arith in
      j.count_is ∙ comes.count_is ∙ z ∙ ap (λ (ps : List (List ℕ × List ℕ)). length ps) pairs_are ∙ sym
      (length-map (pairs_of joins first second) side_by_side)

  written : new ≡ written_on rows 0 area (pairs_of joins first second)
  written = j.area_is ∙ comes.area_is ∙ ap (written_on rows 0 area) pairs_are

  -- nothing is written while they are counted
  pub counted_only : rows ≡ 0 → new ≡ area
  counted_only e = written ∙ rw e (written_none 0 area (pairs_of joins first second))

  -- all are written where there is room
  pub written_pairs : Wide 32 first → Wide 32 second → length (pair_rows first second) ≤ rows → rows * 64 ≤ length area
      → new ≡ splice area 0 (row_bytes (pair_rows first second))
  unfolding pair_rows
  written_pairs v w h r =
      let l = length-map (pairs_of joins first second) side_by_side in
      written ∙ written_all rows 0 area (pairs_of joins first second) (wide_pairs joins first second v w) (omega arith) r

-- ---- what the calls go by

-- there is room for 4,097 segments
pub room_made : (g : Log) (way : List ℕ) (sets : List Bits) → g.slots ≤ 4096 → length way ≡ 4097 → length sets ≡ 4097 → Room g way sets
room_made g way sets h a b = record { slots_most_lem = h; ways = omega arith; words = omega arith }

-- as before
pub room_new : (g : Log) (way : List ℕ) (sets : List Bits) (new_way : List ℕ) (new_sets : List Bits) → Room g way sets → length new_way ≡ length way → length new_sets ≡ length sets
    → Room g new_way new_sets
room_new g way sets new_way new_sets r a b =
    record { slots_most_lem = r.slots_most_lem; ways = omega (arith, r.ways); words = omega (arith, r.words) }

some_same : {xs ys : List (List ℕ)} → some xs ≡ some ys → xs ≡ ys
some_same e = cc

-- a log without damage is in hand
pub known_hand : (nand nor page : List ℕ) (g : Log) (q : Query) (o : Option (List (List ℕ))) (way : List ℕ) (sets : List Bits) (low : ℕ)
    (rising : Bool)
    → Whole nand nor page g q o way sets low → Known o rising → InHand nand nor page g q o way sets low rising
known_hand nand nor page g q o way sets low rising e k =
    let same : k.rows ≡ rows_held nand page g way sets low = some_same (sym k.are ∙ e.rows) in
    record { held = e.held; rows = e.rows; rises = λ r. rw (← same) (k.rises r) }

module _ (nand1 nor1 page1 : List ℕ) (g1 : Log) (q : Query) (o1 : Option (List (List ℕ))) (way1 : List ℕ) (low1 : ℕ) (rising : Bool)
    (first : Lends nand1 nor1 page1 g1 q o1 way1 low1 rising)
    (nand2 nor2 page2 : List ℕ) (g2 : Log) (o2 : Option (List (List ℕ))) (way2 : List ℕ) (free : List Bits) (low2 : ℕ)
    (second : InHand nand2 nor2 page2 g2 q o2 way2 free low2 rising) (rows : ℕ) (area new : List ℕ) (n : ℕ)
    (j : Joined nand2 page2 g2 way2 rising rows (lent_rows nand1 nor1 page1 g1 q way1 low1) free low2 area new n) where
  abbrev rows1 : List (List ℕ)
  rows1 = lent_rows nand1 nor1 page1 g1 q way1 low1

  abbrev rows2 : List (List ℕ)
  rows2 = rows_held nand2 page2 g2 way2 free low2

  pub pass_counts : n ≡ length (pair_rows rows1 rows2)
  pass_counts = counted nand2 page2 g2 way2 rising rows rows1 free low2 area new n j first.rises second.rises

  pub pass_leaves : rows ≡ 0 → new ≡ area
  pass_leaves = counted_only nand2 page2 g2 way2 rising rows rows1 free low2 area new n j first.rises second.rises

  pub pass_writes : rows * 64 ≤ length area → Writes o1 o2 rows area new
  pass_writes r xs ys ex ey h =
      let a : xs ≡ rows1 = some_same (sym ex ∙ first.rows) in
      let b : ys ≡ rows2 = some_same (sym ey ∙ second.rows) in
      rw (a, b) (written_pairs nand2 page2 g2 way2 rising rows rows1 free low2 area new n j first.rises second.rises
      (wide_lent nand1 nor1 page1 g1 q o1 way1 low1 rising first)
      (wide_read nand2 page2 g2 way2 free low2 (reads nand2 nor2 page2 g2 q way2 free low2 second.held)) (rw (a, b) at h) r)

  -- the answer: none is written where they outnumber the rows, else all are
  pub answer_16 : length area / 64 < n → ◌≡◌ {A = PairsAnswer} (record { number = 16; count = 0; area = area }) (pairs_answer area o1 o2)
  unfolding pairs_answer
  answer_16 h = rw (first.rows, second.rows, lt-ltb (length area / 64) (length (pair_rows rows1 rows2)) (omega (arith, pass_counts)))

  pub answer_0 : (left written : List ℕ) → left ≡ area → n ≤ length left / 64 → written ≡ splice left 0 (row_bytes (pair_rows rows1 rows2))
      → ◌≡◌ {A = PairsAnswer} (record { number = 0; count = n; area = written }) (pairs_answer area o1 o2)
  unfolding pairs_answer
  answer_0 left written e h w =
      let l = rw e at h in
      rw (first.rows, second.rows, le-ltb (length area / 64) (length (pair_rows rows1 rows2)) (omega (arith, pass_counts)), w, e, pass_counts)

-- damage in either
pub answer_first : (area : List ℕ) (o1 o2 : Option (List (List ℕ))) → o1 ≡ none → ◌≡◌ {A = PairsAnswer}
    (record { number = 10; count = 0; area = area }) (pairs_answer area o1 o2)
unfolding pairs_answer
answer_first area o1 o2 e = rw e

pub answer_second : (area : List ℕ) (o1 o2 : Option (List (List ℕ))) → o2 ≡ none → ◌≡◌ {A = PairsAnswer}
    (record { number = 10; count = 0; area = area }) (pairs_answer area o1 o2)
unfolding pairs_answer
answer_second area none o2 e = refl
answer_second area (some rows) o2 e = rw e

-- Counting by plate, lift by lift and segment by segment: the counts do not hang on the order, so the newest may come first.
-- Assumes nothing.
use mathlib.Core.Path.{◌≡◌, refl, sym, ap, ◌∙◌}
use mathlib.Core.Bool.{Bool, true, false, cond}
use mathlib.Core.Option.{Option, none, some}
use mathlib.Core.List.{List, [], ◌∷◌, ◌++◌, map}
use Prim.Native.Nat.{ℕ, zero, suc, ◌+◌, ◌^◌, ◌≤◌, ◌<◌}
use Rattle.std.specs.Prelude.{Ok, Err}
use Rattle.grounds.specs.declared.Ground.{Ground}
use native.Mathlib.Omega.{arith}
use lib.Dec.{eqb, ltb}
use lib.ListN.{length, get_or, set, replicate, length-set, length-map, get_or-eq_default}
use lib.Seq.{ext_get_or, get_or-set_same, get_or-set_other}
use borrow.Author.Tests.{eqb-true, eqb-false, ltb-true, ltb-false}
use Rattle.bitset.specs.declared.Bits.{Bits}
use Rattle.bitset.specs.Inner.Words.{members, Below}
use Rattle.bitset.proofs.Set.{length_members}
use Rattle.lift.specs.Limits.{load_of}
use Rattle.lift.specs.Record.{code_at}
use Rattle.plate.specs.Plate.{plate_of, count_at, counts_of, no_counts}
use Rattle.plate.specs.Inner.Counted.{counted_in}
use Rattle.plate.proofs.Counts.{count_append, count_small, length_counts, count_place}
use Rattle.tally.specs.Answers.{row_codes}
use Rattle.found.specs.Found.{join_rows}
use Rattle.found.specs.Inner.Turns.{rows_in}
use Rattle.tally.specs.Inner.Turns.{counted_all, tally_of, NoneAbove}

-- ---- counts, place by place

place_one : (cs : List ℕ) (p i : ℕ) → i < length cs
    → get_or (set cs p (get_or cs p 0 + 1)) i 0 ≡ get_or cs i 0 + cond (eqb p i) 1 0
place_one cs p i h = go (eqb p i) refl
  where
    go : (t : Bool) → eqb p i ≡ t → get_or (set cs p (get_or cs p 0 + 1)) i 0 ≡ get_or cs i 0 + cond t 1 0
    go true e = let q : p ≡ i = eqb-true p i e in rw q (get_or-set_same cs i (get_or cs i 0 + 1) 0 h)
    go false e = get_or-set_other cs p i (get_or cs p 0 + 1) 0 (λ q. eqb-false p i e (sym q)) ∙ omega arith

pub length_counted : (codes cs : List ℕ) → length (counted_all cs codes) ≡ length cs
unfolding counted_all
length_counted [] cs = refl
length_counted (x ∷ codes) cs = length_counted codes (counted_in cs x) ∙ length-set cs _ _

counted_place : (codes cs : List ℕ) (i : ℕ) → i < length cs → get_or (counted_all cs codes) i 0 ≡ get_or cs i 0 + count_at i codes
unfolding counted_all count_at
counted_place [] cs i h = omega arith
counted_place (x ∷ codes) cs i h =
    let l : length (counted_in cs x) ≡ length cs = length-set cs _ _ in
    counted_place codes (counted_in cs x) i (omega arith) ∙ one (eqb (plate_of (load_of x)) i)
    (place_one cs (plate_of (load_of x)) i h)
  where
    one : (t : Bool) → get_or (counted_in cs x) i 0 ≡ get_or cs i 0 + cond t 1 0
        → get_or (counted_in cs x) i 0 + count_at i codes ≡ get_or cs i 0 + cond t (suc (count_at i codes)) (count_at i codes)
    one true e = omega arith
    one false e = omega arith

pub none_zero : (i : ℕ) → get_or no_counts i 0 ≡ 0
none_zero i = go 22 i
  where
    go : (n i : ℕ) → ◌≡◌ {A = ℕ} (get_or (replicate n 0) i 0) 0
    go zero i = refl
    go (suc n) zero = refl
    go (suc n) (suc i) = go n i

-- all counted one by one from none: the counts of them all
pub counted_none : (codes : List ℕ) → counted_all no_counts codes ≡ counts_of codes
counted_none codes =
    let l = length_counted codes no_counts in
    ext_get_or 0 (counted_all no_counts codes) (counts_of codes) (l ∙ sym (length_counts codes)) (λ i h.
    let z = none_zero i in
    counted_place codes no_counts i (omega arith) ∙ omega arith ∙ sym (count_place codes i (omega arith)))

-- the newer first, then the older
pub counted_swap : (a b cs : List ℕ) → counted_all (counted_all cs b) a ≡ counted_all cs (a ++ b)
counted_swap a b cs =
    let l = length_counted a (counted_all cs b) in
    let m = length_counted b cs in
    let n = length_counted (a ++ b) cs in
    ext_get_or 0 (counted_all (counted_all cs b) a) (counted_all cs (a ++ b)) (l ∙ m ∙ sym n) (λ i h.
    let p = counted_place a (counted_all cs b) i (omega arith) in
    let q = counted_place b cs i (omega arith) in
    let r = counted_place (a ++ b) cs i (omega arith) in
    omega (arith, count_append i a b))

pub counted_few : (codes cs : List ℕ) (i : ℕ) → get_or (counted_all cs codes) i 0 ≤ get_or cs i 0 + length codes
counted_few codes cs i = go (ltb i (length cs)) refl
  where
    go : (t : Bool) → ltb i (length cs) ≡ t → get_or (counted_all cs codes) i 0 ≤ get_or cs i 0 + length codes
    go true e =
        let p = counted_place codes cs i (ltb-true i (length cs) e) in
        omega (arith, count_small i codes)
    go false e =
        let l = length_counted codes cs in
        let h = ltb-false i (length cs) e in
        let m : length (counted_all cs codes) ≤ i = omega arith in
        omega (arith, get_or-eq_default (counted_all cs codes) 0 m)

-- ---- the lifts of a set

pub record SetTally (f : ℕ → ℕ) (count : ℕ) (all left n : List ℕ) : Type 0 where
  pub below : Below count left
  pub room : (i : ℕ) → get_or n i 0 + length left ≤ 2 ^ 63 + 320
  pub leads : counted_all n (map f left) ≡ all

module _ (f : ℕ → ℕ) (count : ℕ) where
  pub set_first : (set : Bits) (n : List ℕ) → Below count (members set.words) → NoneAbove (2 ^ 63) n
      → SetTally f count (counted_all n (map f (members set.words))) (members set.words) n
  set_first set n b h = record { below = b; room = λ i. omega (arith, h i, length_members set.words); leads = refl }

  module _ (all left n : List ℕ) (t : SetTally f count all left n) where
    pub set_over : left ≡ [] → n ≡ all
    unfolding counted_all
    set_over e = rw e at t.leads

    module _ (p : ℕ) (more : List ℕ) (e : left ≡ p ∷ more) where
      pub set_below : p < count
      set_below = (rw e at t.below).0

      pub set_more : (code : ℕ) → code ≡ f p → (new : List ℕ) → new ≡ counted_in n code → SetTally f count all more new
      unfolding counted_all
      set_more code c new d =
          record {
            below = (rw e at t.below).1;
            room = λ i. rw d (omega (arith, t.room i, ap length e, counted_few (code ∷ []) n i));
            leads = rw (d, c) (rw e at t.leads);
          }

-- ---- the rows of a segment

codes_append : (a b : List (List ℕ)) → row_codes (a ++ b) ≡ row_codes a ++ row_codes b
codes_append [] b = refl
codes_append (r ∷ a) b = ap (λ (l : List ℕ). code_at r 0 ∷ l) (codes_append a b)

-- the newer rows are counted already
pub tally_join : (counts : List ℕ) (older : Option (List (List ℕ))) (newer : List (List ℕ))
    → tally_of (counted_all counts (row_codes newer)) older ≡ tally_of counts (join_rows older (some newer))
tally_join counts none newer = refl
tally_join counts (some older) newer =
    ap Ok (counted_swap (row_codes older) (row_codes newer) counts ∙ ap (counted_all counts) (sym (codes_append older newer)))

pub tally_few : (counts : List ℕ) (rows : List (List ℕ)) → length rows ≤ 320 → (most : ℕ) → NoneAbove most counts
    → NoneAbove (most + 320) (counted_all counts (row_codes rows))
tally_few counts rows f most h i =
    omega (arith, counted_few (row_codes rows) counts i, h i, length-map rows (λ (r : List ℕ). code_at r 0))

-- ---- what a tally of rows says of them

-- no damage
pub record TalliedIn (counts : List ℕ) (o : Option (List (List ℕ))) (more : List ℕ) : Type 0 where
  pub rows : o ≡ some (rows_in o)
  pub is : more ≡ counted_all counts (row_codes (rows_in o))

pub tallied : (counts more : List ℕ) (o : Option (List (List ℕ))) → Ok more ≡ tally_of counts o → TalliedIn counts o more
tallied counts more none e = absurd (cc)
tallied counts more (some rows) e = record { rows = refl; is = cc }

pub spoilt : (counts : List ℕ) (g : Ground) (o : Option (List (List ℕ))) → Err g ≡ tally_of counts o → o ≡ none
spoilt counts g none e = refl
spoilt counts g (some rows) e = absurd (cc)

-- What a call over areas leaves, from what the store's call gave and whether its areas have their lengths. Assumes nothing.
use mathlib.Core.Path.{◌≡◌, sym, ap, ap₂}
use mathlib.Core.Bool.{Bool, true, false, cond, ◌&&◌}
use mathlib.Core.List.{List, [], ◌∷◌}
use Prim.Native.Nat.{ℕ}
use native.Mathlib.Omega.{arith}
use lib.Dec.{eqb}
use lib.ListN.{length}
use borrow.Author.Tests.{eq-eqb, ne_eqb}
use Rattle.grounds.specs.declared.Ground.{Ground}
use Rattle.grounds.specs.Numbers.{number_of}
use Rattle.grounds.proofs.Numbers.{refused}
use Rattle.codec.specs.Number.{bytes}
use Rattle.codec.proofs.Areas.{length_part}
use Rattle.plate.specs.Lookup.{Lookup}
use Rattle.found.specs.declared.Pages.{Pages}
use Rattle.search.specs.Answers.{SearchAnswer}
use Rattle.tally.specs.Answers.{TallyAnswer}
use Rattle.store.specs.declared.State.{State}
use Rattle.store.specs.World.{World, world}
use Rattle.store.specs.Calls as Calls
use Rattle.store.specs.Calls.{Outcome}
use Rattle.loads.specs.Signed.{side_by_side}
use Rattle.state_bytes.specs.StateBytes.{state_bytes, state_as, state_in}
use Rattle.pairs.specs.Answers.{PairsAnswer}
use Rattle.tolerant.specs.Answers.{TolerantAnswer}
use Rattle.kept.specs.Kept.{kept}
use Rattle.areas.specs.Areas.{left, leaves, new_bytes, called, Answered, replied, in_lengths, replied_both}

-- ---- two lengths

pub first_wrong : (m n p q : ℕ) → (m ≡ n → ⊥) → (eqb m n && eqb p q) ≡ false
first_wrong m n p q h = ap (λ t. t && eqb p q) (ne_eqb m n h)

pub second_wrong : (m n p q : ℕ) → m ≡ n → (p ≡ q → ⊥) → (eqb m n && eqb p q) ≡ false
second_wrong m n p q e h = ap₂ ◌&&◌ (eq-eqb m n e) (ne_eqb p q h)

pub both_equal : (m n p q : ℕ) → m ≡ n → p ≡ q → (eqb m n && eqb p q) ≡ true
both_equal m n p q e f = ap₂ ◌&&◌ (eq-eqb m n e) (eq-eqb p q f)

-- the page buffer has its length
pub page_size : (area : List ℕ) → length area ≡ 783 → length (state_in area).page ≡ 512
unfolding state_in state_as
page_size area e = length_part area 127 512 (omega arith)

-- ---- calls that write

module _ (fits : Bool) (to_bytes : World → List ℕ) (area nand nor : List ℕ) (o : Outcome) where
  pub unfitting : fits ≡ false → left 20 area nand nor ≡ leaves fits to_bytes area nand nor o
  unfolding leaves
  unfitting h = rw h

  pub fitting : (area' : List ℕ) (n r : ℕ) (w : World) → fits ≡ true → r ≡ n → area' ≡ kept n (to_bytes w) area
      → ◌≡◌ {A = Outcome} (record { number = n; world = w }) o
      → left r area' w.nand w.nor ≡ leaves fits to_bytes area nand nor o
  unfolding leaves
  fitting area' n r w h e f g = rw (h, e, f, ← g)

pub wrong_length : (area nand nor : List ℕ) (o : Outcome) → (length area ≡ 783 → ⊥) → left 20 area nand nor ≡ called area nand nor o
unfolding called
wrong_length area nand nor o h = unfitting _ _ area nand nor o (ne_eqb (length area) 783 h)

pub right_length : (area nand nor area' nand' nor' : List ℕ) (n r : ℕ) (s : State) (o : Outcome) → length area ≡ 783 → r ≡ n
    → area' ≡ kept n (state_bytes s) area → Calls.returned n nand' nor' s ≡ o → left r area' nand' nor' ≡ called area nand nor o
unfolding called
right_length area nand nor area' nand' nor' n r s o h e f g =
    fitting _ new_bytes area nand nor o area' n r (world nand' nor' s) (eq-eqb (length area) 783 h) e f g

-- ---- calls that answer, of one or two areas with lengths to keep

pub one_wrong : (m n : ℕ) (a b : Answered) → (m ≡ n → ⊥) → b ≡ cond (eqb m n) a b
one_wrong m n a b h = sym (ap (λ t. cond t a b) (ne_eqb m n h))

pub one_right : (m n : ℕ) (a b : Answered) → m ≡ n → a ≡ cond (eqb m n) a b
one_right m n a b h = sym (ap (λ t. cond t a b) (eq-eqb m n h))

module _ {A : Type 0} (area answer : List ℕ) (n : ℕ) (a refused : A) where
  by : (t : Bool) → (eqb (length area) 783 && eqb (length answer) n) ≡ t → cond t a refused ≡ in_lengths area answer n a refused
  unfolding in_lengths
  by t e = sym (ap (λ u. cond u a refused) e)

  pub state_wrong : (length area ≡ 783 → ⊥) → refused ≡ in_lengths area answer n a refused
  state_wrong h = by false (first_wrong (length area) 783 (length answer) n h)

  pub answer_wrong : length area ≡ 783 → (length answer ≡ n → ⊥) → refused ≡ in_lengths area answer n a refused
  answer_wrong e h = by false (second_wrong (length area) 783 (length answer) n e h)

  pub both_right : length area ≡ 783 → length answer ≡ n → a ≡ in_lengths area answer n a refused
  both_right e h = by true (both_equal (length area) 783 (length answer) n e h)

-- a refusal leaves the area of its answer as it was
pub refused_keeps : (g : Ground) (new old : List ℕ) → old ≡ kept (number_of g) new old
refused_keeps g new old = sym (ap (λ t. cond t new old) (ne_eqb (number_of g) 0 (refused g)))

-- a search's count and pages, side by side
abbrev pub search_numbers : ℕ → Pages → List ℕ
search_numbers count pages = side_by_side (bytes 8) (count ∷ pages.headers ∷ pages.bloom ∷ pages.tree ∷ [])

pub search_left : (o : SearchAnswer) (n c : ℕ) (p : Pages) (rows answer answer' : List ℕ)
    → ◌≡◌ {A = SearchAnswer} (record { number = n; count = c; pages = p; area = rows }) o → answer' ≡ kept n (search_numbers c p) answer
    → replied n rows answer' ≡ replied o.number o.area (kept o.number (search_numbers o.count o.pages) answer)
search_left o n c p rows answer answer' e f = rw (f, ← e)

-- a tally's counts, laid out in this way
pub tally_left_lem : (laid : List ℕ → List ℕ) (o : TallyAnswer) (n : ℕ) (counts answer answer' : List ℕ)
    → ◌≡◌ {A = TallyAnswer} (record { number = n; counts = counts }) o → answer' ≡ kept n (laid counts) answer
    → replied n [] answer' ≡ replied o.number [] (kept o.number (laid o.counts) answer)
tally_left_lem laid o n counts answer answer' e f = rw (f, ← e)

pub plate_left : (p o : Lookup) (answer answer' : List ℕ) → p ≡ o → answer' ≡ kept p.number (bytes 8 p.plate) answer
    → replied p.number [] answer' ≡ replied o.number [] (kept o.number (bytes 8 o.plate) answer)
plate_left p o answer answer' e f = rw (f, e)

-- the count of pairs
pub pairs_left : (o : PairsAnswer) (n c : ℕ) (rows answer answer' : List ℕ)
    → ◌≡◌ {A = PairsAnswer} (record { number = n; count = c; area = rows }) o → answer' ≡ kept n (bytes 8 c) answer
    → replied n rows answer' ≡ replied o.number o.area (kept o.number (bytes 8 o.count) answer)
pairs_left o n c rows answer answer' e f = rw (f, ← e)

-- both lists of a tolerant search, and their counts
abbrev both_numbers : ℕ → ℕ → List ℕ
both_numbers certain possible = side_by_side (bytes 8) (certain ∷ possible ∷ [])

pub tolerant_left : (o : TolerantAnswer) (n c p : ℕ) (certain possible answer answer' : List ℕ)
    → ◌≡◌ {A = TolerantAnswer} (record { number = n; certain = c; possible = p; certain_area = certain; possible_area = possible }) o
    → answer' ≡ kept n (both_numbers c p) answer
    → replied_both n certain possible answer'
    ≡ replied_both o.number o.certain_area o.possible_area (kept o.number (both_numbers o.certain o.possible) answer)
tolerant_left o n c p certain possible answer answer' e f = rw (f, ← e)

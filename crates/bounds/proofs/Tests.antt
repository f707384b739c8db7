-- The tests of the state's numbers and the last loads, as the code makes them, are the definitions'. Assumes nothing.
use mathlib.Core.Path.{◌≡◌, refl, sym, ◌∙◌}
use mathlib.Core.Bool.{true}
use mathlib.Core.List.{List, [], ◌∷◌, ◌++◌, map}
use Prim.Native.Nat.{ℕ, zero, suc, ◌+◌, ◌≤◌, ◌<◌}
use native.Mathlib.Numerals.{add-one}
use native.Mathlib.Omega.{arith}
use lib.IntN.{ℤ, pos}
use Rattle.std.specs.List.{list_all, copy_within}
use Rattle.std.proofs.lemmas.List.{set-append_right}
use Rattle.std.proofs.lemmas.List.Edits.{paste_all}
use lib.ListN.{length, get_or, set, take, drop, length-drop, drop_of_length-le}
use lib.Seq.{drop-cons, take-suc, take-suc-set, take_all}
use Rattle.codec.proofs.Truth.{and_left, and_right}
use Rattle.lift.specs.Limits.{load_ok, stored}
use Rattle.bounds.specs.Bounds.{loads_ok}
use Rattle.bounds.specs.Lifts.{shifted}

-- ---- the loads, one by one

pub all_loads : (loads : List ℤ) → list_all load_ok loads ≡ loads_ok loads
unfolding loads_ok
all_loads [] = refl
all_loads (l ∷ ls) = rw (all_loads ls)

pub loads_all : (loads : List ℤ) (i : ℕ) → length loads ≤ i → true ≡ loads_ok (drop i loads)
unfolding loads_ok
loads_all loads i h = rw (drop_of_length-le loads {i = i} h)

-- ---- a list filled from the front

module _ {A : Type 0} where
  -- one more element, as `all` has it
  pub filled_more : (l all : List A) (i : ℕ) (v d : A) → i < length l → length l ≡ length all → v ≡ get_or all i d
      → take i l ≡ take i all
      → take (i + 1) (set l i v) ≡ take (i + 1) all
  filled_more l all i v d h same e f =
      let k : i < length all = omega arith in
      rw (add-one, take-suc-set l i v h, take-suc all i d k, f, e)

  pub filled_all : (l all : List A) (n : ℕ) → length l ≡ n → length all ≡ n → take n l ≡ take n all → l ≡ all
  filled_all l all n a b f = sym (take_all n l (omega arith)) ∙ f ∙ take_all n all (omega arith)

-- ---- the last loads

-- those behind the first moved to the front, and a new one put last
pub shifted_copied : (l m : List ℤ) (x : ℤ) → length l ≡ 13 → m ≡ copy_within l 1 (length l) 0 → set m 12 x ≡ shifted l x
unfolding shifted
shifted_copied l m x h e =
    let tail : length (drop 1 l) ≡ 12 = simp length-drop (omega arith) in
    let copied : m ≡ drop 1 l ++ drop 12 l = (rw h at e) ∙ paste_all l 0 (drop 1 l) 12 (sym tail) in
    let last : drop 12 l ≡ get_or l 12 (pos 0) ∷ drop 13 l = drop-cons l 12 (pos 0) (omega arith) in
    let none : drop 13 l ≡ [] = drop_of_length-le l {i = 13} (omega arith) in
    rw (copied, set-append_right (drop 1 l) (drop 12 l) 12 12 x tail (omega arith), last, none)

-- ---- the loads as stored

-- each of them is within its limits
pub load_within : (loads : List ℤ) (i : ℕ) → i < length loads → loads_ok loads ≡ true → load_ok (get_or loads i (pos 0)) ≡ true
unfolding loads_ok
load_within [] i h e = absurd (omega arith)
load_within (l ∷ ls) zero h e = and_left (load_ok l) (loads_ok ls) e
load_within (l ∷ ls) (suc i) h e = load_within ls i (omega arith) (and_right (load_ok l) (loads_ok ls) e)

pub stored_at : (loads : List ℤ) (i : ℕ) (code : ℕ) → i < length loads → code ≡ stored (get_or loads i (pos 0))
    → code ≡ get_or (map stored loads) i 0
stored_at [] i code h e = absurd (omega arith)
stored_at (l ∷ ls) zero code h e = e
stored_at (l ∷ ls) (suc i) code h e = stored_at ls i code (omega arith) e

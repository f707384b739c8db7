-- What the request says of single loads and of any list (document 02, W-209). By the order of integers. Assumes nothing.
use mathlib.Core.Path.{◌≡◌, refl, sym, ◌∙◌}
use mathlib.Core.Bool.{Bool, true, false}
use mathlib.Core.List.{List}
use Prim.Native.Nat.{ℕ}
use lib.IntN.{ℤ, pos, ◌+ℤ◌, ◌-ℤ◌, +ℤ_idr}
use lib.Signed.{le_z, lt_z}
use borrow.Author.Tests.{not-true}
use Rattle.codec.specs.Lists.{Part}
use Rattle.codec.proofs.Lists.{AllOf, chosen_part, chosen_same, chosen_all}
use Rattle.codec.proofs.Truth.{and_both, and_parts}
use Rattle.lift.specs.Limits.{load_ok, load_least, load_most, load_of}
use Rattle.lift.specs.Record.{code_at}
use Rattle.tolerance.specs.Tolerance.{is_within, is_between, is_certain, is_possible, low_end, high_end, certain_rows}
use Rattle.tolerance.proofs.Order.{le_self, le_trans, le_other, lt_not, less_right, less_more}

-- ---- one load

-- a whole number within d of the load that lies between k1 and k2
pub record Witness (k1 k2 : ℤ) (d : ℕ) (load : ℤ) : Type 0 where
  pub x : ℤ
  pub within : is_within d load x ≡ true
  pub between : is_between k1 k2 x ≡ true

module _ (k1 k2 : ℤ) (d : ℕ) (load : ℤ) where
  -- the least and the greatest number within d
  abbrev least : ℤ
  least = load -ℤ pos d

  abbrev greatest : ℤ
  greatest = load +ℤ pos d

  -- "certain lifts, for which every whole number within d of the logged load lies between k1 and k2"
  pub certain_all : is_certain k1 k2 d load ≡ true → (x : ℤ) → is_within d load x ≡ true → is_between k1 k2 x ≡ true
  unfolding is_certain
  certain_all h x w =
      let c = and_parts (le_z k1 least) (le_z greatest k2) h in
      let n = and_parts (le_z least x) (le_z x greatest) w in
      and_both (le_z k1 x) (le_z x k2) (le_trans k1 least x c.0 n.0) (le_trans x greatest k2 n.1 c.1)

  pub all_certain : ((x : ℤ) → is_within d load x ≡ true → is_between k1 k2 x ≡ true) → is_certain k1 k2 d load ≡ true
  unfolding is_certain
  all_certain f =
      let low = f least (and_both (le_z least least) (le_z least greatest) (le_self least) (less_more load d)) in
      let high = f greatest (and_both (le_z least greatest) (le_z greatest greatest) (less_more load d) (le_self greatest)) in
      and_both (le_z k1 least) (le_z greatest k2) (and_parts (le_z k1 least) (le_z least k2) low).0
      (and_parts (le_z k1 greatest) (le_z greatest k2) high).1

  -- "and possible lifts, for which at least one does"
  pub some_possible : (x : ℤ) → is_within d load x ≡ true → is_between k1 k2 x ≡ true → is_possible k1 k2 d load ≡ true
  unfolding is_possible
  some_possible x w b =
      let n = and_parts (le_z least x) (le_z x greatest) w in
      let m = and_parts (le_z k1 x) (le_z x k2) b in
      and_both (le_z k1 greatest) (le_z least k2) (le_trans k1 x greatest m.0 n.1) (le_trans least x k2 n.0 m.1)

  -- there is one: the least within d, or k1 where that is above it
  pub possible_some : le_z k1 k2 ≡ true → is_possible k1 k2 d load ≡ true → Witness k1 k2 d load
  unfolding is_possible
  possible_some order h = go (le_z k1 least) refl (and_parts (le_z k1 greatest) (le_z least k2) h)
    where
      go : (t : Bool) → le_z k1 least ≡ t → (le_z k1 greatest ≡ true) × (le_z least k2 ≡ true) → Witness k1 k2 d load
      go true e p = record {
        x = least;
        within = and_both (le_z least least) (le_z least greatest) (le_self least) (less_more load d);
        between = and_both (le_z k1 least) (le_z least k2) e p.1;
      }
      go false e p = record {
        x = k1;
        within = and_both (le_z least k1) (le_z k1 greatest) (le_other k1 least e) p.0;
        between = and_both (le_z k1 k1) (le_z k1 k2) (le_self k1) order;
      }

  -- "The certain list is part of the possible one"
  pub certain_possible : is_certain k1 k2 d load ≡ true → is_possible k1 k2 d load ≡ true
  unfolding is_certain is_possible
  certain_possible h =
      let c = and_parts (le_z k1 least) (le_z greatest k2) h in
      and_both (le_z k1 greatest) (le_z least k2) (le_trans k1 least greatest c.0 (less_more load d))
      (le_trans least greatest k2 (less_more load d) c.1)

  -- a range narrower than 2d has no certain lift
  pub certain_none : lt_z (k2 -ℤ pos d) (k1 +ℤ pos d) ≡ true → is_certain k1 k2 d load ≡ false
  unfolding is_certain
  certain_none narrow = go (is_certain k1 k2 d load) refl
    where
      go : (t : Bool) → is_certain k1 k2 d load ≡ t → t ≡ false
      go false e = refl
      go true e =
          let c = and_parts (le_z k1 least) (le_z greatest k2) e in
          let low = sym (less_right k1 load d) ∙ c.0 in
          let high = less_right load k2 d ∙ c.1 in
          let crossed = not-true (le_z (k1 +ℤ pos d) (k2 -ℤ pos d)) (sym (lt_not (k2 -ℤ pos d) (k1 +ℤ pos d)) ∙ narrow) in
          sym (le_trans (k1 +ℤ pos d) load (k2 -ℤ pos d) low high) ∙ crossed

-- ---- "with d = 0 both equal the plain search"

module _ (k1 k2 load : ℤ) where
  pub zero_certain : is_certain k1 k2 0 load ≡ is_between k1 k2 load
  unfolding is_certain
  zero_certain = rw (+ℤ_idr load)

  pub zero_possible : is_possible k1 k2 0 load ≡ is_between k1 k2 load
  unfolding is_possible
  zero_possible = rw (+ℤ_idr load)

-- its ends are k1 and k2
pub zero_low_end : (k1 : ℤ) → load_ok k1 ≡ true → low_end k1 0 ≡ k1
unfolding low_end
zero_low_end k1 ok = rw (+ℤ_idr k1, (and_parts (le_z load_least k1) (le_z k1 load_most) ok).0)

pub zero_high_end : (k2 : ℤ) → load_ok k2 ≡ true → high_end k2 0 ≡ k2
unfolding high_end
zero_high_end k2 ok = rw (+ℤ_idr k2, (and_parts (le_z load_least k2) (le_z k2 load_most) ok).1)

-- ---- any list

-- "The certain list is part of the possible one"
pub certain_part : (k1 k2 : ℤ) (d : ℕ) (rows : List (List ℕ)) → Part (certain_rows k1 k2 d rows) rows
unfolding certain_rows
certain_part k1 k2 d rows = chosen_part (λ r. is_certain k1 k2 d (load_of (code_at r 0))) rows

-- "with d = 0 both equal the plain search": where every row's load lies between k1 and k2, every row is certain
pub zero_rows : (k1 k2 : ℤ) (rows : List (List ℕ)) → AllOf (λ r. is_between k1 k2 (load_of (code_at r 0)) ≡ true) rows
    → certain_rows k1 k2 0 rows ≡ rows
unfolding certain_rows
zero_rows k1 k2 rows all =
    chosen_same (λ r. is_certain k1 k2 0 (load_of (code_at r 0))) (λ r. is_between k1 k2 (load_of (code_at r 0)))
    (λ r. zero_certain k1 k2 (load_of (code_at r 0))) rows
    ∙ chosen_all (λ r. is_between k1 k2 (load_of (code_at r 0))) rows all

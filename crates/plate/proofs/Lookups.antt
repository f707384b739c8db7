-- The lookup: the turns down a table of ends, and its three answers. Assumes nothing.
use mathlib.Core.Path.{◌≡◌, refl, sym, ◌∙◌}
use mathlib.Core.Bool.{Bool, true, false, cond, not}
use mathlib.Core.List.{List, [], ◌∷◌}
use Prim.Native.Nat.{ℕ, suc, ◌+◌, ◌-◌, ◌≤◌, ◌<◌}
use native.Mathlib.Omega.{arith}
use borrow.Author.Tests.{lt-ltb, le-ltb, le-leb, lt-leb, leb-true, leb-false, ltb-false}
use lib.Dec.{leb, ltb}
use lib.IntN.{ℤ, pos, sub_ℕ}
use lib.ListN.{length, get_or}
use lib.Signed.{le_z}
use Rattle.std.specs.Prelude.{Some, None}
use Rattle.std.specs.List.{position, position_or_len}
use Rattle.std.proofs.lemmas.List.Sums.{prefix_len-le-length}
use Rattle.std.specs.Option.{unwrap_or}
use Rattle.std.specs.Result.{result_unwrap_or}
use Rattle.std.specs.declared.result.Result.{Result}
use Rattle.std.specs.declared.result.Result.TheVariants.{Ok, Err}
use Rattle.lift.specs.Limits.{load_ok, load_of, stored}
use Rattle.lift.proofs.Codes.{within_limits}
use Rattle.plate.specs.Stack.{ends_of, plate_by, plate_on}
use Rattle.plate.specs.Carried.{carried, lookup}
use Rattle.grounds.specs.declared.Ground.{Ground}
use Rattle.grounds.specs.Numbers.{number_in}
use Rattle.plate.specs.Lookup.{Lookup}
use Rattle.plate.specs.Inner.Found.{lookup_of}
use Rattle.plate.proofs.StackBands.{up_to}

-- ---- down a table

first_or_all : (ends : List ℕ) (load : ℕ) → position_or_len (leb load) ends ≡ plate_by ends (sub_ℕ load 0)
unfolding plate_by
first_or_all [] load = refl
first_or_all (end ∷ ends) load = rw (up_to load 0 end) (go (leb load end) refl (first_or_all ends load))
  where
    go : (t : Bool) → leb load end ≡ t → position_or_len (leb load) ends ≡ plate_by ends (sub_ℕ load 0)
        → cond (not t) (1 + position_or_len (leb load) ends) 0 ≡ cond (leb load (end + 0)) 0 (suc (plate_by ends (sub_ℕ load 0)))
    go true e rest = rw (le-leb load (end + 0) (omega (arith, leb-true load end e)))
    go false e rest = rw (lt-leb load (end + 0) (omega (arith, leb-false load end e))) (omega arith)

-- the first end that the load is not past, or all of them
pub first_end : (ends : List ℕ) (load : ℕ) → unwrap_or (position (leb load) ends) (length ends) ≡ plate_by ends (sub_ℕ load 0)
first_end ends load = go (ltb (position_or_len (leb load) ends) (length ends)) refl
  where
    n : ℕ
    n = position_or_len (leb load) ends

    go : (t : Bool) → ltb n (length ends) ≡ t → unwrap_or (cond t (Some n) None) (length ends) ≡ plate_by ends (sub_ℕ load 0)
    go true e = first_or_all ends load
    go false e =
        let few = prefix_len-le-length (λ x. not (leb load x)) ends in
        let past = ltb-false n (length ends) e in
        omega (arith, first_or_all ends load)

-- ---- a load below zero counts as zero

same_end : (code end : ℕ) → le_z (load_of code) (pos end) ≡ le_z (sub_ℕ (code - 50001) 0) (pos end)
same_end code end = up_to code 50001 end ∙ go (leb code (end + 50001)) refl ∙ sym (up_to (code - 50001) 0 end)
  where
    go : (t : Bool) → leb code (end + 50001) ≡ t → leb code (end + 50001) ≡ leb (code - 50001) (end + 0)
    go true e = e ∙ sym (le-leb (code - 50001) (end + 0) (omega (arith, leb-true code (end + 50001) e)))
    go false e = e ∙ sym (lt-leb (code - 50001) (end + 0) (omega (arith, leb-false code (end + 50001) e)))

pub by_zero : (ends : List ℕ) (code : ℕ) → plate_by ends (load_of code) ≡ plate_by ends (sub_ℕ (code - 50001) 0)
unfolding plate_by
by_zero [] code = refl
by_zero (end ∷ ends) code = rw (same_end code end, by_zero ends code)

-- by a table that has the ends of the stack at this place
pub by_table : (table : List ℕ) (n place load code p : ℕ) → table ≡ ends_of (get_or carried n []) → p ≡ plate_by table (sub_ℕ load 0) → place ≡ n
    → load ≡ code - 50001
    → p ≡ plate_on (get_or carried place []) (load_of code)
by_table table n place load code p t e k l = e ∙ rw (k, l, t) (sym (by_zero (ends_of (get_or carried n [])) code))

-- ---- the answers

module _ (place : ℕ) (load : ℤ) where
  pub past_limit : load_ok load ≡ false → ◌≡◌ {A = Lookup} (record { number = 5; plate = 0 }) (lookup place load)
  unfolding lookup
  past_limit e = rw e

  module _ (e : load_ok load ≡ true) where
    pub no_such_stack : length carried ≤ place → ◌≡◌ {A = Lookup} (record { number = 15; plate = 0 }) (lookup place load)
    unfolding lookup
    no_such_stack h = rw (e, le-ltb place (length carried) h)

    pub answered : (code p : ℕ) → place < length carried → code ≡ stored load → p ≡ plate_on (get_or carried place []) (load_of code)
        → ◌≡◌ {A = Lookup} (record { number = 0; plate = p }) (lookup place load)
    unfolding lookup
    answered code p h ec ep = rw (e, lt-ltb place (length carried) h, ep, ec, (within_limits load e).load)

-- ---- its number and its plate apart

pub found_number : (r : Result ℕ Ground) → (lookup_of r).number ≡ number_in r
found_number (Ok plate) = refl
found_number (Err g) = refl

pub found_plate : (r : Result ℕ Ground) → (lookup_of r).plate ≡ result_unwrap_or r 0
found_plate (Ok plate) = refl
found_plate (Err g) = refl

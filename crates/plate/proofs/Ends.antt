-- The ends of a stack's bands (document 02, W-205 and W-206): each is the sum above the next plate and half of it, the last the full sum
-- and half of the last plate; they rise strictly, and one run down the stack gives them all. Assumes nothing.
use mathlib.Core.Path.{◌≡◌, refl, sym, ap, subst, ◌∙◌}
use mathlib.Core.Bool.{Bool, true, ◌&&◌}
use mathlib.Core.List.{List, [], ◌∷◌, ◌++◌, map, append_assoc}
use Prim.Native.Nat.{ℕ, zero, suc, ◌+◌, ◌-◌, ◌*◌, ◌/◌, ◌≤◌, ◌<◌}
use native.Mathlib.Omega.{arith}
use native.Mathlib.Decide.{dec_lt}
use borrow.Author.Tests.{leb-true, eq-eqb, ne_eqb}
use lib.Dec.{leb}
use denote.Bor.{Bor}
use lib.ListN.{length, get_or, get_or-map, length-append, replicate, length-replicate, get_or-replicate}
use Rattle.codec.proofs.Truth.{and_left, and_right}
use Rattle.plate.specs.Total.{total}
use Rattle.plate.specs.Stack.{is_plate, all_plates, is_stack, sum_down_to, last_end, end_of, ends_from, ends_of}

-- ---- the end of one band

pub sum_next : (stack : List ℕ) (n : ℕ) → sum_down_to stack (suc n) ≡ sum_down_to stack n + get_or stack n 0
unfolding sum_down_to total
sum_next [] zero = refl
sum_next [] (suc n) = refl
sum_next (p ∷ stack) zero = omega arith
sum_next (p ∷ stack) (suc n) = omega (arith, sum_next stack n)

sum_none : (stack : List ℕ) → sum_down_to stack 0 ≡ 0
unfolding sum_down_to total
sum_none stack = refl

-- from plate 0 to the last but one
pub end_is : (stack : List ℕ) (n : ℕ) → n < length stack → end_of stack n ≡ sum_down_to stack n + get_or stack n 0 / 2
unfolding end_of
end_is stack zero h = let e = sum_none stack in omega arith
end_is stack (suc n) h =
    let e = sum_next stack (suc n) in
    rw (ne_eqb (suc n) (length stack) (λ z. omega arith)) (omega arith)

sum_all : (stack : List ℕ) → sum_down_to stack (length stack) ≡ total stack
unfolding sum_down_to total
sum_all [] = refl
sum_all (p ∷ stack) = ap (λ (s : ℕ). p + s) (sum_all stack)

-- of the last plate
pub last_end_is : (stack : List ℕ) (n : ℕ) → suc n ≡ length stack → end_of stack (suc n) ≡ sum_down_to stack (suc n) + get_or stack n 0 / 2
unfolding end_of last_end
last_end_is stack n e =
    let z : length stack - 1 ≡ n = omega arith in
    let s = sum_all stack in
    rw (eq-eqb (suc n) (length stack) e, z, e) (omega arith)

-- ---- "the ends rise strictly"

pub plate_sizes : (p : ℕ) → is_plate p ≡ true → (100 ≤ p) × (p ≤ 5000)
plate_sizes p h = (leb-true 100 p (and_left (leb 100 p) (leb p 5000) h), leb-true p 5000 (and_right (leb 100 p) (leb p 5000) h))

some_plate : (stack : List ℕ) (n : ℕ) → all_plates stack ≡ true → n < length stack → 100 ≤ get_or stack n 0
unfolding all_plates
some_plate [] n a h = absurd (omega arith)
some_plate (p ∷ stack) zero a h = (plate_sizes p (and_left (is_plate p) (all_plates stack) a)).0
some_plate (p ∷ stack) (suc n) a h = some_plate stack n (and_right (is_plate p) (all_plates stack) a) (omega arith)

module _ (stack : List ℕ) (ok : is_stack stack ≡ true) where
  plates : all_plates stack ≡ true
  unfolding is_stack
  plates = and_right (leb 1 (length stack) && leb (length stack) 24) (all_plates stack) ok

  next_end : (n : ℕ) → n < length stack → sum_down_to stack (suc n) ≤ end_of stack (suc n)
  next_end n h = go (dec_lt (suc n) (length stack))
    where
      go : Dec (suc n < length stack) → sum_down_to stack (suc n) ≤ end_of stack (suc n)
      go (yes l) = omega (arith, end_is stack (suc n) l)
      go (no l) = omega (arith, last_end_is stack n (omega arith))

  pub ends_rise : (n : ℕ) → n < length stack → end_of stack n < end_of stack (suc n)
  ends_rise n h =
      let p = some_plate stack n plates h in
      let e = end_is stack n h in
      let f = next_end n h in
      let s = sum_next stack n in
      omega arith

  pub ends_rise_to : (k n : ℕ) → n + k ≤ length stack → end_of stack n ≤ end_of stack (n + k)
  ends_rise_to zero n h = let e : n + 0 ≡ n = omega arith in rw e (omega arith)
  ends_rise_to (suc k) n h =
      let e : n + suc k ≡ suc (n + k) = omega arith in
      let r = ends_rise (n + k) (omega arith) in
      let s = ends_rise_to k n (omega arith) in
      rw e (omega arith)

-- ---- all ends in one run

-- the ends under plates of this sum, the lowest of them this one
unfoldable pub running : ℕ → ℕ → List ℕ → List ℕ
running sum above [] = (sum + above / 2) ∷ []
running sum above (p ∷ ps) = (sum + p / 2) ∷ running (sum + p) p ps

get_d_after : (above below : List ℕ) (p : ℕ) → get_or (above ++ (p ∷ below)) (length above) 0 ≡ p
get_d_after [] below p = refl
get_d_after (a ∷ above) below p = get_d_after above below p

ends_run : (above : List ℕ) (p : ℕ) (stack : List ℕ)
    → ends_from (above ++ (p ∷ stack)) (suc (length stack)) (suc (length above))
    ≡ running (sum_down_to (above ++ (p ∷ stack)) (suc (length above))) p stack
unfolding ends_from running
ends_run above p [] =
    let l : length (above ++ (p ∷ [])) ≡ suc (length above) = simp length-append (omega arith) in
    let e = rw (get_d_after above [] p) at (last_end_is (above ++ (p ∷ [])) (length above) (omega arith)) in
    rw e
ends_run above p (q ∷ stack) =
    let j : (above ++ (p ∷ [])) ++ (q ∷ stack) ≡ above ++ (p ∷ q ∷ stack) = append_assoc above (p ∷ []) (q ∷ stack) in
    let l : length (above ++ (p ∷ [])) ≡ suc (length above) = simp length-append (omega arith) in
    let m : length (above ++ (p ∷ q ∷ stack)) ≡ length above + (2 + length stack) = simp length-append (omega arith) in
    let g : get_or (above ++ (p ∷ q ∷ stack)) (suc (length above)) 0 ≡ q = rw (j, l) at (get_d_after (above ++ (p ∷ [])) stack q) in
    let at_j = subst (λ (t : List ℕ).
    ends_from t (suc (length stack)) (suc (length (above ++ (p ∷ [])))) ≡ running (sum_down_to t (suc (length (above ++ (p ∷ []))))) q stack)
    j (ends_run (above ++ (p ∷ [])) q stack) in
    let r = rw (l, sum_next (above ++ (p ∷ q ∷ stack)) (suc (length above)), g) at at_j in
    let e = rw g at (end_is (above ++ (p ∷ q ∷ stack)) (suc (length above)) (omega arith)) in
    rw (e, r)

pub ends_running : (stack : List ℕ) → ends_of stack ≡ running 0 0 stack
unfolding ends_of ends_from end_of running
ends_running [] = refl
ends_running (p ∷ stack) =
    let s : sum_down_to (p ∷ stack) 1 ≡ p = omega (arith, sum_next (p ∷ stack) 0, sum_none (p ∷ stack)) in
    let a : 0 + p / 2 ≡ p / 2 = omega arith in
    let b : 0 + p ≡ p = omega arith in
    rw (a, b, ends_run [] p stack, s)

-- a table for each stack of a list
pub tables_of : (tables stacks : List (List ℕ)) → tables ≡ map (running 0 0) stacks → (n : ℕ) → n < length stacks
    → get_or tables n [] ≡ ends_of (get_or stacks n [])
tables_of tables stacks e n h = rw e (go stacks n h)
  where
    go : (stacks : List (List ℕ)) (n : ℕ) → n < length stacks
        → get_or (map (running 0 0) stacks) n [] ≡ ends_of (get_or stacks n [])
    go [] n h = absurd (omega arith)
    go (stack ∷ stacks) zero h = sym (ends_running stack)
    go (stack ∷ stacks) (suc n) h = go stacks n (omega arith)

-- of tables that are lent, what is lent at a place is the place of what is lent
pub lent_at : (tables : List (Bor (List ℕ))) (n : ℕ) (none : Bor (List ℕ))
    → (get_or tables n none).now ≡ get_or (map (λ (table : Bor (List ℕ)). table.now) tables) n none.now
lent_at tables n none = sym (get_or-map (λ (table : Bor (List ℕ)). table.now) tables n none)

-- an end more than plates
length_running : (sum above : ℕ) (stack : List ℕ) → length (running sum above stack) ≡ suc (length stack)
unfolding running
length_running sum above [] = refl
length_running sum above (p ∷ stack) = ap suc (length_running (sum + p) p stack)

-- all stacks of a list are within the sizes
unfoldable pub all_stacks : List (List ℕ) → Bool
all_stacks [] = true
all_stacks (stack ∷ stacks) = is_stack stack && all_stacks stacks

few_plates : (stack : List ℕ) → is_stack stack ≡ true → length stack ≤ 24
unfolding is_stack
few_plates stack h =
    let sizes = and_left (leb 1 (length stack) && leb (length stack) 24) (all_plates stack) h in
    leb-true (length stack) 24 (and_right (leb 1 (length stack)) (leb (length stack) 24) sizes)

-- so there are at most 25 ends
pub ends_most : (stacks : List (List ℕ)) → all_stacks stacks ≡ true → (n : ℕ) → n < length stacks
    → length (ends_of (get_or stacks n [])) ≤ 25
unfolding all_stacks
ends_most [] a n h = absurd (omega arith)
ends_most (stack ∷ stacks) a zero h =
    let few = few_plates stack (and_left (is_stack stack) (all_stacks stacks) a) in
    rw (ends_running stack, length_running 0 0 stack) (omega (arith, few))
ends_most (stack ∷ stacks) a (suc n) h =
    ends_most stacks (and_right (is_stack stack) (all_stacks stacks) a) n (omega arith)

-- ---- equal plates

pub sum_of_equal : (m v n : ℕ) → n ≤ m → sum_down_to (replicate m v) n ≡ v * n
unfolding sum_down_to total
sum_of_equal m v zero h = omega arith
sum_of_equal zero v (suc n) h = absurd (omega arith)
sum_of_equal (suc m) v (suc n) h = let e = sum_of_equal m v n (omega arith) in omega arith

-- the last one's end too
pub end_of_equal : (m v n : ℕ) → n ≤ m → 0 < m → end_of (replicate m v) n ≡ v * n + v / 2
end_of_equal m v n h some = go n h (dec_lt n m)
  where
    go : (n : ℕ) → n ≤ m → Dec (n < m) → end_of (replicate m v) n ≡ v * n + v / 2
    go n h (yes k) =
        rw (end_is (replicate m v) n (omega (arith, length-replicate m v)), get_or-replicate m n v 0 k, sum_of_equal m v n h)
    go zero h (no k) = absurd (omega arith)
    go (suc n) h (no k) =
        rw (last_end_is (replicate m v) n (omega (arith, length-replicate m v)), get_or-replicate m n v 0 h, sum_of_equal m v (suc n) h)

-- Where the pages of a slot come from: the open serial's slot is no retained closed one's, and what a close changes. Assumes nothing.
use mathlib.Core.Path.{◌≡◌, refl, ap, ◌∙◌}
use mathlib.Core.Bool.{Bool, true, false, cond}
use mathlib.Core.List.{List, [], ◌∷◌, ◌++◌, map}
use Prim.Native.Nat.{ℕ, suc, ◌+◌, ◌≤◌, ◌<◌}
use native.Mathlib.Omega.{arith}
use lib.Dec.{eqb}
use lib.ListN.{length}
use borrow.Author.Tests.{eqb-true, eq-eqb, ne_eqb, le-ltb}
use Rattle.flash.specs.Chip.{slot_of, erased_page}
use Rattle.skiplist.specs.declared.Pointer.{Pointer}
use Rattle.form.specs.declared.Form.{Form}
use Rattle.skiplist.specs.Skip.{pointing, level_of, heads_after}
use Rattle.paper_log.specs.Log.{Lift}
use Rattle.refinement.specs.Inner.Segments.{start_time, closed_page, open_page, heads_from}
use Rattle.refinement.specs.Inner.Image.{page_from}
use Rattle.flash.proofs.Slots.{slots_differ}

-- the heads that the serial behind these has
abbrev pub heads_at : Form → ℕ → ℕ → List (List Lift) → List Pointer → List Pointer
heads_at f slots n closed heads = heads_from f slots n (map start_time closed) heads

-- an empty open segment has no page
pub open_none : (p : ℕ) → open_page [] p ≡ erased_page
unfolding open_page
open_none p = rw (le-ltb p 0 (omega arith))

module _ (f : Form) (slots : ℕ) where
  -- the serial behind some closed ones, fewer than S, has a slot of its own
  passes : (n m : ℕ) → 1 ≤ n → suc m < slots → eqb (slot_of n slots) (slot_of (suc n + m) slots) ≡ false
  passes n m h k = ne_eqb _ _ (slots_differ slots n (suc n + m) h (omega arith) (omega arith))

  ahead : (n : ℕ) {A : Type 0} (a : A) (rest : List A) → n + length (a ∷ rest) ≡ suc n + length rest
  ahead n a rest = omega arith

  pub page_open : (n : ℕ) (closed : List (List Lift)) (current : List Lift) (heads : List Pointer) (p : ℕ) → 1 ≤ n → length closed < slots
      → page_from f slots n closed current heads (slot_of (n + length closed) slots) p ≡ open_page current p
  unfolding page_from
  page_open n [] current heads p h k =
      let e : n + 0 ≡ n = omega arith in
      rw (e, eq-eqb (slot_of n slots) (slot_of n slots) refl)
  page_open n (ls ∷ rest) current heads p h k =
      rw (ahead n ls rest, passes n (length rest) h k) (page_open (suc n) rest current _ p (omega arith) (omega arith))

  -- the segment that is closed behind others
  pub page_newest : (n : ℕ) (closed : List (List Lift)) (ls : List Lift) (heads : List Pointer) (p : ℕ) → 1 ≤ n → length closed < slots
      → page_from f slots n (closed ++ (ls ∷ [])) [] heads (slot_of (n + length closed) slots) p
      ≡ closed_page f (n + length closed) ls (heads_at f slots n closed heads) p
  unfolding page_from heads_from
  page_newest n [] ls heads p h k =
      let e : n + 0 ≡ n = omega arith in
      rw (e, eq-eqb (slot_of n slots) (slot_of n slots) refl)
  page_newest n (ms ∷ rest) ls heads p h k =
      rw (ahead n ms rest, passes n (length rest) h k) (page_newest (suc n) rest ls _ p (omega arith) (omega arith))

  -- a close changes no other slot
  pub page_elsewhere : (n : ℕ) (closed : List (List Lift)) (ls : List Lift) (heads : List Pointer) (s p : ℕ)
      → (slot_of (n + length closed) slots ≡ s → ⊥)
      → page_from f slots n (closed ++ (ls ∷ [])) [] heads s p ≡ page_from f slots n closed ls heads s p
  unfolding page_from
  page_elsewhere n [] ls heads s p other =
      let e : n + 0 ≡ n = omega arith in
      rw (ne_eqb (slot_of n slots) s (λ q. other (ap (λ (m : ℕ). slot_of m slots) e ∙ q))) (none_there (eqb (slot_of (suc n) slots) s))
    where
      none_there : (t : Bool) → cond t (open_page [] p) erased_page ≡ erased_page
      none_there true = open_none p
      none_there false = refl
  page_elsewhere n (ms ∷ rest) ls heads s p other =
      ap (cond (eqb (slot_of n slots) s) (closed_page f n ms heads p))
      (page_elsewhere (suc n) rest ls _ s p (λ q. other (ap (λ (m : ℕ). slot_of m slots) (ahead n ms rest) ∙ q)))

  -- the heads with one segment more
  pub heads_snoc : (n : ℕ) (closed : List (List Lift)) (ls : List Lift) (heads : List Pointer)
      → heads_at f slots n (closed ++ (ls ∷ [])) heads
      ≡ heads_after (heads_at f slots n closed heads) (level_of (n + length closed)) (pointing f (slot_of (n + length closed) slots) (n + length closed) (start_time ls))
  unfolding heads_from
  heads_snoc n [] ls heads = let e : n + 0 ≡ n = omega arith in rw e
  heads_snoc n (ms ∷ rest) ls heads = rw (ahead n ms rest) (heads_snoc (suc n) rest ls _)

  -- the open segment's lifts are in the open serial's slot alone
  pub page_current : (n : ℕ) (closed : List (List Lift)) (a b : List Lift) (heads : List Pointer) (s p : ℕ)
      → (slot_of (n + length closed) slots ≡ s → open_page a p ≡ open_page b p)
      → page_from f slots n closed a heads s p ≡ page_from f slots n closed b heads s p
  unfolding page_from
  page_current n [] a b heads s p same = go (eqb (slot_of n slots) s) refl
    where
      go : (t : Bool) → eqb (slot_of n slots) s ≡ t → cond t (open_page a p) erased_page ≡ cond t (open_page b p) erased_page
      go true e =
          let z : n + 0 ≡ n = omega arith in
          same (ap (λ (m : ℕ). slot_of m slots) z ∙ eqb-true (slot_of n slots) s e)
      go false e = refl
  page_current n (ms ∷ rest) a b heads s p same =
      ap (cond (eqb (slot_of n slots) s) (closed_page f n ms heads p))
      (page_current (suc n) rest a b _ s p (λ q. same (ap (λ (m : ℕ). slot_of m slots) (ahead n ms rest) ∙ q)))

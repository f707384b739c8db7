-- The turns of the loop over the retained closed headers, and what is known where none has what is sought. Assumes nothing.
use mathlib.Core.Path.{◌≡◌, refl, sym, subst, ◌∙◌}
use mathlib.Core.Bool.{Bool, true, false, ◌||◌}
use mathlib.Core.List.{List}
use Prim.Native.Nat.{ℕ, zero, suc, ◌+◌, ◌≤◌, ◌<◌}
use native.Mathlib.Decide.{dec_lt}
use native.Mathlib.Omega.{arith}
use lib.ListN.{length, get_or, drop}
use lib.Seq.{drop-cons}
use native.Mathlib.Numerals.{add-one}
use Rattle.std.proofs.lemmas.List.{drop_all}
use Rattle.codec.proofs.Truth.{or_left, or_right, or_second}
use Rattle.skiplist.specs.declared.Pointer.{Pointer}
use Rattle.retained.specs.Retained.{any_from, is_late, any_late}

-- ---- the loop over the serials

-- one that has it is found
pub found_at : (has : ℕ → Bool) (m n i : ℕ) → i < m → has (n + i) ≡ true → any_from has m n ≡ true
unfolding any_from
found_at has zero n i l e = absurd (omega arith)
found_at has (suc m) n i l e = go (dec_lt i m) (found_at has m n i)
  where
    go : Dec (i < m) → (i < m → has (n + i) ≡ true → any_from has m n ≡ true) → (has (n + m) || any_from has m n) ≡ true
    go (yes k) f = or_second (has (n + m)) (any_from has m n) (f k e)
    go (no k) f = let q : i ≡ m = omega arith in rw (← q, e)

-- where none has it, none is found
pub none_at : (has : ℕ → Bool) (m n : ℕ) → ((i : ℕ) → i < m → has (n + i) ≡ false) → any_from has m n ≡ false
unfolding any_from
none_at has zero n f = refl
none_at has (suc m) n f = rw (f m (omega arith), none_at has m n (λ i l. f i (omega arith)))

-- where none has it, each of them has not
pub none_has : (has : ℕ → Bool) (m n : ℕ) → any_from has m n ≡ false → (i : ℕ) → i < m → has (n + i) ≡ false
unfolding any_from
none_has has zero n e i l = absurd (omega arith)
none_has has (suc m) n e i l = go (dec_lt i m) (none_has has m n (or_right (has (n + m)) (any_from has m n) e) i)
  where
    go : Dec (i < m) → (i < m → has (n + i) ≡ false) → has (n + i) ≡ false
    go (yes k) f = f k
    go (no k) f = let q : m ≡ i = omega arith in subst (λ (j : ℕ). has (n + j) ≡ false) q (or_left (has (n + m)) (any_from has m n) e)

-- ---- the pointers, one after the other

module _ (oldest first i : ℕ) (ps : List Pointer) (e : Pointer) where
  pub late_here : i < length ps → (b : Bool) → b ≡ is_late oldest first (get_or ps i e) → b ≡ true → true ≡ any_late oldest first (drop i ps)
  unfolding any_late
  late_here l b is t = let h : is_late oldest first (get_or ps i e) ≡ true = sym is ∙ t in rw (drop-cons ps i e, h)

  pub late_later : i < length ps → (b : Bool) → b ≡ is_late oldest first (get_or ps i e) → b ≡ false
      → any_late oldest first (drop (i + 1) ps) ≡ any_late oldest first (drop i ps)
  unfolding any_late
  late_later l b is t =
      let h : is_late oldest first (get_or ps i e) ≡ false = sym is ∙ t in
      rw (drop-cons ps i e, h, add-one)

  pub late_none : length ps ≤ i → false ≡ any_late oldest first (drop i ps)
  unfolding any_late
  late_none l = rw (drop_all i ps l)

-- The serial rule: at level k + 1 the heads of serial n point to the largest multiple of 2^k below n, so carrying the heads of a
-- history of one form gives those of the other. By induction over the segments in order of closing. Assumes nothing.
use mathlib.Core.Path.{◌≡◌, refl, ◌∙◌}
use mathlib.Core.List.{List, [], ◌∷◌}
use Prim.Native.Nat.{ℕ, zero, suc, ◌+◌, ◌/◌, ◌%◌, ◌≤◌, ◌<◌}
use native.Mathlib.Decide.{dec_lt}
use native.Mathlib.Omega.{arith}
use lib.Count.{count_trailing_zeros}
use lib.ListN.{length, get_or}
use borrow.Author.Tests.{ne_eqb}
use Rattle.flash.specs.Chip.{slot_of}
use Rattle.flash.proofs.Slots.{slot_below}
use Rattle.form.specs.declared.Form.{Form}
use Rattle.form.specs.declared.Form.TheVariants.{Old, New}
use Rattle.skiplist.specs.declared.Pointer.{Pointer}
use Rattle.skiplist.specs.Skip.{pointing, none, level_of, heads_after}
use Rattle.skiplist.proofs.Nodes.{heads_below, heads_above}
use Rattle.header.proofs.HeaderBytes.{level_most}
use Rattle.refinement.specs.Inner.Segments as S
use Rattle.refinement.proofs.PageLengths.{four_after}
use Rattle.carry.specs.Carried.{other, multiple_below, pointer_into}

-- a serial's level, by its remainder
pub data Level (n : ℕ) : Type 0 where
  one : level_of n ≡ 1 → n % 2 ≡ 1 → Level n
  two : level_of n ≡ 2 → n % 4 ≡ 2 → Level n
  three : level_of n ≡ 3 → n % 8 ≡ 4 → Level n
  four : level_of n ≡ 4 → n % 8 ≡ 0 → Level n

level_of_lem : (n : ℕ) → Level n
unfolding level_of count_trailing_zeros
level_of_lem n = go (n % 2) (n / 2 % 2) (n / 2 / 2 % 2) refl refl refl
  where
    go : (a b c : ℕ) → n % 2 ≡ a → n / 2 % 2 ≡ b → n / 2 / 2 % 2 ≡ c → Level n
    go (suc a) b c p q r = one (rw p) (omega arith)
    go zero (suc b) c p q r = two (rw (p, q)) (omega arith)
    go zero zero (suc c) p q r = three (rw (p, q, r)) (omega arith)
    go zero zero zero p q r = four (rw (p, q, r) (omega arith)) (omega arith)

-- the segment itself, where its level is above k
pub own_multiple : (n k : ℕ) → k < level_of n → multiple_below (suc n) k ≡ n
own_multiple n k l = go k l (level_of_lem n)
  where
    go : (k : ℕ) → k < level_of n → Level n → multiple_below (suc n) k ≡ n
    go zero l v = omega arith
    go (suc zero) l (one e m) = absurd (omega arith)
    go (suc zero) l (two e m) = omega arith
    go (suc zero) l (three e m) = omega arith
    go (suc zero) l (four e m) = omega arith
    go (suc (suc zero)) l (one e m) = absurd (omega arith)
    go (suc (suc zero)) l (two e m) = absurd (omega arith)
    go (suc (suc zero)) l (three e m) = omega arith
    go (suc (suc zero)) l (four e m) = omega arith
    go (suc (suc (suc zero))) l (one e m) = absurd (omega arith)
    go (suc (suc (suc zero))) l (two e m) = absurd (omega arith)
    go (suc (suc (suc zero))) l (three e m) = absurd (omega arith)
    go (suc (suc (suc zero))) l (four e m) = omega arith
    go (suc (suc (suc (suc k)))) l v = absurd (omega (arith, level_most n))

-- as before it, where not
pub same_multiple : (n k : ℕ) → 1 ≤ n → k < 4 → level_of n ≤ k → multiple_below (suc n) k ≡ multiple_below n k
same_multiple n k s l m = go k l m (level_of_lem n)
  where
    go : (k : ℕ) → k < 4 → level_of n ≤ k → Level n → multiple_below (suc n) k ≡ multiple_below n k
    go zero l m (one e d) = absurd (omega arith)
    go zero l m (two e d) = absurd (omega arith)
    go zero l m (three e d) = absurd (omega arith)
    go zero l m (four e d) = absurd (omega arith)
    go (suc zero) l m (one e d) = omega arith
    go (suc zero) l m (two e d) = absurd (omega arith)
    go (suc zero) l m (three e d) = absurd (omega arith)
    go (suc zero) l m (four e d) = absurd (omega arith)
    go (suc (suc zero)) l m (one e d) = omega arith
    go (suc (suc zero)) l m (two e d) = omega arith
    go (suc (suc zero)) l m (three e d) = absurd (omega arith)
    go (suc (suc zero)) l m (four e d) = absurd (omega arith)
    go (suc (suc (suc zero))) l m (one e d) = omega arith
    go (suc (suc (suc zero))) l m (two e d) = omega arith
    go (suc (suc (suc zero))) l m (three e d) = omega arith
    go (suc (suc (suc zero))) l m (four e d) = absurd (omega arith)
    go (suc (suc (suc (suc k)))) l m v = absurd (omega arith)

-- ---- carrying one pointer

module _ (slots : ℕ) (least : 1 ≤ slots) (most : slots ≤ 4096) where
  -- the segment that was closed last
  own_carried : (f : Form) (n k t : ℕ) → k < level_of n → pointer_into f (suc n) k (pointing (other f) (slot_of n slots) n t) ≡ pointing f (slot_of n slots) n t
  unfolding pointer_into
  own_carried Old n k t l = refl
  own_carried New n k t l =
      let s = slot_below slots n least in
      rw (ne_eqb (slot_of n slots) 65535 (λ e. omega arith), own_multiple n k l)

  same_carried : (f : Form) (n k : ℕ) (p : Pointer) → 1 ≤ n → k < 4 → level_of n ≤ k → pointer_into f (suc n) k p ≡ pointer_into f n k p
  unfolding pointer_into
  same_carried Old n k p s l m = refl
  same_carried New n k p s l m = rw (same_multiple n k s l m)

  -- ---- carrying heads

  abbrev Carried : Form → ℕ → List Pointer → List Pointer → Type 0
  Carried f n from to = (k : ℕ) → k < 4 → pointer_into f n k (get_or from k none) ≡ get_or to k none

  pub heads_carried : (f : Form) (n : ℕ) (ts : List ℕ) (from to : List Pointer) → length from ≡ 4 → length to ≡ 4 → 1 ≤ n
      → Carried f n from to → Carried f (n + length ts) (S.heads_from (other f) slots n ts from) (S.heads_from f slots n ts to)
  unfolding S.heads_from
  heads_carried f n [] from to a b s c = let e : n + 0 ≡ n = omega arith in rw e c
  heads_carried f n (t ∷ ts) from to a b s c =
      let e : n + suc (length ts) ≡ suc n + length ts = omega arith in
      rw e (heads_carried f (suc n) ts _ _ (four_after from n (pointing (other f) (slot_of n slots) n t) a)
      (four_after to n (pointing f (slot_of n slots) n t) b) (omega arith) more)
    where
      p : Pointer
      p = pointing (other f) (slot_of n slots) n t

      q : Pointer
      q = pointing f (slot_of n slots) n t

      more : Carried f (suc n) (heads_after from (level_of n) p) (heads_after to (level_of n) q)
      more k l = go (dec_lt k (level_of n))
        where
          go : Dec (k < level_of n) → pointer_into f (suc n) k (get_or (heads_after from (level_of n) p) k none) ≡ get_or (heads_after to (level_of n) q) k none
          go (yes m) =
              rw (heads_below from a (level_of n) (level_most n) p k m, heads_below to b (level_of n) (level_most n) q k m) (own_carried f n k t m)
          go (no m) =
              rw (heads_above from a (level_of n) (level_most n) p k (omega arith), heads_above to b (level_of n) (level_most n) q k (omega arith))
              (same_carried f n k (get_or from k none) s l (omega arith) ∙ c k l)

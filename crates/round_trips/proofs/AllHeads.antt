-- What holds of each head, and of a pointer to each segment that is closed then, holds of each head after them. By induction over the
-- segments in order of closing. Assumes nothing.
use mathlib.Core.Path.{◌≡◌}
use mathlib.Core.List.{List, [], ◌∷◌}
use Prim.Native.Nat.{ℕ, suc, ◌+◌, ◌≤◌, ◌<◌}
use native.Mathlib.Decide.{dec_lt}
use native.Mathlib.Omega.{arith}
use lib.ListN.{length, get_or}
use Rattle.flash.specs.Chip.{slot_of}
use Rattle.form.specs.declared.Form.{Form}
use Rattle.skiplist.specs.declared.Pointer.{Pointer}
use Rattle.skiplist.specs.Skip.{pointing, none, level_of, heads_after}
use Rattle.skiplist.proofs.Nodes.{heads_below, heads_above}
use Rattle.header.proofs.HeaderBytes.{level_most}
use Rattle.refinement.specs.Inner.Segments as S
use Rattle.refinement.proofs.PageLengths.{four_after}

-- P of the pointer at each level
pub heads_all : (P : ℕ → Pointer → Type 0) (v : Form) (slots n : ℕ) (ts : List ℕ) (heads : List Pointer) → length heads ≡ 4
    → ((k m t : ℕ) → n ≤ m → m < n + length ts → P k (pointing v (slot_of m slots) m t))
    → ((k : ℕ) → P k (get_or heads k none)) → (k : ℕ) → P k (get_or (S.heads_from v slots n ts heads) k none)
unfolding S.heads_from
heads_all P v slots n [] heads four own f k = f k
heads_all P v slots n (t ∷ ts) heads four own f k =
    heads_all P v slots (suc n) ts _ (four_after heads n p four) (λ j m u a b. own j m u (omega arith) (omega arith)) one k
  where
    p : Pointer
    p = pointing v (slot_of n slots) n t

    one : (k : ℕ) → P k (get_or (heads_after heads (level_of n) p) k none)
    one k = go (dec_lt k (level_of n))
      where
        go : Dec (k < level_of n) → P k (get_or (heads_after heads (level_of n) p) k none)
        go (yes j) = rw (heads_below heads four (level_of n) (level_most n) p k j) (own k n t (omega arith) (omega arith))
        go (no j) = rw (heads_above heads four (level_of n) (level_most n) p k (omega arith)) (f k)

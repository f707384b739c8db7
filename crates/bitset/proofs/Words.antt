-- The five words by constant places, and the first that is not 0. Assumes nothing.
use mathlib.Core.Logic.{◌≢◌}
use mathlib.Core.Path.{subst, ◌≡◌, refl, sym, ap, ◌∙◌}
use Rattle.std.specs.Prelude.{Some}
use mathlib.Core.List.{List, [], ◌∷◌}
use Prim.Native.Nat.{ℕ, zero, suc, ◌+◌, ◌-◌, ◌*◌, ◌^◌, ◌≤◌, ◌<◌}
use native.Mathlib.Omega.{arith}
use lib.Count.{count_trailing_zeros}
use lib.ListN.{length, get_or, set}
use borrow.Author.Count.{below_more}
use Rattle.bitset.specs.Inner.Words.{without}
use Rattle.bitset.specs.Inner.Emptying.{next_of, IsFirst}
use Rattle.bitset.specs.declared.Bits.{Bits}
use Rattle.bitset.proofs.Emptying.{first_found, first_next}

-- the words one by one
abbrev pub five_of : List ℕ → List ℕ
five_of ws = get_or ws 0 0 ∷ get_or ws 1 0 ∷ get_or ws 2 0 ∷ get_or ws 3 0 ∷ get_or ws 4 0 ∷ []

pub five : (ws : List ℕ) → length ws ≡ 5 → five_of ws ≡ ws
five (a ∷ b ∷ c ∷ d ∷ e ∷ []) h = refl
five [] h = absurd (omega arith)
five (a ∷ []) h = absurd (omega arith)
five (a ∷ b ∷ []) h = absurd (omega arith)
five (a ∷ b ∷ c ∷ []) h = absurd (omega arith)
five (a ∷ b ∷ c ∷ d ∷ []) h = absurd (omega arith)
five (a ∷ b ∷ c ∷ d ∷ e ∷ f ∷ ws) h = absurd (omega arith)

-- ---- one word changed

-- y is what a word x becomes that has place j, where the word at i changes
pub record Turned (Q : ℕ → ℕ → Type 0) (i j x y : ℕ) : Type 0 where
  pub here : i ≡ j → Q x y
  pub other : i ≢ j → y ≡ x

module _ (Q : ℕ → ℕ → Type 0) (a b c d e : ℕ) where
  spread : (v w x y z i : ℕ) → i < 5 → Turned Q i 0 v a → Turned Q i 1 w b → Turned Q i 2 x c → Turned Q i 3 y d → Turned Q i 4 z e
      → (t : ℕ) × Q (get_or (v ∷ w ∷ x ∷ y ∷ z ∷ []) i 0) t × (a ∷ b ∷ c ∷ d ∷ e ∷ [] ≡ set (v ∷ w ∷ x ∷ y ∷ z ∷ []) i t)
  spread v w x y z zero l f g h i j =
      (a, f.here refl, rw (g.other (omega arith), h.other (omega arith), i.other (omega arith), j.other (omega arith)))
  spread v w x y z (suc zero) l f g h i j =
      (b, g.here refl, rw (f.other (omega arith), h.other (omega arith), i.other (omega arith), j.other (omega arith)))
  spread v w x y z (suc (suc zero)) l f g h i j =
      (c, h.here refl, rw (f.other (omega arith), g.other (omega arith), i.other (omega arith), j.other (omega arith)))
  spread v w x y z (suc (suc (suc zero))) l f g h i j =
      (d, i.here refl, rw (f.other (omega arith), g.other (omega arith), h.other (omega arith), j.other (omega arith)))
  spread v w x y z (suc (suc (suc (suc zero)))) l f g h i j =
      (e, j.here refl, rw (f.other (omega arith), g.other (omega arith), h.other (omega arith), i.other (omega arith)))
  spread v w x y z (suc (suc (suc (suc (suc k))))) l f g h i j = absurd (omega arith)

  pub one_changed : (ws : List ℕ) (i : ℕ) → length ws ≡ 5 → i < 5 → Turned Q i 0 (get_or ws 0 0) a → Turned Q i 1 (get_or ws 1 0) b
      → Turned Q i 2 (get_or ws 2 0) c → Turned Q i 3 (get_or ws 3 0) d → Turned Q i 4 (get_or ws 4 0) e
      → (t : ℕ) × Q (get_or ws i 0) t × (a ∷ b ∷ c ∷ d ∷ e ∷ [] ≡ set ws i t)
  one_changed ws i n l f g h k m =
      subst (λ us. (t : ℕ) × Q (get_or us i 0) t × (a ∷ b ∷ c ∷ d ∷ e ∷ [] ≡ set us i t)) (five ws n)
      (spread (get_or ws 0 0) (get_or ws 1 0) (get_or ws 2 0) (get_or ws 3 0) (get_or ws 4 0) i l f g h k m)

-- ---- the first word that is not 0

-- words 0 to i - 1 are 0
abbrev pub Zeros : List ℕ → ℕ → Type 0
Zeros ws i = (k : ℕ) → k < i → get_or ws k 0 ≡ 0

pub zeros_none : (ws : List ℕ) → Zeros ws 0
zeros_none ws k h = absurd (omega arith)

pub zeros_more : (ws : List ℕ) (i : ℕ) → Zeros ws i → get_or ws i 0 ≤ 0 → Zeros ws (i + 1)
zeros_more ws i z h = below_more _ _ z (omega arith)

pub found_word : (b : Bits) (i v : ℕ) (r : ℕ × Bits) → length b.words ≡ 5 → i < 5 → Zeros b.words i → 0 < get_or b.words i 0
    → get_or b.words i 0 < 2 ^ 64 → v ≡ get_or b.words i 0 - 2 ^ count_trailing_zeros 64 (get_or b.words i 0)
    → r.0 ≡ 64 * i + count_trailing_zeros 64 (get_or b.words i 0) → r.1.words ≡ set (five_of b.words) i v
    → (Some r ≡ next_of b) × IsFirst b (Some r)
found_word b i v r l h z p f ev et ew =
    let s = first_found b.words i _ h z p f refl in
    let e : r.1.words ≡ without b.words r.0 =
    ew ∙ ap (λ us. set us i v) (five b.words l) ∙ ap (set b.words i) ev ∙ rw et (sym s.1) in
    first_next b (Some r) (rw (e, et) s.0, e, rw et s.2)

-- Fields of one width w, written side by side one after the other, are one write. By induction on the fields. Assumes nothing.
use mathlib.Core.Path.{◌≡◌, refl, sym, ap, ◌∙◌}
use mathlib.Core.List.{List, [], ◌∷◌, ◌++◌, append_assoc, append-nil}
use Prim.Native.Nat.{ℕ, zero, suc, ◌+◌, ◌*◌, ◌≤◌, ◌<◌}
use native.Mathlib.Nat.{mul-suc, mul-le-mul_left}
use native.Mathlib.Omega.{arith}
use lib.ListN.{length, get_or, take, length-append, length-take}
use lib.Seq.{take_all}
use Rattle.codec.specs.Area.{part, splice}
use Rattle.codec.proofs.Areas.{length_splice, splice_part, splice_next}
use Rattle.loads.specs.Signed.{side_by_side}

-- a write behind a write from `at`
pub more : (s s1 s2 : List ℕ) (at : ℕ) (p : List ℕ) (to : ℕ) (q : List ℕ) → s1 ≡ splice s at p → s2 ≡ splice s1 to q
    → at + length p ≡ to → to + length q ≤ length s → s2 ≡ splice s at (p ++ q)
more s s1 s2 at p to q e f h l = f ∙ ap (λ t. splice t to q) e ∙ splice_next s at p to q h (omega arith)

module _ {X : Type 0} (f : X → List ℕ) (w : ℕ) (wide : (x : X) → length (f x) ≡ w) where
  pub length_side : (xs : List X) → length (side_by_side f xs) ≡ w * length xs
  unfolding side_by_side
  length_side [] = omega arith
  length_side (x ∷ xs) =
      length-append (f x) (side_by_side f xs) ∙ omega (arith, wide x, length_side xs, mul-suc w (length xs))

  side_more : (xs : List X) (i : ℕ) (d : X) → i < length xs
      → side_by_side f (take i xs) ++ f (get_or xs i d) ≡ side_by_side f (take (suc i) xs)
  unfolding side_by_side
  side_more [] i d h = absurd (omega arith)
  side_more (x ∷ xs) zero d h = sym (append-nil (f x))
  side_more (x ∷ xs) (suc i) d h =
      append_assoc (f x) (side_by_side f (take i xs)) (f (get_or xs i d)) ∙ ap (λ q. f x ++ q) (side_more xs i d (omega arith))

  -- the first i are written
  abbrev pub Put : List ℕ → ℕ → List X → List ℕ → ℕ → Type 0
  Put s at xs t i = (t ≡ splice s at (side_by_side f (take i xs))) × (length t ≡ length s) × (i ≤ length xs)

  pub put_none : (s : List ℕ) (at : ℕ) (xs : List X) → at ≤ length s → Put s at xs s 0
  unfolding part side_by_side
  put_none s at xs h = (sym (splice_part s at 0 (omega arith)), refl, omega arith)

  pub put_next : (s t u : List ℕ) (at : ℕ) (xs : List X) (i to : ℕ) (d x : X) → at + w * length xs ≤ length s → i < length xs
      → at + w * i ≡ to → Put s at xs t i → x ≡ get_or xs i d → u ≡ splice t to (f x) → Put s at xs u (i + 1)
  put_next s t u at xs i to d x l h o e v g =
      let k : u ≡ splice t to (f (get_or xs i d)) = g ∙ ap (λ y. splice t to (f y)) v in
      let n : length (take i xs) ≡ i = length-take i xs ∙ omega arith in
      let len : length (side_by_side f (take i xs)) ≡ w * i = length_side (take i xs) ∙ ap (λ (j : ℕ). w * j) n in
      let r : i + 1 ≡ suc i = omega arith in
      let fit : w * i + w ≤ w * length xs = omega (arith, mul-le-mul_left w h, mul-suc w i) in
      let wd = wide (get_or xs i d) in
      let m = length_splice t to (f (get_or xs i d)) (omega (arith, wd, e.1)) in
      let a = more s t u at (side_by_side f (take i xs)) to (f (get_or xs i d)) e.0 k (omega arith) (omega (arith, wd)) in (
        a ∙ ap (splice s at) (side_more xs i d h ∙ ap (λ (j : ℕ). side_by_side f (take j xs)) (sym r)),
        ap length k ∙ m ∙ e.1,
        omega arith,
      )

  pub put_all : (s t : List ℕ) (at : ℕ) (xs : List X) (i : ℕ) → length xs ≤ i → Put s at xs t i → t ≡ splice s at (side_by_side f xs)
  put_all s t at xs i h e = e.0 ∙ ap (λ l. splice s at (side_by_side f l)) (take_all i xs h)

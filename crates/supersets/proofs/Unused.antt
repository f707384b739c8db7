-- Lifts with places that stand once: what a turn leaves is what the pairs made so far have not used. So each pair's second is the first
-- unused one that fits, no second stands twice, and what is left on both sides does not fit. Assumes nothing.
use mathlib.Core.Path.{◌≡◌, refl, sym, ap, subst, ◌∙◌}
use mathlib.Core.Bool.{Bool, true, false, cond, ◌||◌}
use mathlib.Core.Logic.{◌⊎◌, inl, inr}
use mathlib.Core.Option.{Option, none, some}
use mathlib.Core.List.{List, [], ◌∷◌, ◌++◌}
use Prim.Native.Nat.{ℕ}
use native.Mathlib.Omega.{arith}
use lib.Dec.{eqb}
use borrow.Author.Tests.{eqb-false}
use Rattle.bitset.specs.Set.{elem}
use Rattle.supersets.specs.Pairs.{first_fit, without_fit, pair_with, pairs_of}
use Rattle.codec.specs.Lists.{Part, done, taken, passed}
use Rattle.supersets.specs.Places.{Placed, OneOf, NoTwice, places_of, firsts, seconds, unused_by}
use Rattle.supersets.proofs.Parts.{part_map, one_of_none, one_cases}
use Rattle.supersets.proofs.Numbers.{absent, absent_head, absent_rest, absent_none, present, other_way, part_absent, part_once}
use Rattle.supersets.proofs.Fitting.{found_one, without_part, none_fits, without_none}

module _ {A : Type 0} where
  -- ---- the lifts that pairs leave unused

  pub unused_first : (ys : List (Placed A)) → unused_by [] ys ≡ ys
  unfolding unused_by elem
  unused_first [] = refl
  unused_first (y ∷ ys) = ap {B = List (Placed A)} (λ l. y ∷ l) (unused_first ys)

  pub unused_part : (ps : List (Placed A × Placed A)) (ys : List (Placed A)) → Part (unused_by ps ys) ys
  unfolding unused_by
  unused_part ps [] = done
  unused_part ps (y ∷ ys) = go (elem y.0 (places_of (seconds ps))) (unused_part ps ys)
    where
      go : (t : Bool) → Part (unused_by ps ys) ys → Part (cond t (unused_by ps ys) (y ∷ unused_by ps ys)) (y ∷ ys)
      go true ih = passed ih
      go false ih = taken refl ih

  -- one pair more
  pub unused_more : (p : Placed A × Placed A) (ps : List (Placed A × Placed A)) (ys : List (Placed A))
      → unused_by (p ∷ ps) ys ≡ unused_by ps (unused_by (p ∷ []) ys)
  unfolding unused_by elem
  unused_more p ps [] = refl
  unused_more p ps (y ∷ ys) = go (eqb y.0 p.1.0) (elem y.0 (places_of (seconds ps))) refl (unused_more p ps ys)
    where
      go : (t s : Bool) → elem y.0 (places_of (seconds ps)) ≡ s → unused_by (p ∷ ps) ys ≡ unused_by ps (unused_by (p ∷ []) ys)
          → cond (t || s) (unused_by (p ∷ ps) ys) (y ∷ unused_by (p ∷ ps) ys)
          ≡ unused_by ps (cond (t || false) (unused_by (p ∷ []) ys) (y ∷ unused_by (p ∷ []) ys))
      go true s e ih = ih
      go false s e ih = rw (e, ih)

  -- a second whose place does not stand in the list takes nothing away
  pub unused_same : (p : Placed A × Placed A) (ys : List (Placed A)) → elem p.1.0 (places_of ys) ≡ false → unused_by (p ∷ []) ys ≡ ys
  unfolding unused_by
  unused_same p [] e = refl
  unused_same p (y ∷ ys) e =
      rw (absent y.0 p.1.0 [] (other_way p.1.0 y.0 (absent_head p.1.0 y.0 (places_of ys) e)) (absent_none y.0))
      (ap {B = List (Placed A)} (λ l. y ∷ l) (unused_same p ys (absent_rest p.1.0 y.0 (places_of ys) e)))

  -- its own place is not left
  pub unused_gone : (p : Placed A × Placed A) (ys : List (Placed A)) → elem p.1.0 (places_of (unused_by (p ∷ []) ys)) ≡ false
  unfolding unused_by elem
  unused_gone p [] = refl
  unused_gone p (y ∷ ys) = go (eqb y.0 p.1.0) refl (unused_gone p ys)
    where
      go : (t : Bool) → eqb y.0 p.1.0 ≡ t → elem p.1.0 (places_of (unused_by (p ∷ []) ys)) ≡ false
          → elem p.1.0 (places_of (cond (t || false) (unused_by (p ∷ []) ys) (y ∷ unused_by (p ∷ []) ys))) ≡ false
      go true e ih = ih
      go false e ih = rw (other_way y.0 p.1.0 e, ih)

  -- another place is
  pub unused_kept : (ps : List (Placed A × Placed A)) (ys : List (Placed A)) (b : Placed A) → OneOf b ys
      → elem b.0 (places_of (seconds ps)) ≡ false → OneOf b (unused_by ps ys)
  unfolding unused_by
  unused_kept ps [] b i e = absurd (one_of_none i)
  unused_kept ps (y ∷ ys) b i e = go (elem y.0 (places_of (seconds ps))) refl (one_cases i) (λ j. unused_kept ps ys b j e)
    where
      go : (t : Bool) → elem y.0 (places_of (seconds ps)) ≡ t → (b ≡ y) ⊎ OneOf b ys → (OneOf b ys → OneOf b (unused_by ps ys))
          → OneOf b (cond t (unused_by ps ys) (y ∷ unused_by ps ys))
      go true d (inl s) ih =
          let clash : true ≡ false = sym d ∙ ap (λ (x : Placed A). elem x.0 (places_of (seconds ps))) (sym s) ∙ e in
          let z : ◌≡◌ {A = ℕ} 0 1 = cc in absurd (omega arith)
      go true d (inr j) ih = ih j
      go false d (inl s) ih = taken s done
      go false d (inr j) ih = passed (ih j)

  -- ---- a turn

  module _ (fits : Placed A → Placed A → Bool) where
    -- the list without the one that was found: those that this pair leaves unused
    without_is : (a b : Placed A) (ys : List (Placed A)) → NoTwice (places_of ys) → first_fit fits a ys ≡ some b
        → without_fit fits a ys ≡ unused_by ((a, b) ∷ []) ys
    unfolding first_fit without_fit unused_by
    without_is a b [] h e = refl
    without_is a b (y ∷ ys) h e = go (fits a y) e (without_is a b ys h.1)
      where
        kept : OneOf b ys → elem y.0 (b.0 ∷ []) ≡ false
        kept i = part_absent y.0 (part_map (λ (x : Placed A). x.0) i) h.0

        go : (t : Bool) → cond t (some y) (first_fit fits a ys) ≡ some b
            → (first_fit fits a ys ≡ some b → without_fit fits a ys ≡ unused_by ((a, b) ∷ []) ys)
            → cond t ys (y ∷ without_fit fits a ys)
            ≡ cond (elem y.0 (b.0 ∷ [])) (unused_by ((a, b) ∷ []) ys) (y ∷ unused_by ((a, b) ∷ []) ys)
        go true e ih =
            let same : y ≡ b = cc in
            let place : y.0 ≡ b.0 = ap (λ (x : Placed A). x.0) same in
            rw (present y.0 b.0 [] place) (sym (unused_same (a, b) ys (ap (λ (n : ℕ). elem n (places_of ys)) (sym place) ∙ h.0)))
        go false e ih = rw (kept (found_one fits a ys b e), ih e)

    -- places stand once after a turn too
    once_after : (a : Placed A) (ys : List (Placed A)) → NoTwice (places_of ys) → NoTwice (places_of (without_fit fits a ys))
    once_after a ys h = part_once (part_map (λ (x : Placed A). x.0) (without_part fits a ys)) h

    -- ---- the first unused one that fits

    pub first_unused : (xs ys : List (Placed A)) → NoTwice (places_of ys) → (earlier later : List (Placed A × Placed A))
        (p : Placed A × Placed A) → pairs_of fits xs ys ≡ earlier ++ (p ∷ later) → first_fit fits p.0 (unused_by earlier ys) ≡ some p.1
    unfolding pairs_of
    first_unused [] ys h [] later p e = let z : ◌≡◌ {A = ℕ} 0 1 = cc in absurd (omega arith)
    first_unused [] ys h (q ∷ earlier) later p e = let z : ◌≡◌ {A = ℕ} 0 1 = cc in absurd (omega arith)
    first_unused (x ∷ xs) ys h earlier later p e =
        go (first_fit fits x ys) refl earlier e (λ es. first_unused xs (without_fit fits x ys) (once_after x ys h) es later p)
      where
        rest : List (Placed A × Placed A)
        rest = pairs_of fits xs (without_fit fits x ys)

        go : (o : Option (Placed A)) → first_fit fits x ys ≡ o → (es : List (Placed A × Placed A))
            → pair_with fits x o ++ rest ≡ es ++ (p ∷ later)
            → ((ds : List (Placed A × Placed A)) → rest ≡ ds ++ (p ∷ later)
            → first_fit fits p.0 (unused_by ds (without_fit fits x ys)) ≡ some p.1)
            → first_fit fits p.0 (unused_by es ys) ≡ some p.1
        go none d es e ih = rw (without_none fits x ys d) at (ih es e)
        go (some b) d [] e ih =
            let same : (x, b) ≡ p = cc in
            rw (unused_first ys) (subst (λ (q : Placed A × Placed A). first_fit fits q.0 ys ≡ some q.1) same d)
        go (some b) d (q ∷ es) e ih =
            let same : (x, b) ≡ q = cc in
            let tail : rest ≡ es ++ (p ∷ later) = cc in
            let left : without_fit fits x ys ≡ unused_by (q ∷ []) ys =
            without_is x b ys h d ∙ ap (λ (r : Placed A × Placed A). unused_by (r ∷ []) ys) same in
            rw (unused_more q es ys) (rw left at (ih es tail))

    -- ---- no second twice

    -- the seconds' places are places of the second list
    seconds_among : (n : ℕ) (xs ys : List (Placed A)) → elem n (places_of ys) ≡ false
        → elem n (places_of (seconds (pairs_of fits xs ys))) ≡ false
    unfolding pairs_of
    seconds_among n [] ys e = absent_none n
    seconds_among n (x ∷ xs) ys e =
        go (first_fit fits x ys) refl
        (seconds_among n xs (without_fit fits x ys) (part_absent n (part_map (λ (y : Placed A). y.0) (without_part fits x ys)) e))
      where
        rest : List (Placed A × Placed A)
        rest = pairs_of fits xs (without_fit fits x ys)

        go : (o : Option (Placed A)) → first_fit fits x ys ≡ o → elem n (places_of (seconds rest)) ≡ false
            → elem n (places_of (seconds (pair_with fits x o ++ rest))) ≡ false
        go none d ih = ih
        go (some b) d ih =
            let other = part_absent n (part_map (λ (y : Placed A). y.0) (found_one fits x ys b d)) e in
            absent n b.0 (places_of (seconds rest)) (absent_head n b.0 [] other) ih

    pub seconds_once : (xs ys : List (Placed A)) → NoTwice (places_of ys) → NoTwice (places_of (seconds (pairs_of fits xs ys)))
    unfolding pairs_of
    seconds_once [] ys h = tt
    seconds_once (x ∷ xs) ys h = go (first_fit fits x ys) refl (seconds_once xs (without_fit fits x ys) (once_after x ys h))
      where
        rest : List (Placed A × Placed A)
        rest = pairs_of fits xs (without_fit fits x ys)

        go : (o : Option (Placed A)) → first_fit fits x ys ≡ o → NoTwice (places_of (seconds rest))
            → NoTwice (places_of (seconds (pair_with fits x o ++ rest)))
        go none d ih = ih
        go (some b) d ih =
            let gone : elem b.0 (places_of (without_fit fits x ys)) ≡ false = rw (without_is x b ys h d) (unused_gone (x, b) ys) in
            (seconds_among b.0 xs (without_fit fits x ys) gone, ih)

    -- ---- what is left on both sides

    pub left_over : (xs ys : List (Placed A)) → NoTwice (places_of ys) → (a b : Placed A) → OneOf a xs
        → elem a.0 (places_of (firsts (pairs_of fits xs ys))) ≡ false → OneOf b ys
        → elem b.0 (places_of (seconds (pairs_of fits xs ys))) ≡ false → fits a b ≡ false
    unfolding pairs_of
    left_over [] ys h a b i m j n = absurd (one_of_none i)
    left_over (x ∷ xs) ys h a b i m j n =
        go (first_fit fits x ys) refl (one_cases i) m n (left_over xs (without_fit fits x ys) (once_after x ys h) a b)
      where
        rest : List (Placed A × Placed A)
        rest = pairs_of fits xs (without_fit fits x ys)

        go : (o : Option (Placed A)) → first_fit fits x ys ≡ o → (a ≡ x) ⊎ OneOf a xs
            → elem a.0 (places_of (firsts (pair_with fits x o ++ rest))) ≡ false
            → elem b.0 (places_of (seconds (pair_with fits x o ++ rest))) ≡ false
            → (OneOf a xs → elem a.0 (places_of (firsts rest)) ≡ false → OneOf b (without_fit fits x ys)
            → elem b.0 (places_of (seconds rest)) ≡ false → fits a b ≡ false)
            → fits a b ≡ false
        go none d (inl s) m n ih = ap (λ (y : Placed A). fits y b) s ∙ none_fits fits x ys d b j
        go none d (inr i) m n ih = ih i m (rw (without_none fits x ys d) j) n
        go (some c) d (inl s) m n ih =
            absurd (eqb-false a.0 x.0 (absent_head a.0 x.0 (places_of (firsts rest)) m) (ap (λ (y : Placed A). y.0) s))
        go (some c) d (inr i) m n ih =
            let seen = absent_head b.0 c.0 (places_of (seconds rest)) n in
            let kept = unused_kept ((x, c) ∷ []) ys b j (absent b.0 c.0 [] seen (absent_none b.0)) in
            ih i (absent_rest a.0 x.0 (places_of (firsts rest)) m) (rw (without_is x c ys h d) kept)
            (absent_rest b.0 c.0 (places_of (seconds rest)) n)

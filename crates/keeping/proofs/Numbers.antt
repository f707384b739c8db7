-- The number of a call that keeps counts, ground by ground, and what it then leaves. The grounds before ground 9 come first, then those of the
-- plain call after them; each is tried in the order of the numbers. Assumes nothing.
use mathlib.Core.Path.{◌≡◌, refl, sym, ap, ◌∙◌}
use mathlib.Core.Bool.{Bool, true, false, cond}
use mathlib.Core.Logic.{◌⊎◌, inl, inr, ⊎_elim}
use mathlib.Core.Option.{Option, some}
use mathlib.Core.List.{List}
use Prim.Native.Nat.{ℕ, ◌≤◌, ◌<◌}
use native.Mathlib.Decide.{ℕ_discrete}
use native.Mathlib.Omega.{arith}
use lib.Dec.{eqb, ltb}
use borrow.Author.Tests.{ne_eqb, ltb-false}
use Rattle.bounds.specs.Grounds.{ground, sooner}
use Rattle.bounds.proofs.TriedFirst.{sooner_none, sooner_first, sooner_alone}
use Rattle.store.specs.World.{World}
use Rattle.store.specs.Calls.{Outcome, outcome}
use Rattle.counts.specs.Counts.{counts_broken}
use Rattle.keeping.specs.Keeping.{Counted, with_ground, is_lost, keeping}

-- ---- one ground more

-- a ground that holds, and no earlier one
with_first : (n m : ℕ) → (n ≡ 0 → ⊥) → (m ≡ 0) ⊎ (n < m) → with_ground n true m ≡ n
with_first n m f h = ⊎_elim (λ z. sooner_alone n m f z) (λ l. sooner_first n m f (λ z. omega arith) (omega arith)) h

-- one before it has given the number
pub with_later : (n m : ℕ) (t : Bool) → (m ≡ 0 → ⊥) → m ≤ n → with_ground n t m ≡ m
unfolding sooner
with_later n m true f h = go (eqb n 0) (ltb m n) refl
  where
    go : (a b : Bool) → ltb m n ≡ b → cond a m (cond (eqb m 0) n (cond b m n)) ≡ m
    go true b e = refl
    go false true e = rw (ne_eqb m 0 f)
    go false false e = let k : n ≡ m = omega (arith, ltb-false m n e) in rw (ne_eqb m 0 f) k
with_later n m false f h = refl

with_late : (n m : ℕ) (t : Bool) → 3 < n → (m ≡ 0) ⊎ (3 < m) → (with_ground n t m ≡ 0) ⊎ (3 < with_ground n t m)
unfolding sooner
with_late n m true h l = go (eqb n 0) (eqb m 0) (ltb m n)
  where
    go : (a b c : Bool) → (cond a m (cond b n (cond c m n)) ≡ 0) ⊎ (3 < cond a m (cond b n (cond c m n)))
    go true b c = l
    go false true c = inr h
    go false false true = l
    go false false false = inr h
with_late n m false h l = l

-- ---- g by the grounds before ground 9, l by the plain call's later ones, m by all of them

module _ (broken lost : Bool) (g l m : ℕ) (early : g < 9) (late : (l ≡ 0) ⊎ (3 < l)) (m_is : m ≡ cond (eqb g 0) l g) where
  pub none_before : with_ground 3 broken g ≡ 0 → (broken ≡ false) × (g ≡ 0)
  none_before e = go broken (sooner_none (ground 3 broken 0) g e)
    where
      go : (t : Bool) → (ground 3 t 0 ≡ 0) × (g ≡ 0) → (t ≡ false) × (g ≡ 0)
      go false z = (refl, z.1)
      go true z = absurd (omega (arith, z.0))

  pub early_number : (with_ground 3 broken g ≡ 0 → ⊥) → with_ground 3 broken g ≡ with_ground 3 broken (with_ground 10 lost m)
  unfolding sooner
  early_number f = go (ℕ_discrete g 0)
    where
      go : Dec (g ≡ 0) → with_ground 3 broken g ≡ with_ground 3 broken (with_ground 10 lost m)
      go (no h) =
          let e : m ≡ g = m_is ∙ rw (ne_eqb g 0 h) in
          ap (with_ground 3 broken) (sym (ap (with_ground 10 lost) e ∙ with_later 10 g lost h (omega arith)))
      go (yes z) = of broken f
        where
          of : (t : Bool) → (with_ground 3 t g ≡ 0 → ⊥) → with_ground 3 t g ≡ with_ground 3 t (with_ground 10 lost m)
          of false f = absurd (f z)
          of true f =
              let e : m ≡ l = m_is ∙ rw z in
              with_first 3 g (λ y. omega arith) (inl z)
              ∙ sym (ap (λ (k : ℕ). with_ground 3 true (with_ground 10 lost k)) e ∙ with_first 3 (with_ground 10 lost l) (λ y. omega arith) (with_late 10 l lost (omega arith) late))

  pub late_number : with_ground 3 broken g ≡ 0 → with_ground 10 lost l ≡ with_ground 3 broken (with_ground 10 lost m)
  unfolding sooner
  late_number e =
      let n = none_before e in
      let k : m ≡ l = m_is ∙ rw n.1 in
      rw n.0 (ap (with_ground 10 lost) (sym k))

-- ---- the outcome by its number

module _ (w : World) (counts : List ℕ) (plain : Outcome) (next : Option (List ℕ)) (n : ℕ)
    (number : n ≡ with_ground 3 (counts_broken counts) (with_ground 10 (is_lost next) plain.number)) where
  pub refuses : (n ≡ 0 → ⊥) → ◌≡◌ {A = Counted} (record { number = n; world = w; counts = counts }) (keeping w counts plain next)
  unfolding keeping
  refuses h = rw (← number, ne_eqb n 0 h)

  pub accepts : (w' : World) (counts' : List ℕ) → n ≡ 0 → w' ≡ plain.world → next ≡ some counts'
      → ◌≡◌ {A = Counted} (record { number = 0; world = w'; counts = counts' }) (keeping w counts plain next)
  unfolding keeping
  accepts w' counts' h e f = rw (← number, h, e, f)

-- counts that are kept leave the plain call's number and world
pub keeps_plain : (w after : World) (n : ℕ) (counts next : List ℕ) → counts_broken counts ≡ false
    → keeping w counts (outcome n w after) (some next)
    ≡ record { number = n; world = (outcome n w after).world; counts = cond (eqb n 0) next counts }
unfolding keeping sooner
keeps_plain w after n counts next e = rw e (go (eqb n 0))
  where
    go : (t : Bool)
        → ◌≡◌ {A = Counted} (record { number = n; world = cond t (cond t after w) w; counts = cond t next counts })
        (record { number = n; world = cond t after w; counts = cond t next counts })
    go true = refl
    go false = refl

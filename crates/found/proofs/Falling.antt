-- What is gathered from segment to segment, from a cursor on: serials fall, so more steps than the serial before change nothing. Said once,
-- for rows and for pages read. Assumes nothing.
use mathlib.Core.Path.{◌≡◌, refl, sym, ap, ◌∙◌}
use mathlib.Core.List.{List}
use Prim.Native.Nat.{ℕ, zero, suc, ◌+◌, ◌*◌, ◌<◌}
use native.Mathlib.Numerals.{add-one}
use native.Mathlib.Omega.{arith}
use lib.ListN.{length}
use Rattle.skiplist.specs.Skip.{Live}
use Rattle.visit.specs.declared.Closed.{Closed}
use Rattle.visit.specs.declared.Query.{Query}
use Rattle.visit.specs.Inner.Sound.{ClosedSound}
use Rattle.walk.specs.declared.Cursor.{Cursor}
use Rattle.walk.specs.declared.Step.{Step}
use Rattle.walk.specs.declared.Step.TheVariants.{End, Damage, Pass, Visit}
use Rattle.walk.specs.Advance.{advance_of}
use Rattle.walk.specs.Inner.Sound.{Sound}
use Rattle.walk.proofs.Steps.{CursorFacts, StepFacts, step_facts}

module _ (nand : List ℕ) (slots : ℕ) (live : Live) (q : Query) (size : length nand ≡ slots * 16384) where
  module _ (c : Cursor) (sound : Sound slots c) (d : Cursor) where
    pub pass_facts : advance_of nand slots live q c ≡ Pass d → CursorFacts slots c.before d
    pass_facts e = rw e at (step_facts nand slots live q c size sound)

    pub visit_facts : (s : Closed) → advance_of nand slots live q c ≡ Visit s d → ClosedSound nand s × CursorFacts slots c.before d
    visit_facts s e = rw e at (step_facts nand slots live q c size sound)

  -- at the end, at damage, with a segment passed over, with one that is searched
  module _ {A : Type 0} (end damage : A) (pass : Cursor → A → A) (visit : Cursor → Closed → A → A) where
    -- one step, where f gathers from the next cursor on
    abbrev pub after : (Cursor → A) → Cursor → Step → A
    after f c End = end
    after f c Damage = damage
    after f c (Pass d) = pass c (f d)
    after f c (Visit s d) = visit c s (f d)

    module _ (from : ℕ → Cursor → A)
        (step : (n : ℕ) (c : Cursor) (s : Step) → advance_of nand slots live q c ≡ s → from (suc n) c ≡ after (from n) c s) where
      enough : (n m : ℕ) (c : Cursor) → Sound slots c → c.before < n → c.before < m → from n c ≡ from m c
      enough zero m c sound a b = absurd (omega arith)
      enough (suc n) zero c sound a b = absurd (omega arith)
      enough (suc n) (suc m) c sound a b =
          go (advance_of nand slots live q c) refl (step_facts nand slots live q c size sound) (λ d. enough n m d)
        where
          go : (s : Step) → advance_of nand slots live q c ≡ s → StepFacts nand slots c.before s
              → ((d : Cursor) → Sound slots d → d.before < n → d.before < m → from n d ≡ from m d)
              → from (suc n) c ≡ from (suc m) c
          go End e f ih = step n c End e ∙ sym (step m c End e)
          go Damage e f ih = step n c Damage e ∙ sym (step m c Damage e)
          go (Pass d) e f ih =
              step n c (Pass d) e ∙ ap (pass c) (ih d f.sound (omega (arith, f.falls)) (omega (arith, f.falls)))
              ∙ sym (step m c (Pass d) e)
          go (Visit s d) e f ih =
              step n c (Visit s d) e ∙ ap (visit c s) (ih d f.1.sound (omega (arith, f.1.falls)) (omega (arith, f.1.falls)))
              ∙ sym (step m c (Visit s d) e)

      module _ (c : Cursor) (sound : Sound slots c) where
        pub from_any : (n : ℕ) → c.before < n → from n c ≡ from (c.before + 1) c
        from_any n h = enough n (c.before + 1) c sound h (omega arith)

        pub from_first : (s : Step) → advance_of nand slots live q c ≡ s → from (c.before + 1) c ≡ after (from c.before) c s
        from_first s e = ap (λ (n : ℕ). from n c) (add-one c.before) ∙ step c.before c s e

        pub from_pass : (d : Cursor) → advance_of nand slots live q c ≡ Pass d → from (c.before + 1) c ≡ pass c (from (d.before + 1) d)
        from_pass d e =
            let f = pass_facts c sound d e in
            from_first (Pass d) e ∙ ap (pass c) (enough c.before (d.before + 1) d f.sound f.falls (omega arith))

        pub from_visit : (d : Cursor) (s : Closed) → advance_of nand slots live q c ≡ Visit s d
            → from (c.before + 1) c ≡ visit c s (from (d.before + 1) d)
        from_visit d s e =
            let f = (visit_facts c sound d s e).1 in
            from_first (Visit s d) e ∙ ap (visit c s) (enough c.before (d.before + 1) d f.sound f.falls (omega arith))

-- A segment's lifts counted down, one after the other: the counts so far with the lifts that are left give what the first counts give with
-- all of them. Assumes nothing.
use mathlib.Core.Path.{◌≡◌, refl, sym, ap, ◌∙◌}
use mathlib.Core.Bool.{Bool, true, false, cond, not, ◌&&◌, false≢true}
use mathlib.Core.Option.{none, some}
use mathlib.Core.List.{List, ◌∷◌}
use Prim.Native.Nat.{ℕ, zero, suc, ◌+◌, ◌-◌, ◌*◌, ◌≤◌, ◌<◌}
use native.Mathlib.Omega.{arith}
use lib.Dec.{ltb}
use lib.ListN.{get_or, set}
use Rattle.codec.specs.Number.{number_at}
use Rattle.flash.specs.Chip.{page_of, pages_of}
use Rattle.lift.specs.Limits.{load_of, code_ok}
use Rattle.lift.specs.Record.{code_at}
use Rattle.plate.specs.Plate.{plate_of}
use Rattle.bloom.specs.Pages.{each}
use Rattle.form.specs.declared.Form.TheVariants.{New}
use Rattle.header.specs.Header.{header_good, header_in}
use Rattle.header.proofs.HeaderFacts.{header_facts}
use Rattle.counts.specs.Counts.{one_less, counted_down, codes_in, without_segment}

-- the lift at place p is next
each_next : (f : ℕ → ℕ) (p count : ℕ) → p < count → each f p (count - p) ≡ f p ∷ each f (p + 1) (count - (p + 1))
unfolding each
each_next f p count h =
    let e : count - p ≡ suc (count - (p + 1)) = omega arith in
    let s : suc p ≡ p + 1 = omega arith in
    ap (each f p) e ∙ ap (λ (q : ℕ). f p ∷ each f q (count - (p + 1))) s

module _ (f : ℕ → ℕ) (count p : ℕ) (counts : List ℕ) (code plate n : ℕ) (code_is : code ≡ f p) (plate_is : plate ≡ plate_of (load_of code))
    (n_is : n ≡ get_or counts plate 0) (next : p < count) where
  step : counted_down counts (each f p (count - p))
      ≡ cond (code_ok code && ltb 0 n) (counted_down (set counts plate (n - 1)) (each f (p + 1) (count - (p + 1)))) none
  unfolding counted_down one_less
  step =
      ap (counted_down counts) (each_next f p count next)
      ∙ rw (n_is, plate_is, code_is)

  pub down_stops : (ok : Bool) → ok ≡ code_ok code → not (ok && ltb 0 n) ≡ true → none ≡ counted_down counts (each f p (count - p))
  down_stops ok e t = sym (step ∙ rw (← e) (go (ok && ltb 0 n) t))
    where
      go : (b : Bool) → not b ≡ true → cond b (counted_down (set counts plate (n - 1)) (each f (p + 1) (count - (p + 1)))) none ≡ none
      go true q = cc
      go false q = refl

  pub down_goes_on : (ok : Bool) → ok ≡ code_ok code → not (ok && ltb 0 n) ≡ false
      → counted_down (set counts plate (n - 1)) (each f (p + 1) (count - (p + 1))) ≡ counted_down counts (each f p (count - p))
  down_goes_on ok e t = sym (step ∙ rw (← e) (go (ok && ltb 0 n) t))
    where
      go : (b : Bool) → not b ≡ false
          → cond b (counted_down (set counts plate (n - 1)) (each f (p + 1) (count - (p + 1)))) none
          ≡ counted_down (set counts plate (n - 1)) (each f (p + 1) (count - (p + 1)))
      go true q = refl
      go false q = cc

pub some_counted : (n : ℕ) (ok : Bool) → not (ok && ltb 0 n) ≡ false → 1 ≤ n
some_counted zero true e = absurd (false≢true (sym e))
some_counted zero false e = absurd (false≢true (sym e))
some_counted (suc n) ok e = omega arith

pub down_over : (f : ℕ → ℕ) (count p : ℕ) (counts : List ℕ) → count ≤ p → some counts ≡ counted_down counts (each f p (count - p))
unfolding each counted_down
down_over f count p counts h = let e : count - p ≡ 0 = omega arith in rw e

-- ---- the segment in a slot, by its header page h

pub few_lifts : (slots before : ℕ) (h : List ℕ) (good : Bool) → good ≡ header_good New h slots before → good ≡ true
    → (count : ℕ) → count ≡ number_at h 4 2 → count ≤ 320
unfolding header_in
few_lifts slots before h good e t count is =
    let f = header_facts New h slots before (sym e ∙ t) in
    omega (arith, f.counts.most)

module _ (nand : List ℕ) (slots slot before : ℕ) (counts h : List ℕ) (h_is : h ≡ page_of nand slot 31)
    (good : Bool) (good_is : good ≡ header_good New h slots before) where
  pub spoilt_header : good ≡ false → none ≡ without_segment New nand slots slot before counts
  unfolding without_segment header_in
  spoilt_header t = rw (← h_is, ← good_is, t)

  pub sound_header : good ≡ true → (lifts : List ℕ) → lifts ≡ pages_of nand slot 0 20 → (count : ℕ) → count ≡ number_at h 4 2
      → counted_down counts (each (λ p. code_at lifts (p * 32)) 0 count) ≡ without_segment New nand slots slot before counts
  unfolding without_segment header_in codes_in
  sound_header t lifts e count f = rw (e, f, ← h_is, ← good_is, t)

-- The header of a closing within its limits is read back without damage: each test of the header holds of what was written.
-- Assumes nothing.
use mathlib.Core.Path.{◌≡◌, refl, ◌∙◌}
use mathlib.Core.Logic.{⊎_elim}
use mathlib.Core.Bool.{true}
use mathlib.Core.List.{List, [], ◌∷◌, ◌++◌}
use Prim.Native.Nat.{ℕ, zero, suc, ◌-◌, ◌^◌, ◌≤◌, ◌<◌}
use native.Mathlib.Omega.{arith}
use lib.Dec.{eqb, ltb}
use lib.ListN.{length, get_or, take, replicate}
use borrow.Author.Tests.{lt-ltb, le-leb, eq-eqb, ltb-true, leb-true, eqb-true}
use Rattle.codec.proofs.Truth.{and_both, and_left, and_right, or_cases}
use Rattle.lift.specs.Limits.{time_ok, time_limit}
use Rattle.bloom.specs.Pages.{section_count, fragment_length}
use Rattle.form.specs.declared.Form.{Form}
use Rattle.form.specs.Forms.{serial_width}
use Rattle.skiplist.specs.declared.Pointer.{Pointer}
use Rattle.skiplist.specs.Skip.{none, node_of, level_of}
use Rattle.skiplist.proofs.Pointers.{PointerFits}
use Rattle.header.specs.declared.Closing.{Closing}
use Rattle.header.specs.Header.{header_page, counts_good, span_good, pointer_good, pointers_good, header_in}
use Rattle.header.proofs.HeaderRead.{NumbersFit, HeadsFit, header_of, header_read}

-- ---- both of two tests

-- ---- pointers

pub good_append : (slots : ℕ) (ps qs : List Pointer) → pointers_good slots ps ≡ true → pointers_good slots qs ≡ true
    → pointers_good slots (ps ++ qs) ≡ true
unfolding pointers_good
good_append slots [] qs e f = f
good_append slots (p ∷ ps) qs e f =
    and_both (pointer_good slots p) (pointers_good slots (ps ++ qs)) (and_left _ _ e)
    (good_append slots ps qs (and_right (pointer_good slots p) _ e) f)

good_take : (slots n : ℕ) (ps : List Pointer) → pointers_good slots ps ≡ true → pointers_good slots (take n ps) ≡ true
unfolding pointers_good
good_take slots zero ps e = refl
good_take slots (suc n) [] e = refl
good_take slots (suc n) (p ∷ ps) e =
    and_both (pointer_good slots p) (pointers_good slots (take n ps)) (and_left _ _ e)
    (good_take slots n ps (and_right (pointer_good slots p) _ e))

good_none : (slots n : ℕ) → pointers_good slots (replicate n none) ≡ true
unfolding pointers_good pointer_good
good_none slots zero = refl
good_none slots (suc n) = good_none slots n

-- a node of good heads is good
pub good_node : (slots : ℕ) (heads : List Pointer) (level : ℕ) → pointers_good slots heads ≡ true
    → pointers_good slots (node_of heads level) ≡ true
unfolding node_of
good_node slots heads level e =
    good_append slots (take level heads) (replicate (4 - level) none) (good_take slots level heads e) (good_none slots (4 - level))

-- a good pointer fits its bytes
pub good_fits : (f : Form) (slots : ℕ) (p : Pointer) → slots ≤ 4096 → pointer_good slots p ≡ true → p.serial < 256 ^ serial_width f
    → PointerFits f p
unfolding pointer_good
good_fits f slots p h e n = record {
  serial = n;
  slot =
      ⊎_elim
      (λ q. omega (arith, eqb-true p.slot 65535 q))
      (λ q. omega (arith, ltb-true p.slot slots q))
      (or_cases (eqb p.slot 65535) (ltb p.slot slots) (and_right (time_ok p.time) _ e));
  time = omega (arith, leb-true p.time time_limit (and_left _ _ e));
}

heads_fit : (f : Form) (slots : ℕ) (ps : List Pointer) (k : ℕ) → slots ≤ 4096 → pointers_good slots ps ≡ true → k < length ps
    → (get_or ps k none).serial < 256 ^ serial_width f → PointerFits f (get_or ps k none)
unfolding pointers_good
heads_fit f slots [] k h e l n = absurd (omega arith)
heads_fit f slots (p ∷ ps) zero h e l n = good_fits f slots p h (and_left _ _ e) n
heads_fit f slots (p ∷ ps) (suc k) h e l n = heads_fit f slots ps k h (and_right (pointer_good slots p) _ e) (omega arith) n

-- ---- counts and span

pub good_counts : (count buckets : ℕ) → 1 ≤ count → count ≤ 320 → 1 ≤ buckets → buckets ≤ 36
    → counts_good count buckets (section_count count) (fragment_length (section_count count)) ≡ true
unfolding counts_good
good_counts count buckets a b c d =
    let s = section_count count in
    rw (le-leb 1 count a, le-leb count 320 b, le-leb 1 buckets c, le-leb buckets 36 d, eq-eqb s s refl)
    (eq-eqb (fragment_length s) (fragment_length s) refl)

pub good_span : (start end low high : ℕ) → start ≤ end → end ≤ time_limit → 1 ≤ low → low ≤ high → high ≤ 150001
    → span_good start end low high ≡ true
unfolding span_good
good_span start end low high a b c d e =
    let f : start ≤ time_limit = omega arith in
    let g : low ≤ 150001 = omega arith in
    let h : 1 ≤ high = omega arith in
    rw (le-leb start time_limit f, le-leb end time_limit b, le-leb start end a)
    (rw (le-leb 1 low c, le-leb low 150001 g, le-leb 1 high h, le-leb high 150001 e) (le-leb low high d))

-- ---- the header

-- a closing within its limits, for S slots and below the serial before
pub record Sound (c : Closing) (slots before : ℕ) : Type 0 where
  pub slots_most_lem : slots ≤ 4096
  pub serial_below : c.serial < before
  pub serial_fits : c.serial < 2 ^ 32
  pub some : 1 ≤ c.count
  pub most : c.count ≤ 320
  pub buckets_some : 1 ≤ c.buckets
  pub buckets_most_lem : c.buckets ≤ 36
  pub start_end : c.start ≤ c.end
  pub end_limit : c.end ≤ time_limit
  pub low_limit : 1 ≤ c.low
  pub low_high : c.low ≤ c.high
  pub high_limit : c.high ≤ 150001
  pub heads_four : length c.heads ≡ 4
  pub heads_good : pointers_good slots c.heads ≡ true
  pub serials_fit : (k : ℕ) → k < 4 → (get_or c.heads k none).serial < 256 ^ serial_width c.form

module _ (c : Closing) (slots before : ℕ) (s : Sound c slots before) where
  pub sound_numbers : NumbersFit c
  sound_numbers = record {
    serial_fits = s.serial_fits;
    some = s.some;
    most = s.most;
    buckets_fit = omega (arith, s.buckets_most_lem);
    start_fits = omega (arith, s.start_end, s.end_limit);
    end_fits = omega (arith, s.end_limit);
    low_fits = omega (arith, s.low_high, s.high_limit);
    high_fits = omega (arith, s.high_limit);
  }

  pub sound_heads : HeadsFit c
  sound_heads = record {
    four = s.heads_four;
    fit = λ k h.
        heads_fit c.form slots c.heads k s.slots_most_lem s.heads_good (omega (arith, s.heads_four)) (s.serials_fit k h);
  }

  pub header_decoded : header_in c.form (header_page c) slots before ≡ header_of c true
  header_decoded = header_read c slots before sound_numbers sound_heads ∙ rw (
    good_counts c.count c.buckets s.some s.most s.buckets_some s.buckets_most_lem,
    good_span c.start c.end c.low c.high s.start_end s.end_limit s.low_limit s.low_high s.high_limit,
    good_node slots c.heads (level_of c.serial) s.heads_good,
    lt-ltb c.serial before s.serial_below,
  )

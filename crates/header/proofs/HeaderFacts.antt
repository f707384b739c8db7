-- What a header without damage says of its numbers and pointers, for any bytes: each test that it passed. Assumes nothing.
use mathlib.Core.Path.{◌≡◌, refl}
use mathlib.Core.Bool.{true, ◌&&◌}
use mathlib.Core.List.{List, [], ◌∷◌}
use Prim.Native.Nat.{ℕ, zero, suc, ◌≤◌, ◌<◌}
use lib.Dec.{leb}
use lib.ListN.{get_or}
use borrow.Author.Tests.{ltb-true, leb-true}
use Rattle.codec.specs.Number.{number_at}
use Rattle.codec.proofs.Truth.{and_left, and_right}
use Rattle.lift.specs.Limits.{time_ok}
use Rattle.form.specs.declared.Form.{Form}
use Rattle.skiplist.specs.declared.Pointer.{Pointer}
use Rattle.skiplist.specs.Skip.{none, in_slots}
use Rattle.skiplist.specs.PointerBytes.{pointers_at}
use Rattle.header.specs.declared.Header.{Header}
use Rattle.header.specs.Header.{counts_good, pointer_good, pointers_good, form_in, counts_in, span_in, header_good, header_in}

-- the facts of a count and a number of buckets that are good
pub record CountFacts (count buckets : ℕ) : Type 0 where
  pub some : 1 ≤ count
  pub most : count ≤ 320
  pub buckets_some : 1 ≤ buckets
  pub buckets_most_lem : buckets ≤ 36

counts_facts : (count buckets sections fragment : ℕ) → counts_good count buckets sections fragment ≡ true → CountFacts count buckets
unfolding counts_good
counts_facts count buckets sections fragment e =
    let a = and_left (leb 1 count && leb count 320) _ e in
    let b = and_left (leb 1 buckets && leb buckets 36) _ (and_right (leb 1 count && leb count 320) _ e) in
    record {
      some = leb-true 1 count (and_left _ _ a);
      most = leb-true count 320 (and_right (leb 1 count) _ a);
      buckets_some = leb-true 1 buckets (and_left _ _ b);
      buckets_most_lem = leb-true buckets 36 (and_right (leb 1 buckets) _ b);
    }

-- a header without damage, for S slots and below the serial before
pub record HeaderFacts (h : Header) (slots before : ℕ) : Type 0 where
  pub counts : CountFacts h.count h.buckets
  pub pointers : pointers_good slots h.next ≡ true
  pub serial_below : h.serial < before

pub header_facts : (f : Form) (h : List ℕ) (slots before : ℕ) → header_good f h slots before ≡ true
    → HeaderFacts (header_in f h slots before) slots before
unfolding header_good header_in
header_facts f h slots before d =
    let e = and_right (form_in f h) _ d in
    let a = and_right (counts_in h) _ e in
    let b = and_right (span_in h) _ a in
    record {
      counts = counts_facts _ _ _ _ (and_left (counts_in h) _ e);
      pointers = and_left _ _ b;
      serial_below = ltb-true (number_at h 0 4) before (and_right (pointers_good slots (pointers_at f h 40)) _ b);
    }

-- each of good pointers, and the none behind them, is in its slots
pub good_slots : (slots : ℕ) (ps : List Pointer) (k : ℕ) → pointers_good slots ps ≡ true → in_slots (get_or ps k none) slots ≡ true
unfolding pointers_good pointer_good
good_slots slots [] k e = refl
good_slots slots (p ∷ ps) zero e = and_right (time_ok p.time) _ (and_left (pointer_good slots p) _ e)
good_slots slots (p ∷ ps) (suc k) e = good_slots slots ps k (and_right (pointer_good slots p) _ e)

-- A lift written straight into the area gives the bytes of the state with the lift: its record lies inside the page buffer, and the
-- other fields are computed from those read. Assumes nothing.
use mathlib.Core.Path.{◌≡◌, refl, sym, ap, ◌∙◌}
use mathlib.Core.Logic.{⊎_elim}
use mathlib.Core.Bool.{Bool, true, false, cond}
use mathlib.Core.List.{List}
use Prim.Native.Nat.{ℕ, ◌+◌, ◌*◌, ◌/◌, ◌%◌, ◌≤◌, ◌<◌}
use native.Mathlib.Omega.{arith}
use lib.Dec.{eqb}
use lib.IntN.{ℤ}
use lib.ListN.{length, get_or}
use lib.Seq.{ext_get_or}
use Rattle.codec.specs.Area.{part, splice}
use Rattle.codec.specs.Number.{number_at}
use Rattle.codec.proofs.Areas.{length_part, get_d_part, length_repeated, length_splice, byte_before, byte_inside, byte_after, splice_bytes}
use Rattle.codec.proofs.Areas.{part_before, part_after, part_splice}
use Rattle.flash.specs.Chip.{erased_page, programmed}
use Rattle.lift.specs.Record.{record_bytes}
use Rattle.lift.proofs.Records.{length_record}
use Rattle.bloom.specs.Bloom.{noted, empty_section}
use Rattle.bloom.proofs.Section.{length_noted}
use Rattle.bounds.specs.Lifts.{pushed, low_with, high_with}
use Rattle.form.specs.declared.Form.TheVariants.{New}
use Rattle.skiplist.specs.PointerBytes.{pointers_bytes}
use Rattle.skiplist.proofs.Pointers.{pointers_kept}
use Rattle.store.specs.declared.State.{State}
use Rattle.store.specs.World.{state_given}
use Rattle.state_bytes.specs.declared.pieces.Counters.{Counters}
use Rattle.state_bytes.specs.declared.pieces.Span.{Span}
use Rattle.loads.specs.Signed.{load_at, loads_at}
use Rattle.state_bytes.specs.StateBytes.{state_bytes, state_as, state_in}
use Rattle.state_bytes.specs.Inner.Fields.{counters_of, span_of, fields_kept}
use Rattle.state_bytes.proofs.Writing.{kept_flat}
use Rattle.in_place.specs.Inner.WithLift.{with_lift, nand_after, nor_after}

-- a write inside a part
pub part_with : (s : List ℕ) (at n o : ℕ) (q : List ℕ) → at + n ≤ length s → o + length q ≤ n
    → part (splice s (at + o) q) at n ≡ splice (part s at n) o q
part_with s at n o q h k =
    let f : at + o + length q ≤ length s = omega arith in
    let p = length_part s at n h in
    let g : o + length q ≤ length (part s at n) = omega arith in
    let m = length_splice s (at + o) q f in
    let r = length_part (splice s (at + o) q) at n (omega arith) in
    let P : ℕ → ℕ → Type 0 = λ j b. (j < n → get_or (splice s (at + o) q) (at + j) 0 ≡ b) in
    ext_get_or 0 (part (splice s (at + o) q) at n) (splice (part s at n) o q) (r ∙ sym (length_splice (part s at n) o q g ∙ p)) (λ i l.
    get_d_part (splice s (at + o) q) at n i (omega arith)
    ∙ splice_bytes P (part s at n) o q g (λ j u v.
    let e : at + (o + j) ≡ at + o + j = omega arith in
    ap (λ (x : ℕ). get_or (splice s (at + o) q) x 0) e ∙ byte_inside s (at + o) q f j u)
    (λ j u v. ⊎_elim
    (λ x. byte_before s (at + o) q f (at + j) (omega arith) ∙ sym (get_d_part s at n j v))
    (λ x. byte_after s (at + o) q f (at + j) (omega arith) ∙ sym (get_d_part s at n j v)) u) i (omega arith))

same_kept : (heads : List ℕ) (c c' : Counters) (loads loads' : List ℤ) (page page' section section' : List ℕ) (s s' : Span) → c ≡ c'
    → loads ≡ loads' → page ≡ page' → section ≡ section' → s ≡ s'
    → fields_kept heads c loads page section s ≡ fields_kept heads c' loads' page' section' s'
same_kept heads c c' loads loads' page page' section section' s s' e1 e2 e3 e4 e5 = rw (e1, e2, e3, e4, e5)

module _ (b : List ℕ) (time : ℕ) (load : ℤ) (buckets : ℕ) (page section : List ℕ) where
  abbrev given : State
  given = state_given (state_in b) time load time buckets page section

  pub counters_made : (oldest current count : ℕ) → oldest ≡ number_at b 0 4 → current ≡ number_at b 4 4 → count ≡ number_at b 8 2
      → ◌≡◌ {A = Counters} (record {
        oldest = oldest;
        current = current;
        count = count + 1;
        buckets = buckets;
        next = time;
      }) (counters_of given)
  unfolding state_in state_as state_given
  counters_made oldest current count e1 e2 e3 = rw (← e1, ← e2, ← e3)

  pub span_made : (count start first : ℕ) (low high lowest highest : ℤ) → count ≡ number_at b 8 2 → start ≡ number_at b 767 8
      → low ≡ load_at b 775 → high ≡ load_at b 779 → first ≡ cond (eqb count 0) time start → lowest ≡ low_with count low load
      → highest ≡ high_with count high load
      → ◌≡◌ {A = Span} (record { start = first; low = lowest; high = highest }) (span_of given)
  unfolding state_in state_as state_given
  span_made count start first low high lowest highest e1 e2 e3 e4 e5 e6 e7 = rw (e5, e6, e7, ← e1, ← e2, ← e3, ← e4)

-- ---- what each write leaves of the heads and of the buffers

-- a write of n bytes at `at`, where a test asks for it, seen from a part that it does not touch and from its own
module _ (q : Bool) (s : List ℕ) (at : ℕ) (x : List ℕ) (fits : at + length x ≤ length s) where
  length_chosen : length (cond q (splice s at x) s) ≡ length s
  length_chosen = go q
    where
      go : (b : Bool) → length (cond b (splice s at x) s) ≡ length s
      go true = length_splice s at x fits
      go false = refl

  chosen_before : (to n : ℕ) → to + n ≤ at → part (cond q (splice s at x) s) to n ≡ part s to n
  chosen_before to n h = go q
    where
      go : (b : Bool) → part (cond b (splice s at x) s) to n ≡ part s to n
      go true = part_before s at x fits to n h
      go false = refl

  chosen_after : (to n : ℕ) → at + length x ≤ to → to + n ≤ length s → part (cond q (splice s at x) s) to n ≡ part s to n
  chosen_after to n h k = go q
    where
      go : (b : Bool) → part (cond b (splice s at x) s) to n ≡ part s to n
      go true = part_after s at x fits to n h k
      go false = refl

  chosen_there : (n : ℕ) → length x ≡ n → part (cond q (splice s at x) s) at n ≡ cond q x (part s at n)
  chosen_there n h = go q
    where
      go : (b : Bool) → part (cond b (splice s at x) s) at n ≡ cond b x (part s at n)
      go true = part_splice s at x fits n h
      go false = refl

module _ (b b1 b2 b3 b4 R : List ℕ) (o code : ℕ) (pages sections : Bool) (size : length b ≡ 783) (wide : length R ≡ 32) (low : o + 32 ≤ 512)
    (e1 : b1 ≡ splice b (127 + o) R) (e2 : b2 ≡ cond pages (splice b1 127 erased_page) b1)
    (e3 : b3 ≡ splice b2 639 (noted (part b2 639 128) code)) (e4 : b4 ≡ cond sections (splice b3 639 empty_section) b3) where
  blank : length erased_page ≡ 512
  blank = length_repeated 512 255

  empty : length empty_section ≡ 128
  unfolding empty_section
  empty = length_repeated 128 0

  size1 : length b1 ≡ 783
  size1 = ap length e1 ∙ length_splice b (127 + o) R (omega arith) ∙ size

  fits2 : 127 + length erased_page ≤ length b1
  fits2 = omega (arith, size1, blank)

  size2 : length b2 ≡ 783
  size2 = ap length e2 ∙ length_chosen pages b1 127 erased_page fits2 ∙ size1

  section_size : length (noted (part b2 639 128) code) ≡ 128
  section_size = length_noted (part b2 639 128) code ∙ length_part b2 639 128 (omega (arith, size2))

  fits3 : 639 + length (noted (part b2 639 128) code) ≤ length b2
  fits3 = omega (arith, size2, section_size)

  pub size3 : length b3 ≡ 783
  size3 = ap length e3 ∙ length_splice b2 639 _ fits3 ∙ size2

  fits4 : 639 + length empty_section ≤ length b3
  fits4 = omega (arith, size3, empty)

  pub size4 : length b4 ≡ 783
  size4 = ap length e4 ∙ length_chosen sections b3 639 empty_section fits4 ∙ size3

  -- the page with the record, the section with the bits
  pub page_recorded : part b1 127 512 ≡ splice (part b 127 512) o R
  page_recorded = ap (λ (u : List ℕ). part u 127 512) e1 ∙ part_with b 127 512 o R (omega arith) (omega arith)

  section_kept : part b2 639 128 ≡ part b 639 128
  section_kept =
      ap (λ (u : List ℕ). part u 639 128) e2 ∙ chosen_after pages b1 127 erased_page fits2 639 128 (omega (arith, blank)) (omega (arith, size1))
      ∙ ap (λ (u : List ℕ). part u 639 128) e1 ∙ part_after b (127 + o) R (omega arith) 639 128 (omega arith) (omega arith)

  pub section_noted : part b3 639 128 ≡ noted (part b 639 128) code
  section_noted =
      ap (λ (u : List ℕ). part u 639 128) e3 ∙ part_splice b2 639 _ fits3 128 section_size ∙ ap (λ (u : List ℕ). noted u code) section_kept

  pub heads_stay : part b4 19 56 ≡ part b 19 56
  heads_stay =
      ap (λ (u : List ℕ). part u 19 56) e4 ∙ chosen_before sections b3 639 empty_section fits4 19 56 (omega arith)
      ∙ ap (λ (u : List ℕ). part u 19 56) e3 ∙ part_before b2 639 _ fits3 19 56 (omega arith)
      ∙ ap (λ (u : List ℕ). part u 19 56) e2 ∙ chosen_before pages b1 127 erased_page fits2 19 56 (omega arith)
      ∙ ap (λ (u : List ℕ). part u 19 56) e1 ∙ part_before b (127 + o) R (omega arith) 19 56 (omega arith)

  pub page_left : part b4 127 512 ≡ cond pages erased_page (splice (part b 127 512) o R)
  page_left =
      ap (λ (u : List ℕ). part u 127 512) e4 ∙ chosen_before sections b3 639 empty_section fits4 127 512 (omega arith)
      ∙ ap (λ (u : List ℕ). part u 127 512) e3 ∙ part_before b2 639 _ fits3 127 512 (omega arith)
      ∙ ap (λ (u : List ℕ). part u 127 512) e2 ∙ chosen_there pages b1 127 erased_page fits2 512 blank
      ∙ ap (cond pages erased_page) page_recorded

  pub section_left : part b4 639 128 ≡ cond sections empty_section (noted (part b 639 128) code)
  section_left =
      ap (λ (u : List ℕ). part u 639 128) e4 ∙ chosen_there sections b3 639 empty_section fits4 128 empty
      ∙ ap (cond sections empty_section) section_noted

-- ---- the lift

module _ (b b1 b2 b3 b4 : List ℕ) (time code : ℕ) (load : ℤ) (note : List ℕ) (buckets n : ℕ) (size : length b ≡ 783)
    (note_size : length note ≡ 20) (n_is : n ≡ number_at b 8 2) (e1 : b1 ≡ splice b (127 + n % 16 * 32) (record_bytes time code note))
    (e2 : b2 ≡ cond (eqb (n % 16) 15) (splice b1 127 erased_page) b1) (e3 : b3 ≡ splice b2 639 (noted (part b2 639 128) code))
    (e4 : b4 ≡ cond (eqb (n % 64) 63) (splice b3 639 empty_section) b3) where
  abbrev R : List ℕ
  R = record_bytes time code note

  record_size : length R ≡ 32
  record_size = length_record time code note note_size

  pub nand_made : (nand nand' : List ℕ) (slot : ℕ)
      → nand' ≡ cond (eqb (n % 16) 15) (programmed nand slot (n / 16) (part b1 127 512)) nand
      → nand' ≡ nand_after nand slot (state_in b) time code note
  unfolding nand_after state_in state_as
  nand_made nand nand' slot e =
      let p = page_recorded b b1 b2 b3 b4 R (n % 16 * 32) code (eqb (n % 16) 15) (eqb (n % 64) 63) size record_size (omega arith) e1 e2 e3 e4 in
      rw (← n_is) (rw p at e)

  pub nor_made : (nor nor' : List ℕ) → nor' ≡ cond (eqb (n % 64) 63) (splice nor (4608 + n / 64 * 128) (part b3 639 128)) nor
      → nor' ≡ nor_after nor (state_in b) code
  unfolding nor_after state_in state_as
  nor_made nor nor' e =
      let p = section_noted b b1 b2 b3 b4 R (n % 16 * 32) code (eqb (n % 16) 15) (eqb (n % 64) 63) size record_size (omega arith) e1 e2 e3 e4 in
      rw (← n_is) (rw p at e)

  pub lift_made : ((i : ℕ) → get_or b i 0 < 256) → (b5 : List ℕ) (c : Counters) (loads : List ℤ) (span : Span)
      → loads ≡ pushed (loads_at b 75 13) n load
      → ((page s : List ℕ) → c ≡ counters_of (state_given (state_in b) time load time buckets page s))
      → ((page s : List ℕ) → span ≡ span_of (state_given (state_in b) time load time buckets page s))
      → b5 ≡ fields_kept (part b4 19 56) c loads (part b4 127 512) (part b4 639 128) span
      → b5 ≡ state_bytes (with_lift (state_in b) time code load note buckets)
  unfolding state_in state_as state_given with_lift
  lift_made small b5 c loads span el ec es e5 =
      let t : State = with_lift (state_in b) time code load note buckets in
      let h : part b4 19 56 ≡ pointers_bytes New t.heads =
      heads_stay b b1 b2 b3 b4 R (n % 16 * 32) code (eqb (n % 16) 15) (eqb (n % 64) 63) size record_size (omega arith) e1 e2 e3 e4
      ∙ sym (pointers_kept New b small 19 (omega arith)) in
      let p : part b4 127 512 ≡ t.page =
      page_left b b1 b2 b3 b4 R (n % 16 * 32) code (eqb (n % 16) 15) (eqb (n % 64) 63) size record_size (omega arith) e1 e2 e3 e4
      ∙ ap (λ (m : ℕ). cond (eqb (m % 16) 15) erased_page (splice (part b 127 512) (m % 16 * 32) R)) n_is in
      let s : part b4 639 128 ≡ t.bloom =
      section_left b b1 b2 b3 b4 R (n % 16 * 32) code (eqb (n % 16) 15) (eqb (n % 64) 63) size record_size (omega arith) e1 e2 e3 e4
      ∙ ap (λ (m : ℕ). cond (eqb (m % 64) 63) empty_section (noted (part b 639 128) code)) n_is in
      let l : loads ≡ t.loads = el ∙ ap (λ (m : ℕ). pushed (loads_at b 75 13) m load) n_is in
      e5 ∙ same_kept (part b4 19 56) c (counters_of t) loads t.loads (part b4 127 512) t.page (part b4 639 128) t.bloom span (span_of t)
      (ec t.page t.bloom) l p s (es t.page t.bloom) ∙ kept_flat (part b4 19 56) t h

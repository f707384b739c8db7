-- Level 1 from a segment on gives the rows of all wanted lifts up to it, older ones first: each pointer leads to the segment
-- before, and where the last one to be done has been done all older lifts are earlier than t1. So it goes through retained segments alone. By
-- induction on the steps. Assumes nothing.
use mathlib.Core.Path.{◌≡◌, refl, sym, ap, ◌∙◌}
use mathlib.Core.Bool.{Bool, true, false, cond, not, ◌||◌}
use mathlib.Core.Option.{Option, none, some}
use mathlib.Core.List.{List, [], ◌∷◌, ◌++◌, map, append-nil}
use Prim.Native.Nat.{ℕ, zero, suc, ◌+◌, ◌-◌, ◌*◌, ◌≤◌, ◌<◌}
use native.Mathlib.Omega.{arith}
use lib.IntN.{ℤ}
use lib.ListN.{length, length-append}
use borrow.Author.Tests.{leb-true, ltb-true, lt-ltb, le-ltb, eq-eqb}
use Rattle.codec.proofs.Truth.{or_second}
use Rattle.form.specs.declared.Form.{Form}
use Rattle.form.specs.declared.Form.TheVariants.{Old, New}
use Rattle.form.specs.Forms as Forms
use Rattle.flash.specs.Chip.{slot_of, page_of, pages_of}
use Rattle.lift.specs.Limits.{load_ok}
use Rattle.bloom.specs.Pages.{section_count, segment_sections, bloom_page}
use Rattle.skiplist.specs.declared.Pointer.{Pointer}
use Rattle.skiplist.specs.Skip as Skip
use Rattle.header.specs.declared.Header.{Header}
use Rattle.header.proofs.HeaderRead.{header_of}
use Rattle.segment.proofs.ReadBack.{pages_first}
use Rattle.visit.specs.declared.Query.{Query}
use Rattle.visit.specs.declared.Closed.{Closed}
use Rattle.visit.specs.Visit.{closed_rows, tree_read}
use Rattle.walk.specs.declared.Cursor.{Cursor}
use Rattle.walk.specs.declared.Step.{Step}
use Rattle.walk.specs.declared.Step.TheVariants.{End, Damage, Pass, Visit}
use Rattle.walk.specs.Seek.{is_last}
use Rattle.walk.specs.Advance.{is_passed, cursor_after, closed_of, advance_of}
use Rattle.found.specs.Found.{join_rows, rows_from}
use Rattle.found.specs.Pages.{Read, bloom_at, read_from}
use Rattle.questions.specs.Queries.{query_of}
use Rattle.paper_log.specs.Log.{Lift, row_of, codes, among, joined}
use Rattle.refinement.specs.Inner.Segments as S
use Rattle.refinement.specs.Inner.Image.{History, oldest_heads, nand_image, live_of}
use Rattle.refinement.proofs.Good.{Good}
use Rattle.refinement.proofs.Lengths.{length_lift_area, length_codes}
use Rattle.refinement.proofs.PageLengths.{length_nand, length_area, length_page_image, page_of_nand}
use Rattle.flash.proofs.Slots.{slot_below}
use Rattle.refinement.proofs.InBounds.{start_below}
use Rattle.refinement.proofs.PageFrom.{heads_at}
use Rattle.refinement.proofs.Retained.{facts, built, retained_page, retained_header}
use Rattle.refinement.proofs.Wanted.{map_append, joined_append, among_append, early_all}
use Rattle.refinement.proofs.Records.{pages_are}
use Rattle.refinement.proofs.OneSegment.{closed_rows_lem}
use Rattle.refinement.proofs.PassedOver.{passed_none}
use Rattle.refinement.proofs.Pointers.{pointer_to, among_first, Leads, dead, to, level_least, last_held, none_held, leads_node, live_retained}

-- where a search may stop, all that is earlier is before its window
pub last_before : (v : Form) (start t1 : ℕ) → is_last v start t1 ≡ true → start < t1 + Forms.step v
last_before Old start t1 e = omega (arith, leb-true start t1 e)
last_before New start t1 e = omega (arith, ltb-true start t1 e)

-- ---- a retained closed segment, as a search reads it

module _ (h : History) (g : Good h) (before : List (List Lift)) (ls : List Lift) (after : List (List Lift))
    (is : h.log.closed ≡ before ++ (ls ∷ after)) where
  abbrev serial : ℕ
  serial = h.log.oldest + length before

  abbrev slot : ℕ
  slot = slot_of serial h.log.slots

  abbrev heads : List Pointer
  heads = heads_at h.log.form h.log.slots h.log.oldest before (oldest_heads h)

  abbrev header : Header
  header = header_of (S.closing_of h.log.form serial ls heads) true

  there : slot < h.log.slots
  there = slot_below h.log.slots serial (omega (arith, g.least))

  room : slot * 16384 + 16384 ≤ length (nand_image h)
  room = omega (arith, length_nand h g, there)

  lift_pages : pages_of (nand_image h) slot 0 20 ≡ S.lift_area ls
  unfolding S.closed_page
  lift_pages =
      let b = built h g before ls after is in
      pages_are (nand_image h) (S.lift_area ls) slot 0 20 room (omega arith) (length_lift_area ls b.lifts b.few) (λ i l.
      let z : 0 + i ≡ i = omega arith in
      rw z (retained_page h g before ls after is i (omega arith) ∙ rw (lt-ltb i 20 l)))

  tree_pages_lem : pages_of (nand_image h) slot 20 9 ≡ S.tree_area ls
  unfolding S.closed_page
  tree_pages_lem =
      pages_are (nand_image h) (S.tree_area ls) slot 20 9 room (omega arith) (length_area ls) (λ i l.
      let z : 20 + i - 20 ≡ i = omega arith in
      retained_page h g before ls after is (20 + i) (omega arith)
      ∙ rw (le-ltb (20 + i) 20 (omega arith), lt-ltb (20 + i) 29 (omega arith), z))

  bloom_pages_lem : pages_of (nand_image h) slot 29 2 ≡ bloom_page (segment_sections (codes ls)) 0 ++ page_of (nand_image h) slot 30
  unfolding S.closed_page
  bloom_pages_lem =
      pages_first (nand_image h) slot 29 1
      ∙ ap (λ (t : List ℕ). t ++ page_of (nand_image h) slot 30) (retained_page h g before ls after is 29 (omega arith))

  second_page : 5 ≤ section_count (length (codes ls)) → page_of (nand_image h) slot 30 ≡ bloom_page (segment_sections (codes ls)) 1
  unfolding S.closed_page
  second_page l =
      let c = length_codes ls in
      retained_page h g before ls after is 30 (omega arith) ∙ rw (eq-eqb (section_count (length ls)) 5 (omega (arith, (built h g before ls after is).few)))

  module _ (t1 t2 : ℕ) (k1 k2 : ℤ) (ok1 : load_ok k1 ≡ true) (ok2 : load_ok k2 ≡ true) where
    visited : closed_rows (nand_image h) (closed_of slot header) (query_of t1 t2 k1 k2) ≡ some (map row_of (among t1 t2 k1 k2 ls))
    unfolding S.closing_of
    visited =
        closed_rows_lem t1 t2 k1 k2 ok1 ok2 ls (built h g before ls after is) (nand_image h)
        (closed_of slot header) lift_pages tree_pages_lem refl refl

    passed : is_passed (nand_image h) slot header (query_of t1 t2 k1 k2) ≡ true → among t1 t2 k1 k2 ls ≡ []
    unfolding S.closing_of
    passed =
        passed_none t1 t2 k1 k2 ok1 ok2 ls (built h g before ls after is) (nand_image h) slot header refl refl refl
        (page_of (nand_image h) slot 30)
        (omega (arith, ap length (page_of_nand h g slot 30 there (omega arith)), length_page_image h g slot 30))
        second_page bloom_pages_lem

-- ---- from segment to segment

-- behind the segments b, where a pointer of level 1 leads: nowhere, or to the last of them
data Next (h : History) (b rest : List (List Lift)) (p : Pointer) : Type 0 where
  nothing : Skip.is_live p (live_of h.log) ≡ false → b ≡ [] → Next h b rest p
  one : (before : List (List Lift)) (ls : List Lift) → b ≡ before ++ (ls ∷ []) → h.log.closed ≡ before ++ (ls ∷ rest)
      → length b ≡ length before + 1 → p ≡ pointer_to h before ls → Next h b rest p

next_of : (h : History) (b rest : List (List Lift)) (p : Pointer) → h.log.closed ≡ b ++ rest → Leads h b 0 p → Next h b rest p
next_of h b rest p is (dead d z) = nothing d (none_held h b z)
next_of h b rest p is (to before ls after eq a z q) =
    let none = last_held h before ls after (rw eq at z) in
    let whole : b ≡ before ++ (ls ∷ []) = eq ∙ ap (λ (x : List (List Lift)). before ++ (ls ∷ x)) none in
    one before ls whole (among_first before ls [] rest is whole) (omega (arith, ap length whole, length-append before (ls ∷ []))) q

module _ (h : History) (g : Good h) (t1 t2 : ℕ) (k1 k2 : ℤ) (ok1 : load_ok k1 ≡ true) (ok2 : load_ok k2 ≡ true) where
  abbrev q : Query
  q = query_of t1 t2 k1 k2

  abbrev wanted_in : List (List Lift) → List Lift
  wanted_in b = among t1 t2 k1 k2 (joined b)

  abbrev run : ℕ → Cursor → Option (List (List ℕ))
  run n c = rows_from n (nand_image h) h.log.slots (live_of h.log) q c

  abbrev advanced : Cursor → Step
  advanced c = advance_of (nand_image h) h.log.slots (live_of h.log) q c

  -- what n steps find from a cursor behind the segments b
  abbrev pub Finds : ℕ → Type 0
  Finds n = (b rest : List (List Lift)) → h.log.closed ≡ b ++ rest → length b < n
      → (c : Cursor) → c.before ≡ h.log.oldest + length b → Leads h b 0 c.next → (c.last ≡ true → wanted_in b ≡ [])
      → run n c ≡ some (map row_of (wanted_in b))

  -- what comes of a step, with n to go
  abbrev took : ℕ → Step → Option (List (List ℕ))
  took n s =
      elim s [
        | End ↦ some []
        | Damage ↦ none
        | Pass d ↦ run n d
        | Visit s d ↦ join_rows (run n d) (closed_rows (nand_image h) s q)
      ]

  first_of : (n : ℕ) (c : Cursor) → run (suc n) c ≡ took n (advanced c)
  unfolding rows_from
  first_of n c = refl

  ends : (c : Cursor) → (c.last || not (Skip.is_live c.next (live_of h.log))) ≡ true → advanced c ≡ End
  unfolding advance_of
  ends c e = rw e

  -- a retained segment, and those before it
  module _ (before : List (List Lift)) (ls : List Lift) (after : List (List Lift))
      (is : h.log.closed ≡ before ++ (ls ∷ after)) where
    abbrev at : ℕ
    at = slot h g before ls after is

    abbrev head : Header
    head = header h g before ls after is

    goes : (c : Cursor) → c.last ≡ false → c.next ≡ pointer_to h before ls → h.log.oldest + length before < c.before
        → advanced c
        ≡ cond (is_passed (nand_image h) at head q) (Pass (cursor_after h.log.form head q)) (Visit (closed_of at head) (cursor_after h.log.form head q))
    unfolding advance_of
    goes c e p l = rw (e, p, live_retained h g before ls after is, retained_header h g before ls after is c.before l)

    parted : (b : List (List Lift)) → b ≡ before ++ (ls ∷ []) → wanted_in b ≡ wanted_in before ++ among t1 t2 k1 k2 ls
    unfolding joined
    parted b e =
        ap wanted_in e ∙ ap (among t1 t2 k1 k2) (joined_append before (ls ∷ []))
        ∙ among_append t1 t2 k1 k2 (joined before) (ls ++ [])
        ∙ ap (λ (x : List Lift). wanted_in before ++ among t1 t2 k1 k2 x) (append-nil ls)

    onward : (n : ℕ) → Finds n → length before < n → run n (cursor_after h.log.form head q) ≡ some (map row_of (wanted_in before))
    unfolding S.closing_of
    onward n f l =
        let a = facts h g before ls after is in
        f before (ls ∷ after) is l (cursor_after h.log.form head q) refl
        (leads_node h g before (h.log.oldest + length before) 0 (level_least (h.log.oldest + length before)))
        (λ e. early_all t1 t2 k1 k2 a.earlier
        (omega (arith, start_below ls a.own a.some_lift, last_before h.log.form (S.start_time ls) t1 e)))

    taken : (n : ℕ) → Finds n → length before < n → (c : Cursor) → c.last ≡ false → c.next ≡ pointer_to h before ls
        → h.log.oldest + length before < c.before
        → took n (advanced c) ≡ some (map row_of (wanted_in before ++ among t1 t2 k1 k2 ls))
    taken n f l c e p s = rw (goes c e p s) (go (is_passed (nand_image h) at head q) refl)
      where
        go : (t : Bool) → is_passed (nand_image h) at head q ≡ t
            → took n (cond t (Pass (cursor_after h.log.form head q)) (Visit (closed_of at head) (cursor_after h.log.form head q)))
            ≡ some (map row_of (wanted_in before ++ among t1 t2 k1 k2 ls))
        go true i = rw (onward n f l, passed h g before ls after is t1 t2 k1 k2 ok1 ok2 i, append-nil (wanted_in before))
        go false i =
            rw (onward n f l, visited h g before ls after is t1 t2 k1 k2 ok1 ok2)
            (ap some (sym (map_append row_of (wanted_in before) (among t1 t2 k1 k2 ls))))

  step : (n : ℕ) → Finds n → Finds (suc n)
  unfolding among joined
  step n f b rest is l c eb lead last = first_of n c ∙ go c.last refl (next_of h b rest c.next is lead)
    where
      go : (t : Bool) → c.last ≡ t → Next h b rest c.next → took n (advanced c) ≡ some (map row_of (wanted_in b))
      go true e x = rw (ends c (rw e), last e)
      go false e (nothing d z) = rw (ends c (or_second c.last _ (rw d)), z)
      go false e (one before ls whole there m p) =
          taken before ls rest there n f (omega arith) c e p (omega arith)
          ∙ ap (λ (x : List Lift). some (map row_of x)) (sym (parted before ls rest there b whole))

  pub level_one : (n : ℕ) → Finds n
  level_one zero = λ b rest is l. absurd (omega arith)
  level_one (suc n) = step n (level_one n)

  -- ---- through no more segments than these

  abbrev reads : ℕ → Cursor → List Read
  reads n c = read_from n (nand_image h) h.log.slots (live_of h.log) q c

  abbrev pages : Cursor → ℕ → Read
  pages c tree = record { bloom = bloom_at (nand_image h) h.log.slots (live_of h.log) q c; tree = tree }

  abbrev read_of : ℕ → Cursor → Step → List Read
  read_of n c s =
      elim s [
        | End ↦ []
        | Damage ↦ []
        | Pass d ↦ pages c 0 ∷ reads n d
        | Visit s d ↦ pages c (tree_read (nand_image h) s q) ∷ reads n d
      ]

  read_first : (n : ℕ) (c : Cursor) → reads (suc n) c ≡ read_of n c (advanced c)
  unfolding read_from
  read_first n c = refl

  abbrev Few : ℕ → Type 0
  Few n = (b rest : List (List Lift)) → h.log.closed ≡ b ++ rest → (c : Cursor) → c.before ≡ h.log.oldest + length b
      → Leads h b 0 c.next → length (reads n c) ≤ length b

  few_step : (n : ℕ) → Few n → Few (suc n)
  unfolding S.closing_of
  few_step n f b rest is c eb lead = rw (read_first n c) (go c.last refl (next_of h b rest c.next is lead))
    where
      one_more : (k : ℕ) (s : Closed) (d : Cursor) (t : Bool) → length (reads n d) ≤ k → length b ≡ k + 1
          → length (read_of n c (cond t (Pass d) (Visit s d))) ≤ length b
      one_more k s d true l m = omega arith
      one_more k s d false l m = omega arith

      go : (t : Bool) → c.last ≡ t → Next h b rest c.next → length (read_of n c (advanced c)) ≤ length b
      go true e x = rw (ends c (rw e)) (omega arith)
      go false e (nothing d z) = rw (ends c (or_second c.last _ (rw d))) (omega arith)
      go false e (one before ls whole there m p) =
          let d = cursor_after h.log.form (head before ls rest there) q in
          let behind = f before (ls ∷ rest) there d refl (leads_node h g before (h.log.oldest + length before) 0 (level_least (h.log.oldest + length before))) in
          rw (goes before ls rest there c e p (omega arith))
          (one_more (length before) (closed_of (at before ls rest there) (head before ls rest there)) d
          (is_passed (nand_image h) (at before ls rest there) (head before ls rest there) q) behind m)

  pub level_one_few : (n : ℕ) (b rest : List (List Lift)) → h.log.closed ≡ b ++ rest → (c : Cursor) → c.before ≡ h.log.oldest + length b
      → Leads h b 0 c.next → length (read_from n (nand_image h) h.log.slots (live_of h.log) (query_of t1 t2 k1 k2) c) ≤ length b
  unfolding read_from
  level_one_few zero b rest is c eb lead = omega arith
  level_one_few (suc n) b rest is c eb lead = few_step n (level_one_few n) b rest is c eb lead

-- Ground 14 on a history's world of form 1: it leaves exactly the stores that can go back, by their lifts and pointers, and these are
-- the worlds of histories of form 0. Assumes nothing.
use mathlib.Core.Path.{◌≡◌, refl, sym, ap, subst, ◌∙◌}
use mathlib.Core.Bool.{Bool, true, false, cond, not, ◌||◌}
use mathlib.Core.List.{List, [], ◌∷◌, ◌++◌}
use Prim.Native.Nat.{ℕ, suc, ◌+◌, ◌-◌, ◌<◌}
use native.Mathlib.Omega.{arith}
use lib.Dec.{eqb}
use lib.ListN.{length, get_or, take, drop, length-append}
use lib.Seq.{length-take-le, split_at}
use borrow.Author.Tests.{eqb-true, not-false}
use Rattle.codec.proofs.Truth.{and_parts, or_left, or_right}
use Rattle.flash.specs.Chip.{slot_of, page_of}
use Rattle.form.specs.declared.Form.{Form}
use Rattle.form.specs.declared.Form.TheVariants.{Old, New}
use Rattle.form.specs.Forms.{step}
use Rattle.skiplist.specs.declared.Pointer.{Pointer}
use Rattle.skiplist.specs.Skip.{none, is_none, is_live, serials_from, level_of, node_of, no_heads}
use Rattle.skiplist.specs.PointerBytes.{pointers_at}
use Rattle.skiplist.proofs.Nodes.{length_node}
use Rattle.header.proofs.HeaderBytes.{level_most}
use Rattle.paper_log.specs.Log.{Lift, open_serial, retained}
use Rattle.refinement.specs.Inner.Segments as S
use Rattle.refinement.specs.Inner.Image.{History, oldest_heads, open_heads, nand_image, first_start, state_image, image}
use Rattle.refinement.proofs.Good.{Times, Segments, Good}
use Rattle.refinement.proofs.Dead.{none_dead}
use Rattle.refinement.proofs.InBounds.{is_new}
use Rattle.refinement.proofs.PageFrom.{heads_at}
use Rattle.refinement.proofs.PageLengths.{four_heads, four_oldest}
use Rattle.retained.specs.Retained.{any_from, any_late, is_late, rises}
use Rattle.conversion.specs.Outcome.{cannot_go_back}
use Rattle.retained.proofs.Seeking.{none_has}
use Rattle.round_trips.specs.GoingBack.{times_of, oldest_live, PointerIn, head, in_header, CanGoBack}
use Rattle.round_trips.proofs.Rising.{strict_times, strict_rises}
use Rattle.round_trips.proofs.Histories.{into, Strict}
use Rattle.round_trips.proofs.FirstTime.{first_retained, first_is}
use Rattle.round_trips.proofs.RetainedTimes.{times_are}
use Rattle.round_trips.proofs.Tests.{has_none, none_late, late_not, earlier_if, not_late}
use Rattle.round_trips.proofs.Closed.{header_of}
use Rattle.round_trips.proofs.Ground14.{is_live_from, AllFine, dead_in_old, fine_if_dead}

module _ (h : History) (g : Good h) (e : h.log.form ≡ New) where
  abbrev slots : ℕ
  slots = h.log.slots

  abbrev oldest : ℕ
  oldest = h.log.oldest

  -- the oldest live time after it
  abbrev first : ℕ
  first = first_start h.log.closed h.log.current (into Old h).log.next

  abbrev header : ℕ → List ℕ
  header n = page_of (nand_image h) (slot_of n slots) 31

  -- what ground 14 looks at, test by test
  record Passed : Type 0 where
    rising : rises (times_of (retained h.log)) ≡ true
    heads : any_late oldest first (open_heads h) ≡ false
    headers : (i : ℕ) → i < length h.log.closed → any_late oldest first (pointers_at New (header (oldest + i)) 40) ≡ false

  count : open_serial h.log - oldest ≡ length h.log.closed
  count = omega arith

  tests_are : cannot_go_back (image h) slots
      ≡ (not (rises (times_of (retained h.log))) || (any_late oldest first (open_heads h)
      || any_from (λ n. any_late oldest first (pointers_at New (header n) 40)) (length h.log.closed) oldest))
  unfolding image state_image
  tests_are = rw (times_are h g, first_is Old h g, count)

  passed : cannot_go_back (image h) slots ≡ false → Passed
  passed q =
      let a = sym tests_are ∙ q in
      let b = or_right (not (rises (times_of (retained h.log)))) _ a in
      record {
        rising = not-false _ (or_left _ _ a);
        heads = or_left _ _ b;
        headers = none_has _ (length h.log.closed) oldest (or_right (any_late oldest first (open_heads h)) _ b);
      }

  not_refused : Passed → cannot_go_back (image h) slots ≡ false
  not_refused p = tests_are ∙ go _ _ _ p.rising p.heads (has_none _ (length h.log.closed) oldest p.headers)
    where
      go : (a b c : Bool) → a ≡ true → b ≡ false → c ≡ false → (not a || (b || c)) ≡ false
      go a b c x y z = rw (x, y, z)

  -- ---- by the history's heads and nodes

  four_end : length (open_heads h) ≡ 4
  four_end = four_heads h.log.form slots oldest _ (oldest_heads h) (four_oldest h g)

  -- the node of a retained closed segment, and what its header has
  module _ (b : List (List Lift)) (ls : List Lift) (after : List (List Lift)) (is : h.log.closed ≡ b ++ (ls ∷ after)) where
    abbrev node : List Pointer
    node = node_of (heads_at h.log.form slots oldest b (oldest_heads h)) (level_of (oldest + length b))

    node_read : pointers_at New (header (oldest + length b)) 40 ≡ node
    node_read = ap (λ (v : Form). pointers_at v (header (oldest + length b)) 40) (sym e) ∙ (header_of h g b ls after is).pointers

    four_node : length node ≡ 4
    four_node =
        length_node _ (four_heads h.log.form slots oldest _ (oldest_heads h) (four_oldest h g)) _ (level_most (oldest + length b))

    node_fine : Passed → (k : ℕ) → k < 4 → is_late oldest first (get_or node k none) ≡ false
    node_fine p k l =
        let i : length b < length h.log.closed = omega (arith, ap length is ∙ length-append b (ls ∷ after)) in
        late_not oldest first node (ap (any_late oldest first) (sym node_read) ∙ p.headers (length b) i) k (omega (arith, four_node))

    header_fine : AllFine h g e first → any_late oldest first (pointers_at New (header (oldest + length b)) 40) ≡ false
    header_fine all =
        ap (any_late oldest first) node_read ∙ none_late oldest first node (λ k l. all.nodes b ls after is k (omega (arith, four_node)))

  fine : Passed → AllFine h g e first
  fine p = record {
    at_end = λ k l. late_not oldest first (open_heads h) p.heads k (omega (arith, four_end));
    nodes = λ b ls after is k l. node_fine b ls after is p k l;
  }

  -- ---- by the paper log's lifts and the pointers in the bytes

  first_log : first ≡ oldest_live h.log
  first_log = first_retained h.log.closed h.log.current g.closed (into Old h).log.next

  pub can_if_accepted : cannot_go_back (image h) h.log.slots ≡ false → CanGoBack (image h) h.log
  unfolding image state_image pointers_at
  can_if_accepted q = record { rising = p.rising; earlier = each }
    where
      p : Passed
      p = passed q

      each : (x : Pointer) → PointerIn (image h) slots x → is_none x ≡ false → is_live x (serials_from oldest) ≡ false → x.time < oldest_live h.log
      each x (head k l) a b =
          subst (λ (t : ℕ). x.time < t) first_log
          (earlier_if oldest first x (late_not oldest first (open_heads h) p.heads k (omega (arith, four_end))) a b)
      each x (in_header n k from below l) a b =
          let i : n - oldest < length h.log.closed = omega arith in
          let z : oldest + (n - oldest) ≡ n = omega arith in
          subst (λ (t : ℕ). x.time < t) first_log
          (earlier_if oldest first x (late_not oldest first (pointers_at New (header n) 40)
          (subst (λ (m : ℕ). any_late oldest first (pointers_at New (header m) 40) ≡ false) z (p.headers (n - oldest) i)) k l) a b)

  pub accepted_if_can : CanGoBack (image h) h.log → cannot_go_back (image h) h.log.slots ≡ false
  unfolding image state_image pointers_at
  accepted_if_can c = not_refused (record { rising = c.rising; heads = heads; headers = headers })
    where
      one : (x : Pointer) → PointerIn (image h) slots x → is_late oldest first x ≡ false
      one x is = not_late oldest first x (λ a b. subst (λ (t : ℕ). x.time < t) (sym first_log) (c.earlier x is a b))

      heads : any_late oldest first (open_heads h) ≡ false
      heads = none_late oldest first (open_heads h) (λ k l. one _ (head k (omega (arith, four_end))))

      headers : (i : ℕ) → i < length h.log.closed → any_late oldest first (pointers_at New (header (oldest + i)) 40) ≡ false
      headers i l =
          none_late oldest first (pointers_at New (header (oldest + i)) 40) (λ k m. one _ (in_header (oldest + i) k (omega arith) (omega arith) m))

  -- ---- by the history in form 0

  pub strict_if_accepted : cannot_go_back (image h) h.log.slots ≡ false → Strict h
  strict_if_accepted q = record {
    times = strict_times h.log.closed h.log.current (into Old h).log.next
        (subst (λ (d : ℕ). Segments d g.before h.log.closed g.begun) (ap step e) g.closed)
        (subst (λ (d : ℕ). Times d g.begun h.log.current h.log.next) (ap step e) g.current)
        (passed q).rising (λ l. moved l (is_new h) refl);
    dead = dead_in_old h g e first (fine (passed q));
  }
    where
      moved : 0 < length h.log.closed + length h.log.current → (t : Bool) → is_new h ≡ t → h.log.next + 1 ≡ cond t 0 (h.log.next + 1)
      moved l true n =
          let a = eqb-true (open_serial h.log) 1 (and_parts _ _ n).0 in
          let b = eqb-true (length h.log.current) 0 (and_parts (eqb (open_serial h.log) 1) _ n).1 in
          absurd (omega (arith, a, b, g.serial))
      moved l false n = refl

  accepted_if_dead : rises (times_of (retained h.log)) ≡ true → ((k : ℕ) → is_live_from first (get_or (oldest_heads (into Old h)) k none) ≡ false)
      → cannot_go_back (image h) slots ≡ false
  accepted_if_dead r dead = not_refused (record {
    rising = r;
    heads = none_late oldest first (open_heads h) (λ k l. all.at_end k (omega (arith, four_end)));
    headers = headers;
  })
    where
      all : AllFine h g e first
      all = fine_if_dead h g e first dead

      headers : (i : ℕ) → i < length h.log.closed → any_late oldest first (pointers_at New (header (oldest + i)) 40) ≡ false
      headers i l =
          let c : List (List Lift) = h.log.closed in
          subst (λ (n : ℕ). any_late oldest first (pointers_at New (header (oldest + n)) 40) ≡ false) (length-take-le i c (omega arith))
          (header_fine (take i c) (get_or c i []) (drop (suc i) c) (split_at c i [] l) all)

  pub accepted_if_good : Good (into Old h) → cannot_go_back (image h) h.log.slots ≡ false
  accepted_if_good old = accepted_if_dead (strict_rises h.log.closed h.log.current old.closed old.current) old.dead

  -- where no segment went the times alone decide
  pub accepted_undropped : h.log.oldest ≡ 1 → rises (times_of (retained h.log)) ≡ true → cannot_go_back (image h) h.log.slots ≡ false
  unfolding S.heads_from
  accepted_undropped one r = accepted_if_dead r (λ k.
      subst (λ (gone : List ℕ). is_live_from first (get_or (S.heads_from Old slots 1 gone no_heads) k none) ≡ false) (sym nothing)
      (none_dead k (record { form = Old; oldest = first })))
    where
      nothing : h.gone ≡ []
      nothing = empty h.gone (omega (arith, g.serial))
        where
          empty : (ts : List ℕ) → length ts ≡ 0 → ts ≡ []
          empty [] q = refl
          empty (t ∷ ts) q = absurd (omega arith)

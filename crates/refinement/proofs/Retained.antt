-- A retained closed segment, wherever it stands among the others: its pages are in its serial's slot, and its header reads back without damage.
-- Assumes nothing.
use mathlib.Core.Path.{◌≡◌, refl, sym, ap, subst, ◌∙◌}
use mathlib.Core.Bool.{Bool, true, false, ◌&&◌}
use mathlib.Core.List.{List, [], ◌∷◌, ◌++◌, map}
use Prim.Native.Nat.{ℕ, zero, suc, ◌+◌, ◌^◌, ◌≤◌, ◌<◌}
use native.Mathlib.Decide.{dec_lt}
use native.Mathlib.Omega.{arith}
use lib.Dec.{ltb}
use lib.IntN.{ℤ}
use lib.ListN.{length, get_or, drop, replicate, length-append, length-map}
use borrow.Author.Tests.{le-leb, lt-ltb, eq-eqb, ne_eqb, leb-true}
use Rattle.codec.proofs.Truth.{and_both, or_second}
use Rattle.form.specs.declared.Form.{Form}
use Rattle.form.specs.declared.Form.TheVariants.{Old, New}
use Rattle.form.specs.Forms.{step, serial_width, serial_in}
use Rattle.flash.specs.Chip.{slot_of, page_of}
use Rattle.lift.specs.Limits.{stored}
use Rattle.lift.proofs.Codes.{within_limits, stored_le}
use Rattle.skiplist.specs.declared.Pointer.{Pointer}
use Rattle.skiplist.specs.Skip.{pointing, none, is_none, level_of, heads_after, no_heads}
use Rattle.skiplist.proofs.Nodes.{heads_below, heads_above}
use Rattle.header.proofs.HeaderBytes.{level_most}
use Rattle.header.specs.Header.{pointer_good, pointers_good, header_in}
use Rattle.header.proofs.HeaderRead.{header_of}
use Rattle.header.proofs.HeaderSound.{Sound, header_decoded}
use Rattle.tree.proofs.Built.{buckets_of_lem, counted}
use Rattle.paper_log.specs.Log.{Lift, codes}
use Rattle.refinement.specs.Inner.Segments as S
use Rattle.refinement.specs.Inner.Image.{History, oldest_heads, page_from, nand_image}
use Rattle.refinement.proofs.Good as G
use Rattle.refinement.proofs.Good.{GoodLifts, Built, AllBuilt, Times, Segments, Limited, Good}
use Rattle.refinement.proofs.Lengths.{length_codes, good_loads}
use Rattle.flash.proofs.Slots.{slots_differ, slot_below}
use Rattle.refinement.proofs.PageLengths.{four_after, four_heads, four_oldest, page_of_nand}
use Rattle.refinement.proofs.ClosePage.{few_buckets}
use Rattle.refinement.proofs.PageFrom.{heads_at}
use Rattle.refinement.proofs.Close.{end_time_lem}
use Rattle.refinement.proofs.InBounds.{times_up, start_below, segments_up, low_ok, high_ok, low_most, high_least, le_self}

-- ---- its pages

pub page_retained : (v : Form) (slots n : ℕ) (before : List (List Lift)) (ls : List Lift) (after : List (List Lift)) (current : List Lift) (heads : List Pointer) (p : ℕ)
    → 1 ≤ n → length before < slots
    → page_from v slots n (before ++ (ls ∷ after)) current heads (slot_of (n + length before) slots) p
    ≡ S.closed_page v (n + length before) ls (heads_at v slots n before heads) p
unfolding page_from S.heads_from
page_retained v slots n [] ls after current heads p h k =
    let e : n + 0 ≡ n = omega arith in
    rw (e, eq-eqb (slot_of n slots) (slot_of n slots) refl)
page_retained v slots n (ms ∷ rest) ls after current heads p h k =
    let e : n + suc (length rest) ≡ suc n + length rest = omega arith in
    rw (e, ne_eqb (slot_of n slots) (slot_of (suc n + length rest) slots) (slots_differ slots n (suc n + length rest) h (omega arith) (omega arith)))
    (page_retained v slots (suc n) rest ls after current _ p (omega arith) (omega arith))

-- ---- its heads

pub limited_closed : {d n m : ℕ} {closed : List (List Lift)} → Segments d n closed m → m ≤ 999999999999999 + d → Limited (map S.start_time closed)
limited_closed G.none h = tt
limited_closed (G.more (G.more a t) r) h = (omega (arith, times_up t, segments_up r), limited_closed r h)

good_run : (slots level : ℕ) (p : Pointer) (rest : List Pointer) → pointer_good slots p ≡ true → pointers_good slots rest ≡ true
    → pointers_good slots (replicate level p ++ rest) ≡ true
unfolding pointers_good
good_run slots zero p rest e f = f
good_run slots (suc n) p rest e f = and_both _ _ e (good_run slots n p rest e f)

good_later : (slots n : ℕ) (ps : List Pointer) → pointers_good slots ps ≡ true → pointers_good slots (drop n ps) ≡ true
unfolding pointers_good
good_later slots zero ps e = e
good_later slots (suc n) [] e = refl
good_later slots (suc n) (p ∷ ps) e = good_later slots n ps (go (pointer_good slots p) e)
  where
    go : (t : Bool) → (t && pointers_good slots ps) ≡ true → pointers_good slots ps ≡ true
    go true e = e
    go false e = cc

pub good_heads : (v : Form) (slots n : ℕ) (ts : List ℕ) (heads : List Pointer) → 1 ≤ slots → Limited ts → pointers_good slots heads ≡ true
    → pointers_good slots (S.heads_from v slots n ts heads) ≡ true
unfolding S.heads_from heads_after pointer_good
good_heads v slots n [] heads h l e = e
good_heads v slots n (t ∷ ts) heads h l e =
    good_heads v slots (suc n) ts _ h l.1
    (good_run slots (level_of n) (pointing v (slot_of n slots) n t) (drop (level_of n) heads)
    (and_both _ _ (le-leb t 999999999999999 l.0)
    (or_second (is_none (pointing v (slot_of n slots) n t)) (ltb (slot_of n slots) slots) (lt-ltb (slot_of n slots) slots (slot_below slots n h))))
    (good_later slots (level_of n) heads e))

pub good_none : (slots : ℕ) → pointers_good slots no_heads ≡ true
unfolding pointers_good pointer_good
good_none slots = refl

-- the serials in them fit their bytes: 0 in form 0
serial_fits : (v : Form) (n : ℕ) → n < 2 ^ 32 → serial_in v n < 256 ^ serial_width v
serial_fits Old n l = omega arith
serial_fits New n l = l

none_fits : (v : Form) (k : ℕ) → (get_or no_heads k none).serial < 256 ^ serial_width v
none_fits v k = rw (none_there k) (zero_fits v)
  where
    none_there : (k : ℕ) → get_or no_heads k none ≡ none
    none_there zero = refl
    none_there (suc zero) = refl
    none_there (suc (suc zero)) = refl
    none_there (suc (suc (suc zero))) = refl
    none_there (suc (suc (suc (suc k)))) = refl

    zero_fits : (v : Form) → 0 < 256 ^ serial_width v
    zero_fits Old = omega arith
    zero_fits New = omega arith

pub serials_from_lem : (v : Form) (slots n : ℕ) (ts : List ℕ) (heads : List Pointer) → length heads ≡ 4 → n + length ts ≤ 2 ^ 32
    → ((k : ℕ) → (get_or heads k none).serial < 256 ^ serial_width v)
    → (k : ℕ) → (get_or (S.heads_from v slots n ts heads) k none).serial < 256 ^ serial_width v
unfolding S.heads_from
serials_from_lem v slots n [] heads four l f k = f k
serials_from_lem v slots n (t ∷ ts) heads four l f k =
    serials_from_lem v slots (suc n) ts _ (four_after heads n (pointing v (slot_of n slots) n t) four) (omega arith) one k
  where
    one : (k : ℕ) → (get_or (heads_after heads (level_of n) (pointing v (slot_of n slots) n t)) k none).serial < 256 ^ serial_width v
    one k = go (dec_lt k (level_of n))
      where
        go : Dec (k < level_of n) → (get_or (heads_after heads (level_of n) (pointing v (slot_of n slots) n t)) k none).serial < 256 ^ serial_width v
        go (yes m) = rw (heads_below heads four (level_of n) (level_most n) (pointing v (slot_of n slots) n t) k m) (serial_fits v n (omega arith))
        go (no m) = rw (heads_above heads four (level_of n) (level_most n) (pointing v (slot_of n slots) n t) k (omega arith)) (f k)

-- ---- a closed segment among the others

-- what holds of it: next time before and after it, and of those around it
pub record Among (d n : ℕ) (before : List (List Lift)) (ls : List Lift) (after : List (List Lift)) (m : ℕ) : Type 0 where
  pub from : ℕ
  pub to : ℕ
  pub earlier : Segments d n before from
  pub own : Times d from ls to
  pub later : Segments d to after m
  pub some_lift : 0 < length ls

pub among : {d n m : ℕ} (before : List (List Lift)) (ls : List Lift) (after : List (List Lift)) → Segments d n (before ++ (ls ∷ after)) m
    → Among d n before ls after m
among [] (l ∷ ls) after (G.more t r) = record { from = _; to = _; earlier = G.none; own = t; later = r; some_lift = omega arith }
among ((k ∷ ks) ∷ before) ls after (G.more t r) =
    let a = among before ls after r in
    record { from = a.from; to = a.to; earlier = G.more t a.earlier; own = a.own; later = a.later; some_lift = a.some_lift }
among [] [] after s = elim s [ ]
among ([] ∷ before) ls after s = elim s [ ]

pub built_among : (before : List (List Lift)) (ls : List Lift) (after : List (List Lift)) → AllBuilt (before ++ (ls ∷ after)) → Built ls
built_among [] ls after b = b.0
built_among (ms ∷ before) ls after b = built_among before ls after b.1

-- the first lift is not after the last one
start_end : (ls : List Lift) {d n m : ℕ} → Times d n ls m → 0 < length ls → S.start_time ls ≤ S.end_time ls
start_end ls t h = omega (arith, (start_below ls t h).1, end_time_lem ls t h)

module _ (h : History) (g : Good h) (before : List (List Lift)) (ls : List Lift) (after : List (List Lift))
    (is : h.log.closed ≡ before ++ (ls ∷ after)) where
  pub facts : Among (step h.log.form) g.before before ls after g.begun
  facts = among before ls after (subst (λ (c : List (List Lift)). Segments (step h.log.form) g.before c g.begun) is g.closed)

  pub built : Built ls
  built = built_among before ls after (subst AllBuilt is g.segments)

  count_closed : length h.log.closed ≡ length before + suc (length after)
  count_closed = ap length is ∙ length-append before (ls ∷ after)

  abbrev serial_of : ℕ
  serial_of = h.log.oldest + length before

  abbrev heads_of : List Pointer
  heads_of = heads_at h.log.form h.log.slots h.log.oldest before (oldest_heads h)

  four_of : length heads_of ≡ 4
  four_of = four_heads h.log.form h.log.slots h.log.oldest (map S.start_time before) (oldest_heads h) (four_oldest h g)

  slots_some : 1 ≤ h.log.slots
  slots_some = omega (arith, g.least)

  -- its pages
  pub retained_page : (p : ℕ) → p < 32 → page_of (nand_image h) (slot_of serial_of h.log.slots) p ≡ S.closed_page h.log.form serial_of ls heads_of p
  retained_page p l =
      page_of_nand h g (slot_of serial_of h.log.slots) p (slot_below h.log.slots serial_of slots_some) l
      ∙ ap (λ (c : List (List Lift)). page_from h.log.form h.log.slots h.log.oldest c h.log.current (oldest_heads h) (slot_of serial_of h.log.slots) p) is
      ∙ page_retained h.log.form h.log.slots h.log.oldest before ls after h.log.current (oldest_heads h) p (omega (arith, g.serial))
      (omega (arith, g.room, count_closed))

  limits : (l : List Lift) → GoodLifts l → 0 < length l
      → (1 ≤ stored (S.low_of (S.loads_of l))) × (stored (S.low_of (S.loads_of l)) ≤ stored (S.high_of (S.loads_of l))) × (stored (S.high_of (S.loads_of l)) ≤ 150001)
  limits [] gl q = absurd (omega arith)
  limits (l ∷ ls) gl q =
      let low : ℤ = S.low_from l.load (S.loads_of ls) in
      let high : ℤ = S.high_from l.load (S.loads_of ls) in
      let a = low_ok l.load ls gl.0.load gl.1 in
      let b = high_ok l.load ls gl.0.load gl.1 in
      ((within_limits low a).low, leb-true _ _ (sym (stored_le low high a b) ∙ low_most l.load high (S.loads_of ls) (high_least l.load l.load (S.loads_of ls) (le_self l.load))), (within_limits high b).high)

  -- its header
  pub sound : (bound : ℕ) → serial_of < bound → Sound (S.closing_of h.log.form serial_of ls heads_of) h.log.slots bound
  unfolding S.closing_of
  sound bound q =
      let f = facts in
      let k = limits ls built.lifts f.some_lift in
      let c = counted (codes ls) (good_loads ls built.lifts) built.tree built.is in
      let t = ap length (buckets_of_lem (codes ls) built.tree built.is) in
      let e = end_time_lem ls f.own f.some_lift in
      record {
        slots_most_lem = g.most;
        serial_below = q;
        serial_fits = omega (arith, g.last, count_closed);
        some = f.some_lift;
        most = built.few;
        buckets_some = omega (arith, c.some_bucket (omega (arith, length_codes ls, f.some_lift)));
        buckets_most_lem = few_buckets ls built;
        start_end = start_end ls f.own f.some_lift;
        end_limit = omega (arith, segments_up f.later, times_up g.current, g.end);
        low_limit = k.0;
        low_high = k.1;
        high_limit = k.2;
        heads_four = four_of;
        heads_good = good_heads h.log.form h.log.slots h.log.oldest (map S.start_time before) (oldest_heads h) slots_some
            (limited_closed f.earlier (omega (arith, times_up f.own, segments_up f.later, times_up g.current, g.end)))
            (good_heads h.log.form h.log.slots 1 h.gone no_heads slots_some
            g.limited (good_none h.log.slots));
        serials_fit = λ k q. serials_from_lem h.log.form h.log.slots h.log.oldest (map S.start_time before) (oldest_heads h) (four_oldest h g)
            (omega (arith, g.last, count_closed, length-map before S.start_time))
            (serials_from_lem h.log.form h.log.slots 1 h.gone no_heads refl (omega (arith, g.last, g.serial)) (none_fits h.log.form)) k;
      }

  pub retained_header : (bound : ℕ) → serial_of < bound
      → header_in h.log.form (page_of (nand_image h) (slot_of serial_of h.log.slots) 31) h.log.slots bound ≡ header_of (S.closing_of h.log.form serial_of ls heads_of) true
  unfolding S.closed_page S.closing_of
  retained_header bound q =
      ap (λ (page : List ℕ). header_in h.log.form page h.log.slots bound) (retained_page 31 (omega arith))
      ∙ header_decoded (S.closing_of h.log.form serial_of ls heads_of) h.log.slots bound (sound bound q)

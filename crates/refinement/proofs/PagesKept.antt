-- Which pages a call changes: those that were erased, and those of the slot of the serial that goes. Assumes nothing.
use mathlib.Core.Path.{◌≡◌, refl, sym, ap, ap₂, subst, ◌∙◌}
use mathlib.Core.Logic.{◌⊎◌, inl, inr, ⊎_elim}
use mathlib.Core.Bool.{Bool, true, false, cond}
use mathlib.Core.List.{List, [], ◌∷◌}
use Prim.Native.Nat.{ℕ, suc, ◌+◌, ◌/◌, ◌≤◌, ◌<◌}
use native.Mathlib.Decide.{ℕ_discrete, dec_lt}
use native.Mathlib.Omega.{arith}
use lib.Dec.{leb}
use lib.ListN.{length}
use borrow.Author.Tests.{lt-ltb, le-ltb, leb-true}
use Rattle.form.specs.declared.Form.{Form}
use Rattle.codec.specs.Area.{all_ones}
use Rattle.codec.proofs.Areas.{ones_repeated}
use Rattle.flash.specs.Chip.{slot_of, page_of, erased_page}
use Rattle.skiplist.specs.declared.Pointer.{Pointer}
use Rattle.paper_log.specs.Log.{Lift, open_serial, close_log, drop_log, put_log, is_full}
use Rattle.refinement.specs.Inner.Segments as S
use Rattle.refinement.specs.Inner.Image.{History, oldest_heads, page_image, nand_image}
use Rattle.refinement.specs.Rules.{PagesKept}
use Rattle.refinement.proofs.Good.{GoodLift, Good}
use Rattle.refinement.proofs.PageLengths.{page_of_nand}
use Rattle.refinement.proofs.PageFrom.{page_open, page_newest, page_elsewhere}
use Rattle.refinement.proofs.Close.{close_history, good_close}
use Rattle.refinement.proofs.Drop.{history, drop_history, good_drop_some, heads_left, first_skips}
use Rattle.refinement.proofs.Put.{put_history, Takes, good_put, open_below, same_page}
use Rattle.refinement.proofs.Entry.{plan_in}
use Rattle.refinement.proofs.Append.{room_history, shed_history, append_history, Roomy, roomy, Shed, shed, takes, some_lift}

-- ---- steps one after the other

kept_then : (slots : ℕ) (a b c : List ℕ) (erases : ℕ → Type 0) → PagesKept slots a b erases → PagesKept slots b c erases → PagesKept slots a c erases
kept_then slots a b c erases f g s p h k =
    ⊎_elim
    (λ e. ⊎_elim (λ d. inl (d ∙ e)) (⊎_elim (λ z. inr (inl (ap all_ones (sym e) ∙ z))) (λ z. inr (inr z))) (g s p h k))
    (λ z. inr z) (f s p h k)

pub kept_same : (slots : ℕ) (a b : List ℕ) (erases : ℕ → Type 0) → b ≡ a → PagesKept slots a b erases
kept_same slots a b erases e s p h k = inl (ap (λ (n : List ℕ). page_of n s p) e)

-- more slots may be erased
kept_wider : (slots : ℕ) (a b : List ℕ) (few many : ℕ → Type 0) → ((s : ℕ) → few s → many s) → PagesKept slots a b few → PagesKept slots a b many
kept_wider slots a b few many w f s p h k = ⊎_elim (λ e. inl e) (⊎_elim (λ z. inr (inl z)) (λ z. inr (inr (w s z)))) (f s p h k)

-- ---- an open page was erased where it is not a full one

open_full : (ls : List Lift) (p : ℕ) → p < length ls / 16 → S.open_page ls p ≡ S.lift_page ls p
unfolding S.open_page
open_full ls p h = rw (lt-ltb p (length ls / 16) h)

open_past : (ls : List Lift) (p : ℕ) → length ls / 16 ≤ p → S.open_page ls p ≡ erased_page
unfolding S.open_page
open_past ls p h = rw (le-ltb p (length ls / 16) h)

-- pages of two good histories of the same S, by their images
by_images : (h k : History) (erases : ℕ → Type 0) → Good h → Good k → k.log.slots ≡ h.log.slots
    → ((s p : ℕ) → s < h.log.slots → p < 32 → (page_image k s p ≡ page_image h s p) ⊎ ((page_image h s p ≡ erased_page) ⊎ erases s))
    → PagesKept h.log.slots (nand_image h) (nand_image k) erases
by_images h k erases gh gk e f s p a b =
    let x = page_of_nand h gh s p a b in
    let y = page_of_nand k gk s p (omega arith) b in
    ⊎_elim (λ d. inl (y ∙ d ∙ sym x)) (⊎_elim (λ z. inr (inl (ap all_ones (x ∙ z) ∙ ones_repeated 512))) (λ z. inr (inr z))) (f s p a b)

-- ---- close

lift_pages : (v : Form) (n : ℕ) (ls : List Lift) (heads : List Pointer) (p : ℕ) → p < 20 → S.closed_page v n ls heads p ≡ S.lift_page ls p
unfolding S.closed_page
lift_pages v n ls heads p h = rw (lt-ltb p 20 h)

pub close_kept : (h : History) → Good h → 0 < length h.log.current → (erases : ℕ → Type 0)
    → PagesKept h.log.slots (nand_image h) (nand_image (close_history h)) erases
unfolding close_log
close_kept h g some_lift erases = by_images h (close_history h) erases g (good_close h g some_lift) refl (λ s p a b. go s p (ℕ_discrete s slot) (dec_lt p (length ls / 16)))
  where
    ls : List Lift
    ls = h.log.current

    slot : ℕ
    slot = slot_of (open_serial h.log) h.log.slots

    first : 1 ≤ h.log.oldest
    first = omega (arith, g.serial)

    opened : (p : ℕ) → page_image h slot p ≡ S.open_page ls p
    opened p = page_open h.log.form h.log.slots h.log.oldest h.log.closed ls (oldest_heads h) p first (g.busy some_lift)

    go : (s p : ℕ) → Dec (s ≡ slot) → Dec (p < length ls / 16)
        → (page_image (close_history h) s p ≡ page_image h s p) ⊎ ((page_image h s p ≡ erased_page) ⊎ erases s)
    go s p (no f) d = inl (page_elsewhere h.log.form h.log.slots h.log.oldest h.log.closed ls (oldest_heads h) s p (λ e. f (sym e)))
    go s p (yes e) (yes l) =
        inl (subst (λ (t : ℕ). page_image (close_history h) t p ≡ page_image h t p) (sym e)
        (page_newest h.log.form h.log.slots h.log.oldest h.log.closed ls (oldest_heads h) p first (g.busy some_lift)
        ∙ lift_pages h.log.form (open_serial h.log) ls _ p (omega (arith, g.segment.few)) ∙ sym (opened p ∙ full p l)))
      where
        full : (p : ℕ) → p < length ls / 16 → S.open_page ls p ≡ S.lift_page ls p
        full p l = open_full ls p l
    go s p (yes e) (no l) = inr (inl (subst (λ (t : ℕ). page_image h t p ≡ erased_page) (sym e) (opened p ∙ open_past ls p (omega arith))))

-- ---- put

pub put_kept : (h : History) (l : Lift) (g : Good h) (t : Takes h l) (erases : ℕ → Type 0)
    → PagesKept h.log.slots (nand_image h) (nand_image (put_history h l)) erases
unfolding put_log
put_kept h l g t erases = by_images h (put_history h l) erases g (good_put h l g t) refl (λ s p a b. go s p (ℕ_discrete (slot_of (open_serial h.log) h.log.slots) s) (dec_lt p (length h.log.current / 16)))
  where
    go : (s p : ℕ) → Dec (slot_of (open_serial h.log) h.log.slots ≡ s) → Dec (p < length h.log.current / 16)
        → (page_image (put_history h l) s p ≡ page_image h s p) ⊎ ((page_image h s p ≡ erased_page) ⊎ erases s)
    go s p (no f) d = inl (sym (same_page h l g t s p (λ e. absurd (f e))))
    go s p (yes e) (yes q) = inl (sym (same_page h l g t s p (λ e. open_below h l g t p q)))
    go s p (yes e) (no q) =
        inr (inl (subst (λ (k : ℕ). page_image h k p ≡ erased_page) e
        (page_open h.log.form h.log.slots h.log.oldest h.log.closed h.log.current (oldest_heads h) p (omega (arith, g.serial)) t.slot
        ∙ open_past h.log.current p (omega arith))))

-- ---- drop

pub drop_kept_lem : (v : Form) (slots oldest : ℕ) (ms : List Lift) (rest : List (List Lift)) (current : List Lift) (next : ℕ) (gone : List ℕ)
    → Good (history v slots oldest (ms ∷ rest) current next gone)
    → PagesKept slots (nand_image (history v slots oldest (ms ∷ rest) current next gone)) (nand_image (drop_history (history v slots oldest (ms ∷ rest) current next gone)))
    (λ s. s ≡ slot_of oldest slots)
unfolding drop_log
drop_kept_lem v slots oldest ms rest current next gone g =
    by_images h (drop_history h) (λ s. s ≡ slot_of oldest slots) g (good_drop_some v slots oldest ms rest current next gone g) refl (λ s p a b. go s p (ℕ_discrete s (slot_of oldest slots)))
  where
    h : History
    h = history v slots oldest (ms ∷ rest) current next gone

    go : (s p : ℕ) → Dec (s ≡ slot_of oldest slots)
        → (page_image (drop_history h) s p ≡ page_image h s p) ⊎ ((page_image h s p ≡ erased_page) ⊎ (s ≡ slot_of oldest slots))
    go s p (yes e) = inr (inr e)
    go s p (no f) =
        let e : oldest + 1 ≡ suc oldest = omega arith in
        inl (rw (heads_left v slots oldest ms rest current next gone g, e) (sym (first_skips v slots oldest ms rest current (oldest_heads h) s p (λ q. f (sym q)))))

pub some_kept : (v : Form) (slots oldest : ℕ) (closed : List (List Lift)) (current : List Lift) (next : ℕ) (gone : List ℕ)
    → Good (history v slots oldest closed current next gone) → 0 < length closed
    → PagesKept slots (nand_image (history v slots oldest closed current next gone)) (nand_image (drop_history (history v slots oldest closed current next gone)))
    (λ s. ((drop_history (history v slots oldest closed current next gone)).log.oldest ≡ oldest + 1) × (s ≡ slot_of oldest slots))
unfolding drop_log
some_kept v slots oldest [] current next gone g q = absurd (omega arith)
some_kept v slots oldest (ms ∷ rest) current next gone g q =
    kept_wider slots _ _ (λ s. s ≡ slot_of oldest slots) _ (λ s e. (refl, e)) (drop_kept_lem v slots oldest ms rest current next gone g)

-- ---- append

-- the slot of the serial that goes from a history to the next
abbrev pub Goes : History → History → ℕ → Type 0
Goes h k s = (k.log.oldest ≡ h.log.oldest + 1) × (s ≡ slot_of h.log.oldest h.log.slots)

room_kept : (h : History) (g : Good h) (l : Lift) (gl : GoodLift l) (erases : ℕ → Type 0)
    → PagesKept h.log.slots (nand_image h) (nand_image (room_history h l.load)) erases
room_kept h g l gl erases = go (is_full h.log.current l.load) refl
  where
    go : (t : Bool) → is_full h.log.current l.load ≡ t → PagesKept h.log.slots (nand_image h) (nand_image (cond t (close_history h) h)) erases
    go true e = close_kept h g (some_lift h.log.current l.load e) erases
    go false e = kept_same h.log.slots (nand_image h) (nand_image h) erases refl

shed_kept : (r : History) → Good r → PagesKept r.log.slots (nand_image r) (nand_image (shed_history r)) (Goes r (shed_history r))
shed_kept r g = go (leb r.log.slots (length r.log.closed)) refl
  where
    go : (t : Bool) → leb r.log.slots (length r.log.closed) ≡ t
        → PagesKept r.log.slots (nand_image r) (nand_image (cond t (drop_history r) r)) (Goes r (cond t (drop_history r) r))
    go true e = some_kept r.log.form r.log.slots r.log.oldest r.log.closed r.log.current r.log.next r.gone g
        (omega (arith, g.least, leb-true r.log.slots (length r.log.closed) e))
    go false e = kept_same r.log.slots (nand_image r) (nand_image r) (Goes r r) refl

close_oldest : (h : History) → (close_history h).log.oldest ≡ h.log.oldest
unfolding close_log
close_oldest h = refl

pub append_kept_lem : (h : History) (g : Good h) (l : Lift) (gl : GoodLift l) → h.log.next ≤ l.time → open_serial h.log < 999999998
    → PagesKept h.log.slots (nand_image h) (nand_image (append_history h l)) (Goes h (append_history h l))
unfolding put_log
append_kept_lem h g l gl later early =
    kept_then slots (nand_image h) (nand_image r) (nand_image (put_history s l)) goes (room_kept h g l gl goes)
    (kept_then slots (nand_image r) (nand_image s) (nand_image (put_history s l)) goes
    (kept_wider slots (nand_image r) (nand_image s) (Goes r s) goes same_goes
    (subst (λ (k : ℕ). PagesKept k (nand_image r) (nand_image s) (Goes r s)) ry.slots (shed_kept r ry.good)))
    (subst (λ (k : ℕ). PagesKept k (nand_image s) (nand_image (put_history s l)) goes) (sh.slots ∙ ry.slots)
    (put_kept s l sh.good (takes h g l gl later early) goes)))
  where
    slots : ℕ
    slots = h.log.slots

    r : History
    r = room_history h l.load

    s : History
    s = shed_history r

    ry : Roomy h l (plan_in h.log.current l.load) r
    ry = roomy h g l gl

    sh : Shed r s
    sh = shed r ry.good

    goes : ℕ → Type 0
    goes = Goes h (append_history h l)

    oldest_kept : (t : Bool) → (cond t (close_history h) h).log.oldest ≡ h.log.oldest
    oldest_kept true = close_oldest h
    oldest_kept false = refl

    same_goes : (x : ℕ) → Goes r s x → goes x
    same_goes x q =
        let o = oldest_kept (is_full h.log.current l.load) in
        (q.0 ∙ ap (λ (n : ℕ). n + 1) o, q.1 ∙ ap₂ slot_of o ry.slots)

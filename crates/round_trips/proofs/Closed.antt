-- The header of each retained closed segment of a history: of its form, without damage and under its own serial, so that grounds 13
-- and 10 never hold of it. Assumes nothing.
use mathlib.Core.Path.{◌≡◌, refl, sym, ap, subst, ◌∙◌}
use mathlib.Core.Bool.{Bool, true, false, not, ◌&&◌}
use mathlib.Core.List.{List, [], ◌∷◌, ◌++◌}
use Prim.Native.Nat.{ℕ, suc, ◌+◌, ◌≤◌, ◌<◌}
use native.Mathlib.Omega.{arith}
use lib.Dec.{eqb}
use lib.ListN.{length, get_or, take, drop, length-append}
use lib.Seq.{length-take-le, split_at}
use borrow.Author.Tests.{eq-eqb}
use Rattle.codec.specs.Number.{number_at}
use Rattle.flash.specs.Chip.{slot_of, page_of}
use Rattle.form.specs.declared.Form.{Form}
use Rattle.form.specs.declared.Form.TheVariants.{Old, New}
use Rattle.form.specs.Forms.{byte_ten}
use Rattle.skiplist.specs.Skip.{level_of, node_of}
use Rattle.skiplist.specs.PointerBytes.{pointers_at}
use Rattle.header.specs.declared.Closing.{Closing}
use Rattle.header.specs.declared.Header.{Header}
use Rattle.header.specs.Header.{header_good, header_in}
use Rattle.header.proofs.HeaderRead.{header_numbers}
use Rattle.header.proofs.HeaderSound.{sound_numbers}
use Rattle.paper_log.specs.Log.{Lift, open_serial}
use Rattle.refinement.specs.Inner.Segments as S
use Rattle.refinement.specs.Inner.Image.{History, oldest_heads, nand_image}
use Rattle.refinement.proofs.Good.{Good}
use Rattle.refinement.proofs.PageFrom.{heads_at}
use Rattle.refinement.proofs.Retained.{retained_page, retained_header, sound}
use Rattle.carry.specs.Carried.{other}
use Rattle.retained.specs.Retained.{is_form, is_damaged}

-- what is read of the header page of serial n
pub record Read (h : History) (before : List (List Lift)) (ls : List Lift) (n : ℕ) (page : List ℕ) : Type 0 where
  pub serial : number_at page 0 4 ≡ n
  pub count : number_at page 4 2 ≡ length ls
  pub few : length ls ≤ 320
  pub form : number_at page 10 1 ≡ byte_ten h.log.form
  pub good : header_good h.log.form page h.log.slots (open_serial h.log) ≡ true
  pub pointers : pointers_at h.log.form page 40
      ≡ node_of (heads_at h.log.form h.log.slots h.log.oldest before (oldest_heads h)) (level_of n)

module _ (h : History) (g : Good h) (before : List (List Lift)) (ls : List Lift) (after : List (List Lift))
    (is : h.log.closed ≡ before ++ (ls ∷ after)) where
  abbrev n : ℕ
  n = h.log.oldest + length before

  below : n < open_serial h.log
  below = omega (arith, ap length is ∙ length-append before (ls ∷ after))

  pub header_of : Read h before ls (h.log.oldest + length before)
      (page_of (nand_image h) (slot_of (h.log.oldest + length before) h.log.slots) 31)
  unfolding S.closed_page S.closing_of header_in
  header_of =
      let s = sound h g before ls after is (open_serial h.log) below in
      let c : Closing = S.closing_of h.log.form n ls (heads_at h.log.form h.log.slots h.log.oldest before (oldest_heads h)) in
      let whole = retained_header h g before ls after is (open_serial h.log) below in
      record {
        serial = ap (λ (x : Header). x.serial) whole;
        count = ap (λ (x : Header). x.count) whole;
        few = s.most;
        form = ap (λ (p : List ℕ). number_at p 10 1) (retained_page h g before ls after is 31 (omega arith))
            ∙ (header_numbers c (sound_numbers c h.log.slots (open_serial h.log) s)).form_is;
        good = ap (λ (x : Header). x.good) whole;
        pointers = ap (λ (x : Header). x.next) whole;
      }

-- the same by the segment's place
pub header_at : (h : History) → Good h → (i : ℕ) → i < length h.log.closed
    → Read h (take i h.log.closed) (get_or h.log.closed i []) (h.log.oldest + i)
    (page_of (nand_image h) (slot_of (h.log.oldest + i) h.log.slots) 31)
header_at h g i l =
    let c : List (List Lift) = h.log.closed in
    let n : length (take i c) ≡ i = length-take-le i c (omega arith) in
    subst (λ (k : ℕ). Read h (take i c) (get_or c i []) (h.log.oldest + k) (page_of (nand_image h) (slot_of (h.log.oldest + k) h.log.slots) 31)) n
    (header_of h g (take i c) (get_or c i []) (drop (suc i) c) (split_at c i [] l))

-- ---- grounds 13 and 10

other_byte : (f : Form) → eqb (byte_ten (other f)) (byte_ten f) ≡ false
other_byte Old = refl
other_byte New = refl

module _ (f : Form) (h : History) (g : Good h) (e : h.log.form ≡ other f) (i : ℕ) (l : i < length h.log.closed) where
  abbrev page : List ℕ
  page = page_of (nand_image h) (slot_of (h.log.oldest + i) h.log.slots) 31

  pub own_form : is_form f (h.log.oldest + i) (page_of (nand_image h) (slot_of (h.log.oldest + i) h.log.slots) 31) ≡ false
  own_form =
      let r = header_at h g i l in
      ap (λ (b : ℕ). eqb b (byte_ten f)) (r.form ∙ ap byte_ten e) ∙ other_byte f

  pub undamaged : is_damaged (other f) h.log.slots (open_serial h.log) (h.log.oldest + i)
      (page_of (nand_image h) (slot_of (h.log.oldest + i) h.log.slots) 31) ≡ false
  undamaged =
      let r = header_at h g i l in
      let good : header_good (other f) page h.log.slots (open_serial h.log) ≡ true =
      ap (λ (v : Form). header_good v page h.log.slots (open_serial h.log)) (sym e) ∙ r.good in
      none _ _ _ (eq-eqb _ (byte_ten (other f)) (r.form ∙ ap byte_ten e)) good (eq-eqb _ (h.log.oldest + i) r.serial)
    where
      none : (a b c : Bool) → a ≡ true → b ≡ true → c ≡ true → not (a && (b && c)) ≡ false
      none a b c p q r = rw (p, q, r)

-- The skip walk: a hop as the code makes it, hops beyond serial and level that change nothing, and pointers that stay in their
-- slots. Assumes nothing.
use mathlib.Core.Path.{◌≡◌, refl, sym, ap, ◌∙◌}
use mathlib.Core.Bool.{Bool, true, false, cond, not, ◌&&◌, ◌||◌}
use mathlib.Core.List.{List, [], ◌∷◌}
use Prim.Native.Nat.{ℕ, zero, suc, ◌+◌, ◌*◌, ◌≤◌, ◌<◌}
use native.Mathlib.Omega.{arith}
use lib.Dec.{ltb, leb}
use lib.ListN.{length, get_or}
use borrow.Author.Tests.{ltb-true, not-false}
use Rattle.flash.specs.Chip.{page_of}
use Rattle.skiplist.specs.declared.Pointer.{Pointer}
use Rattle.form.specs.declared.Form.{Form}
use Rattle.skiplist.specs.Skip.{Live, age_of, none, is_none, is_live, in_slots}
use Rattle.header.specs.declared.Header.{Header}
use Rattle.header.specs.Header.{header_in}
use Rattle.header.proofs.HeaderFacts.{HeaderFacts, header_facts, good_slots}
use Rattle.visit.specs.declared.Log.{Log}
use Rattle.visit.specs.declared.Query.{Query}
use Rattle.visit.specs.Inner.Sound.{InSlots}
use Rattle.walk.specs.declared.Cursor.{Cursor}
use Rattle.walk.specs.Seek.{SkipWalk, header_at, hop_at, hop, hops, skip_walk, reached_by, open_is_last, start_of, moves_of}
use Rattle.walk.specs.Inner.Placed.{hops_at, hops_left}
use Rattle.walk.specs.Inner.Sound.{Begun}

-- what stands in a list does not hang on the default
pub same_default : {A : Type 0} (l : List A) (k : ℕ) (d e : A) → k < length l → get_or l k d ≡ get_or l k e
same_default [] k d e h = absurd (omega arith)
same_default (a ∷ l) zero d e h = refl
same_default (a ∷ l) (suc k) d e h = same_default l k d e (omega arith)

-- a header without damage
pub header_good_lem : (f : Form) (nand : List ℕ) (slots before : ℕ) (p : Pointer) (h : Header) → h ≡ header_at f nand slots p before
    → h.good ≡ true
    → HeaderFacts h slots before
unfolding header_in
header_good_lem f nand slots before p h is good =
    rw is (header_facts f (page_of nand p.slot 31) slots before (sym (ap (λ (x : Header). x.good) is) ∙ good))

-- a live pointer in the slots leads into the chip
pub live_inside : (size slots : ℕ) (live : Live) (p : Pointer) → size ≡ slots * 16384 → in_slots p slots ≡ true → is_live p live ≡ true
    → p.slot * 16384 + 16384 ≤ size
live_inside size slots live p e i l = go (is_none p) (ltb p.slot slots) refl i l
  where
    go : (n b : Bool) → ltb p.slot slots ≡ b → (n || b) ≡ true → (not n && leb live.oldest (age_of live.form p)) ≡ true
        → p.slot * 16384 + 16384 ≤ size
    go true b f i l = let z : false ≡ true = l in let y : ◌≡◌ {A = ℕ} 0 1 = cc in absurd (omega arith)
    go false true f i l = omega (arith, ltb-true p.slot slots f)
    go false false f i l = let z : false ≡ true = i in let y : ◌≡◌ {A = ℕ} 0 1 = cc in absurd (omega arith)

-- ---- hops that are left: none at the end of the walk, else serial and level

pub left_level : (w : SkipWalk) (k : ℕ) → w.level ≡ suc k → hops_left w ≡ w.before + suc k
left_level w k e = ap (λ (l : ℕ). hops_at l w.before) e

left_most : (k before : ℕ) → hops_at k before ≤ before + k
left_most zero before = omega arith
left_most (suc k) before = omega arith

-- a walk that has met no damage has its pointers in the slots, and its serial not above the first
pub record Walked (slots top : ℕ) (w : SkipWalk) : Type 0 where
  pub stays : 0 < w.level → w.good ≡ true
  pub most : w.level ≤ 4
  pub pointed : w.good ≡ true → InSlots slots w.pointers
  pub falling : w.good ≡ true → w.before ≤ top

module _ (nand : List ℕ) (slots : ℕ) (live : Live) (t2 : ℕ) where
  abbrev next : SkipWalk → ℕ → SkipWalk
  next w k = hop_at nand slots live t2 w k

  abbrev header : SkipWalk → ℕ → Header
  header w k = header_at live.form nand slots (get_or w.pointers k none) w.before

  -- a hop by its three cases
  hop_cases : (P : SkipWalk → Type 0) (w : SkipWalk) (k : ℕ)
      → P (record { good = true; level = k; before = w.before; pointers = w.pointers; moves = w.moves })
      → ((header w k).good ≡ true
      → P (record { good = true; level = suc k; before = (header w k).serial; pointers = (header w k).next; moves = w.moves + 1 }))
      → P (record { good = false; level = 0; before = (header w k).serial; pointers = (header w k).next; moves = w.moves + 1 })
      → P (next w k)
  unfolding hop_at
  hop_cases P w k down onward bad =
      go (is_live (get_or w.pointers k none) live && ltb t2 (get_or w.pointers k none).time) (header w k).good refl
    where
      go : (q b : Bool) → (header w k).good ≡ b → P (cond q
          (record {
            good = (header w k).good;
            level = cond (header w k).good (suc k) 0;
            before = (header w k).serial;
            pointers = (header w k).next;
            moves = w.moves + 1;
          })
          (record { good = true; level = k; before = w.before; pointers = w.pointers; moves = w.moves }))
      go false b e = down
      go true true e = rw e (onward e)
      go true false e = rw e bad

  pub hop_falls : (w : SkipWalk) (k : ℕ) → hops_left (next w k) < w.before + suc k
  hop_falls w k =
      hop_cases (λ v. hops_left v < w.before + suc k) w k
      (omega (arith, left_most k w.before))
      (λ e.
      omega (arith, (header_good_lem live.form nand slots w.before (get_or w.pointers k none) (header w k) refl e).serial_below))
      (omega arith)

  pub hop_walked : (top : ℕ) (w : SkipWalk) (k : ℕ) → w.level ≡ suc k → Walked slots top w → Walked slots top (next w k)
  hop_walked top w k e v =
      let good : w.good ≡ true = v.stays (omega arith) in
      let low = v.falling good in
      let m = v.most in
      hop_cases (Walked slots top) w k
      (record { stays = λ h. refl; most = omega arith; pointed = λ h. v.pointed good; falling = λ h. low })
      (λ g. let f = header_good_lem live.form nand slots w.before (get_or w.pointers k none) (header w k) refl g in
      record {
        stays = λ h. refl;
        most = omega arith;
        pointed = λ h i. good_slots slots (header w k).next i f.pointers;
        falling = λ h. omega (arith, f.serial_below);
      })
      (record { stays = λ h. absurd (omega arith); most = omega arith; pointed = λ h. cc_none h; falling = λ h. cc_none h })
    where
      cc_none : {P : Type 0} → false ≡ true → P
      cc_none h = let z : ◌≡◌ {A = ℕ} 0 1 = cc in absurd (omega arith)

  ended : (n : ℕ) (w : SkipWalk) → w.level ≡ 0 → hops n nand slots live t2 w ≡ w
  unfolding hops
  ended zero w e = refl
  ended (suc n) w e = ap (λ (l : ℕ). hops n nand slots live t2 (hop nand slots live t2 w l)) e ∙ ended n w e

  -- hops beyond those that are left change nothing
  enough : (n m : ℕ) (w : SkipWalk) → hops_left w ≤ n → hops_left w ≤ m → hops n nand slots live t2 w ≡ hops m nand slots live t2 w
  unfolding hops
  enough zero m w a b = sym (ended m w (none_left w.level a))
    where
      none_left : (l : ℕ) → hops_at l w.before ≤ 0 → l ≡ 0
      none_left zero h = refl
      none_left (suc l) h = absurd (omega arith)
  enough (suc n) zero w a b = ended (suc n) w (none_left w.level b)
    where
      none_left : (l : ℕ) → hops_at l w.before ≤ 0 → l ≡ 0
      none_left zero h = refl
      none_left (suc l) h = absurd (omega arith)
  enough (suc n) (suc m) w a b = go w.level refl (λ v. enough n m v)
    where
      go : (l : ℕ) → w.level ≡ l
          → ((v : SkipWalk) → hops_left v ≤ n → hops_left v ≤ m → hops n nand slots live t2 v ≡ hops m nand slots live t2 v)
          → hops n nand slots live t2 (hop nand slots live t2 w w.level)
          ≡ hops m nand slots live t2 (hop nand slots live t2 w w.level)
      go zero e ih = ended (suc n) w e ∙ sym (ended (suc m) w e)
      go (suc k) e ih =
          let f = hop_falls w k in
          let l = left_level w k e in
          ap (λ (l : ℕ). hops n nand slots live t2 (hop nand slots live t2 w l)) e
          ∙ ih (next w k) (omega arith) (omega arith)
          ∙ ap (λ (l : ℕ). hops m nand slots live t2 (hop nand slots live t2 w l)) (sym e)

  -- one hop on, the walk is the same
  pub walk_step : (w : SkipWalk) (k : ℕ) → w.level ≡ suc k
      → hops (hops_left (next w k)) nand slots live t2 (next w k) ≡ hops (hops_left w) nand slots live t2 w
  unfolding hops
  walk_step w k e =
      let f = hop_falls w k in
      let l = left_level w k e in
      let m : hops_left w ≡ suc (w.before + k) = omega arith in
      enough (hops_left (next w k)) (w.before + k) (next w k) (omega arith) (omega arith)
      ∙ ap (λ (l : ℕ). hops (w.before + k) nand slots live t2 (hop nand slots live t2 w l)) (sym e)
      ∙ ap (λ (n : ℕ). hops n nand slots live t2 w) (sym m)

  pub walk_end : (w : SkipWalk) → w.level ≡ 0 → hops (hops_left w) nand slots live t2 w ≡ w
  walk_end w e = ended (hops_left w) w e

  walked_on : (n top : ℕ) (w : SkipWalk) → Walked slots top w → Walked slots top (hops n nand slots live t2 w)
  unfolding hops
  walked_on zero top w v = v
  walked_on (suc n) top w v = go w.level refl (λ u. walked_on n top u)
    where
      go : (l : ℕ) → w.level ≡ l → ((u : SkipWalk) → Walked slots top u → Walked slots top (hops n nand slots live t2 u))
          → Walked slots top (hops n nand slots live t2 (hop nand slots live t2 w w.level))
      go zero e ih = rw (ap (hop nand slots live t2 w) e) (ih w v)
      go (suc k) e ih = rw (ap (hop nand slots live t2 w) e) (ih (next w k) (hop_walked top w k e v))

-- ---- the walk from the heads, and where it leads

pub walk_starts : (slots current : ℕ) (heads : List Pointer) → InSlots slots heads
    → Walked slots current (record { good = true; level = 4; before = current; pointers = heads; moves = 0 })
walk_starts slots current heads h = record { stays = λ a. refl; most = omega arith; pointed = λ a. h; falling = λ a. omega arith }

pub start_begun : (nand : List ℕ) (g : Log) (live : Live) (q : Query) → InSlots g.slots g.heads
    → Begun g (start_of nand g live q)
unfolding start_of skip_walk
start_begun nand g live q h = go (open_is_last g live q)
  where
    v : Walked g.slots g.current (skip_walk nand g live q.t2)
    v =
        walked_on nand g.slots live q.t2 (g.current + 4) g.current _
        (walk_starts g.slots g.current g.heads h)

    go : (b : Bool) → Begun g (cond b (record { good = true; last = true; next = none; before = g.current })
        (reached_by (skip_walk nand g live q.t2)))
    go true = record { sound = λ e. refl; before_most = λ e. omega arith }
    go false = record { sound = λ e. v.pointed (not-false _ e) 0; before_most = v.falling }

-- as the code makes it

module _ (nand : List ℕ) (g : Log) (live : Live) (q : Query) where
  -- where they begin, and the moves on the way there
  pub record Starts (at : Cursor) (moves : ℕ) : Type 0 where
    pub at_is : at ≡ start_of nand g live q
    pub moves_are : moves ≡ moves_of nand g live q

  pub start_none : open_is_last g live q ≡ true → Starts (record { good = true; last = true; next = none; before = g.current }) 0
  unfolding start_of moves_of
  start_none e = record { at_is = rw e; moves_are = rw e }

  pub start_reached : open_is_last g live q ≡ false
      → (w : SkipWalk) → w ≡ skip_walk nand g live q.t2 → (first : Pointer) → first ≡ get_or w.pointers 0 none
      → Starts (record { good = w.good; last = not w.good; next = first; before = w.before }) w.moves
  unfolding start_of moves_of
  start_reached e w is first f = record { at_is = rw (e, ← is, f); moves_are = rw (e, ← is) }

-- How many rows a search finds, whatever the chips hold: 320 for each slot and 320 for the open segment, at most. Serials fall from
-- segment to segment, and a serial is read in its slot, so no slot is visited twice. Assumes nothing.
use mathlib.Core.Path.{◌≡◌, refl}
use mathlib.Core.Bool.{Bool, true, false, cond, not, ◌||◌}
use mathlib.Core.Option.{Option, none, some}
use mathlib.Core.List.{List}
use Prim.Native.Nat.{ℕ, zero, suc, ◌+◌, ◌*◌, ◌≤◌, ◌<◌}
use native.Mathlib.Omega.{arith}
use lib.Dec.{ltb}
use lib.ListN.{length, length-append}
use borrow.Author.Tests.{ltb-true, ltb-false, lt-ltb, le-ltb}
use Rattle.skiplist.specs.Skip.{Live, is_live}
use Rattle.header.specs.declared.Header.{Header}
use Rattle.header.specs.Header.{header_in}
use Rattle.visit.specs.declared.Log.{Log}
use Rattle.visit.specs.declared.Query.{Query}
use Rattle.visit.specs.Visit.{closed_rows, open_rows}
use Rattle.visit.specs.Inner.Sound.{LogSound}
use Rattle.walk.specs.declared.Cursor.{Cursor}
use Rattle.walk.specs.declared.Step.{Step}
use Rattle.walk.specs.declared.Step.TheVariants.{End, Damage, Pass, Visit}
use Rattle.walk.specs.Seek.{header_at, start_of}
use Rattle.walk.specs.Advance.{is_passed, cursor_after, closed_of, advance_of}
use Rattle.walk.specs.Inner.Sound.{Sound}
use Rattle.walk.proofs.Hops.{start_begun}
use Rattle.walk.proofs.Steps.{StepFacts, step_facts}
use Rattle.found.specs.Found.{join_rows, rows_from, closed_found, found_rows, most_found}
use Rattle.found.specs.Inner.Slots.{one_below, slots_below, serial_in}
use Rattle.found.proofs.Matched.{FewIn, closed_few, open_few}
use Rattle.found.proofs.Segments.{after, from_step}

-- ---- the slots whose serial is below a bound

one_most : (serial bound : ℕ) → one_below serial bound ≤ 1
one_most serial bound = go (ltb serial bound)
  where
    go : (t : Bool) → cond t 1 0 ≤ 1
    go true = omega arith
    go false = omega arith

one_fewer : (serial a b : ℕ) → a ≤ b → one_below serial a ≤ one_below serial b
one_fewer serial a b h = go (ltb serial a) refl
  where
    go : (t : Bool) → ltb serial a ≡ t → cond t 1 0 ≤ one_below serial b
    go true e = let l = ltb-true serial a e in rw (lt-ltb serial b (omega arith)) (omega arith)
    go false e = omega arith

module _ (serial : ℕ → ℕ) where
  -- at most all of them
  pub slots_most_lem : (slots bound : ℕ) → slots_below serial slots bound ≤ slots
  unfolding slots_below
  slots_most_lem zero bound = omega arith
  slots_most_lem (suc slot) bound = omega (arith, one_most (serial slot) bound, slots_most_lem slot bound)

  -- under a lower bound no more
  pub slots_fewer : (slots a b : ℕ) → a ≤ b → slots_below serial slots a ≤ slots_below serial slots b
  unfolding slots_below
  slots_fewer zero a b h = omega arith
  slots_fewer (suc slot) a b h = omega (arith, one_fewer (serial slot) a b h, slots_fewer slot a b h)

  -- one fewer where the bound goes down to the serial of one of them
  pub slot_left : (slots slot a b : ℕ) → slot < slots → a ≤ serial slot → serial slot < b
      → suc (slots_below serial slots a) ≤ slots_below serial slots b
  unfolding slots_below
  slot_left zero slot a b h l u = absurd (omega arith)
  slot_left (suc last) slot a b h l u = go (ltb slot last) refl (slot_left last slot a b)
    where
      go : (t : Bool) → ltb slot last ≡ t
          → (slot < last → a ≤ serial slot → serial slot < b → suc (slots_below serial last a) ≤ slots_below serial last b)
          → suc (one_below (serial last) a + slots_below serial last a) ≤ one_below (serial last) b + slots_below serial last b
      go true e ih = omega (arith, ih (ltb-true slot last e) l u, one_fewer (serial last) a b (omega arith))
      go false e ih =
          let same : slot ≡ last = omega (arith, ltb-false slot last e) in
          let out : one_below (serial last) a ≡ 0 = rw (le-ltb (serial last) a (rw same at l)) in
          let one : one_below (serial last) b ≡ 1 = rw (lt-ltb (serial last) b (rw same at u)) in
          omega (arith, slots_fewer last a b (omega arith))

-- ---- a step to a segment is by the header in its slot

pub step_read : (P : Step → Type 0) (nand : List ℕ) (slots : ℕ) (live : Live) (q : Query) (c : Cursor)
    → let header = header_at live.form nand slots c.next c.before in
    P End → P Damage → P (Pass (cursor_after live.form header q))
    → P (Visit (closed_of c.next.slot header) (cursor_after live.form header q)) → P (advance_of nand slots live q c)
unfolding advance_of
step_read P nand slots live q c end damage pass visit =
    go (c.last || not (is_live c.next live)) (not header.good) (is_passed nand c.next.slot header q)
  where
    header : Header
    header = header_at live.form nand slots c.next c.before

    go : (ends bad passed : Bool) → P (cond ends End (cond bad Damage
        (cond passed (Pass (cursor_after live.form header q))
        (Visit (closed_of c.next.slot header) (cursor_after live.form header q)))))
    go true bad passed = end
    go false true passed = damage
    go false false true = pass
    go false false false = visit

-- it goes down to the serial there
abbrev pub SerialRead : List ℕ → Step → Type 0
SerialRead nand End = Unit {0}
SerialRead nand Damage = Unit {0}
SerialRead nand (Pass d) = Unit {0}
SerialRead nand (Visit s d) = d.before ≡ serial_in nand s.slot

pub serial_read : (nand : List ℕ) (slots : ℕ) (live : Live) (q : Query) (c : Cursor) → SerialRead nand (advance_of nand slots live q c)
unfolding header_in
serial_read nand slots live q c = step_read (SerialRead nand) nand slots live q c tt tt tt refl

-- ---- the rows found

-- at most so many rows, where there is no damage
abbrev AtMost : ℕ → Option (List (List ℕ)) → Type 0
AtMost n none = Unit {0}
AtMost n (some rows) = length rows ≤ n

most_less : (n m : ℕ) (o : Option (List (List ℕ))) → n ≤ m → AtMost n o → AtMost m o
most_less n m none h a = tt
most_less n m (some rows) h a = omega arith

-- with the rows of one segment more
most_join : (n : ℕ) (older newer : Option (List (List ℕ))) → AtMost n older → FewIn newer → AtMost (n + 320) (join_rows older newer)
most_join n none newer a b = tt
most_join n (some older) none a b = tt
most_join n (some older) (some newer) a b = omega (arith, length-append older newer)

module _ (nand : List ℕ) (slots : ℕ) (live : Live) (q : Query) (size : length nand ≡ slots * 16384) where
  -- the slots that may yet be visited
  abbrev left : ℕ → ℕ
  left before = slots_below (serial_in nand) slots before

  from_most : (n : ℕ) (c : Cursor) → Sound slots c → AtMost (320 * left c.before) (rows_from n nand slots live q c)
  unfolding rows_from
  from_most zero c sound = omega arith
  from_most (suc n) c sound =
      rw (from_step nand slots live q size n c (advance_of nand slots live q c) refl)
      (go (advance_of nand slots live q c) (step_facts nand slots live q c size sound) (serial_read nand slots live q c)
      (λ d. from_most n d))
    where
      from : Cursor → Option (List (List ℕ))
      from d = rows_from n nand slots live q d

      go : (s : Step) → StepFacts nand slots c.before s → SerialRead nand s
          → ((d : Cursor) → Sound slots d → AtMost (320 * left d.before) (from d))
          → AtMost (320 * left c.before) (after nand slots live q size from c s)
      go End f r ih = omega arith
      go Damage f r ih = tt
      go (Pass d) f r ih =
          let l = slots_fewer (serial_in nand) slots d.before c.before (omega (arith, f.falls)) in
          most_less (320 * left d.before) (320 * left c.before) (from d) (omega arith) (ih d f.sound)
      go (Visit s d) f r ih =
          let inside : s.slot < slots = omega (arith, f.0.inside) in
          let falls = f.1.falls in
          let l = slot_left (serial_in nand) slots s.slot d.before c.before inside (omega arith) (omega arith) in
          most_less (320 * left d.before + 320) (320 * left c.before) (join_rows (from d) (closed_rows nand s q)) (omega arith)
          (most_join (320 * left d.before) (from d) (closed_rows nand s q) (ih d f.1.sound) (closed_few nand s q))

  pub rows_most : (n : ℕ) (c : Cursor) → Sound slots c → (rows : List (List ℕ)) → rows_from n nand slots live q c ≡ some rows
      → length rows ≤ 320 * slots_below (serial_in nand) slots c.before
  rows_most n c sound rows e = rw e at (from_most n c sound)

-- all segments
pub found_most : (nand nor page : List ℕ) (g : Log) (live : Live) (q : Query) → LogSound nand nor g → (rows : List (List ℕ))
    → found_rows nand nor page g live q ≡ some rows → length rows ≤ most_found g.slots
unfolding found_rows
found_most nand nor page g live q sound rows e =
    let m = rw e at (most_join (320 * g.slots) (closed_found nand g live q c) (open_rows nand nor page g q) (closed c.good)
    (open_few nand nor page g q)) in
    omega arith
  where
    c : Cursor
    c = start_of nand g live q

    older : Option (List (List ℕ))
    older = rows_from (g.current + 1) nand g.slots live q c

    closed : (good : Bool) → AtMost (320 * g.slots) (cond good older none)
    closed true =
        let l = slots_most_lem (serial_in nand) g.slots c.before in
        most_less (320 * slots_below (serial_in nand) g.slots c.before) (320 * g.slots) older (omega arith)
        (from_most nand g.slots live q sound.nand_size (g.current + 1) c
        (start_begun nand g live q sound.heads_in).sound)
    closed false = tt

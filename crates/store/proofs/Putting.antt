-- What the parts of an append's lift make: the buffers, NAND, NOR and the state after it. By the tests at a page's sixteenth and a
-- section's sixty-fourth lift. Assumes nothing.
use mathlib.Core.Path.{◌≡◌, refl, sym, ap, subst, ◌∙◌}
use mathlib.Core.Bool.{Bool, true, false, cond, not, ◌&&◌, ◌||◌, false≢true}
use mathlib.Core.List.{List, [], ◌∷◌, map}
use Prim.Native.Nat.{ℕ, zero, suc, ◌+◌, ◌-◌, ◌*◌, ◌/◌, ◌%◌, ◌≤◌, ◌<◌}
use native.Mathlib.Omega.{arith}
use lib.Dec.{eqb}
use lib.IntN.{ℤ}
use lib.ListN.{length, get_or}
use borrow.Author.Tests.{eqb-true, eqb-false}
use Rattle.codec.specs.Area.{part, splice, all_ones}
use Rattle.codec.proofs.Areas.{length_part}
use Rattle.codec.proofs.Truth.{and_left, and_right}
use Rattle.flash.specs.Chip.{slot_of, programmed, erased_page, nor_tree}
use Rattle.lift.specs.Limits.{load_ok, stored}
use Rattle.lift.specs.Record.{record_bytes}
use Rattle.lift.proofs.Codes.{within_limits}
use Rattle.bloom.specs.Bloom.{empty_section, noted}
use Rattle.tree.specs.Plan as Tree
use Rattle.tree.specs.Plan.{plan_on, is_no_room}
use Rattle.tree.specs.Writes.{Writes, writes_of, all_written, all_clear, buckets_after}
use Rattle.bounds.specs.Bounds.{loads_ok}
use Rattle.bounds.specs.Lifts.{pushed, low_with, high_with}
use Rattle.grow.specs.declared.Plan.{Plan}
use Rattle.grow.specs.Inner.Meaning.{meaning, Fitting}
use Rattle.store.specs.declared.State.{State}
use Rattle.store.specs.World.{world, put_world, state_with, live_with, page_with, bloom_with, fills_page, fills_section, nand_with, nor_with, state_given}
use Rattle.store.specs.Calls.{plan_of, nor_clear}
use Rattle.store.specs.declared.fields.Fields.{Fields}
use Rattle.store.specs.Inner.Fields.{fields_of}
use Rattle.store.specs.Inner.Pieces.{Suits}

-- ---- the plan

-- a segment that closes first has lifts; any other has room for one
module _ (tree : List ℕ) (buckets : ℕ) (codes : List ℕ) (code n : ℕ) where
  full_some : is_no_room (plan_on tree buckets n codes code) ≡ true → 1 ≤ n
  unfolding plan_on
  full_some e = go (eqb n 0) refl
    where
      go : (b : Bool) → eqb n 0 ≡ b → 1 ≤ n
      go true u = absurd (false≢true (rw u at e))
      go false u = let v = eqb-false n 0 u in omega arith

  left_room : n ≤ 320 → is_no_room (plan_on tree buckets n codes code) ≡ false → n < 320
  unfolding plan_on
  left_room h e = go (eqb n 320) refl
    where
      go : (b : Bool) → eqb n 320 ≡ b → n < 320
      go true u = let v : n ≡ 320 = eqb-true n 320 u in absurd (false≢true (sym (rw v at e)))
      go false u = let v = eqb-false n 320 u in omega arith

module _ (f : Fields) (nor tree : List ℕ) (codes : List ℕ) (code : ℕ) (p : Plan) (cut : tree ≡ nor_tree nor)
    (past : codes ≡ map stored f.loads)
    (is : meaning p ≡ plan_on tree f.buckets f.count codes code) where
  pub planned : (s : State) (load : ℤ) → fields_of s ≡ f → code ≡ stored load → meaning p ≡ plan_of (world [] nor s) load
  planned s load same e =
      is
      ∙ ap (λ (t : Fields). plan_on tree t.buckets t.count codes code) (sym same)
      ∙ rw (cut, e) (ap (λ (l : List ℕ). plan_on (nor_tree nor) s.buckets s.count l (stored load))
      (past ∙ ap (λ (t : Fields). map stored t.loads) (sym same)))

  pub suited : f.count ≤ 320 → Fitting f.buckets p → Suits f.buckets f.count p
  suited h t = record {
    fits = t;
    full = λ e. some_full f.count (ap is_no_room (sym is) ∙ e);
    room = λ e. room_left f.count h (ap is_no_room (sym is) ∙ e);
  }
    where
      some_full : (n : ℕ) → is_no_room (plan_on tree f.buckets n codes code) ≡ true → 1 ≤ n
      some_full = λ n. full_some tree f.buckets codes code n

      room_left : (n : ℕ) → n ≤ 320 → is_no_room (plan_on tree f.buckets n codes code) ≡ false → n < 320
      room_left = λ n. left_room tree f.buckets codes code n

-- the last loads as stored are at most 150,001
pub codes_most : (loads : List ℤ) → loads_ok loads ≡ true → (k : ℕ) → get_or (map stored loads) k 0 ≤ 150001
unfolding loads_ok
codes_most [] e k = omega arith
codes_most (l ∷ ls) e zero = (within_limits l (and_left (load_ok l) (loads_ok ls) e)).high
codes_most (l ∷ ls) e (suc k) = codes_most ls (and_right (load_ok l) (loads_ok ls) e) k

pub codes_within : (loads : List ℤ) (codes : List ℕ) → codes ≡ map stored loads → loads_ok loads ≡ true → (k : ℕ) → k < 13
    → get_or codes k 0 ≤ 150001
codes_within loads codes e h k l = rw e (codes_most loads h k)

pub tree_long : (nor tree : List ℕ) → tree ≡ nor_tree nor → length nor ≡ 6144 → 4608 ≤ length tree
tree_long nor tree e size = omega (arith, ap length e ∙ length_part nor 0 4608 (omega arith))

-- ---- NOR bytes due for writing

all_tested : (s : State) (nor : List ℕ) (ws : Writes) (code : ℕ) (load : ℤ) (p : Tree.Plan) (a b : Bool) → code ≡ stored load
    → ws ≡ writes_of p s.buckets code s.count → a ≡ all_clear nor ws
    → b ≡ (not (eqb (s.count % 64) 63) || all_ones (part nor (4608 + s.count / 64 * 128) 128))
    → (a && b) ≡ nor_clear (world [] nor s) load p
unfolding nor_clear
all_tested s nor ws code load p a b k e f g = rw (f, g, e, k)

pub clear_all : (s : State) (f : Fields) (nor : List ℕ) (ws : Writes) (code : ℕ) (load : ℤ) (p : Tree.Plan) (a b : Bool) → fields_of s ≡ f
    → code ≡ stored load → ws ≡ writes_of p f.buckets code f.count → a ≡ all_clear nor ws
    → b ≡ (not (eqb (f.count % 64) 63) || all_ones (part nor (4608 + f.count / 64 * 128) 128))
    → (a && b) ≡ nor_clear (world [] nor s) load p
clear_all s f nor ws code load p a b same k e c g =
    subst (λ (t : Fields). ws ≡ writes_of p t.buckets code t.count
    → b ≡ (not (eqb (t.count % 64) 63) || all_ones (part nor (4608 + t.count / 64 * 128) 128))
    → (a && b) ≡ nor_clear (world [] nor s) load p) same tested e g
  where
    tested : ws ≡ writes_of p s.buckets code s.count
        → b ≡ (not (eqb (s.count % 64) 63) || all_ones (part nor (4608 + s.count / 64 * 128) 128))
        → (a && b) ≡ nor_clear (world [] nor s) load p
    tested u v = all_tested s nor ws code load p a b k u c v

-- ---- the lift

module _ (s : State) (time code : ℕ) (load : ℤ) (note : List ℕ) (coded : code ≡ stored load) where
  pub recorded_nand : (nand nand' : List ℕ) (slots slot : ℕ) (full : List ℕ) → slot ≡ slot_of s.current slots
      → full ≡ splice s.page (s.count % 16 * 32) (record_bytes time code note)
      → nand' ≡ cond (eqb (s.count % 16) 15) (programmed nand slot (s.count / 16) full) nand
      → nand' ≡ nand_with nand s slots time load note
  unfolding nand_with
  recorded_nand nand nand' slots slot full e f g = rw (← coded, ← f, ← e) g

  pub recorded_page : (full r : List ℕ) → full ≡ splice s.page (s.count % 16 * 32) (record_bytes time code note)
      → r ≡ cond (eqb (s.count % 16) 15) erased_page full → r ≡ cond (fills_page s) erased_page (page_with s time load note)
  recorded_page full r f g = rw (← coded, ← f) g

  pub indexed_nor : (p : Tree.Plan) (ws : Writes) (nor nor' nor'' full : List ℕ) → ws ≡ writes_of p s.buckets code s.count
      → nor' ≡ all_written nor ws → full ≡ noted s.bloom code
      → nor'' ≡ cond (eqb (s.count % 64) 63) (splice nor' (4608 + s.count / 64 * 128) full) nor' → nor'' ≡ nor_with nor s load p
  unfolding nor_with
  indexed_nor p ws nor nor' nor'' full e f g h = rw (← coded, ← e, ← f, ← g) h

  pub indexed_section : (full r : List ℕ) → full ≡ noted s.bloom code → r ≡ cond (eqb (s.count % 64) 63) empty_section full
      → r ≡ cond (fills_section s) empty_section (bloom_with s load)
  indexed_section full r f g = rw (← coded, ← f) g

pub counted_made : (s : State) (time : ℕ) (load : ℤ) (buckets : ℕ) (page section : List ℕ) (loads : List ℤ) (low high : ℤ)
    (start : ℕ) → loads ≡ pushed s.loads s.count load → low ≡ low_with s.count s.low load → high ≡ high_with s.count s.high load
    → start ≡ cond (eqb s.count 0) time s.start
    → ◌≡◌ {A = State} (record {
      oldest = s.oldest;
      current = s.current;
      count = s.count + 1;
      buckets = buckets;
      next = time;
      heads = s.heads;
      loads = loads;
      page = page;
      bloom = section;
      start = start;
      low = low;
      high = high;
    }) (state_given s time load time buckets page section)
unfolding state_given
counted_made s time load buckets page section loads low high start a b c d = rw (a, b, c, d)

pub put_made : (nand nor nand' nor' : List ℕ) (s s' : State) (slots time : ℕ) (z load : ℤ) (note : List ℕ) (p : Tree.Plan)
    (buckets : ℕ) (page section : List ℕ)
    → z ≡ load → nand' ≡ nand_with nand s slots time load note → nor' ≡ nor_with nor s load p
    → page ≡ cond (fills_page s) erased_page (page_with s time load note)
    → section ≡ cond (fills_section s) empty_section (bloom_with s load)
    → buckets ≡ buckets_after p s.buckets → s' ≡ state_given s time z time buckets page section
    → world nand' nor' s' ≡ put_world (world nand nor s) slots time load note p
unfolding put_world state_with live_with nand_with nor_with state_given
put_made nand nor nand' nor' s s' slots time z load note p buckets page section k a b c d e f =
    let last : time + 0 ≡ time = omega arith in rw (last, a, b, f, c, d, e, k)

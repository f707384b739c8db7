-- What the state's methods make, field by field, is what the definitions make. Assumes nothing.
use mathlib.Core.Path.{◌≡◌}
use mathlib.Core.List.{List}
use Prim.Native.Nat.{ℕ, ◌+◌, ◌-◌}
use native.Mathlib.Omega.{arith}
use lib.IntN.{ℤ, pos}
use lib.ListN.{length, replicate}
use Rattle.flash.specs.Chip.{slot_of, chip_erased, erased_page}
use Rattle.lift.specs.Limits.{stored}
use Rattle.bloom.specs.Bloom.{empty_section}
use Rattle.form.specs.declared.Form.TheVariants.{New}
use Rattle.skiplist.specs.declared.Pointer.{Pointer}
use Rattle.skiplist.specs.Skip.{none, pointer, level_of, heads_after}
use Rattle.header.specs.declared.Closing.{Closing}
use Rattle.segment.specs.Pages.{close_programmed}
use Rattle.bounds.specs.Lifts.{no_loads}
use Rattle.store.specs.declared.State.{State}
use Rattle.store.specs.World.{world, closing, moved_on, close_world}
use Rattle.store.specs.Calls.{formatted}

pub formatted_made : (heads : List Pointer) (loads : List ℤ) (page bloom : List ℕ) → heads ≡ replicate 4 none → loads ≡ no_loads
    → page ≡ erased_page → bloom ≡ empty_section
    → ◌≡◌ {A = State} (record {
      oldest = 1;
      current = 1;
      count = 0;
      buckets = 0;
      next = 0;
      heads = heads;
      loads = loads;
      page = page;
      bloom = bloom;
      start = 0;
      low = pos 0;
      high = pos 0;
    }) formatted
unfolding formatted
formatted_made heads loads page bloom p q r t = rw (p, q, r, t)

pub closing_made : (s : State) (low high : ℕ) → low ≡ stored s.low → high ≡ stored s.high
    → ◌≡◌ {A = Closing} (record {
      form = New;
      serial = s.current;
      count = s.count;
      buckets = s.buckets;
      start = s.start;
      end = s.next;
      low = low;
      high = high;
      heads = s.heads;
      page = s.page;
      bloom = s.bloom;
    }) (closing New s)
unfolding closing
closing_made s low high p q = let e : s.next - 0 ≡ s.next = omega arith in rw (p, q, e)

-- ---- a close

pub moved_made : (s : State) (slot : ℕ) (heads : List Pointer) (loads : List ℤ) (page bloom : List ℕ)
    → heads ≡ heads_after s.heads (level_of s.current) (pointer slot s.current s.start) → loads ≡ no_loads
    → page ≡ erased_page → bloom ≡ empty_section
    → ◌≡◌ {A = State} (record {
      oldest = s.oldest;
      current = s.current + 1;
      count = 0;
      buckets = 0;
      next = s.next;
      heads = heads;
      loads = loads;
      page = page;
      bloom = bloom;
      start = 0;
      low = pos 0;
      high = pos 0;
    }) (moved_on New s slot)
unfolding moved_on
moved_made s slot heads loads page bloom e f g h = rw (e, f, g, h)

module _ (nand nor nand' nor' : List ℕ) (s s' : State) (slots slot : ℕ) (c : Closing) where
  -- NAND programmed, NOR erased, the next serial open
  pub closed_made : slot ≡ slot_of s.current slots → c ≡ closing New s → nand' ≡ close_programmed nand nor slot c
      → nor' ≡ chip_erased (length nor) → s' ≡ moved_on New s slot → world nand' nor' s' ≡ close_world (world nand nor s) slots
  unfolding close_world
  closed_made e f g h i = rw (g, h, i, f, e)

-- `whole_log::gather_open` meets its contract: no lifts, damage, or the set that is found in the open segment.
use mathlib.Core.Path.{◌≡◌, refl, sym, ap, ◌∙◌}
use lib.ListN.{set}
use Rattle.bitset.specs.declared.Bits.{Bits}
use Rattle.sweep.specs.declared.Sweep.{Sweep}
use Rattle.whole_log.proofs.Segments.{open_empty}
use Rattle.whole_log.proofs.gather_open.Goals as goal

pub returns-then-g-eq0-clause-put : goal.returns-then-g-eq0-clause-put
returns-then-g-eq0-clause-put c =
    let a = c.args in
    let is = open_empty a.nand.now a.nor.now a.page.now a.g a.q c.if-g-eq0.true in
    let empty : ◌≡◌ {A = Bits} c.empty.result (record { words = c.empty.result.words }) = refl in
    record {
      good = rw is refl;
      way_is = ap (set a.way.now a.g.slots) c.slot_of.ensures.0;
      sets_are = ap (λ (b : Bits). set a.sets.now a.g.slots b)
          (empty ∙ ap (λ ws. record { words = ws }) c.empty.ensures ∙ sym (ap (λ (m : Sweep). m.set) is));
    }

-- `in_place::flush_section` meets its contract: a section goes out with its sixty-fourth lift.
use mathlib.Core.Path.{refl, ap, ◌∙◌}
use Prim.Native.Nat.{◌+◌, ◌*◌, ◌/◌}
use Rattle.codec.specs.Area.{splice}
use Rattle.codec.proofs.Areas.{part_from}
use Rattle.bloom.specs.Bloom.{empty_section}
use Rattle.append_parts.proofs.Choices.{chosen, passed}
use Rattle.in_place.proofs.flush_section.Goals as goal

pub returns-then-n-ne-LAST_IN_SECTION : goal.returns-then-n-ne-LAST_IN_SECTION
returns-then-n-ne-LAST_IN_SECTION c = record { area = passed _ _ _ _ c.if-n-ne-LAST_IN_SECTION.true; nor = passed _ _ _ _ c.if-n-ne-LAST_IN_SECTION.true }

pub returns : goal.returns
unfolding empty_section
returns c =
    let a = c.args in
    let full = c.if-n-ne-LAST_IN_SECTION.false in
    record {
      area = chosen _ _ _ _ _ full c.fill.ensures;
      nor = chosen _ _ _ _ _ full (c.copy.ensures
          ∙ ap (splice a.nor.now (4608 + a.count / 64 * 128)) (part_from a.b.now 639 767 128 refl));
    }

-- `found::ahead::onward` meets its contract: segments that are passed over give no rows, and serials fall.
use mathlib.Core.Path.{refl, sym, ◌∙◌}
use Rattle.found.proofs.PassedOver.{passed_end, passed_damage, passed_less, passed_on, passed_visit}
use native.Mathlib.Omega.{arith}
use Rattle.found.proofs.ahead.onward.Goals as goal

pub loop-d-init : goal.loop-d-init
loop-d-init c = record { sound = c.requires.sound; rows = refl; low = omega arith }

pub returns-in-End : goal.returns-in-End
returns-in-End c =
    passed_end _ _ _ _ c.requires.nand_len.0 _ _ c.loop-d.invariant (sym c.one_on-step.ensures.step ∙ c.in-End.is)

pub returns-in-Damage : goal.returns-in-Damage
returns-in-Damage c =
    passed_damage _ _ _ _ c.requires.nand_len.0 _ _ c.loop-d.invariant (sym c.one_on-step.ensures.step ∙ c.in-Damage.is)

pub loop-d-smaller : goal.loop-d-smaller
loop-d-smaller c =
    passed_less _ _ _ _ c.requires.nand_len.0 _ _ c.loop-d.invariant _ (sym c.one_on-step.ensures.step ∙ c.in-Pass.is)

pub loop-d-preserved : goal.loop-d-preserved
loop-d-preserved c =
    passed_on _ _ _ _ c.requires.nand_len.0 _ _ c.loop-d.invariant _ (sym c.one_on-step.ensures.step ∙ c.in-Pass.is)

pub returns-in-Visit : goal.returns-in-Visit
returns-in-Visit c =
    passed_visit _ _ _ _ c.requires.nand_len.0 _ _ c.loop-d.invariant _ _ (sym c.one_on-step.ensures.step ∙ c.in-Visit.is)

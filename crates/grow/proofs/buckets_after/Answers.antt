-- `grow::buckets_after` meets its contract, case by case.
use mathlib.Core.Logic.{inl, inr}
use Rattle.tree.specs.Writes.{buckets_after}
use Rattle.grow.proofs.buckets_after.Goals as goal

pub returns-in-Damage : goal.returns-in-Damage
unfolding buckets_after
returns-in-Damage c = elim c.in-Damage.is [ inl e ↦ rw e | inr (b, i, e) ↦ rw e ]

pub returns-in-Full : goal.returns-in-Full
unfolding buckets_after
returns-in-Full c = elim c.in-Full.is [ inl e ↦ rw e | inr e ↦ rw e ]

pub returns-in-Child : goal.returns-in-Child
unfolding buckets_after
returns-in-Child c = elim c.in-Child.is [ inl (b, side, x, y, e) ↦ rw e | inr (b, m, side, x, y, e) ↦ rw e ]

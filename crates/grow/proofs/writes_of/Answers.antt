-- `grow::writes_of` meets its contract, case by case.
use Rattle.std.specs.Prelude.{Some, None}
use mathlib.Core.Path.{refl}
use mathlib.Core.Logic.{inl, inr}
use Rattle.tree.specs.Writes.{writes_of}
use Rattle.grow.proofs.Writing.{in_tree}
use Rattle.grow.proofs.writes_of.Goals as goal

pub returns-in-Damage : goal.returns-in-Damage
unfolding writes_of
returns-in-Damage c =
    let both = in_tree c.args.p c.args.buckets c.args.code c.args.position c.requires.fitting c.requires.buckets_le_buckets_most
    _ c.in-Damage.is refl in
    record { is = both.0; inside = both.1 }

pub returns-in-Full : goal.returns-in-Full
unfolding writes_of
returns-in-Full c =
    elim c.in-Full.is [
      | inl e ↦ let both = in_tree c.args.p c.args.buckets c.args.code c.args.position c.requires.fitting c.requires.buckets_le_buckets_most c.grown.result e c.grown.ensures in record { is = both.0; inside = both.1 }
      | inr e ↦ let both = in_tree c.args.p c.args.buckets c.args.code c.args.position c.requires.fitting c.requires.buckets_le_buckets_most c.grown.result e c.grown.ensures in record { is = both.0; inside = both.1 }
    ]

pub returns-in-Entry : goal.returns-in-Entry
unfolding writes_of
returns-in-Entry c =
    let both = in_tree c.args.p c.args.buckets c.args.code c.args.position c.requires.fitting c.requires.buckets_le_buckets_most
    (record { mid = None; child = None; range = None; entry = Some c.entry_write.result }) c.in-Entry.is (rw c.entry_write.ensures refl) in
    record { is = both.0; inside = both.1 }

pub returns-in-Child : goal.returns-in-Child
unfolding writes_of
returns-in-Child c =
    let both = in_tree c.args.p c.args.buckets c.args.code c.args.position c.requires.fitting c.requires.buckets_le_buckets_most
    _ c.in-Child.is (rw (c.grown-in-Child.ensures, c.child_write-child.ensures)) in
    record { is = both.0; inside = both.1 }

pub returns-in-Split : goal.returns-in-Split
unfolding writes_of
returns-in-Split c =
    let both = in_tree c.args.p c.args.buckets c.args.code c.args.position c.requires.fitting c.requires.buckets_le_buckets_most
    _ c.in-Split.is (rw (c.grown-in-Split.ensures, c.child_write-child-in-Split.ensures, c.mid_write-mid.ensures)) in
    record { is = both.0; inside = both.1 }

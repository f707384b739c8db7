-- `tree::bucket_of` meets its contract.
use mathlib.Core.Path.{refl, ap, ◌∙◌}
use Prim.Native.Nat.{ℕ, ◌+◌}
use Rattle.codec.specs.Area.{part}
use Rattle.codec.proofs.Areas.{part_from}
use Rattle.tree.proofs.bucket_of.Goals as goal

pub returns : goal.returns
returns c =
    let a = c.start_of-a.result in
    let tree = c.args.tree.now in
    part_from tree a (a + 128) 128 refl ∙ ap (λ (n : ℕ). part tree n 128) c.start_of-a.ensures

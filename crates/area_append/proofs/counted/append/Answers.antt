-- `area_append::counted::append` meets its contract: refused by a ground from 1 to 8 or by 3 of the counts, else it goes on.
use mathlib.Core.Path.{◌≡◌, refl, sym, ap, ◌∙◌}
use Rattle.std.proofs.lemmas.Result.{err_from_is_err_and}
use Rattle.grounds.proofs.Numbers.{refused}
use mathlib.Core.Bool.{Bool}
use lib.IntN.{ℤ}
use lib.ListN.{length}
use mir.Syntax.{w32}
use mir.Val.{to_z, of_z}
use mir.ValLaws.{to_z-of_z}
use Rattle.grounds.specs.Numbers.{number_in}
use Rattle.counts.specs.Counts.{counts_broken}
use Rattle.counts.specs.CountsBytes.{counts_in}
use Rattle.store.specs.Inner.Pieces.{entry_ground}
use Rattle.keeping.specs.Keeping.{with_ground}
use Rattle.keeping.proofs.Appends.{append_early, passed}
use Rattle.state_bytes.specs.StateBytes.{state_in}
use Rattle.areas.specs.Areas.{append_kept_called}
use Rattle.areas.proofs.KeptCounts.{refused_kept}
use native.Mathlib.Omega.{arith}
use Rattle.area_append.proofs.counted.append.Goals as goal

pub returns-in_err-with_ground_3 : goal.returns-in_err-with_ground_3
unfolding append_kept_called
returns-in_err-with_ground_3 c =
    let a = c.args in
    let load_is = to_z-of_z w32 a.load c.ranges.load in
    let judged = c.lift_ground-plain.ensures
    ∙ ap (λ (z : ℤ). entry_ground (state_in a.state.now) (length a.nand.now) (length a.nor.now) a.slots a.time z) load_is in
    let number = c.in_err-with_ground_3.ensures ∙ ap (λ (t : Bool). with_ground 3 t (number_in c.lift_ground-plain.result)) c.are_broken.ensures in
    let p = err_from_is_err_and c.from_residual.result c.from_residual.ensures.1 in
    rw (p.1, p.2)
    (refused_kept a.state.now a.counts.now a.nand.now a.nor.now _ c.requires.0 c.requires.1 _ (refused _)
    (append_early a.nand.now a.nor.now (state_in a.state.now) a.slots a.time a.load a.note.now (counts_in a.counts.now) _
    judged _ number (refused _)))

pub append_counted-requires : goal.append_counted-requires
append_counted-requires c =
    let a = c.args in
    let load_is = to_z-of_z w32 a.load c.ranges.load in
    let judged = c.lift_ground-plain.ensures
    ∙ ap (λ (z : ℤ). entry_ground (state_in a.state.now) (length a.nand.now) (length a.nor.now) a.slots a.time z) load_is in
    let number = c.in_ok-with_ground_3.ensures ∙ ap (λ (t : Bool). with_ground 3 t (number_in c.lift_ground-plain.result)) c.are_broken.ensures in
    let t = passed a.nand.now a.nor.now (state_in a.state.now) a.slots a.time a.load a.note.now (counts_in a.counts.now) _
    judged _ number refl in
    record {
      size = c.requires.0;
      counts_size = c.requires.1;
      entered = ap (λ (z : ℤ). entry_ground (state_in a.state.now) (length a.nand.now) (length a.nor.now) a.slots a.time z)
          load_is ∙ sym judged ∙ t.1;
      unbroken = t.0;
    }

pub returns : goal.returns
returns c =
    let load_is : to_z w32 (of_z w32 c.args.load) ≡ c.args.load = to_z-of_z w32 c.args.load c.ranges.load in
    let a = c.args in
    c.append_counted.ensures
    ∙ ap (λ (z : ℤ). append_kept_called a.state.now a.counts.now a.nand.now a.nor.now a.slots a.time z a.note.now) load_is

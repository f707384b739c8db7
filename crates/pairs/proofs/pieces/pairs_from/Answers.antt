-- `pieces::pairs_from`: a refusal for grounds 1 to 3 of either store, else the pairs of both logs.
use mathlib.Core.Path.{◌≡◌, refl, sym, ◌∙◌}
use Prim.Native.Nat.{ℕ}
use native.Mathlib.Omega.{arith}
use Rattle.std.proofs.lemmas.Result.{err_from_is_err_and}
use Rattle.grounds.specs.Numbers.{number_in}
use Rattle.grounds.proofs.Numbers.{refused}
use Rattle.lift.specs.Limits.{stored}
use Rattle.bounds.specs.Grounds.{sooner}
use Rattle.bounds.proofs.TriedFirst.{sooner_none}
use Rattle.pairs.proofs.Paired.{room_made}
use Rattle.pairs.proofs.Outcomes.{pairs_refused, pairs_done}
use Rattle.pairs.proofs.pieces.pairs_from.Goals.{In_ok-sooner}
use Rattle.pairs.proofs.pieces.pairs_from.Goals as goal

-- neither store is refused
none_sooner : (c : In_ok-sooner) → 0 ≡ sooner (number_in c.args.n1) (number_in c.args.n2)
none_sooner c = rw c.in_ok-sooner.was at c.sooner.ensures

pub returns-in_err-sooner : goal.returns-in_err-sooner
returns-in_err-sooner c =
    let a = c.args in
    let r = err_from_is_err_and c.from_residual.result c.from_residual.ensures.1 in
    let is = rw c.in_err-sooner.was at c.sooner.ensures in
    λ s1 s2 slots1 slots2 j1 j2 e1 p1 e2 p2. rw (r.1, r.2)
    (pairs_refused a.nand1.now a.nor1.now s1 slots1 _ j1 a.nand2.now a.nor2.now s2 slots2 _ j2 a.area.now _ is (refused _))

pub pair_up-requires : goal.pair_up-requires
unfolding stored
pair_up-requires c =
    let z = sooner_none (number_in c.args.n1) (number_in c.args.n2) (sym (none_sooner (goal.at.pair_up-requires c).In_ok-sooner)) in
    let first = c.requires.log_sound.0 z.0 in
    let second = c.requires.log_sound_2.0 z.1 in
    record {
      log_sound = (first.0, room_made _ _ _ first.1 refl refl, c.requires.log_sound.1);
      log_sound_2 = (second.0, room_made _ _ _ second.1 refl refl, c.requires.log_sound_2.1);
      le_k1 = rw c.everything-q.ensures (omega arith);
    }

pub returns : goal.returns
returns c =
    let a = c.args in
    λ s1 s2 slots1 slots2 j1 j2 e1 p1 e2 p2. pairs_done a.nand1.now a.nor1.now s1 slots1 _ j1 a.nand2.now
    a.nor2.now s2 slots2 _ j2 a.area.now 0 (none_sooner (goal.at.returns c).In_ok-sooner) refl _ _ _ _ e1 p1 e2 p2 _
    (rw c.everything-q.ensures at c.pair_up.ensures)

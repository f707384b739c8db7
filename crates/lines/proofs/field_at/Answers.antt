-- `lines::field_at` meets its contract, by the turns of the reading.
use Rattle.std.proofs.Common.{◌≡◌, ◌+◌, ◌-◌, take, drop, ◌∙◌, arith}
use Rattle.std.proofs.lemmas.List.{length-take, length-drop}
use Rattle.codec.specs.Area.{part}
use Rattle.lines.proofs.Reading.{read_next, read_room, read_bound, read_all, columns_are}
use Rattle.lines.proofs.field_at.Goals as goal

pub read_on-f-requires : goal.read_on-f-requires
read_on-f-requires c = read_room c.loop-b.b-index _ c.loop-b.invariant.below (omega arith)

pub loop-b-preserved : goal.loop-b-preserved
loop-b-preserved c = record {
  rest = rw c.read_on-f.ensures (read_next _ _ c.loop-b.b-index (omega arith) ∙ c.loop-b.invariant.rest);
  below = rw c.read_on-f.ensures (read_bound _ _ _ c.loop-b.invariant.below);
}

pub returns : goal.returns
returns c =
    let e : take (c.args.at + c.args.width - c.args.at) (drop c.args.at c.args.s.now) ≡ part c.args.s.now c.args.at c.args.width =
    columns_are c.args.s.now c.args.at c.args.width c.requires.0 in
    rw (← e) (read_all _ _ _ _ (simp (length-take, length-drop) (omega arith)) c.loop-b.auto.b-index-end c.loop-b-test.false
    c.loop-b.invariant.rest c.loop-b.invariant.below)

-- `lines::field_at`: what is left to read from here gives what the whole gives, and n columns make a number below 10 ^ n. Assumes nothing.
use Rattle.std.proofs.Common.{◌≡◌, ◌<◌, ◌^◌, drop}
use Rattle.lines.specs.Columns.{read_from, field_in, value_of}
use Rattle.lines.proofs.field_at.Given as goal

abbrev pub invariant-loop-b : goal.invariant-loop-b
invariant-loop-b l = record {
  rest : read_from l.f (drop l.b-index l.b-items) ≡ field_in l.b-items;
  below : value_of l.f < 10 ^ l.b-index;
}

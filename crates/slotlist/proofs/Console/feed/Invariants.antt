-- `slotlist::Console::feed` meets its contract. The invariant: the bytes that are left, typed from here, give what all give.
use Rattle.std.proofs.Common.{◌≡◌, drop}
use Rattle.desk.specs.Obeyed.{desk, typed_all}
use Rattle.slotlist.proofs.Console.feed.Given as goal

abbrev pub invariant-loop-b : goal.invariant-loop-b
invariant-loop-b g l =
    typed_all (desk l.self.nand l.self.nor l.self.reader) (drop l.b-index l.bytes)
    ≡ typed_all (desk l.initial.self.nand l.initial.self.nor l.initial.self.reader) l.bytes

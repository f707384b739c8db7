-- `service_page::put_plates` meets its contract. The invariant: the lines that are left, written, give what the whole gives.
use Rattle.std.proofs.Common.{◌≡◌, ◌+◌, ◌*◌, ◌≤◌, length}
use Rattle.codec.specs.Area.{splice}
use Rattle.service_page.specs.Page.{plate_lines, text_of}
use Rattle.service_page.proofs.put_plates.Given as goal

abbrev pub invariant-loop-plate : goal.invariant-loop-plate
invariant-loop-plate l = record {
  room : l.to + 41 * l.plate ≤ length l.s;
  whole : splice l.s l.to (text_of (plate_lines l.counts l.plate)) ≡ splice l.initial.s l.at (text_of (plate_lines l.counts 22));
}

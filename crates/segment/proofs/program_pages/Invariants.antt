-- `program_pages`: what is left to program from page p on gives what the whole gives.
use Rattle.std.proofs.Common.{◌≡◌, ◌-◌}
use Rattle.segment.specs.Pages.{pages_programmed}
use Rattle.segment.proofs.program_pages.Given as goal

abbrev pub invariant-loop-p : goal.invariant-loop-p
invariant-loop-p l = pages_programmed (32 - l.p) l.p l.nand l.nor l.slot l.c ≡ pages_programmed 32 0 l.initial.nand l.nor l.slot l.c

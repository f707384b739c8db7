-- `bloom_page`: fragment by fragment.
use Rattle.std.proofs.Common.{◌*◌}
use Rattle.bloom.specs.Pages.{sections_from, bloom_page}
use Rattle.bloom.proofs.Filling.{Filled}
use Rattle.bloom.proofs.bloom_page.Given as goal

abbrev pub invariant-loop-j : goal.invariant-loop-j
invariant-loop-j l = Filled (bloom_page (sections_from l.nor l.buffer l.count) l.i) l.d (l.j * l.l)

-- `in_some`: what is left to look at from section j answers as the whole does.
use Rattle.std.proofs.Common.{◌≡◌, ◌-◌}
use Rattle.bloom.specs.Bloom.{some_set}
use Rattle.bloom.specs.Pages.{each, section_in, sections_in}
use Rattle.bloom.proofs.in_some.Given as goal

abbrev pub invariant-loop-j : goal.invariant-loop-j
invariant-loop-j l = some_set (each (section_in l.pages l.l) l.j (l.s - l.j)) l.b ≡ some_set (sections_in l.pages l.s) l.b

-- `pages_erased`: what is left to look at from page p on answers as the whole does.
use Rattle.std.proofs.Common.{◌≡◌, ◌-◌}
use Rattle.segment.specs.Pages.{pages_erased}
use Rattle.segment.proofs.pages_erased.Given as goal

abbrev pub invariant-loop-p : goal.invariant-loop-p
invariant-loop-p l = pages_erased (32 - l.p) l.p l.nand l.slot l.count l.buckets ≡ pages_erased 32 0 l.nand l.slot l.count l.buckets

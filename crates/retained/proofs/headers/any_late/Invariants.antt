-- `any_late`: what is left to look at answers as the whole does.
use Rattle.std.proofs.Common.{◌≡◌, drop}
use Rattle.retained.specs.Retained.{any_late}
use Rattle.retained.proofs.headers.any_late.Given as goal

abbrev pub invariant-loop-q : goal.invariant-loop-q
invariant-loop-q l = any_late l.oldest l.first (drop l.q-index l.fn.p) ≡ any_late l.oldest l.first l.fn.p

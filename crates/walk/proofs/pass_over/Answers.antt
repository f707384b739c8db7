-- `walk::pass_over` meets its contract: the span, then the Bloom pages for equal loads.
use mathlib.Core.Path.{◌≡◌, ap, ◌∙◌}
use lib.ListN.{length}
use Rattle.codec.proofs.Areas.{length_part}
use Rattle.walk.proofs.Steps.{passed_span, passed_not, passed_bloom}
use native.Mathlib.Omega.{arith}
use Rattle.walk.proofs.pass_over.Goals as goal

pub returns-then-misses : goal.returns-then-misses
returns-then-misses c =
    λ slots before.
    let p = passed_span _ _ _ _ slots before _ _ c.high_in.ensures c.low_in.ensures
    c.if-misses.true in
    (p.passed_is, p.bloom_is)

pub returns-then-q : goal.returns-then-q
returns-then-q c =
    λ slots before.
    let p = passed_not _ _ _ _ slots before _ _ c.high_in.ensures
    c.low_in.ensures c.if-misses.false c.if-q.true in
    (p.passed_is, p.bloom_is)

pub try_bits-t-requires : goal.try_bits-t-requires
try_bits-t-requires c =
    let l : length c.pages_of-pages.result.now ≡ 1024 =
    ap length c.pages_of-pages.ensures ∙ length_part _ _ 1024 (omega (arith, c.requires.slot_width_in_bounds, c.requires.bound)) in
    (omega (arith, l), omega (arith, c.count_in-count.ensures, c.requires.bound.0), omega (arith, c.count_in-count.ensures, c.requires.bound.1), c.requires.slot_width_in_bounds.2)

pub returns : goal.returns
returns c =
    λ slots before.
    let p = passed_bloom _ _ _ _ slots before _ _ c.high_in.ensures
    c.low_in.ensures
    c.if-misses.false c.if-q.false _
    c.pages_of-pages.ensures _ c.count_in-count.ensures _ _ c.try_bits-t.ensures.held c.try_bits-t.ensures.pages in
    (p.passed_is, p.bloom_is)

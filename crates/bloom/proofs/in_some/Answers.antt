-- `in_some`: what is left to look at from section j answers as the whole does.
use Rattle.std.proofs.Common.{◌∙◌, true, false, arith}
use Rattle.bloom.specs.Pages.{section_in}
use Rattle.bloom.proofs.Turns.{fragment_fits, bit_there, some_start, some_found, some_next, some_none}
use Rattle.bloom.proofs.in_some.Goals as goal

pub loop-j-init : goal.loop-j-init
loop-j-init c = some_start _ _ _ _ c.requires.3

pub stored_byte-requires : goal.stored_byte-requires
stored_byte-requires c =
    let p = c.requires in
    let f = fragment_fits _ _ _ p.1 p.2 p.3 c.loop-j-test.true in
    (p.0, f.0, f.1, omega arith)

pub returns-then-has_bit : goal.returns-then-has_bit
returns-then-has_bit c =
    some_found (section_in c.args.pages.now c.args.l) _ _ _ c.loop-j-test.true
    (bit_there _ _ _ _ true c.stored_byte.ensures c.has_bit.ensures c.if-has_bit.true)
    ∙ c.loop-j.invariant

pub loop-j-preserved : goal.loop-j-preserved
loop-j-preserved c =
    some_next (section_in c.args.pages.now c.args.l) _ _ _ c.loop-j-test.true
    (bit_there _ _ _ _ false c.stored_byte.ensures c.has_bit.ensures c.if-has_bit.false)
    ∙ c.loop-j.invariant

pub returns : goal.returns
returns c = some_none (section_in c.args.pages.now c.args.l) _ _ _ (omega arith) ∙ c.loop-j.invariant

-- `bloom::try_bits` meets its contract: it ends at the first bit, the second or the third.
use Rattle.std.proofs.Common.{sym, ◌∙◌, arith}
use Rattle.bloom.proofs.Fragments.{fragment_length_lem}
use Rattle.bloom.proofs.BitsTried.{the_bits, bit_small, trial_one, trial_two, trial_three}
use Rattle.bloom.proofs.try_bits.Goals as goal

pub in_some-requires : goal.in_some-requires
in_some-requires c = (c.requires.0, omega arith, omega arith, c.fragment_of-l.ensures, bit_small _ _ (the_bits _ _ c.bits_of.ensures).first)

pub in_some-requires-2 : goal.in_some-requires-2
in_some-requires-2 c = (c.requires.0, omega arith, omega arith, c.fragment_of-l.ensures, bit_small _ _ (the_bits _ _ c.bits_of.ensures).second)

pub in_some-held-requires : goal.in_some-held-requires
in_some-held-requires c = (c.requires.0, omega arith, omega arith, c.fragment_of-l.ensures, bit_small _ _ (the_bits _ _ c.bits_of.ensures).third)

pub returns-then-not-in_some : goal.returns-then-not-in_some
returns-then-not-in_some c =
    let t =
    trial_one c.args.pages.now _ _ _ c.args.code _ c.sections_of-s.ensures c.fragment_of-l.ensures c.bits_of.ensures
    (sym c.in_some.ensures ∙ c.if-not-in_some.true) in
    record { held = t.held_is; pages = t.pages_are }

pub bit_page-a-requires : goal.bit_page-a-requires
bit_page-a-requires c =
    let half = (fragment_length_lem c.sections_of-s.result (omega arith) (omega arith)).half in
    (bit_small _ _ (the_bits _ _ c.bits_of.ensures).first, omega (arith, half, c.fragment_of-l.ensures))

pub bit_page-b-requires : goal.bit_page-b-requires
bit_page-b-requires c =
    let half = (fragment_length_lem c.sections_of-s.result (omega arith) (omega arith)).half in
    (bit_small _ _ (the_bits _ _ c.bits_of.ensures).second, omega (arith, half, c.fragment_of-l.ensures))

pub bit_page-c-requires : goal.bit_page-c-requires
bit_page-c-requires c =
    let half = (fragment_length_lem c.sections_of-s.result (omega arith) (omega arith)).half in
    (bit_small _ _ (the_bits _ _ c.bits_of.ensures).third, omega (arith, half, c.fragment_of-l.ensures))

pub returns-then-not-in_some-2 : goal.returns-then-not-in_some-2
returns-then-not-in_some-2 c =
    let t =
    trial_two c.args.pages.now _ _ _ c.args.code _ c.sections_of-s.ensures c.fragment_of-l.ensures c.bits_of.ensures
    (sym c.in_some.ensures ∙ c.if-not-in_some.false) _ _ _ c.bit_page-a.ensures.0 c.bit_page-b.ensures.0
    (sym c.in_some-2.ensures ∙ c.if-not-in_some-2.true) c.pages_of_two.ensures in
    record { held = t.held_is; pages = t.pages_are }

pub returns : goal.returns
returns c =
    let t =
    trial_three c.args.pages.now _ _ _ c.args.code _ c.sections_of-s.ensures c.fragment_of-l.ensures c.bits_of.ensures
    (sym c.in_some.ensures ∙ c.if-not-in_some.false) _ _ _ c.bit_page-a.ensures.0 c.bit_page-b.ensures.0
    (sym c.in_some-2.ensures ∙ c.if-not-in_some-2.false) _ c.bit_page-c.ensures.0 c.pages_of_three.ensures _ c.in_some-held.ensures in
    record { held = t.held_is; pages = t.pages_are }

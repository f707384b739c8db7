-- `bloom_page`: fragment by fragment.
use Rattle.std.proofs.Common.{◌≡◌, ap, ◌-◌, ◌*◌, ◌<◌, ℕ, length, arith, rules}
use Rattle.codec.specs.Area.{repeated}
use Rattle.bloom.proofs.Filling.{filled_none, filled_all}
use Rattle.bloom.proofs.Turns.{fragment_at, length_open_page_lem, filled_next, past_all}
use Rattle.bloom.proofs.bloom_page.Goals as goal

pub overflow_add-from : goal.overflow_add-from
overflow_add-from c =
    let first : 0 < c.sections_of-s.result = omega (arith, c.sections_of-s.ensures, c.requires.1) in
    let f = fragment_at _ _ _ _ 0 c.requires.1 c.requires.2 c.sections_of-s.ensures c.fragment_of-l.ensures c.requires.3 first in
    omega (arith, f.start, f.long)

pub loop-j-init : goal.loop-j-init
unfolding repeated
loop-j-init c =
    let none : 0 * c.fragment_of-l.result ≡ 0 = omega arith in
    rw none (filled_none _ 512 (length_open_page_lem c.args.nor.now c.args.buffer c.args.count c.args.i c.requires.1 c.requires.2))

pub overflow_mul-j : goal.overflow_mul-j
overflow_mul-j c =
    let f = fragment_at _ _ _ _ _ c.requires.1 c.requires.2 c.sections_of-s.ensures c.fragment_of-l.ensures c.requires.3 c.loop-j-test.true in
    omega (arith, f.room)

pub put_fragment-requires-clause-from_le_to : goal.put_fragment-requires-clause-from_le_to
put_fragment-requires-clause-from_le_to c =
    let f = fragment_at _ _ _ _ _ c.requires.1 c.requires.2 c.sections_of-s.ensures c.fragment_of-l.ensures c.requires.3 c.loop-j-test.true in
    search (rules, f.start, f.long, f.room, c.min-to.ensures, c.loop-j.invariant.long)

pub loop-j-preserved : goal.loop-j-preserved
loop-j-preserved c =
    let p = c.requires in
    let f = fragment_at _ _ _ _ _ p.1 p.2 c.sections_of-s.ensures c.fragment_of-l.ensures p.3 c.loop-j-test.true in
    let size : length c.args.buffer ≡ 128 = search rules in
    let from = c.args.i * c.fragment_of-l.result in
    rw c.put_fragment.ensures
    (filled_next c.args.nor.now c.args.buffer c.args.count c.args.i _ _ p.1 p.2 c.sections_of-s.ensures c.fragment_of-l.ensures p.0 size
    _ _ c.loop-j-test.true (ap (λ (e : ℕ). e - from) c.min-to.ensures) f.start f.room c.loop-j.d c.loop-j.invariant)

pub returns : goal.returns
returns c =
    let p = c.requires in
    let whole : c.loop-j.j ≡ c.sections_of-s.result = omega arith in
    filled_all _ _ _ c.loop-j.invariant (λ k h.
    past_all c.args.nor.now c.args.buffer c.args.count c.args.i _ _ p.1 p.2 c.sections_of-s.ensures c.fragment_of-l.ensures k
    (rw whole at h))

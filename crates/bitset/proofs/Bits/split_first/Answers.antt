-- `split_first`: the first word that is not 0 has the lowest place, by its trailing zeros; the words passed are 0.
use mathlib.Core.Path.{◌≡◌}
use Rattle.std.specs.Prelude.{None}
use lib.ListN.{length, get_or}
use mir.Syntax.{w64}
use mir.Val.{Fits}
use Rattle.bitset.proofs.Emptying.{first_none, first_next}
use Rattle.bitset.proofs.Words.{Zeros, zeros_none, zeros_more, found_word}
use native.Mathlib.Omega.{arith}
use borrow.Author.Rules.{rules}
use Rattle.bitset.proofs.Bits.split_first.Goals as goal

pub returns-then-a-gt0 : goal.returns-then-a-gt0
returns-then-a-gt0 c =
    let b = c.args.self in
    let l : length b.words ≡ 5 = search rules in
    let f : Fits w64 (get_or b.words 0 0) = search rules in
    found_word b 0 _ _ l (omega arith) (zeros_none b.words) c.if-a-gt0.true f.fits
    c.without_lowest.ensures c.found_at.ensures.0 c.found_at.ensures.2

pub returns-then-b-gt0 : goal.returns-then-b-gt0
returns-then-b-gt0 c =
    let b = c.args.self in
    let l : length b.words ≡ 5 = search rules in
    let f : Fits w64 (get_or b.words 1 0) = search rules in
    let z1 : Zeros b.words 1 = zeros_more b.words 0 (zeros_none b.words) c.if-a-gt0.false in
    found_word b 1 _ _ l (omega arith) z1 c.if-b-gt0.true f.fits
    c.without_lowest-then-b-gt0.ensures c.found_at-then-b-gt0.ensures.0 c.found_at-then-b-gt0.ensures.2

pub returns-then-c-gt0 : goal.returns-then-c-gt0
returns-then-c-gt0 c =
    let b = c.args.self in
    let l : length b.words ≡ 5 = search rules in
    let f : Fits w64 (get_or b.words 2 0) = search rules in
    let z1 : Zeros b.words 1 = zeros_more b.words 0 (zeros_none b.words) c.if-a-gt0.false in
    let z2 : Zeros b.words 2 = zeros_more b.words 1 z1 c.if-b-gt0.false in
    found_word b 2 _ _ l (omega arith) z2 c.if-c-gt0.true f.fits
    c.without_lowest-then-c-gt0.ensures c.found_at-then-c-gt0.ensures.0 c.found_at-then-c-gt0.ensures.2

pub returns-then-d-gt0 : goal.returns-then-d-gt0
returns-then-d-gt0 c =
    let b = c.args.self in
    let l : length b.words ≡ 5 = search rules in
    let f : Fits w64 (get_or b.words 3 0) = search rules in
    let z1 : Zeros b.words 1 = zeros_more b.words 0 (zeros_none b.words) c.if-a-gt0.false in
    let z2 : Zeros b.words 2 = zeros_more b.words 1 z1 c.if-b-gt0.false in
    let z3 : Zeros b.words 3 = zeros_more b.words 2 z2 c.if-c-gt0.false in
    found_word b 3 _ _ l (omega arith) z3 c.if-d-gt0.true f.fits
    c.without_lowest-then-d-gt0.ensures c.found_at-then-d-gt0.ensures.0 c.found_at-then-d-gt0.ensures.2

pub returns-then-e-gt0 : goal.returns-then-e-gt0
returns-then-e-gt0 c =
    let b = c.args.self in
    let l : length b.words ≡ 5 = search rules in
    let f : Fits w64 (get_or b.words 4 0) = search rules in
    let z1 : Zeros b.words 1 = zeros_more b.words 0 (zeros_none b.words) c.if-a-gt0.false in
    let z2 : Zeros b.words 2 = zeros_more b.words 1 z1 c.if-b-gt0.false in
    let z3 : Zeros b.words 3 = zeros_more b.words 2 z2 c.if-c-gt0.false in
    let z4 : Zeros b.words 4 = zeros_more b.words 3 z3 c.if-d-gt0.false in
    found_word b 4 _ _ l (omega arith) z4 c.if-e-gt0.true f.fits
    c.without_lowest-then-e-gt0.ensures c.found_at-then-e-gt0.ensures.0 c.found_at-then-e-gt0.ensures.2

pub returns : goal.returns
returns c =
    let b = c.args.self in
    let z1 : Zeros b.words 1 = zeros_more b.words 0 (zeros_none b.words) c.if-a-gt0.false in
    let z2 : Zeros b.words 2 = zeros_more b.words 1 z1 c.if-b-gt0.false in
    let z3 : Zeros b.words 3 = zeros_more b.words 2 z2 c.if-c-gt0.false in
    let z4 : Zeros b.words 4 = zeros_more b.words 3 z3 c.if-d-gt0.false in
    let z5 : Zeros b.words 5 = zeros_more b.words 4 z4 c.if-e-gt0.false in
    first_next b None (first_none b.words z5)

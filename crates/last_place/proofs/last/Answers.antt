-- `last_place::last` meets its contract: the last word that is not 0 has the highest place, by its highest bit; the words passed are 0.
use mathlib.Core.Path.{◌≡◌}
use lib.ListN.{length}
use Rattle.last_place.proofs.LastPlace.{ZerosAfter, after_none, after_more, last_found, last_none}
use native.Mathlib.Omega.{arith}
use borrow.Author.Rules.{rules}
use Rattle.last_place.proofs.last.Goals as goal

pub returns-then-e-gt0 : goal.returns-then-e-gt0
returns-then-e-gt0 c =
    let b = c.args.set in
    let l : length b.words ≡ 5 = search rules in
    last_found b 4 _ _ _ l (omega arith) (after_none b.words) c.highest-k.ensures
    c.power.ensures c.found_at.ensures

pub returns-then-d-gt0 : goal.returns-then-d-gt0
returns-then-d-gt0 c =
    let b = c.args.set in
    let l : length b.words ≡ 5 = search rules in
    let z3 : ZerosAfter b.words 3 = after_more b.words 3 (after_none b.words) c.if-e-gt0.false in
    last_found b 3 _ _ _ l (omega arith) z3 c.highest-k-then-d-gt0.ensures
    c.power-then-d-gt0.ensures c.found_at-then-d-gt0.ensures

pub returns-then-c-gt0 : goal.returns-then-c-gt0
returns-then-c-gt0 c =
    let b = c.args.set in
    let l : length b.words ≡ 5 = search rules in
    let z3 : ZerosAfter b.words 3 = after_more b.words 3 (after_none b.words) c.if-e-gt0.false in
    let z2 : ZerosAfter b.words 2 = after_more b.words 2 z3 c.if-d-gt0.false in
    last_found b 2 _ _ _ l (omega arith) z2 c.highest-k-then-c-gt0.ensures
    c.power-then-c-gt0.ensures c.found_at-then-c-gt0.ensures

pub returns-then-b-gt0 : goal.returns-then-b-gt0
returns-then-b-gt0 c =
    let b = c.args.set in
    let l : length b.words ≡ 5 = search rules in
    let z3 : ZerosAfter b.words 3 = after_more b.words 3 (after_none b.words) c.if-e-gt0.false in
    let z2 : ZerosAfter b.words 2 = after_more b.words 2 z3 c.if-d-gt0.false in
    let z1 : ZerosAfter b.words 1 = after_more b.words 1 z2 c.if-c-gt0.false in
    last_found b 1 _ _ _ l (omega arith) z1 c.highest-k-then-b-gt0.ensures
    c.power-then-b-gt0.ensures c.found_at-then-b-gt0.ensures

pub returns-then-a-gt0 : goal.returns-then-a-gt0
returns-then-a-gt0 c =
    let b = c.args.set in
    let l : length b.words ≡ 5 = search rules in
    let z3 : ZerosAfter b.words 3 = after_more b.words 3 (after_none b.words) c.if-e-gt0.false in
    let z2 : ZerosAfter b.words 2 = after_more b.words 2 z3 c.if-d-gt0.false in
    let z1 : ZerosAfter b.words 1 = after_more b.words 1 z2 c.if-c-gt0.false in
    let z0 : ZerosAfter b.words 0 = after_more b.words 0 z1 c.if-b-gt0.false in
    last_found b 0 _ _ _ l (omega arith) z0 c.highest-k-then-a-gt0.ensures
    c.power-then-a-gt0.ensures c.found_at-then-a-gt0.ensures

pub returns : goal.returns
returns c =
    let b = c.args.set in
    let z3 : ZerosAfter b.words 3 = after_more b.words 3 (after_none b.words) c.if-e-gt0.false in
    let z2 : ZerosAfter b.words 2 = after_more b.words 2 z3 c.if-d-gt0.false in
    let z1 : ZerosAfter b.words 1 = after_more b.words 1 z2 c.if-c-gt0.false in
    let z0 : ZerosAfter b.words 0 = after_more b.words 0 z1 c.if-b-gt0.false in
    last_none b z0 c.if-a-gt0.false

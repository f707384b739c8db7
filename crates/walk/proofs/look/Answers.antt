-- `walk::look` meets its contract: damage, a segment passed over, a segment to search.
use mathlib.Core.Path.{◌≡◌, ap, ◌∙◌}
use lib.ListN.{length}
use Rattle.codec.proofs.Areas.{length_part}
use Rattle.walk.proofs.Steps.{seen_spoilt, seen_count, seen_passed, seen_searched}
use native.Mathlib.Omega.{arith}
use mathlib.Core.Bool.{not}
use Rattle.walk.proofs.look.Goals as goal

pub header_good-good-requires : goal.header_good-good-requires
header_good-good-requires c =
    let page : length c.pages_of-h.result.now ≡ 512 = ap length c.pages_of-h.ensures ∙ length_part _ _ 512 (omega (arith, c.requires)) in
    page

pub returns-then-not-good : goal.returns-then-not-good
returns-then-not-good c =
    let v = seen_spoilt _ _ _ _ _ _ c.pages_of-h.ensures _ c.header_good-good.ensures (ap not c.if-not-good.true) in
    record {
      step = v.step_is;
      bloom = v.bloom_is;
    }

pub pointer_in-first-requires : goal.pointer_in-first-requires
pointer_in-first-requires c =
    let page : length c.pages_of-h.result.now ≡ 512 = ap length c.pages_of-h.ensures ∙ length_part _ _ 512 (omega (arith, c.requires)) in
    (page, omega arith)

pub start_in-requires : goal.start_in-requires
start_in-requires c =
    let page : length c.pages_of-h.result.now ≡ 512 = ap length c.pages_of-h.ensures ∙ length_part _ _ 512 (omega (arith, c.requires)) in
    page

pub serial_in-serial-requires : goal.serial_in-serial-requires
serial_in-serial-requires c =
    let page : length c.pages_of-h.result.now ≡ 512 = ap length c.pages_of-h.ensures ∙ length_part _ _ 512 (omega (arith, c.requires)) in
    page

pub pass_over-p-requires : goal.pass_over-p-requires
pass_over-p-requires c =
    let page : length c.pages_of-h.result.now ≡ 512 = ap length c.pages_of-h.ensures ∙ length_part _ _ 512 (omega (arith, c.requires)) in
    record {
      slot_width_in_bounds = (c.requires.0, page, c.requires.1);
      bound = seen_count c.args.nand.now c.args.slots c.args.q c.args.slot c.args.before _ c.pages_of-h.ensures _
          c.header_good-good.ensures (ap not c.if-not-good.false);
    }

pub returns-then-p : goal.returns-then-p
returns-then-p c =
    let a = c.args in
    let is = c.pass_over-p.ensures a.slots a.before in
    let v = seen_passed _ _ _ _ _ _ c.pages_of-h.ensures _ c.header_good-good.ensures (ap not c.if-not-good.false) _ _
    is.0 is.1 _ c.pointer_in-first.ensures _ _ c.start_in.ensures
    c.serial_in-serial.ensures c.if-p.true in
    record {
      step = v.step_is;
      bloom = v.bloom_is;
    }

pub count_in-requires : goal.count_in-requires
count_in-requires c =
    let page : length c.pages_of-h.result.now ≡ 512 = ap length c.pages_of-h.ensures ∙ length_part _ _ 512 (omega (arith, c.requires)) in
    page

pub buckets_in-requires : goal.buckets_in-requires
buckets_in-requires c =
    let page : length c.pages_of-h.result.now ≡ 512 = ap length c.pages_of-h.ensures ∙ length_part _ _ 512 (omega (arith, c.requires)) in
    page

pub returns : goal.returns
returns c =
    let a = c.args in
    let is = c.pass_over-p.ensures a.slots a.before in
    let v = seen_searched _ _ _ _ _ _ c.pages_of-h.ensures _ c.header_good-good.ensures (ap not c.if-not-good.false) _ _
    is.0 is.1 _ c.pointer_in-first.ensures _ _ c.start_in.ensures
    c.serial_in-serial.ensures c.if-p.false _ _ c.count_in.ensures c.buckets_in.ensures in
    record {
      step = v.step_is;
      bloom = v.bloom_is;
    }

-- `lift_text::put_line` meets its contract: the line's fields, each where the one after it begins.
use Rattle.std.proofs.Common.{◌≡◌, ◌∙◌, length, arith}
use Rattle.std.proofs.Math.ListN.{length-set}
use Rattle.lift.specs.Limits.{load_of}
use Rattle.lift_text.proofs.Before.{line_put}
use Rattle.lift_text.proofs.Lines.{length_told}
use Rattle.lift_text.proofs.put_line.Goals as goal

pub put_digits-m-requires : goal.put_digits-m-requires
put_digits-m-requires c =
    let n = length_told c.args.time c.args.code c.args.member in
    (omega arith, simp length-set (omega arith))

pub put_load-k-requires : goal.put_load-k-requires
put_load-k-requires c =
    let n = length_told c.args.time c.args.code c.args.member in
    let m = c.put_digits-m.ensures.begins in
    let l : length c.put_digits-m.new.area ≡ length c.args.area.now = c.put_digits-m.auto.area ∙ simp length-set in
    (omega arith, simp length-set (omega arith))

pub put_digits-requires : goal.put_digits-requires
put_digits-requires c =
    let n = length_told c.args.time c.args.code c.args.member in
    let m = c.put_digits-m.ensures.begins in
    let k = c.put_load-k.ensures.begins in
    let l : length c.put_digits-m.new.area ≡ length c.args.area.now = c.put_digits-m.auto.area ∙ simp length-set in
    let g : length c.put_load-k.new.area ≡ length c.put_digits-m.new.area = c.put_load-k.auto.area ∙ simp length-set in
    (omega arith, simp length-set (omega arith))

pub returns : goal.returns
returns c =
    line_put (record { time = c.args.time; load = load_of c.args.code; member = c.args.member }) _ _ _ _ _ _ _ _
    c.requires.0 c.requires.1 c.put_digits-m.ensures c.put_load-k.ensures c.put_digits.ensures

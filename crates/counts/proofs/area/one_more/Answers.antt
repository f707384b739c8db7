-- `counts::area::one_more` meets its contract: one place of the 22 is written, and no count is above the sum.
use mathlib.Core.Path.{◌≡◌, sym, ap, ◌∙◌}
use Prim.Native.Nat.{ℕ, ◌+◌, ◌*◌, ◌<◌}
use lib.ListN.{get_or, set}
use mir.Syntax.{w8}
use mir.Val.{Fits}
use borrow.Author.Rules.{rules}
use Rattle.codec.specs.Area.{splice}
use Rattle.codec.specs.Number.{bytes}
use Rattle.lift.specs.Limits.{load_of}
use Rattle.plate.proofs.Bands.{plate_small}
use Rattle.plate.proofs.Totals.{place_total}
use Rattle.counts.specs.Counts.{one_more}
use Rattle.counts.specs.CountsBytes.{counts_bytes, counts_in}
use Rattle.counts.proofs.InArea.{count_in_lem, count_put}
use native.Mathlib.Omega.{arith}
use Rattle.counts.proofs.area.one_more.Goals as goal

-- its place
small : (c : goal.After-plate_of_code) → c.plate_of_code.result < 22
small c = rw c.plate_of_code.ensures (omega (arith, plate_small (load_of c.args.code)))

pub get_u32-n-requires : goal.get_u32-n-requires
get_u32-n-requires c = omega (arith, small c, c.requires.0)

pub overflow_add-n : goal.overflow_add-n
overflow_add-n c =
    let i = c.plate_of_code.result in
    record { fits = omega (arith, c.get_u32-n.ensures, count_in_lem c.args.b.now i (small c.before.before), place_total (counts_in c.args.b.now) i, c.requires.1) }

pub put_u32-requires : goal.put_u32-requires
put_u32-requires c = omega (arith, small c.before.before, c.requires.0)

pub returns : goal.returns
unfolding one_more
returns c =
    let b = c.args.b.now in
    let i = c.plate_of_code.result in
    let v : c.get_u32-n.result ≡ get_or (counts_in b) i 0 = c.get_u32-n.ensures ∙ sym (count_in_lem b i (small c.before.before.before.before.before.before)) in
    c.put_u32.ensures
    ∙ ap (λ (n : ℕ). splice b (4 * i) (bytes 4 (n + 1))) v
    ∙ count_put b i (get_or (counts_in b) i 0 + 1) c.requires.0 (λ j. let f : Fits w8 (get_or b j 0) = search rules in f.fits) (small c.before.before.before.before.before.before)
    ∙ ap (λ (j : ℕ). counts_bytes (set (counts_in b) j (get_or (counts_in b) j 0 + 1))) c.plate_of_code.ensures

-- `holds_bucket` meets its contract: without a bucket none does, else by the last one's page.
use mathlib.Core.Path.{◌≡◌, ap}
use mathlib.Core.Bool.{true}
use native.Mathlib.Omega.{arith}
use lib.Dec.{ltb}
use borrow.Author.Tests.{lt-ltb}
use Rattle.tree.specs.declared.Place.{Place}
use Rattle.segment.proofs.holds_bucket.Goals as goal

pub returns-then-buckets-eq0 : goal.returns-then-buckets-eq0
returns-then-buckets-eq0 c = rw c.if-buckets-eq0.true

pub returns-else-buckets-eq0 : goal.returns-else-buckets-eq0
returns-else-buckets-eq0 c =
    let a = c.args in
    let some : ltb 0 a.buckets ≡ true = lt-ltb 0 a.buckets (omega (arith, c.if-buckets-eq0.false)) in
    let page = ap (λ (p : Place). p.page.0) c.place_of-last.ensures in
    rw (some, page)

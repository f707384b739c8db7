-- `sweep::visit` meets its contract: the lowest bucket that is due has damage, or is opened.
use mathlib.Core.Path.{◌≡◌, refl, ap, ◌∙◌}
use Rattle.std.specs.Prelude.{Option, Some, None}
use Rattle.tree.specs.declared.Node.{Node}
use Rattle.tree.proofs.Looked.{seen_some, seen_none}
use mathlib.Core.List.{List}
use Prim.Native.Nat.{ℕ, ◌^◌, ◌<◌}
use native.Mathlib.Omega.{arith}
use lib.Bits.{bit_or}
use lib.ListN.{length}
use Rattle.codec.proofs.Areas.{length_part}
use Rattle.tree.specs.Place.{bucket_start}
use Rattle.tree.specs.Reading.{bucket_at}
use Rattle.tree.specs.Inner.Seen.{seen_node}
use Rattle.sweep.specs.declared.Turn.{Turn}
use Rattle.tree.proofs.Starts.{bucket_start_lem}
use Rattle.sweep.proofs.Mask.{Low, lowest_due}
use Rattle.sweep.proofs.Visits.{Opened, opened, turn_spoilt, turn_damaged, turn_found, turn_pages, due_after}
use borrow.Author.Rules.{rules}
use Rattle.sweep.proofs.visit.Goals as goal

pub bucket_of-bucket-requires : goal.bucket_of-bucket-requires
bucket_of-bucket-requires c =
    let fits : c.args.t.due < 2 ^ 64 = search rules in
    let low : Low c.args.t.due c.lowest-b.result c.without_lowest-rest.result = lowest_due c.args.t.due c.requires.due.0 fits _ _ c.lowest-b.ensures.0
    c.without_lowest-rest.ensures in
    let below : c.lowest-b.result < c.args.g.buckets = c.requires.due.1 _ low.here in
    omega (arith, bucket_start_lem c.lowest-b.result, c.requires.held, below)

pub node_in-requires : goal.node_in-requires
node_in-requires c =
    let fits : c.args.t.due < 2 ^ 64 = search rules in
    let low : Low c.args.t.due c.lowest-b.result c.without_lowest-rest.result = lowest_due c.args.t.due c.requires.due.0 fits _ _ c.lowest-b.ensures.0
    c.without_lowest-rest.ensures in
    let below : c.lowest-b.result < c.args.g.buckets = c.requires.due.1 _ low.here in
    let bytes : length c.bucket_of-bucket.result.now ≡ 128 = let b = c.lowest-b.result in
    ap length c.bucket_of-bucket.ensures ∙ length_part c.args.tree.now (bucket_start b) 128
    (omega (arith, bucket_start_lem b, c.requires.held, below)) in
    omega (arith, bytes)

pub power-requires : goal.power-requires
power-requires c =
    let fits : c.args.t.due < 2 ^ 64 = search rules in
    let low : Low c.args.t.due c.lowest-b.result c.without_lowest-rest.result = lowest_due c.args.t.due c.requires.due.0 fits _ _ c.lowest-b.ensures.0
    c.without_lowest-rest.ensures in
    let below : c.lowest-b.result < c.args.g.buckets = c.requires.due.1 _ low.here in
    omega (arith, c.page_of.ensures, below, c.requires.held.few)

pub returns-in_err-n : goal.returns-in_err-n
returns-in_err-n c =
    let fits : c.args.t.due < 2 ^ 64 = search rules in
    let low : Low c.args.t.due c.lowest-b.result c.without_lowest-rest.result = lowest_due c.args.t.due c.requires.due.0 fits _ _ c.lowest-b.ensures.0
    c.without_lowest-rest.ensures in
    let below : c.lowest-b.result < c.args.g.buckets = c.requires.due.1 _ low.here in
    let a = c.args in
    let seen : ◌≡◌ {A = Option Node} None (seen_node (bucket_at a.tree.now c.lowest-b.result) c.lowest-b.result a.g.buckets a.g.count) =
    c.in_err-n.ensures ∙ ap (λ (s : List ℕ). seen_node s c.lowest-b.result a.g.buckets a.g.count) c.bucket_of-bucket.ensures in
    let damage : c.from_residual.result ≡ None = search rules in
    record {
      leads = rw damage (turn_spoilt a.tree.now a.lifts.now a.tail.now a.g a.r _ a.t below low.least low.here (seen_none _ _ _ _ seen));
      left = search rules;
      pages = search rules;
    }

pub with_kids-due-requires : goal.with_kids-due-requires
with_kids-due-requires c =
    let both = seen_some _ c.lowest-b.result c.args.g.buckets c.args.g.count c.in_ok-n.n c.in_ok-n.ensures in
    let opens : Opened c.bucket_of-bucket.result.now c.args.g.count c.in_ok-n.n = opened _ _ _ _ _ c.requires.held.few both.1 both.0 in
    opens.kids

pub entries-requires : goal.entries-requires
entries-requires c =
    let fits : c.args.t.due < 2 ^ 64 = search rules in
    let low : Low c.args.t.due c.lowest-b.result c.without_lowest-rest.result = lowest_due c.args.t.due c.requires.due.0 fits _ _ c.lowest-b.ensures.0
    c.without_lowest-rest.ensures in
    let below : c.lowest-b.result < c.args.g.buckets = c.requires.due.1 _ low.here in
    let bytes : length c.bucket_of-bucket.result.now ≡ 128 = let b = c.lowest-b.result in
    ap length c.bucket_of-bucket.ensures ∙ length_part c.args.tree.now (bucket_start b) 128
    (omega (arith, bucket_start_lem b, c.requires.held, below)) in
    let both = seen_some _ c.lowest-b.result c.args.g.buckets c.args.g.count c.in_ok-n.n c.in_ok-n.ensures in
    let opens : Opened c.bucket_of-bucket.result.now c.args.g.count c.in_ok-n.n = opened _ _ _ _ _ c.requires.held.few both.1 both.0 in
    let o = opens in
    record {
      in_bounds = (omega (arith, bytes), o.used);
      bucket_value = o.positions;
      recorded = c.requires.held.records;
    }

pub returns-in_err-set-clause-leads : goal.returns-in_err-set-clause-leads
returns-in_err-set-clause-leads c =
    let fits : c.args.t.due < 2 ^ 64 = search rules in
    let low : Low c.args.t.due c.lowest-b.result c.without_lowest-rest.result = lowest_due c.args.t.due c.requires.due.0 fits _ _ c.lowest-b.ensures.0
    c.without_lowest-rest.ensures in
    let below : c.lowest-b.result < c.args.g.buckets = c.requires.due.1 _ low.here in
    let a = c.args in
    let seen : Some c.in_ok-n.n ≡ seen_node (bucket_at a.tree.now c.lowest-b.result) c.lowest-b.result a.g.buckets a.g.count =
    c.in_ok-n.ensures ∙ ap (λ (s : List ℕ). seen_node s c.lowest-b.result a.g.buckets a.g.count) c.bucket_of-bucket.ensures in
    let both = seen_some _ _ _ _ _ seen in
    let good = both.0 in
    let after = due_after _ a.g.buckets _ a.g.count _ both.1 good a.r.k1 a.r.k2 _ _ c.with_kids-due.ensures
    (λ j e. ((low.above j e).0, c.requires.due.1 j (low.above j e).1)) in
    let damage : c.from_residual-in_err-set.result ≡ None = search rules in
    rw damage (turn_damaged a.tree.now a.lifts.now a.tail.now a.g a.r _ a.t below low.least low.here _ both.1
    _ _ low.others c.with_kids-due.ensures (λ j e. (after j e).0) good
    (rw (← c.bucket_of-bucket.ensures) c.in_err-set.ensures))

pub returns : goal.returns
returns c =
    let fits : c.args.t.due < 2 ^ 64 = search rules in
    let low : Low c.args.t.due c.lowest-b.result c.without_lowest-rest.result = lowest_due c.args.t.due c.requires.due.0 fits _ _ c.lowest-b.ensures.0
    c.without_lowest-rest.ensures in
    let below : c.lowest-b.result < c.args.g.buckets = c.requires.due.1 _ low.here in
    let a = c.args in
    let seen : Some c.in_ok-n.n ≡ seen_node (bucket_at a.tree.now c.lowest-b.result) c.lowest-b.result a.g.buckets a.g.count =
    c.in_ok-n.ensures ∙ ap (λ (s : List ℕ). seen_node s c.lowest-b.result a.g.buckets a.g.count) c.bucket_of-bucket.ensures in
    let both = seen_some _ _ _ _ _ seen in
    let good = both.0 in
    let after = due_after _ a.g.buckets _ a.g.count _ both.1 good a.r.k1 a.r.k2 _ _ c.with_kids-due.ensures
    (λ j e. ((low.above j e).0, c.requires.due.1 j (low.above j e).1)) in
    let next : Turn = record { due = c.with_kids-due.result; set = c.in_ok-set.set; read = bit_or a.t.read c.power.result } in
    record {
      leads = turn_found a.tree.now a.lifts.now a.tail.now a.g a.r _ a.t below low.least low.here _ both.1
          _ _ low.others c.with_kids-due.ensures (λ j e. (after j e).0) good _ _
          (rw (← c.bucket_of-bucket.ensures) c.in_ok-set.ensures);
      left = (λ j e. (after j e).1, rw (← c.lowest-b.ensures.0) (λ j e. (after j e).0));
      pages = turn_pages a.tree.now a.lifts.now a.tail.now a.g a.r _ a.t below low.least low.here _ both.1
          _ _ low.others c.with_kids-due.ensures (λ j e. (after j e).0) next refl
          (ap (bit_or a.t.read) (c.power.ensures ∙ ap (λ (n : ℕ). 2 ^ n) c.page_of.ensures));
    }

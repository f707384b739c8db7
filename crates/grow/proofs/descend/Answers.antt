-- `grow::descend` meets its contract: the plan from here is the plan from the root.
use mathlib.Core.Path.{◌≡◌, ap, ◌∙◌}
use mathlib.Core.List.{List}
use Prim.Native.Nat.{ℕ, ◌+◌, ◌-◌, ◌<◌}
use native.Mathlib.Omega.{arith}
use lib.ListN.{length}
use Rattle.std.specs.Prelude.{Option, Some, None}
use Rattle.tree.specs.declared.Node.{Node}
use Rattle.codec.proofs.Areas.{length_part}
use Rattle.tree.specs.Place.{bucket_start}
use Rattle.tree.specs.Reading.{bucket_at}
use Rattle.tree.specs.Plan.{plan_from, or_no_room}
use Rattle.tree.specs.Inner.Seen.{seen_node}
use Rattle.tree.proofs.Looked.{seen_none}
use Rattle.tree.proofs.Starts.{bucket_start_lem}
use Rattle.grow.proofs.Stops.{sees, good_is, good_range}
use Rattle.grow.proofs.Steps.{step_end, step_damage, step_here, step_down, step_below}
use Rattle.grow.proofs.descend.Goals as goal

pub loop-step-init : goal.loop-step-init
loop-step-init c =
    let all : c.args.buckets - 0 ≡ c.args.buckets = omega arith in
    record { below = omega arith; same = ap (λ (n : ℕ). or_no_room c.args.buckets (plan_from c.args.tree.now c.args.buckets c.args.count c.args.loads c.args.code n 0)) all }

pub bucket_of-bucket-requires : goal.bucket_of-bucket-requires
bucket_of-bucket-requires c = omega (arith, bucket_start_lem c.loop-step.b)

pub node_in-requires : goal.node_in-requires
node_in-requires c =
    let start = bucket_start_lem c.loop-step.b in
    let bytes = length_part c.args.tree.now (bucket_start c.loop-step.b) 128 (omega arith) in
    omega (arith, ap length c.bucket_of-bucket.ensures ∙ bytes)

pub returns-in_default : goal.returns-in_default
returns-in_default c =
    let b = c.loop-step.b in
    let a = c.args in
    let seen : ◌≡◌ {A = Option Node} None (seen_node (bucket_at a.tree.now b) b a.buckets a.count) =
    c.in_default.ensures ∙ ap (λ (s : List ℕ). seen_node s b a.buckets a.count) c.bucket_of-bucket.ensures in
    step_damage _ _ _ _ _ _ _ _ c.loop-step.invariant.same (omega arith) (seen_none _ _ _ _ seen)

pub plan_here-requires-clause-x_lt_y : goal.plan_here-requires-clause-x_lt_y
plan_here-requires-clause-x_lt_y c =
    let b = c.loop-step.b in
    let a = c.args in
    let seen : Some c.in-Some.n ≡ seen_node (bucket_at a.tree.now b) b a.buckets a.count =
    c.in-Some.ensures ∙ ap (λ (s : List ℕ). seen_node s b a.buckets a.count) c.bucket_of-bucket.ensures in
    good_range _ _ _ _ _ seen

pub returns-in_default-child_for : goal.returns-in_default-child_for
returns-in_default-child_for c =
    let b = c.loop-step.b in
    let a = c.args in
    let seen : Some c.in-Some.n ≡ seen_node (bucket_at a.tree.now b) b a.buckets a.count =
    c.in-Some.ensures ∙ ap (λ (s : List ℕ). seen_node s b a.buckets a.count) c.bucket_of-bucket.ensures in
    let v = sees _ _ _ _ _ seen in
    c.plan_here.ensures _ v
    ∙ step_here _ _ _ _ _ _ _ _ c.loop-step.invariant.same (omega arith) (good_is _ _ _ _ _ seen)
    (c.in_default-child_for.ensures _ v)

pub loop-step-preserved : goal.loop-step-preserved
loop-step-preserved c =
    let b = c.loop-step.b in
    let a = c.args in
    let seen : Some c.in-Some.n ≡ seen_node (bucket_at a.tree.now b) b a.buckets a.count =
    c.in-Some.ensures ∙ ap (λ (s : List ℕ). seen_node s b a.buckets a.count) c.bucket_of-bucket.ensures in
    let same = c.loop-step.invariant.same in
    let more : 0 < c.args.buckets - c.loop-step._step = omega arith in
    let good = good_is _ _ _ _ _ seen in
    let down = c.in-Some-child_for.ensures _ (sees _ _ _ _ _ seen) in
    let below = step_below _ _ _ _ _ _ _ _ same more good _ down in
    let one : c.args.buckets - (c.loop-step._step + 1) ≡ c.args.buckets - c.loop-step._step - 1 = omega arith in
    record { below = omega arith; same = rw one (step_down _ _ _ _ _ _ _ _ same more good _ down) }

pub returns : goal.returns
returns c = step_end _ _ _ _ _ _ _ _ c.loop-step.invariant.same (omega arith)

-- `plan`: the plan for the buckets in NOR and the last loads as stored.
use Rattle.store.proofs.Putting.{codes_within, tree_long, planned, suited}
use Rattle.store.proofs.fields.Fields.plan.Goals as goal

pub plan_for-requires : goal.plan_for-requires
plan_for-requires c =
    record { tree_width_in_bounds = (tree_long c.args.nor.now _ c.nor_tree-tree.ensures c.requires.0, c.requires.1); by_index = codes_within c.args.self.loads _ c.stored_loads-codes.ensures c.requires.3 }

pub returns : goal.returns
returns c =
    let tree = c.nor_tree-tree.result.now in
    let t = c.nor_tree-tree.ensures in
    let l = c.stored_loads-codes.ensures in
    let is = c.plan_for.ensures.is in record {
      is = planned c.args.self c.args.nor.now tree _ c.args.code c.plan_for.result t l is;
      suits = suited c.args.self c.args.nor.now tree _ c.args.code c.plan_for.result t l is c.requires.2
          c.plan_for.ensures.fits;
    }

-- `loads_ok`: load by load.
use Rattle.std.proofs.Common.{rules, tests, ◌∙◌}
use Rattle.std.proofs.lemmas.Iterator.{YieldsList-from_slice}
use Rattle.std.proofs.lemmas.Iterator.Search.{all_from_yields_List}
use Rattle.lift.specs.Limits.{load_ok}
use Rattle.bounds.proofs.Tests.{all_loads}
use Rattle.bounds.proofs.loads_ok.Goals as goal

pub returns : goal.returns
returns c =
    all_from_yields_List load_ok _ _ _ c.all.ensures.ran (YieldsList-from_slice c.args.loads cc) (λ x b q k. search (rules, tests))
    ∙ all_loads c.args.loads

-- `store_abi::tallied` meets its contract: the store's tally on the state that the area holds.
use mathlib.Core.Path.{ap, ◌∙◌}
use lib.ListN.{length}
use Rattle.form.specs.declared.Form.TheVariants.{New}
use Rattle.questions.proofs.Asked.{log_sound}
use Rattle.state_bytes.specs.StateBytes.{state_in}
use Rattle.areas.proofs.Leaves.{page_size}
use native.Mathlib.Omega.{arith}
use Rattle.store_abi.proofs.tallied.Goals as goal

pub tally_from-requires : goal.tally_from-requires
tally_from-requires c =
    let a = c.args in
    record {
      log_sound = λ z. log_sound a.nand.now a.nor.now (state_in a.state.now) a.slots _ c.ground-judged.ensures z _ c.log_at-g.ensures;
      page_len = ap length c.page_of-page.ensures ∙ page_size a.state.now c.requires;
    }

pub returns : goal.returns
returns c =
    let a = c.args in
    c.tally_from.ensures (state_in a.state.now) a.slots c.ground-judged.ensures c.log_at-g.ensures c.page_of-page.ensures

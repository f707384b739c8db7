-- `indexed`: the entry into the tree, the bits into the section, a full section to NOR.
use mathlib.Core.List.{[]}
use Rattle.store.proofs.Putting.{indexed_nor, indexed_section}
use Rattle.store.proofs.State.indexed.Goals as goal

pub returns : goal.returns
returns c =
    let w = c.writes_of-w.ensures.is in
    let f = c.note-full.ensures in
    record {
      nor = λ load k. indexed_nor c.args.self 0 c.args.code load [] k _ _ c.args.nor.now _ _ _ w
          c.carry.ensures f c.section_after.ensures.nor;
      section = λ load k. indexed_section c.args.self 0 c.args.code load [] k _ _ f c.section_after.ensures.section;
    }

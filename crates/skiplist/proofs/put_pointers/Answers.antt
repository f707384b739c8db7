use mathlib.Core.Path.{◌≡◌}
use lib.ListN.{length}
use Rattle.skiplist.proofs.Pointers.{put_four}
use borrow.Author.Rules.{rules}
use Rattle.skiplist.proofs.put_pointers.Goals as goal

pub returns : goal.returns
returns c =
    let four : length c.args.p ≡ 4 = search rules in
    put_four _ _ _ _ _ _ _ _ _ _ four c.pointer_bytes-n.ensures c.requires c.put_pointer.ensures
    c.put_pointer-2.ensures c.put_pointer-3.ensures
    c.put_pointer-4.ensures

-- `note`: the section is an area of its own.
use Rattle.std.proofs.Common.{◌≡◌, ◌∙◌, length, rules}
use Rattle.codec.proofs.Areas.{part_all, splice_all}
use Rattle.bloom.proofs.Section.{length_noted}
use Rattle.bloom.proofs.note.Goals as goal

pub returns : goal.returns
returns c =
    let long : length c.args.section ≡ 128 = search rules in
    c.note_at.ensures ∙ rw (part_all c.args.section 128 long) (splice_all _ _ (length_noted _ _))

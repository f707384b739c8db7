-- `import::pieces::note_of` meets its contract: the member's four bytes, and sixteen zeros.
use mathlib.Core.Path.{◌∙◌}
use Rattle.import.proofs.Appends.{note_made}
use Rattle.import.proofs.pieces.note_of.Goals as goal

pub returns : goal.returns
returns c = c.put_u32.ensures ∙ note_made c.args.member

-- Segments that are passed over give no rows: where they end, the rows from the cursor on are those from the first one. Assumes nothing.
use Rattle.std.specs.Prelude.{Err}
use mathlib.Core.Path.{◌≡◌, refl, sym, ◌∙◌}
use mathlib.Core.Option.{some}
use mathlib.Core.List.{List, []}
use Prim.Native.Nat.{ℕ, ◌*◌, ◌≤◌, ◌<◌}
use native.Mathlib.Omega.{arith}
use lib.ListN.{length}
use Rattle.grounds.specs.declared.Ground.TheVariants as Grounds
use Rattle.skiplist.specs.Skip.{Live}
use Rattle.visit.specs.declared.Closed.{Closed}
use Rattle.visit.specs.declared.Query.{Query}
use Rattle.walk.specs.declared.Cursor.{Cursor}
use Rattle.walk.specs.declared.Step.TheVariants.{End, Damage, Pass, Visit}
use Rattle.walk.specs.Advance.{advance_of}
use Rattle.walk.specs.Inner.Sound.{Sound}
use Rattle.found.specs.Inner.Turns.{rows_after, Onward, LeadsOn}
use Rattle.found.proofs.Falling.{pass_facts, visit_facts}
use Rattle.found.proofs.Segments.{rows_end, rows_damage, rows_pass, rows_visit}

module _ (nand : List ℕ) (slots : ℕ) (live : Live) (q : Query) where
  -- from c to here all were passed over
  pub record PassedTo (c at : Cursor) : Type 0 where
    pub sound : Sound slots at
    pub rows : rows_after nand slots live q at ≡ rows_after nand slots live q c
    pub low : at.before ≤ c.before

  module _ (size : length nand ≡ slots * 16384) (c at : Cursor) (i : PassedTo c at) where
    pub passed_end : advance_of nand slots live q at ≡ End → rows_after nand slots live q c ≡ some []
    passed_end e = sym i.rows ∙ rows_end nand slots live q size at i.sound e

    pub passed_damage : advance_of nand slots live q at ≡ Damage → LeadsOn nand slots live q c (Err Grounds.Damage)
    passed_damage e = (refl, sym i.rows ∙ rows_damage nand slots live q size at i.sound e)

    module _ (d : Cursor) where
      pub passed_less : advance_of nand slots live q at ≡ Pass d → d.before < at.before
      passed_less e = (pass_facts nand slots live q size at i.sound d e).falls

      pub passed_on : advance_of nand slots live q at ≡ Pass d → PassedTo c d
      passed_on e =
          record {
            sound = (pass_facts nand slots live q size at i.sound d e).sound;
            rows = sym (rows_pass nand slots live q size at i.sound d e) ∙ i.rows;
            low = omega (arith, passed_less e, i.low);
          }

      pub passed_visit : (s : Closed) → advance_of nand slots live q at ≡ Visit s d → Onward nand slots live q c s d
      passed_visit s e =
          let f = visit_facts nand slots live q size at i.sound d s e in
          record {
            stood = at;
            stood_low = i.low;
            steps = e;
            rows = sym i.rows ∙ rows_visit nand slots live q size at i.sound d s e;
            closed = f.0;
            sound = f.1.sound;
            falls = omega (arith, f.1.falls, i.low);
          }

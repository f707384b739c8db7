-- `walk::seek` meets its contract: four levels, one after the other.
use mathlib.Core.Path.{◌∙◌}
use Rattle.walk.proofs.Places.{heads_sound, levels_done}
use native.Mathlib.Omega.{arith}
use borrow.Author.Rules.{rules}
use Rattle.walk.proofs.seek.Goals as goal

pub along-a-requires : goal.along-a-requires
along-a-requires c =
    record {
      nand_len = (c.requires.nand_len, omega arith);
      place_sound = heads_sound _ _ _ _ c.requires.in_slots (search rules);
    }

pub along-b-requires : goal.along-b-requires
along-b-requires c =
    record {
      nand_len = (c.requires.nand_len, omega arith);
      place_sound = c.along-a.ensures.sound;
    }

pub along-c-requires : goal.along-c-requires
along-c-requires c =
    record {
      nand_len = (c.requires.nand_len, omega arith);
      place_sound = c.along-b.ensures.sound;
    }

pub along-requires : goal.along-requires
along-requires c =
    record {
      nand_len = (c.requires.nand_len, omega arith);
      place_sound = c.along-c.ensures.sound;
    }

pub returns : goal.returns
returns c =
    record {
      leads = levels_done c.args.nand.now c.args.g c.args.t2 c.along.result
          (c.along.ensures.leads ∙ c.along-c.ensures.leads ∙ c.along-b.ensures.leads
          ∙ c.along-a.ensures.leads);
      inside = c.along.ensures.sound.inside;
    }

-- `search::write::write_all` meets its contract: the open segment's rows up to the total, then those of the closed ones before
-- them.
use Rattle.skiplist.specs.Skip.{serials_from}
use Rattle.search.proofs.Answered.{open_fits, closed_count, all_written_lem}
use native.Mathlib.Omega.{arith}
use Rattle.search.proofs.write.write_all.Goals as goal

pub write_open-row-requires : goal.write_open-row-requires
write_open-row-requires c =
    let a = c.args in
    record {
      log_sound = c.requires.log_sound;
      page_len = c.requires.page_len.0;
      q_len_bound = (
        open_fits a.nand.now a.nor.now a.page.now a.g (serials_from a.g.oldest) a.q a.c
            c.requires.log_sound.nand_size c.requires.begun a.total c.requires.count_is,
        c.requires.page_len.2,
      );
    }

pub write_closed-requires : goal.write_closed-requires
write_closed-requires c =
    let a = c.args in
    let u = c.write_open-row.ensures in
    record {
      nand_len = (c.requires.log_sound.nand_size, c.requires.page_len.1, omega (arith, u.begins, c.write_open-row.auto.area, c.requires.page_len.2));
      sound = c.requires.begun.sound;
      count_is = closed_count a.nand.now a.nor.now a.page.now a.g (serials_from a.g.oldest) a.q a.c
          c.requires.log_sound.nand_size c.requires.begun a.total c.requires.count_is a.area.now _ _ c.requires.page_len.2 u;
    }

pub returns : goal.returns
returns c =
    all_written_lem _ _ _ _ _ _ _ c.requires.log_sound.nand_size c.requires.begun _ c.requires.count_is _ _ _ c.requires.page_len.2
    c.write_open-row.ensures _ c.write_closed.ensures

-- A worked example of a state as a lent area, in both forms (document 02, W-214: "the state as a lent area in the order of the state list
-- in document 01 as amended above, little-endian with no gaps"). Assumes nothing.
use Rattle.std.specs.Prelude.{List, [], ◌∷◌, ◌++◌, ℕ, pos, length, replicate}
use Rattle.store.specs.declared.State.{State}
use Rattle.state_bytes.specs.StateBytes.{state_bytes, old_state_bytes}
use Rattle.worked_examples.specs.Figures.{minus, one, two, four, eight}
use Rattle.worked_examples.specs.States.{heads}

-- a state with every field in use
abbrev pub in_use : State
in_use = record {
  oldest = 16909000;
  current = 16909062;
  count = 257;
  buckets = 21;
  next = 0x02030405060807;
  heads = heads;
  loads = minus 500 ∷ (replicate 11 (pos 0) ++ (pos 100000 ∷ []));
  page = replicate 511 255 ++ one 7;
  bloom = replicate 127 0 ++ one 9;
  start = 0x02030405060708;
  low = minus 500;
  high = pos 100000;
}

-- "serials 4 bytes, count 2, bucket count 1, times 8": 16,909,000 = 0x010202C8, 16,909,062 = 0x01020306, 257 = 256 + 1, 21, next time
abbrev pub laid_numbers : List ℕ
laid_numbers = four 200 2 2 1 ++ (four 6 3 2 1 ++ (two 1 1 ++ (one 21 ++ eight 7 8 6 5 4 3 2 0)))

-- "heads 14": slot 2, serial 4, time 8; slots 0x304, 0x303, 0x303, 0x2FF; form 0, "heads of 10", leaves the serials out
abbrev pub laid_heads : List ℕ
laid_heads =
    two 4 3 ++ (four 5 3 2 1 ++ (eight 8 7 6 5 4 3 1 0
    ++ (two 3 3 ++ (four 4 3 2 1 ++ (eight 8 7 6 5 4 2 1 0
    ++ (two 3 3 ++ (four 4 3 2 1 ++ (eight 8 7 6 5 4 2 1 0
    ++ (two 255 2 ++ (four 0 3 2 1 ++ eight 8 7 6 5 3 2 1 0))))))))))

abbrev pub laid_old_heads : List ℕ
laid_old_heads =
    two 4 3 ++ (eight 8 7 6 5 4 3 1 0
    ++ (two 3 3 ++ (eight 8 7 6 5 4 2 1 0
    ++ (two 3 3 ++ (eight 8 7 6 5 4 2 1 0
    ++ (two 255 2 ++ eight 8 7 6 5 3 2 1 0))))))

-- "loads 4 (signed)": −500 = 0xFFFFFE0C, 100,000 = 0x000186A0; "buffers 512 and 128"; start time, low and high load
abbrev pub laid_rest : List ℕ
laid_rest =
    four 12 254 255 255 ++ (replicate 44 0 ++ (four 160 134 1 0
    ++ (replicate 511 255 ++ (one 7 ++ (replicate 127 0 ++ (one 9
    ++ (eight 8 7 6 5 4 3 2 0 ++ (four 12 254 255 255 ++ four 160 134 1 0))))))))

unfoldable pub state_areas : List (List ℕ × List ℕ)
state_areas =
    -- form 1, 19 + 4·14 + 52 + 640 + 16 = 783 bytes
    (state_bytes in_use, laid_numbers ++ (laid_heads ++ laid_rest))
    ∷ (one (length (state_bytes in_use)), one 783)
    -- form 0, with the oldest live time 0x01020304050607 after next time: 19 + 8 + 4·10 + 52 + 640 + 16 = 775 bytes
    ∷ (
      old_state_bytes (record { state = in_use; live = 0x01020304050607 }),
      laid_numbers ++ (eight 7 6 5 4 3 2 1 0 ++ (laid_old_heads ++ laid_rest)),
    )
    ∷ (one (length (old_state_bytes (record { state = in_use; live = 0 }))), one 775)
    ∷ []

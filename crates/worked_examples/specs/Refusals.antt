-- Worked examples of the numbers that calls return, in checking order (document 01, "Twelve grounds"). Assumes nothing.
use Rattle.std.specs.Prelude.{List, [], ◌∷◌, ◌++◌, ℕ, pos, replicate}
use Rattle.codec.specs.Area.{splice}
use Rattle.store.specs.World.{World, world}
use Rattle.store.specs.Calls.{close_ground, drop_ground, append_ground}
use Rattle.worked_examples.specs.Figures.{one, two, four}
use Rattle.worked_examples.specs.States.{zeros, no_heads, state_of}
use Rattle.worked_examples.specs.Buckets.{alone, root_with}

-- two slots, erased but for a byte, with so many bytes before and behind it
abbrev pub nand_with : ℕ → ℕ → List ℕ
nand_with before behind = replicate before 255 ++ (one 127 ++ replicate behind 255)

-- the tree of fifteen lifts of 500, thirteen in the root and two in its left child, in NOR with a byte written at a place
abbrev pub nor_at : ℕ → List ℕ
nor_at at =
    splice (alone (four 0 0 0 0) (four 241 73 2 0) (four 69 197 0 0) (two 1 255) 13 ++ (root_with 2 ++ replicate 5888 255)) at (one 127)

-- a store of form 1 with S = 2 by its chips, oldest and open serial, count and buckets; serial 2 uses slot 1, from byte 16,384
abbrev pub store : List ℕ → List ℕ → ℕ → ℕ → ℕ → ℕ → World
store chip nor oldest current count buckets =
    world chip nor (state_of oldest current count buckets 9 0 (pos 0) (pos 0) zeros no_heads)

unfoldable pub refusals : List (ℕ × ℕ)
refusals =
    -- close: 1 by the chips, 3 by the state (a bucket, no lifts), 9 without a lift, 11 where the header page, the last one, is not erased
    (close_ground (store [] [] 2 2 0 1) 2, 1)
    ∷ (close_ground (store (nand_with 32256 511) (nor_at 6143) 2 2 0 1) 2, 3)
    ∷ (close_ground (store (nand_with 32256 511) (nor_at 6143) 2 2 0 0) 2, 9)
    ∷ (close_ground (store (nand_with 32256 511) (nor_at 6143) 2 2 15 2) 2, 11)
    -- drop: 9 without a closed segment
    ∷ (drop_ground (store (nand_with 32256 511) (nor_at 6143) 2 2 0 0) 2, 9)
    -- append of 500: 11 where the lift page that is full with it, page 0 of slot 1, is not erased; first 10 where the entry's bytes, from
    -- 128 + 24 + 2·8 = 168 on, are not 255
    ∷ (append_ground (store (nand_with 16384 16383) (nor_at 6143) 2 2 15 2) 2 9 (pos 500), 11)
    ∷ (append_ground (store (nand_with 16384 16383) (nor_at 168) 2 2 15 2) 2 9 (pos 500), 10)
    ∷ []

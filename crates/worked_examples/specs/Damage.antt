-- Worked examples of damage (document 01, "Search", last paragraph; document 02, W-202): headers, buckets and NOR bytes laid by hand, just
-- good and just bad. Assumes nothing.
use Rattle.std.specs.Prelude.{Bool, List, [], ◌∷◌, ◌++◌, ℕ, pos, replicate}
use Rattle.std.proofs.Math.Option.{Option, none, some}
use Rattle.codec.specs.Area.{splice}
use Rattle.lift.specs.Rows.{code_in}
use Rattle.form.specs.declared.Form.TheVariants.{Old, New}
use Rattle.header.specs.Header.{header_good}
use Rattle.tree.specs.Reading.{node_in, node_good}
use Rattle.tree.specs.Sweep.{sweep_on}
use Rattle.tree.specs.Plan.{Plan, new_root, into_bucket, new_child, split_bucket}
use Rattle.skiplist.specs.Skip.{serials_from}
use Rattle.walk.specs.Seek.{skip_walk}
use Rattle.store.specs.World.{world}
use Rattle.store.specs.Calls.{nor_clear}
use Rattle.worked_examples.specs.Figures.{good, bad, one, two, four, eight}
use Rattle.worked_examples.specs.Laid.{laid_header, laid_old_header, laid_bucket, laid_whole, laid_record}
use Rattle.worked_examples.specs.States.{pointing, no_heads, zeros, state_of}

-- ---- headers

-- the header of form 1, and of form 0, with other bytes from a place on; S = 4,096, the header before has serial 16,909,063
abbrev pub header : ℕ → List ℕ → Bool
header at other = header_good New (splice laid_header at other) 4096 16909063

abbrev pub old_header : ℕ → List ℕ → Bool
old_header at other = header_good Old (splice laid_old_header at other) 4096 16909063

-- with other counts from byte 4 on: count (two bytes), buckets, sections, L
abbrev pub counts : ℕ → ℕ → ℕ → ℕ → ℕ → Bool
counts low high buckets sections L = header 4 (low ∷ high ∷ buckets ∷ sections ∷ L ∷ [])

-- 999,999,999,999,999 = 0x038D7EA4C67FFF, and one more
abbrev pub last_time : List ℕ
last_time = eight 255 127 198 164 126 141 3 0

abbrev pub past_time : List ℕ
past_time = eight 0 128 198 164 126 141 3 0

unfoldable pub header_damage : List (Bool × Bool)
header_damage =
    -- as laid
    (header 0 [], good)
    ∷ (old_header 0 [], good)
    -- "any other byte 10 counts as damage"; document 01 did not look at it
    ∷ (header 10 (one 0), bad)
    ∷ (header 10 (one 2), bad)
    ∷ (old_header 10 (one 9), good)
    -- "count not 1 to 320": 0, 1, 320 = 256 + 64, 321 (whose sections would be 6, with L = 512 div 6 = 85)
    ∷ (counts 0 0 1 0 0, bad)
    ∷ (counts 0 0 1 0 128, bad)
    ∷ (counts 0 0 1 1 128, bad)
    ∷ (counts 1 0 1 1 128, good)
    ∷ (counts 64 1 36 5 102, good)
    ∷ (counts 65 1 36 6 85, bad)
    ∷ (counts 65 1 36 5 102, bad)
    -- "buckets not 1 to 36"
    ∷ (counts 1 0 0 1 128, bad)
    ∷ (counts 1 0 36 1 128, good)
    ∷ (counts 1 0 37 1 128, bad)
    -- "sections or L other than its count gives": 64, 65, 256, 257
    ∷ (counts 64 0 1 1 128, good)
    ∷ (counts 64 0 1 2 128, bad)
    ∷ (counts 65 0 1 1 128, bad)
    ∷ (counts 65 0 1 2 128, good)
    ∷ (counts 0 1 1 4 128, good)
    ∷ (counts 0 1 1 4 127, bad)
    ∷ (counts 0 1 1 5 102, bad)
    ∷ (counts 1 1 1 5 102, good)
    ∷ (counts 1 1 1 5 128, bad)
    ∷ (counts 1 1 1 5 101, bad)
    ∷ (counts 1 1 1 4 128, bad)
    -- "a time .. past its limit", "start above end": end at byte 24 up to 999,999,999,999,999; start at byte 16 up to the end
    ∷ (header 24 last_time, good)
    ∷ (header 24 past_time, bad)
    ∷ (header 16 (eight 7 8 6 5 4 3 2 0), good)
    ∷ (header 16 (eight 8 8 6 5 4 3 2 0), bad)
    ∷ (header 16 (last_time ++ last_time), good)
    ∷ (header 16 (past_time ++ past_time), bad)
    -- "a .. load past its limit", "low above high": −50,000 is stored as 1, 100,000 as 150,001 = 241 73 2 0; low −500 at byte 32, high at 36
    ∷ (header 32 (four 1 0 0 0), good)
    ∷ (header 32 (four 0 0 0 0), bad)
    ∷ (header 36 (four 242 73 2 0), bad)
    ∷ (header 36 (four 93 193 0 0), good)
    ∷ (header 36 (four 92 193 0 0), bad)
    ∷ (header 32 (four 241 73 2 0), good)
    ∷ (header 32 (four 242 73 2 0 ++ four 242 73 2 0), bad)
    -- "a pointer slot neither below S nor 65,535": 4,095 = 15·256 + 255, 4,096, 65,534, 65,535; at every level
    ∷ (header 40 (two 255 15), good)
    ∷ (header 40 (two 0 16), bad)
    ∷ (header 40 (two 254 255), bad)
    ∷ (header 40 (two 255 255), good)
    ∷ (header 54 (two 0 16), bad)
    ∷ (header 68 (two 0 16), bad)
    ∷ (header 82 (two 255 15), good)
    ∷ (header 82 (two 0 16), bad)
    ∷ (old_header 40 (two 255 15), good)
    ∷ (old_header 40 (two 0 16), bad)
    ∷ (old_header 50 (two 0 16), bad)
    ∷ (old_header 60 (two 0 16), bad)
    ∷ (old_header 70 (two 0 16), bad)
    -- a pointer's time, at byte 6 of a pointer, in form 0 at byte 2; also of one that is none (level 3)
    ∷ (header 46 last_time, good)
    ∷ (header 46 past_time, bad)
    ∷ (header 74 last_time, good)
    ∷ (header 74 past_time, bad)
    ∷ (header 88 past_time, bad)
    ∷ (old_header 42 last_time, good)
    ∷ (old_header 42 past_time, bad)
    ∷ (old_header 72 past_time, bad)
    -- the highest byte of the end, the start, a pointer's time, high, low and the serial counts
    ∷ (header 31 (one 1), bad)
    ∷ (header 23 (one 1), bad)
    ∷ (header 53 (one 1), bad)
    ∷ (old_header 49 (one 1), bad)
    ∷ (header 39 (one 1), bad)
    ∷ (header 35 (one 1), bad)
    ∷ (header 3 (one 2), bad)
    -- its serial has no bound; level, zeros and the rest of the page are not looked at
    ∷ (header 42 (four 255 255 255 255), good)
    ∷ (header 9 (one 0), good)
    ∷ (header 11 (one 1), good)
    ∷ (header 96 (one 1), good)
    -- "a serial not below the header before", 16,909,063 = 7 3 2 1
    ∷ (header 0 (four 7 3 2 1), bad)
    ∷ (header 0 (four 0 0 0 0), good)
    ∷ (old_header 0 (four 6 3 2 1), good)
    ∷ (old_header 0 (four 7 3 2 1), bad)
    ∷ []

-- NAND of two slots with headers of the serials a and b: slot 0 points to slot 1 at level 1, all else is none
abbrev pub chain : ℕ → ℕ → List ℕ
chain a b =
    replicate 15872 255 ++ (splice (splice (splice laid_header 0 (four a 0 0 0)) 40 (two 1 0)) 54 (two 255 255)
    ++ (replicate 15872 255 ++ splice (splice (splice laid_header 0 (four b 0 0 0)) 40 (two 255 255)) 54 (two 255 255)))

-- whether a skip walk past both headers meets no damage, by the open serial and theirs
abbrev pub walked : ℕ → ℕ → ℕ → Bool
walked current a b =
    (skip_walk (chain a b) (record {
      slots = 2;
      current = current;
      count = 0;
      buckets = 0;
      start = 0;
      oldest = 1;
      heads = pointing 0 1 9 ∷ replicate 3 (pointing 65535 0 0);
    }) (serials_from 1) 5).good

-- "a serial not below the header before (for the first, the open serial by then)"
unfoldable pub serial_damage : List (Bool × Bool)
serial_damage =
    (walked 6 5 4, good)
    ∷ (walked 5 5 4, bad)
    ∷ (walked 6 5 5, bad)
    ∷ []

-- ---- buckets

-- the bucket of `Laid`, and the same before its split, with other bytes from a place on: number 2 of 6, 320 lifts
abbrev pub bucket : ℕ → List ℕ → Bool
bucket at other = node_good (node_in (splice laid_bucket at other)) 2 6 320

abbrev pub whole_bucket : ℕ → List ℕ → Bool
whole_bucket at other = node_good (node_in (splice laid_whole at other)) 2 6 320

unfoldable pub bucket_damage : List (Bool × Bool)
bucket_damage =
    (bucket 0 [], good)
    ∷ (whole_bucket 0 [], good)
    -- "a child number not above its parent's or not below the bucket count", left at byte 12 and right at 13; 255 is none
    ∷ (bucket 12 (one 3), good)
    ∷ (bucket 12 (one 2), bad)
    ∷ (bucket 12 (one 5), good)
    ∷ (bucket 12 (one 6), bad)
    ∷ (bucket 13 (one 3), good)
    ∷ (bucket 13 (one 2), bad)
    ∷ (bucket 13 (one 5), good)
    ∷ (bucket 13 (one 6), bad)
    ∷ (bucket 13 (one 254), bad)
    ∷ (bucket 13 (one 255), good)
    -- "only then are its children read": not of a bucket that is not split
    ∷ (whole_bucket 12 (two 0 254), good)
    -- "a range outside x<y≤100,000": y = 100,000 is 150,001, 241 73 2 0; x one below, at it; y one above
    ∷ (whole_bucket 0 (four 240 73 2 0), good)
    ∷ (whole_bucket 0 (four 241 73 2 0), bad)
    ∷ (whole_bucket 4 (four 242 73 2 0), bad)
    ∷ (whole_bucket 0 (four 0 0 0 0), good)
    -- "a used mid outside x<mid≤y": x = 74 195 0 0
    ∷ (bucket 8 (four 74 195 0 0), bad)
    ∷ (bucket 8 (four 75 195 0 0), good)
    ∷ (bucket 8 (four 241 73 2 0), good)
    ∷ (bucket 8 (four 242 73 2 0), bad)
    ∷ (bucket 8 (four 254 255 255 255), bad)
    -- "an entry position not below count", 320 = 64 1: of entry 1 at byte 36, where 319 stands; of entry 0 at byte 28
    ∷ (bucket 36 (two 64 1), bad)
    ∷ (bucket 28 (two 63 1), good)
    ∷ (bucket 28 (two 64 1), bad)
    ∷ (bucket 28 (two 254 255), bad)
    -- the thirteenth entry, at byte 124, after twelve that are used; "entries end at the first with position 65,535"
    ∷ (bucket 44 (replicate 80 0 ++ two 63 1), good)
    ∷ (bucket 44 (replicate 80 0 ++ two 64 1), bad)
    ∷ (bucket 124 (two 64 1), good)
    -- the highest byte of x, y and mid counts
    ∷ (whole_bucket 3 (one 1), bad)
    ∷ (whole_bucket 7 (one 1), bad)
    ∷ (bucket 11 (one 1), bad)
    -- an entry's load has no limit of its own
    ∷ (bucket 24 (four 255 255 255 255), good)
    ∷ []

-- a search of one bucket for the loads k1 to k2, as stored: the places found, or none for damage. The bucket's entry is −500 (49,501 =
-- 193·256 + 93) at place 1, where a record stands with a load of these bytes
abbrev pub found : List ℕ → ℕ → ℕ → Option (List ℕ)
found load k1 k2 =
    sweep_on (four 0 0 0 0 ++ (four 241 73 2 0 ++ (replicate 16 255 ++ (eight 93 193 0 0 1 0 255 255 ++ replicate 96 255)))) 1 2
    (code_in (replicate 32 0 ++ splice laid_record 8 load) [] 320) k1 k2

unfoldable pub record_damage : List (Option (List ℕ) × Option (List ℕ))
record_damage =
    -- "where a search reads the record, a load unlike it": for loads from k1 to k2 alone
    (found (four 93 193 0 0) 49501 49501, some (1 ∷ []))
    ∷ (found (four 94 193 0 0) 49501 49501, none)
    ∷ (found (four 93 193 0 1) 49501 49501, none)
    ∷ (found (four 93 193 0 1) 49501 150001, none)
    ∷ (found (four 93 193 0 1) 1 49501, none)
    ∷ (found (four 93 193 0 1) 49502 150001, some [])
    ∷ (found (four 93 193 0 1) 1 49500, some [])
    ∷ []

-- ---- NOR bytes due for writing

-- NOR of n bytes, all 255 but one byte at a place, with its highest bit written; a lift of 500 after `count` lifts goes where the plan
-- says, a new bucket having the number `buckets`
abbrev pub clear_among : ℕ → Plan → ℕ → ℕ → ℕ → Bool
clear_among buckets plan count n at =
    nor_clear (world [] (splice (replicate n 255) at (one 127)) (state_of 2 2 count buckets 9 0 (pos 0) (pos 0) zeros no_heads)) (pos 500) plan

abbrev pub clear : Plan → ℕ → ℕ → ℕ → Bool
clear plan count n at = clear_among 1 plan count n at

-- the root, full, is split at 500: its mid (byte 8), its left child (12); bucket 1 has its range from byte 128, its entry from 152
abbrev pub splitting : ℕ → Bool
splitting at = clear (split_bucket 0 50501 12 0 50501) 13 256 at

-- bucket 2 of 3 is split, and 500 goes into a right child: mid from byte 2·128 + 8 = 264, child byte 269, bucket 3 from 384
abbrev pub splitting_third : ℕ → Bool
splitting_third at = clear_among 3 (split_bucket 2 50500 13 50500 150001) 39 512 at

unfoldable pub nor_damage : List (Bool × Bool)
nor_damage =
    -- "an entry's load and position": entry 1 of bucket 0, bytes 32 to 37 and not the filler after them
    (clear (into_bucket 0 1) 1 256 31, good)
    ∷ (clear (into_bucket 0 1) 1 256 32, bad)
    ∷ (clear (into_bucket 0 1) 1 256 37, bad)
    ∷ (clear (into_bucket 0 1) 1 256 38, good)
    -- "a new bucket's range" and its entry: the root
    ∷ (clear new_root 0 256 0, bad)
    ∷ (clear new_root 0 256 7, bad)
    ∷ (clear new_root 0 256 8, good)
    ∷ (clear new_root 0 256 23, good)
    ∷ (clear new_root 0 256 24, bad)
    ∷ (clear new_root 0 256 29, bad)
    ∷ (clear new_root 0 256 30, good)
    -- "a mid, a child number"
    ∷ (splitting 7, good)
    ∷ (splitting 8, bad)
    ∷ (splitting 11, bad)
    ∷ (splitting 12, bad)
    ∷ (splitting 13, good)
    ∷ (splitting 127, good)
    ∷ (splitting 128, bad)
    ∷ (splitting 135, bad)
    ∷ (splitting 136, good)
    ∷ (splitting 151, good)
    ∷ (splitting 152, bad)
    ∷ (splitting 157, bad)
    ∷ (splitting 158, good)
    ∷ (splitting_third 8, good)
    ∷ (splitting_third 263, good)
    ∷ (splitting_third 264, bad)
    ∷ (splitting_third 267, bad)
    ∷ (splitting_third 268, good)
    ∷ (splitting_third 269, bad)
    ∷ (splitting_third 270, good)
    ∷ (splitting_third 383, good)
    ∷ (splitting_third 384, bad)
    ∷ (splitting_third 391, bad)
    ∷ (splitting_third 392, good)
    ∷ (splitting_third 408, bad)
    ∷ (splitting_third 413, bad)
    ∷ (splitting_third 414, good)
    -- a new right child below a split root: byte 13, and not the mid
    ∷ (clear (new_child 0 13 50501 150001) 14 256 13, bad)
    ∷ (clear (new_child 0 13 50501 150001) 14 256 12, good)
    ∷ (clear (new_child 0 13 50501 150001) 14 256 8, good)
    ∷ (clear (new_child 0 13 50501 150001) 14 256 128, bad)
    -- "a Bloom section": at the sixty-fourth lift, bytes 4,608 to 4,735
    ∷ (clear (into_bucket 0 1) 63 4737 4607, good)
    ∷ (clear (into_bucket 0 1) 63 4737 4608, bad)
    ∷ (clear (into_bucket 0 1) 63 4737 4735, bad)
    ∷ (clear (into_bucket 0 1) 63 4737 4736, good)
    ∷ (clear (into_bucket 0 1) 62 4737 4608, good)
    ∷ []

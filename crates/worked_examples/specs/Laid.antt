-- Pages, buckets and records as the papers lay them down, byte by byte by hand: what the definitions are to write, and what the
-- examples of damage start from. Assumes nothing.
use Rattle.std.specs.Prelude.{List, [], ◌∷◌, ◌++◌, ℕ, zero, suc, replicate}
use Rattle.worked_examples.specs.Figures.{one, two, four, eight}

-- "Header: serial 4, count 2, buckets, sections, L, level 1 each, six zeros", byte 10 by the form:
-- serial 16,909,062 = 0x01020306, count 258 = 256 + 2, 21 buckets, 5 sections (4·64 < 258 ≤ 5·64), L = 512 div 5 = 102,
-- level 2 (…0110 ends in one zero bit)
abbrev pub laid_counts : ℕ → List ℕ
laid_counts form =
    four 6 3 2 1 ++ (two 2 1 ++ (one 21 ++ (one 5 ++ (one 102 ++ (one 2 ++ (one form ++ replicate 5 0))))))

-- "start and end time 8 each, low and high load 4 each": start 0x02030405060708, end 0x02030405060807;
-- −500 is stored as 49,501 = 193·256 + 93, 100,000 as 150,001 = 2·65,536 + 73·256 + 241
abbrev pub laid_span : List ℕ
laid_span = eight 8 7 6 5 4 3 2 0 ++ (eight 7 8 6 5 4 3 2 0 ++ (four 93 193 0 0 ++ four 241 73 2 0))

-- form 1, "slot 2, serial 4, time 8": level 1 points to serial 16,909,061 in slot 16,909,060 mod 4,096 = 0x304, start
-- 0x01030405060708; level 2 to 16,909,060 in slot 0x303, start 0x01020405060708; "the others none": "slot 65,535, time 0", serial 0
abbrev pub laid_pointers : List ℕ
laid_pointers =
    two 4 3 ++ (four 5 3 2 1 ++ (eight 8 7 6 5 4 3 1 0
    ++ (two 3 3 ++ (four 4 3 2 1 ++ (eight 8 7 6 5 4 2 1 0
    ++ (two 255 255 ++ (replicate 12 0
    ++ (two 255 255 ++ replicate 12 0))))))))

-- form 0, "slot (2), start time (8)"
abbrev pub laid_old_pointers : List ℕ
laid_old_pointers =
    two 4 3 ++ (eight 8 7 6 5 4 3 1 0
    ++ (two 3 3 ++ (eight 8 7 6 5 4 2 1 0
    ++ (two 255 255 ++ (replicate 8 0
    ++ (two 255 255 ++ replicate 8 0))))))

-- "zeros": 512 − 16 − 24 − 4·14 = 416, in form 0 512 − 16 − 24 − 4·10 = 432
abbrev pub laid_header : List ℕ
laid_header = laid_counts 1 ++ (laid_span ++ (laid_pointers ++ replicate 416 0))

abbrev pub laid_old_header : List ℕ
laid_old_header = laid_counts 0 ++ (laid_span ++ (laid_old_pointers ++ replicate 432 0))

-- "min x, max y, mid (4 bytes each), left and right child (1 each, 255 none), ten bytes 255, then 13 entries of 8: load 4,
-- position 2, two bytes 255": x = −7, stored 49,994 = 195·256 + 74; y = 100,000; mid −3, stored 49,998; no left child, right child 4;
-- −5, stored 49,996, at place 3; 100,000 at place 319 = 256 + 63; eleven entries not used
abbrev pub laid_bucket : List ℕ
laid_bucket =
    four 74 195 0 0 ++ (four 241 73 2 0 ++ (four 78 195 0 0 ++ (two 255 4 ++ (replicate 10 255
    ++ (eight 76 195 0 0 3 0 255 255 ++ (eight 241 73 2 0 63 1 255 255 ++ replicate 88 255))))))

-- the same bucket before its split: "Mid and entries stay 255 until used"
abbrev pub laid_whole : List ℕ
laid_whole =
    four 74 195 0 0 ++ (four 241 73 2 0 ++ (replicate 16 255
    ++ (eight 76 195 0 0 3 0 255 255 ++ (eight 241 73 2 0 63 1 255 255 ++ replicate 88 255))))

-- entries of load 500, stored 50,501 = 197·256 + 69, at n places from p on
unfoldable pub laid_entries : ℕ → ℕ → List ℕ
laid_entries zero p = []
laid_entries (suc n) p = eight 69 197 0 0 p 0 255 255 ++ laid_entries n (suc p)

-- "Its record has 32 bytes: time 8, load 4, note 20": time 0x02030405060708, load −500
abbrev pub laid_note : List ℕ
laid_note = 1 ∷ 2 ∷ 3 ∷ 4 ∷ 5 ∷ 6 ∷ 7 ∷ 8 ∷ 9 ∷ 10 ∷ 11 ∷ 12 ∷ 13 ∷ 14 ∷ 15 ∷ 16 ∷ 17 ∷ 18 ∷ 19 ∷ 20 ∷ []

abbrev pub laid_record : List ℕ
laid_record = eight 8 7 6 5 4 3 2 0 ++ (four 93 193 0 0 ++ laid_note)

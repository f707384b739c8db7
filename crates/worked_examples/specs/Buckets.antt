-- Worked examples of trees of loads and of where an entry goes (document 01, "Tree"). Stored numbers: load + 50,001. Assumes nothing.
use Rattle.std.specs.Prelude.{List, [], ◌∷◌, ◌++◌, map, ℕ, ◌-◌, ◌*◌, pos, replicate}
use Rattle.lift.specs.Limits.{stored}
use Rattle.tree.specs.Rules.{Entry, Bucket, buckets_of}
use Rattle.tree.specs.Bytes.{mid_number, left_number, right_number}
use Rattle.tree.specs.Plan.{Plan, no_room, new_root, into_bucket, new_child, split_bucket, plan_on}
use Rattle.tree.specs.Writes.{writes_of, all_written}
use Rattle.worked_examples.specs.Figures.{two, four, eight}
use Rattle.worked_examples.specs.Laid.{laid_entries}

-- n lifts of a load
abbrev pub lifts : ℕ → ℕ → List ℕ
lifts n load = replicate n (stored (pos load))

-- a bucket in numbers: x, y, mid (4,294,967,295: not split), left and right child (255: none), the places of its entries
abbrev pub shown : Bucket → List ℕ
shown b =
    b.x ∷ b.y ∷ mid_number b.kids ∷ left_number b.kids ∷ right_number b.kids ∷ map (λ (e : Entry). e.position) b.entries

-- places 0 to 12, 13 to 25
abbrev pub first_thirteen : List ℕ
first_thirteen = 0 ∷ 1 ∷ 2 ∷ 3 ∷ 4 ∷ 5 ∷ 6 ∷ 7 ∷ 8 ∷ 9 ∷ 10 ∷ 11 ∷ 12 ∷ []

abbrev pub next_thirteen : List ℕ
next_thirteen = 13 ∷ 14 ∷ 15 ∷ 16 ∷ 17 ∷ 18 ∷ 19 ∷ 20 ∷ 21 ∷ 22 ∷ 23 ∷ 24 ∷ 25 ∷ []

-- the buckets of a segment's loads, in order of their numbers
unfoldable pub trees : List (List (List ℕ) × List (List ℕ))
trees =
    -- no lift, no bucket
    (map shown (buckets_of []), [])
    -- 13 equal loads: the root (−50,001, 100,000], stored (0, 150,001], full and not split
    ∷ (map shown (buckets_of (lifts 13 500)), (0 ∷ 150001 ∷ 4294967295 ∷ 255 ∷ 255 ∷ first_thirteen) ∷ [])
    -- the fourteenth: the root is split at 500 (50,501), the paper's figure; 500 ≤ 500 goes left, into bucket 1, (−50,001, 500]
    ∷ (
      map shown (buckets_of (lifts 14 500)),
      (0 ∷ 150001 ∷ 50501 ∷ 1 ∷ 255 ∷ first_thirteen) ∷ (0 ∷ 50501 ∷ 4294967295 ∷ 255 ∷ 255 ∷ 13 ∷ []) ∷ [],
    )
    -- left first: 500 takes number 1; 501 goes right into number 2, (500, 100,000]
    ∷ (
      map shown (buckets_of (lifts 14 500 ++ lifts 1 501)),
      (0 ∷ 150001 ∷ 50501 ∷ 1 ∷ 2 ∷ first_thirteen) ∷ (0 ∷ 50501 ∷ 4294967295 ∷ 255 ∷ 255 ∷ 13 ∷ [])
          ∷ (50501 ∷ 150001 ∷ 4294967295 ∷ 255 ∷ 255 ∷ 14 ∷ []) ∷ [],
    )
    -- right first: 501 takes number 1, then 500 goes left into number 2
    ∷ (
      map shown (buckets_of (lifts 13 500 ++ lifts 1 501 ++ lifts 1 500)),
      (0 ∷ 150001 ∷ 50501 ∷ 2 ∷ 1 ∷ first_thirteen) ∷ (50501 ∷ 150001 ∷ 4294967295 ∷ 255 ∷ 255 ∷ 13 ∷ [])
          ∷ (0 ∷ 50501 ∷ 4294967295 ∷ 255 ∷ 255 ∷ 14 ∷ []) ∷ [],
    )
    -- a child of a child: after 26 of 500 bucket 1, (−50,001, 500], is full; l = h = 500 = y is case 5: −49,501/2, down −24,751
    -- (25,250); 500 goes right, into number 2, (−24,751, 500]
    ∷ (
      map shown (buckets_of (lifts 27 500)),
      (0 ∷ 150001 ∷ 50501 ∷ 1 ∷ 255 ∷ first_thirteen) ∷ (0 ∷ 50501 ∷ 25250 ∷ 255 ∷ 2 ∷ next_thirteen)
          ∷ (25250 ∷ 50501 ∷ 4294967295 ∷ 255 ∷ 255 ∷ 26 ∷ []) ∷ [],
    )
    -- the last 13 loads are the segment's, not the bucket's: 13 of 500, 13 of 600 (bucket 1, right), 480 (bucket 2, left), 600.
    -- Before it: 12 of 600 and 480, A=7,680, D=600·(−6)+480·6 = −720; 107,520−5,040 = 102,480, /182 = 563.1, up 564;
    -- 107,520−23,040 = 84,480, /182 = 464.2, down 464. Bucket 1 is (500, 100,000]: case 3, 2·64 > 100: 1,064/2 = 532 (50,533);
    -- 600 goes right, into number 3, (532, 100,000]
    ∷ (
      map shown (buckets_of (lifts 13 500 ++ lifts 13 600 ++ lifts 1 480 ++ lifts 1 600)),
      (0 ∷ 150001 ∷ 50501 ∷ 2 ∷ 1 ∷ first_thirteen) ∷ (50501 ∷ 150001 ∷ 50533 ∷ 255 ∷ 3 ∷ next_thirteen)
          ∷ (0 ∷ 50501 ∷ 4294967295 ∷ 255 ∷ 255 ∷ 26 ∷ []) ∷ (50533 ∷ 150001 ∷ 4294967295 ∷ 255 ∷ 255 ∷ 27 ∷ []) ∷ [],
    )
    ∷ []

-- a tree of one bucket, laid by hand: range, mid, children, n entries of load 500
abbrev pub alone : List ℕ → List ℕ → List ℕ → List ℕ → ℕ → List ℕ
alone x y mid kids n = x ++ (y ++ (mid ++ (kids ++ (replicate 10 255 ++ (laid_entries n 0 ++ replicate (104 - 8 * n) 255)))))

-- the root, not split; the root, split at 500 with a right child only
abbrev pub root_with : ℕ → List ℕ
root_with n = alone (four 0 0 0 0) (four 241 73 2 0) (four 255 255 255 255) (two 255 255) n

abbrev pub root_split : List ℕ
root_split = alone (four 0 0 0 0) (four 241 73 2 0) (four 69 197 0 0) (two 255 1) 13

-- 500 (50,501 = 197·256 + 69) and 499 (50,500)
abbrev pub narrow : List ℕ
narrow = alone (four 68 197 0 0) (four 69 197 0 0) (four 255 255 255 255) (two 255 255) 13

-- where a load goes in a tree's bytes: `plan_on bytes buckets count last_loads load`
unfoldable pub plans : List (Plan × Plan)
plans =
    -- the first lift makes the root
    (plan_on [] 0 0 (lifts 13 0) 50501, new_root)
    -- twelve entries: one more, as entry 12; thirteen: full
    ∷ (plan_on (root_with 12) 1 12 (lifts 13 500) 50501, into_bucket 0 12)
    -- split at 500: 500 into a left child (byte 12), (−50,001, 500]; 501 into a right one (byte 13), (500, 100,000]
    ∷ (plan_on (root_with 13) 1 13 (lifts 13 500) 50501, split_bucket 0 50501 12 0 50501)
    ∷ (plan_on (root_with 13) 1 13 (lifts 13 500) 50502, split_bucket 0 50501 13 50501 150001)
    -- already split at 500, right child 1: 500 needs a left child, 501 goes down to the right, where bucket 1 is empty
    ∷ (plan_on root_split 2 14 (lifts 13 500) 50501, new_child 0 12 0 50501)
    ∷ (plan_on (root_split ++ root_with 0) 2 14 (lifts 13 500) 50502, into_bucket 1 0)
    -- "if y=x+1, mid is y and the left child has the same range": (499, 500]
    ∷ (plan_on narrow 1 13 (lifts 13 500) 50501, split_bucket 0 50501 12 50500 50501)
    -- "needs bucket 36 (numbers run 0–35)": with 35 buckets number 35 is free, with 36 none is; a place in a bucket needs none
    ∷ (plan_on (root_with 13) 35 13 (lifts 13 500) 50501, split_bucket 0 50501 12 0 50501)
    ∷ (plan_on (root_with 13) 36 13 (lifts 13 500) 50501, no_room)
    ∷ (plan_on root_split 35 14 (lifts 13 500) 50501, new_child 0 12 0 50501)
    ∷ (plan_on root_split 36 14 (lifts 13 500) 50501, no_room)
    ∷ (plan_on (root_with 12) 36 13 (lifts 13 500) 50501, into_bucket 0 12)
    -- "An append that finds 320 lifts": 319 leave room for one
    ∷ (plan_on (root_with 12) 36 319 (lifts 13 500) 50501, into_bucket 0 12)
    ∷ (plan_on (root_with 12) 36 320 (lifts 13 500) 50501, no_room)
    ∷ []

-- NOR's first 256 bytes after a load went where the plan says: `after plan number-of-a-new-bucket load place` on the bytes before
abbrev pub after : List ℕ → Plan → ℕ → ℕ → ℕ → List ℕ
after nor plan n load place = all_written nor (writes_of plan n load place)

-- no bucket
abbrev pub unused : List ℕ
unused = replicate 128 255

unfoldable pub writings : List (List ℕ × List ℕ)
writings =
    -- the first lift: the root's range, and 500 at place 0; the same after a close for want of room
    (after (unused ++ unused) new_root 0 50501 0, root_with 1 ++ unused)
    ∷ (after (unused ++ unused) no_room 36 50501 0, root_with 1 ++ unused)
    -- a thirteenth entry, at place 12
    ∷ (after (root_with 12 ++ unused) (into_bucket 0 12) 1 50501 12, root_with 13 ++ unused)
    -- the root split at 500, left child 1, (−50,001, 500], with 500 at place 13
    ∷ (
      after (root_with 13 ++ unused) (split_bucket 0 50501 12 0 50501) 1 50501 13,
      alone (four 0 0 0 0) (four 241 73 2 0) (four 69 197 0 0) (two 1 255) 13
          ++ (four 0 0 0 0 ++ (four 69 197 0 0 ++ (replicate 16 255 ++ (eight 69 197 0 0 13 0 255 255 ++ replicate 96 255)))),
    )
    -- below a split root: right child 1, (500, 100,000], with 501 (70 197) at place 319 = 63 1
    ∷ (
      after (alone (four 0 0 0 0) (four 241 73 2 0) (four 69 197 0 0) (two 255 255) 13 ++ unused) (new_child 0 13 50501 150001) 1 50502 319,
      root_split ++ (four 69 197 0 0 ++ (four 241 73 2 0 ++ (replicate 16 255 ++ (eight 70 197 0 0 63 1 255 255 ++ replicate 96 255)))),
    )
    -- as entry 1 of bucket 1
    ∷ (after (unused ++ root_with 1) (into_bucket 1 1) 2 50501 1, unused ++ root_with 2)
    ∷ []

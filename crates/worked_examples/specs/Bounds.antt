-- Worked examples of limits: the bounds of the state (ground 3, document 01, "State", last paragraph; document 02, W-202) and grounds 1,
-- 2, 4 to 8 and 12, each at its limit and one past it. Assumes nothing.
use Rattle.std.specs.Prelude.{Bool, true, false, List, [], ◌∷◌, ◌++◌, ℕ, ◌-◌, ℤ, pos, replicate}
use Rattle.std.proofs.Math.Option.{none, some}
use Rattle.form.specs.declared.Form.TheVariants.{Old, New}
use Rattle.bounds.specs.Grounds.{format_ground, lift_ground, query_ground}
use Rattle.segment.specs.Pages.{page_due}
use Rattle.tree.specs.Rules.{insert, buckets_of, root}
use Rattle.store.specs.Bounds.{within_bounds}
use Rattle.store.specs.World.{fills_page, fills_section}
use Rattle.worked_examples.specs.Figures.{minus, good, bad}
use Rattle.worked_examples.specs.States.{pointing, no_heads, zeros, state_of}

-- ---- ground 3

-- a state of form 1 by S, oldest, open, count, buckets, next, start
abbrev pub new : ℕ → ℕ → ℕ → ℕ → ℕ → ℕ → ℕ → Bool
new slots oldest current count buckets next start =
    within_bounds New (state_of oldest current count buckets next start (pos 0) (pos 0) zeros no_heads) 0 slots

-- a state of form 0 by S, oldest, open, count, buckets, next, oldest live, start
abbrev pub old : ℕ → ℕ → ℕ → ℕ → ℕ → ℕ → ℕ → ℕ → Bool
old slots oldest current count buckets next live start =
    within_bounds Old (state_of oldest current count buckets next start (pos 0) (pos 0) zeros no_heads) live slots

-- serials, count and buckets, in both forms alike
abbrev pub both : ℕ → ℕ → ℕ → ℕ → ℕ → List Bool
both slots oldest current count buckets = new slots oldest current count buckets 9 0 ∷ old slots oldest current count buckets 9 0 0 ∷ []

abbrev pub goods : List Bool
goods = good ∷ good ∷ []

abbrev pub bads : List Bool
bads = bad ∷ bad ∷ []

unfoldable pub serial_bounds : List (List Bool × List Bool)
serial_bounds =
    --  S  oldest  open  count  buckets
    -- "serials 1 to 999,999,999", "oldest ≤ open"
    (both 4 1 2 0 0, goods)
    ∷ (both 4 0 2 0 0, bads)
    ∷ (both 4 2 2 0 0, goods)
    ∷ (both 4 3 2 0 0, bads)
    ∷ (both 4 999999999 999999999 0 0, goods)
    ∷ (both 4 999999999 1000000000 0 0, bads)
    ∷ (both 4 1000000000 1000000000 0 0, bads)
    -- "open − oldest ≤ S, below S when count is above 0": 6−2 = 4, 7−2 = 5, 5−2 = 3
    ∷ (both 4 2 6 0 0, goods)
    ∷ (both 4 2 7 0 0, bads)
    ∷ (both 4 2 5 1 1, goods)
    ∷ (both 4 2 6 1 1, bads)
    -- "count 0–320; buckets 0–36, 0 exactly when count is 0"
    ∷ (both 4 2 5 320 36, goods)
    ∷ (both 4 2 5 321 36, bads)
    ∷ (both 4 2 5 320 37, bads)
    ∷ (both 4 2 5 1 0, bads)
    ∷ (both 4 2 5 0 1, bads)
    -- "count 0 if open is 999,999,999"
    ∷ (both 4 999999998 999999998 1 1, goods)
    ∷ (both 4 999999999 999999999 1 1, bads)
    ∷ []

unfoldable pub time_bounds : List (Bool × Bool)
time_bounds =
    -- form 1: S  oldest  open  count  buckets  next  start
    -- next "at most 999,999,999,999,999", start at most 1,000,000,000,000,000
    (new 4 2 2 0 0 999999999999999 0, good)
    ∷ (new 4 2 2 0 0 1000000000000000 0, bad)
    ∷ (new 4 2 2 0 0 9 1000000000000000, good)
    ∷ (new 4 2 2 0 0 9 1000000000000001, bad)
    -- "next is 0 if open is 1 and count 0", and may be 0 elsewhere
    ∷ (new 4 1 1 0 0 0 0, good)
    ∷ (new 4 1 1 0 0 1 0, bad)
    ∷ (new 4 1 1 1 1 0 0, good)
    ∷ (new 4 1 2 0 0 0 0, good)
    -- with count above 0 "a start may equal it"; with count 0 it may be above
    ∷ (new 4 2 2 1 1 9 9, good)
    ∷ (new 4 2 2 1 1 9 10, bad)
    ∷ (new 4 2 2 0 0 9 10, good)
    -- form 0: S  oldest  open  count  buckets  next  oldest live  start
    -- "next, oldest live and start time at most 1,000,000,000,000,000"
    ∷ (old 4 2 2 0 0 1000000000000000 0 0, good)
    ∷ (old 4 2 2 0 0 1000000000000001 0 0, bad)
    ∷ (old 4 2 2 0 0 9 1000000000000000 0, good)
    ∷ (old 4 2 2 0 0 9 1000000000000001 0, bad)
    ∷ (old 4 2 2 0 0 9 0 1000000000000000, good)
    ∷ (old 4 2 2 0 0 9 0 1000000000000001, bad)
    -- "next 0 exactly when open is 1 and count 0"
    ∷ (old 4 1 1 0 0 0 0 0, good)
    ∷ (old 4 1 1 0 0 1 0 0, bad)
    ∷ (old 4 1 1 1 1 1 0 0, good)
    ∷ (old 4 1 1 1 1 0 0 0, bad)
    ∷ (old 4 1 2 0 0 0 0 0, bad)
    ∷ (old 4 1 2 0 0 1 0 0, good)
    -- "with count above 0, start below next"
    ∷ (old 4 2 2 1 1 9 0 8, good)
    ∷ (old 4 2 2 1 1 9 0 9, bad)
    ∷ (old 4 2 2 0 0 9 0 9, good)
    ∷ []

-- a state of form 1 and S = 4 by count (0 or 1), low and high; by its 13 loads; by its heads
abbrev pub span : ℕ → ℤ → ℤ → Bool
span count low high = within_bounds New (state_of 2 2 count count 9 0 low high zeros no_heads) 0 4

abbrev pub recent : List ℤ → Bool
recent ls = within_bounds New (state_of 2 2 0 0 9 0 (pos 0) (pos 0) ls no_heads) 0 4

abbrev pub head_slots : ℕ → ℕ → ℕ → ℕ → Bool
head_slots one two three four =
    within_bounds New (state_of 2 2 0 0 9 0 (pos 0) (pos 0) zeros
    (pointing one 1 0 ∷ pointing two 1 0 ∷ pointing three 1 0 ∷ pointing four 4294967295 18446744073709551615 ∷ [])) 0 4

unfoldable pub load_bounds : List (Bool × Bool)
load_bounds =
    -- "with count above 0 .. low not above high"
    (span 1 (minus 3) (minus 3), good)
    ∷ (span 1 (minus 2) (minus 3), bad)
    ∷ (span 0 (minus 2) (minus 3), good)
    -- "loads within their limits", −50,000 to 100,000, at any count
    ∷ (span 1 (minus 50000) (pos 100000), good)
    ∷ (span 1 (minus 50001) (pos 100000), bad)
    ∷ (span 1 (minus 50000) (pos 100001), bad)
    ∷ (span 0 (minus 50001) (pos 0), bad)
    ∷ (span 0 (pos 0) (pos 100001), bad)
    ∷ (recent (minus 50000 ∷ replicate 11 (pos 0) ++ (pos 100000 ∷ [])), good)
    ∷ (recent (minus 50001 ∷ replicate 11 (pos 0) ++ (pos 100000 ∷ [])), bad)
    ∷ (recent (minus 50000 ∷ replicate 11 (pos 0) ++ (pos 100001 ∷ [])), bad)
    ∷ (recent (replicate 6 (pos 0) ++ (pos 100001 ∷ replicate 6 (pos 0))), bad)
    -- "head slots below S, or 65,535 for none", S = 4; a head's serial and time have no bound
    ∷ (head_slots 3 3 3 3, good)
    ∷ (head_slots 4 3 3 3, bad)
    ∷ (head_slots 3 4 3 3, bad)
    ∷ (head_slots 3 3 4 3, bad)
    ∷ (head_slots 3 3 3 4, bad)
    ∷ (head_slots 65535 65535 65535 65535, good)
    ∷ (head_slots 65534 3 3 3, bad)
    ∷ []

-- ---- the other grounds

unfoldable pub grounds : List (ℕ × ℕ)
grounds =
    -- "S is outside 2 to 4,096, or NAND length is not S slots": 2·16,384 = 32,768, 4,096·16,384 = 67,108,864, 4,097·16,384 = 67,125,248
    (format_ground 16384 6144 1, 1)
    ∷ (format_ground 32768 6144 2, 0)
    ∷ (format_ground 67108864 6144 4096, 0)
    ∷ (format_ground 67125248 6144 4097, 1)
    ∷ (format_ground 32767 6144 2, 1)
    ∷ (format_ground 32769 6144 2, 1)
    -- "NOR length is not 6,144", after ground 1
    ∷ (format_ground 32768 6143 2, 2)
    ∷ (format_ground 32768 6145 2, 2)
    ∷ (format_ground 32767 6143 2, 1)
    -- an append by time, load, next time and open serial: "A time is past its limit", "A load is past its limit"
    ∷ (lift_ground 999999999999999 (pos 100000) 999999999999999 999999997 0, 0)
    ∷ (lift_ground 1000000000000000 (pos 100001) 0 1 0, 4)
    ∷ (lift_ground 9 (minus 50000) 9 1 0, 0)
    ∷ (lift_ground 9 (minus 50001) 10 1 0, 5)
    ∷ (lift_ground 9 (pos 100001) 9 1 0, 5)
    -- "An appended time is below next time", then "An append finds open serial 999,999,998 or more"
    ∷ (lift_ground 8 (pos 0) 9 999999998 0, 7)
    ∷ (lift_ground 9 (pos 0) 9 999999997 0, 0)
    ∷ (lift_ground 9 (pos 0) 9 999999998 0, 8)
    ∷ (lift_ground 9 (pos 0) 9 999999999 0, 8)
    -- a search by t1, t2, k1, k2: both times, both loads, then "A range runs backwards"
    ∷ (query_ground 999999999999999 999999999999999 (minus 50000) (pos 100000), 0)
    ∷ (query_ground 1000000000000000 0 (pos 100001) (pos 0), 4)
    ∷ (query_ground 0 1000000000000000 (pos 0) (pos 0), 4)
    ∷ (query_ground 9 8 (minus 50001) (pos 0), 5)
    ∷ (query_ground 9 8 (pos 0) (pos 100001), 5)
    ∷ (query_ground 9 9 (minus 3) (minus 3), 0)
    ∷ (query_ground 9 8 (minus 3) (minus 3), 6)
    ∷ (query_ground 9 9 (minus 2) (minus 3), 6)
    ∷ []

-- ---- limits of a segment

-- room for a fourteenth lift of 500 in a tree of n buckets whose root is full
abbrev pub room_among : ℕ → Bool
room_among n =
    elim (insert (replicate 13 50501) (buckets_of (replicate 13 50501) ++ replicate (n - 1) (root [])) 50501) [
      | none ↦ bad
      | some t ↦ good
    ]

-- a lift after so many fills its page, its section
abbrev pub fills : ℕ → List Bool
fills count =
    let s = state_of 2 2 count 1 9 0 (pos 0) (pos 0) zeros no_heads in
    fills_page s ∷ fills_section s ∷ []

unfoldable pub segments : List (List Bool × List Bool)
segments =
    -- "needs bucket 36 (numbers run 0–35)"
    (room_among 35 ∷ room_among 36 ∷ [], good ∷ bad ∷ [])
    -- "when its sixteenth lift arrives", "at its sixty-fourth"
    ∷ (fills 14, false ∷ false ∷ [])
    ∷ (fills 15, true ∷ false ∷ [])
    ∷ (fills 16, false ∷ false ∷ [])
    ∷ (fills 63, true ∷ true ∷ [])
    ∷ (fills 319, true ∷ true ∷ [])
    -- pages due at a close: the part-filled lift page, by count 15, 16, 17; 33 = 2·16 + 1, 319 and 320
    ∷ (page_due 15 1 0 ∷ page_due 16 1 0 ∷ page_due 16 1 1 ∷ page_due 17 1 0 ∷ page_due 17 1 1 ∷ [], true ∷ false ∷ false ∷ false ∷ true ∷ [])
    ∷ (page_due 33 1 1 ∷ page_due 33 1 2 ∷ page_due 319 1 19 ∷ page_due 320 1 19 ∷ [], false ∷ true ∷ true ∷ false ∷ [])
    -- page 20 for buckets 1 to 4, page 21 from 5 on, page 28 from 33 on
    ∷ (page_due 1 1 20 ∷ page_due 1 4 21 ∷ page_due 1 5 21 ∷ page_due 1 32 28 ∷ page_due 1 33 28 ∷ [], true ∷ false ∷ true ∷ false ∷ true ∷ [])
    -- pages 29 and 31 always, "page 30 is used only for five sections", from 257 lifts on
    ∷ (page_due 1 1 29 ∷ page_due 1 1 31 ∷ page_due 256 1 30 ∷ page_due 257 1 30 ∷ [], true ∷ true ∷ false ∷ true ∷ [])
    ∷ []

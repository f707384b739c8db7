-- Worked examples of the midpoint rules (document 01, "Tree", from "Prediction" on). Assumes nothing.
use Rattle.std.specs.Prelude.{List, [], ◌∷◌, ◌++◌, map, ℤ, pos, replicate}
use Rattle.split.specs.Split.{bring, mid, low, high}
use Rattle.worked_examples.specs.Figures.{minus}
use Rattle.worked_examples.specs.Examples.{root_mid, stored_root_mid}

-- the mid of a range (x, y] with a prediction l..h: `mid x y l h`. In the comments the first case of the paper is case 1.
unfoldable pub midpoints : List (ℤ × ℤ)
midpoints =
    -- case 1, x=−10 < l=−4 and h=−1 < y=10: (l+h)/2 = −5/2, down −3
    (mid (minus 10) (pos 10) (minus 4) (minus 1), minus 3)
    -- x = l = h = −10: not x<l, not x<h, so case 5: (x+y)/2 = −5/2, down −3
    ∷ (mid (minus 10) (pos 5) (minus 10) (minus 10), minus 3)
    -- l = h = y = 4: not h<y, not l<y, so case 5: (x+y)/2 = −5/2, down −3
    ∷ (mid (minus 9) (pos 4) (pos 4) (pos 4), minus 3)
    -- case 2, l=−20 ≤ x=−10 and y=−3 ≤ h=5: (x+y)/2 = −13/2, down −7
    ∷ (mid (minus 10) (minus 3) (minus 20) (pos 5), minus 7)
    -- case 2 with l = x: −7 again, where case 4 would give the smaller of −10 and −7
    ∷ (mid (minus 10) (minus 3) (minus 10) (pos 5), minus 7)
    -- case 2 with y = h: −7 again, where case 3 would give the larger of −3 and −7
    ∷ (mid (minus 10) (minus 3) (minus 20) (minus 3), minus 7)
    -- case 3, l=−7 ≤ x=−5 < h=2 ≤ y=9, 2(h−x)=14 > h−l=9: (x+h)/2 = −3/2, down −2
    ∷ (mid (minus 5) (pos 9) (minus 7) (pos 2), minus 2)
    -- case 3 with l = x=−10, h=−1, y=10, 18 > 9: (x+h)/2 = −11/2, down −6
    ∷ (mid (minus 10) (pos 10) (minus 10) (minus 1), minus 6)
    -- case 3, x=−5, h=2, 2(h−x)=14 not above h−l=14: the larger of h=2 and (x+y)/2 = 9/2, down 4
    ∷ (mid (minus 5) (pos 14) (minus 12) (pos 2), pos 4)
    -- case 3, x=−5, h=−1, 8 not above 19: the larger of h=−1 and (x+y)/2 = −3/2, down −2
    ∷ (mid (minus 5) (pos 2) (minus 20) (minus 1), minus 1)
    -- case 3, x=−30, h=−28, 4 not above 12: the larger of h=−28 and (x+y)/2 = −41/2, down −21
    ∷ (mid (minus 30) (minus 11) (minus 40) (minus 28), minus 21)
    -- case 4, x=−9 ≤ l=−6 < y=1 ≤ h=4, 2(y−l)=14 > h−l=10: (l+y)/2 = −5/2, down −3
    ∷ (mid (minus 9) (pos 1) (minus 6) (pos 4), minus 3)
    -- case 4 with y = h=1, 14 > 7: (l+y)/2 = −3 again, where case 5 would give −4
    ∷ (mid (minus 9) (pos 1) (minus 6) (pos 1), minus 3)
    -- case 4, l=−6, y=1, 2(y−l)=14 not above h−l=14: the smaller of l=−6 and (x+y)/2 = −29/2, down −15
    ∷ (mid (minus 30) (pos 1) (minus 6) (pos 8), minus 15)
    -- case 4, l=−9, y=2, 22 not above 29: the smaller of l=−9 and (x+y)/2 = −9/2, down −5
    ∷ (mid (minus 11) (pos 2) (minus 9) (pos 20), minus 9)
    -- case 5, h below x; h = x; l = y; l above y: (x+y)/2 = −5/2, down −3
    ∷ (mid (minus 8) (pos 3) (minus 20) (minus 10), minus 3)
    ∷ (mid (minus 8) (pos 3) (minus 20) (minus 8), minus 3)
    ∷ (mid (minus 8) (pos 3) (pos 3) (pos 9), minus 3)
    ∷ (mid (minus 8) (pos 3) (pos 5) (pos 9), minus 3)
    -- brought up: case 3, x = l=−4, h=−3, 2 > 1: (x+h)/2 = −7/2, down −4, brought to x+1 = −3
    ∷ (mid (minus 4) (pos 5) (minus 4) (minus 3), minus 3)
    -- the least range with a mid inside, y = x+2: case 2, −6/2 = −3 = x+1 = y−1
    ∷ (mid (minus 4) (minus 2) (minus 20) (pos 20), minus 3)
    -- y = x+1: mid is y; (x+y)/2 = −9/2 would be −5
    ∷ (mid (minus 5) (minus 4) (minus 20) (pos 20), minus 4)
    -- "brought into x+1..y−1", here −3..4: at both ends, one inside, one past, far past
    ∷ (bring (minus 9) (minus 4) (pos 5), minus 3)
    ∷ (bring (minus 4) (minus 4) (pos 5), minus 3)
    ∷ (bring (minus 3) (minus 4) (pos 5), minus 3)
    ∷ (bring (minus 2) (minus 4) (pos 5), minus 2)
    ∷ (bring (pos 3) (minus 4) (pos 5), pos 3)
    ∷ (bring (pos 4) (minus 4) (pos 5), pos 4)
    ∷ (bring (pos 5) (minus 4) (pos 5), pos 4)
    ∷ (bring (pos 9) (minus 4) (pos 5), pos 4)
    ∷ []

-- thirteen loads: twelve alike and a last one; a first one and twelve alike
abbrev pub then_one : ℤ → ℤ → List ℤ
then_one load last = replicate 12 load ++ (last ∷ [])

abbrev pub one_then : ℤ → ℤ → List ℤ
one_then first load = first ∷ replicate 12 load

-- 620, 610 .. 500
abbrev pub falling : List ℤ
falling = map pos (620 ∷ 610 ∷ 600 ∷ 590 ∷ 580 ∷ 570 ∷ 560 ∷ 550 ∷ 540 ∷ 530 ∷ 520 ∷ 510 ∷ 500 ∷ [])

-- a 1 among zeros, the seventh of thirteen
abbrev pub middle : List ℤ
middle = replicate 6 (pos 0) ++ (pos 1 ∷ replicate 6 (pos 0))

-- seven light lifts, then six heavy ones
abbrev pub leap : List ℤ
leap = replicate 7 (minus 50000) ++ replicate 6 (pos 100000)

-- the prediction l, h from thirteen loads, and the mid that it gives the root (−50,001, 100,000], by loads and by stored numbers
unfoldable pub predictions : List (ℤ × ℤ)
predictions =
    -- 12 of 50, then 53: A=653, D=6·3=18; 14A=9142, +7D = 9268 = 182·50+168, +32D = 9718 = 182·53+72: l=50, h=54, mid 104/2 = 52
    (low (then_one (pos 50) (pos 53)), pos 50)
    ∷ (high (then_one (pos 50) (pos 53)), pos 54)
    ∷ (root_mid (then_one (pos 50) (pos 53)), pos 52)
    -- the same below zero, falling: −9268/182 = −50.9 is the larger, up −50; −9718/182 = −53.4, down −54
    ∷ (low (then_one (minus 50) (minus 53)), minus 54)
    ∷ (high (then_one (minus 50) (minus 53)), minus 50)
    -- 12 of −50, then −52: A=−652, D=−12; −9128−84 = −9212, /182 = −50.6, up −50; −9128−384 = −9512, /182 = −52.3, down −53;
    -- mid −103/2, down −52
    ∷ (low (then_one (minus 50) (minus 52)), minus 53)
    ∷ (high (then_one (minus 50) (minus 52)), minus 50)
    ∷ (root_mid (then_one (minus 50) (minus 52)), minus 52)
    ∷ (stored_root_mid (then_one (minus 50) (minus 52)), minus 52)
    -- 7, then 12 of 0: A=7, D=−42; 98−294 = −196, /182 = −1.1, up −1; 98−1344 = −1246, /182 = −6.8, down −7; mid −8/2 = −4
    ∷ (low (one_then (pos 7) (pos 0)), minus 7)
    ∷ (high (one_then (pos 7) (pos 0)), minus 1)
    ∷ (root_mid (one_then (pos 7) (pos 0)), minus 4)
    -- −7, then 12 of 0: 196/182 = 1.1, down 1; 1246/182 = 6.8, up 7
    ∷ (low (one_then (minus 7) (pos 0)), pos 1)
    ∷ (high (one_then (minus 7) (pos 0)), pos 7)
    -- 620, 610 .. 500: A=7280, D=−1820; 101920−12740 = 89180 = 182·490, 101920−58240 = 43680 = 182·240; mid 730/2 = 365
    ∷ (low falling, pos 240)
    ∷ (high falling, pos 490)
    ∷ (root_mid falling, pos 365)
    -- 13 of −1: A=−13, D=0; −182/182 = −1 needs no rounding
    ∷ (low (then_one (minus 1) (minus 1)), minus 1)
    ∷ (high (then_one (minus 1) (minus 1)), minus 1)
    -- the middle one alone, 1: A=1, D=0; 14/182: down 0, up 1
    ∷ (low middle, pos 0)
    ∷ (high middle, pos 1)
    -- no load limit holds the prediction: A=−350000+600000 = 250000, D=21·50000+21·100000 = 3150000;
    -- 3500000+22050000 = 25550000, /182 = 140384.6; 3500000+100800000 = 104300000, /182 = 573076.9
    ∷ (low leap, pos 140384)
    ∷ (high leap, pos 573077)
    -- so case 5: (−50001+100000)/2 = 49999/2, down 24999
    ∷ (root_mid leap, pos 24999)
    ∷ (stored_root_mid leap, pos 24999)
    ∷ []

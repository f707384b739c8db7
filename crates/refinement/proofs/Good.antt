-- What holds of every history that calls make: serials, times and loads in their bounds, every segment with a tree. Assumes nothing.
use mathlib.Core.Path.{◌≡◌}
use mathlib.Core.Bool.{true, false}
use mathlib.Core.Option.{some}
use mathlib.Core.List.{List, [], ◌∷◌}
use Prim.Native.Nat.{ℕ, ◌+◌, ◌≤◌, ◌<◌}
use lib.ListN.{length, get_or}
use Rattle.form.specs.Forms.{step}
use Rattle.skiplist.specs.Skip as Skip
use Rattle.lift.specs.Limits.{load_ok}
use Rattle.tree.specs.Rules.{Bucket, tree_of}
use Rattle.paper_log.specs.Log.{Lift, open_serial, codes}
use Rattle.refinement.specs.Inner.Image.{History, oldest_heads, live_of}

-- a lift that an append has accepted
pub record GoodLift (l : Lift) : Type 0 where
  pub time : l.time ≤ 999999999999999
  pub load : load_ok l.load ≡ true
  pub note : length l.note ≡ 20
  pub bytes : (i : ℕ) → get_or l.note i 0 < 256

abbrev pub GoodLifts : List Lift → Type 0
GoodLifts [] = Unit {0}
GoodLifts (l ∷ ls) = GoodLift l × GoodLifts ls

-- a segment's lifts: few enough, and with a tree
pub record Built (ls : List Lift) : Type 0 where
  pub few : length ls ≤ 320
  pub lifts : GoodLifts ls
  pub tree : List Bucket
  pub is : tree_of (codes ls) ≡ some tree

abbrev pub AllBuilt : List (List Lift) → Type 0
AllBuilt [] = Unit {0}
AllBuilt (ls ∷ rest) = Built ls × AllBuilt rest

-- times rise by s or more: next time is n before the lifts and m after them, s above the last one
pub data Times (s : ℕ) : ℕ → List Lift → ℕ → Type 0 where
  none : {n : ℕ} → Times s n [] n
  more : {n m : ℕ} {l : Lift} {ls : List Lift} → n ≤ l.time → Times s (l.time + s) ls m → Times s n (l ∷ ls) m

-- the same over segments, each with a lift
pub data Segments (s : ℕ) : ℕ → List (List Lift) → ℕ → Type 0 where
  none : {n : ℕ} → Segments s n [] n
  more : {n k m : ℕ} {l : Lift} {ls : List Lift} {rest : List (List Lift)} → Times s n (l ∷ ls) k → Segments s k rest m
      → Segments s n ((l ∷ ls) ∷ rest) m

-- start times within their limit
abbrev pub Limited : List ℕ → Type 0
Limited [] = Unit {0}
Limited (t ∷ ts) = (t ≤ 999999999999999) × Limited ts

pub record Good (h : History) : Type 0 where
  pub least : 2 ≤ h.log.slots
  pub most : h.log.slots ≤ 4096
  pub serial : h.log.oldest ≡ length h.gone + 1
  pub room : length h.log.closed ≤ h.log.slots
  pub busy : 0 < length h.log.current → length h.log.closed < h.log.slots
  pub last : open_serial h.log ≤ 999999999
  pub still : 0 < length h.log.current → open_serial h.log ≤ 999999998
  pub before : ℕ
  pub begun : ℕ
  pub fresh : length h.gone ≡ 0 → before ≡ 0
  pub later : 0 < length h.gone → step h.log.form ≤ before
  pub limited : Limited h.gone
  pub dead : (k : ℕ) → Skip.is_live (get_or (oldest_heads h) k Skip.none) (live_of h.log) ≡ false
  pub closed : Segments (step h.log.form) before h.log.closed begun
  pub current : Times (step h.log.form) begun h.log.current h.log.next
  pub end : h.log.next ≤ 999999999999999 + step h.log.form
  pub segments : AllBuilt h.log.closed
  pub segment : Built h.log.current

-- What a search takes from a tree's bytes (document 01, "Search": "The matches of one segment are a set of 320 bits").
-- Assumes nothing.
use Rattle.std.specs.Prelude.{Option as Maybe, Some, None, Bool, true, false, cond, ◌&&◌, List, [], ◌∷◌, ℕ, ◌-◌, ◌*◌, ◌≤◌, leb, length}
use Rattle.std.proofs.Math.Option.{Option, none, some}
use Rattle.bitset.specs.Inner.Words.{empty_words, insert_all}
use Rattle.lift.specs.Record.{record_width}
use Rattle.lift.specs.Rows.{time_in, code_in}
use Rattle.tree.specs.Sweep.{sweep_on}
use Rattle.sweep.specs.declared.Records.{Records}
use Rattle.sweep.specs.declared.Range.{Range}
use Rattle.sweep.specs.declared.Sweep.{Sweep}
use Rattle.sweep.specs.declared.Swept.{Swept}
use Rattle.bitset.specs.declared.Bits.{Bits}

-- damage: no set
abbrev pub none_swept : Sweep
none_swept = record { good = false; set = record { words = empty_words } }

-- what the code answers: none where damage was met
abbrev pub as_sweep : Maybe Bits → Sweep
as_sweep None = none_swept
as_sweep (Some b) = record { good = true; set = b }

abbrev pub found_of : Maybe Swept → Sweep
found_of None = none_swept
found_of (Some s) = record { good = true; set = s.set }

-- a set with the positions that are found, or damage
abbrev pub swept_from : List ℕ → Option (List ℕ) → Sweep
swept_from ws none = none_swept
swept_from ws (some ps) = record { good = true; set = record { words = insert_all ws ps } }

-- the positions that pass a test, in their order
abbrev pub passing : (ℕ → Bool) → List ℕ → List ℕ
passing f [] = []
passing f (p ∷ ps) = cond (f p) (p ∷ passing f ps) (passing f ps)

abbrev pub passing_of : (ℕ → Bool) → Option (List ℕ) → Option (List ℕ)
passing_of f none = none
passing_of f (some ps) = some (passing f ps)

-- a time from t1 to t2; a lift's place with such a time
abbrev pub timely : Range → ℕ → Bool
timely r t = leb r.t1 t && leb t r.t2

abbrev pub timely_at : List ℕ → List ℕ → Records → Range → ℕ → Bool
timely_at lifts tail g r p = timely r (time_in lifts tail g.first p)

-- the positions of the entries with loads from k1 to k2 in the tree's bytes, whose records stand in `lifts` and `tail` and have times from
-- t1 to t2
unfoldable pub swept_of : List ℕ → List ℕ → List ℕ → Records → Range → Sweep
swept_of tree lifts tail g r =
    swept_from empty_words (passing_of (timely_at lifts tail g r)
    (sweep_on tree g.buckets g.count (code_in lifts tail g.first) r.k1 r.k2))

-- the records of so many lifts lie within their areas
pub record Recorded (lifts tail : List ℕ) (g : Records) : Type 0 where
  pub few : g.count ≤ 320
  pub before : g.count * record_width ≤ length lifts
  pub after : (g.count - g.first) * record_width ≤ length tail
  pub any : record_width ≤ length tail

-- so do the buckets
pub record Held (tree lifts tail : List ℕ) (g : Records) : Type 0 where
  pub few : g.buckets ≤ 36
  pub inside : g.buckets * 128 ≤ length tree
  pub records : Recorded lifts tail g

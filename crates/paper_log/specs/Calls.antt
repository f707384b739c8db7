-- The calls on the paper log and the numbers that they return (document 01, "Paper log", first paragraph). Assumes nothing.
use Rattle.std.specs.Prelude.{Bool, cond, not, ◌&&◌, ◌||◌, List, [], ◌∷◌, map, ℕ, eqb, leb, ltb, ℤ, length}
use Rattle.std.specs.Int.Signed.{lt_z}
use Rattle.lift.specs.Limits.{time_ok, load_ok, load_least, load_most}
use Rattle.paper_log.specs.Log.{Lift, Log, open_serial, close_log, drop_log, append_log, found, row_of}

-- "of each call, its kind, its S, times, loads and notes and the number of whole rows in its result area"
pub data Call : Type 0 where
  append : ℕ → Lift → Call
  close : ℕ → Call
  drop : ℕ → Call
  search : ℕ → ℕ → ℕ → ℤ → ℤ → ℕ → Call

-- the number, and of an accepted search the rows; their count is their number
pub record Answer : Type 0 where
  pub number : ℕ
  pub rows : List (List ℕ)

-- number n if the ground holds, else what the later grounds give
abbrev pub ground : ℕ → Bool → ℕ → ℕ
ground n holds rest = cond holds n rest

-- "A call naming another S gets number 1, any other the first of grounds 4 to 9 and 12 that holds in this log, or 0"
unfoldable pub number_of : Log → Call → ℕ
number_of g (append slots l) =
    ground 1 (not (eqb slots g.slots))
    (ground 4 (not (time_ok l.time))
    (ground 5 (not (load_ok l.load))
    (ground 7 (ltb l.time g.next)
    (ground 8 (leb 999999998 (open_serial g))
    0))))
number_of g (close slots) = ground 1 (not (eqb slots g.slots)) (ground 9 (eqb (length g.current) 0) 0)
number_of g (drop slots) = ground 1 (not (eqb slots g.slots)) (ground 9 (eqb (length g.closed) 0) 0)
number_of g (search slots t1 t2 k1 k2 rows) =
    ground 1 (not (eqb slots g.slots))
    (ground 4 (not (time_ok t1 && time_ok t2))
    (ground 5 (not (load_ok k1 && load_ok k2))
    (ground 6 (ltb t2 t1 || lt_z k2 k1)
    (ground 12 (ltb rows (length (found g t1 t2 k1 k2)))
    0))))

-- what an accepted call makes of the log
unfoldable pub after : Log → Call → Log
after g (append slots l) = append_log g l
after g (close slots) = close_log g
after g (drop slots) = drop_log g
after g (search slots t1 t2 k1 k2 rows) = g

-- the rows of an accepted search
unfoldable pub rows_of : Log → Call → List (List ℕ)
rows_of g (append slots l) = []
rows_of g (close slots) = []
rows_of g (drop slots) = []
rows_of g (search slots t1 t2 k1 k2 rows) = map row_of (found g t1 t2 k1 k2)

-- "above 0 nothing changes"
unfoldable pub stepped : Log → Call → Log
stepped g c = cond (eqb (number_of g c) 0) (after g c) g

unfoldable pub answered : Log → Call → Answer
answered g c = record { number = number_of g c; rows = cond (eqb (number_of g c) 0) (rows_of g c) [] }

-- a tally "counts what a search over all loads finds, and refuses as that would, ground 12 aside": as a search with room for all that it finds
abbrev pub all_loads : Log → ℕ → ℕ → List Lift
all_loads g t1 t2 = found g t1 t2 load_least load_most

unfoldable pub tally_number : Log → ℕ → ℕ → ℕ → ℕ
tally_number g slots t1 t2 = number_of g (search slots t1 t2 load_least load_most (length (all_loads g t1 t2)))

-- the log after a list of calls, and what each returned
unfoldable pub log_after : Log → List Call → Log
log_after g [] = g
log_after g (c ∷ cs) = log_after (stepped g c) cs

unfoldable pub answers : Log → List Call → List Answer
answers g [] = []
answers g (c ∷ cs) = answered g c ∷ answers (stepped g c) cs

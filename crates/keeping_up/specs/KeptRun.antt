-- Lists of calls on a store with counts beside its state, each append and drop keeping them (document 02, W-210); and of the same calls on the
-- paper log, how many lifts they append and how many go. Assumes nothing.
use Rattle.std.specs.Prelude.{cond, List, [], ◌∷◌, ℕ, ◌+◌, eqb, leb, length}
use Rattle.paper_log.specs.Log.{Lift, Log, room_log}
use Rattle.paper_log.specs.Calls as Paper
use Rattle.refinement.specs.Run.{Request, append, close, drop, search, Reply, plain, reply, world_after}
use Rattle.keeping.specs.Keeping.{Store, append_kept, drop_kept}

-- the reply to a call, and the store after it; a close neither reads nor changes counts
unfoldable pub kept_reply : Store → Request → Reply
kept_reply s (append slots time load note) = plain (append_kept s.world slots time load note s.counts).number
kept_reply s (close slots) = reply s.world (close slots)
kept_reply s (drop slots) = plain (drop_kept s.world slots s.counts).number
kept_reply s (search slots t1 t2 k1 k2 area) = reply s.world (search slots t1 t2 k1 k2 area)

unfoldable pub kept_after : Store → Request → Store
kept_after s (append slots time load note) =
    let o = append_kept s.world slots time load note s.counts in
    record { world = o.world; counts = o.counts }
kept_after s (close slots) = record { world = world_after s.world (close slots); counts = s.counts }
kept_after s (drop slots) =
    let o = drop_kept s.world slots s.counts in
    record { world = o.world; counts = o.counts }
kept_after s (search slots t1 t2 k1 k2 area) = s

unfoldable pub kept_replies : Store → List Request → List Reply
kept_replies s [] = []
kept_replies s (r ∷ rs) = kept_reply s r ∷ kept_replies (kept_after s r) rs

unfoldable pub kept_run : Store → List Request → Store
kept_run s [] = s
kept_run s (r ∷ rs) = kept_run (kept_after s r) rs

-- ---- "the lifts appended less those dropped"

-- the lifts of the oldest closed serial
abbrev pub oldest_lifts : List (List Lift) → ℕ
oldest_lifts [] = 0
oldest_lifts (ls ∷ rest) = length ls

-- what an accepted call appends, and what goes with it: an append of the first lift sheds the serial that its slot held
unfoldable pub appends : Paper.Call → ℕ
appends (Paper.append slots l) = 1
appends (Paper.close slots) = 0
appends (Paper.drop slots) = 0
appends (Paper.search slots t1 t2 k1 k2 rows) = 0

unfoldable pub drops : Log → Paper.Call → ℕ
drops g (Paper.append slots l) =
    let r = room_log g l.load in
    cond (leb r.slots (length r.closed)) (oldest_lifts r.closed) 0
drops g (Paper.close slots) = 0
drops g (Paper.drop slots) = oldest_lifts g.closed
drops g (Paper.search slots t1 t2 k1 k2 rows) = 0

-- of a list of calls; a refused one does neither
unfoldable pub appended : Log → List Paper.Call → ℕ
appended g [] = 0
appended g (c ∷ cs) = cond (eqb (Paper.number_of g c) 0) (appends c) 0 + appended (Paper.stepped g c) cs

unfoldable pub dropped : Log → List Paper.Call → ℕ
dropped g [] = 0
dropped g (c ∷ cs) = cond (eqb (Paper.number_of g c) 0) (drops g c) 0 + dropped (Paper.stepped g c) cs

-- Lists of calls and imports on a store with counts beside its state, each given what the last one left, and the same on the paper log (document
-- 02, W-211: "keeping any counts"). Assumes nothing.
use Rattle.std.specs.Prelude.{List, [], ◌∷◌, ℕ}
use Rattle.paper_log.specs.Log.{Log}
use Rattle.paper_log.specs.Calls as Paper
use Rattle.refinement.specs.Run.{Request, call_of, Reply, expected, Typed}
use Rattle.keeping.specs.Keeping.{Store}
use Rattle.keeping_up.specs.KeptRun.{kept_reply, kept_after}
use Rattle.import.specs.Call.{import_kept}
use Rattle.text_logs.specs.TextLog.{import_of_log}

-- a call, or an import of a text that names an S
pub data Act : Type 0 where
  calls : Request → Act
  imports : ℕ → List ℕ → Act

-- what comes back: of a call its reply; of an import its number and the line that ended it, 0 if all went in
pub data Back : Type 0 where
  replied : Reply → Back
  ended : ℕ → ℕ → Back

-- ---- on the store

unfoldable pub act_back : Store → Act → Back
act_back s (calls r) = replied (kept_reply s r)
act_back s (imports slots text) =
    let i = import_kept s slots text in
    ended i.number i.line

unfoldable pub act_after : Store → Act → Store
act_after s (calls r) = kept_after s r
act_after s (imports slots text) = (import_kept s slots text).left

unfoldable pub acts_back : Store → List Act → List Back
acts_back s [] = []
acts_back s (a ∷ rest) = act_back s a ∷ acts_back (act_after s a) rest

unfoldable pub acts_run : Store → List Act → Store
acts_run s [] = s
acts_run s (a ∷ rest) = acts_run (act_after s a) rest

-- ---- on the paper log

unfoldable pub paper_back : Log → Act → Back
paper_back g (calls r) = replied (expected (Paper.answered g (call_of r)) r)
paper_back g (imports slots text) =
    let i = import_of_log g slots text in
    ended i.number i.line

unfoldable pub paper_after : Log → Act → Log
paper_after g (calls r) = Paper.stepped g (call_of r)
paper_after g (imports slots text) = (import_of_log g slots text).left

unfoldable pub paper_all_back : Log → List Act → List Back
paper_all_back g [] = []
paper_all_back g (a ∷ rest) = paper_back g a ∷ paper_all_back (paper_after g a) rest

unfoldable pub paper_run : Log → List Act → Log
paper_run g [] = g
paper_run g (a ∷ rest) = paper_run (paper_after g a) rest

-- a note is 20 bytes: what its type can hold; a text may be any
abbrev pub TypedActs : List Act → Type 0
TypedActs [] = Unit {0}
TypedActs (calls r ∷ rest) = Typed r × TypedActs rest
TypedActs (imports slots text ∷ rest) = TypedActs rest

-- One segment on, in numbers as the code hands them on. Assumes nothing.
use Rattle.std.specs.Prelude.{Bool, true, cond, not, List, ℕ}
use Rattle.flash.specs.Chip.{page_of, header_last}
use Rattle.form.specs.declared.Form.TheVariants.{New}
use Rattle.skiplist.specs.Skip.{pointer}
use Rattle.header.specs.Header.{header_in}
use Rattle.visit.specs.declared.Query.{Query}
use Rattle.walk.specs.declared.Cursor.{Cursor}
use Rattle.walk.specs.declared.Seen.{Seen}
use Rattle.walk.specs.declared.Seen.TheVariants.{Spoilt, Passed, Searched}
use Rattle.walk.specs.declared.Step.{Step}
use Rattle.walk.specs.declared.Step.TheVariants.{Damage, Pass, Visit}
use Rattle.walk.specs.Advance.{is_passed, bloom_read, cursor_after, closed_of}

-- what a search does with the segment in a slot
unfoldable pub seen_at : List ℕ → ℕ → Query → ℕ → ℕ → Step
seen_at nand slots q slot before =
    let h = header_in New (page_of nand slot header_last) slots before in
    cond (not h.good) Damage
    (cond (is_passed nand slot h q) (Pass (cursor_after New h q)) (Visit (closed_of slot h) (cursor_after New h q)))

-- the cursor behind it, and the step, by their numbers
abbrev pub cursor_of : Bool → ℕ → ℕ → ℕ → ℕ → Cursor
cursor_of last slot serial time before = record { good = true; last = last; next = pointer slot serial time; before = before }

abbrev pub step_of : ℕ → Seen → Step
step_of slot Spoilt = Damage
step_of slot (Passed last to serial time before bloom) = Pass (cursor_of last to serial time before)
step_of slot (Searched count buckets last to serial time before bloom) =
    Visit (record { slot = slot; count = count; buckets = buckets }) (cursor_of last to serial time before)

-- the Bloom pages that hold a bit tried
abbrev pub bloom_of : Seen → ℕ
bloom_of Spoilt = 0
bloom_of (Passed last to serial time before bloom) = bloom
bloom_of (Searched count buckets last to serial time before bloom) = bloom

-- in the segment in a slot; none where its header has damage
abbrev pub bloom_seen : List ℕ → ℕ → Query → ℕ → ℕ → ℕ
bloom_seen nand slots q slot before =
    let h = header_in New (page_of nand slot header_last) slots before in
    cond h.good (bloom_read nand slot h q) 0

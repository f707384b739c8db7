-- The tests of a page that a close programs, as the code makes them, are the definitions'. Assumes nothing.
use mathlib.Core.Path.{◌≡◌, ◌∙◌}
use mathlib.Core.Bool.{not, ◌&&◌, ◌||◌}
use Prim.Native.Nat.{ℕ, ◌-◌, ◌*◌, ◌/◌, ◌%◌, ◌≤◌, ◌<◌}
use lib.Dec.{eqb, ltb}
use borrow.Author.Tests.{lt-ltb, le-ltb}
use Rattle.bloom.specs.Pages.{five_sections}
use Rattle.segment.specs.Pages.{holds_bucket, page_due}
use Rattle.segment.proofs.TreeRun.{holds_by}

pub due_lifts : (count buckets p : ℕ) → p < 20 → (not (eqb (count % 16) 0) && eqb p (count / 16)) ≡ page_due count buckets p
unfolding page_due
due_lifts count buckets p h = rw (lt-ltb p 20 h)

pub due_holds : (count buckets p : ℕ) → 20 ≤ p → p < 29 → holds_bucket buckets p ≡ page_due count buckets p
unfolding page_due
due_holds count buckets p h k = rw (le-ltb p 20 h, lt-ltb p 29 k)

pub due_tree : (count buckets p : ℕ) → 20 ≤ p → p < 29 → ltb ((p - 20) * 4) buckets ≡ page_due count buckets p
due_tree count buckets p h k = holds_by buckets p h ∙ due_holds count buckets p h k

pub due_last : (count buckets p : ℕ) → 20 ≤ p → 29 ≤ p → (not (eqb p 30) || five_sections count) ≡ page_due count buckets p
unfolding page_due
due_last count buckets p h k = rw (le-ltb p 20 h, le-ltb p 29 k)

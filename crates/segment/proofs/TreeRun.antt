-- A tree page as a run of NOR's bytes and 255 behind it, as it is written and by plain numbers, and the tree pages that are due, by
-- plain numbers: buckets stand side by side.
use mathlib.Core.Path.{◌≡◌, sym, ◌∙◌}
use mathlib.Core.List.{List, ◌++◌}
use Prim.Native.Nat.{ℕ, zero, suc, ◌+◌, ◌-◌, ◌*◌, ◌/◌, ◌≤◌, ◌<◌, min}
use native.Mathlib.Decide.{dec_lt}
use native.Mathlib.Omega.{arith}
use lib.Dec.{ltb}
use lib.ListN.{length}
use borrow.Author.Tests.{lt-ltb, le-ltb, le-leb, lt-leb}
use Rattle.codec.specs.Area.{part, splice, repeated}
use Rattle.codec.proofs.Areas.{length_part}
use Rattle.tree.specs.Place.{tree_start, bucket_start}
use Rattle.tree.proofs.Starts.{bucket_start_lem}
use Rattle.header.proofs.Fields.{front_put}
use Rattle.segment.specs.Pages.{holds_bucket, tree_page}

-- tree page 20 + i
unfoldable pub tree_run : List ℕ → ℕ → ℕ → List ℕ
tree_run nor buckets i =
    part nor (i * 512) (min 512 (buckets * 128 - i * 512)) ++ repeated (512 - min 512 (buckets * 128 - i * 512)) 255

pub tree_run_lem : (nor : List ℕ) (buckets p : ℕ) → tree_page nor buckets p ≡ tree_run nor buckets (p - 20)
unfolding tree_page tree_run
tree_run_lem nor buckets p =
    let a : 512 * (p - 20) ≡ (p - 20) * 512 = omega arith in
    let b : bucket_start buckets ≡ buckets * 128 = omega (arith, bucket_start_lem buckets) in
    rw (b, a)

-- a tree page as the code writes it
pub tree_put : (nor : List ℕ) (buckets p a end n : ℕ) (z d run : List ℕ) → a ≡ tree_start p → end ≡ bucket_start buckets → a < end
    → end ≤ length nor → n ≡ min 512 (end - a) → z ≡ repeated 512 255 → run ≡ part nor a n → d ≡ splice z 0 run
    → d ≡ tree_page nor buckets p
unfolding tree_page
tree_put nor buckets p a end n z d run ea ee h k en ez er ed =
    let l = length_part nor a n (omega arith) in
    rw (← ea, ← ee, ← en, ed, er, ez) (front_put 512 255 (part nor a n) (omega arith) ∙ rw l)

-- a page that holds a bucket
pub holds_by : (buckets p : ℕ) → 20 ≤ p → ltb ((p - 20) * 4) buckets ≡ holds_bucket buckets p
holds_by zero p h = le-ltb ((p - 20) * 4) 0 (omega arith)
holds_by (suc n) p h = go (dec_lt ((p - 20) * 4) (suc n))
  where
    go : Dec ((p - 20) * 4 < suc n) → ltb ((p - 20) * 4) (suc n) ≡ holds_bucket (suc n) p
    go (yes l) = lt-ltb ((p - 20) * 4) (suc n) l ∙ sym (rw (lt-ltb 0 (suc n) (omega arith), le-leb p (20 + (suc n - 1) / 4) (omega arith)))
    go (no l) =
        le-ltb ((p - 20) * 4) (suc n) (omega arith) ∙ sym (rw (lt-ltb 0 (suc n) (omega arith), lt-leb p (20 + (suc n - 1) / 4) (omega arith)))

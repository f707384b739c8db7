-- The pages that a search of a history's world reads (document 02, W-207): header pages at most S/8 rounded up, plus 3; Bloom and tree pages of
-- retained closed segments alone. Assumes nothing.
use mathlib.Core.Path.{◌≡◌, sym, ap, ◌∙◌}
use mathlib.Core.Bool.{Bool, true, false, cond}
use mathlib.Core.List.{List}
use Prim.Native.Nat.{ℕ, ◌+◌, ◌*◌, ◌≤◌}
use native.Mathlib.Decide.{ℕ_discrete}
use native.Mathlib.Numerals.{add-one}
use native.Mathlib.Omega.{arith}
use lib.IntN.{ℤ}
use lib.ListN.{length, length-append}
use Rattle.lift.specs.Limits.{load_ok}
use Rattle.skiplist.specs.Skip as Skip
use Rattle.visit.specs.declared.Log.{Log}
use Rattle.visit.specs.declared.Query.{Query}
use Rattle.walk.specs.declared.Cursor.{Cursor}
use Rattle.walk.specs.Seek.{SkipWalk, skip_walk, reached_by, open_is_last, start_of, moves_of}
use Rattle.walk.specs.Advance.{advance_of}
use Rattle.found.specs.Pages.{Read, read_from, segments_read, pages_read}
use Rattle.store.specs.World.{liveness_of}
use Rattle.questions.specs.Queries.{log_of, query_of, search_outcome}
use Rattle.questions.proofs.SearchPages.{segments_of, search_cases, ground_passes, pages_refused, pages_most}
use Rattle.search.specs.Answers.{SearchAnswer}
use Rattle.paper_log.specs.Log.{open_serial}
use Rattle.refinement.specs.Inner.Image.{History, nand_image, live_of, state_image, image}
use Rattle.refinement.specs.Rules.{header_pages_most}
use Rattle.refinement.proofs.Good.{Good}
use Rattle.refinement.proofs.LevelOne.{level_one_few}
use Rattle.refinement.proofs.SkipWalk.{Reaches, walk_reaches, walk_moves}
use Rattle.refinement.proofs.SearchStep.{ground_is, window_passes}

module _ (h : History) (g : Good h) where
  abbrev log : Log
  log = log_of (state_image h) h.log.slots

  -- ---- header pages

  moves_few : (q : Query) → moves_of (nand_image h) log (live_of h.log) q ≤ header_pages_most h.log.slots
  unfolding moves_of
  moves_few q = go (open_is_last log (live_of h.log) q)
    where
      go : (b : Bool) → cond b 0 (skip_walk (nand_image h) log (live_of h.log) q.t2).moves ≤ header_pages_most h.log.slots
      go true = omega arith
      go false = walk_moves h g q.t2

  -- as a search of the world has it
  headers_are : (q : Query) → (pages_read (image h).nand (log_of (image h).state h.log.slots) (liveness_of (image h)) q).headers
      ≤ header_pages_most h.log.slots
  unfolding pages_read image state_image
  headers_are q = moves_few q

  pub headers_few : (k t1 t2 : ℕ) (k1 k2 : ℤ) (area : List ℕ)
      → (search_outcome (image h) k t1 t2 k1 k2 area).pages.headers ≤ header_pages_most h.log.slots
  headers_few k t1 t2 k1 k2 area =
      search_cases (image h) k t1 t2 k1 k2 area (λ a. a.pages.headers ≤ header_pages_most h.log.slots) (λ n r. omega arith) (λ z rows.
      let p = window_passes h g k t1 t2 k1 k2 (sym (ground_is h g k t1 t2 k1 k2) ∙ z) in
      rw p.same (headers_are (query_of t1 t2 k1 k2)))

  -- ---- closed segments

  module _ (t1 t2 : ℕ) (k1 k2 : ℤ) (ok1 : load_ok k1 ≡ true) (ok2 : load_ok k2 ≡ true) where
    abbrev q : Query
    q = query_of t1 t2 k1 k2

    abbrev reads : Cursor → List Read
    reads c = read_from (open_serial h.log + 1) (nand_image h) h.log.slots (live_of h.log) q c

    -- no walk takes place
    abbrev done : Cursor
    done = record { good = true; last = true; next = Skip.none; before = open_serial h.log }

    none_read : (n : ℕ) → length (read_from (n + 1) (nand_image h) h.log.slots (live_of h.log) q done) ≡ 0
    unfolding read_from advance_of
    none_read n = rw (add-one n)

    walked_few : (w : SkipWalk) → Reaches h t1 t2 k1 k2 w → length (reads (reached_by w)) ≤ length h.log.closed
    walked_few w r =
        let n = ap length r.is ∙ length-append r.older r.skipped in
        let l = level_one_few h g t1 t2 k1 k2 ok1 ok2 (open_serial h.log + 1) r.older r.skipped r.is (reached_by w) r.before (r.leads 0 r.some) in
        omega arith

    segments_few : length (segments_read (nand_image h) log (live_of h.log) q) ≤ length h.log.closed
    unfolding segments_read start_of state_image
    segments_few = go (open_is_last log (live_of h.log) q)
      where
        go : (b : Bool) → length (reads (cond b done (reached_by (skip_walk (nand_image h) log (live_of h.log) t2)))) ≤ length h.log.closed
        go true = omega (arith, none_read (open_serial h.log))
        go false = walked_few (skip_walk (nand_image h) log (live_of h.log) t2) (walk_reaches h g t1 t2 k1 k2)

    -- as a search of the world has it
    segments_are : (area : List ℕ) → length (segments_of (image h) h.log.slots t1 t2 k1 k2 area) ≤ length h.log.closed
    unfolding image state_image
    segments_are area = segments_few

  module _ (k t1 t2 : ℕ) (k1 k2 : ℤ) (area : List ℕ) where
    abbrev answer : SearchAnswer
    answer = search_outcome (image h) k t1 t2 k1 k2 area

    pub pages_few : (answer.pages.bloom ≤ 2 * length h.log.closed) × (answer.pages.tree ≤ 9 * length h.log.closed)
    pages_few = go (ℕ_discrete answer.number 0)
      where
        go : Dec (answer.number ≡ 0) → (answer.pages.bloom ≤ 2 * length h.log.closed) × (answer.pages.tree ≤ 9 * length h.log.closed)
        go (no f) = rw (pages_refused (image h) k t1 t2 k1 k2 area f) (omega arith, omega arith)
        go (yes z) =
            let p = window_passes h g k t1 t2 k1 k2 (sym (ground_is h g k t1 t2 k1 k2) ∙ ground_passes (image h) k t1 t2 k1 k2 area z) in
            let l : length (segments_of (image h) k t1 t2 k1 k2 area) ≤ length h.log.closed =
            rw p.same (segments_are t1 t2 k1 k2 p.low p.high area) in
            let m = pages_most (image h) k t1 t2 k1 k2 area in
            (omega (arith, l, m.0), omega (arith, l, m.1))

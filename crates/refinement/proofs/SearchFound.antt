-- On the world of a history a search finds exactly the paper log's lifts: the closed segments' in order, then the open one's.
-- Assumes nothing.
use mathlib.Core.Path.{◌≡◌, refl, sym, ap, ◌∙◌}
use mathlib.Core.Bool.{Bool, true, false, cond, not, ◌&&◌}
use mathlib.Core.Option.{some}
use mathlib.Core.List.{List, [], ◌∷◌, ◌++◌, map, append-nil}
use Prim.Native.Nat.{ℕ, ◌+◌, ◌<◌}
use native.Mathlib.Numerals.{add-one}
use native.Mathlib.Omega.{arith}
use lib.Dec.{eqb}
use lib.IntN.{ℤ}
use lib.ListN.{length, get_or, length-append}
use Rattle.codec.proofs.Truth.{and_parts}
use Rattle.lift.specs.Limits.{load_ok}
use Rattle.skiplist.specs.Skip as Skip
use Rattle.visit.specs.declared.Log.{Log}
use Rattle.visit.specs.declared.Query.{Query}
use Rattle.walk.specs.declared.Cursor.{Cursor}
use Rattle.walk.specs.Seek.{SkipWalk, is_last, skip_walk, reached_by, start_of}
use Rattle.walk.specs.Advance.{advance_of}
use Rattle.found.specs.Found.{rows_from, closed_found, found_rows}
use Rattle.store.specs.World.{liveness_of}
use Rattle.questions.specs.Queries.{log_of, query_of}
use Rattle.paper_log.specs.Log.{Lift, open_serial, row_of, among, joined, found}
use Rattle.refinement.specs.Inner.Segments as S
use Rattle.refinement.specs.Inner.Image.{History, nand_image, live_of, state_image, image}
use Rattle.refinement.proofs.Good.{Good}
use Rattle.refinement.proofs.InBounds.{start_below}
use Rattle.refinement.proofs.Wanted.{map_append, joined_append, among_append, early_all}
use Rattle.refinement.proofs.Records.{current_reads}
use Rattle.refinement.proofs.OneSegment.{open_rows_lem}
use Rattle.refinement.proofs.LevelOne.{last_before, level_one}
use Rattle.refinement.proofs.SkipWalk.{Reaches, walk_reaches}

module _ (h : History) (g : Good h) (t1 t2 : ℕ) (k1 k2 : ℤ) (ok1 : load_ok k1 ≡ true) (ok2 : load_ok k2 ≡ true) where
  abbrev q : Query
  q = query_of t1 t2 k1 k2

  abbrev log : Log
  log = log_of (state_image h) h.log.slots

  abbrev closed_lifts : List Lift
  closed_lifts = among t1 t2 k1 k2 (joined h.log.closed)

  -- the open segment has lifts and is the last one to be done: a search that ends at once
  abbrev done : Cursor
  done = record { good = true; last = true; next = Skip.none; before = open_serial h.log }

  ended : (c : Cursor) → c.last ≡ true → (n : ℕ) → rows_from (n + 1) (nand_image h) h.log.slots (live_of h.log) q c ≡ some []
  unfolding rows_from advance_of
  ended c e n = rw (add-one n, e)

  -- from where the skip walk ends
  walked : (w : SkipWalk) → Reaches h t1 t2 k1 k2 w → closed_found (nand_image h) log (live_of h.log) q (reached_by w) ≡ some (map row_of closed_lifts)
  unfolding state_image
  walked w r =
      let n = ap length r.is ∙ length-append r.older r.skipped in
      rw r.good
      (level_one h g t1 t2 k1 k2 ok1 ok2 (open_serial h.log + 1) r.older r.skipped r.is (omega arith)
      (record { good = true; last = false; next = get_or w.pointers 0 Skip.none; before = w.before }) r.before (r.leads 0 r.some)
      (λ e. absurd (let z : ◌≡◌ {A = ℕ} 0 1 = cc in omega arith))
      ∙ ap (λ (x : List Lift). some (map row_of x)) (sym all))
    where
      all : closed_lifts ≡ among t1 t2 k1 k2 (joined r.older)
      all =
          ap (λ (c : List (List Lift)). among t1 t2 k1 k2 (joined c)) r.is
          ∙ ap (among t1 t2 k1 k2) (joined_append r.older r.skipped)
          ∙ among_append t1 t2 k1 k2 (joined r.older) (joined r.skipped)
          ∙ ap (λ (x : List Lift). among t1 t2 k1 k2 (joined r.older) ++ x) r.unwanted ∙ append-nil _

  -- then all closed ones are earlier
  all_early : (not (eqb (length h.log.current) 0) && is_last h.log.form (S.start_time h.log.current) t1) ≡ true → closed_lifts ≡ []
  all_early e =
      let b = and_parts (not (eqb (length h.log.current) 0)) (is_last h.log.form (S.start_time h.log.current) t1) e in
      early_all t1 t2 k1 k2 g.closed
      (omega (
        arith,
        (start_below h.log.current g.current (some_lift h.log.current b.0)).0,
        last_before h.log.form (S.start_time h.log.current) t1 b.1,
      ))
    where
      some_lift : (ls : List Lift) → not (eqb (length ls) 0) ≡ true → 0 < length ls
      some_lift [] e = absurd (let z : ◌≡◌ {A = ℕ} 0 1 = cc in omega arith)
      some_lift (l ∷ ls) e = omega arith

  closed_found_lem : closed_found (nand_image h) log (live_of h.log) q (start_of (nand_image h) log (live_of h.log) q) ≡ some (map row_of closed_lifts)
  unfolding start_of state_image
  closed_found_lem = go (not (eqb (length h.log.current) 0) && is_last h.log.form (S.start_time h.log.current) t1) refl
    where
      go : (t : Bool) → (not (eqb (length h.log.current) 0) && is_last h.log.form (S.start_time h.log.current) t1) ≡ t
          → closed_found (nand_image h) log (live_of h.log) q (cond t done (reached_by (skip_walk (nand_image h) log (live_of h.log) t2)))
          ≡ some (map row_of closed_lifts)
      go true e = ended done refl (open_serial h.log) ∙ ap (λ (x : List Lift). some (map row_of x)) (sym (all_early e))
      go false e = walked (skip_walk (nand_image h) log (live_of h.log) t2) (walk_reaches h g t1 t2 k1 k2)

  pub search_found : found_rows (image h).nand (image h).nor (image h).state.page (log_of (image h).state h.log.slots)
      (liveness_of (image h)) (query_of t1 t2 k1 k2) ≡ some (map row_of (found h.log t1 t2 k1 k2))
  unfolding found_rows image state_image found
  search_found =
      rw (
        closed_found_lem,
        open_rows_lem t1 t2 k1 k2 ok1 ok2 h.log.current g.segment (nand_image h) log (current_reads h g) refl refl,
      )
      (ap some (sym (map_append row_of closed_lifts (among t1 t2 k1 k2 h.log.current))
      ∙ ap (map row_of) (sym (among_append t1 t2 k1 k2 (joined h.log.closed) h.log.current))))

-- The Bloom pages that are seen at a step are the definition's. Assumes nothing.
use mathlib.Core.Path.{◌≡◌, refl, sym, ◌∙◌}
use mathlib.Core.Bool.{Bool, true, false, cond, not, ◌||◌}
use mathlib.Core.List.{List}
use Prim.Native.Nat.{ℕ}
use Rattle.skiplist.specs.Skip.{is_live, serials_from}
use Rattle.header.specs.declared.Header.{Header}
use Rattle.visit.specs.declared.Query.{Query}
use Rattle.walk.specs.declared.Cursor.{Cursor}
use Rattle.walk.specs.declared.Step.TheVariants.{End, Damage, Pass, Visit}
use Rattle.walk.specs.Seek.{header_at}
use Rattle.walk.specs.Advance.{is_passed, bloom_read, cursor_after, closed_of, advance_of}
use Rattle.walk.specs.Inner.Seen.{bloom_seen}
use Rattle.found.specs.Inner.Turns.{bloom_on}

module _ (nand : List ℕ) (slots oldest : ℕ) (q : Query) (c : Cursor) where
  pub tried_none : advance_of nand slots (serials_from oldest) q c ≡ End → 0 ≡ bloom_on nand slots (serials_from oldest) q c
  tried_none e = rw (e, bloom_on)

  pub tried_there : (c.last || not (is_live c.next (serials_from oldest))) ≡ false
      → bloom_seen nand slots q c.next.slot c.before ≡ bloom_on nand slots (serials_from oldest) q c
  unfolding advance_of
  tried_there f = rw (f, bloom_on) (go h.good (is_passed nand c.next.slot h q))
    where
      h : Header
      h = header_at (serials_from oldest).form nand slots c.next c.before

      go : (g p : Bool) → cond g (bloom_read nand c.next.slot h q) 0
          ≡ elim (cond (not g) Damage (cond p (Pass (cursor_after (serials_from oldest).form h q))
          (Visit (closed_of c.next.slot h) (cursor_after (serials_from oldest).form h q)))) [
            | End ↦ 0
            | Damage ↦ 0
            | Pass d ↦ bloom_read nand c.next.slot h q
            | Visit s d ↦ bloom_read nand c.next.slot h q
          ]
      go false p = refl
      go true false = refl
      go true true = refl

-- Whatever the chips hold: at most two Bloom pages and nine tree pages for each closed segment from the one found on. Assumes nothing.
use mathlib.Core.Path.{◌≡◌, refl}
use mathlib.Core.List.{List, [], ◌∷◌}
use Prim.Native.Nat.{ℕ, zero, suc, ◌*◌, ◌≤◌}
use native.Mathlib.Omega.{arith}
use lib.ListN.{length}
use Rattle.skiplist.specs.Skip.{Live}
use Rattle.visit.specs.declared.Log.{Log}
use Rattle.visit.specs.declared.Query.{Query}
use Rattle.visit.specs.Inner.Sound.{LogSound}
use Rattle.visit.proofs.Areas.{read_most}
use Rattle.walk.specs.declared.Cursor.{Cursor}
use Rattle.walk.specs.declared.Step.{Step}
use Rattle.walk.specs.declared.Step.TheVariants.{End, Damage, Pass, Visit}
use Rattle.walk.specs.Seek.{header_at, start_of}
use Rattle.walk.specs.Advance.{advance_of}
use Rattle.walk.specs.Inner.Sound.{Sound}
use Rattle.walk.proofs.Hops.{header_good_lem, start_begun}
use Rattle.walk.proofs.Steps.{StepFacts, step_facts, Went, went_good, bloom_most}
use Rattle.found.specs.Pages.{Read, bloom_at, read_from, segments_read, bloom_sum, tree_sum}
use Rattle.found.proofs.Falling as F
use Rattle.found.proofs.Segments.{pass_read, visit_read, read_step}

-- for each of some segments
pub record FewPages (rs : List Read) : Type 0 where
  pub bloom : bloom_sum rs ≤ 2 * length rs
  pub tree : tree_sum rs ≤ 9 * length rs

one_more : (r : Read) (rs : List Read) → r.bloom ≤ 2 → r.tree ≤ 9 → FewPages rs → FewPages (r ∷ rs)
unfolding bloom_sum tree_sum
one_more r rs b t f = record { bloom = omega (arith, f.bloom); tree = omega (arith, f.tree) }

module _ (nand : List ℕ) (slots : ℕ) (live : Live) (q : Query) (size : length nand ≡ slots * 16384) where
  bloom_few : (c : Cursor) → Went (advance_of nand slots live q c) → bloom_at nand slots live q c ≤ 2
  bloom_few c w =
      let h = header_at live.form nand slots c.next c.before in
      let f = (header_good_lem live.form nand slots c.before c.next h refl (went_good nand slots live q c w)).counts in
      bloom_most nand c.next.slot h q f.some f.most

  pub read_few : (n : ℕ) (c : Cursor) → Sound slots c → FewPages (read_from n nand slots live q c)
  unfolding read_from bloom_sum tree_sum
  read_few zero c sound = record { bloom = omega arith; tree = omega arith }
  read_few (suc n) c sound =
      rw (read_step nand slots live q size n c (advance_of nand slots live q c) refl)
      (go (advance_of nand slots live q c) refl (step_facts nand slots live q c size sound) (λ d. read_few n d))
    where
      next : Cursor → List Read
      next d = read_from n nand slots live q d

      go : (s : Step) → advance_of nand slots live q c ≡ s → StepFacts nand slots c.before s
          → ((d : Cursor) → Sound slots d → FewPages (next d))
          → FewPages (F.after nand slots live q size [] [] (pass_read nand slots live q size) (visit_read nand slots live q size) next c s)
      go End e f ih = record { bloom = omega arith; tree = omega arith }
      go Damage e f ih = record { bloom = omega arith; tree = omega arith }
      go (Pass d) e f ih = one_more _ (next d) (bloom_few c (rw e tt)) (omega arith) (ih d f.sound)
      go (Visit s d) e f ih = one_more _ (next d) (bloom_few c (rw e tt)) (read_most nand s f.0 q) (ih d f.1.sound)

pub segments_few : (nand nor : List ℕ) (g : Log) (live : Live) (q : Query) → LogSound nand nor g → FewPages (segments_read nand g live q)
unfolding segments_read
segments_few nand nor g live q sound =
    read_few nand g.slots live q sound.nand_size _ (start_of nand g live q) (start_begun nand g live q sound.heads_in).sound

-- An insertion into NOR whose first bytes are a built tree: the segment closes exactly where bucket 36 is needed; else the writes
-- go over bytes that are 255, only clear bits, and leave the bytes of the tree with the load. Assumes nothing.
use Prim.Native.Nat.{ℕ, ◌+◌, ◌≤◌, ◌<◌}
use mathlib.Core.Path.{◌≡◌, sym, ap, ◌∙◌}
use mathlib.Core.Bool.{true, false}
use mathlib.Core.Option.{some}
use mathlib.Core.List.{List, [], ◌∷◌, ◌++◌}
use native.Mathlib.Omega.{arith}
use lib.ListN.{length, length-append, replicate-append-replicate}
use Rattle.codec.specs.Area.{repeated}
use Rattle.flash.specs.Chip.{chip_erased, nor_tree}
use Rattle.flash.specs.Clears.{OnlyClears}
use Rattle.tree.specs.Rules.{Bucket, at, tree_of, last_loads, needs_bucket36}
use Rattle.tree.specs.Inner.Loads.{Loads}
use Rattle.tree.specs.Bytes.{tree_bytes}
use Rattle.tree.specs.Plan.{Plan, plan_on, is_damaged, is_no_room}
use Rattle.tree.specs.Writes.{writes_of, buckets_after, all_clear, all_written}
use Rattle.tree.proofs.Built.{built_inv, counted}
use Rattle.tree.proofs.Written.{length_tree, tree_none, tree_of_nor}
use Rattle.tree.proofs.Clears.{insertion_clears}
use Rattle.tree.proofs.Inserted.{plan_sound, plan_room, plan_done}

-- erased NOR holds the tree of no loads
pub nor_erased : chip_erased 6144 ≡ tree_bytes [] ++ repeated 1536 255
unfolding repeated
nor_erased = rw tree_none (sym (replicate-append-replicate 4608 1536 255))

-- what an insertion of the load l with position p, by this plan, does to NOR
pub record Put (nor rest : List ℕ) (u : List Bucket) (n l p : ℕ) (plan : Plan) : Type 0 where
  pub clear : all_clear nor (writes_of plan n l p) ≡ true
  pub written : all_written nor (writes_of plan n l p) ≡ tree_bytes u ++ rest
  pub clears : OnlyClears nor (all_written nor (writes_of plan n l p))
  pub buckets : buckets_after plan n ≡ length u

module _ (ls : List ℕ) (ok : Loads ls) (open_end : length ls < 320) (t : List Bucket) (e : tree_of ls ≡ some t) (loads : List ℕ)
    (same : 13 ≤ length ls → loads ≡ last_loads ls) (l : ℕ) (lo : 0 < l) (hi : l ≤ 150001) (nor rest : List ℕ)
    (is : nor ≡ tree_bytes t ++ rest) where
  abbrev pub plan_in : Plan
  plan_in = plan_on (nor_tree nor) (length t) (length ls) loads l

  plan_is : plan_in ≡ plan_on (tree_bytes t) (length t) (length ls) loads l
  plan_is = ap (λ (s : List ℕ). plan_on s (length t) (length ls) loads l) (ap nor_tree is ∙ tree_of_nor t rest)

  pub nor_sound : is_damaged plan_in ≡ false
  nor_sound = ap is_damaged plan_is ∙ plan_sound ls ok open_end t e loads same l lo hi

  pub nor_room : is_no_room plan_in ≡ needs_bucket36 ls l
  nor_room = ap is_no_room plan_is ∙ plan_room ls ok open_end t e loads same l lo hi

  pub nor_put : (u : List Bucket) → tree_of (ls ++ (l ∷ [])) ≡ some u → Put nor rest u (length t) l (length ls) plan_in
  nor_put u f =
      let d = plan_done ls ok open_end t e loads same l lo hi rest u f in
      let c : all_clear nor (writes_of plan_in (length t) l (length ls)) ≡ true = rw (plan_is, is) d.clear in
      let k : length nor ≡ 4608 + length rest =
      ap length is ∙ length-append (tree_bytes t) rest ∙ ap (λ (n : ℕ). n + length rest) (length_tree t) in
      let few = counted ls ok t e in
      record {
        clear = c;
        written = rw (plan_is, is) d.written;
        clears = insertion_clears nor (nor_tree nor) (length t) (length ls) loads l (length ls) (omega arith) few.few c;
        buckets = rw plan_is d.buckets;
      }

-- "numbers run 0–35", "a bucket with 13 is full"
pub bounded : (ls : List ℕ) → Loads ls → (t : List Bucket) → tree_of ls ≡ some t
    → (length t ≤ 36) × ((i : ℕ) → length (at t i).entries ≤ 13)
bounded ls ok t e = let v = (built_inv ls ok t e).1 in (v.few, λ i. (v.good i).room)

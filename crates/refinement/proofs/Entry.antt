-- Where a lift's entry goes on a history's world: the plan on NOR's bytes is the rules' choice, meets no damage, and its writes give the tree
-- with the load. Assumes nothing.
use mathlib.Core.Path.{◌≡◌, refl, sym, ap, subst, ◌∙◌}
use mathlib.Core.Bool.{true, false}
use mathlib.Core.Option.{some}
use mathlib.Core.List.{List, [], ◌∷◌, ◌++◌, map, append-nil}
use Prim.Native.Nat.{ℕ, zero, suc, ◌-◌, ◌≤◌, ◌<◌}
use native.Mathlib.Omega.{arith}
use lib.IntN.{ℤ}
use lib.ListN.{length, drop, length-map}
use Rattle.codec.specs.Area.{repeated}
use Rattle.flash.specs.Chip.{nor_tree}
use Rattle.lift.specs.Limits.{stored}
use Rattle.lift.proofs.Codes.{within_limits}
use Rattle.tree.specs.Rules.{Bucket, tree_of, buckets_of, needs_bucket36, last_loads}
use Rattle.tree.specs.Bytes.{tree_bytes}
use Rattle.tree.specs.Plan.{Plan, no_room, plan_on, is_damaged, is_no_room}
use Rattle.tree.specs.Writes.{writes_of, all_clear, all_written, buckets_after}
use Rattle.tree.proofs.Built.{buckets_of_lem, needs_not, tree_of_none, tree_of_one}
use Rattle.tree.proofs.Inserted as I
use Rattle.tree.proofs.Written.{tree_of_nor}
use Rattle.paper_log.specs.Log.{Lift, codes}
use Rattle.refinement.specs.Inner.Segments as S
use Rattle.refinement.proofs.Good.{GoodLift, Built}
use Rattle.refinement.proofs.Lengths.{good_loads, length_codes}
use Rattle.refinement.proofs.OneMore as O

map_drop : {A B : Type 0} (f : A → B) (n : ℕ) (l : List A) → map f (drop n l) ≡ drop n (map f l)
map_drop f zero l = refl
map_drop f (suc n) [] = refl
map_drop f (suc n) (a ∷ l) = map_drop f n l

map_map : {A B C : Type 0} (f : B → C) (k : A → B) (l : List A) → map f (map k l) ≡ map (λ a. f (k a)) l
map_map f k [] = refl
map_map {C = C} f k (a ∷ l) = ap {B = List C} (λ t. f (k a) ∷ t) (map_map f k l)

-- behind the buckets in NOR
abbrev pub sections_of : List Lift → List ℕ
sections_of ls = S.whole_sections (codes ls) ++ repeated (1536 - length (S.whole_sections (codes ls))) 255

-- the plan p puts the lift's entry into the tree of the open segment's lifts
pub record Enters (ls : List Lift) (l : Lift) (p : Plan) : Type 0 where
  pub sound : is_damaged p ≡ false
  pub clear : all_clear (S.nor_of ls) (writes_of p (S.bucket_count ls) (stored l.load) (length ls)) ≡ true
  pub written : all_written (S.nor_of ls) (writes_of p (S.bucket_count ls) (stored l.load) (length ls)) ≡ S.tree_area (ls ++ (l ∷ [])) ++ sections_of ls
  pub buckets : buckets_after p (S.bucket_count ls) ≡ S.bucket_count (ls ++ (l ∷ []))
  pub tree : List Bucket
  pub is : tree_of (codes (ls ++ (l ∷ []))) ≡ some tree

-- the plan on the open segment's world
abbrev pub plan_in : List Lift → ℤ → Plan
plan_in ls load = plan_on (nor_tree (S.nor_of ls)) (S.bucket_count ls) (length ls) (map stored (S.last_thirteen (S.loads_of ls))) (stored load)

module _ (ls : List Lift) (b : Built ls) (l : Lift) (gl : GoodLift l) where
  abbrev cs : List ℕ
  cs = codes ls

  abbrev code : ℕ
  code = stored l.load

  low : 0 < code
  low = (within_limits l.load gl.load).low

  high : code ≤ 150001
  high = (within_limits l.load gl.load).high

  abbrev loads : List ℕ
  loads = map stored (S.last_thirteen (S.loads_of ls))

  -- the last loads, as stored
  last_same : 13 ≤ length cs → loads ≡ last_loads cs
  unfolding S.last_thirteen last_loads
  last_same h =
      let n = length_codes ls in
      let m = length-map ls (λ l. l.load) in
      let z : 13 - length (S.loads_of ls) ≡ 0 = omega arith in
      let e : length (S.loads_of ls) ≡ length cs = omega arith in
      rw (z, e) (ap (map stored) (append-nil (drop (length cs - 13) (S.loads_of ls))) ∙ map_drop stored (length cs - 13) (S.loads_of ls)
      ∙ ap (drop (length cs - 13)) (map_map stored (λ l. l.load) ls))

  tree_is : buckets_of cs ≡ b.tree
  tree_is = buckets_of_lem cs b.tree b.is

  area_is : nor_tree (S.nor_of ls) ≡ tree_bytes b.tree
  unfolding S.nor_of S.tree_area
  area_is = tree_of_nor (buckets_of cs) (sections_of ls) ∙ ap tree_bytes tree_is

  plan_is : plan_in ls l.load ≡ plan_on (tree_bytes b.tree) (length b.tree) (length cs) loads code
  plan_is = rw (area_is, tree_is, length_codes ls)

  nor_eq : S.nor_of ls ≡ tree_bytes b.tree ++ sections_of ls
  unfolding S.nor_of S.tree_area
  nor_eq = ap (λ (t : List Bucket). tree_bytes t ++ sections_of ls) tree_is

  abbrev tree_plan : Plan
  tree_plan = plan_on (tree_bytes b.tree) (length b.tree) (length cs) loads code

  -- what holds of the tree's bytes, its plan and its numbers holds of NOR and the state
  at_tree : (P : List ℕ → Plan → ℕ → ℕ → Type 0)
      → P (tree_bytes b.tree ++ sections_of ls) (plan_on (tree_bytes b.tree) (length b.tree) (length cs) loads code) (length b.tree) (length cs)
      → P (S.nor_of ls) (plan_in ls l.load) (S.bucket_count ls) (length ls)
  at_tree P x =
      subst (λ (w : List ℕ). P w (plan_in ls l.load) (S.bucket_count ls) (length ls)) (sym nor_eq)
      (subst (λ (q : Plan). P (tree_bytes b.tree ++ sections_of ls) q (S.bucket_count ls) (length ls)) (sym plan_is)
      (subst (λ (k : ℕ). P (tree_bytes b.tree ++ sections_of ls) tree_plan k (length ls)) (sym (ap length tree_is))
      (subst (λ (k : ℕ). P (tree_bytes b.tree ++ sections_of ls) tree_plan (length b.tree) k) (length_codes ls) x)))

  -- ---- room in the open segment

  module _ (room : length ls < 320) where
    few : length cs < 320
    few = omega (arith, length_codes ls)

    pub room_is : is_no_room (plan_in ls l.load) ≡ needs_bucket36 cs code
    room_is = ap is_no_room plan_is ∙ I.plan_room cs (good_loads ls b.lifts) few b.tree b.is loads last_same code low high

    pub sound_is : is_damaged (plan_in ls l.load) ≡ false
    sound_is = ap is_damaged plan_is ∙ I.plan_sound cs (good_loads ls b.lifts) few b.tree b.is loads last_same code low high

    pub enters : needs_bucket36 cs code ≡ false → Enters ls l (plan_in ls l.load)
    unfolding S.tree_area
    enters f =
        let u = needs_not cs code b.tree b.is f in
        let d = I.plan_done cs (good_loads ls b.lifts) few b.tree b.is loads last_same code low high (sections_of ls) u.0 u.2 in
        let c : codes (ls ++ (l ∷ [])) ≡ cs ++ (code ∷ []) = O.map_snoc (λ l. stored l.load) ls l in
        let k : buckets_of (codes (ls ++ (l ∷ []))) ≡ u.0 = ap buckets_of c ∙ buckets_of_lem (cs ++ (code ∷ [])) u.0 u.2 in
        record {
          sound = sound_is;
          clear = at_tree (λ w q n m. all_clear w (writes_of q n code m) ≡ true) d.clear;
          written = at_tree (λ w q n m. all_written w (writes_of q n code m) ≡ S.tree_area (ls ++ (l ∷ [])) ++ sections_of ls)
              (d.written ∙ sym (ap (λ (t : List Bucket). tree_bytes t ++ sections_of ls) k));
          buckets = at_tree (λ w q n m. buckets_after q n ≡ S.bucket_count (ls ++ (l ∷ []))) (d.buckets ∙ sym (ap length k));
          tree = u.0;
          is = ap tree_of c ∙ u.2;
        }

-- ---- full, and then the first lift of the next segment

pub full_plan : (ls : List Lift) (load : ℤ) → length ls ≡ 320 → plan_in ls load ≡ no_room
unfolding plan_on
full_plan ls load e = rw e

pub enters_first : (l : Lift) → GoodLift l → Enters [] l no_room
unfolding S.nor_of S.tree_area buckets_after
enters_first l gl =
    let low = (within_limits l.load gl.load).low in
    let high = (within_limits l.load gl.load).high in
    let one = buckets_of_lem (stored l.load ∷ []) _ (tree_of_one (stored l.load)) in
    let z : buckets_of [] ≡ [] = buckets_of_lem [] [] tree_of_none in
    record {
      sound = refl;
      clear = rw z (I.fresh_clear (sections_of []) 0 (stored l.load) 0 (omega arith));
      written = rw (z, one) (I.fresh_written (sections_of []) 0 (stored l.load) 0 (omega arith));
      buckets = rw one;
      tree = _;
      is = tree_of_one (stored l.load);
    }

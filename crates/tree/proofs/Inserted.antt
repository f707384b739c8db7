-- An insertion into the bytes of a built tree: no damage, no room exactly where the rules need bucket 36, and else writes
-- over bytes that are 255, which give the bytes of the tree with the load. Assumes nothing.
use Prim.Native.Nat.{ℕ, suc, ◌+◌, ◌≤◌, ◌<◌}
use mathlib.Core.Path.{◌≡◌, refl, sym, ap, subst, ◌∙◌}
use mathlib.Core.Bool.{Bool, true, false, cond}
use mathlib.Core.Option.{Option, none, some}
use mathlib.Core.List.{List, [], ◌∷◌, ◌++◌}
use native.Mathlib.Omega.{arith}
use lib.Dec.{leb, ltb, eqb}
use lib.ListN.{length, set, length-append, length-set}
use lib.Seq.{get_or-set_same, set-set}
use borrow.Author.Tests.{ltb-true, ltb-false}
use Rattle.codec.specs.Area.{part, splice, all_ones}
use Rattle.codec.specs.Number.{bytes}
use Rattle.split.specs.Split.{midpoint}
use Rattle.split.proofs.Midpoint.{midpoint_within}
use Rattle.tree.specs.Rules.{Entry, Bucket, Kids, whole, split, root, at, descend, added, linked, with_child}
use Rattle.tree.specs.Rules.{allocate, put, last_loads, insert, tree_of, needs_bucket36}
use Rattle.tree.specs.Inner.Loads.{Loads}
use Rattle.tree.specs.Bytes.{tree_bytes}
use Rattle.tree.specs.Plan.{Plan, no_room, new_root, into_bucket, new_child, split_bucket}
use Rattle.tree.specs.Plan.{plan_here, or_no_room, plan_on, is_damaged, is_no_room}
use Rattle.tree.specs.Writes.{mid_write, child_write, range_write, entry_write, writes_of, buckets_after}
use Rattle.tree.specs.Writes.{all_clear, written, all_written}
use Rattle.tree.proofs.Held.{Halves, Both, home, Housed, Inv}
use Rattle.tree.proofs.Descent.{if, End}
use Rattle.tree.proofs.Insert.{home_bucket, no_loads_lem}
use Rattle.tree.proofs.Grown.{cond_none}
use Rattle.tree.proofs.Built.{built_inv, tree_snoc, needs_none, needs_not, counted_inv}
use Rattle.tree.proofs.Coded.{node_of}
use Rattle.tree.proofs.Planned.{plan_inv}
use Rattle.tree.proofs.Written.{halved, clear_range, clear_first, clear_entry, clear_mid, clear_whole, clear_missing}
use Rattle.tree.proofs.Written.{written_entry, written_mid, written_child, written_bucket}

-- what the plan does to NOR, whose first bytes are the tree t: it gives the tree u
pub record Done (t u : List Bucket) (rest : List ℕ) (l p : ℕ) (plan : Plan) : Type 0 where
  pub sound : is_damaged plan ≡ false
  pub roomy : is_no_room plan ≡ false
  pub clear : all_clear (tree_bytes t ++ rest) (writes_of plan (length t) l p) ≡ true
  pub written : all_written (tree_bytes t ++ rest) (writes_of plan (length t) l p) ≡ tree_bytes u ++ rest
  pub buckets : buckets_after plan (length t) ≡ length u

abbrev pub Outcome : List Bucket → List ℕ → ℕ → ℕ → Option (List Bucket) → Plan → Type 0
Outcome t rest l p none plan = plan ≡ no_room
Outcome t rest l p (some u) plan = Done t u rest l p plan

-- a bucket that is full holds 13 loads
length_home : (P : ℕ → ℕ → Type 0) (i p : ℕ) (hs ls : List ℕ) → Both P hs ls → length (home i p hs ls) ≤ length ls
length_home P i p [] [] b = omega arith
length_home P i p [] (l ∷ ls) b = absurd b
length_home P i p (h ∷ hs) [] b = absurd b
length_home P i p (h ∷ hs) (l ∷ ls) b = go (eqb h i) (length_home P i (suc p) hs ls b.1)
  where
    go : (q : Bool) → length (home i (suc p) hs ls) ≤ length ls
        → length (cond q (record { load = l; position = p } ∷ home i (suc p) hs ls) (home i (suc p) hs ls)) ≤ suc (length ls)
    go true k = omega arith
    go false k = omega arith

cond_below : (q : Bool) (x m : ℕ) → x < 4294967296 → m < 4294967296 → cond q x m < 4294967296
cond_below true x m h k = h
cond_below false x m h k = k

module _ (t : List Bucket) (few : length t ≤ 36) (rest : List ℕ) (l p : ℕ) (small : l < 4294967296) where
  abbrev new : Entry
  new = record { load = l; position = p }

  abbrev nor : List ℕ
  nor = tree_bytes t ++ rest

  -- the entry goes into bucket i
  entry_done : (i : ℕ) → i < length t → length (at t i).entries < 13
      → Done t (set t i (added (at t i) new)) rest l p (into_bucket i (length (at t i).entries))
  unfolding writes_of buckets_after all_clear all_written splice part bytes all_ones
  entry_done i h k =
      record {
        sound = refl;
        roomy = refl;
        clear = clear_entry t few rest i l p h k;
        written = written_entry t few rest i l p h k small;
        buckets = sym (length-set t i (added (at t i) new));
      }

  -- the entry goes into a new child of bucket i, which is split at m
  module _ (i m : ℕ) (a c : Option ℕ) (q : Bool) (h : i < length t) (room : length t < 36) (stop : cond q a c ≡ none)
      (bx : (at t i).x < 4294967296) (bm : m < 4294967296) where
    abbrev grown : List Bucket
    grown = with_child t i q m a c new

    abbrev below : ℕ
    below = cond q (at t i).x m

    abbrev above : ℕ
    above = cond q m (at t i).y

    abbrev parent : Bucket
    parent = linked (at t i) q m a c (length t)

    long : length t + 1 ≡ length grown
    long = simp (length-append, length-set) (omega arith)

    -- the last two writes, into the tree whose bucket i is linked
    bucket_done :
        written (written (tree_bytes (set t i parent) ++ rest) (range_write (length t) below above)) (entry_write (length t) 0 l p)
        ≡ tree_bytes grown ++ rest
    bucket_done =
        let e : length (set t i parent) ≡ length t = length-set t i parent in
        rw e at
        (written_bucket (set t i parent) rest below above l p (omega arith) (cond_below q (at t i).x m bx bm) small)

    child_done : (at t i).kids ≡ split m a c → Done t grown rest l p (new_child i (cond q 12 13) below above)
    unfolding writes_of buckets_after all_clear all_written splice part bytes all_ones
    child_done e =
        record {
          sound = refl;
          roomy = refl;
          clear =
              rw (
                clear_missing t few rest i m a c q (length t) h e stop,
                clear_range t few rest (length t) below above (omega arith) room,
                clear_first t few rest (length t) l p (omega arith) room,
              );
          written = ap (λ (s : List ℕ). written (written s (range_write (length t) below above)) (entry_write (length t) 0 l p))
              (written_child t few rest i m a c q (length t) h e)
              ∙ bucket_done;
          buckets = long;
        }

  -- full bucket i is split at m, and a new child takes the entry
  module _ (i m : ℕ) (q : Bool) (h : i < length t) (room : length t < 36) (bx : (at t i).x < 4294967296) (bm : m < 4294967296)
      (e : (at t i).kids ≡ whole) where
    abbrev cut : List Bucket
    cut = set t i (halved (at t i) m)

    -- the mid and the child number
    linked_done : written (written nor (mid_write i m)) (child_write i (cond q 12 13) (length t))
        ≡ tree_bytes (set t i (linked (at t i) q m none none (length t))) ++ rest
    linked_done =
        let k : length cut ≡ length t = length-set t i (halved (at t i) m) in
        let g : at cut i ≡ halved (at t i) m = get_or-set_same t i (halved (at t i) m) (root []) h in
        ap (λ (s : List ℕ). written s (child_write i (cond q 12 13) (length t))) (written_mid t few rest i m h e)
        ∙ written_child cut (omega arith) rest i m none none q (length t) (omega arith) (ap (λ (b : Bucket). b.kids) g)
        ∙ ap (λ (b : Bucket). tree_bytes (set cut i (linked b q m none none (length t))) ++ rest) g
        ∙ ap (λ (u : List Bucket). tree_bytes u ++ rest)
        (set-set t i (halved (at t i) m) (linked (at t i) q m none none (length t)))

    abbrev from : ℕ
    from = cond q (at t i).x m

    abbrev upto : ℕ
    upto = cond q m (at t i).y

    split_done : Done t (with_child t i q m none none new) rest l p (split_bucket i m (cond q 12 13) from upto)
    unfolding writes_of buckets_after all_clear all_written
    split_done =
        record {
          sound = refl;
          roomy = refl;
          clear =
              rw (
                clear_mid t few rest i m h e,
                clear_whole t few rest i q (length t) h e,
                clear_range t few rest (length t) from upto (omega arith) room,
                clear_first t few rest (length t) l p (omega arith) room,
              );
          written = ap
              (λ (s : List ℕ). written (written s (range_write (length t) from upto)) (entry_write (length t) 0 l p))
              linked_done
              ∙ bucket_done i m none none q h room (cond_none q) bx bm;
          buckets = long i m none none q h room (cond_none q) bx bm;
        }

-- the first entry, in a new root
pub root_done : (rest : List ℕ) (l p : ℕ) → l < 4294967296
    → Done [] (root (record { load = l; position = p } ∷ []) ∷ []) rest l p new_root
unfolding writes_of buckets_after all_clear all_written splice part bytes all_ones
root_done rest l p small =
    record {
      sound = refl;
      roomy = refl;
      clear =
          rw (
            clear_range [] (omega arith) rest 0 0 150001 (omega arith) (omega arith),
            clear_first [] (omega arith) rest 0 l p (omega arith) (omega arith),
          );
      written = written_bucket [] rest 0 150001 l p (omega arith) (omega arith) small;
      buckets = refl;
    }

-- after a close the load begins a new tree, in erased bytes, as its first load does
pub fresh_clear : (rest : List ℕ) (n l p : ℕ) → l < 4294967296 → all_clear (tree_bytes [] ++ rest) (writes_of no_room n l p) ≡ true
unfolding writes_of
fresh_clear rest n l p small = (root_done rest l p small).clear

pub fresh_written : (rest : List ℕ) (n l p : ℕ) → l < 4294967296
    → all_written (tree_bytes [] ++ rest) (writes_of no_room n l p)
    ≡ tree_bytes (root (record { load = l; position = p } ∷ []) ∷ []) ++ rest
unfolding writes_of
fresh_written rest n l p small = (root_done rest l p small).written

-- ---- the plan against the insert

outcome_if : (t u : List Bucket) (rest : List ℕ) (l p : ℕ) (plan : Plan) (b : Bool) → (b ≡ true → Done t u rest l p plan)
    → Outcome t rest l p (cond b (some u) none) (cond b plan no_room)
outcome_if t u rest l p plan true f = f refl
outcome_if t u rest l p plan false f = refl

module _ (ls hs : List ℕ) (t : List Bucket) (v : Inv ls hs t) (open_end : length ls < 320) (loads : List ℕ)
    (same : 13 ≤ length ls → loads ≡ last_loads ls) (rest : List ℕ) (l : ℕ) (lo : 0 < l) (hi : l ≤ 150001) where
  abbrev entry : Entry
  entry = record { load = l; position = length ls }

  put_outcome : (i : ℕ) → End t l i → (k : Kids) → (at t i).kids ≡ k
      → Outcome t rest l (length ls) (put t i (midpoint (at t i).x (at t i).y (last_loads ls)) entry k)
      (or_no_room (length t) (plan_here (node_of (at t i)) i loads l k))
  unfolding put allocate
  put_outcome i z whole e =
      let m : ℕ = midpoint (at t i).x (at t i).y (last_loads ls) in
      if (ltb (length (at t i).entries) 13)
      (λ f. rw f (entry_done t v.few rest l (length ls) (omega arith) i z.there (ltb-true _ 13 f)))
      (λ f. let full : 13 ≤ length (at t i).entries = ltb-false _ 13 f in
      let many : 13 ≤ length ls = omega (arith, ap length (v.held i), length_home (Housed t) i 0 hs ls v.housed) in
      let w = midpoint_within (at t i).x (at t i).y (last_loads ls) (v.good i).wide in
      rw (f, same many)
      (outcome_if t (with_child t i (leb l m) m none none entry) rest l (length ls) _ (ltb (length t) 36)
      (λ f. split_done t v.few rest l (length ls) (omega arith) i m (leb l m) z.there (ltb-true (length t) 36 f)
      (omega (arith, (v.good i).wide, (v.good i).top)) (omega (arith, w.1, (v.good i).top)) e)))
  put_outcome i z (split m a c) e =
      let g : Halves t i (at t i).x (at t i).y m a c = rw e at (v.good i).parts in
      outcome_if t (with_child t i (leb l m) m a c entry) rest l (length ls) _ (ltb (length t) 36)
      (λ f. child_done t v.few rest l (length ls) (omega arith) i m a c (leb l m) z.there (ltb-true (length t) 36 f)
      (rw e at z.stop) (omega (arith, (v.good i).wide, (v.good i).top)) (omega (arith, g.under, (v.good i).top)) e)

pub insert_outcome : (ls hs : List ℕ) (t : List Bucket) → Inv ls hs t → length ls < 320 → (loads : List ℕ)
    → (13 ≤ length ls → loads ≡ last_loads ls) → (rest : List ℕ) (l : ℕ) → 0 < l → l ≤ 150001
    → Outcome t rest l (length ls) (insert ls t l) (plan_on (tree_bytes t) (length t) (length ls) loads l)
unfolding insert plan_on
insert_outcome ls hs [] v open_end loads same rest l lo hi = rw (no_loads_lem ls hs v).0 (root_done rest l 0 (omega arith))
insert_outcome ls hs (b ∷ t) v open_end loads same rest l lo hi =
    let i : ℕ = descend (length (b ∷ t)) (b ∷ t) l 0 in
    let c = counted_inv ls hs (b ∷ t) v in
    let z = home_bucket ls hs (b ∷ t) v (omega arith) l lo hi in
    rw (plan_inv ls hs (b ∷ t) v (omega arith) loads l (omega arith) (omega (arith, c.begun)) open_end lo hi)
    (put_outcome ls hs (b ∷ t) v open_end loads same rest l lo hi i z (at (b ∷ t) i).kids refl)

-- ---- the tree of the loads ls, and the new load l

module _ (ls : List ℕ) (ok : Loads ls) (open_end : length ls < 320) (t : List Bucket) (e : tree_of ls ≡ some t) (loads : List ℕ)
    (same : 13 ≤ length ls → loads ≡ last_loads ls) (l : ℕ) (lo : 0 < l) (hi : l ≤ 150001) where
  outcome : (rest : List ℕ) → Outcome t rest l (length ls) (insert ls t l) (plan_on (tree_bytes t) (length t) (length ls) loads l)
  outcome rest = let v = built_inv ls ok t e in insert_outcome ls v.0 t v.1 open_end loads same rest l lo hi

  -- the plan closes the segment exactly where its loads and then the new one need bucket 36
  pub plan_needs : needs_bucket36 ls l ≡ true → plan_on (tree_bytes t) (length t) (length ls) loads l ≡ no_room
  plan_needs h =
      subst (λ (o : Option (List Bucket)). Outcome t [] l (length ls) o (plan_on (tree_bytes t) (length t) (length ls) loads l))
      (needs_none ls l t e h) (outcome [])

  -- else its writes give the bytes of the tree with the load
  pub plan_done : (rest : List ℕ) (u : List Bucket) → tree_of (ls ++ (l ∷ [])) ≡ some u
      → Done t u rest l (length ls) (plan_on (tree_bytes t) (length t) (length ls) loads l)
  plan_done rest u f =
      subst (λ (o : Option (List Bucket)). Outcome t rest l (length ls) o (plan_on (tree_bytes t) (length t) (length ls) loads l))
      (sym (tree_snoc ls l t e) ∙ f) (outcome rest)

  -- no damage is met, and the segment is closed exactly where bucket 36 is needed
  pub plan_sound : is_damaged (plan_on (tree_bytes t) (length t) (length ls) loads l) ≡ false
  plan_sound =
      if (needs_bucket36 ls l)
      (λ f. ap is_damaged (plan_needs f))
      (λ f. (plan_done [] _ (needs_not ls l t e f).2).sound)

  pub plan_room : is_no_room (plan_on (tree_bytes t) (length t) (length ls) loads l) ≡ needs_bucket36 ls l
  plan_room =
      if (needs_bucket36 ls l)
      (λ f. rw f (ap is_no_room (plan_needs f)))
      (λ f. rw f (plan_done [] _ (needs_not ls l t e f).2).roomy)

-- The bytes of a built tree read back as its buckets, and every bucket is without damage. Assumes nothing.
use Prim.Native.Nat.{ℕ, zero, suc, ◌≤◌, ◌<◌}
use mathlib.Core.Path.{◌≡◌, refl, ap, ◌∙◌}
use mathlib.Core.Bool.{true}
use mathlib.Core.Option.{Option, none, some}
use mathlib.Core.List.{List, [], ◌∷◌, Memᴰ}
use native.Mathlib.Omega.{arith}
use lib.ListN.{length, get_or}
use borrow.Author.Tests.{lt-ltb, le-leb}
use Rattle.tree.specs.Rules.{Entry, Bucket, Kids, whole, split, root, at, tree_of}
use Rattle.tree.specs.Inner.Loads.{Loads}
use Rattle.tree.specs.Bytes.{bucket_bytes, tree_bytes}
use Rattle.tree.specs.Reading.{bucket_at, Node, node_in, kids_of, child_good, kids_good, positions_good, node_good}
use Rattle.tree.proofs.Held.{Child, Parts, Inv}
use Rattle.tree.proofs.Built.{built_inv}
use Rattle.tree.proofs.Homes.{placed}
use Rattle.tree.proofs.Places.{place_used}
use Rattle.tree.proofs.Coded.{length_bucket, FitsChild, FitsKids, Fits, node_of, node_back, kids_back}
use Rattle.tree.proofs.Starts.{bucket_start_lem}

entry_there : (es : List Entry) (i : ℕ) (d : Entry) → i < length es → Memᴰ (get_or es i d) es
entry_there [] i d h = absurd (omega arith)
entry_there (e ∷ es) zero d h = Memᴰ.head refl
entry_there (e ∷ es) (suc i) d h = Memᴰ.tail (entry_there es i d (omega arith))

fits_child : (t : List Bucket) (i u v : ℕ) (a : Option ℕ) → length t ≤ 36 → Child t i u v a → FitsChild a
fits_child t i u v none h c = tt
fits_child t i u v (some d) h c = omega arith

fits_kids : (t : List Bucket) (i x y : ℕ) (k : Kids) → length t ≤ 36 → y ≤ 150001 → Parts t i x y k → FitsKids k
fits_kids t i x y whole h q p = tt
fits_kids t i x y (split m a c) h q p = (omega arith, fits_child t i x m a h p.left, fits_child t i m y c h p.right)

good_child : (t : List Bucket) (i u v : ℕ) (a : Option ℕ) → Child t i u v a → child_good i (length t) a ≡ true
good_child t i u v none c = refl
good_child t i u v (some d) c = rw (lt-ltb i d c.above, lt-ltb d (length t) c.there)

good_kids : (t : List Bucket) (i x y : ℕ) (k : Kids) → Parts t i x y k → kids_good i (length t) x y k ≡ true
good_kids t i x y whole p = refl
good_kids t i x y (split m a c) p =
    rw (lt-ltb x m p.over, le-leb m y p.under, good_child t i x m a p.left, good_child t i m y c p.right)

good_positions : (count : ℕ) (es : List Entry) → ((e : Entry) → Memᴰ e es → e.position < count)
    → positions_good count es ≡ true
unfolding positions_good
good_positions count [] f = refl
good_positions count (e ∷ es) f =
    rw (lt-ltb e.position count (f e (Memᴰ.head refl)), good_positions count es (λ d m. f d (Memᴰ.tail m)))

-- bucket i as it is read
pub record ReadsAs (t : List Bucket) (i count : ℕ) (n : Node) : Type 0 where
  pub same : n ≡ node_of (at t i)
  pub kids : kids_of n ≡ (at t i).kids
  pub good : node_good n i (length t) count ≡ true

module _ (ls hs : List ℕ) (t : List Bucket) (v : Inv ls hs t) (few : length ls ≤ 320) where
  pub fits_inv : (i : ℕ) → Fits (at t i)
  fits_inv i =
      let g = v.good i in
      record {
        x = omega (arith, g.wide, g.top);
        y = omega (arith, g.top);
        kids = fits_kids t i _ _ (at t i).kids v.few g.top g.parts;
        room = g.room;
        loads = λ j d h. let p = placed ls hs t v i (get_or (at t i).entries j d) (entry_there (at t i).entries j d h) in
            omega (arith, p.high, g.top);
        positions = λ j d h. let p = placed ls hs t v i (get_or (at t i).entries j d) (entry_there (at t i).entries j d h) in
            omega (arith, p.below);
      }

  good_inv : (i : ℕ) → node_good (node_of (at t i)) i (length t) (length ls) ≡ true
  unfolding node_good
  good_inv i =
      let g = v.good i in
      rw (
        lt-ltb (at t i).x (at t i).y g.wide,
        le-leb (at t i).y 150001 g.top,
        kids_back (at t i) (fits_inv i).kids,
        good_kids t i (at t i).x (at t i).y (at t i).kids g.parts,
        good_positions (length ls) (at t i).entries (λ e m. (placed ls hs t v i e m).below),
      )

  pub reads_inv : (i : ℕ) → i < length t → ReadsAs t i (length ls) (node_in (bucket_at (tree_bytes t) i))
  unfolding tree_bytes
  reads_inv i h =
      let f = v.few in
      let e : node_in (bucket_at (tree_bytes t) i) ≡ node_of (at t i) =
      rw (bucket_start_lem i) (ap node_in (place_used 128 bucket_bytes length_bucket 36 t (root []) i h (omega arith)) ∙ node_back (at t i) (fits_inv i)) in
      record { same = e; kids = ap kids_of e ∙ kids_back (at t i) (fits_inv i).kids; good = rw e (good_inv i) }

-- every bucket of the tree of at most 320 loads, in its bytes
pub reads_built : (ls : List ℕ) → Loads ls → length ls ≤ 320 → (t : List Bucket) → tree_of ls ≡ some t → (i : ℕ) → i < length t
    → ReadsAs t i (length ls) (node_in (bucket_at (tree_bytes t) i))
reads_built ls ok few t e i h = let v = built_inv ls ok t e in reads_inv ls v.0 t v.1 few i h

-- The matches of one segment: positions below its count, kept by their times, and read back from their set as they are. Assumes
-- nothing.
use mathlib.Core.Path.{◌≡◌, refl, sym, ap, ◌∙◌}
use mathlib.Core.Bool.{Bool, true, false, cond, ◌&&◌, ◌||◌}
use mathlib.Core.Option.{Option, none, some}
use mathlib.Core.List.{List, [], ◌∷◌}
use Prim.Native.Nat.{ℕ, zero, suc, ◌+◌, ◌≤◌, ◌<◌}
use native.Mathlib.Omega.{arith}
use lib.Dec.{eqb}
use borrow.Author.Tests.{eqb-true, eqb-false, ne_eqb}
use Rattle.codec.proofs.Truth.{and_parts}
use Rattle.bitset.specs.Set.{picked, elem}
use Rattle.bitset.specs.Inner.Words.{empty_words, insert_all, members, Below}
use Rattle.bitset.proofs.Picked.{picked_same}
use Rattle.bitset.proofs.Same.{same_words}
use Rattle.bitset.proofs.Set.{members_inserted_all}
use Rattle.lift.specs.Rows.{time_in, code_in}
use Rattle.tree.specs.Sweep.{sweep_on}
use Rattle.sweep.specs.declared.Range.{Range}
use Rattle.sweep.specs.declared.Records.{Records}
use Rattle.sweep.specs.Inner.Swept.{swept_from, passing, passing_of, swept_of}
use Rattle.sweep.proofs.Found.{below_more, below_passing, elem_passing, sweep_below}
use Rattle.visit.specs.declared.Query.{Query}
use Rattle.visit.specs.Visit.{timely, timed, timed_of, matches_of}

-- ---- places below a count

pub below_elem : (n p : ℕ) (l : List ℕ) → Below n l → elem p l ≡ true → p < n
unfolding elem
below_elem n p [] b e = let z : ◌≡◌ {A = ℕ} 0 1 = cc in absurd (omega arith)
below_elem n p (x ∷ l) b e = go (eqb p x) refl e (λ h. below_elem n p l b.1 h)
  where
    go : (t : Bool) → eqb p x ≡ t → (t || elem p l) ≡ true → (elem p l ≡ true → p < n) → p < n
    go true f h ih = omega (arith, eqb-true p x f, b.0)
    go false f h ih = ih h

below_picked : (n : ℕ) (f : ℕ → Bool) (from m : ℕ) → ((p : ℕ) → f p ≡ true → p < n) → Below n (picked f from m)
unfolding picked
below_picked n f from zero h = tt
below_picked n f from (suc m) h = go (f from) refl (below_picked n f (suc from) m h)
  where
    go : (t : Bool) → f from ≡ t → Below n (picked f (suc from) m)
        → Below n (cond t (from ∷ picked f (suc from) m) (picked f (suc from) m))
    go true e b = (h from e, b)
    go false e b = b

elem_before : (f : ℕ → Bool) (from n p : ℕ) → p < from → elem p (picked f from n) ≡ false
unfolding picked elem
elem_before f from zero p h = refl
elem_before f from (suc n) p h = go (f from) (elem_before f (suc from) n p (omega arith))
  where
    go : (t : Bool) → elem p (picked f (suc from) n) ≡ false
        → elem p (cond t (from ∷ picked f (suc from) n) (picked f (suc from) n)) ≡ false
    go true e = rw (ne_eqb p from (λ z. omega arith), e)
    go false e = e

elem_picked : (f : ℕ → Bool) (from n p : ℕ) → from ≤ p → p < from + n → elem p (picked f from n) ≡ f p
unfolding picked elem
elem_picked f from zero p l h = absurd (omega arith)
elem_picked f from (suc n) p l h = go (f from) refl (eqb p from) refl (elem_picked f (suc from) n p)
  where
    go : (t : Bool) → f from ≡ t → (u : Bool) → eqb p from ≡ u
        → (suc from ≤ p → p < suc from + n → elem p (picked f (suc from) n) ≡ f p)
        → elem p (cond t (from ∷ picked f (suc from) n) (picked f (suc from) n)) ≡ f p
    go true e true d ih = let z : p ≡ from = eqb-true p from d in rw (d, z, e)
    go true e false d ih = rw d (ih (omega (arith, eqb-false p from d)) (omega arith))
    go false e true d ih = let z : p ≡ from = eqb-true p from d in elem_before f (suc from) n p (omega arith) ∙ sym (rw z e)
    go false e false d ih = ih (omega (arith, eqb-false p from d)) (omega arith)

range_below : (f : ℕ → Bool) (from n : ℕ) → Below (from + n) (picked f from n)
unfolding picked
range_below f from zero = tt
range_below f from (suc n) =
    go (f from) (below_more (suc from + n) (from + suc n) (picked f (suc from) n) (omega arith) (range_below f (suc from) n))
  where
    go : (t : Bool) → Below (from + suc n) (picked f (suc from) n)
        → Below (from + suc n) (cond t (from ∷ picked f (suc from) n) (picked f (suc from) n))
    go true b = (omega arith, b)
    go false b = b

-- ---- the matches from a sweep: those found and filtered make the same set as those filtered and then put in order

module _ (tree lifts tail : List ℕ) (g : Records) (q : Query) (most : g.count ≤ 320) where
  abbrev range : Range
  range = record { t1 = q.t1; t2 = q.t2; k1 = q.k1; k2 = q.k2 }

  abbrev fits : ℕ → Bool
  fits p = timely q (time_in lifts tail g.first p)

  same_set : (ps : List ℕ) → Below 320 ps → insert_all empty_words (passing fits ps) ≡ insert_all empty_words (timed (time_in lifts tail g.first) q ps)
  unfolding timed
  same_set ps b =
      let f : ℕ → Bool = λ p. elem p ps && fits p in
      same_words (passing fits ps) (picked f 0 320) (below_passing 320 fits ps b) (range_below f 0 320) (λ p l.
      elem_passing fits p ps ∙ sym (elem_picked f 0 320 p (omega arith) l))

  pub matched : swept_of tree lifts tail g range
      ≡ swept_from empty_words (matches_of tree lifts tail g.first g.count g.buckets q)
  unfolding swept_of matches_of
  matched = go (sweep_on tree g.buckets g.count (code_in lifts tail g.first) q.k1 q.k2)
      (sweep_below tree g.buckets g.count (code_in lifts tail g.first) q.k1 q.k2)
    where
      go : (o : Option (List ℕ)) → ((ps : List ℕ) → o ≡ some ps → Below g.count ps)
          → swept_from empty_words (passing_of fits o) ≡ swept_from empty_words (timed_of (time_in lifts tail g.first) q o)
      go none a = refl
      go (some ps) a =
          ap (λ (ws : List ℕ). record { good = true; set = record { words = ws } })
          (same_set ps (below_more g.count 320 ps most (a ps refl)))

-- ---- matches are places of lifts, and their set has them lowest first

-- places below a count, which their set has in their order
abbrev pub Places : ℕ → Option (List ℕ) → Type 0
Places count none = Unit {0}
Places count (some ps) = Below count ps × (members (insert_all empty_words ps) ≡ ps)

pub matches_places : (tree lifts tail : List ℕ) (first count buckets : ℕ) (q : Query)
    → Places count (matches_of tree lifts tail first count buckets q)
unfolding matches_of timed
matches_places tree lifts tail first count buckets q =
    go (sweep_on tree buckets count (code_in lifts tail first) q.k1 q.k2)
    (sweep_below tree buckets count (code_in lifts tail first) q.k1 q.k2)
  where
    go : (o : Option (List ℕ)) → ((ps : List ℕ) → o ≡ some ps → Below count ps) → Places count (timed_of (time_in lifts tail first) q o)
    go none a = tt
    go (some ps) a =
        let f : ℕ → Bool = λ p. elem p ps && timely q (time_in lifts tail first p) in (
          below_picked count f 0 320 (λ p e. below_elem count p ps (a ps refl) (and_parts (elem p ps) _ e).0),
          members_inserted_all (picked f 0 320) (range_below f 0 320)
              ∙ picked_same (λ p. elem p (picked f 0 320)) f 0 320 (λ p u v. elem_picked f 0 320 p u v),
        )

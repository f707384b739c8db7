-- The tree of any loads, load by load: it keeps the invariant, and grows by `insert`. Assumes nothing.
use Prim.Native.Nat.{ℕ, ◌+◌, ◌-◌, ◌≤◌, ◌<◌}
use mathlib.Core.Path.{◌≡◌, refl, sym, ◌∙◌, ap, subst}
use mathlib.Core.Bool.{Bool, true, false}
use mathlib.Core.Option.{Option, none, some}
use mathlib.Core.List.{List, [], ◌∷◌, ◌++◌, append-nil, append_assoc}
use native.Mathlib.Omega.{arith}
use lib.Dec.{ltb}
use lib.ListN.{length, drop, length-append, length-drop}
use lib.Seq.{drop-append-le, drop-drop}
use borrow.Author.Tests.{ltb-false}
use Rattle.tree.specs.Rules.{Entry, Bucket, Kids, whole, split, at, descend, allocate, put, last_loads, insert, insert_more}
use Rattle.tree.specs.Rules.{tree_of, needs_bucket36, buckets_of, root}
use Rattle.tree.specs.Inner.Loads.{Loads}
use Rattle.tree.proofs.Held.{Good, Housed, Both, Inv}
use Rattle.tree.proofs.Descent.{if, none_some}
use Rattle.tree.proofs.Insert.{insert_inv, empty_inv}

-- ---- the invariant

more_inv : (more ls hs : List ℕ) (t : List Bucket) → Inv ls hs t → Loads more
    → (t' : List Bucket) → insert_more ls t more ≡ some t' → (hs' : List ℕ) × Inv (ls ++ more) hs' t'
unfolding insert_more
more_inv [] ls hs t v ok t' e =
    let e' : t ≡ t' = cc in
    (hs, rw append-nil (subst (Inv ls hs) e' v))
more_inv (l ∷ more) ls hs t v ok t' e = go (insert ls t l) refl e (more_inv more)
  where
    go : (o : Option (List Bucket)) → insert ls t l ≡ o
        → elim o [ none ↦ none | some u ↦ insert_more (ls ++ (l ∷ [])) u more ] ≡ some t'
        → ((ls hs : List ℕ) (t : List Bucket) → Inv ls hs t → Loads more → (t' : List Bucket) → insert_more ls t more ≡ some t'
        → (hs' : List ℕ) × Inv (ls ++ more) hs' t')
        → (hs' : List ℕ) × Inv (ls ++ (l ∷ more)) hs' t'
    go none d f k = none_some f
    go (some u) d f k =
        let w = insert_inv ls hs t v l ok.0 ok.1 u d in
        let r = k (ls ++ (l ∷ [])) (hs ++ (w.0 ∷ [])) u w.1 ok.2 t' f in
        (r.0, rw append_assoc at r.1)

-- the homes of the loads, with the invariant
pub built_inv : (ls : List ℕ) → Loads ls → (t : List Bucket) → tree_of ls ≡ some t → (hs : List ℕ) × Inv ls hs t
unfolding tree_of
built_inv ls ok t e = more_inv ls [] [] [] empty_inv ok t e

-- every bucket: its range, its mid, its children's numbers and ranges, at most 13 entries
pub built_good : (ls : List ℕ) → Loads ls → (t : List Bucket) → tree_of ls ≡ some t → (i : ℕ) → Good t i (at t i)
built_good ls ok t e i = (built_inv ls ok t e).1.good i

pub buckets_of_lem : (ls : List ℕ) (t : List Bucket) → tree_of ls ≡ some t → buckets_of ls ≡ t
unfolding buckets_of
buckets_of_lem ls t e = ap (λ (o : Option (List Bucket)). elim o [ none ↦ [] | some u ↦ u ]) e

-- ---- one load more

abbrev taking : List ℕ → ℕ → Option (List Bucket) → Option (List Bucket)
taking ls l none = none
taking ls l (some t) = insert ls t l

more_snoc : (more ls : List ℕ) (t : List Bucket) (l : ℕ)
    → insert_more ls t (more ++ (l ∷ [])) ≡ taking (ls ++ more) l (insert_more ls t more)
unfolding insert_more
more_snoc [] ls t l = go (insert ls t l) ∙ ap (λ (s : List ℕ). insert s t l) (sym (append-nil ls))
  where
    go : (o : Option (List Bucket)) → elim o [ none ↦ none | some u ↦ some u ] ≡ o
    go none = refl
    go (some u) = refl
more_snoc (k ∷ more) ls t l = go (insert ls t k) (λ u. more_snoc more (ls ++ (k ∷ [])) u l)
  where
    go : (o : Option (List Bucket))
        → ((u : List Bucket) → insert_more (ls ++ (k ∷ [])) u (more ++ (l ∷ []))
        ≡ taking ((ls ++ (k ∷ [])) ++ more) l (insert_more (ls ++ (k ∷ [])) u more))
        → elim o [ none ↦ none | some u ↦ insert_more (ls ++ (k ∷ [])) u (more ++ (l ∷ [])) ]
        ≡ taking (ls ++ (k ∷ more)) l (elim o [ none ↦ none | some u ↦ insert_more (ls ++ (k ∷ [])) u more ])
    go none f = refl
    go (some u) f = f u ∙ ap (λ (s : List ℕ). taking s l (insert_more (ls ++ (k ∷ [])) u more)) (append_assoc ls (k ∷ []) more)

-- the tree of one load more is the tree with that load inserted
pub tree_snoc : (ls : List ℕ) (l : ℕ) (t : List Bucket) → tree_of ls ≡ some t → tree_of (ls ++ (l ∷ [])) ≡ insert ls t l
unfolding tree_of
tree_snoc ls l t e = more_snoc ls [] [] l ∙ ap (taking ls l) e

-- loads that have a tree have one at each moment before
pub tree_before : (ls : List ℕ) (l : ℕ) (t : List Bucket) → tree_of (ls ++ (l ∷ [])) ≡ some t
    → (u : List Bucket) × (tree_of ls ≡ some u) × (insert ls u l ≡ some t)
unfolding tree_of
tree_before ls l t e = go (tree_of ls) refl (sym (more_snoc ls [] [] l) ∙ e)
  where
    go : (o : Option (List Bucket)) → tree_of ls ≡ o → taking ls l o ≡ some t
        → (u : List Bucket) × (tree_of ls ≡ some u) × (insert ls u l ≡ some t)
    go none d f = none_some f
    go (some u) d f = (u, d, f)

-- ---- bucket 36

some_none : {A P : Type 0} {a : A} → some a ≡ none → P
some_none e = none_some (sym e)

allocate_none : (t : List Bucket) (i m : ℕ) (a c : Option ℕ) (e : Entry) → allocate t i m a c e ≡ none → 36 ≤ length t
unfolding allocate
allocate_none t i m a c e h = if (ltb (length t) 36) (λ f. some_none (rw f at h)) (λ f. ltb-false (length t) 36 f)

put_none : (t : List Bucket) (i m : ℕ) (e : Entry) (k : Kids) → put t i m e k ≡ none → 36 ≤ length t
unfolding put
put_none t i m e whole h =
    if (ltb (length (at t i).entries) 13) (λ f. some_none (rw f at h)) (λ f. allocate_none t i m none none e (rw f at h))
put_none t i m e (split m' a c) h = allocate_none t i m' a c e h

-- an insert fails only for want of a bucket
pub insert_none : (ls : List ℕ) (t : List Bucket) (l : ℕ) → insert ls t l ≡ none → 36 ≤ length t
unfolding insert
insert_none ls [] l h = some_none h
insert_none ls (b ∷ t) l h =
    put_none (b ∷ t) (descend (length (b ∷ t)) (b ∷ t) l 0) _ _ (at (b ∷ t) (descend (length (b ∷ t)) (b ∷ t) l 0)).kids h

module _ (ls : List ℕ) (l : ℕ) (t : List Bucket) (e : tree_of ls ≡ some t) where
  abbrev missing : Option (List Bucket) → Bool
  missing o = elim o [ none ↦ true | some u ↦ false ]

  needs_is : needs_bucket36 ls l ≡ missing (insert ls t l)
  unfolding needs_bucket36
  needs_is = ap missing (tree_snoc ls l t e)

  pub needs_none : needs_bucket36 ls l ≡ true → insert ls t l ≡ none
  needs_none h = go (insert ls t l) (sym needs_is ∙ h)
    where
      go : (o : Option (List Bucket)) → missing o ≡ true → o ≡ none
      go none f = refl
      go (some u) f = cc

  pub none_needs : insert ls t l ≡ none → needs_bucket36 ls l ≡ true
  none_needs h = needs_is ∙ ap missing h

  pub needs_not : needs_bucket36 ls l ≡ false → (u : List Bucket) × (insert ls t l ≡ some u) × (tree_of (ls ++ (l ∷ [])) ≡ some u)
  needs_not h = go (insert ls t l) refl (sym needs_is ∙ h)
    where
      go : (o : Option (List Bucket)) → insert ls t l ≡ o → missing o ≡ false
          → (u : List Bucket) × (insert ls t l ≡ some u) × (tree_of (ls ++ (l ∷ [])) ≡ some u)
      go none d f = absurd (let z : ◌≡◌ {A = ℕ} 0 1 = cc in omega arith)
      go (some u) d f = (u, d, tree_snoc ls l t e ∙ d)

  pub some_needs_not : (u : List Bucket) → insert ls t l ≡ some u → needs_bucket36 ls l ≡ false
  some_needs_not u h = needs_is ∙ ap missing h

-- the tree of no loads, and of one
pub tree_of_none : tree_of [] ≡ some []
unfolding tree_of insert_more
tree_of_none = refl

pub tree_of_one : (l : ℕ) → tree_of (l ∷ []) ≡ some (root (record { load = l; position = 0 } ∷ []) ∷ [])
unfolding tree_of insert_more insert
tree_of_one l = refl

pub first_fits : (l : ℕ) → needs_bucket36 [] l ≡ false
unfolding needs_bucket36 tree_of insert_more insert
first_fits l = refl

-- ---- bounds

-- bucket counts of a built tree: at most 36, "0 exactly when count is 0"
pub record Counted (ls : List ℕ) (t : List Bucket) : Type 0 where
  pub few : length t ≤ 36
  pub begun : length t ≤ length ls
  pub some_bucket : 0 < length ls → 0 < length t

pub counted_inv : (ls hs : List ℕ) (t : List Bucket) → Inv ls hs t → Counted ls t
counted_inv ls hs t v = record { few = v.few; begun = v.begun; some_bucket = λ p. go hs ls v.housed p }
  where
    go : (hs ls : List ℕ) → Both (Housed t) hs ls → 0 < length ls → 0 < length t
    go [] [] b p = absurd (omega arith)
    go [] (l ∷ ls) b p = absurd b
    go (h ∷ hs) [] b p = absurd b
    go (h ∷ hs) (l ∷ ls) b p = omega (arith, b.0.there)

pub counted : (ls : List ℕ) → Loads ls → (t : List Bucket) → tree_of ls ≡ some t → Counted ls t
counted ls ok t e = let v = built_inv ls ok t e in counted_inv ls v.0 t v.1

pub loads_snoc : (ls : List ℕ) (l : ℕ) → Loads ls → 0 < l → l ≤ 150001 → Loads (ls ++ (l ∷ []))
loads_snoc [] l ok lo hi = (lo, hi, tt)
loads_snoc (k ∷ ls) l ok lo hi = (ok.0, ok.1, loads_snoc ls l ok.2 lo hi)

-- ---- the last loads

pub length_last : (ls : List ℕ) → 13 ≤ length ls → length (last_loads ls) ≡ 13
unfolding last_loads
length_last ls h = simp length-drop (omega arith)

pub last_few : (ls : List ℕ) → length ls ≤ 13 → last_loads ls ≡ ls
unfolding last_loads
last_few ls h = let e : length ls - 13 ≡ 0 = omega arith in rw e

-- 13 last loads shift by one
pub last_snoc : (ls : List ℕ) (l : ℕ) → 13 ≤ length ls → last_loads (ls ++ (l ∷ [])) ≡ drop 1 (last_loads ls) ++ (l ∷ [])
unfolding last_loads
last_snoc ls l h =
    let e : length (ls ++ (l ∷ [])) - 13 ≡ length ls - 13 + 1 = simp length-append (omega arith) in
    rw (e, drop-append-le (length ls - 13 + 1) ls (l ∷ []) (omega arith), drop-drop 1 (length ls - 13) ls)

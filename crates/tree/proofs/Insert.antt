-- An insert keeps the invariant: the new load's home is the bucket where its descent ends, or a new child of it. Assumes
-- nothing.
use Prim.Native.Nat.{ℕ, zero, suc, ◌≤◌, ◌<◌}
use mathlib.Core.Path.{◌≡◌, refl, sym, ◌∙◌, subst}
use mathlib.Core.Bool.{Bool, cond}
use mathlib.Core.Option.{Option, none, some}
use mathlib.Core.List.{List, [], ◌∷◌, ◌++◌, append-nil}
use native.Mathlib.Omega.{arith}
use lib.Dec.{leb, ltb, eqb}
use lib.ListN.{length, set, length-append, length-set, get_or-eq_default}
use borrow.Author.Tests.{ltb-true, eq-eqb, ne_eqb}
use Rattle.split.specs.Split.{midpoint}
use Rattle.split.proofs.Midpoint.{midpoint_within}
use Rattle.tree.specs.Rules.{Entry, Bucket, Kids, whole, split, root, at, next, descend, added, linked, child_of, with_child}
use Rattle.tree.specs.Rules.{allocate, put, last_loads, insert}
use Rattle.tree.proofs.Held.{Way, start, down, IsChild, Halves, Good, Housed, home, Inv}
use Rattle.tree.proofs.Descent.{if, none_some, at_same, at_new, Ext, way_ext, parts_ext, End, descend_ends}
use Rattle.tree.proofs.Grown.{set_cases, grow_cases, both_map, both_snoc, home_snoc, link_grow, link_next, link_parts}
use Rattle.tree.proofs.Grown.{child_wide, child_top, cond_none, past_end}

module _ (ls hs : List ℕ) (t : List Bucket) (v : Inv ls hs t) (l : ℕ) (lo : 0 < l) (hi : l ≤ 150001) where
  abbrev new : Entry
  new = record { load = l; position = length ls }

  abbrev Next : List Bucket → Type 0
  Next t' = (h : ℕ) × Inv (ls ++ (l ∷ [])) (hs ++ (h ∷ [])) t'

  -- a tree that has grown by the one entry, in bucket h
  grown : (t' : List Bucket) (h : ℕ) → Ext t t' → 0 < length t → length t' ≤ suc (length t) → length t' ≤ 36
      → ((j : ℕ) → Good t' j (at t' j)) → h < length t' → Way t' l h
      → ((j : ℕ) → (at t' j).entries ≡ (at t j).entries ++ cond (eqb h j) (new ∷ []) [])
      → Inv (ls ++ (l ∷ [])) (hs ++ (h ∷ [])) t'
  grown t' h x pos one few good there way es =
      record {
        begun = simp length-append (omega (arith, v.begun));
        few = few;
        low = x.xs 0 pos ∙ v.low;
        high = x.ys 0 pos ∙ v.high;
        good = good;
        housed = both_snoc (Housed t') h l hs ls
            (both_map
            (λ h l u. record {
              there = omega (arith, x.longer, u.there);
              way = way_ext x u.way;
              low = u.low;
              high = u.high;
            })
            hs ls v.housed)
            (record { there = there; way = way; low = lo; high = hi });
        held = λ j. es j ∙ rw (v.held j) (sym (home_snoc (Housed t) j 0 (length ls) h l hs ls v.housed (omega arith)));
      }

  module _ (i : ℕ) (z : End t l i) where
    -- the entry goes into bucket i
    abbrev t₁ : List Bucket
    t₁ = set t i (added (at t i) new)

    add_ext : Ext t t₁
    add_ext =
        record {
          longer = rw (length-set t i (added (at t i) new)) (omega arith);
          xs = set_cases (λ j b. j < length t → b.x ≡ (at t j).x) t i (added (at t i) new) z.there (λ _. refl) (λ j _ _. refl);
          ys = set_cases (λ j b. j < length t → b.y ≡ (at t j).y) t i (added (at t i) new) z.there (λ _. refl) (λ j _ _. refl);
          grows = set_cases (λ j b. (l c : ℕ) → next (at t j).kids l ≡ some c → next b.kids l ≡ some c) t i
              (added (at t i) new) z.there (λ l c e. e) (λ j _ l c e. e);
        }

    add_good : length (at t i).entries < 13 → (j : ℕ) → Good t₁ j (at t₁ j)
    add_good r =
        set_cases (Good t₁) t i (added (at t i) new) z.there
        (record {
          wide = (v.good i).wide;
          top = (v.good i).top;
          room = simp length-append (omega arith);
          parts = parts_ext add_ext i _ _ (at t i).kids (v.good i).parts;
        })
        (λ j _. record {
          wide = (v.good j).wide;
          top = (v.good j).top;
          room = (v.good j).room;
          parts = parts_ext add_ext j _ _ (at t j).kids (v.good j).parts;
        })

    add_inv : length (at t i).entries < 13 → Inv (ls ++ (l ∷ [])) (hs ++ (i ∷ [])) t₁
    add_inv r =
        let same : length t₁ ≡ length t = length-set t i (added (at t i) new) in
        let there : i < length t = z.there in
        let few : length t ≤ 36 = v.few in
        grown t₁ i add_ext (omega arith) (omega arith) (omega arith) (add_good r) (omega arith) (way_ext add_ext z.way)
        (set_cases (λ j b. b.entries ≡ (at t j).entries ++ cond (eqb i j) (new ∷ []) []) t i (added (at t i) new) z.there
        (rw (eq-eqb i i refl)) (λ j p. rw (ne_eqb i j (λ e. p (sym e))) (sym (append-nil (at t j).entries))))

    -- the entry goes into a new child of bucket i, on the side q of m
    module _ (m : ℕ) (a c : Option ℕ) (q : Bool) (side : leb l m ≡ q) (halves : Halves t i (at t i).x (at t i).y m a c)
        (grows : (l c' : ℕ) → next (at t i).kids l ≡ some c' → next (split m a c) l ≡ some c') (stop : cond q a c ≡ none)
        (few : length t < 36) where
      abbrev t' : List Bucket
      t' = with_child t i q m a c new

      abbrev b' : Bucket
      b' = linked (at t i) q m a c (length t)

      abbrev n' : Bucket
      n' = child_of (at t i) q m new

      long : length t' ≡ suc (length t)
      long = simp (length-append, length-set) (omega arith)

      split_ext : Ext t t'
      split_ext =
          record {
            longer = rw long (omega arith);
            xs = grow_cases (λ j b. j < length t → b.x ≡ (at t j).x) t i b' z.there n'
                (λ _. refl) (λ r. absurd (omega arith)) (λ j _ _ _. refl);
            ys = grow_cases (λ j b. j < length t → b.y ≡ (at t j).y) t i b' z.there n'
                (λ _. refl) (λ r. absurd (omega arith)) (λ j _ _ _. refl);
            grows = grow_cases (λ j b. (l c : ℕ) → next (at t j).kids l ≡ some c → next b.kids l ≡ some c) t i b'
                z.there n'
                (λ l d e. link_grow m a c (length t) q l d stop (grows l d e)) (λ l d e. past_end t l d e) (λ j _ _ l c e. e);
          }

      split_halves : Halves t' i (at t i).x (at t i).y m a c
      split_halves = parts_ext split_ext i (at t i).x (at t i).y (split m a c) halves

      is_child : IsChild t' i (cond q (at t i).x m) (cond q m (at t i).y) (length t)
      is_child =
          record {
            above = z.there;
            there = rw long (omega arith);
            from = rw (at_new t i b' n' z.there);
            to = rw (at_new t i b' n' z.there);
          }

      split_good : (j : ℕ) → Good t' j (at t' j)
      split_good =
          grow_cases (Good t') t i b' z.there n'
          (record {
            wide = (v.good i).wide;
            top = (v.good i).top;
            room = (v.good i).room;
            parts = link_parts m a c (length t) t' i _ _ q split_halves is_child;
          })
          (record {
            wide = child_wide m (at t i).x (at t i).y l q side halves.over z.high;
            top = child_top m (at t i).y q halves.under (v.good i).top;
            room = omega arith;
            parts = tt;
          })
          (λ j _ _. record {
            wide = (v.good j).wide;
            top = (v.good j).top;
            room = (v.good j).room;
            parts = parts_ext split_ext j _ _ (at t j).kids (v.good j).parts;
          })

      split_way : Way t' l (length t)
      split_way =
          down {c = length t} (way_ext split_ext z.way)
          (rw (at_same t i b' n' z.there) (link_next m a c (length t) q l side))

      split_inv : Inv (ls ++ (l ∷ [])) (hs ++ (length t ∷ [])) t'
      split_inv =
          let there : i < length t = z.there in
          let n : length t' ≡ suc (length t) = long in
          grown t' (length t) split_ext (omega arith) (omega arith) (omega arith) split_good (omega arith) split_way
          (grow_cases (λ j b. b.entries ≡ (at t j).entries ++ cond (eqb (length t) j) (new ∷ []) []) t i b' z.there n'
          (rw (ne_eqb (length t) i (omega (arith, z.there))) (sym (append-nil (at t i).entries)))
          (rw (eq-eqb (length t) (length t) refl, get_or-eq_default t (root []) {n = length t} (omega arith)))
          (λ j _ p. rw (ne_eqb (length t) j (λ e. p (sym e))) (sym (append-nil (at t j).entries))))

    allocate_inv : (m : ℕ) (a c : Option ℕ) → Halves t i (at t i).x (at t i).y m a c
        → ((l c' : ℕ) → next (at t i).kids l ≡ some c' → next (split m a c) l ≡ some c') → cond (leb l m) a c ≡ none
        → (t' : List Bucket) → allocate t i m a c new ≡ some t' → Next t'
    unfolding allocate
    allocate_inv m a c hv gr st t' e =
        if (ltb (length t) 36)
        (λ f. let e₁ : some (with_child t i (leb l m) m a c new) ≡ some t' = rw f at e in
        let e₂ : with_child t i (leb l m) m a c new ≡ t' = cc in
        subst Next e₂ (length t, split_inv m a c (leb l m) refl hv gr st (omega (arith, ltb-true))))
        (λ f. none_some (rw f at e))

    put_inv : (m : ℕ) → (at t i).x < m → m ≤ (at t i).y → (k : Kids) → (at t i).kids ≡ k
        → (t' : List Bucket) → put t i m new k ≡ some t' → Next t'
    unfolding put
    put_inv m p q whole d t' e =
        if (ltb (length (at t i).entries) 13)
        (λ f. let e₁ : some t₁ ≡ some t' = rw f at e in
        let e₂ : t₁ ≡ t' = cc in
        subst Next e₂ (i, add_inv (omega (arith, ltb-true))))
        (λ f. allocate_inv m none none (record { over = p; under = q; left = tt; right = tt })
        (λ l c g. none_some (rw d at g)) (cond_none (leb l m)) t' (rw f at e))
    put_inv m p q (split m' a c) d t' e =
        allocate_inv m' a c (rw d at (v.good i).parts) (λ l c g. rw d at g) (rw d at z.stop) t' e

-- the root's tree
pub empty_inv : Inv [] [] []
empty_inv =
    record {
      begun = omega arith;
      few = omega arith;
      low = refl;
      high = refl;
      good = λ i. record { wide = omega arith; top = omega arith; room = omega arith; parts = tt };
      housed = tt;
      held = λ i. refl;
    }

abbrev root_tree : ℕ → List Bucket
root_tree l = root (record { load = l; position = 0 } ∷ []) ∷ []

root_inv : (l : ℕ) → 0 < l → l ≤ 150001 → Inv (l ∷ []) (0 ∷ []) (root_tree l)
root_inv l lo hi =
    record {
      begun = omega arith;
      few = omega arith;
      low = refl;
      high = refl;
      good = good;
      housed = (record { there = omega arith; way = start; low = lo; high = hi }, tt);
      held = held;
    }
  where
    good : (i : ℕ) → Good (root_tree l) i (at (root_tree l) i)
    good zero = record { wide = omega arith; top = omega arith; room = omega arith; parts = tt }
    good (suc i) = record { wide = omega arith; top = omega arith; room = omega arith; parts = tt }

    held : (i : ℕ) → (at (root_tree l) i).entries ≡ home i 0 (0 ∷ []) (l ∷ [])
    held zero = refl
    held (suc i) = rw (ne_eqb 0 (suc i) (omega arith))

-- where a load goes in a tree that has buckets
pub home_bucket : (ls hs : List ℕ) (t : List Bucket) → Inv ls hs t → 0 < length t → (l : ℕ) → 0 < l → l ≤ 150001
    → End t l (descend (length t) t l 0)
home_bucket ls hs t v pos l lo hi =
    descend_ends t v.good l (length t) 0 (omega arith) pos start (omega (arith, v.low)) (omega (arith, v.high))

pub no_loads_lem : (ls hs : List ℕ) → Inv ls hs [] → (ls ≡ []) × (hs ≡ [])
no_loads_lem [] [] v = (refl, refl)
no_loads_lem [] (h ∷ hs) v = absurd v.housed
no_loads_lem (l ∷ ls) [] v = absurd v.housed
no_loads_lem (l ∷ ls) (h ∷ hs) v = absurd (let h : h < 0 = v.housed.0.there in omega arith)

pub insert_inv : (ls hs : List ℕ) (t : List Bucket) → Inv ls hs t → (l : ℕ) → 0 < l → l ≤ 150001
    → (t' : List Bucket) → insert ls t l ≡ some t' → (h : ℕ) × Inv (ls ++ (l ∷ [])) (hs ++ (h ∷ [])) t'
unfolding insert
insert_inv ls hs [] v l lo hi t' e =
    let n = no_loads_lem ls hs v in
    let q : root (record { load = l; position = length ls } ∷ []) ∷ [] ≡ t' = cc in
    (0, rw (← q, n.0, n.1) (root_inv l lo hi))
insert_inv ls hs (b ∷ t) v l lo hi t' e =
    let i : ℕ = descend (length (b ∷ t)) (b ∷ t) l 0 in
    let z : End (b ∷ t) l i = home_bucket ls hs (b ∷ t) v (omega arith) l lo hi in
    let w = midpoint_within (at (b ∷ t) i).x (at (b ∷ t) i).y (last_loads ls) (v.good i).wide in
    put_inv ls hs (b ∷ t) v l lo hi i z (midpoint (at (b ∷ t) i).x (at (b ∷ t) i).y (last_loads ls)) w.0 w.1
    (at (b ∷ t) i).kids refl t' e

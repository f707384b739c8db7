-- What a sweep hands back, as places: for any bytes every position found is a lift's, so the set holds exactly what the rules'
-- sweep finds; for a built tree these are the positions whose loads are in the range. Assumes nothing.
use Prim.Native.Nat.{ℕ, ◌≤◌, ◌<◌}
use mathlib.Core.Path.{◌≡◌, refl, ap, ◌∙◌}
use mathlib.Core.Bool.{Bool, true, false, cond, ◌&&◌, ◌||◌}
use mathlib.Core.Option.{Option, none, some}
use mathlib.Core.List.{List, [], ◌∷◌, ◌++◌}
use native.Mathlib.Omega.{arith}
use lib.Dec.{ltb, eqb}
use lib.ListN.{length, get_or}
use borrow.Author.Tests.{ltb-true, eqb-true}
use Rattle.codec.proofs.Truth.{and_parts, and_false}
use Rattle.bitset.specs.Set.{picked, elem}
use Rattle.bitset.specs.Inner.Words.{members, Below}
use Rattle.bitset.proofs.Set.{members_inserted_all}
use Rattle.bitset.proofs.Picked.{picked_same}
use Rattle.tree.specs.Rules.{Entry, Bucket, tree_of}
use Rattle.tree.specs.Inner.Loads.{Loads}
use Rattle.tree.specs.Bytes.{tree_bytes}
use Rattle.tree.specs.Reading.{node_good, positions_good}
use Rattle.tree.specs.Search.{within, hits}
use Rattle.tree.specs.Inner.Find.{find}
use Rattle.tree.specs.Sweep.{records_good, and_then, node_at, visited_on, visit_good, gathered, sweep_on}
use Rattle.tree.proofs.Descent.{if, none_some}
use Rattle.tree.proofs.Looked.{sound}
use Rattle.tree.proofs.Found.{find_elem}
use Rattle.tree.proofs.Swept.{sweep_built}
use Rattle.sweep.specs.declared.Range.{Range}
use Rattle.sweep.specs.declared.Records.{Records}
use Rattle.sweep.specs.declared.Sweep.{Sweep}
use Rattle.sweep.specs.Inner.Swept.{passing, timely_at, swept_of}
use Rattle.sweep.specs.Inner.Turns.{codes_of}

-- ---- positions below a bound

below_append : (n : ℕ) (ps qs : List ℕ) → Below n ps → Below n qs → Below n (ps ++ qs)
below_append n [] qs h k = k
below_append n (p ∷ ps) qs h k = (h.0, below_append n ps qs h.1 k)

pub below_more : (m n : ℕ) (ps : List ℕ) → m ≤ n → Below m ps → Below n ps
below_more m n [] l h = tt
below_more m n (p ∷ ps) l h = (omega (arith, h.0), below_more m n ps l h.1)

hits_below : (k1 k2 count : ℕ) (es : List Entry) → positions_good count es ≡ true → Below count (hits k1 k2 es)
unfolding hits positions_good
hits_below k1 k2 count [] g = tt
hits_below k1 k2 count (e ∷ es) g =
    let t = and_parts (ltb e.position count) (positions_good count es) g in
    go (within k1 k2 e.load) (ltb-true e.position count t.0) (hits_below k1 k2 count es t.1)
  where
    go : (q : Bool) → e.position < count → Below count (hits k1 k2 es)
        → Below count (cond q (e.position ∷ hits k1 k2 es) (hits k1 k2 es))
    go true l h = (l, h)
    go false l h = h

then_below : (n : ℕ) (hs : List ℕ) (o : Option (List ℕ)) (ps : List ℕ) → and_then hs o ≡ some ps → Below n hs
    → ((qs : List ℕ) → o ≡ some qs → Below n qs) → Below n ps
then_below n hs none ps e h k = none_some e
then_below n hs (some qs) ps e h k = let d : hs ++ qs ≡ ps = cc in rw (← d) (below_append n hs qs h (k qs refl))

module _ (area : List ℕ) (buckets count : ℕ) (codes : ℕ → ℕ) (k1 k2 : ℕ) where
  visited_below : (b : ℕ) → visit_good area buckets count codes k1 k2 b ≡ true → Below count (hits k1 k2 (node_at area b).entries)
  visited_below b g =
      let n = node_at area b in
      hits_below k1 k2 count n.entries
      (sound n b buckets count (and_parts (node_good n b buckets count) (records_good codes k1 k2 n.entries) g).0).positions

  gathered_below : (bs ps : List ℕ) → gathered area buckets count codes k1 k2 bs ≡ some ps → Below count ps
  unfolding gathered
  gathered_below [] ps e = let d : [] ≡ ps = cc in rw (← d) tt
  gathered_below (b ∷ bs) ps e =
      if (visit_good area buckets count codes k1 k2 b)
      (λ g. then_below count _ _ ps (rw g at e) (visited_below b g) (λ qs. gathered_below bs qs))
      (λ g. none_some (rw g at e))

  -- for any bytes: what is found are positions of lifts
  pub sweep_below : (ps : List ℕ) → sweep_on area buckets count codes k1 k2 ≡ some ps → Below count ps
  unfolding sweep_on
  sweep_below ps e = gathered_below (visited_on area buckets k1 k2) ps e

-- ---- the set that is handed back

pub below_passing : (n : ℕ) (f : ℕ → Bool) (ps : List ℕ) → Below n ps → Below n (passing f ps)
below_passing n f [] h = tt
below_passing n f (p ∷ ps) h = go (f p) (below_passing n f ps h.1)
  where
    go : (t : Bool) → Below n (passing f ps) → Below n (cond t (p ∷ passing f ps) (passing f ps))
    go true b = (h.0, b)
    go false b = b

pub elem_passing : (f : ℕ → Bool) (q : ℕ) (ps : List ℕ) → elem q (passing f ps) ≡ (elem q ps && f q)
unfolding elem
elem_passing f q [] = refl
elem_passing f q (p ∷ ps) = go (f p) refl (eqb q p) refl (elem_passing f q ps)
  where
    go : (t : Bool) → f p ≡ t → (u : Bool) → eqb q p ≡ u → elem q (passing f ps) ≡ (elem q ps && f q)
        → elem q (cond t (p ∷ passing f ps) (passing f ps)) ≡ ((u || elem q ps) && f q)
    go true e true d ih = let z : f q ≡ true = ap f (eqb-true q p d) ∙ e in rw (d, z)
    go true e false d ih = rw d ih
    go false e true d ih =
        let z : f q ≡ false = ap f (eqb-true q p d) ∙ e in
        rw z (rw z at ih ∙ and_false (elem q ps))
    go false e false d ih = ih

pub record Found (s : Sweep) (f : ℕ → Bool) : Type 0 where
  pub good : s.good ≡ true
  pub places : members s.set.words ≡ picked f 0 320

module _ (tree lifts tail : List ℕ) (g : Records) (r : Range) where
  abbrev swept : Option (List ℕ)
  swept = sweep_on tree g.buckets g.count (codes_of lifts tail g) r.k1 r.k2

  pub swept_damaged : swept ≡ none → (swept_of tree lifts tail g r).good ≡ false
  unfolding swept_of
  swept_damaged e = rw e

  pub swept_found : g.count ≤ 320 → (ps : List ℕ) → swept ≡ some ps
      → Found (swept_of tree lifts tail g r) (λ p. elem p ps && timely_at lifts tail g r p)
  unfolding swept_of
  swept_found few ps e =
      let f : ℕ → Bool = timely_at lifts tail g r in
      let h = sweep_below tree g.buckets g.count (codes_of lifts tail g) r.k1 r.k2 ps e in
      let b = below_passing 320 f ps (below_more g.count 320 ps few h) in
      rw e (record {
        good = refl;
        places = members_inserted_all (passing f ps) b ∙ picked_same _ _ 0 320 (λ p u v. elem_passing f p ps);
      })

  -- the tree of at most 320 loads, whose records have those loads: the places of the loads and times in the range
  pub swept_built : (ls : List ℕ) → Loads ls → length ls ≤ 320 → (t : List Bucket) → tree_of ls ≡ some t → tree ≡ tree_bytes t
      → g.buckets ≡ length t → g.count ≡ length ls → ((p : ℕ) → p < length ls → codes_of lifts tail g p ≡ get_or ls p 0)
      → Found (swept_of tree lifts tail g r)
      (λ p. (ltb p (length ls) && within r.k1 r.k2 (get_or ls p 0)) && timely_at lifts tail g r p)
  swept_built ls ok few t e et eb ec same =
      let b = sweep_built ls ok few t e (codes_of lifts tail g) same r.k1 r.k2 in
      let s : swept ≡ some (find r.k1 r.k2 t) = rw (et, eb, ec) b in
      let f = swept_found (omega (arith, ec)) (find r.k1 r.k2 t) s in
      record {
        good = f.good;
        places = f.places ∙ picked_same _ _ 0 320 (λ p a b.
            ap (λ (t : Bool). t && timely_at lifts tail g r p) (find_elem ls ok t e r.k1 r.k2 p));
      }

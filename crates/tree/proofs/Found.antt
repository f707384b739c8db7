-- What a search finds, as a set: position p is found exactly if load p is from k1 to k2. Assumes nothing.
use Prim.Native.Nat.{ℕ, ◌+◌}
use mathlib.Core.Path.{◌≡◌, refl, sym, ap, ◌∙◌}
use mathlib.Core.Bool.{Bool, true, false, cond, ◌&&◌}
use mathlib.Core.Option.{some}
use mathlib.Core.List.{List, [], ◌∷◌}
use native.Mathlib.Omega.{arith}
use lib.Dec.{ltb, eqb}
use lib.ListN.{length, get_or}
use borrow.Author.Tests.{eqb-true, eqb-false, lt-ltb, eq-eqb, ne_eqb}
use Rattle.bitset.specs.Set.{elem}
use Rattle.tree.specs.Rules.{Bucket, tree_of}
use Rattle.tree.specs.Inner.Loads.{Loads}
use Rattle.tree.specs.Search.{within}
use Rattle.tree.specs.Inner.Find.{find, times}
use Rattle.tree.proofs.Descent.{if}
use Rattle.tree.proofs.Search.{find_exact}

-- what stands in a list at all
pub elem_times : (p : ℕ) (qs : List ℕ) → elem p qs ≡ ltb 0 (times p qs)
unfolding elem times
elem_times p [] = refl
elem_times p (q ∷ qs) =
    if (eqb p q)
    (λ f. let e : eqb q p ≡ true = eq-eqb q p (sym (eqb-true p q f)) in
    rw (f, e) (sym (lt-ltb 0 (1 + times p qs) (omega arith))))
    (λ f. let e : eqb q p ≡ false = ne_eqb q p (λ d. eqb-false p q f (sym d)) in
    let z : 0 + times p qs ≡ times p qs = omega arith in
    rw (f, e, z) (elem_times p qs))

once : (b : Bool) → ltb 0 (cond b 1 0) ≡ b
once true = refl
once false = refl

pub find_elem : (ls : List ℕ) → Loads ls → (t : List Bucket) → tree_of ls ≡ some t → (k1 k2 p : ℕ)
    → elem p (find k1 k2 t) ≡ (ltb p (length ls) && within k1 k2 (get_or ls p 0))
find_elem ls ok t e k1 k2 p =
    elem_times p (find k1 k2 t) ∙ ap (ltb 0) (find_exact ls ok t e k1 k2 p)
    ∙ once (ltb p (length ls) && within k1 k2 (get_or ls p 0))

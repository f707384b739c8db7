-- Numbers that stand once, and numbers that rise: a part of a list has what the list has. Assumes nothing.
use mathlib.Core.Path.{◌≡◌, refl, sym, ap, subst, ◌∙◌}
use mathlib.Core.Bool.{true, false}
use mathlib.Core.List.{List, [], ◌∷◌}
use Prim.Native.Nat.{ℕ, suc, ◌≤◌, ◌<◌}
use native.Mathlib.Omega.{arith}
use lib.Dec.{eqb}
use borrow.Author.Tests.{eq-eqb, eqb-false, ne_eqb}
use Rattle.codec.proofs.Truth.{or_left, or_right}
use Rattle.bitset.specs.Set.{elem}
use Rattle.codec.specs.Lists.{Part, done, taken, passed}
use Rattle.supersets.specs.Places.{NoTwice, Rises}

-- ---- a number that does not stand in a list, or does

pub absent : (n m : ℕ) (ns : List ℕ) → eqb n m ≡ false → elem n ns ≡ false → elem n (m ∷ ns) ≡ false
unfolding elem
absent n m ns e f = rw (e, f)

pub absent_head : (n m : ℕ) (ns : List ℕ) → elem n (m ∷ ns) ≡ false → eqb n m ≡ false
unfolding elem
absent_head n m ns e = or_left (eqb n m) (elem n ns) e

pub absent_rest : (n m : ℕ) (ns : List ℕ) → elem n (m ∷ ns) ≡ false → elem n ns ≡ false
unfolding elem
absent_rest n m ns e = or_right (eqb n m) (elem n ns) e

pub absent_none : (n : ℕ) → elem n [] ≡ false
unfolding elem
absent_none n = refl

pub present : (n m : ℕ) (ns : List ℕ) → n ≡ m → elem n (m ∷ ns) ≡ true
unfolding elem
present n m ns e = rw (eq-eqb n m e)

pub other_way : (n m : ℕ) → eqb n m ≡ false → eqb m n ≡ false
other_way n m e = ne_eqb m n (λ d. eqb-false n m e (sym d))

-- ---- parts

pub part_absent : (n : ℕ) {ns ms : List ℕ} → Part ns ms → elem n ms ≡ false → elem n ns ≡ false
part_absent n done e = absent_none n
part_absent n (taken {x} {y} {xs} {ys} d p) e =
    absent n x xs (ap (eqb n) d ∙ absent_head n y ys e) (part_absent n p (absent_rest n y ys e))
part_absent n (passed {y} {xs} {ys} p) e = part_absent n p (absent_rest n y ys e)

pub part_once : {ns ms : List ℕ} → Part ns ms → NoTwice ms → NoTwice ns
part_once done h = tt
part_once (taken {x} {y} {xs} {ys} d p) h = (ap (λ (n : ℕ). elem n xs) d ∙ part_absent y p h.0, part_once p h.1)
part_once (passed p) h = part_once p h.1

rises_lower : (m n : ℕ) (ns : List ℕ) → m ≤ n → Rises n ns → Rises m ns
rises_lower m n [] l h = tt
rises_lower m n (k ∷ ks) l h = (omega (arith, h.0), h.1)

pub part_rises : (n : ℕ) {ns ms : List ℕ} → Part ns ms → Rises n ms → Rises n ns
part_rises n done h = tt
part_rises n (taken {x} {y} {xs} {ys} d p) h =
    (omega (arith, d, h.0), subst (λ (k : ℕ). Rises (suc k) xs) (sym d) (part_rises (suc y) p h.1))
part_rises n (passed {y} {xs} {ys} p) h = rises_lower n (suc y) xs (omega (arith, h.0)) (part_rises (suc y) p h.1)

-- ---- what rises stands once

rises_absent : (n m : ℕ) (ns : List ℕ) → n < m → Rises m ns → elem n ns ≡ false
rises_absent n m [] l h = absent_none n
rises_absent n m (k ∷ ks) l h =
    absent n k ks (ne_eqb n k (λ e. omega (arith, h.0))) (rises_absent n (suc k) ks (omega (arith, h.0)) h.1)

pub rises_once : (n : ℕ) (ns : List ℕ) → Rises n ns → NoTwice ns
rises_once n [] h = tt
rises_once n (m ∷ ms) h = (rises_absent m (suc m) ms (omega arith) h.1, rises_once (suc m) ms h.1)

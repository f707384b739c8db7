-- What is not live stays so: the oldest live time and the oldest retained serial only rise, and the segment that goes is below
-- both. Assumes nothing.
use mathlib.Core.Path.{◌≡◌, refl}
use mathlib.Core.Bool.{Bool, true, false, not, ◌&&◌}
use mathlib.Core.List.{List, [], ◌∷◌}
use Prim.Native.Nat.{ℕ, zero, suc, ◌+◌, ◌≤◌, ◌<◌}
use native.Mathlib.Nat.{le_refl}
use native.Mathlib.Omega.{arith}
use lib.Dec.{leb}
use lib.ListN.{get_or}
use borrow.Author.Tests.{lt-leb, leb-false}
use Rattle.form.specs.declared.Form.{Form}
use Rattle.form.specs.declared.Form.TheVariants.{Old, New}
use Rattle.form.specs.Forms.{step}
use Rattle.skiplist.specs.declared.Pointer.{Pointer}
use Rattle.skiplist.specs.Skip.{Live, pointing, none, is_none, age_of, is_live, no_heads}
use Rattle.store.specs.World.{live_time, least_by}
use Rattle.paper_log.specs.Log.{Lift}
use Rattle.refinement.specs.Inner.Image.{first_start}
use Rattle.refinement.proofs.Good as G
use Rattle.refinement.proofs.Good.{Times, Segments}

pub dead_below : (p : Pointer) (live : Live) → age_of live.form p < live.oldest → is_live p live ≡ false
dead_below p live l = go (not (is_none p))
  where
    go : (t : Bool) → (t && leb live.oldest (age_of live.form p)) ≡ false
    go true = lt-leb live.oldest (age_of live.form p) l
    go false = refl

pub dead_later : (p : Pointer) (v : Form) (a b : ℕ) → a ≤ b → is_live p (record { form = v; oldest = a }) ≡ false
    → is_live p (record { form = v; oldest = b }) ≡ false
dead_later p v a b l e = go (not (is_none p)) e
  where
    go : (t : Bool) → (t && leb a (age_of v p)) ≡ false → (t && leb b (age_of v p)) ≡ false
    go true e = lt-leb b (age_of v p) (omega (arith, leb-false a (age_of v p) e))
    go false e = refl

-- the oldest retained lift is not before next time
pub first_above : (closed : List (List Lift)) (ls : List Lift) {d n m k : ℕ} → Segments d n closed m → Times d m ls k
    → n ≤ first_start closed ls k
first_above [] [] G.none G.none = le_refl _
first_above [] (l ∷ ls) G.none (G.more a t) = a
first_above ((l ∷ ls) ∷ rest) current (G.more (G.more a u) r) t = a
first_above ([] ∷ rest) current s t = elim s [ ]

-- where it moves from a to b, and the oldest serial from n to m
pub least_up : (v : Form) {a b n m : ℕ} → a ≤ b → n ≤ m → least_by v (live_time v a) n ≤ least_by v (live_time v b) m
least_up Old p q = p
least_up New p q = q

-- the segment that goes, serial n with start t
pub age_below : (v : Form) (slot n t first : ℕ) → t + step v ≤ first
    → age_of v (pointing v slot n t) < least_by v (live_time v first) (n + 1)
age_below Old slot n t first l = omega arith
age_below New slot n t first l = omega arith

-- no pointer at all
pub none_dead : (k : ℕ) (live : Live) → is_live (get_or no_heads k none) live ≡ false
none_dead zero live = refl
none_dead (suc zero) live = refl
none_dead (suc (suc zero)) live = refl
none_dead (suc (suc (suc zero))) live = refl
none_dead (suc (suc (suc (suc k)))) live = refl

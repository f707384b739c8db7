-- The code's writes are the rules' writes, and stay in the tree's bytes. Assumes nothing.
use Prim.Native.Nat.{ℕ, ◌≤◌}
use mathlib.Core.Path.{◌≡◌, sym, subst}
use native.Mathlib.Omega.{arith}
use Rattle.tree.specs.Writes.{writes_of}
use Rattle.tree.proofs.Clears.{Within, Rising, writes_rise}
use Rattle.grow.specs.Inner.Meaning.{meaning, Fitting}
use Rattle.grow.specs.Inner.Written.{all_of, InTree}
use Rattle.grow.specs.declared.Side.TheVariants.{Left, Right}
use Rattle.grow.specs.declared.Plan.{Plan}
use Rattle.grow.specs.declared.Plan.TheVariants.{Damage, Full, Root, Entry, Child, Split}
use Rattle.grow.specs.declared.Writes.{Writes}

within : (n : ℕ) (p : Plan) → Fitting n p → Within 36 n (meaning p)
within n Damage f = tt
within n Full f = tt
within n Root f = tt
within n (Entry b i) f = f
within n (Child b Left x y) f = (f.0, f.1, omega arith, omega arith)
within n (Child b Right x y) f = (f.0, f.1, omega arith, omega arith)
within n (Split b m Left x y) f = (f.0, f.1, omega arith, omega arith)
within n (Split b m Right x y) f = (f.0, f.1, omega arith, omega arith)

-- the writes of a plan p that is the case q
module _ (p : Plan) (n l position : ℕ) (fits : Fitting n p) (few : n ≤ 36) where
  pub in_tree : (ws : Writes) → {q : Plan} → p ≡ q → all_of ws ≡ writes_of (meaning q) n l position
      → (all_of ws ≡ writes_of (meaning p) n l position) × InTree ws
  in_tree ws told is =
      let e : all_of ws ≡ writes_of (meaning p) n l position = rw told is in
      let r : Rising (all_of ws) = subst Rising (sym e) (writes_rise (meaning p) n l position few (within n p fits)) in
      (e, record { mid = omega arith; child = omega arith; range = omega arith; entry = omega arith })

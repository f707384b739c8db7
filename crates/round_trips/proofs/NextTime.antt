-- Next time of a history in the one form and in the other. Assumes nothing.
use mathlib.Core.Path.{◌≡◌, refl, sym, ap}
use mathlib.Core.Bool.{Bool, true, false, cond}
use Prim.Native.Nat.{ℕ, ◌+◌}
use native.Mathlib.Omega.{arith}
use lib.Dec.{eqb}
use lib.ListN.{length}
use borrow.Author.Tests.{eq-eqb, eqb-true}
use Rattle.codec.proofs.Truth.{and_both, and_parts}
use Rattle.form.specs.declared.Form.TheVariants.{Old, New}
use Rattle.form.specs.Forms.{step}
use Rattle.paper_log.specs.Log.{open_serial}
use Rattle.refinement.specs.Inner.Image.{History}
use Rattle.refinement.proofs.Good.{Good}
use Rattle.refinement.proofs.InBounds.{is_new, fresh}
use Rattle.round_trips.specs.InForm.{log_into, NextMoves}

module _ (h : History) (g : Good h) where
  abbrev current : ℕ
  current = open_serial h.log

  abbrev count : ℕ
  count = length h.log.current

  is_new_lem : current ≡ 1 → count ≡ 0 → is_new h ≡ true
  is_new_lem a b = and_both _ _ (eq-eqb current 1 a) (eq-eqb count 0 b)

  not_new : ((current ≡ 1) × (count ≡ 0) → ⊥) → is_new h ≡ false
  not_new f = go (is_new h) refl
    where
      go : (t : Bool) → is_new h ≡ t → t ≡ false
      go true q = absurd (f (eqb-true current 1 (and_parts _ _ q).0, eqb-true count 0 (and_parts (eqb current 1) _ q).1))
      go false q = refl

  pub next_there : h.log.form ≡ Old
      → NextMoves (open_serial h.log) (length h.log.current) h.log.next (log_into New h.log).next
  next_there e = record {
    fresh = λ a b. let z = fresh h g true (is_new_lem a b) in (z, omega (arith, z));
    moved = λ f. omega (arith, fresh h g false (not_new f), ap step e);
  }

  pub next_back : h.log.form ≡ New
      → NextMoves (open_serial h.log) (length h.log.current) (log_into Old h.log).next h.log.next
  next_back e = record {
    fresh = λ a b. (ap (λ (t : Bool). cond t 0 (h.log.next + 1)) (is_new_lem a b), fresh h g true (is_new_lem a b));
    moved = λ f. sym (ap (λ (t : Bool). cond t 0 (h.log.next + 1)) (not_new f));
  }

-- The heads of a history carried into the other form: at the open serial, and where each retained segment was closed. Assumes nothing.
use mathlib.Core.Path.{◌≡◌, refl, subst}
use mathlib.Core.List.{List, map}
use Prim.Native.Nat.{ℕ, zero, suc, ◌+◌, ◌≤◌, ◌<◌}
use native.Mathlib.Omega.{arith}
use lib.ListN.{length, get_or, length-map}
use Rattle.form.specs.declared.Form.{Form}
use Rattle.skiplist.specs.Skip.{none, no_heads}
use Rattle.paper_log.specs.Log.{Lift}
use Rattle.refinement.specs.Inner.Segments as S
use Rattle.refinement.specs.Inner.Image.{History, oldest_heads}
use Rattle.refinement.proofs.Good.{Good}
use Rattle.refinement.proofs.PageFrom.{heads_at}
use Rattle.refinement.proofs.PageLengths.{four_heads}
use Rattle.carry.specs.Carried.{other, pointer_into}
use Rattle.round_trips.proofs.Serials.{heads_carried}
use Rattle.round_trips.proofs.Headers.{none_carried}
use Rattle.round_trips.proofs.Histories.{into}

none_heads : (f : Form) (n k : ℕ) → k < 4 → pointer_into f n k (get_or no_heads k none) ≡ get_or no_heads k none
none_heads f n zero l = none_carried f n 0
none_heads f n (suc zero) l = none_carried f n 1
none_heads f n (suc (suc zero)) l = none_carried f n 2
none_heads f n (suc (suc (suc zero))) l = none_carried f n 3
none_heads f n (suc (suc (suc (suc k)))) l = absurd (omega arith)

module _ (f : Form) (h : History) (g : Good h) (e : h.log.form ≡ other f) where
  abbrev slots : ℕ
  slots = h.log.slots

  abbrev oldest : ℕ
  oldest = h.log.oldest

  some : 1 ≤ slots
  some = omega (arith, g.least)

  pub four_into : length (oldest_heads (into f h)) ≡ 4
  four_into = four_heads f slots 1 h.gone no_heads refl

  -- where the segments b are closed
  pub heads_into : (b : List (List Lift)) (k : ℕ) → k < 4
      → pointer_into f (h.log.oldest + length b) k (get_or (heads_at h.log.form h.log.slots h.log.oldest b (oldest_heads h)) k none)
      ≡ get_or (heads_at f h.log.slots h.log.oldest b (oldest_heads (into f h))) k none
  heads_into b k l =
      let first : 1 + length h.gone ≡ oldest = omega (arith, g.serial) in
      let n : length (map S.start_time b) ≡ length b = length-map b S.start_time in
      let to_oldest = subst (λ (m : ℕ). (k : ℕ) → k < 4
      → pointer_into f m k (get_or (S.heads_from (other f) slots 1 h.gone no_heads) k none) ≡ get_or (oldest_heads (into f h)) k none) first
      (heads_carried slots some g.most f 1 h.gone no_heads no_heads refl refl (omega arith) (none_heads f 1)) in
      let all = heads_carried slots some g.most f oldest (map S.start_time b) _ _ (four_heads (other f) slots 1 h.gone no_heads refl)
      four_into (omega (arith, g.serial)) to_oldest in
      rw e (subst (λ (m : ℕ). pointer_into f (oldest + m) k (get_or (S.heads_from (other f) slots oldest (map S.start_time b)
      (S.heads_from (other f) slots 1 h.gone no_heads)) k none)
      ≡ get_or (heads_at f slots oldest b (oldest_heads (into f h))) k none) n (all k l))

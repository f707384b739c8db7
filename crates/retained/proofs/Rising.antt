-- The turns of the two loops over the retained lift times, and that what they find is whether the times rise. Assumes nothing.
use mathlib.Core.Path.{◌≡◌, refl, sym, ap, ◌∙◌}
use mathlib.Core.Bool.{Bool, true, false, ◌&&◌}
use Rattle.std.proofs.Common.{Some}
use mathlib.Core.List.{List, [], ◌∷◌, ◌++◌}
use Prim.Native.Nat.{ℕ, suc, ◌+◌, ◌-◌, ◌*◌, ◌/◌, ◌≤◌, ◌<◌}
use native.Mathlib.Omega.{arith}
use lib.Dec.{ltb}
use Rattle.codec.specs.Number.{number_at}
use Rattle.flash.specs.Chip.{slot_of, pages_of}
use Rattle.bloom.specs.Pages.{each}
use Rattle.carry.specs.declared.Serials.{Serials}
use Rattle.retained.specs.declared.times.Rise.{Rise}
use Rattle.carry.specs.Carried.{header_of}
use Rattle.retained.specs.Retained.{segment_times, closed_times, times_from, rises_from, rises}
use Rattle.retained.specs.Inner.Loops.{rise_with, rise_over, not_yet, times_of}

-- ---- lists of times

pub rise_append : (r : Rise) (a b : List ℕ) → rise_over r (a ++ b) ≡ rise_over (rise_over r a) b
unfolding rise_over
rise_append r [] b = refl
rise_append r (t ∷ a) b = rise_append (rise_with r t) a b

from_here : (g : Bool) (t : ℕ) (ts : List ℕ) → (rise_over (record { rising = g; last = Some t }) ts).rising ≡ (g && rises_from t ts)
unfolding rise_over rise_with rises_from
from_here true t [] = refl
from_here false t [] = refl
from_here true t (u ∷ us) = from_here (ltb t u) u us
from_here false t (u ∷ us) = from_here false u us

pub rising_is : (ts : List ℕ) → (rise_over not_yet ts).rising ≡ rises ts
unfolding rise_over rise_with rises
rising_is [] = refl
rising_is (t ∷ ts) = from_here true t ts

-- ---- one segment, from place p on

module _ (f : ℕ → ℕ) (n p : ℕ) where
  place : p < n → each f p (n - p) ≡ f p ∷ each f (p + 1) (n - (p + 1))
  unfolding each
  place l =
      let e : n - p ≡ suc (n - (p + 1)) = omega arith in
      let k : suc p ≡ p + 1 = omega arith in
      rw e (ap (λ (m : ℕ). f p ∷ each f m (n - (p + 1))) k)

  pub lift_more : (q r : Rise) (t : ℕ) → p < n → t ≡ f p → r ≡ rise_with q t
      → rise_over r (each f (p + 1) (n - (p + 1))) ≡ rise_over q (each f p (n - p))
  unfolding rise_over
  lift_more q r t l e d = rw (place l, d, e)

  pub lift_end : (q : Rise) → n ≤ p → q ≡ rise_over q (each f p (n - p))
  unfolding rise_over each
  lift_end q l = let e : n - p ≡ 0 = omega arith in rw e

-- ---- the closed segments, from serial n on

module _ (nand : List ℕ) (slots current n : ℕ) where
  serial : n < current → times_from nand slots (current - n) n ≡ closed_times nand slots n ++ times_from nand slots (current - (n + 1)) (n + 1)
  unfolding times_from
  serial l =
      let e : current - n ≡ suc (current - (n + 1)) = omega arith in
      let k : suc n ≡ n + 1 = omega arith in
      rw e (ap (λ (m : ℕ). closed_times nand slots n ++ times_from nand slots (current - (n + 1)) m) k)

  pub segment_more : (q r : Rise) → n < current → r ≡ rise_over q (closed_times nand slots n)
      → rise_over r (times_from nand slots (current - (n + 1)) (n + 1)) ≡ rise_over q (times_from nand slots (current - n) n)
  segment_more q r l d =
      rw (serial l, d) (sym (rise_append q (closed_times nand slots n) (times_from nand slots (current - (n + 1)) (n + 1))))

  pub segment_end : (q : Rise) → current ≤ n → q ≡ rise_over q (times_from nand slots (current - n) n)
  unfolding rise_over times_from
  segment_end q l = let e : current - n ≡ 0 = omega arith in rw e

-- ---- one closed segment as it is read

pub closed_read : (nand : List ℕ) (slots n slot count : ℕ) (h lifts : List ℕ) (q r : Rise) → h ≡ header_of nand slots n
    → count ≡ number_at h 4 2 → slot ≡ slot_of n slots → lifts ≡ pages_of nand slot 0 20
    → r ≡ rise_over q (segment_times lifts lifts 320 count) → r ≡ rise_over q (closed_times nand slots n)
closed_read nand slots n slot count h lifts q r there read is l e = e ∙ rw (l, is, read, there)

-- ---- all of them

pub all_read : (nand : List ℕ) (s : Serials) (page : List ℕ) (count : ℕ) (q r : Rise) (slot : ℕ) (lifts : List ℕ)
    → q ≡ rise_over not_yet (times_from nand s.slots (s.current - s.oldest) s.oldest) → slot ≡ slot_of s.current s.slots
    → lifts ≡ pages_of nand slot 0 20 → r ≡ rise_over q (segment_times lifts page (count / 16 * 16) count)
    → r.rising ≡ rises (times_of nand s page count)
all_read nand s page count q r slot lifts a b l e =
    let area = pages_of nand (slot_of s.current s.slots) 0 20 in
    let closed = times_from nand s.slots (s.current - s.oldest) s.oldest in
    let d : r ≡ rise_over not_yet (times_of nand s page count) =
    e ∙ rw (l, b, a) (sym (rise_append not_yet closed (segment_times area page (count / 16 * 16) count))) in
    ap (λ (x : Rise). x.rising) d ∙ rising_is (times_of nand s page count)

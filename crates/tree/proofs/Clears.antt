-- For any bytes: a plan stays within the places of the buckets, its writes are apart from one another, and writes over
-- bytes that are 255 only clear bits. Assumes nothing.
use Prim.Native.Nat.{ℕ, zero, suc, ◌+◌, ◌≤◌, ◌<◌}
use mathlib.Core.Path.{◌≡◌, refl, ap, ◌∙◌}
use mathlib.Core.Bool.{Bool, true, false, cond, ◌&&◌}
use mathlib.Core.Option.{Option, none, some}
use mathlib.Core.List.{List}
use native.Mathlib.Omega.{arith}
use lib.Dec.{leb, ltb, eqb}
use lib.ListN.{length}
use borrow.Author.Tests.{ltb-true}
use Rattle.codec.specs.Area.{all_ones}
use Rattle.codec.specs.Number.{bytes}
use Rattle.codec.proofs.Areas.{length_splice, part_after}
use Rattle.codec.proofs.Numbers.{length_bytes}
use Rattle.codec.proofs.Truth.{and_parts}
use Rattle.split.specs.Split.{midpoint}
use Rattle.flash.specs.Clears.{OnlyClears}
use Rattle.flash.proofs.Clearing.{clears_trans, clears_number}
use Rattle.tree.specs.Rules.{Kids, whole, split, next}
use Rattle.tree.specs.Reading.{bucket_at, Node, node_in, kids_of, child_good, kids_good, positions_good, node_good}
use Rattle.tree.specs.Plan.{Plan, damaged, no_room, new_root, into_bucket, new_child, split_bucket}
use Rattle.tree.specs.Plan.{plan_here, plan_from, or_no_room, plan_on}
use Rattle.tree.specs.Writes.{Write, Writes, writes_of, is_clear, all_clear, written, all_written}
use Rattle.tree.proofs.Descent.{if, none_some}
use Rattle.tree.proofs.Starts.{bucket_start_lem}

-- ---- a plan names buckets and places that are there; a new bucket's number n is below k

abbrev pub Within : ℕ → ℕ → Plan → Type 0
Within k n damaged = Unit {0}
Within k n no_room = Unit {0}
Within k n new_root = Unit {0}
Within k n (into_bucket b i) = (b < n) × (i < 13)
Within k n (new_child b side x y) = (b < n) × (n < k) × (12 ≤ side) × (side ≤ 13)
Within k n (split_bucket b m side x y) = (b < n) × (n < k) × (12 ≤ side) × (side ≤ 13)

side_within : (q : Bool) → (12 ≤ cond q 12 13) × (cond q 12 13 ≤ 13)
side_within true = omega arith
side_within false = omega arith

here_within : (n : Node) (buckets b : ℕ) (loads : List ℕ) (l : ℕ) (k : Kids) → b < buckets
    → Within (suc buckets) buckets (plan_here n b loads l k)
here_within n buckets b loads l whole h =
    let s = side_within (leb l (midpoint n.x n.y loads)) in
    if (ltb (length n.entries) 13)
    (λ f. rw f (h, ltb-true (length n.entries) 13 f))
    (λ f. rw f (h, omega arith, s.0, s.1))
here_within n buckets b loads l (split m a c) h = let s = side_within (leb l m) in (h, omega arith, s.0, s.1)

child_below : (b buckets : ℕ) (o : Option ℕ) (c : ℕ) → child_good b buckets o ≡ true → o ≡ some c → c < buckets
child_below b buckets none c g e = none_some e
child_below b buckets (some d) c g e =
    let q : d ≡ c = cc in
    omega (arith, ltb-true d buckets (and_parts (ltb b d) (ltb d buckets) g).1)

pub next_below : (b buckets x y : ℕ) (k : Kids) (l c : ℕ) → kids_good b buckets x y k ≡ true → next k l ≡ some c → c < buckets
next_below b buckets x y whole l c g e = none_some e
next_below b buckets x y (split m left right) l c g e =
    let s = and_parts (child_good b buckets left) (child_good b buckets right)
    (and_parts (ltb x m && leb m y) (child_good b buckets left && child_good b buckets right) g).1 in
    if (leb l m)
    (λ f. child_below b buckets left c s.0 (rw f at e))
    (λ f. child_below b buckets right c s.1 (rw f at e))

pub good_kids : (n : Node) (b buckets count : ℕ) → node_good n b buckets count ≡ true
    → kids_good b buckets n.x n.y (kids_of n) ≡ true
unfolding node_good
good_kids n b buckets count e =
    (and_parts (ltb n.x n.y && leb n.y 150001) (kids_good b buckets n.x n.y (kids_of n))
    (and_parts _ (positions_good count n.entries) e).0
    ).1

module _ (area : List ℕ) (buckets count : ℕ) (loads : List ℕ) (l : ℕ) where
  from_within : (steps b : ℕ) → b < buckets → Within (suc buckets) buckets (plan_from area buckets count loads l steps b)
  unfolding plan_from
  from_within zero b h = tt
  from_within (suc steps) b h =
      if (node_good (node_in (bucket_at area b)) b buckets count)
      (λ f. rw f (go f (next (kids_of (node_in (bucket_at area b))) l) refl (λ c. from_within steps c)))
      (λ f. rw f tt)
    where
      go : node_good (node_in (bucket_at area b)) b buckets count ≡ true
          → (o : Option ℕ) → next (kids_of (node_in (bucket_at area b))) l ≡ o
          → ((c : ℕ) → c < buckets → Within (suc buckets) buckets (plan_from area buckets count loads l steps c))
          → Within (suc buckets) buckets
          (elim o [
            | none ↦ plan_here (node_in (bucket_at area b)) b loads l (kids_of (node_in (bucket_at area b)))
            | some c ↦ plan_from area buckets count loads l steps c
          ])
      go g none e k = here_within (node_in (bucket_at area b)) buckets b loads l (kids_of (node_in (bucket_at area b))) h
      go g (some c) e k =
          let s = good_kids (node_in (bucket_at area b)) b buckets count g in
          k c (next_below b buckets _ _ (kids_of (node_in (bucket_at area b))) l c s e)

  fitted_within : (p : Plan) → Within (suc buckets) buckets p → Within 36 buckets (or_no_room buckets p)
  fitted_within damaged w = tt
  fitted_within no_room w = tt
  fitted_within new_root w = tt
  fitted_within (into_bucket b i) w = w
  fitted_within (new_child b side x y) w =
      if (ltb buckets 36) (λ f. rw f (w.0, ltb-true buckets 36 f, w.2, w.3)) (λ f. rw f tt)
  fitted_within (split_bucket b m side x y) w =
      if (ltb buckets 36) (λ f. rw f (w.0, ltb-true buckets 36 f, w.2, w.3)) (λ f. rw f tt)

  root_within : (steps : ℕ) → steps ≡ buckets → Within (suc buckets) buckets (plan_from area buckets count loads l steps 0)
  unfolding plan_from
  root_within zero e = tt
  root_within (suc steps) e = from_within (suc steps) 0 (omega arith)

  -- the plan on any bytes
  pub plan_within : Within 36 buckets (plan_on area buckets count loads l)
  unfolding plan_on
  plan_within =
      if (eqb count 0)
      (λ f. rw f tt)
      (λ f. if (eqb count 320) (λ g. rw (f, g) tt)
      (λ g. rw (f, g) (fitted_within (plan_from area buckets count loads l buckets 0) (root_within buckets refl))))

-- ---- the writes stand one after the other, in the places of the buckets

pub record Rising (ws : Writes) : Type 0 where
  pub mid : ws.mid.to + ws.mid.len ≤ ws.child.to
  pub child : ws.child.to + ws.child.len ≤ ws.range.to
  pub range : ws.range.to + ws.range.len ≤ ws.entry.to
  pub entry : ws.entry.to + ws.entry.len ≤ 4608

pub writes_rise : (plan : Plan) (n l p : ℕ) → n ≤ 36 → Within 36 n plan → Rising (writes_of plan n l p)
unfolding writes_of
writes_rise damaged n l p h w = omega arith
writes_rise no_room n l p h w = omega (arith, bucket_start_lem 0)
writes_rise new_root n l p h w = omega (arith, bucket_start_lem 0)
writes_rise (into_bucket b i) n l p h w = omega (arith, bucket_start_lem b)
writes_rise (new_child b side x y) n l p h w = omega (arith, bucket_start_lem b, bucket_start_lem n)
writes_rise (split_bucket b m side x y) n l p h w = omega (arith, bucket_start_lem b, bucket_start_lem n)

-- ---- only bits are cleared

length_written : (nor : List ℕ) (w : Write) → w.to + w.len ≤ length nor → length (written nor w) ≡ length nor
length_written nor w h =
    let l = length_bytes w.len w.value in
    length_splice nor w.to (bytes w.len w.value) (omega arith)

-- a write leaves what stands after it
clear_after : (nor : List ℕ) (v w : Write) → v.to + v.len ≤ w.to → w.to + w.len ≤ length nor → is_clear nor w ≡ true
    → is_clear (written nor v) w ≡ true
clear_after nor v w h k e =
    let l = length_bytes v.len v.value in
    ap all_ones (part_after nor v.to (bytes v.len v.value) (omega arith) w.to w.len (omega arith) k) ∙ e

cleared : (nor : List ℕ) (w : Write) → w.to + w.len ≤ length nor → is_clear nor w ≡ true → OnlyClears nor (written nor w)
cleared nor w h e = clears_number nor w.to w.len w.value h e

pub clears_all : (nor : List ℕ) (ws : Writes) → 4608 ≤ length nor → Rising ws → all_clear nor ws ≡ true
    → OnlyClears nor (all_written nor ws)
unfolding all_clear all_written
clears_all nor ws h r e =
    let e₄ = and_parts (is_clear nor ws.mid && is_clear nor ws.child && is_clear nor ws.range) (is_clear nor ws.entry) e in
    let e₃ = and_parts (is_clear nor ws.mid && is_clear nor ws.child) (is_clear nor ws.range) e₄.0 in
    let e₂ = and_parts (is_clear nor ws.mid) (is_clear nor ws.child) e₃.0 in
    let n₁ : List ℕ = written nor ws.mid in
    let n₂ : List ℕ = written n₁ ws.child in
    let n₃ : List ℕ = written n₂ ws.range in
    let l₁ : length n₁ ≡ length nor = length_written nor ws.mid (omega arith) in
    let l₂ : length n₂ ≡ length n₁ = length_written n₁ ws.child (omega arith) in
    let l₃ : length n₃ ≡ length n₂ = length_written n₂ ws.range (omega arith) in
    let c₂ : is_clear n₁ ws.child ≡ true = clear_after nor ws.mid ws.child r.mid (omega arith) e₂.1 in
    let c₃ : is_clear n₂ ws.range ≡ true =
    clear_after n₁ ws.child ws.range r.child (omega arith)
    (clear_after nor ws.mid ws.range (omega arith) (omega arith) e₃.1) in
    let c₄ : is_clear n₃ ws.entry ≡ true =
    clear_after n₂ ws.range ws.entry r.range (omega arith)
    (clear_after n₁ ws.child ws.entry (omega arith) (omega arith)
    (clear_after nor ws.mid ws.entry (omega arith) (omega arith) e₄.1)) in
    clears_trans (cleared nor ws.mid (omega arith) e₂.0)
    (clears_trans (cleared n₁ ws.child (omega arith) c₂)
    (clears_trans (cleared n₂ ws.range (omega arith) c₃) (cleared n₃ ws.entry (omega arith) c₄)))

-- an insertion on any bytes, by its plan: the bytes due for writing are 255, so only bits are cleared
pub insertion_clears : (nor area : List ℕ) (buckets count : ℕ) (loads : List ℕ) (l p : ℕ) → 4608 ≤ length nor → buckets ≤ 36
    → all_clear nor (writes_of (plan_on area buckets count loads l) buckets l p) ≡ true
    → OnlyClears nor (all_written nor (writes_of (plan_on area buckets count loads l) buckets l p))
insertion_clears nor area buckets count loads l p h few e =
    clears_all nor (writes_of (plan_on area buckets count loads l) buckets l p) h
    (writes_rise (plan_on area buckets count loads l) buckets l p few (plan_within area buckets count loads l)) e

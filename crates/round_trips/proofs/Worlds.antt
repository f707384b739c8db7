-- A conversion of a history's world is the world of the history in the other form. Assumes nothing.
use mathlib.Core.Path.{◌≡◌, sym, ap, ap₂, ◌∙◌}
use mathlib.Core.List.{List, map}
use Prim.Native.Nat.{ℕ, ◌+◌, ◌<◌}
use native.Mathlib.Omega.{arith}
use lib.ListN.{length}
use lib.Seq.{ext_get_or}
use Rattle.form.specs.declared.Form.{Form}
use Rattle.skiplist.specs.Skip.{none}
use Rattle.store.specs.World.{World, live_time}
use Rattle.paper_log.specs.Log.{open_serial}
use Rattle.refinement.specs.Inner.Segments as S
use Rattle.refinement.specs.Inner.Image.{History, oldest_heads, open_heads, nand_image, first_start, state_image, image}
use Rattle.refinement.proofs.Good.{Good}
use Rattle.refinement.proofs.PageLengths.{four_heads, four_oldest}
use Rattle.carry.specs.Carried.{other, pointers_into, state_into, world_into}
use Rattle.carry.proofs.Carrying.{length_from}
use Rattle.round_trips.proofs.Histories.{into}
use Rattle.round_trips.proofs.Heads.{heads_into}
use Rattle.round_trips.proofs.FirstTime.{first_is}
use Rattle.round_trips.proofs.Headers.{at_from}
use Rattle.round_trips.proofs.Nand.{nand_is}

module _ (f : Form) (h : History) (g : Good h) (e : h.log.form ≡ other f) (g' : Good (into f h)) where
  abbrev slots : ℕ
  slots = h.log.slots

  abbrev oldest : ℕ
  oldest = h.log.oldest

  heads_is : pointers_into f (open_serial h.log) 0 (open_heads h) ≡ open_heads (into f h)
  heads_is =
      ext_get_or none _ (open_heads (into f h)) (length_from f (open_serial h.log) 0 (open_heads h) ∙ four_old ∙ sym four_new) (λ k l.
      let m : k < 4 = omega (arith, length_from f (open_serial h.log) 0 (open_heads h), four_old) in
      let z : 0 + k ≡ k = omega arith in
      at_from f (open_serial h.log) 0 k (open_heads h) (omega (arith, four_old)) ∙ rw z (heads_into f h g e h.log.closed k m))
    where
      four_old : length (open_heads h) ≡ 4
      four_old = four_heads h.log.form slots oldest (map S.start_time h.log.closed) (oldest_heads h) (four_oldest h g)

      four_new : length (open_heads (into f h)) ≡ 4
      four_new = four_heads f slots oldest (map S.start_time h.log.closed) (oldest_heads (into f h)) (four_oldest (into f h) g')

  state_is : state_into f (state_image h) ≡ state_image (into f h)
  unfolding state_into state_image
  state_is = rw heads_is

  rest_is : ◌≡◌ {A = World} (record {
    form = f;
    nand = nand_image (into f h);
    nor = (image h).nor;
    state = state_into f (image h).state;
    live = live_time f (first_start h.log.closed h.log.current (into f h).log.next);
  }) (image (into f h))
  unfolding image
  rest_is = rw state_is

  pub world_carried : world_into f (image h) h.log.slots ≡ image (into f h)
  unfolding world_into
  world_carried =
      ap₂ (λ (n : List ℕ) (l : ℕ). record { form = f; nand = n; nor = (image h).nor; state = state_into f (image h).state; live = l })
      (nand_is f h g e g') (ap (live_time f) (first_is f h g))
      ∙ rest_is

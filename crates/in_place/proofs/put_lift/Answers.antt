-- `in_place::put_lift` meets its contract: the record and the bits where the buffers stand, a full one sent out, then the fields around.
use mathlib.Core.Path.{◌≡◌, ap, ap₂, ◌∙◌}
use Prim.Native.Nat.{ℕ, ◌<◌}
use lib.ListN.{length, get_or}
use mir.Syntax.{w32}
use mir.ValLaws.{to_z-of_z}
use Rattle.bounds.specs.Lifts.{pushed}
use Rattle.state_bytes.specs.StateBytes.{state_in}
use Rattle.state_bytes.specs.Inner.Fields.{span_of}
use Rattle.in_place.proofs.InPlace.{nand_made, nor_made, lift_made}
use native.Mathlib.Omega.{arith}
use borrow.Author.Rules.{rules}
use Rattle.store.specs.World.{state_given}
use Rattle.in_place.proofs.put_lift.Goals as goal

pub put_record-requires : goal.put_record-requires
put_record-requires c = omega (arith, c.requires.b_len)

pub flush_page-requires : goal.flush_page-requires
flush_page-requires c = (
  c.put_record.auto.s ∙ c.requires.b_len.0,
  c.requires.slot_width_in_bounds.0,
  omega (arith, c.get_u16-n.ensures, c.requires.b_len.1),
)

pub note_at-requires : goal.note_at-requires
note_at-requires c = (
  omega (arith, c.flush_page.auto.b, c.put_record.auto.s, c.requires.b_len.0),
  c.requires.b_len.2,
)

pub flush_section-requires : goal.flush_section-requires
flush_section-requires c = (
  c.note_at.auto.s ∙ c.flush_page.auto.b
      ∙ c.put_record.auto.s ∙ c.requires.b_len.0,
  c.requires.slot_width_in_bounds.1,
  omega (arith, c.get_u16-n.ensures, c.requires.b_len.1),
)

pub put_rest-requires : goal.put_rest-requires
put_rest-requires c =
    c.flush_section.auto.b ∙ c.note_at.auto.s ∙ c.flush_page.auto.b
    ∙ c.put_record.auto.s ∙ c.requires.b_len.0

pub returns : goal.returns
returns c =
    let a = c.args in
    let load = to_z-of_z w32 a.load c.ranges.load in
    let n = c.get_u16-n in
    let ln : length a.note ≡ 20 = search rules in
    let e1 = c.put_record.ensures in
    let e3 = c.note_at.ensures in
    let small : (i : ℕ) → get_or a.b.now i 0 < 256 = λ i. search rules in
    record {
      area = lift_made a.b.now _ _ _ _ a.time a.code a.load a.note a.buckets n.result c.requires.b_len.0 ln n.ensures
          e1 c.flush_page.ensures.area e3 c.flush_section.ensures.area small _ _ _ _
          (c.pushed-loads.ensures ∙ ap₂ (λ l z. pushed l n.result z) c.loads_at-old.ensures load)
          (c.counters_after-c.ensures a.load)
          (λ page section.
          c.span_after-s.ensures a.buckets page section
          ∙ ap (λ z. span_of (state_given (state_in a.b.now) a.time z a.time a.buckets page section)) load)
          c.put_rest.ensures;
      nand = nand_made a.b.now _ _ _ _ a.time a.code a.load a.note a.buckets n.result c.requires.b_len.0 ln n.ensures
          e1 c.flush_page.ensures.area e3 c.flush_section.ensures.area _ _ _ c.flush_page.ensures.nand;
      nor = nor_made a.b.now _ _ _ _ a.time a.code a.load a.note a.buckets n.result c.requires.b_len.0 ln n.ensures
          e1 c.flush_page.ensures.area e3 c.flush_section.ensures.area _ _ c.flush_section.ensures.nor;
    }

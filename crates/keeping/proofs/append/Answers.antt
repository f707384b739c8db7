-- `keeping::append` meets its contract: ground 3 of the counts among grounds 1 to 8, the counts after a forced drop, then what the plain append
-- does.
use mathlib.Core.Path.{◌≡◌, refl, sym, ap, subst, ◌∙◌}
use mathlib.Core.Bool.{Bool}
use lib.IntN.{ℤ}
use mir.Syntax.{w32}
use mir.ValLaws.{to_z-of_z}
use native.Mathlib.Omega.{arith}
use borrow.Author.Rules.{rules}
use Rattle.std.proofs.lemmas.Result.{err_from_is_err_and}
use Rattle.grounds.specs.Numbers.{number_in}
use Rattle.grounds.proofs.Numbers.{refused}
use Rattle.lift.specs.Limits.{load_ok, stored}
use Rattle.grow.specs.Inner.Meaning.{meaning}
use Rattle.counts.specs.Counts.{one_more}
use Rattle.store.specs.declared.fields.Fields.{Fields}
use Rattle.store.specs.World.{world}
use Rattle.store.specs.Inner.Fields.{fields_of, Sized}
use Rattle.store.specs.Inner.Pieces.{Suits, later_ground, carried_out}
use Rattle.store.proofs.Grounds.{sized}
use Rattle.store.proofs.Appended.{entry_of}
use Rattle.keeping.specs.Keeping.{with_ground}
use Rattle.keeping.specs.Inner.Shedding.{Whole}
use Rattle.keeping.proofs.Shedding.{shed_total}
use Rattle.keeping.proofs.Appends.{append_early, append_lost, append_refused, append_done, let_in, shed_of}
use Rattle.keeping.proofs.append.Goals as goal

pub returns-in_err-with_ground_3 : goal.returns-in_err-with_ground_3
returns-in_err-with_ground_3 c =
    let a = c.args in
    let load = to_z-of_z w32 a.load c.ranges.load in
    let judged = entry_of _ _ _ _ _ _ _ _ load c.entry_ground-plain.ensures in
    let number = c.in_err-with_ground_3.ensures ∙ ap (λ (t : Bool). with_ground 3 t (number_in c.entry_ground-plain.result)) c.are_broken.ensures in
    let p = err_from_is_err_and c.from_residual.result c.from_residual.ensures.1 in
    rw (p.1, p.2) (append_early a.nand.now a.nor.now a.s a.slots a.time a.load a.note a.counts _ judged _ number (refused _))

pub stored-code-requires : goal.stored-code-requires
stored-code-requires c =
    let a = c.args in
    let load = to_z-of_z w32 a.load c.ranges.load in
    let judged = entry_of _ _ _ _ _ _ _ _ load c.entry_ground-plain.ensures in
    let number = c.in_ok-with_ground_3.ensures ∙ ap (λ (t : Bool). with_ground 3 t (number_in c.entry_ground-plain.result)) c.are_broken.ensures in
    let t = let_in a.nand.now a.nor.now a.s a.slots a.time a.load a.counts _ judged number in
    ap load_ok load ∙ t.lifts.load_ok

pub plan-p-requires : goal.plan-p-requires
plan-p-requires c =
    let a = c.args in
    let load = to_z-of_z w32 a.load c.ranges.load in
    let judged = entry_of _ _ _ _ _ _ _ _ load c.entry_ground-plain.ensures in
    let number = c.in_ok-with_ground_3.ensures ∙ ap (λ (t : Bool). with_ground 3 t (number_in c.entry_ground-plain.result)) c.are_broken.ensures in
    let t = let_in a.nand.now a.nor.now a.s a.slots a.time a.load a.counts _ judged number in
    let z : Sized a.nand.now a.nor.now a.slots c.fields-f.result = subst (Sized a.nand.now a.nor.now a.slots) (sym c.fields-f.ensures)
    (sized a.nand.now a.nor.now a.s a.slots t.stands) in
    (z.nor_size, z.buckets_most_lem, z.most, z.loads_ok_lem)

pub shed_if_due-requires : goal.shed_if_due-requires
shed_if_due-requires c =
    let a = c.args in
    let load = to_z-of_z w32 a.load c.ranges.load in
    let judged = entry_of _ _ _ _ _ _ _ _ load c.entry_ground-plain.ensures in
    let number = c.in_ok-with_ground_3.ensures ∙ ap (λ (t : Bool). with_ground 3 t (number_in c.entry_ground-plain.result)) c.are_broken.ensures in
    let t = let_in a.nand.now a.nor.now a.s a.slots a.time a.load a.counts _ judged number in
    let st = t.stands in
    let l = t.lifts in
    rw c.fields-f.ensures (st.chips.nand_size, omega (arith, st.chips.least), st.serials.first, st.serials.rising, omega (arith, l.onward))

pub returns-in_default : goal.returns-in_default
returns-in_default c =
    let a = c.args in
    let load = to_z-of_z w32 a.load c.ranges.load in
    let judged = entry_of _ _ _ _ _ _ _ _ load c.entry_ground-plain.ensures in
    let number = c.in_ok-with_ground_3.ensures ∙ ap (λ (t : Bool). with_ground 3 t (number_in c.entry_ground-plain.result)) c.are_broken.ensures in
    let t = let_in a.nand.now a.nor.now a.s a.slots a.time a.load a.counts _ judged number in
    let whole : Whole a.s = record { heads_four = search rules; page_size = search rules; bloom_size = search rules } in
    let same : fields_of a.s ≡ c.fields-f.result = sym c.fields-f.ensures in
    let shed = shed_of a.nand.now a.nor.now a.s a.slots t.stands whole c.plan-p.result c.fields-f.result same c.plan-p.ensures.suits a.counts _
    (c.in_default.ensures (world a.nand.now a.nor.now a.s) same) in
    let code : c.stored-code.result ≡ stored a.load = c.stored-code.ensures ∙ ap stored load in
    let plan = c.plan-p.ensures.is a.s a.load same code in
    append_lost a.nand.now a.nor.now a.s a.slots a.time a.load a.note a.counts _ judged _ number refl _ plan _ refl _ shed refl

pub blocked-requires : goal.blocked-requires
blocked-requires c =
    let a = c.args in
    let load = to_z-of_z w32 a.load c.ranges.load in
    let judged = entry_of _ _ _ _ _ _ _ _ load c.entry_ground-plain.ensures in
    let number = c.in_ok-with_ground_3.ensures ∙ ap (λ (t : Bool). with_ground 3 t (number_in c.entry_ground-plain.result)) c.are_broken.ensures in
    let t = let_in a.nand.now a.nor.now a.s a.slots a.time a.load a.counts _ judged number in (
      subst (Sized a.nand.now a.nor.now a.slots) (sym c.fields-f.ensures) (sized a.nand.now a.nor.now a.s a.slots t.stands),
      c.plan-p.ensures.suits.fits,
    )

pub returns-in_err-blocked : goal.returns-in_err-blocked
returns-in_err-blocked c =
    let a = c.args in
    let load = to_z-of_z w32 a.load c.ranges.load in
    let judged = entry_of _ _ _ _ _ _ _ _ load c.entry_ground-plain.ensures in
    let number = c.in_ok-with_ground_3.ensures ∙ ap (λ (t : Bool). with_ground 3 t (number_in c.entry_ground-plain.result)) c.are_broken.ensures in
    let t = let_in a.nand.now a.nor.now a.s a.slots a.time a.load a.counts _ judged number in
    let whole : Whole a.s = record { heads_four = search rules; page_size = search rules; bloom_size = search rules } in
    let same : fields_of a.s ≡ c.fields-f.result = sym c.fields-f.ensures in
    let shed = shed_of a.nand.now a.nor.now a.s a.slots t.stands whole c.plan-p.result c.fields-f.result same c.plan-p.ensures.suits a.counts _
    (c.in-Some.ensures (world a.nand.now a.nor.now a.s) same) in
    let code : c.stored-code.result ≡ stored a.load = c.stored-code.ensures ∙ ap stored load in
    let plan = c.plan-p.ensures.is a.s a.load same code in
    let p = err_from_is_err_and c.from_residual-in_err-blocked.result c.from_residual-in_err-blocked.ensures.1 in
    rw (p.1, p.2) (append_refused a.nand.now a.nor.now a.s a.slots a.time a.load a.note a.counts _ judged _ number refl _ plan _ (c.in_err-blocked.ensures a.s a.load same code) _ shed _
    refl (refused _))

pub carried_out-state-requires : goal.carried_out-state-requires
carried_out-state-requires c =
    let a = c.args in
    let load = to_z-of_z w32 a.load c.ranges.load in
    let judged = entry_of _ _ _ _ _ _ _ _ load c.entry_ground-plain.ensures in
    let number = c.in_ok-with_ground_3.ensures ∙ ap (λ (t : Bool). with_ground 3 t (number_in c.entry_ground-plain.result)) c.are_broken.ensures in
    let t = let_in a.nand.now a.nor.now a.s a.slots a.time a.load a.counts _ judged number in
    let suits = subst (λ (f : Fields). Suits f.buckets f.count c.plan-p.result) c.fields-f.ensures c.plan-p.ensures.suits in
    record { slots_value = (t.entered.bounds, suits); load_value = ap load_ok load ∙ t.lifts.load_ok }

pub one_more-next-requires : goal.one_more-next-requires
one_more-next-requires c =
    let a = c.args in
    let load = to_z-of_z w32 a.load c.ranges.load in
    let judged = entry_of _ _ _ _ _ _ _ _ load c.entry_ground-plain.ensures in
    let number = c.in_ok-with_ground_3.ensures ∙ ap (λ (t : Bool). with_ground 3 t (number_in c.entry_ground-plain.result)) c.are_broken.ensures in
    let t = let_in a.nand.now a.nor.now a.s a.slots a.time a.load a.counts _ judged number in
    let whole : Whole a.s = record { heads_four = search rules; page_size = search rules; bloom_size = search rules } in
    let same : fields_of a.s ≡ c.fields-f.result = sym c.fields-f.ensures in
    let shed = shed_of a.nand.now a.nor.now a.s a.slots t.stands whole c.plan-p.result c.fields-f.result same c.plan-p.ensures.suits a.counts _
    (c.in-Some.ensures (world a.nand.now a.nor.now a.s) same) in
    let few = t.few in
    let u = shed_total _ a.slots a.counts c.in-Some.left (sym shed) in
    omega (arith, u, few)

pub returns : goal.returns
returns c =
    let a = c.args in
    let load = to_z-of_z w32 a.load c.ranges.load in
    let judged = entry_of _ _ _ _ _ _ _ _ load c.entry_ground-plain.ensures in
    let number = c.in_ok-with_ground_3.ensures ∙ ap (λ (t : Bool). with_ground 3 t (number_in c.entry_ground-plain.result)) c.are_broken.ensures in
    let t = let_in a.nand.now a.nor.now a.s a.slots a.time a.load a.counts _ judged number in
    let whole : Whole a.s = record { heads_four = search rules; page_size = search rules; bloom_size = search rules } in
    let same : fields_of a.s ≡ c.fields-f.result = sym c.fields-f.ensures in
    let shed = shed_of a.nand.now a.nor.now a.s a.slots t.stands whole c.plan-p.result c.fields-f.result same c.plan-p.ensures.suits a.counts _
    (c.in-Some.ensures (world a.nand.now a.nor.now a.s) same) in
    let code : c.stored-code.result ≡ stored a.load = c.stored-code.ensures ∙ ap stored load in
    let plan = c.plan-p.ensures.is a.s a.load same code in
    append_done a.nand.now a.nor.now a.s a.slots a.time a.load a.note a.counts _ judged _ number refl _ plan _ (c.in_ok-blocked.ensures a.s a.load same code) _ shed _
    refl refl _
    (c.carried_out-state.ensures ∙ ap (λ (z : ℤ). carried_out (world a.nand.now a.nor.now a.s) a.slots a.time z a.note (meaning c.plan-p.result)) load)
    _ (c.one_more-next.ensures ∙ ap (one_more _) code)

-- `first_grounds`: one ground after the other.
use mathlib.Core.Path.{◌≡◌, refl, ap, ◌∙◌}
use Rattle.std.proofs.lemmas.Result.{err_from_is_err_and}
use Rattle.grounds.proofs.Numbers.{refused}
use Prim.Native.Nat.{◌*◌, ◌≤◌}
use lib.ListN.{length}
use Rattle.carry.specs.Carried.{other}
use Rattle.retained.specs.Inner.Loops.{any_header}
use Rattle.retained.specs.Retained.{is_damaged}
use Rattle.conversion.specs.Inner.Pieces.{serials_of}
use Rattle.conversion.proofs.Judged.{by_lengths, within_ground, by_bounds, by_form, by_damage, by_none}
use native.Mathlib.Omega.{arith}
use Rattle.store.specs.Inner.Pieces.{bounds_ground}
use Rattle.conversion.proofs.first_grounds.Goals as goal

pub returns-in_err-lengths_ground : goal.returns-in_err-lengths_ground
returns-in_err-lengths_ground c =
    let a = c.args in
    let p = err_from_is_err_and c.from_residual.result c.from_residual.ensures.1 in
    rw (p.1, p.2) (by_lengths a.form a.s a.live a.nand.now a.nor a.slots a.to_nand a.to_nor _ c.in_err-lengths_ground.ensures (refused _))

pub returns-in_err-ground : goal.returns-in_err-ground
returns-in_err-ground c =
    let a = c.args in
    let p = err_from_is_err_and c.from_residual-in_err-ground.result c.from_residual-in_err-ground.ensures.1 in
    rw (p.1, p.2) (by_bounds a.form a.s a.live a.nand.now a.nor a.slots a.to_nand a.to_nor _ c.in_ok-lengths_ground.ensures refl _
    (c.in_err-ground.ensures ∙ ap (λ v. bounds_ground v a.s a.live (length a.nand.now) a.nor a.slots) c.other-from.ensures) (refused _))

pub any_of_form-requires : goal.any_of_form-requires
any_of_form-requires c =
    let judged : let a = c.args in
    0 ≡ bounds_ground (other a.form) a.s a.live (length a.nand.now) a.nor a.slots = let a = c.args in
    c.in_ok-ground.ensures ∙ ap (λ v. bounds_ground v a.s a.live (length a.nand.now) a.nor a.slots) c.other-from.ensures in
    let looks : let a = c.args in
    (length a.nand.now ≡ a.slots * 16384) × (1 ≤ a.slots) × (1 ≤ a.s.oldest) × (a.s.oldest ≤ a.s.current) = let a = c.args in
    within_ground a.form a.s a.live a.nand.now a.nor a.slots a.to_nand a.to_nor _ c.in_ok-lengths_ground.ensures refl _ judged refl in
    looks

pub returns-then-any_of_form : goal.returns-then-any_of_form
returns-then-any_of_form c =
    let judged : let a = c.args in
    0 ≡ bounds_ground (other a.form) a.s a.live (length a.nand.now) a.nor a.slots = let a = c.args in
    c.in_ok-ground.ensures ∙ ap (λ v. bounds_ground v a.s a.live (length a.nand.now) a.nor a.slots) c.other-from.ensures in
    let a = c.args in
    by_form a.form a.s a.live a.nand.now a.nor a.slots a.to_nand a.to_nor _ c.in_ok-lengths_ground.ensures refl _ judged refl _
    c.any_of_form.ensures c.if-any_of_form.true

pub any_damaged-requires : goal.any_damaged-requires
any_damaged-requires c =
    let judged : let a = c.args in
    0 ≡ bounds_ground (other a.form) a.s a.live (length a.nand.now) a.nor a.slots = let a = c.args in
    c.in_ok-ground.ensures ∙ ap (λ v. bounds_ground v a.s a.live (length a.nand.now) a.nor a.slots) c.other-from.ensures in
    let looks : let a = c.args in
    (length a.nand.now ≡ a.slots * 16384) × (1 ≤ a.slots) × (1 ≤ a.s.oldest) × (a.s.oldest ≤ a.s.current) = let a = c.args in
    within_ground a.form a.s a.live a.nand.now a.nor a.slots a.to_nand a.to_nor _ c.in_ok-lengths_ground.ensures refl _ judged refl in
    looks

pub returns-then-any_damaged : goal.returns-then-any_damaged
returns-then-any_damaged c =
    let judged : let a = c.args in
    0 ≡ bounds_ground (other a.form) a.s a.live (length a.nand.now) a.nor a.slots = let a = c.args in
    c.in_ok-ground.ensures ∙ ap (λ v. bounds_ground v a.s a.live (length a.nand.now) a.nor a.slots) c.other-from.ensures in
    let damage : let a = c.args in
    c.any_damaged.result ≡ any_header (is_damaged (other a.form) a.slots a.s.current) (serials_of a.s a.slots) a.nand.now = let a = c.args in
    c.any_damaged.ensures ∙ ap (λ v. any_header (is_damaged v a.slots a.s.current) (serials_of a.s a.slots) a.nand.now) c.other-from.ensures in
    let a = c.args in
    by_damage a.form a.s a.live a.nand.now a.nor a.slots a.to_nand a.to_nor _ c.in_ok-lengths_ground.ensures refl _ judged refl _ _
    c.any_of_form.ensures c.if-any_of_form.false damage c.if-any_damaged.true

pub returns : goal.returns
returns c =
    let judged : let a = c.args in
    0 ≡ bounds_ground (other a.form) a.s a.live (length a.nand.now) a.nor a.slots = let a = c.args in
    c.in_ok-ground.ensures ∙ ap (λ v. bounds_ground v a.s a.live (length a.nand.now) a.nor a.slots) c.other-from.ensures in
    let damage : let a = c.args in
    c.any_damaged.result ≡ any_header (is_damaged (other a.form) a.slots a.s.current) (serials_of a.s a.slots) a.nand.now = let a = c.args in
    c.any_damaged.ensures ∙ ap (λ v. any_header (is_damaged v a.slots a.s.current) (serials_of a.s a.slots) a.nand.now) c.other-from.ensures in
    let a = c.args in
    by_none a.form a.s a.live a.nand.now a.nor a.slots a.to_nand a.to_nor _ c.in_ok-lengths_ground.ensures refl _ judged refl _ _
    c.any_of_form.ensures c.if-any_of_form.false damage c.if-any_damaged.false

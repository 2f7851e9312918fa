use Rattle.std.proofs.Common.{◌∙◌, ap, sym, subst, rules, Some}
use Rattle.std.specs.Int.{w128}
use Rattle.std.proofs.lemmas.Int.{to_z-of_z}
use Rattle.jz_unrolling_values.specs.InlineNames.{names_in}
use Rattle.jz_unrolling_values.specs.Numbers.{numbers_in}
use Rattle.jz_unrolling_values.specs.Parts.{HasWhole, IsPart}
use Rattle.jz_unrolling_values.proofs.SettingLemmas.{whole_so, part_no_whole, other_no_whole, truth_no_number, none_no_number}
use Rattle.jz_unrolling_values.proofs.RefusalLemmas.{handed}
use Rattle.jz_unrolling_values.proofs.settings.new_number.Goals as goal

pub returns-in-Some-Int : goal.returns-in-Some-Int
returns-in-Some-Int c =
    let names = names_in c.args.values.now.vars.now in
    let e = numbers_in c.args.values.now.known.now in
    let n = c.in-Some-Int.n in
    subst (λ i. HasWhole e c.args.var.now c.args.op c.args.value.now i) (sym (to_z-of_z w128 n (search rules)))
    (whole_so names e c.args.var.now c.args.op c.args.value.now n c.in-Inline.number c.in-Inline.field-1 c.requires.whole
    (subst (λ k. IsPart names e c.args.value.now k) c.in-Inline.is c.in_ok-part_of.ensures)
    (sym c.updated.ensures ∙ c.in-Some-Int.is ∙ ap Some c.in-Some-Int.field-0-is))

pub returns-in_err-part_of : goal.returns-in_err-part_of
returns-in_err-part_of c =
    handed _ _ c.from_residual.result c.in_err-part_of.field-0.0 c.from_residual.ensures.1 c.in_err-part_of.ensures
    (part_no_whole (names_in c.args.values.now.vars.now) (numbers_in c.args.values.now.known.now) c.args.var.now c.args.op c.args.value.now)

pub returns-in-Some-Bool : goal.returns-in-Some-Bool
returns-in-Some-Bool c =
    let names = names_in c.args.values.now.vars.now in
    let e = numbers_in c.args.values.now.known.now in
    other_no_whole names e c.args.var.now c.args.op c.args.value.now c.in-Inline.number c.in-Inline.field-1
    (subst (λ k. IsPart names e c.args.value.now k) c.in-Inline.is c.in_ok-part_of.ensures)
    (λ n q. truth_no_number _ _ n (sym c.updated.ensures ∙ c.in-Some-Bool.is ∙ ap Some c.in-Some-Bool.field-0-is) q)

pub returns-in-None : goal.returns-in-None
returns-in-None c =
    let names = names_in c.args.values.now.vars.now in
    let e = numbers_in c.args.values.now.known.now in
    other_no_whole names e c.args.var.now c.args.op c.args.value.now c.in-Inline.number c.in-Inline.field-1
    (subst (λ k. IsPart names e c.args.value.now k) c.in-Inline.is c.in_ok-part_of.ensures)
    (λ n q. none_no_number _ n (sym c.updated.ensures ∙ c.in-None.is) q)

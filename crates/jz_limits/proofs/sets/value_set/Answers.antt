use Rattle.std.proofs.Common.{◌≡◌, ◌∙◌, ap, sym, subst}
use Rattle.jz_integers.specs.Integers.{number}
use Rattle.jz_limits.specs.Asked.{set_value}
use Rattle.jz_limits.specs.InnerKnown.{numbers_of}
use Rattle.jz_limits.specs.InnerSets.{updated_value}
use Rattle.jz_limits.proofs.Setting.{updated_set}
use Rattle.jz_limits.proofs.sets.value_set.Goals as goal

pub returns-in_ok-set-in-Some : goal.returns-in_ok-set-in-Some
returns-in_ok-set-in-Some c =
    let e = numbers_of c.args.numbers.now in
    let x = c.args.value.now in
    subst (λ o. c.in_ok-set-in-Some.set ≡ set_value e c.args.var.now o x) (sym c.in-Some.is)
    (c.in_ok-set-in-Some.ensures
    ∙ (ap (λ b. updated_value e c.in-Some.op b x) (c.as_constant-before.ensures ∙ ap number c.number.ensures)
    ∙ sym (updated_set e c.args.var.now c.in-Some.op x)))

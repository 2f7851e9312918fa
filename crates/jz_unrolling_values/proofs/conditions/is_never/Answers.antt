use Rattle.std.proofs.Common.{◌≡◌, true, false, subst, Err}
use Rattle.jz_tree.specs.Failures.{IfAnswered}
use Rattle.jz_unrolling_values.specs.InlineNames.{names_in}
use Rattle.jz_unrolling_values.specs.Numbers.{numbers_in}
use Rattle.jz_unrolling_values.specs.Parts.{IsTest}
use Rattle.jz_unrolling_values.specs.Refusals.{OrElse, NeverTests}
use Rattle.jz_unrolling_values.proofs.RefusalLemmas.{never_so, not_never_asked, not_never_untested}
use Rattle.jz_unrolling_values.proofs.conditions.is_never.Goals as goal

pub returns-in-Ok-Always : goal.returns-in-Ok-Always
returns-in-Ok-Always c =
    let names = names_in c.args.values.now.vars.now in
    let e = numbers_in c.args.values.now.known.now in
    let i = c.in-Ok-Always in
    never_so names e c.args.cond.now i.answer i.field-0-1 (subst (λ k. IsTest names e c.args.cond.now k) i.field-0-is i.ensures)

pub returns-in-Ok-Asked : goal.returns-in-Ok-Asked
returns-in-Ok-Asked c =
    let names = names_in c.args.values.now.vars.now in
    let e = numbers_in c.args.values.now.known.now in
    let i = c.in-Ok-Asked in (
      λ q. let w : false ≡ true = q in absurd cc,
      λ n. absurd (not_never_asked names e c.args.cond.now _ (subst (λ k. IsTest names e c.args.cond.now k) i.field-0-is i.ensures) n),
    )

pub returns-in-Err-Refused : goal.returns-in-Err-Refused
returns-in-Err-Refused c =
    let names = names_in c.args.values.now.vars.now in
    let e = numbers_in c.args.values.now.known.now in
    let i = c.in-Err-Refused in (
      λ q. let w : false ≡ true = q in absurd cc,
      λ n. absurd (not_never_untested names e c.args.cond.now (subst (λ k. IfAnswered (Err k) (OrElse (IsTest names e c.args.cond.now) (NeverTests names e c.args.cond.now))) i.field-0-is i.ensures) n),
    )

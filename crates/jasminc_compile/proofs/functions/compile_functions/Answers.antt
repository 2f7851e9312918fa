use Rattle.std.proofs.Common.{List, subst}
use Rattle.std.specs.List.{AllZip}
use Rattle.std.proofs.lemmas.Result.{err_from_is_err_and}
use Rattle.jz_pass.proofs.Refusing.{refused_too}
use Rattle.jasminc_compile.specs.declared.outcome.Outcome.{Outcome}
use Rattle.jasminc_compile.specs.SafeFunctions.{exports_of}
use Rattle.jasminc_compile.specs.InnerMaking.{IsOutcome}
use Rattle.jasminc_compile.proofs.Coming.{all_are_made}
use Rattle.jasminc_compile.proofs.Telling.{told}
use Rattle.jasminc_compile.proofs.functions.compile_functions.Goals as goal

pub returns-in_err-compiled-clause-refused : goal.returns-in_err-compiled-clause-refused
returns-in_err-compiled-clause-refused c =
    let e = err_from_is_err_and c.from_residual-in_err-compiled.result c.from_residual-in_err-compiled.ensures.1 in
    rw (e.1, e.2) (refused_too _ _ _ (λ u h. told c.args.typed.now.program c.in_ok-outcomes.outcomes u c.in_ok-outcomes.ensures h) c.in_err-compiled.ensures.refused)

pub returns-clause-made : goal.returns-clause-made
returns-clause-made c =
    let p = c.args.typed.now.program in
    let fs = exports_of p.funs in
    all_are_made p fs c.in_ok-compiled.compiled (subst (λ (os : List Outcome). AllZip (IsOutcome p) fs os) c.in_ok-compiled.ensures.made c.in_ok-outcomes.ensures)

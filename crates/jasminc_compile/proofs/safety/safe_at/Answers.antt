use Rattle.std.proofs.lemmas.Result.{err_from_is_err_and}
use Rattle.jz_pass.proofs.Refusing.{refused_too}
use Rattle.jasminc_compile.proofs.Saving.{of_text, safe_there, alarm_there}
use Rattle.jasminc_compile.proofs.safety.safe_at.Goals as goal

pub safe-requires : goal.safe-requires
safe-requires c = of_text c.args.typed.now.program c.args.place c.requires c.in_ok-expanded.expanded c.in_ok-expanded.ensures

pub returns-in_err-found-clause-alarm : goal.returns-in_err-found-clause-alarm
returns-in_err-found-clause-alarm c =
    let e = err_from_is_err_and c.from_residual-in_err-found.result c.from_residual-in_err-found.ensures.1 in
    rw (e.1, e.2) (refused_too _ _ _ (λ a h. alarm_there c.args.typed.now.program c.args.place c.requires c.in_ok-expanded.expanded c.in_ok-expanded.ensures a h) c.in_err-found.ensures.some)

pub returns-clause-safe : goal.returns-clause-safe
returns-clause-safe c =
    safe_there c.args.typed.now.program c.args.place c.requires c.in_ok-expanded.expanded c.in_ok-expanded.ensures c.in_ok-found.found c.in_ok-found.ensures.same c.in_ok-found.ensures.none

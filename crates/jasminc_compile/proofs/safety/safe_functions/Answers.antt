use Rattle.std.proofs.Common.{◌<◌, ◌≤◌, List, [], length, sym, subst, rules}
use Rattle.std.specs.List.{AllZip}
use Rattle.std.proofs.lemmas.Result.{err_from_is_err_and}
use Rattle.jz_pass.proofs.Refusing.{refused_too}
use Rattle.jasminc_compile.specs.declared.safety.SafeFun.{SafeFun}
use Rattle.jasminc_compile.specs.SafeFunctions.{IsSafeFun}
use Rattle.jasminc_compile.proofs.Saving.{next_safe, first_alarm, all_safe}
use Rattle.jasminc_compile.proofs.safety.safe_functions.Goals as goal

pub loop-place-init : goal.loop-place-init
loop-place-init c = subst (λ (ss : List SafeFun). AllZip (IsSafeFun c.args.typed.now.program) [] ss) (sym c.new-out.ensures) tt

pub add_safe-requires : goal.add_safe-requires
add_safe-requires c =
    let lt : c.loop-place.place < length c.args.typed.now.program.funs = search rules in
    record { typed = c.requires.typed; text = c.requires.text; within = c.requires.within; below = lt }

pub loop-place-preserved : goal.loop-place-preserved
loop-place-preserved c =
    next_safe c.args.typed.now.program c.loop-place.place _ _ c.loop-place.invariant c.in_ok-add_safe.ensures.safe

pub returns-in_err-add_safe-clause-alarm : goal.returns-in_err-add_safe-clause-alarm
returns-in_err-add_safe-clause-alarm c =
    let e = err_from_is_err_and c.from_residual.result c.from_residual.ensures.1 in
    rw (e.1, e.2) (refused_too _ _ _ (λ a h. first_alarm c.args.typed.now.program c.loop-place.place _ a c.loop-place.invariant h) c.in_err-add_safe.ensures.alarm)

pub returns-clause-safe : goal.returns-clause-safe
returns-clause-safe c =
    let le : length c.args.typed.now.program.funs ≤ c.loop-place.place = search rules in
    all_safe c.args.typed.now.program c.loop-place.place _ le c.loop-place.invariant

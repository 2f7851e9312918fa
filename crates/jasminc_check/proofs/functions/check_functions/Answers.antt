use Rattle.std.proofs.Common.{◌<◌, ◌≤◌, ℕ, List, length, sym, subst, rules}
use Rattle.std.proofs.lemmas.Result.{err_from_is_err_and}
use Rattle.jz_pass.proofs.Refusing.{refused_too}
use Rattle.jasminc_check.specs.Safety.{AreSafe}
use Rattle.jasminc_check.proofs.Lines.{IsSoFar, none_so_far, next_so_far, alarm_there, all_so_far}
use Rattle.jasminc_check.proofs.functions.check_functions.Goals as goal

pub loop-place-init : goal.loop-place-init
loop-place-init c =
    subst (λ (xs : List ℕ). IsSoFar c.args.typed.now.program 0 xs) (sym c.new-out.ensures.items) (none_so_far c.args.typed.now.program)

pub add_line-requires : goal.add_line-requires
add_line-requires c =
    let lt : c.loop-place.place < length c.args.typed.now.program.funs = search rules in
    record { typed = c.requires.typed; text = c.requires.text; within = c.requires.within; below = lt }

pub loop-place-preserved : goal.loop-place-preserved
loop-place-preserved c =
    next_so_far c.args.typed.now.program c.loop-place.place _ _ c.loop-place.invariant c.in_ok-add_line.ensures.safe

pub returns-in_err-add_line-clause-alarm : goal.returns-in_err-add_line-clause-alarm
returns-in_err-add_line-clause-alarm c =
    let e = err_from_is_err_and c.from_residual.result c.from_residual.ensures.1 in
    rw (e.1, e.2) (refused_too _ _ _ (λ a h. alarm_there c.args.typed.now.program c.loop-place.place _ a c.loop-place.invariant h) c.in_err-add_line.ensures.alarm)

pub returns-clause-safe : goal.returns-clause-safe
returns-clause-safe c =
    let le : length c.args.typed.now.program.funs ≤ c.loop-place.place = search rules in
    subst (AreSafe c.args.typed.now.program c.args.typed.now.program.funs) (sym c.from_vec.ensures)
    (all_so_far c.args.typed.now.program c.loop-place.place _ le c.loop-place.invariant)

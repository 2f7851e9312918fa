use Rattle.std.proofs.Common.{◌<◌, ◌^◌, ℕ, List, length, subst}
use Rattle.jasminc_calls.proofs.Parameters.{none_refused}
use Rattle.jasminc_calls.proofs.Suiting.{all_held}
use Rattle.jasminc_starts.proofs.Apart.{stand_apart}
use Rattle.jasminc_runs.proofs.OnItems.{is_safe, run_on, refused_too}
use Rattle.jasminc_runs.proofs.calling.run_function.Goals as goal

pub called_on-requires : goal.called_on-requires
called_on-requires c = none_refused c.requires.runnable.0 c.args.function.now c.requires.runnable.1.is_export

pub run_compiled-requires-clause-small : goal.run_compiled-requires-clause-small
run_compiled-requires-clause-small c = c.requires.runnable.1.small

pub run_compiled-requires-clause-stated : goal.run_compiled-requires-clause-stated
run_compiled-requires-clause-stated c = c.in-Ok.ensures.call.pres

pub run_compiled-requires-clause-held : goal.run_compiled-requires-clause-held
run_compiled-requires-clause-held c = all_held c.args.function.now c.args.items.now c.in-Ok.called c.in-Ok.ensures

pub run_compiled-requires-clause-apart : goal.run_compiled-requires-clause-apart
run_compiled-requires-clause-apart c = stand_apart c.args.items.now c.requires.given

pub run_compiled-requires-clause-safe : goal.run_compiled-requires-clause-safe
run_compiled-requires-clause-safe c =
    let short = subst (λ (bs : List ℕ). length bs < 2 ^ 63) c.as_slice.ensures c.is_short.ensures in
    is_safe c.requires.runnable.0 c.args.function.now c.args.compiled.now c.args.items.now c.requires.runnable.1 c.requires.given short c.in-Ok.called c.in-Ok.ensures

pub returns-in_ok-ran-in-Ok : goal.returns-in_ok-ran-in-Ok
returns-in_ok-ran-in-Ok c =
    let short = subst (λ (bs : List ℕ). length bs < 2 ^ 63) c.as_slice.ensures c.is_short.ensures in
    run_on c.requires.runnable.0 c.args.function.now c.args.compiled.now c.args.items.now c.requires.runnable.1 c.requires.given short c.in-Ok.called c.in-Ok.ensures
    c.args.fuel c.in_ok-ran-in-Ok.ran c.in_ok-ran-in-Ok.ensures

pub returns-in-Err : goal.returns-in-Err
returns-in-Err c = refused_too c.args.function.now c.args.compiled.now c.args.items.now c.args.fuel _ c.in-Err.ensures

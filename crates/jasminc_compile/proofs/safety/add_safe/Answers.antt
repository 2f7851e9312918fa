use Rattle.std.proofs.Common.{◌≡◌, ◌<◌, true, false, length, sym, subst, rules}
use Rattle.std.specs.Prelude.{Some, slice_get}
use Rattle.std.proofs.lemmas.Result.{err_from_is_err_and}
use Rattle.jz_tree.specs.declared.program.Program.{Program}
use Rattle.jz_type_rows.specs.Exports.{is_exported}
use Rattle.jz_pass.proofs.Refusing.{refused_too}
use Rattle.jasminc_check.proofs.ExpansionsReadying.{among_ready}
use Rattle.jasminc_check.proofs.Readying.{alarm_at}
use Rattle.jasminc_compile.proofs.Saving.{added, not_added}
use Rattle.jasminc_compile.proofs.safety.add_safe.Goals as goal

pub function_at-function-requires : goal.function_at-function-requires
function_at-function-requires c = subst (λ (q : Program). c.args.place < length q.funs) (sym c.program.ensures) c.requires.below

pub returns-then-not-is_exported-clause-safe : goal.returns-then-not-is_exported-clause-safe
returns-then-not-is_exported-clause-safe c =
    let f = c.function_at-function.result.now in
    let there = subst (λ (q : Program). slice_get q.funs c.args.place ≡ Some f) c.program.ensures c.function_at-function.ensures in
    let hidden : is_exported f.kind ≡ false = search rules in
    not_added c.args.typed.now.program c.args.place f _ there hidden

pub safe_at-requires : goal.safe_at-requires
safe_at-requires c =
    let f = c.function_at-function.result.now in
    let there = subst (λ (q : Program). slice_get q.funs c.args.place ≡ Some f) c.program.ensures c.function_at-function.ensures in
    let exported : is_exported f.kind ≡ true = search rules in
    among_ready c.args.typed.now.program c.args.place c.requires f there exported

pub returns-in_err-safe-clause-alarm : goal.returns-in_err-safe-clause-alarm
returns-in_err-safe-clause-alarm c =
    let f = c.function_at-function.result.now in
    let there = subst (λ (q : Program). slice_get q.funs c.args.place ≡ Some f) c.program.ensures c.function_at-function.ensures in
    let exported : is_exported f.kind ≡ true = search rules in
    let e = err_from_is_err_and c.from_residual.result c.from_residual.ensures.1 in
    rw (e.1, e.2) (refused_too _ _ _ (λ a h. alarm_at c.args.typed.now.program c.args.place f a there exported h) c.in_err-safe.ensures.alarm)

pub returns-clause-safe : goal.returns-clause-safe
returns-clause-safe c =
    let p = c.args.typed.now.program in
    let f = c.function_at-function.result.now in
    let there = subst (λ (q : Program). slice_get q.funs c.args.place ≡ Some f) c.program.ensures c.function_at-function.ensures in
    let exported : is_exported f.kind ≡ true = search rules in
    added p c.args.place f c.in_ok-safe.safe _ _ (among_ready p c.args.place c.requires f there exported) there exported c.in_ok-safe.ensures.safe c.in_ok-push.ensures.ok

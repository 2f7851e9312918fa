use Rattle.std.proofs.Common.{◌≡◌, ◌<◌, true, false, length, sym, subst, rules}
use Rattle.std.specs.Prelude.{Some, slice_get}
use Rattle.std.proofs.lemmas.Result.{err_from_is_err_and}
use Rattle.jz_tree.specs.declared.program.Program.{Program}
use Rattle.jz_type_rows.specs.Exports.{is_exported}
use Rattle.jz_pass.proofs.Refusing.{refused_too}
use Rattle.jasminc_expansions.proofs.Readying.{among_ready}
use Rattle.jasminc_check.proofs.Readying.{alarm_at, line_added, nothing_added}
use Rattle.jasminc_check.proofs.functions.add_line.Goals as goal

pub function_at-function-requires : goal.function_at-function-requires
function_at-function-requires c = subst (λ (q : Program). c.args.place < length q.funs) (sym c.program.ensures) c.requires.below

pub returns-then-not-is_exported-clause-safe : goal.returns-then-not-is_exported-clause-safe
returns-then-not-is_exported-clause-safe c =
    let f = c.function_at-function.result.now in
    let there = subst (λ (q : Program). slice_get q.funs c.args.place ≡ Some f) c.program.ensures c.function_at-function.ensures in
    let hidden : is_exported f.kind ≡ false = search rules in
    nothing_added c.args.typed.now.program c.args.place f _ there hidden

pub judge_at-requires : goal.judge_at-requires
judge_at-requires c =
    let f = c.function_at-function.result.now in
    let there = subst (λ (q : Program). slice_get q.funs c.args.place ≡ Some f) c.program.ensures c.function_at-function.ensures in
    let exported : is_exported f.kind ≡ true = search rules in
    among_ready c.args.typed.now.program c.args.place c.requires f there exported

pub returns-in_err-count-clause-alarm : goal.returns-in_err-count-clause-alarm
returns-in_err-count-clause-alarm c =
    let f = c.function_at-function.result.now in
    let there = subst (λ (q : Program). slice_get q.funs c.args.place ≡ Some f) c.program.ensures c.function_at-function.ensures in
    let exported : is_exported f.kind ≡ true = search rules in
    let e = err_from_is_err_and c.from_residual.result c.from_residual.ensures.1 in
    rw (e.1, e.2) (refused_too _ _ _ (λ a h. alarm_at c.args.typed.now.program c.args.place f a there exported h) c.in_err-count.ensures.alarm)

pub returns-clause-safe : goal.returns-clause-safe
returns-clause-safe c =
    let f = c.function_at-function.result.now in
    let there = subst (λ (q : Program). slice_get q.funs c.args.place ≡ Some f) c.program.ensures c.function_at-function.ensures in
    let exported : is_exported f.kind ≡ true = search rules in
    line_added c.args.typed.now.program c.args.place c.in_ok-count.count f _ _ there exported c.in_ok-count.ensures.safe c.in_ok-write_safe.ensures

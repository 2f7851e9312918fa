use Rattle.std.proofs.Common.{codes}
use Rattle.std.proofs.lemmas.Result.{IfOk-weaker}
use Rattle.jasminc_words.specs.Commands.{bare_app, file_app, run_app, number_app, selfrun_app}
use Rattle.jasminc_words.proofs.Adding.{adds}
use Rattle.jasminc_words.proofs.command.jasminc.Goals as goal

pub returns : goal.returns
returns c =
    let one = adds bare_app (file_app (codes "compile")) _ _ _ c.bare-top.ensures c.in_ok-of_file.ensures c.in_ok-with_compile.ensures in
    let two = adds _ (run_app (codes "exec")) _ _ _ one c.in_ok-run.ensures c.in_ok-with_exec.ensures in
    let three = adds _ (run_app (codes "interp")) _ _ _ two c.in_ok-run-2.ensures c.in_ok-with_interp.ensures in
    let four = adds _ (run_app (codes "leak")) _ _ _ three c.in_ok-run-3.ensures c.in_ok-with_leak.ensures in
    let five = adds _ (file_app (codes "disasm")) _ _ _ four c.in_ok-of_file-2.ensures c.in_ok-with_disasm.ensures in
    let six = adds _ (file_app (codes "check")) _ _ _ five c.in_ok-of_file-3.ensures c.in_ok-with_check.ensures in
    let seven = adds _ (file_app (codes "ct")) _ _ _ six c.in_ok-of_file-4.ensures c.in_ok-with_ct.ensures in
    let eight = adds _ (number_app (codes "gen")) _ _ _ seven c.in_ok-of_number.ensures c.in_ok-with_gen.ensures in
    IfOk-weaker c.subcommand-9.result _ _ (λ r h. adds _ selfrun_app _ _ r eight c.in_ok-selfrun.ensures h) c.subcommand-9.ensures

use Rattle.std.proofs.lemmas.Result.{err_from_is_err_and}
use Rattle.jasminc_called.specs.Answers.{Executes}
use Rattle.jasminc_called.proofs.Answering.{made_fails, call_fails, call_done}
use Rattle.jasminc_called.proofs.calling.exec_text.Goals as goal

pub returns-in_err-made : goal.returns-in_err-made
returns-in_err-made c =
    let p = err_from_is_err_and c.from_residual.result c.from_residual.ensures.1 in
    rw (p.1, p.2) (made_fails (Executes c.args.items.now c.args.fuel) c.args.text.now c.args.fun.now c.args.items.now _ c.in_err-made.ensures)

pub run_made-requires-clause-made : goal.run_made-requires-clause-made
run_made-requires-clause-made c = (c.args.text.now, c.in_ok-made.ensures)

pub returns-in_err-ran : goal.returns-in_err-ran
returns-in_err-ran c =
    let p = err_from_is_err_and c.from_residual-in_err-ran.result c.from_residual-in_err-ran.ensures.1 in
    rw (p.1, p.2) (call_fails (Executes c.args.items.now c.args.fuel) c.args.text.now c.args.fun.now c.args.items.now c.in_ok-made.made c.in_ok-made.ensures _ c.in_err-ran.ensures)

pub returns : goal.returns
returns c =
    call_done (Executes c.args.items.now c.args.fuel) c.args.text.now c.args.fun.now c.args.items.now c.in_ok-made.made c.in_ok-made.ensures c.in_ok-ran.ran _ c.told_with.ensures c.in_ok-ran.ensures

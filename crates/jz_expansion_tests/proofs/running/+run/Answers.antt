use Rattle.std.proofs.Common.{ℕ, ◌+◌, ◌*◌, ◌≤◌, rules, arith}
use Rattle.jz_interp.proofs.Falls.{weights_at}
use Rattle.jz_interp.proofs.Weights.{weight, weights}
use Rattle.jz_expansion_tests.proofs.running.+run.Goals as goal

pub run_block-run_statement-requires : goal.run_block-run_statement-requires
run_block-run_statement-requires t c =
    let x : weight c.stmt-item.result ≤ weights c.args.stmts.now = weights_at c.args.stmts.now c.loop-stmt.stmt-index c.stmt-item.result (search rules) (search rules) in
    omega (arith, x, c.decreases)

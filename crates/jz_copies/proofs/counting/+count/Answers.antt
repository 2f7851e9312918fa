use Rattle.std.proofs.Common.{ℕ, ◌+◌, ◌≤◌, List, ◌∷◌, drop, sym, ap, ◌∙◌, subst, rules, arith}
use Rattle.std.specs.Option.{option_copied}
use Rattle.jz_meaning.specs.Runs.{Callees, callees_of, statement_tree}
use Rattle.jz_interp.proofs.Falls.{weights_at}
use Rattle.jz_interp.proofs.Weights.{weight, weights}
use Rattle.jz_copies.specs.InnerCounts.{piece_depths, block_depths, IsFurther, IsWalked}
use Rattle.jz_copies.proofs.Depths.{one_deeper, from_here, nothing_left, assign_depths, if_depths, while_depths, for_depths, mark_depths}
use Rattle.jz_copies.proofs.Walks.{walked_on, walked_none, all_left, next_left, left_stops, none_left, IsLeft}
use Rattle.jz_copies.proofs.counting.+count.Goals as goal

pub count_block-loop-stmt-init : goal.count_block-loop-stmt-init
count_block-loop-stmt-init t c = all_left c.args.before (block_depths (callees_of c.args.callable.now.funs.now c.args.left) c.args.depth c.args.stmts.now) c.requires.few

pub count_block-count_statement-requires : goal.count_block-count_statement-requires
count_block-count_statement-requires t c =
    let x : weight c.stmt-item.result ≤ weights c.args.stmts.now = weights_at c.args.stmts.now c.loop-stmt.stmt-index c.stmt-item.result (search rules) (search rules) in
    (omega (arith, x, c.decreases), (c.loop-stmt.invariant.few, omega (arith, c.requires.near, c.loop-stmt.invariant.more)))

pub count_block-returns-in-Err : goal.count_block-returns-in-Err
count_block-returns-in-Err t c =
    let cs : Callees = callees_of c.args.callable.now.funs.now c.args.left in
    left_stops c.args.before (block_depths cs c.args.depth c.args.stmts.now) c.loop-stmt.extent c.in-Err.limit
    (piece_depths c.args.depth (statement_tree cs c.stmt-item.result)) (block_depths cs c.args.depth (drop (c.loop-stmt.stmt-index + 1) c.args.stmts.now)) (block_depths cs c.args.depth (drop c.loop-stmt.stmt-index c.args.stmts.now))
    (from_here cs c.args.stmts.now c.loop-stmt.stmt-index c.args.depth c.stmt-item.result (search rules) (search rules)) c.loop-stmt.invariant c.in-Err.ensures

pub count_block-loop-stmt-preserved : goal.count_block-loop-stmt-preserved
count_block-loop-stmt-preserved t c =
    let cs : Callees = callees_of c.args.callable.now.funs.now c.args.left in
    next_left c.args.before (block_depths cs c.args.depth c.args.stmts.now) c.loop-stmt.extent c.in-Ok.more
    (piece_depths c.args.depth (statement_tree cs c.stmt-item.result)) (block_depths cs c.args.depth (drop (c.loop-stmt.stmt-index + 1) c.args.stmts.now)) (block_depths cs c.args.depth (drop c.loop-stmt.stmt-index c.args.stmts.now))
    (from_here cs c.args.stmts.now c.loop-stmt.stmt-index c.args.depth c.stmt-item.result (search rules) (search rules)) c.loop-stmt.invariant c.in-Ok.ensures

pub count_block-returns : goal.count_block-returns
count_block-returns t c =
    let cs : Callees = callees_of c.args.callable.now.funs.now c.args.left in
    let all : List ℕ = block_depths cs c.args.depth c.args.stmts.now in
    none_left c.args.before all c.loop-stmt.extent
    (subst (IsLeft c.args.before all c.loop-stmt.extent) (nothing_left cs c.args.stmts.now c.loop-stmt.stmt-index c.args.depth (search rules)) c.loop-stmt.invariant)

pub count_call-count_one-walked-requires : goal.count_call-count_one-walked-requires
count_call-count_one-walked-requires t c =
    let x = one_deeper c.args.callable.now.funs.now c.args.left c.args.op c.args.name.now c.args.cond.now c.in-Some.fun.now (sym c.called.ensures ∙ ap option_copied c.in-Some.is) in
    (omega (arith, x, c.decreases), (c.requires.few, c.requires.near))

pub count_statement-returns-in-Assign : goal.count_statement-returns-in-Assign
count_statement-returns-in-Assign t c =
    subst (λ ds. IsWalked c.args.before ds c.count_assign-walked.result)
    (sym (assign_depths (callees_of c.args.callable.now.funs.now c.args.left) c.args.stmt.now c.in-Assign.to c.in-Assign.op c.in-Assign.rhs c.in-Assign.cond c.args.depth c.in-Assign.is)) c.count_assign-walked.ensures

pub count_statement-returns-in-If : goal.count_statement-returns-in-If
count_statement-returns-in-If t c =
    subst (λ ds. IsWalked c.args.before ds c.count_two-walked.result)
    (sym (if_depths (callees_of c.args.callable.now.funs.now c.args.left) c.args.stmt.now c.in-If.field-0 c.in-If.holds c.in-If.other c.args.depth c.in-If.is)) c.count_two-walked.ensures

pub count_statement-returns-in-While : goal.count_statement-returns-in-While
count_statement-returns-in-While t c =
    subst (λ ds. IsWalked c.args.before ds c.count_while-walked.result)
    (sym (while_depths (callees_of c.args.callable.now.funs.now c.args.left) c.args.stmt.now c.in-While.prologue c.in-While.cond c.in-While.body c.args.depth c.in-While.is)) c.count_while-walked.ensures

pub count_statement-returns-in-For : goal.count_statement-returns-in-For
count_statement-returns-in-For t c =
    subst (λ ds. IsWalked c.args.before ds c.count_one-walked.result)
    (sym (for_depths (callees_of c.args.callable.now.funs.now c.args.left) c.args.stmt.now c.in-For.counter c.in-For.from c.in-For.down c.in-For.to c.in-For.body c.args.depth c.in-For.is)) c.count_one-walked.ensures

pub count_statement-returns-in-Mark : goal.count_statement-returns-in-Mark
count_statement-returns-in-Mark t c =
    subst (λ ds. IsFurther c.args.before ds c.args.before)
    (sym (mark_depths (callees_of c.args.callable.now.funs.now c.args.left) c.args.stmt.now c.in-Mark.field-0 c.args.depth c.in-Mark.is)) (walked_none c.args.before c.requires.few)

pub count_two-returns-in-Ok : goal.count_two-returns-in-Ok
count_two-returns-in-Ok t c =
    walked_on (c.args.depth ∷ block_depths (callees_of c.args.callable.now.funs.now c.args.left) (c.args.depth + 1) c.args.first.now) (block_depths (callees_of c.args.callable.now.funs.now c.args.left) (c.args.depth + 1) c.args.second.now)
    c.args.before c.in-Ok.extent c.count_block-walked.result c.in-Ok.ensures c.count_block-walked.ensures

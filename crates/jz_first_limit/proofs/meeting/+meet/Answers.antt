use Rattle.std.proofs.Common.{◌≡◌, ◌+◌, ◌-◌, ◌≤◌, [], ◌∷◌, ◌++◌, drop, length, Some, sym, ap, ◌∙◌, subst, rules, arith}
use Rattle.std.specs.Prelude.{replicate}
use Rattle.std.specs.Option.{option_copied}
use Rattle.std.specs.Int.{w128}
use Rattle.std.proofs.lemmas.Int.{to_z-of_z}
use Rattle.jz_integers.specs.Integers.{KnownNumbers}
use Rattle.jz_meaning.specs.Statements.{Call, assign, meaningless}
use Rattle.jz_meaning.specs.Runs.{Callees, assign_tree, statement_tree}
use Rattle.jz_interp.proofs.Falls.{weights_at}
use Rattle.jz_interp.proofs.Weights.{weight, weights}
use Rattle.jz_copies.proofs.Depths.{one_deeper}
use Rattle.jz_limits.specs.Limits.{one}
use Rattle.jz_limits.specs.InnerKnown.{numbers_of}
use Rattle.jz_limits.specs.Asked.{widths}
use Rattle.jz_limits.specs.Values.{with_number, number_of, number_in, no_numbers}
use Rattle.jz_limits.specs.Walks.{Walk, behind, followed, limits, operation_walk, arms, turns, test_and_body, rounds, counted_values, loop_walk, argument_limits, with_arguments, result_limits, more_than_eight, callee_walk, call_walk, silent}
use Rattle.jz_first_limit.specs.declared.met.Met.TheVariants.{Within, Passed}
use Rattle.jz_first_limit.specs.InnerMet.{MeetsSteps, Meets, IsTest, piece_walk, block_walk, body_walk, values_left}
use Rattle.jz_first_limit.specs.InnerStraight.{instructed_of}
use Rattle.jz_first_limit.specs.InnerWalker.{callees_in, counter_at}
use Rattle.jz_first_limit.proofs.Steps.{steps_then, steps_stop, walk_then, walk_stop, nothing_met, ends, limits_none, limits_stop, all_left, next_left, left_stops, none_left, knows_same}
use Rattle.jz_first_limit.proofs.Trees.{from_here, nothing_left, if_walk, for_walk, while_walk, mark_walk, assign_walk, value_walk, instruction_walk, not_called, is_called}
use Rattle.jz_first_limit.proofs.TestArms.{first_met, second_met, both_met, both_stop, neither_met, body_met}
use Rattle.jz_first_limit.proofs.meeting.+meet.Goals as goal

-- ---- blocks

pub meet_block-loop-stmt-init : goal.meet_block-loop-stmt-init
meet_block-loop-stmt-init t c = all_left c.args.count _ c.requires

pub meet_block-meet_statement-requires : goal.meet_block-meet_statement-requires
meet_block-meet_statement-requires t c =
    let x : weight c.stmt-item.result ≤ weights c.args.stmts.now = weights_at c.args.stmts.now c.loop-stmt.stmt-index c.stmt-item.result (search rules) (search rules) in
    (omega (arith, x, c.decreases), c.loop-stmt.invariant.few)

pub meet_block-loop-stmt-preserved : goal.meet_block-loop-stmt-preserved
meet_block-loop-stmt-preserved t c =
    let cs : Callees = callees_in c.args.callable.now c.args.left in
    let ss = c.args.stmts.now in
    let i = c.loop-stmt.stmt-index in
    let e = numbers_of c.loop-stmt.known in
    let k = numbers_of c.meet_statement.new.known in
    let p = piece_walk (statement_tree cs c.stmt-item.result) e in
    next_left c.args.count c.loop-stmt.met c.in-Within.more (block_walk cs ss (numbers_of c.args.known.now)) (block_walk cs (drop i ss) e) p (block_walk cs (drop (i + 1) ss)) k
    c.loop-stmt.invariant (from_here cs ss i e c.stmt-item.result (search rules) (search rules))
    (subst (λ r. Meets c.loop-stmt.met p r k) c.in-Within.is c.in_ok-limit.ensures)

pub meet_block-returns-in-Passed : goal.meet_block-returns-in-Passed
meet_block-returns-in-Passed t c =
    let cs : Callees = callees_in c.args.callable.now c.args.left in
    let ss = c.args.stmts.now in
    let i = c.loop-stmt.stmt-index in
    let e = numbers_of c.loop-stmt.known in
    let k = numbers_of c.meet_statement.new.known in
    let p = piece_walk (statement_tree cs c.stmt-item.result) e in
    left_stops c.args.count c.loop-stmt.met (block_walk cs ss (numbers_of c.args.known.now)) (block_walk cs (drop i ss) e) p (block_walk cs (drop (i + 1) ss)) c.in-Passed.limit k k
    c.loop-stmt.invariant (from_here cs ss i e c.stmt-item.result (search rules) (search rules))
    (subst (λ r. Meets c.loop-stmt.met p r k) c.in-Passed.is c.in_ok-limit.ensures)

pub meet_block-returns : goal.meet_block-returns
meet_block-returns t c =
    let cs : Callees = callees_in c.args.callable.now c.args.left in
    let ss = c.args.stmts.now in
    let i = c.loop-stmt.stmt-index in
    let e = numbers_of c.loop-stmt.known in
    none_left c.args.count c.loop-stmt.met (block_walk cs ss (numbers_of c.args.known.now)) (block_walk cs (drop i ss) e) e c.loop-stmt.invariant
    (nothing_left cs ss i e (search rules))

-- ---- statements

pub meet_statement-returns-in_ok-met-in-Assign : goal.meet_statement-returns-in_ok-met-in-Assign
meet_statement-returns-in_ok-met-in-Assign t c =
    let cs : Callees = callees_in c.args.callable.now c.args.left in
    let e = numbers_of c.args.known.now in
    let s = c.args.stmt.now in
    let k = numbers_of c.meet_assign.new.known in
    subst (λ w. Meets c.args.count w c.in_ok-met-in-Assign.met k) (sym (assign_walk cs s c.in-Assign.to c.in-Assign.op c.in-Assign.rhs c.in-Assign.cond e c.in-Assign.is))
    (c.in_ok-met-in-Assign.ensures s.span)

pub meet_statement-returns-in_ok-met-in-If : goal.meet_statement-returns-in_ok-met-in-If
meet_statement-returns-in_ok-met-in-If t c =
    let cs : Callees = callees_in c.args.callable.now c.args.left in
    let e = numbers_of c.args.known.now in
    let s = c.args.stmt.now in
    let k = numbers_of c.meet_if.new.known in
    subst (λ w. Meets c.args.count w c.in_ok-met-in-If.met k) (sym (if_walk cs s c.in-If.cond c.in-If.holds c.in-If.other e c.in-If.is))
    (ends c.args.count (behind (one ∷ []) (arms c.in-If.cond (block_walk cs c.in-If.holds) (block_walk cs c.in-If.other) e)) c.in_ok-met-in-If.met k c.in_ok-met-in-If.ensures)

pub meet_statement-returns-in_ok-met-in-While : goal.meet_statement-returns-in_ok-met-in-While
meet_statement-returns-in_ok-met-in-While t c =
    let cs : Callees = callees_in c.args.callable.now c.args.left in
    let e = numbers_of c.args.known.now in
    let s = c.args.stmt.now in
    let k = numbers_of c.meet_while.new.known in
    subst (λ w. Meets c.args.count w c.in_ok-met-in-While.met k) (sym (while_walk cs s c.in-While.prologue c.in-While.cond c.in-While.body e c.in-While.is))
    (ends c.args.count (behind (one ∷ []) (turns c.in-While.cond (block_walk cs c.in-While.prologue) (body_walk cs c.in-While.body) e)) c.in_ok-met-in-While.met k c.in_ok-met-in-While.ensures)

pub meet_statement-returns-in_ok-met-in-For : goal.meet_statement-returns-in_ok-met-in-For
meet_statement-returns-in_ok-met-in-For t c =
    let cs : Callees = callees_in c.args.callable.now c.args.left in
    let e = numbers_of c.args.known.now in
    let s = c.args.stmt.now in
    let k = numbers_of c.meet_for.new.known in
    subst (λ w. Meets c.args.count w c.in_ok-met-in-For.met k) (sym (for_walk cs s c.in-For.counter c.in-For.from c.in-For.down c.in-For.to c.in-For.body e c.in-For.is))
    (ends c.args.count (loop_walk (record { counter = c.in-For.counter; from = c.in-For.from; down = c.in-For.down; to = c.in-For.to; at = s.span }) (block_walk cs c.in-For.body) e) c.in_ok-met-in-For.met k (c.in_ok-met-in-For.ensures s.span))

pub meet_statement-returns-in-Mark : goal.meet_statement-returns-in-Mark
meet_statement-returns-in-Mark t c =
    let cs : Callees = callees_in c.args.callable.now c.args.left in
    let e = numbers_of c.args.known.now in
    subst (λ w. Meets c.args.count w (Within c.args.count) e) (sym (mark_walk cs c.args.stmt.now c.in-Mark.field-0 e c.in-Mark.is))
    (nothing_met c.args.count e c.requires)

-- ---- assignments and calls

pub meet_assign-returns-in_ok-met-in-Value : goal.meet_assign-returns-in_ok-met-in-Value
meet_assign-returns-in_ok-met-in-Value t c = λ at.
    let cs : Callees = callees_in c.args.callable.now c.args.left in
    let e = numbers_of c.args.known.now in
    let to = c.args.assigning.to.now in
    let o = c.args.assigning.op in
    let x = c.args.assigning.cond.now in
    let k = numbers_of c.meet_value.new.known in
    let w = operation_walk (assign to o c.in-Value.value x at) e in
    subst (λ r. Meets c.args.count (piece_walk (assign_tree cs to o r x at) e) c.in_ok-met-in-Value.met k) (sym c.in-Value.is)
    (subst (λ y. Meets c.args.count y c.in_ok-met-in-Value.met k) (sym (value_walk to o c.in-Value.value x at e cs))
    (ends c.args.count w c.in_ok-met-in-Value.met k (c.in_ok-met-in-Value.ensures at)))

pub meet_assign-returns-in_ok-met-in-Call : goal.meet_assign-returns-in_ok-met-in-Call
meet_assign-returns-in_ok-met-in-Call t c = λ at.
    let cs : Callees = callees_in c.args.callable.now c.args.left in
    let e = numbers_of c.args.known.now in
    subst (λ r. Meets c.args.count (piece_walk (assign_tree cs c.args.assigning.to.now c.args.assigning.op r c.args.assigning.cond.now at) e) c.in_ok-met-in-Call.met e) (sym c.in-Call.is)
    (c.in_ok-met-in-Call.ensures c.in-Call.field-2)

pub meet_assign-returns-in_ok-met-in-Intrinsic : goal.meet_assign-returns-in_ok-met-in-Intrinsic
meet_assign-returns-in_ok-met-in-Intrinsic t c = λ at.
    let cs : Callees = callees_in c.args.callable.now c.args.left in
    let e = numbers_of c.args.known.now in
    let to = c.args.assigning.to.now in
    let o = c.args.assigning.op in
    let x = c.args.assigning.cond.now in
    let place = c.in-Intrinsic.field-2 in
    let w = operation_walk (instructed_of to o c.in-Intrinsic.name c.in-Intrinsic.args x place) e in
    subst (λ r. Meets c.args.count (piece_walk (assign_tree cs to o r x at) e) c.in_ok-met-in-Intrinsic.met e) (sym c.in-Intrinsic.is)
    (subst (λ y. Meets c.args.count y c.in_ok-met-in-Intrinsic.met e) (sym (instruction_walk to o c.in-Intrinsic.name c.in-Intrinsic.args x place e))
    (ends c.args.count w c.in_ok-met-in-Intrinsic.met e (c.in_ok-met-in-Intrinsic.ensures place)))

pub meet_call-returns-in-None : goal.meet_call-returns-in-None
meet_call-returns-in-None t c = λ at.
    let e = numbers_of c.args.known.now in
    let w = operation_walk (meaningless at) e in
    subst (λ y. Meets c.args.count y c.one_more.result e)
    (sym (not_called c.args.callable.now.funs.now c.args.left c.args.assigning.op c.args.name.now c.args.assigning.cond.now c.args.assigning.to.now c.args.args.now at e (sym c.called.ensures ∙ ap option_copied c.in-None.is)))
    (ends c.args.count w c.one_more.result e (c.one_more.ensures, knows_same c.one_more.result e))

pub meet_call-meet_callee-requires : goal.meet_call-meet_callee-requires
meet_call-meet_callee-requires t c =
    let x = one_deeper c.args.callable.now.funs.now c.args.left c.args.assigning.op c.args.name.now c.args.assigning.cond.now c.in-Some.fun.now (sym c.called.ensures ∙ ap option_copied c.in-Some.is) in
    (omega (arith, x, c.decreases), c.requires)

pub meet_call-returns-in_ok-met-in-Some : goal.meet_call-returns-in_ok-met-in-Some
meet_call-returns-in_ok-met-in-Some t c = λ at.
    let e = numbers_of c.args.known.now in
    let f = c.in-Some.fun.now in
    let q : Call = record { to = c.args.assigning.to.now; callee = f; args = c.args.args.now; at = at } in
    let w = call_walk q (block_walk (callees_in c.args.callable.now (c.args.left - 1)) f.body) e in
    subst (λ y. Meets c.args.count y c.in_ok-met-in-Some.met e)
    (sym (is_called c.args.callable.now.funs.now c.args.left c.args.assigning.op c.args.name.now c.args.assigning.cond.now f c.args.assigning.to.now c.args.args.now at e (sym c.called.ensures ∙ ap option_copied c.in-Some.is)))
    (ends c.args.count w c.in_ok-met-in-Some.met e (c.in_ok-met-in-Some.ensures at))

pub meet_callee-returns-in-Passed : goal.meet_callee-returns-in-Passed
meet_callee-returns-in-Passed t c = λ at.
    let cs : Callees = callees_in c.args.callable.now c.args.left in
    let e = numbers_of c.args.known.now in
    let f = c.args.fun.now in
    let q : Call = record { to = c.args.to.now; callee = f; args = c.args.args.now; at = at } in
    let b = block_walk cs f.body in
    let rest = behind (more_than_eight q) (callee_walk q b e) in
    steps_stop c.args.count (one ∷ []) rest c.in-Passed.limit e c.in-Passed.ensures

pub meet_callee-returns-in-Passed-past_the_eighth : goal.meet_callee-returns-in-Passed-past_the_eighth
meet_callee-returns-in-Passed-past_the_eighth t c = λ at.
    let cs : Callees = callees_in c.args.callable.now c.args.left in
    let e = numbers_of c.args.known.now in
    let f = c.args.fun.now in
    let q : Call = record { to = c.args.to.now; callee = f; args = c.args.args.now; at = at } in
    let b = block_walk cs f.body in
    let rest = behind (more_than_eight q) (callee_walk q b e) in
    let extra : replicate ((c.len-given.result + c.len-results.result) - 8) one ≡ more_than_eight q =
    ap (λ a. replicate ((a + c.len-results.result) - 8) one) c.len-given.ensures ∙ ap (λ r. replicate ((length c.args.args.now + r) - 8) one) c.len-results.ensures in
    let l = c.in-Passed-past_the_eighth.limit in
    steps_then c.args.count c.in-Within.count (one ∷ []) rest (Passed l) e c.in-Within.ensures
    (steps_stop c.in-Within.count (more_than_eight q) (callee_walk q b e) l e
    (subst (λ ss. MeetsSteps c.in-Within.count ss (Passed l)) extra c.in-Passed-past_the_eighth.ensures))

pub meet_callee-returns-in_ok-met-in-Within-past_the_eighth : goal.meet_callee-returns-in_ok-met-in-Within-past_the_eighth
meet_callee-returns-in_ok-met-in-Within-past_the_eighth t c = λ at.
    let cs : Callees = callees_in c.args.callable.now c.args.left in
    let e = numbers_of c.args.known.now in
    let f = c.args.fun.now in
    let q : Call = record { to = c.args.to.now; callee = f; args = c.args.args.now; at = at } in
    let b = block_walk cs f.body in
    let rest = behind (more_than_eight q) (callee_walk q b e) in
    let extra : replicate ((c.len-given.result + c.len-results.result) - 8) one ≡ more_than_eight q =
    ap (λ a. replicate ((a + c.len-results.result) - 8) one) c.len-given.ensures ∙ ap (λ r. replicate ((length c.args.args.now + r) - 8) one) c.len-results.ensures in
    let m = c.in-Within-past_the_eighth.count in
    let r = c.in_ok-met-in-Within-past_the_eighth.met in
    steps_then c.args.count c.in-Within.count (one ∷ []) rest r e c.in-Within.ensures
    (steps_then c.in-Within.count m (more_than_eight q) (callee_walk q b e) r e
    (subst (λ ss. MeetsSteps c.in-Within.count ss (Within m)) extra c.in-Within-past_the_eighth.ensures) (c.in_ok-met-in-Within-past_the_eighth.ensures at))

pub meet_copies-returns-in-Passed : goal.meet_copies-returns-in-Passed
meet_copies-returns-in-Passed t c = λ at.
    let cs : Callees = callees_in c.args.callable.now c.args.left in
    let e = numbers_of c.args.known.now in
    let f = c.args.fun.now in
    let b = block_walk cs f.body in
    let xs = argument_limits e at f.params c.args.args.now in
    let rs = result_limits e at c.args.to.now f.result in
    let inner = with_arguments e f.params c.args.args.now no_numbers in
    let k = numbers_of c.meet_block.new.known in
    let entered : numbers_of c.pass_numbers.new.inner ≡ inner = c.in_ok-pass_numbers-in-None.ensures ∙ ap (with_arguments e f.params c.args.args.now) c.new-inner.ensures in
    let tail = behind (limits rs) (silent e) in
    let l = c.in-Passed.limit in
    let body : Meets c.args.count (b inner) (Passed l) k = subst (λ j. Meets c.args.count (b j) (Passed l) k) entered (subst (λ r. Meets c.args.count (b (numbers_of c.pass_numbers.new.inner)) r k) c.in-Passed.is c.in_ok-limit-in-None.ensures) in
    limits_none c.args.count xs (behind (b inner).steps tail) (Passed l) e (sym c.in-None.is ∙ c.in_ok-limit.ensures at)
    (steps_stop c.args.count (b inner).steps tail l e body.0)

pub meet_copies-returns-in-Some-2 : goal.meet_copies-returns-in-Some-2
meet_copies-returns-in-Some-2 t c = λ at.
    let cs : Callees = callees_in c.args.callable.now c.args.left in
    let e = numbers_of c.args.known.now in
    let f = c.args.fun.now in
    let b = block_walk cs f.body in
    let xs = argument_limits e at f.params c.args.args.now in
    let rs = result_limits e at c.args.to.now f.result in
    let inner = with_arguments e f.params c.args.args.now no_numbers in
    let k = numbers_of c.meet_block.new.known in
    let entered : numbers_of c.pass_numbers.new.inner ≡ inner = c.in_ok-pass_numbers-in-None.ensures ∙ ap (with_arguments e f.params c.args.args.now) c.new-inner.ensures in
    let tail = behind (limits rs) (silent e) in
    let l = c.in-Some-2.limit in
    let m = c.in-Within.count in
    let body : Meets c.args.count (b inner) (Within m) k = subst (λ j. Meets c.args.count (b j) (Within m) k) entered (subst (λ r. Meets c.args.count (b (numbers_of c.pass_numbers.new.inner)) r k) c.in-Within.is c.in_ok-limit-in-None.ensures) in
    limits_none c.args.count xs (behind (b inner).steps tail) (Passed l) e (sym c.in-None.is ∙ c.in_ok-limit.ensures at)
    (steps_then c.args.count m (b inner).steps tail (Passed l) e body.0 (limits_stop m rs (silent e) l e (sym c.in-Some-2.is ∙ c.in_ok-limit-in-Within.ensures at)))

-- ---- tests

pub meet_if-returns-in-Passed : goal.meet_if-returns-in-Passed
meet_if-returns-in-Passed t c =
    let cs : Callees = callees_in c.args.callable.now c.args.left in
    let e = numbers_of c.args.known.now in
    steps_stop c.args.count (one ∷ []) (arms c.args.cond.now (block_walk cs c.args.holds.now) (block_walk cs c.args.other.now) e) c.in-Passed.limit e c.in-Passed.ensures

pub meet_if-returns-in_ok-met-in-Within : goal.meet_if-returns-in_ok-met-in-Within
meet_if-returns-in_ok-met-in-Within t c =
    let cs : Callees = callees_in c.args.callable.now c.args.left in
    let e = numbers_of c.args.known.now in
    steps_then c.args.count c.in-Within.count (one ∷ []) (arms c.args.cond.now (block_walk cs c.args.holds.now) (block_walk cs c.args.other.now) e) c.in_ok-met-in-Within.met (numbers_of c.meet_arms.new.known)
    c.in-Within.ensures c.in_ok-met-in-Within.ensures

pub meet_arms-returns-in-Neither : goal.meet_arms-returns-in-Neither
meet_arms-returns-in-Neither t c =
    let cs : Callees = callees_in c.args.callable.now c.args.left in
    let e = numbers_of c.args.known.now in
    let a = block_walk cs c.args.holds.now in
    let b = block_walk cs c.args.other.now in
    neither_met c.args.cond.now a b e c.args.count c.in-Neither.limit e (subst (IsTest e c.args.cond.now) c.in-Neither.is c.in_ok-limit.ensures)

pub meet_arms-returns-in_ok-met-in-First : goal.meet_arms-returns-in_ok-met-in-First
meet_arms-returns-in_ok-met-in-First t c =
    let cs : Callees = callees_in c.args.callable.now c.args.left in
    let e = numbers_of c.args.known.now in
    let a = block_walk cs c.args.holds.now in
    let b = block_walk cs c.args.other.now in
    first_met c.args.cond.now a b e c.args.count c.in_ok-met-in-First.met (numbers_of c.meet_block.new.known) (subst (IsTest e c.args.cond.now) c.in-First.is c.in_ok-limit.ensures) c.in_ok-met-in-First.ensures

pub meet_arms-returns-in_ok-met-in-Second : goal.meet_arms-returns-in_ok-met-in-Second
meet_arms-returns-in_ok-met-in-Second t c =
    let cs : Callees = callees_in c.args.callable.now c.args.left in
    let e = numbers_of c.args.known.now in
    let a = block_walk cs c.args.holds.now in
    let b = block_walk cs c.args.other.now in
    second_met c.args.cond.now a b e c.args.count c.in_ok-met-in-Second.met (numbers_of c.meet_block-in-Second.new.known) (subst (IsTest e c.args.cond.now) c.in-Second.is c.in_ok-limit.ensures) c.in_ok-met-in-Second.ensures

pub meet_arms-returns-in-Passed : goal.meet_arms-returns-in-Passed
meet_arms-returns-in-Passed t c =
    let cs : Callees = callees_in c.args.callable.now c.args.left in
    let e = numbers_of c.args.known.now in
    let a = block_walk cs c.args.holds.now in
    let b = block_walk cs c.args.other.now in
    let k = numbers_of c.meet_block-in-Both.new.known in
    both_stop c.args.cond.now a b e c.args.count c.in-Passed.limit k k (subst (IsTest e c.args.cond.now) c.in-Both.is c.in_ok-limit.ensures) (subst (λ r. Meets c.args.count (a e) r k) c.in-Passed.is c.in_ok-limit-in-Both.ensures)

pub meet_arms-returns-in_ok-met-in-Within : goal.meet_arms-returns-in_ok-met-in-Within
meet_arms-returns-in_ok-met-in-Within t c =
    let cs : Callees = callees_in c.args.callable.now c.args.left in
    let e = numbers_of c.args.known.now in
    let a = block_walk cs c.args.holds.now in
    let b = block_walk cs c.args.other.now in
    let j = numbers_of c.meet_block-in-Both.new.known in
    both_met c.args.cond.now a b e c.args.count c.in-Within.count c.in_ok-met-in-Within.met j (numbers_of c.meet_block-in-Within.new.known)
    (subst (IsTest e c.args.cond.now) c.in-Both.is c.in_ok-limit.ensures) (subst (λ r. Meets c.args.count (a e) r j) c.in-Within.is c.in_ok-limit-in-Both.ensures) c.in_ok-met-in-Within.ensures

pub meet_while-returns-in-Passed : goal.meet_while-returns-in-Passed
meet_while-returns-in-Passed t c =
    let cs : Callees = callees_in c.args.callable.now c.args.left in
    let e = numbers_of c.args.known.now in
    let p = block_walk cs c.args.prologue.now in
    let b = test_and_body c.args.cond.now (body_walk cs c.args.body.now) in
    steps_stop c.args.count (one ∷ []) (followed (p e) b) c.in-Passed.limit e c.in-Passed.ensures

pub meet_while-returns-in-Passed-2 : goal.meet_while-returns-in-Passed-2
meet_while-returns-in-Passed-2 t c =
    let cs : Callees = callees_in c.args.callable.now c.args.left in
    let e = numbers_of c.args.known.now in
    let p = block_walk cs c.args.prologue.now in
    let b = test_and_body c.args.cond.now (body_walk cs c.args.body.now) in
    let k = numbers_of c.meet_block.new.known in
    let l = c.in-Passed-2.limit in
    steps_then c.args.count c.in-Within.count (one ∷ []) (followed (p e) b) (Passed l) k c.in-Within.ensures
    (walk_stop c.in-Within.count (p e) b l k k (subst (λ r. Meets c.in-Within.count (p e) r k) c.in-Passed-2.is c.in_ok-limit-in-Within.ensures))

pub meet_while-returns-in_ok-met-in-Within-2 : goal.meet_while-returns-in_ok-met-in-Within-2
meet_while-returns-in_ok-met-in-Within-2 t c =
    let cs : Callees = callees_in c.args.callable.now c.args.left in
    let e = numbers_of c.args.known.now in
    let p = block_walk cs c.args.prologue.now in
    let b = test_and_body c.args.cond.now (body_walk cs c.args.body.now) in
    let j = numbers_of c.meet_block.new.known in
    let k = numbers_of c.meet_turn_end.new.known in
    let r = c.in_ok-met-in-Within-2.met in
    steps_then c.args.count c.in-Within.count (one ∷ []) (followed (p e) b) r k c.in-Within.ensures
    (walk_then c.in-Within.count c.in-Within-2.count (p e) b r j k (subst (λ m. Meets c.in-Within.count (p e) m j) c.in-Within-2.is c.in_ok-limit-in-Within.ensures) c.in_ok-met-in-Within-2.ensures)

pub meet_turn_end-returns-in-Neither : goal.meet_turn_end-returns-in-Neither
meet_turn_end-returns-in-Neither t c =
    let e = numbers_of c.args.known.now in
    let b = body_walk (callees_in c.args.callable.now c.args.left) c.args.body.now in
    neither_met c.args.cond.now b silent e c.args.count c.in-Neither.limit e (subst (IsTest e c.args.cond.now) c.in-Neither.is c.in_ok-limit.ensures)

pub meet_turn_end-returns-in_ok-met-in-First : goal.meet_turn_end-returns-in_ok-met-in-First
meet_turn_end-returns-in_ok-met-in-First t c =
    let e = numbers_of c.args.known.now in
    let b = body_walk (callees_in c.args.callable.now c.args.left) c.args.body.now in
    first_met c.args.cond.now b silent e c.args.count c.in_ok-met-in-First.met (numbers_of c.meet_body.new.known) (subst (IsTest e c.args.cond.now) c.in-First.is c.in_ok-limit.ensures) c.in_ok-met-in-First.ensures

pub meet_turn_end-returns-in-Second : goal.meet_turn_end-returns-in-Second
meet_turn_end-returns-in-Second t c =
    let e = numbers_of c.args.known.now in
    let b = body_walk (callees_in c.args.callable.now c.args.left) c.args.body.now in
    second_met c.args.cond.now b silent e c.args.count (Within c.args.count) e (subst (IsTest e c.args.cond.now) c.in-Second.is c.in_ok-limit.ensures) (nothing_met c.args.count e c.requires)

pub meet_turn_end-returns-in_ok-met-in-Both : goal.meet_turn_end-returns-in_ok-met-in-Both
meet_turn_end-returns-in_ok-met-in-Both t c =
    let e = numbers_of c.args.known.now in
    let b = body_walk (callees_in c.args.callable.now c.args.left) c.args.body.now in
    body_met c.args.cond.now b e c.args.count c.in_ok-met-in-Both.met (numbers_of c.meet_body-in-Both.new.known) (subst (IsTest e c.args.cond.now) c.in-Both.is c.in_ok-limit.ensures) c.in_ok-met-in-Both.ensures

-- ---- bodies that may be absent

pub meet_body-returns-in-None : goal.meet_body-returns-in-None
meet_body-returns-in-None t c =
    let cs : Callees = callees_in c.args.callable.now c.args.left in
    let e = numbers_of c.args.known.now in
    subst (λ b. Meets c.args.count (body_walk cs b e) (Within c.args.count) e) (sym c.in-None.is) (nothing_met c.args.count e c.requires)

pub meet_body-returns-in_ok-met-in-Some : goal.meet_body-returns-in_ok-met-in-Some
meet_body-returns-in_ok-met-in-Some t c =
    let cs : Callees = callees_in c.args.callable.now c.args.left in
    let e = numbers_of c.args.known.now in
    subst (λ b. Meets c.args.count (body_walk cs b e) c.in_ok-met-in-Some.met (numbers_of c.meet_block.new.known)) (sym c.in-Some.is) c.in_ok-met-in-Some.ensures

-- ---- `for`

pub meet_rounds-loop-value-init : goal.meet_rounds-loop-value-init
meet_rounds-loop-value-init t c = all_left c.args.count _ c.requires

pub meet_rounds-loop-value-preserved : goal.meet_rounds-loop-value-preserved
meet_rounds-loop-value-preserved t c =
    let b = block_walk (callees_in c.args.callable.now c.args.left) c.args.body.now in
    let v = c.args.counter.now in
    let e = numbers_of c.loop-value.known in
    let k = numbers_of c.meet_round.new.known in
    let is = values_left c.take.new.self in
    let p = behind (one ∷ []) (b (with_number e v (Some c.in-Some.value))) in
    let all = rounds v b (values_left c.args.values) (numbers_of c.args.known.now) in
    let met = subst (λ i. Meets c.loop-value.met (behind (one ∷ []) (b (with_number e v (Some i)))) c.in_ok-limit.field-0 k) (to_z-of_z w128 c.in-Some.value (search rules)) c.in_ok-limit.ensures in
    next_left c.args.count c.loop-value.met c.in-Within.more all (rounds v b (values_left c.loop-value.values) e) p (rounds v b is) k
    c.loop-value.invariant (ap (λ js. rounds v b js e) c.in-Some.ensures)
    (subst (λ r. Meets c.loop-value.met p r k) c.in-Within.is met)

pub meet_rounds-returns-in-Passed : goal.meet_rounds-returns-in-Passed
meet_rounds-returns-in-Passed t c =
    let b = block_walk (callees_in c.args.callable.now c.args.left) c.args.body.now in
    let v = c.args.counter.now in
    let e = numbers_of c.loop-value.known in
    let k = numbers_of c.meet_round.new.known in
    let is = values_left c.take.new.self in
    let p = behind (one ∷ []) (b (with_number e v (Some c.in-Some.value))) in
    let all = rounds v b (values_left c.args.values) (numbers_of c.args.known.now) in
    let met = subst (λ i. Meets c.loop-value.met (behind (one ∷ []) (b (with_number e v (Some i)))) c.in_ok-limit.field-0 k) (to_z-of_z w128 c.in-Some.value (search rules)) c.in_ok-limit.ensures in
    left_stops c.args.count c.loop-value.met all (rounds v b (values_left c.loop-value.values) e) p (rounds v b is) c.in-Passed.limit k k
    c.loop-value.invariant (ap (λ js. rounds v b js e) c.in-Some.ensures)
    (subst (λ r. Meets c.loop-value.met p r k) c.in-Passed.is met)

pub meet_rounds-returns : goal.meet_rounds-returns
meet_rounds-returns t c =
    let b = block_walk (callees_in c.args.callable.now c.args.left) c.args.body.now in
    let v = c.args.counter.now in
    let e = numbers_of c.loop-value.known in
    none_left c.args.count c.loop-value.met (rounds v b (values_left c.args.values) (numbers_of c.args.known.now)) (rounds v b (values_left c.loop-value.values) e) e c.loop-value.invariant
    (ap (λ js. rounds v b js e) c.in_default.ensures)

pub meet_round-returns-in-Passed : goal.meet_round-returns-in-Passed
meet_round-returns-in-Passed t c =
    let e = numbers_of c.args.known.now in
    let b = block_walk (callees_in c.args.callable.now c.args.left) c.args.body.now in
    steps_stop c.args.count (one ∷ []) (b (with_number e c.args.counter.now (Some c.args.value))) c.in-Passed.limit e c.in-Passed.ensures

pub meet_round-returns-in_ok-met-in-Within : goal.meet_round-returns-in_ok-met-in-Within
meet_round-returns-in_ok-met-in-Within t c =
    let e = numbers_of c.args.known.now in
    let b = block_walk (callees_in c.args.callable.now c.args.left) c.args.body.now in
    let k = numbers_of c.meet_block.new.known in
    let r = c.in_ok-met-in-Within.met in
    let v = c.args.counter.now in
    steps_then c.args.count c.in-Within.count (one ∷ []) (b (with_number e v (Some c.args.value))) r k c.in-Within.ensures
    (subst (λ j. Meets c.in-Within.count (b j) r k)
    (c.in_ok-set-in-Within.ensures ∙ ap (λ i. with_number e v (Some i)) (to_z-of_z w128 c.args.value (search rules))) c.in_ok-met-in-Within.ensures)

pub meet_for-returns-in-Some : goal.meet_for-returns-in-Some
meet_for-returns-in-Some t c = λ at.
    let cs : Callees = callees_in c.args.callable.now c.args.left in
    let e = numbers_of c.args.known.now in
    let b = block_walk cs c.args.body.now in
    let f = counter_at c.args.counter at in
    let v = c.args.counter.counter.now in
    let bounds = widths e f.from ++ widths e f.to in
    let back : KnownNumbers → Walk = λ j. silent (with_number j v (number_of e v)) in
    let turned = rounds v b (counted_values f.down (number_in e f.from) (number_in e f.to)) e in
    limits_stop c.args.count bounds (followed turned back) c.in-Some.limit e (sym c.in-Some.is ∙ c.in_ok-limit.ensures)

pub meet_for-returns-in-Passed : goal.meet_for-returns-in-Passed
meet_for-returns-in-Passed t c = λ at.
    let cs : Callees = callees_in c.args.callable.now c.args.left in
    let e = numbers_of c.args.known.now in
    let b = block_walk cs c.args.body.now in
    let f = counter_at c.args.counter at in
    let v = c.args.counter.counter.now in
    let bounds = widths e f.from ++ widths e f.to in
    let back : KnownNumbers → Walk = λ j. silent (with_number j v (number_of e v)) in
    let turned = rounds v b (counted_values f.down (number_in e f.from) (number_in e f.to)) e in
    let k = numbers_of c.meet_rounds.new.known in
    let l = c.in-Passed.limit in
    let met = subst (λ is. Meets c.args.count (rounds v b is e) (Passed l) k) c.in_ok-values-in-None.ensures
    (subst (λ r. Meets c.args.count (rounds v b (values_left c.in_ok-values-in-None.values) e) r k) c.in-Passed.is c.in_ok-limit-in-None.ensures) in
    limits_none c.args.count bounds (followed turned back) (Passed l) k (sym c.in-None.is ∙ c.in_ok-limit.ensures) (walk_stop c.args.count turned back l k k met)

pub meet_for-returns-in_ok-set-in-Within : goal.meet_for-returns-in_ok-set-in-Within
meet_for-returns-in_ok-set-in-Within t c = λ at.
    let cs : Callees = callees_in c.args.callable.now c.args.left in
    let e = numbers_of c.args.known.now in
    let b = block_walk cs c.args.body.now in
    let f = counter_at c.args.counter at in
    let v = c.args.counter.counter.now in
    let bounds = widths e f.from ++ widths e f.to in
    let back : KnownNumbers → Walk = λ j. silent (with_number j v (number_of e v)) in
    let turned = rounds v b (counted_values f.down (number_in e f.from) (number_in e f.to)) e in
    let j = numbers_of c.meet_rounds.new.known in
    let k = numbers_of c.set.new.self in
    let m = c.in-Within.count in
    let met : Meets c.args.count turned (Within m) j = subst (λ is. Meets c.args.count (rounds v b is e) (Within m) j) c.in_ok-values-in-None.ensures
    (subst (λ r. Meets c.args.count (rounds v b (values_left c.in_ok-values-in-None.values) e) r j) c.in-Within.is c.in_ok-limit-in-None.ensures) in
    let kept : k ≡ with_number j v (number_of e v) = c.in_ok-set-in-Within.ensures ∙ ap (with_number j v) c.of-before.ensures in
    limits_none c.args.count bounds (followed turned back) (Within m) k (sym c.in-None.is ∙ c.in_ok-limit.ensures)
    (walk_then c.args.count m turned back (Within m) j k met
    (subst (λ i. Meets m (silent i) (Within m) k) kept (nothing_met m k met.0.few)))

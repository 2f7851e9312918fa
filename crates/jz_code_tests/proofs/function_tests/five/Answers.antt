use Rattle.jz_code_tests.proofs.FunctionLemmas.{five_ready}
use Rattle.jz_code_tests.proofs.function_tests.five.Goals as goal

pub returns : goal.returns
returns c =
    five_ready
    (record { entry = c.new.result; body = c.push.new.self; results = c.push-2.new.self; kinds = c.push-3.new.self; in_use = c.in_ok-in_use.in_use })
    c.new-body.result
    c.new-results.result
    c.new-kinds.result
    c.mov_five.result
    c.in_rax.result
    c.new.ensures
    c.new-body.ensures
    c.mov_five.ensures
    c.in_ok-push.ensures.ok
    c.new-results.ensures
    c.in_rax.ensures
    c.in_ok-push-2.ensures.ok
    c.new-kinds.ensures
    c.in_ok-push-3.ensures.ok

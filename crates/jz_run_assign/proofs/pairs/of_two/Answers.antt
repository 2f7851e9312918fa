use Rattle.std.proofs.Common.{◌≡◌, false, ap, ◌∙◌}
use Rattle.jz_meaning.specs.Rules.{stuck, went}
use Rattle.jz_meaning.specs.Assignments.{word_in, two_results}
use Rattle.jz_meaning.specs.Attempts.{did, numbers_first}
use Rattle.jz_meaning.specs.Stores.{state_of}
use Rattle.jz_meaning.proofs.AttemptLemmas.{gone_then, handed_on}
use Rattle.jz_run_assign.specs.Answers.{results_in}
use Rattle.jz_run_assign.specs.InnerPairs.{two_from}
use Rattle.jz_run_assign.proofs.pairs.of_two.Goals as goal

pub returns-in_err-results : goal.returns-in_err-results
returns-in_err-results c =
    let ns = c.args.out.now in
    let ms = c.word_in.new.out in
    let s = state_of c.args.state.now in
    let at = c.args.span in
    let op = c.args.op in
    let z = c.args.left.size in
    let x = c.args.left.bits in
    let b = c.args.right.now in
    let y = c.in_ok-right.right.bits in
    let word : went ms y ≡ numbers_first ns (word_in at z b s) = c.in_ok-right.ensures.bits ∙ ap (λ q. numbers_first ns (word_in at q b s)) c.size.ensures in
    handed_on c.from_residual-in_err-results.result c.in_err-results.field-0.0 (λ r. did ms (results_in r) ≡ numbers_first ms (two_results op at z x y false))
    (λ r. did ms (results_in r) ≡ numbers_first ns (two_from op at z x b s)) c.from_residual-in_err-results.ensures.1 c.in_err-results.ensures
    (λ k h. gone_then ns ms (word_in at z b s) (λ q. two_results op at z x q false) y (stuck k) word h)

pub returns : goal.returns
returns c =
    let ns = c.args.out.now in
    let ms = c.word_in.new.out in
    let s = state_of c.args.state.now in
    let at = c.args.span in
    let op = c.args.op in
    let z = c.args.left.size in
    let x = c.args.left.bits in
    let b = c.args.right.now in
    let y = c.in_ok-right.right.bits in
    let word : went ms y ≡ numbers_first ns (word_in at z b s) = c.in_ok-right.ensures.bits ∙ ap (λ q. numbers_first ns (word_in at q b s)) c.size.ensures in
    gone_then ns ms (word_in at z b s) (λ q. two_results op at z x q false) y _ word c.in_ok-results.ensures

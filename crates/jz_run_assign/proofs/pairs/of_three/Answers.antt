use Rattle.std.proofs.Common.{◌≡◌, ap, ◌∙◌}
use Rattle.jz_meaning.specs.Rules.{stuck, went}
use Rattle.jz_meaning.specs.Assignments.{word_in, bool_in, two_results}
use Rattle.jz_meaning.specs.Attempts.{did, numbers_first, and_then}
use Rattle.jz_meaning.specs.Stores.{state_of}
use Rattle.jz_meaning.proofs.AttemptLemmas.{gone_then, handed_on}
use Rattle.jz_run_assign.specs.Answers.{results_in}
use Rattle.jz_run_assign.specs.InnerPairs.{three_from}
use Rattle.jz_run_assign.proofs.pairs.of_three.Goals as goal

pub returns-in_err-results : goal.returns-in_err-results
returns-in_err-results c =
    let ns = c.args.out.now in
    let ms = c.word_in.new.out in
    let s = state_of c.args.state.now in
    let at = c.args.span in
    let op = c.args.op in
    let z = c.args.left.size in
    let x = c.args.left.bits in
    let b = c.args.right.now in
    let y = c.in_ok-right.right.bits in
    let word : went ms y ≡ numbers_first ns (word_in at z b s) = c.in_ok-right.ensures.bits ∙ ap (λ q. numbers_first ns (word_in at q b s)) c.size.ensures in
    let e = c.args.flag.now in
    let ks = c.truth_in.new.out in
    let flag = c.in_ok-flag.flag in
    handed_on c.from_residual-in_err-results.result c.in_err-results.field-0.0 (λ r. did ks (results_in r) ≡ numbers_first ks (two_results op at z x y flag))
    (λ r. did ks (results_in r) ≡ numbers_first ns (three_from op at z x b e s)) c.from_residual-in_err-results.ensures.1 c.in_err-results.ensures
    (λ k h. gone_then ns ms (word_in at z b s) (λ q. and_then (bool_in at e s) (two_results op at z x q)) y (stuck k) word (gone_then ms ks (bool_in at e s) (two_results op at z x y) flag (stuck k) c.in_ok-flag.ensures h))

pub returns : goal.returns
returns c =
    let ns = c.args.out.now in
    let ms = c.word_in.new.out in
    let s = state_of c.args.state.now in
    let at = c.args.span in
    let op = c.args.op in
    let z = c.args.left.size in
    let x = c.args.left.bits in
    let b = c.args.right.now in
    let y = c.in_ok-right.right.bits in
    let word : went ms y ≡ numbers_first ns (word_in at z b s) = c.in_ok-right.ensures.bits ∙ ap (λ q. numbers_first ns (word_in at q b s)) c.size.ensures in
    let e = c.args.flag.now in
    let ks = c.truth_in.new.out in
    let flag = c.in_ok-flag.flag in
    gone_then ns ms (word_in at z b s) (λ q. and_then (bool_in at e s) (two_results op at z x q)) y _ word (gone_then ms ks (bool_in at e s) (two_results op at z x y) flag _ c.in_ok-flag.ensures c.in_ok-results.ensures)

use Rattle.std.proofs.Common.{◌≡◌, ap, sym, ◌∙◌}
use Rattle.jz_meaning.specs.Rules.{stuck}
use Rattle.jz_meaning.specs.Attempts.{did, numbers_first}
use Rattle.jz_meaning.specs.Stores.{state_of}
use Rattle.jz_meaning.specs.Assignments.{word_in}
use Rattle.jz_meaning.proofs.AttemptLemmas.{gone_then, handed_on}
use Rattle.jz_run_assign.specs.Answers.{results_in}
use Rattle.jz_run_assign.specs.InnerRights.{operand_of}
use Rattle.jz_run_assign.specs.InnerPairs.{two_from, three_from, results_of_pair}
use Rattle.jz_run_assign.proofs.pairs.of_pair.Goals as goal

pub returns-in_err-results-in-Two : goal.returns-in_err-results-in-Two
returns-in_err-results-in-Two c =
    let ns = c.args.out.now in
    let ms = c.operand_word.new.out in
    let s = state_of c.args.state.now in
    let z = c.args.size in
    let op = c.in-Two.op in
    let at = c.in-Two.span in
    let b = c.in-Two.right.now in
    let x = c.in_ok-left-in-Two.left in
    let size : x.size ≡ z = c.in_ok-left-in-Two.ensures.size in
    handed_on c.from_residual-in_err-results-in-Two.result c.in_err-results-in-Two.field-0.0 (λ r. did c.of_two.new.out (results_in r) ≡ numbers_first ms (two_from op at x.size x.bits b s))
    (λ r. did c.of_two.new.out (results_in r) ≡ numbers_first ns (results_of_pair c.args.pair z s)) c.from_residual-in_err-results-in-Two.ensures.1 c.in_err-results-in-Two.ensures
    (λ k h. gone_then ns ms (word_in at z (operand_of c.in-Two.left) s) (λ n. two_from op at z n b s) x.bits (stuck k) c.in_ok-left-in-Two.ensures.bits (h ∙ ap (λ y. numbers_first ms (two_from op at y x.bits b s)) size)
    ∙ ap (λ p. numbers_first ns (results_of_pair p z s)) (sym c.in-Two.is))

pub returns-in_ok-results-in-Two : goal.returns-in_ok-results-in-Two
returns-in_ok-results-in-Two c =
    let ns = c.args.out.now in
    let ms = c.operand_word.new.out in
    let s = state_of c.args.state.now in
    let z = c.args.size in
    let op = c.in-Two.op in
    let at = c.in-Two.span in
    let b = c.in-Two.right.now in
    let x = c.in_ok-left-in-Two.left in
    let size : x.size ≡ z = c.in_ok-left-in-Two.ensures.size in
    gone_then ns ms (word_in at z (operand_of c.in-Two.left) s) (λ n. two_from op at z n b s) x.bits _ c.in_ok-left-in-Two.ensures.bits
    (c.in_ok-results-in-Two.ensures ∙ ap (λ y. numbers_first ms (two_from op at y x.bits b s)) size)
    ∙ ap (λ p. numbers_first ns (results_of_pair p z s)) (sym c.in-Two.is)

pub returns-in_err-results-in-Three : goal.returns-in_err-results-in-Three
returns-in_err-results-in-Three c =
    let ns = c.args.out.now in
    let ms = c.operand_word-in-Three.new.out in
    let s = state_of c.args.state.now in
    let z = c.args.size in
    let op = c.in-Three.op in
    let at = c.in-Three.span in
    let b = c.in-Three.right.now in
    let flag = c.in-Three.flag.now in
    let x = c.in_ok-left-in-Three.left in
    let size : x.size ≡ z = c.in_ok-left-in-Three.ensures.size in
    handed_on c.from_residual-in_err-results-in-Three.result c.in_err-results-in-Three.field-0.0 (λ r. did c.of_three.new.out (results_in r) ≡ numbers_first ms (three_from op at x.size x.bits b flag s))
    (λ r. did c.of_three.new.out (results_in r) ≡ numbers_first ns (results_of_pair c.args.pair z s)) c.from_residual-in_err-results-in-Three.ensures.1 c.in_err-results-in-Three.ensures
    (λ k h. gone_then ns ms (word_in at z (operand_of c.in-Three.left) s) (λ n. three_from op at z n b flag s) x.bits (stuck k) c.in_ok-left-in-Three.ensures.bits (h ∙ ap (λ y. numbers_first ms (three_from op at y x.bits b flag s)) size)
    ∙ ap (λ p. numbers_first ns (results_of_pair p z s)) (sym c.in-Three.is))

pub returns-in_ok-results-in-Three : goal.returns-in_ok-results-in-Three
returns-in_ok-results-in-Three c =
    let ns = c.args.out.now in
    let ms = c.operand_word-in-Three.new.out in
    let s = state_of c.args.state.now in
    let z = c.args.size in
    let op = c.in-Three.op in
    let at = c.in-Three.span in
    let b = c.in-Three.right.now in
    let flag = c.in-Three.flag.now in
    let x = c.in_ok-left-in-Three.left in
    let size : x.size ≡ z = c.in_ok-left-in-Three.ensures.size in
    gone_then ns ms (word_in at z (operand_of c.in-Three.left) s) (λ n. three_from op at z n b flag s) x.bits _ c.in_ok-left-in-Three.ensures.bits
    (c.in_ok-results-in-Three.ensures ∙ ap (λ y. numbers_first ms (three_from op at y x.bits b flag s)) size)
    ∙ ap (λ p. numbers_first ns (results_of_pair p z s)) (sym c.in-Three.is)

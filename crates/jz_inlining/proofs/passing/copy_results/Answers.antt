use Rattle.std.proofs.Common.{rules, ◌∙◌, refl, ap, sym}
use Rattle.std.specs.Option.{option_copied}
use Rattle.jz_inline.specs.Names.{Names}
use Rattle.jz_inline.specs.CopiedNames.{names_of}
use Rattle.jz_inlining.specs.InnerCopies.{one_result}
use Rattle.jz_inlining.proofs.InStep.{goes_on, first_ends, second_ends, results_from, results_go}
use Rattle.jz_inlining.proofs.passing.copy_results.Goals as goal

pub loop-i-preserved : goal.loop-i-preserved
loop-i-preserved c =
    let o : Names = names_of c.args.outer.now in
    let n : Names = names_of c.args.inner.now in
    let at = c.args.span in
    goes_on (results_from o n at) (λ k d x. one_result o n at d x) (λ k d x. k) (results_go o n at) c.args.to.now c.args.vars.now c.loop-i.i 0 c.loop-i.out _ c.loop-i.invariant
    c.left-item.result c.in-Some.var.now c.copy_result.new.out 0 (search rules) (search rules) (sym c.get.ensures.value ∙ ap option_copied c.in-Some.is) c.in_ok-copy_result-in-Some.ensures refl

pub returns-in-None : goal.returns-in-None
returns-in-None c =
    let o : Names = names_of c.args.outer.now in
    let n : Names = names_of c.args.inner.now in
    let at = c.args.span in
    second_ends (results_from o n at) (λ k d x. one_result o n at d x) (λ k d x. k) (results_go o n at) c.args.to.now c.args.vars.now c.loop-i.i 0 c.loop-i.out _ c.loop-i.invariant
    (sym c.get.ensures.value ∙ ap option_copied c.in-None.is)

pub returns : goal.returns
returns c =
    let o : Names = names_of c.args.outer.now in
    let n : Names = names_of c.args.inner.now in
    let at = c.args.span in
    first_ends (results_from o n at) (λ k d x. one_result o n at d x) (λ k d x. k) (results_go o n at) c.args.to.now c.args.vars.now c.loop-i.i 0 c.loop-i.out _ c.loop-i.invariant (search rules)

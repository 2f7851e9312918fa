use Rattle.std.proofs.Common.{rules, ◌∙◌, refl, ap, sym}
use Rattle.std.specs.Option.{option_copied}
use Rattle.jz_inline.specs.Names.{Names}
use Rattle.jz_inline.specs.CopiedNames.{names_of}
use Rattle.jz_inlining.specs.InnerCopies.{one_argument}
use Rattle.jz_inlining.proofs.InStep.{goes_on, first_ends, second_ends, arguments_from, arguments_go}
use Rattle.jz_inlining.proofs.passing.copy_arguments.Goals as goal

pub loop-i-preserved : goal.loop-i-preserved
loop-i-preserved c =
    let o : Names = names_of c.args.outer.now in
    let n : Names = names_of c.args.inner.now in
    let at = c.args.span in
    goes_on (arguments_from o n at) (λ k p e. one_argument o n at p e) (λ k p e. k) (arguments_go o n at) c.args.params.now c.args.args.now c.loop-i.i 0 c.loop-i.out _ c.loop-i.invariant
    c.param-item.result c.in-Some.arg.now c.copy_argument.new.out 0 (search rules) (search rules) (sym c.get.ensures.value ∙ ap option_copied c.in-Some.is) c.in_ok-copy_argument-in-Some.ensures refl

pub returns-in-None : goal.returns-in-None
returns-in-None c =
    let o : Names = names_of c.args.outer.now in
    let n : Names = names_of c.args.inner.now in
    let at = c.args.span in
    second_ends (arguments_from o n at) (λ k p e. one_argument o n at p e) (λ k p e. k) (arguments_go o n at) c.args.params.now c.args.args.now c.loop-i.i 0 c.loop-i.out _ c.loop-i.invariant
    (sym c.get.ensures.value ∙ ap option_copied c.in-None.is)

pub returns : goal.returns
returns c =
    let o : Names = names_of c.args.outer.now in
    let n : Names = names_of c.args.inner.now in
    let at = c.args.span in
    first_ends (arguments_from o n at) (λ k p e. one_argument o n at p e) (λ k p e. k) (arguments_go o n at) c.args.params.now c.args.args.now c.loop-i.i 0 c.loop-i.out _ c.loop-i.invariant (search rules)

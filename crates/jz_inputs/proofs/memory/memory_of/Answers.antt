use Rattle.std.proofs.Common.{◌∙◌, subst, rules}
use Rattle.std.proofs.lemmas.List.{take_all}
use Rattle.jz_preconditions.specs.Meeting.{regions_of, names_of}
use Rattle.jz_inputs.specs.InnerFilled.{is_in_one, IsFilled}
use Rattle.jz_inputs.proofs.Filling.{empty_filled, holds}
use Rattle.jz_inputs.proofs.memory.memory_of.Goals as goal

pub loop-pre-init : goal.loop-pre-init
loop-pre-init c = empty_filled c.args.items.now c.new-memory.result c.new-memory.ensures

pub returns : goal.returns
returns c =
    let f = c.args.fun.now in
    let m = c.loop-pre.memory in
    holds f c.args.words.now c.args.items.now c.args.pres.now m c.requires
    (subst (λ ps. IsFilled c.args.items.now (is_in_one (regions_of (names_of f) ps c.args.words.now)) m)
    (take_all c.loop-pre.pre-index c.as_slice-pre-items.result.now (search rules) ∙ c.as_slice-pre-items.ensures) c.loop-pre.invariant)

use Rattle.std.proofs.Common.{rules, ◌∙◌, ap, sym, length}
use Rattle.std.specs.Option.{option_copied}
use Rattle.jz_inline.specs.Calls.{argument_items}
use Rattle.jz_inlining.specs.InnerItems.{argument_item, behind_argument}
use Rattle.jz_inlining.proofs.InStep.{goes_on, first_ends, second_ends, argument_items_go}
use Rattle.jz_inlining.proofs.numbers.items_of_arguments.Goals as goal

pub loop-i-preserved : goal.loop-i-preserved
loop-i-preserved c =
    goes_on argument_items argument_item behind_argument argument_items_go c.args.params.now c.args.args.now c.loop-i.i (length c.loop-i.all.items) c.loop-i.items _ c.loop-i.invariant
    c.param-item.result c.in-Some.arg.now c.push_argument.new.out (length c.push_argument.new.all.items) (search rules) (search rules) (sym c.get.ensures.value ∙ ap option_copied c.in-Some.is)
    c.in_ok-push_argument-in-Some.ensures.items c.in_ok-push_argument-in-Some.ensures.all

pub returns-in-None : goal.returns-in-None
returns-in-None c =
    second_ends argument_items argument_item behind_argument argument_items_go c.args.params.now c.args.args.now c.loop-i.i (length c.loop-i.all.items) c.loop-i.items _ c.loop-i.invariant
    (sym c.get.ensures.value ∙ ap option_copied c.in-None.is)

pub returns : goal.returns
returns c = first_ends argument_items argument_item behind_argument argument_items_go c.args.params.now c.args.args.now c.loop-i.i (length c.loop-i.all.items) c.loop-i.items _ c.loop-i.invariant (search rules)

use Rattle.std.proofs.Common.{rules, ◌∙◌, ap, sym, length}
use Rattle.std.specs.Option.{option_copied}
use Rattle.jz_inline.specs.Calls.{result_items}
use Rattle.jz_inlining.specs.InnerItems.{result_item, behind_result}
use Rattle.jz_inlining.proofs.InStep.{goes_on, first_ends, second_ends, result_items_go}
use Rattle.jz_inlining.proofs.numbers.items_of_results.Goals as goal

pub loop-i-preserved : goal.loop-i-preserved
loop-i-preserved c =
    goes_on result_items result_item behind_result result_items_go c.args.to.now c.args.vars.now c.loop-i.i (length c.loop-i.all.items) c.loop-i.items _ c.loop-i.invariant
    c.left-item.result c.in-Some.var.now c.push_result.new.out (length c.push_result.new.all.items) (search rules) (search rules) (sym c.get.ensures.value ∙ ap option_copied c.in-Some.is)
    c.in_ok-push_result-in-Some.ensures.items c.in_ok-push_result-in-Some.ensures.all

pub returns-in-None : goal.returns-in-None
returns-in-None c =
    second_ends result_items result_item behind_result result_items_go c.args.to.now c.args.vars.now c.loop-i.i (length c.loop-i.all.items) c.loop-i.items _ c.loop-i.invariant
    (sym c.get.ensures.value ∙ ap option_copied c.in-None.is)

pub returns : goal.returns
returns c = first_ends result_items result_item behind_result result_items_go c.args.to.now c.args.vars.now c.loop-i.i (length c.loop-i.all.items) c.loop-i.items _ c.loop-i.invariant (search rules)

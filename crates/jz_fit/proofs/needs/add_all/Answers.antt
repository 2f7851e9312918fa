use Rattle.std.proofs.Common.{◌∙◌, ap}
use Rattle.x64_insn.specs.declared.types.Place.TheVariants as place
use Rattle.x64_insn.specs.declared.types.Reg.TheVariants as reg
use Rattle.jz_ir.specs.declared.code.Need.{Need}
use Rattle.jz_alloc.specs.InnerNeeds.{add_needs}
use Rattle.jz_fit.proofs.Searching.{need_taken, need_left}
use Rattle.jz_fit.proofs.needs.add_all.Goals as goal
use Rattle.jz_fit.proofs.needs.add_all.Goals.{then-need-variable+in_ok-add_need, else-need-variable}

-- what stands past the end of the list
abbrev none : Need
none = record { variable = 0; place = place.Reg reg.Rax; span = record { line = 0; col = 0 } }

pub loop-need-preserved : goal.loop-need-preserved
loop-need-preserved c =
    let all = add_needs c.args.variable c.as_slice-need-items.result.now c.args.needs.now.items in
    elim c.if-need-variable.branch [
      | then-need-variable+in_ok-add_need w ↦ need_taken c.args.variable c.as_slice-need-items.result.now c.loop-need.need-index none c.loop-need.needs.items c.if-need-variable.needs.items all c.loop-need-test.true c.loop-need.invariant.0 c.loop-need.invariant.1 w.if-need-variable.true (ap (λ x. x.items) w.needs-is ∙ w.in_ok-add_need.ensures)
      | else-need-variable w ↦ need_left c.args.variable c.as_slice-need-items.result.now c.loop-need.need-index none c.loop-need.needs.items c.if-need-variable.needs.items all c.loop-need-test.true c.loop-need.invariant.0 c.loop-need.invariant.1 w.if-need-variable.false (ap (λ x. x.items) w.needs-is)
    ]

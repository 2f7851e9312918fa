use Rattle.std.proofs.Common.{ap, rules, sym, to_z, ◌∙◌}
use Rattle.std.proofs.lemmas.Int.{to_z-of_z}
use Rattle.std.specs.Int.{w128}
use Rattle.jz_operands.specs.TableHomes.{homes_of}
use Rattle.jz_instructions.proofs.CountLemmas.{variable_finds, no_mask, no_mask_number, no_masked_variable}
use Rattle.jz_instructions.proofs.counting.masked.Goals as goal

pub returns-then-number-mask_of : goal.returns-then-number-mask_of
returns-then-number-mask_of c = λ here.
    variable_finds (homes_of c.args.homes.now) c.args.size c.args.var.now c.args.mask.now c.in-Var.var c.in-Num.number c.in-Num.field-1 here c.by_variable.result c.in-Var.is c.in-Num.is
    (sym (to_z-of_z w128 c.in-Num.number (search rules)) ∙ ap (to_z w128) c.if-number-mask_of.true ∙ to_z-of_z w128 c.mask_of.result (search rules) ∙ c.mask_of.ensures) (c.by_variable.ensures c.in-Num.field-1 here)

pub returns-else-number-mask_of : goal.returns-else-number-mask_of
returns-else-number-mask_of c = λ here. no_mask (homes_of c.args.homes.now) c.args.size c.args.var.now c.args.mask.now c.in-Num.number c.in-Num.field-1 here c.in-Num.is (search rules)

pub returns-in_default-mask : goal.returns-in_default-mask
returns-in_default-mask c = λ here. no_mask_number (homes_of c.args.homes.now) c.args.size c.args.var.now c.args.mask.now here (search rules)

pub returns-in_default : goal.returns-in_default
returns-in_default c = λ here. no_masked_variable (homes_of c.args.homes.now) c.args.size c.args.var.now c.args.mask.now here (search rules)

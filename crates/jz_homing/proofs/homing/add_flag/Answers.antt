use Rattle.std.proofs.Common.{length, ◌≤◌, ◌≡◌, None, sym, ◌∙◌}
use Rattle.jz_ir.specs.declared.code.Kind.TheVariants as held
use Rattle.jz_operands.specs.declared.homes.Home.TheVariants.{Flag}
use Rattle.jz_operands.specs.TableHomes.{entries_of}
use Rattle.jz_operands.proofs.OperandLemmas.{ref_name, ref_copy}
use Rattle.jz_homing.specs.Tables.{table_in}
use Rattle.jz_homing.proofs.EntryLemmas.{variable_added}
use Rattle.jz_tree.specs.declared.expr.Expr.TheViews.{out-Var}
use Rattle.jz_homing.specs.Refusals.{most}
use Rattle.jz_homing.proofs.HandedOn.{handed_cause}
use Rattle.jz_homing.proofs.HomelessLemmas.{At, used}
use Rattle.jz_homing.proofs.homing.add_flag.Goals as goal

pub returns-clause-made : goal.returns-clause-made
returns-clause-made c =
    variable_added (table_in c.args.table.now) c.args.var.now None _ _ c.in_ok-number.number (sym (ref_name c.args.var.now)) (sym (ref_copy c.args.var.now)) (entries_of c.put.new.self)
    Flag held.Flag c.push.new.self (c.in_ok-number.ensures.made ∙ c.len.ensures) c.in_ok-put.ensures c.in_ok-push.ensures.ok

pub returns-in_err-number-clause-refused : goal.returns-in_err-number-clause-refused
returns-in_err-number-clause-refused c =
    let x = c.args.var.now in
    handed_cause (λ s. (s ≡ (out-Var x).span) × (most ≤ c.len.result)) (At x (most ≤ length c.args.table.now.kinds)) c.from_residual.result c.in_err-number.field-0.0 c.from_residual.ensures.1 c.in_err-number.ensures.refused
    (λ s h. used x s c.len.result (length c.args.table.now.kinds) c.len.ensures h)

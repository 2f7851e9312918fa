use Rattle.std.proofs.Common.{◌≡◌, ◌≤◌, ◌<◌, ◌+◌, inl, inr, length, refl, sym, subst, ◌∙◌}
use Rattle.jz_tree.specs.declared.expr.Expr.TheViews.{out-Var}
use Rattle.jz_meaning.specs.declared.access.Kind.TheVariants as kind
use Rattle.jz_meaning.specs.Values.{ref_of}
use Rattle.jz_homing.specs.Tables.{table_in}
use Rattle.jz_homing.specs.Refusals.{most, NoVariable}
use Rattle.jz_homing.proofs.HandedOn.{handed_cause}
use Rattle.jz_homing.proofs.HomelessLemmas.{At, refuses_as, at_span, no_variable}
use Rattle.jz_homing.proofs.homing.add_register.Goals as goal

pub returns-in-Word-clause-refused : goal.returns-in-Word-clause-refused
returns-in-Word-clause-refused c =
    let x = c.args.var.now in
    let t = table_in c.args.table.now in
    refuses_as (At x (most ≤ length t.kinds)) (At x (NoVariable t (ref_of x).kind)) c.add_word.result (λ s h. no_variable x t s (kind.Word c.in-Word.size) (sym c.in-Word.is ∙ c.kind_of.ensures) h) c.add_word.ensures.refused

pub returns-in-Bool-clause-refused : goal.returns-in-Bool-clause-refused
returns-in-Bool-clause-refused c =
    let x = c.args.var.now in
    let t = table_in c.args.table.now in
    refuses_as (At x (most ≤ length t.kinds)) (At x (NoVariable t (ref_of x).kind)) c.add_flag.result (λ s h. no_variable x t s kind.Bool (sym c.in-Bool.is ∙ c.kind_of.ensures) h) c.add_flag.ensures.refused

pub returns-in_ok-cells-in-Array-clause-refused : goal.returns-in_ok-cells-in-Array-clause-refused
returns-in_ok-cells-in-Array-clause-refused c =
    let x = c.args.var.now in
    let t = table_in c.args.table.now in
    refuses_as (At x (most < length t.kinds + c.in_ok-cells-in-Array.cells)) (At x (NoVariable t (ref_of x).kind)) c.add_each.result
    (λ s h. no_variable x t s (kind.Array c.in-Array.size c.in-Array.count) (sym c.in-Array.is ∙ c.kind_of.ensures) (h.0, inr (subst (λ n. most < length t.kinds + n) c.in_ok-cells-in-Array.ensures.made h.1))) c.add_each.ensures.refused

pub returns-in_err-cells-in-Array-clause-refused : goal.returns-in_err-cells-in-Array-clause-refused
returns-in_err-cells-in-Array-clause-refused c =
    let x = c.args.var.now in
    let t = table_in c.args.table.now in
    handed_cause (λ s. (s ≡ (out-Var x).span) × (most < c.in-Array.count)) (At x (NoVariable t (ref_of x).kind)) c.from_residual.result c.in_err-cells-in-Array.field-0.0 c.from_residual.ensures.1 c.in_err-cells-in-Array.ensures.refused
    (λ s h. no_variable x t s (kind.Array c.in-Array.size c.in-Array.count) (sym c.in-Array.is ∙ c.kind_of.ensures) (at_span x s h.0, inl h.1))

pub returns-in-Int-clause-refused : goal.returns-in-Int-clause-refused
returns-in-Int-clause-refused c = no_variable c.args.var.now (table_in c.args.table.now) (out-Var c.args.var.now).span kind.Int (sym c.in-Int.is ∙ c.kind_of.ensures) (at_span c.args.var.now (out-Var c.args.var.now).span refl, tt)

pub returns-in-Undeclared-clause-refused : goal.returns-in-Undeclared-clause-refused
returns-in-Undeclared-clause-refused c = no_variable c.args.var.now (table_in c.args.table.now) (out-Var c.args.var.now).span kind.Undeclared (sym c.in-Undeclared.is ∙ c.kind_of.ensures) (at_span c.args.var.now (out-Var c.args.var.now).span refl, tt)

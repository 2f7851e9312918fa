use Rattle.std.proofs.Common.{◌∷◌, ◌∙◌, ap}
use Rattle.std.proofs.lemmas.Int.{to_z-of_z}
use Rattle.std.specs.Int.{w128}
use Rattle.jz_words.specs.declared.size.Size.TheVariants.{S64}
use Rattle.jz_words.specs.Words.{residue}
use Rattle.jz_tree.specs.declared.expr.BinOp.TheVariants as op
use Rattle.jz_tree.specs.declared.expr.Expr.TheVariants as expr
use Rattle.jz_operands.specs.TableHomes.{homes_of}
use Rattle.jz_operands.specs.SumTerms.{pairs_of}
use Rattle.jz_operands.proofs.SumLemmas.{for_found, multiple_before, before_multiple}
use Rattle.jz_operands.proofs.SumRefusals.{right_is, left_is, no_register, no_room}
use Rattle.jz_operands.proofs.sums.with_multiple.Goals as goal

pub returns-in-Some-clause-right : goal.returns-in-Some-clause-right
returns-in-Some-clause-right c = λ at here. for_found c.with_factor.result
    (λ all h. multiple_before c.args.var.now c.in-Some.variable c.args.factor at here c.args.rest all c.in-Some.ensures
    (h.0 ∙ ap (λ k. (c.in-Some.variable, k) ∷ pairs_of c.args.rest.found) (c.word_64.ensures ∙ ap (residue S64) (to_z-of_z w128 c.args.factor c.ranges.factor))) h.1)
    (λ full. no_room (homes_of c.args.homes.now) (expr.Bin op.Mul (expr.Var c.args.var.now) (expr.Num c.args.factor at) here) c.args.var.now c.args.rest (right_is (homes_of c.args.homes.now) c.args.var.now c.args.factor at here) full)
    c.with_factor.ensures

pub returns-in-Some-clause-left : goal.returns-in-Some-clause-left
returns-in-Some-clause-left c = λ at here. for_found c.with_factor.result
    (λ all h. before_multiple c.args.var.now c.in-Some.variable c.args.factor at here c.args.rest all c.in-Some.ensures
    (h.0 ∙ ap (λ k. (c.in-Some.variable, k) ∷ pairs_of c.args.rest.found) (c.word_64.ensures ∙ ap (residue S64) (to_z-of_z w128 c.args.factor c.ranges.factor))) h.1)
    (λ full. no_room (homes_of c.args.homes.now) (expr.Bin op.Mul (expr.Num c.args.factor at) (expr.Var c.args.var.now) here) c.args.var.now c.args.rest (left_is (homes_of c.args.homes.now) c.args.var.now c.args.factor at here) full)
    c.with_factor.ensures

pub returns-in-None-clause-right : goal.returns-in-None-clause-right
returns-in-None-clause-right c = λ at here.
    no_register (homes_of c.args.homes.now) (expr.Bin op.Mul (expr.Var c.args.var.now) (expr.Num c.args.factor at) here) c.args.var.now c.args.rest (right_is (homes_of c.args.homes.now) c.args.var.now c.args.factor at here) c.in-None.ensures

pub returns-in-None-clause-left : goal.returns-in-None-clause-left
returns-in-None-clause-left c = λ at here.
    no_register (homes_of c.args.homes.now) (expr.Bin op.Mul (expr.Num c.args.factor at) (expr.Var c.args.var.now) here) c.args.var.now c.args.rest (left_is (homes_of c.args.homes.now) c.args.var.now c.args.factor at here) c.in-None.ensures

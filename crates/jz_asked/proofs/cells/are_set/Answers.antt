use Rattle.std.specs.Int.{w128}
use Rattle.std.proofs.Common.{rules, ap, sym, ◌∙◌}
use Rattle.std.proofs.lemmas.Int.{to_z-of_z}
use Rattle.x64_insn.specs.Size.TheVariants.{S64}
use Rattle.x64_insn.specs.Words.{residue}
use Rattle.jz_layers.specs.Spots.{variable_key}
use Rattle.jz_facts.specs.Facts.{Cell}
use Rattle.jz_inside.specs.Said.{given_in, facts_in}
use Rattle.jz_asked.specs.InnerAsked.{cells_set}
use Rattle.jz_terms.proofs.TermForms.{term_bin, term_bool, term_cast, term_cell, term_load, term_neg, term_not, term_num, term_var}
use Rattle.jz_asked.proofs.cells.are_set.Goals as goal

pub returns-in-Num : goal.returns-in-Num
returns-in-Num c = c.is_cell_set.ensures ∙ ap (λ i. facts_in c.args.says (Cell (variable_key c.args.var.now) i)) (c.bits.ensures.value ∙ c.residue.ensures.bits ∙ ap (residue S64) (to_z-of_z w128 c.in-Num.n (search rules))) ∙ sym (ap (cells_set (given_in c.args.says) (facts_in c.args.says) (variable_key c.args.var.now) c.args.cells) (term_num _ _ _ c.in-Num.is))

pub returns-in-Bool : goal.returns-in-Bool
returns-in-Bool c = c.are_cells_set.ensures ∙ sym (ap (cells_set (given_in c.args.says) (facts_in c.args.says) (variable_key c.args.var.now) c.args.cells) (term_bool _ _ _ c.in-Bool.is))

pub returns-in-Var : goal.returns-in-Var
returns-in-Var c = c.are_cells_set-in-Var.ensures ∙ sym (ap (cells_set (given_in c.args.says) (facts_in c.args.says) (variable_key c.args.var.now) c.args.cells) (term_var _ _ c.in-Var.is))

pub returns-in-Cell : goal.returns-in-Cell
returns-in-Cell c = c.are_cells_set-in-Cell.ensures ∙ sym (ap (cells_set (given_in c.args.says) (facts_in c.args.says) (variable_key c.args.var.now) c.args.cells) (term_cell _ _ _ c.in-Cell.is))

pub returns-in-Load : goal.returns-in-Load
returns-in-Load c = c.are_cells_set-in-Load.ensures ∙ sym (ap (cells_set (given_in c.args.says) (facts_in c.args.says) (variable_key c.args.var.now) c.args.cells) (term_load _ _ c.in-Load.is))

pub returns-in-Neg : goal.returns-in-Neg
returns-in-Neg c = c.are_cells_set-in-Neg.ensures ∙ sym (ap (cells_set (given_in c.args.says) (facts_in c.args.says) (variable_key c.args.var.now) c.args.cells) (term_neg _ _ _ c.in-Neg.is))

pub returns-in-Not : goal.returns-in-Not
returns-in-Not c = c.are_cells_set-in-Not.ensures ∙ sym (ap (cells_set (given_in c.args.says) (facts_in c.args.says) (variable_key c.args.var.now) c.args.cells) (term_not _ _ _ c.in-Not.is))

pub returns-in-Cast : goal.returns-in-Cast
returns-in-Cast c = c.are_cells_set-in-Cast.ensures ∙ sym (ap (cells_set (given_in c.args.says) (facts_in c.args.says) (variable_key c.args.var.now) c.args.cells) (term_cast _ _ _ _ _ c.in-Cast.is))

pub returns-in-Bin : goal.returns-in-Bin
returns-in-Bin c = c.are_cells_set-in-Bin.ensures ∙ sym (ap (cells_set (given_in c.args.says) (facts_in c.args.says) (variable_key c.args.var.now) c.args.cells) (term_bin _ _ _ _ _ c.in-Bin.is))

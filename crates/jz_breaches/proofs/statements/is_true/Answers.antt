use Rattle.std.proofs.Common.{ap, sym}
use Rattle.jz_terms.proofs.TermForms.{term_num, term_bool, term_var, term_cell, term_load, term_neg, term_not, term_cast, term_bin}
use Rattle.jz_breaches.specs.InnerLoops.{is_truth}
use Rattle.jz_breaches.proofs.statements.is_true.Goals as goal

pub returns-in-Num : goal.returns-in-Num
returns-in-Num c = sym (ap is_truth (term_num _ _ _ c.in-Num.is))

pub returns-in-Bool : goal.returns-in-Bool
returns-in-Bool c = sym (ap is_truth (term_bool _ _ _ c.in-Bool.is))

pub returns-in-Var : goal.returns-in-Var
returns-in-Var c = sym (ap is_truth (term_var _ _ c.in-Var.is))

pub returns-in-Cell : goal.returns-in-Cell
returns-in-Cell c = sym (ap is_truth (term_cell _ _ _ c.in-Cell.is))

pub returns-in-Load : goal.returns-in-Load
returns-in-Load c = sym (ap is_truth (term_load _ _ c.in-Load.is))

pub returns-in-Neg : goal.returns-in-Neg
returns-in-Neg c = sym (ap is_truth (term_neg _ _ _ c.in-Neg.is))

pub returns-in-Not : goal.returns-in-Not
returns-in-Not c = sym (ap is_truth (term_not _ _ _ c.in-Not.is))

pub returns-in-Cast : goal.returns-in-Cast
returns-in-Cast c = sym (ap is_truth (term_cast _ _ _ _ _ c.in-Cast.is))

pub returns-in-Bin : goal.returns-in-Bin
returns-in-Bin c = sym (ap is_truth (term_bin _ _ _ _ _ c.in-Bin.is))

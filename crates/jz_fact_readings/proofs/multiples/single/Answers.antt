use Rattle.std.specs.Int.{w128}
use Rattle.std.proofs.Common.{rules, ap, sym, ◌∙◌}
use Rattle.std.specs.Prelude.{◌==◌}
use Rattle.std.proofs.lemmas.Int.{to_z-of_z}
use Rattle.x64_insn.specs.Words.{modulo}
use Rattle.jz_facts.specs.Intervals.{multiple}
use Rattle.jz_fact_readings.specs.Multiples.{times_of}
use Rattle.jz_terms.proofs.TermForms.{term_bool, term_cast, term_cell, term_load, term_neg, term_not, term_num, term_var}
use Rattle.jz_fact_readings.proofs.multiples.single.Goals as goal

pub returns-in-Num : goal.returns-in-Num
returns-in-Num g c = c.divides.ensures ∙ ap (λ i. modulo i (times_of c.args.m) == 0) (to_z-of_z w128 c.in-Num.n (search rules)) ∙ sym (ap (λ t. multiple (g.K.Knows.given c.args.set.now) (g.K.Knows.facts c.args.set.now) t (times_of c.args.m)) (term_num _ _ _ c.in-Num.is))

pub returns-in-Bool : goal.returns-in-Bool
returns-in-Bool g c = sym (ap (λ t. multiple (g.K.Knows.given c.args.set.now) (g.K.Knows.facts c.args.set.now) t (times_of c.args.m)) (term_bool _ _ _ c.in-Bool.is))

pub returns-in-Var : goal.returns-in-Var
returns-in-Var g c = c.is_multiple.ensures ∙ sym (ap (λ t. multiple (g.K.Knows.given c.args.set.now) (g.K.Knows.facts c.args.set.now) t (times_of c.args.m)) (term_var _ _ c.in-Var.is))

pub returns-in-Cell : goal.returns-in-Cell
returns-in-Cell g c = sym (ap (λ t. multiple (g.K.Knows.given c.args.set.now) (g.K.Knows.facts c.args.set.now) t (times_of c.args.m)) (term_cell _ _ _ c.in-Cell.is))

pub returns-in-Load : goal.returns-in-Load
returns-in-Load g c = sym (ap (λ t. multiple (g.K.Knows.given c.args.set.now) (g.K.Knows.facts c.args.set.now) t (times_of c.args.m)) (term_load _ _ c.in-Load.is))

pub returns-in-Neg : goal.returns-in-Neg
returns-in-Neg g c = sym (ap (λ t. multiple (g.K.Knows.given c.args.set.now) (g.K.Knows.facts c.args.set.now) t (times_of c.args.m)) (term_neg _ _ _ c.in-Neg.is))

pub returns-in-Not : goal.returns-in-Not
returns-in-Not g c = sym (ap (λ t. multiple (g.K.Knows.given c.args.set.now) (g.K.Knows.facts c.args.set.now) t (times_of c.args.m)) (term_not _ _ _ c.in-Not.is))

pub returns-in-Cast : goal.returns-in-Cast
returns-in-Cast g c = sym (ap (λ t. multiple (g.K.Knows.given c.args.set.now) (g.K.Knows.facts c.args.set.now) t (times_of c.args.m)) (term_cast _ _ _ _ _ c.in-Cast.is))

use Rattle.std.specs.Int.{w128}
use Rattle.std.proofs.Common.{rules, ap, sym, ◌∙◌}
use Rattle.std.proofs.lemmas.Int.{to_z-of_z}
use Rattle.std.specs.Prelude.{◌||◌}
use Rattle.x64_insn.specs.Size.TheVariants.{S64}
use Rattle.x64_insn.specs.Words.{residue}
use Rattle.jz_meaning.specs.Values.{ref_of}
use Rattle.jz_layers.specs.Spots.{variable_key}
use Rattle.jz_facts.specs.Facts.{Fact}
use Rattle.jz_facts.specs.Holding.{in_cell, same_cell}
use Rattle.jz_fact_sets.specs.Kept.{known_at, facts_by, facts_of}
use Rattle.jz_fact_sets.proofs.FactLemmas.{cell_facts}
use Rattle.jz_terms.proofs.TermForms.{term_bin, term_bool, term_cast, term_cell, term_load, term_neg, term_not, term_num, term_var}
use Rattle.jz_fact_writes.proofs.writes.write_cell.Goals as goal

pub returns-in_ok-add_cell-in-Num-clause-facts : goal.returns-in_ok-add_cell-in-Num-clause-facts
returns-in_ok-add_cell-in-Num-clause-facts c g =
    let v = variable_key c.args.var.now in
    ap (facts_by g) c.in_ok-add_cell-in-Num.ensures.known
    ∙ cell_facts g v c.bits.result (known_at c.args.set.now)
    ∙ ap (λ n (f : Fact). facts_of g c.args.set.now f || same_cell v n f) (c.bits.ensures.value ∙ c.residue.ensures.bits ∙ ap (residue S64) (to_z-of_z w128 c.in-Num.n (search rules)))
    ∙ sym (ap (λ t. in_cell (ref_of c.args.var.now) t (facts_of g c.args.set.now)) (term_num _ _ _ c.in-Num.is))

pub returns-in-Bool-clause-facts : goal.returns-in-Bool-clause-facts
returns-in-Bool-clause-facts c g = sym (ap (λ t. in_cell (ref_of c.args.var.now) t (facts_of g c.args.set.now)) (term_bool _ _ _ c.in-Bool.is))

pub returns-in-Var-clause-facts : goal.returns-in-Var-clause-facts
returns-in-Var-clause-facts c g = sym (ap (λ t. in_cell (ref_of c.args.var.now) t (facts_of g c.args.set.now)) (term_var _ _ c.in-Var.is))

pub returns-in-Cell-clause-facts : goal.returns-in-Cell-clause-facts
returns-in-Cell-clause-facts c g = sym (ap (λ t. in_cell (ref_of c.args.var.now) t (facts_of g c.args.set.now)) (term_cell _ _ _ c.in-Cell.is))

pub returns-in-Load-clause-facts : goal.returns-in-Load-clause-facts
returns-in-Load-clause-facts c g = sym (ap (λ t. in_cell (ref_of c.args.var.now) t (facts_of g c.args.set.now)) (term_load _ _ c.in-Load.is))

pub returns-in-Neg-clause-facts : goal.returns-in-Neg-clause-facts
returns-in-Neg-clause-facts c g = sym (ap (λ t. in_cell (ref_of c.args.var.now) t (facts_of g c.args.set.now)) (term_neg _ _ _ c.in-Neg.is))

pub returns-in-Not-clause-facts : goal.returns-in-Not-clause-facts
returns-in-Not-clause-facts c g = sym (ap (λ t. in_cell (ref_of c.args.var.now) t (facts_of g c.args.set.now)) (term_not _ _ _ c.in-Not.is))

pub returns-in-Cast-clause-facts : goal.returns-in-Cast-clause-facts
returns-in-Cast-clause-facts c g = sym (ap (λ t. in_cell (ref_of c.args.var.now) t (facts_of g c.args.set.now)) (term_cast _ _ _ _ _ c.in-Cast.is))

pub returns-in-Bin-clause-facts : goal.returns-in-Bin-clause-facts
returns-in-Bin-clause-facts c g = sym (ap (λ t. in_cell (ref_of c.args.var.now) t (facts_of g c.args.set.now)) (term_bin _ _ _ _ _ c.in-Bin.is))

use Rattle.std.proofs.Common.{ap, sym, ◌∙◌}
use Rattle.std.specs.Prelude.{not, if◌then◌else◌}
use Rattle.std.specs.Option.{option_or}
use Rattle.x64_insn.specs.Size.{Size}
use Rattle.jz_tree.specs.declared.expr.Expr.{Expr}
use Rattle.jz_terms.specs.Terms.{term_of, size_in}
use Rattle.jz_facts.specs.Intervals.{size_or_64}
use Rattle.jz_facts.specs.Tests.{◌and◌, adds, by_true, opposite}
use Rattle.jz_fact_sets.specs.Kept.{given_of, facts_of}
use Rattle.jz_terms.proofs.TermForms.{term_bin, term_bool, term_cast, term_cell, term_load, term_neg, term_not, term_num, term_var}
use Rattle.jz_test_facts.proofs.ToldFacts.{nothing_more}
use Rattle.jz_test_facts.proofs.after.after_test.Goals as goal

abbrev z : Expr → Expr → Size
z a b = size_or_64 (option_or (size_in (term_of a)) (size_in (term_of b)))

pub loop-e-preserved : goal.loop-e-preserved
loop-e-preserved c =
    let f = given_of c.args.given.now in
    let s = facts_of c.args.given.now c.args.set.now in
    ap (λ e. adds f s (term_of e) (not c.loop-e.is)) c.get-e.ensures
    ∙ sym (ap (λ t. adds f s t c.loop-e.is) (term_not _ _ _ c.in-Not.is))
    ∙ c.loop-e.invariant

pub returns-in-Num-clause-facts : goal.returns-in-Num-clause-facts
returns-in-Num-clause-facts c =
    let f = given_of c.args.given.now in
    let s = facts_of c.args.given.now c.args.set.now in
    sym (nothing_more s) ∙ ap (λ x. s and x) (sym (ap (λ t. adds f s t c.loop-e.is) (term_num _ _ _ c.in-Num.is)) ∙ c.loop-e.invariant)

pub returns-in-Bool-clause-facts : goal.returns-in-Bool-clause-facts
returns-in-Bool-clause-facts c =
    let f = given_of c.args.given.now in
    let s = facts_of c.args.given.now c.args.set.now in
    sym (nothing_more s) ∙ ap (λ x. s and x) (sym (ap (λ t. adds f s t c.loop-e.is) (term_bool _ _ _ c.in-Bool.is)) ∙ c.loop-e.invariant)

pub returns-in-Var-clause-facts : goal.returns-in-Var-clause-facts
returns-in-Var-clause-facts c =
    let f = given_of c.args.given.now in
    let s = facts_of c.args.given.now c.args.set.now in
    sym (nothing_more s) ∙ ap (λ x. s and x) (sym (ap (λ t. adds f s t c.loop-e.is) (term_var _ _ c.in-Var.is)) ∙ c.loop-e.invariant)

pub returns-in-Cell-clause-facts : goal.returns-in-Cell-clause-facts
returns-in-Cell-clause-facts c =
    let f = given_of c.args.given.now in
    let s = facts_of c.args.given.now c.args.set.now in
    sym (nothing_more s) ∙ ap (λ x. s and x) (sym (ap (λ t. adds f s t c.loop-e.is) (term_cell _ _ _ c.in-Cell.is)) ∙ c.loop-e.invariant)

pub returns-in-Load-clause-facts : goal.returns-in-Load-clause-facts
returns-in-Load-clause-facts c =
    let f = given_of c.args.given.now in
    let s = facts_of c.args.given.now c.args.set.now in
    sym (nothing_more s) ∙ ap (λ x. s and x) (sym (ap (λ t. adds f s t c.loop-e.is) (term_load _ _ c.in-Load.is)) ∙ c.loop-e.invariant)

pub returns-in-Neg-clause-facts : goal.returns-in-Neg-clause-facts
returns-in-Neg-clause-facts c =
    let f = given_of c.args.given.now in
    let s = facts_of c.args.given.now c.args.set.now in
    sym (nothing_more s) ∙ ap (λ x. s and x) (sym (ap (λ t. adds f s t c.loop-e.is) (term_neg _ _ _ c.in-Neg.is)) ∙ c.loop-e.invariant)

pub returns-in-Cast-clause-facts : goal.returns-in-Cast-clause-facts
returns-in-Cast-clause-facts c =
    let f = given_of c.args.given.now in
    let s = facts_of c.args.given.now c.args.set.now in
    sym (nothing_more s) ∙ ap (λ x. s and x) (sym (ap (λ t. adds f s t c.loop-e.is) (term_cast _ _ _ _ _ c.in-Cast.is)) ∙ c.loop-e.invariant)

pub returns-in_ok-compared-in-Bin-clause-facts : goal.returns-in_ok-compared-in-Bin-clause-facts
returns-in_ok-compared-in-Bin-clause-facts c =
    let g = c.args.given.now in
    let f = given_of g in
    let s = facts_of g c.args.set.now in
    c.in_ok-compared-in-Bin.ensures.facts
    ∙ ap (λ o. s and by_true f o s (z c.get.result.now c.get-in-Bin.result.now) (term_of c.get.result.now) (term_of c.get-in-Bin.result.now)) (c.with_answer.ensures f)
    ∙ ap (λ a. s and by_true f (if c.loop-e.is then c.in-Bin.op else opposite f c.in-Bin.op) s (z a c.get-in-Bin.result.now) (term_of a) (term_of c.get-in-Bin.result.now)) c.get.ensures
    ∙ ap (λ b. s and by_true f (if c.loop-e.is then c.in-Bin.op else opposite f c.in-Bin.op) s (z c.in-Bin.left b) (term_of c.in-Bin.left) (term_of b)) c.get-in-Bin.ensures
    ∙ ap (λ x. s and x) (sym (ap (λ t. adds f s t c.loop-e.is) (term_bin _ _ _ _ _ c.in-Bin.is)) ∙ c.loop-e.invariant)

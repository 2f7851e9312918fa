use Rattle.std.proofs.Common.{◌≡◌, Some, ap, sym, ◌∙◌, arith}
use Rattle.std.specs.Option.{option_or}
use Rattle.x64_insn.specs.Size.TheVariants.{S64}
use Rattle.jz_meaning.specs.Values.{ref_of}
use Rattle.jz_tree.specs.declared.expr.Expr.{size-Expr}
use Rattle.jz_terms.specs.Terms.{Place, cell, term_of, place_of, size_in}
use Rattle.jz_terms.proofs.TermForms.{term_bool, term_num, term_var, term_cell, term_load, term_neg, term_not, term_cast}
use Rattle.jz_fact_readings.proofs.LeftSides.{operands_within}
use Rattle.jz_alarms.specs.Conditions.{or_else, asks}
use Rattle.jz_inside.specs.Said.{given_in, facts_in}
use Rattle.jz_asked.specs.InnerAsked.{shown, asks_behind}
use Rattle.jz_asked.proofs.Asking.{one_down, place_out}
use Rattle.jz_asked.proofs.terms.+asks.Goals as goal

pub asks-loop-rest-preserved : goal.asks-loop-rest-preserved
asks-loop-rest-preserved t c =
    let g = given_in c.args.says in
    let s = facts_in c.args.says in
    let l = operands_within _ _ _ _ _ _ c.in-Bin.is c.get-rest.ensures in
    let here = c.in_ok-here.ensures ∙ ap (λ x. asks_behind g s c.in-Bin.op c.left_wanted-inner.result (term_of x) c.in-Bin.span) (c.get-in-Bin-2.ensures ∙ sym c.get-in-Bin.ensures) in (
      one_down g s c.loop-rest.rest.now _ c.in-Bin.op _ _ c.in-Bin.span c.get.result.now c.get-in-Bin.result.now c.loop-rest.inner c.left_wanted-inner.result (shown c.loop-rest.found) (shown c.in_ok-here.here) (shown c.first_of-found.result)
          c.in-Bin.is c.get.ensures c.get-in-Bin.ensures c.get-rest.ensures c.left_wanted-inner.ensures here c.first_of-found.ensures
          ∙ c.loop-rest.invariant.0,
      omega (arith, l, c.loop-rest.invariant.1),
    )

pub asks_single-returns-in-Num : goal.asks_single-returns-in-Num
asks_single-returns-in-Num t c = sym (ap (asks (given_in c.args.says) (facts_in c.args.says) c.args.wanted) (term_num _ _ _ c.in-Num.is))

pub asks_single-returns-in-Bool : goal.asks_single-returns-in-Bool
asks_single-returns-in-Bool t c = sym (ap (asks (given_in c.args.says) (facts_in c.args.says) c.args.wanted) (term_bool _ _ _ c.in-Bool.is))

pub asks_single-returns-in-Var : goal.asks_single-returns-in-Var
asks_single-returns-in-Var t c = c.asks_variable.ensures ∙ sym (ap (asks (given_in c.args.says) (facts_in c.args.says) c.args.wanted) (term_var _ _ c.in-Var.is))

pub asks_single-returns-in_ok-found-in-Cell : goal.asks_single-returns-in_ok-found-in-Cell
asks_single-returns-in_ok-found-in-Cell t c =
    let g = given_in c.args.says in
    let s = facts_in c.args.says in
    c.in_ok-found-in-Cell.ensures c.args.wanted ∙ ap (λ x. asks g s c.args.wanted (cell (ref_of c.in-Cell.var) (term_of x))) c.get.ensures ∙ sym (ap (asks g s c.args.wanted) (term_cell _ _ _ c.in-Cell.is))

pub asks_single-returns-in_ok-found-in-Load : goal.asks_single-returns-in_ok-found-in-Load
asks_single-returns-in_ok-found-in-Load t c = c.in_ok-found-in-Load.ensures ∙ sym (ap (asks (given_in c.args.says) (facts_in c.args.says) c.args.wanted) (term_load _ _ c.in-Load.is))

pub asks_single-returns-in_ok-found-in-Neg : goal.asks_single-returns-in_ok-found-in-Neg
asks_single-returns-in_ok-found-in-Neg t c =
    let g = given_in c.args.says in
    let s = facts_in c.args.says in
    c.in_ok-found-in-Neg.ensures ∙ ap (λ x. asks g s (option_or c.args.wanted (size_in (term_of x))) (term_of x)) c.get-in-Neg.ensures ∙ sym (ap (asks g s c.args.wanted) (term_neg _ _ _ c.in-Neg.is))

pub asks_single-returns-in_ok-found-in-Not : goal.asks_single-returns-in_ok-found-in-Not
asks_single-returns-in_ok-found-in-Not t c =
    let g = given_in c.args.says in
    let s = facts_in c.args.says in
    c.in_ok-found-in-Not.ensures ∙ ap (λ x. asks g s (option_or c.args.wanted (size_in (term_of x))) (term_of x)) c.get-in-Not.ensures ∙ sym (ap (asks g s c.args.wanted) (term_not _ _ _ c.in-Not.is))

pub asks_single-returns-in_ok-found-in-Cast : goal.asks_single-returns-in_ok-found-in-Cast
asks_single-returns-in_ok-found-in-Cast t c =
    let g = given_in c.args.says in
    let s = facts_in c.args.says in
    c.in_ok-found-in-Cast.ensures ∙ ap (λ x. asks g s (size_in (term_of x)) (term_of x)) c.get-in-Cast.ensures ∙ sym (ap (asks g s c.args.wanted) (term_cast _ _ _ _ _ c.in-Cast.is))

pub asks_load-returns : goal.asks_load-returns
asks_load-returns t c =
    let g = given_in c.args.says in
    let s = facts_in c.args.says in
    let at = ap term_of c.get.ensures ∙ sym (ap (λ (p : Place). p.at) (place_out c.args.access.now)) in
    c.first_of.ensures
    ∙ ap (λ x. or_else x (shown c.in_ok-there.there)) (c.in_ok-found.ensures ∙ ap (asks g s (Some S64)) at)
    ∙ ap (or_else (asks g s (Some S64) (place_of c.args.access.now).at)) c.in_ok-there.ensures

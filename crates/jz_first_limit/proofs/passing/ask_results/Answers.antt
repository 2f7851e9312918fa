use Rattle.std.proofs.Common.{◌≡◌, ◌∙◌, ◌+◌, List, ◌∷◌, drop, ap, sym}
use Rattle.std.specs.Option.{option_copied}
use Rattle.jz_tree.specs.declared.expr.Var.{Var}
use Rattle.jz_tree.specs.declared.stmt.Lval.{Lval}
use Rattle.jz_limits.specs.InnerKnown.{numbers_of}
use Rattle.jz_limits.specs.InnerLooked.{first}
use Rattle.jz_limits.specs.Walks.{one_result, result_limits}
use Rattle.jz_first_limit.proofs.Copied.{at_item, at_got, at_none, none_before, found_before, no_more_results}
use Rattle.jz_first_limit.proofs.passing.ask_results.Goals as goal

pub loop-i-preserved : goal.loop-i-preserved
loop-i-preserved c = λ at.
    let e = numbers_of c.args.known.now in
    let i = c.loop-i.i in
    let ps : List Lval = drop (i + 1) c.args.to.now in
    let xs : List Var = drop (i + 1) c.args.results.now in
    let p : Lval = c.left-item.result in
    let x : Var = c.in-Some.var.now in
    let ps_so : drop i c.args.to.now ≡ p ∷ ps =
    ap (drop i) (sym c.as_slice-left-items.ensures)
    ∙ at_item c.as_slice-left-items.result.now i p c.loop-i-test.true c.left-item.is
    ∙ ap (λ l. p ∷ drop (i + 1) l) c.as_slice-left-items.ensures in
    let xs_so : drop i c.args.results.now ≡ x ∷ xs = at_got c.args.results.now i x (sym c.get.ensures.value ∙ ap option_copied c.in-Some.is) in
    sym (none_before (one_result e at p x) (result_limits e at ps xs) (sym c.in-None-2.is ∙ c.in_ok-ask_one_result-in-Some.ensures at))
    ∙ (ap (λ l. first (result_limits e at l (x ∷ xs))) (sym ps_so)
    ∙ (ap (λ l. first (result_limits e at (drop i c.args.to.now) l)) (sym xs_so)
    ∙ c.loop-i.invariant at))

pub returns-in-Some-2 : goal.returns-in-Some-2
returns-in-Some-2 c = λ at.
    let e = numbers_of c.args.known.now in
    let i = c.loop-i.i in
    let ps : List Lval = drop (i + 1) c.args.to.now in
    let xs : List Var = drop (i + 1) c.args.results.now in
    let p : Lval = c.left-item.result in
    let x : Var = c.in-Some.var.now in
    let ps_so : drop i c.args.to.now ≡ p ∷ ps =
    ap (drop i) (sym c.as_slice-left-items.ensures)
    ∙ at_item c.as_slice-left-items.result.now i p c.loop-i-test.true c.left-item.is
    ∙ ap (λ l. p ∷ drop (i + 1) l) c.as_slice-left-items.ensures in
    let xs_so : drop i c.args.results.now ≡ x ∷ xs = at_got c.args.results.now i x (sym c.get.ensures.value ∙ ap option_copied c.in-Some.is) in
    found_before (one_result e at p x) (result_limits e at ps xs) c.in-Some-2.limit (sym c.in-Some-2.is ∙ c.in_ok-ask_one_result-in-Some.ensures at)
    ∙ (ap (λ l. first (result_limits e at l (x ∷ xs))) (sym ps_so)
    ∙ (ap (λ l. first (result_limits e at (drop i c.args.to.now) l)) (sym xs_so)
    ∙ c.loop-i.invariant at))

pub returns-in-None : goal.returns-in-None
returns-in-None c = λ at.
    let e = numbers_of c.args.known.now in
    let i = c.loop-i.i in
    let ps : List Lval = drop i c.args.to.now in
    sym (ap first (no_more_results e at ps))
    ∙ (ap (λ l. first (result_limits e at ps l)) (sym (at_none c.args.results.now i (sym c.get.ensures.value ∙ ap option_copied c.in-None.is))) ∙ c.loop-i.invariant at)

use Rattle.std.proofs.Common.{◌≡◌, ◌∙◌, ◌+◌, List, ◌∷◌, drop, ap, sym}
use Rattle.std.specs.Option.{option_copied}
use Rattle.jz_tree.specs.declared.expr.Expr.{Expr}
use Rattle.jz_tree.specs.declared.program.Param.{Param}
use Rattle.jz_limits.specs.InnerKnown.{numbers_of}
use Rattle.jz_limits.specs.InnerLooked.{first}
use Rattle.jz_limits.specs.Walks.{one_argument, argument_limits}
use Rattle.jz_first_limit.proofs.Copied.{at_item, at_got, at_none, none_before, found_before, no_more_arguments}
use Rattle.jz_first_limit.proofs.passing.ask_arguments.Goals as goal

pub loop-i-preserved : goal.loop-i-preserved
loop-i-preserved c = λ at.
    let e = numbers_of c.args.known.now in
    let i = c.loop-i.i in
    let ps : List Param = drop (i + 1) c.args.params.now in
    let xs : List Expr = drop (i + 1) c.args.args.now in
    let p : Param = c.param-item.result in
    let x : Expr = c.in-Some.arg.now in
    let ps_so : drop i c.args.params.now ≡ p ∷ ps =
    ap (drop i) (sym c.as_slice-param-items.ensures)
    ∙ at_item c.as_slice-param-items.result.now i p c.loop-i-test.true c.param-item.is
    ∙ ap (λ l. p ∷ drop (i + 1) l) c.as_slice-param-items.ensures in
    let xs_so : drop i c.args.args.now ≡ x ∷ xs = at_got c.args.args.now i x (sym c.get.ensures.value ∙ ap option_copied c.in-Some.is) in
    sym (none_before (one_argument e at p.var x) (argument_limits e at ps xs) (sym c.in-None-2.is ∙ c.in_ok-ask_one_argument-in-Some.ensures at))
    ∙ (ap (λ l. first (argument_limits e at l (x ∷ xs))) (sym ps_so)
    ∙ (ap (λ l. first (argument_limits e at (drop i c.args.params.now) l)) (sym xs_so)
    ∙ c.loop-i.invariant at))

pub returns-in-Some-2 : goal.returns-in-Some-2
returns-in-Some-2 c = λ at.
    let e = numbers_of c.args.known.now in
    let i = c.loop-i.i in
    let ps : List Param = drop (i + 1) c.args.params.now in
    let xs : List Expr = drop (i + 1) c.args.args.now in
    let p : Param = c.param-item.result in
    let x : Expr = c.in-Some.arg.now in
    let ps_so : drop i c.args.params.now ≡ p ∷ ps =
    ap (drop i) (sym c.as_slice-param-items.ensures)
    ∙ at_item c.as_slice-param-items.result.now i p c.loop-i-test.true c.param-item.is
    ∙ ap (λ l. p ∷ drop (i + 1) l) c.as_slice-param-items.ensures in
    let xs_so : drop i c.args.args.now ≡ x ∷ xs = at_got c.args.args.now i x (sym c.get.ensures.value ∙ ap option_copied c.in-Some.is) in
    found_before (one_argument e at p.var x) (argument_limits e at ps xs) c.in-Some-2.limit (sym c.in-Some-2.is ∙ c.in_ok-ask_one_argument-in-Some.ensures at)
    ∙ (ap (λ l. first (argument_limits e at l (x ∷ xs))) (sym ps_so)
    ∙ (ap (λ l. first (argument_limits e at (drop i c.args.params.now) l)) (sym xs_so)
    ∙ c.loop-i.invariant at))

pub returns-in-None : goal.returns-in-None
returns-in-None c = λ at.
    let e = numbers_of c.args.known.now in
    let i = c.loop-i.i in
    let ps : List Param = drop i c.args.params.now in
    sym (ap first (no_more_arguments e at ps))
    ∙ (ap (λ l. first (argument_limits e at ps l)) (sym (at_none c.args.args.now i (sym c.get.ensures.value ∙ ap option_copied c.in-None.is))) ∙ c.loop-i.invariant at)

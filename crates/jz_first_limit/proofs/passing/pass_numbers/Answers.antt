use Rattle.std.proofs.Common.{◌≡◌, ◌∙◌, ◌+◌, List, ◌∷◌, drop, ap, sym}
use Rattle.std.specs.Option.{option_copied}
use Rattle.jz_tree.specs.declared.expr.Expr.{Expr}
use Rattle.jz_tree.specs.declared.program.Param.{Param}
use Rattle.jz_limits.specs.InnerKnown.{numbers_of}
use Rattle.jz_limits.specs.Walks.{with_arguments}
use Rattle.jz_first_limit.proofs.Copied.{at_item, at_got, at_none, no_more_numbers}
use Rattle.jz_first_limit.proofs.passing.pass_numbers.Goals as goal

pub loop-i-preserved : goal.loop-i-preserved
loop-i-preserved c =
    let e = numbers_of c.args.known.now in
    let i = c.loop-i.i in
    let k = numbers_of c.loop-i.inner in
    let ps : List Param = drop (i + 1) c.args.params.now in
    let xs : List Expr = drop (i + 1) c.args.args.now in
    let p : Param = c.param-item.result in
    let x : Expr = c.in-Some.arg.now in
    let ps_so : drop i c.args.params.now ≡ p ∷ ps =
    ap (drop i) (sym c.as_slice-param-items.ensures)
    ∙ at_item c.as_slice-param-items.result.now i p c.loop-i-test.true c.param-item.is
    ∙ ap (λ l. p ∷ drop (i + 1) l) c.as_slice-param-items.ensures in
    let xs_so : drop i c.args.args.now ≡ x ∷ xs = at_got c.args.args.now i x (sym c.get.ensures.value ∙ ap option_copied c.in-Some.is) in
    ap (with_arguments e ps xs) c.in_ok-pass_one-in-Some.ensures
    ∙ (ap (λ l. with_arguments e l (x ∷ xs) k) (sym ps_so)
    ∙ (ap (λ l. with_arguments e (drop i c.args.params.now) l k) (sym xs_so)
    ∙ c.loop-i.invariant))

pub returns-in-None : goal.returns-in-None
returns-in-None c =
    let e = numbers_of c.args.known.now in
    let i = c.loop-i.i in
    let k = numbers_of c.loop-i.inner in
    let ps : List Param = drop i c.args.params.now in
    sym (no_more_numbers e k ps)
    ∙ (ap (λ l. with_arguments e ps l k) (sym (at_none c.args.args.now i (sym c.get.ensures.value ∙ ap option_copied c.in-None.is))) ∙ c.loop-i.invariant)

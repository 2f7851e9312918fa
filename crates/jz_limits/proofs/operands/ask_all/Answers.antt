use Rattle.std.proofs.Common.{◌∙◌, ◌+◌, drop, ap, sym, rules}
use Rattle.std.proofs.lemmas.List.{drop_all}
use Rattle.jz_limits.specs.declared.operands.Roles.{Roles}
use Rattle.jz_limits.specs.InnerKnown.{numbers_of}
use Rattle.jz_limits.specs.Asked.{all_in, operand_parts}
use Rattle.jz_limits.specs.InnerLooked.{firsts_of, firsts_beside}
use Rattle.jz_limits.proofs.PartLemmas.{at_here, beside_none, next_operand}
use Rattle.jz_limits.proofs.operands.ask_all.Goals as goal

pub loop-expr-preserved : goal.loop-expr-preserved
loop-expr-preserved c =
    let e = numbers_of c.args.numbers.now in
    let z = c.args.size in
    let f = c.loop-expr.firsts in
    let i = c.loop-expr.expr-index in
    let roles : Roles = record { first = c.loop-expr.role; later = c.args.roles.later } in
    let xs = drop (i + 1) c.args.exprs.now in
    ap (λ g. firsts_beside g (firsts_of (operand_parts e (all_in c.args.roles.later) z xs))) (c.beside-firsts.ensures ∙ ap (firsts_beside f) c.in_ok-ask.ensures)
    ∙ (next_operand e f roles z c.expr-item.result xs
    ∙ (ap (λ l. firsts_beside f (firsts_of (operand_parts e roles z l))) (sym (at_here c.args.exprs.now i c.expr-item.result (search rules) (search rules)))
    ∙ c.loop-expr.invariant))

pub returns : goal.returns
returns c =
    let e = numbers_of c.args.numbers.now in
    let f = c.loop-expr.firsts in
    let roles : Roles = record { first = c.loop-expr.role; later = c.args.roles.later } in
    sym (beside_none f)
    ∙ (ap (λ l. firsts_beside f (firsts_of (operand_parts e roles c.args.size l))) (sym (drop_all c.loop-expr.expr-index c.args.exprs.now (search rules)))
    ∙ c.loop-expr.invariant)

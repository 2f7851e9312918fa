use Rattle.std.proofs.Common.{◌∙◌, ap}
use Rattle.jz_tree.specs.Spellings.{spelled}
use Rattle.jz_limits.specs.InnerKnown.{numbers_of}
use Rattle.jz_limits.specs.Asked.{left_parts, operand_parts, roles_of, size_by}
use Rattle.jz_limits.specs.InnerLooked.{firsts_of, firsts_beside, first_in_kinds}
use Rattle.jz_limits.proofs.PartLemmas.{two_parts}
use Rattle.jz_limits.proofs.statements.ask_instruction.Goals as goal

pub returns : goal.returns
returns c = λ at.
    let e = numbers_of c.args.numbers.now in
    let to = c.args.to.now in
    let es = c.args.operands.now in
    let i = spelled c.args.name.now in
    let named = c.spelled-instance.ensures ∙ ap spelled c.as_str.ensures in
    c.first_of.ensures
    ∙ (ap first_in_kinds (c.beside-parts.ensures
    ∙ (ap (λ x. firsts_beside x c.in_ok-right.right) c.in_ok-lefts.ensures
    ∙ ap (firsts_beside (firsts_of (left_parts e to))) (c.in_ok-right.ensures
    ∙ (ap (λ r. firsts_of (operand_parts e r c.size_by-size.result c.as_slice-2.result.now)) (c.roles_of.ensures ∙ ap roles_of named)
    ∙ (ap (λ z. firsts_of (operand_parts e (roles_of i) z c.as_slice-2.result.now)) (c.size_by-size.ensures ∙ (ap (λ k. size_by k to c.as_slice.result.now) named ∙ ap (size_by i to) c.as_slice.ensures))
    ∙ ap (λ l. firsts_of (operand_parts e (roles_of i) (size_by i to es) l)) c.as_slice-2.ensures)))))
    ∙ two_parts (left_parts e to) (operand_parts e (roles_of i) (size_by i to es) es))

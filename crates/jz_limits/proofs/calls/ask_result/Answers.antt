use Rattle.std.proofs.Common.{◌≡◌, ◌∙◌, None, Some, [], ◌∷◌, ap, sym}
use Rattle.std.specs.Option.{option_copied, option_or}
use Rattle.jz_tree.specs.declared.expr.Expr.TheVariants as expr
use Rattle.jz_meaning.specs.Assignments.{left_size}
use Rattle.jz_meaning.specs.Values.{own_size}
use Rattle.jz_limits.specs.declared.operands.Role.TheVariants as role
use Rattle.jz_limits.specs.Values.{only_int}
use Rattle.jz_limits.specs.InnerKnown.{numbers_of}
use Rattle.jz_limits.specs.Asked.{is_free, to_register, left_access, asked_if, value_as, assigned_parts, no_parts, beside, in_kinds}
use Rattle.jz_limits.specs.InnerLooked.{first, firsts_of, firsts_beside, first_in_kinds}
use Rattle.jz_limits.proofs.PartLemmas.{size_alone, result_kinds}
use Rattle.jz_limits.proofs.calls.ask_result.Goals as goal

pub returns-in_ok-lefts-in-None : goal.returns-in_ok-lefts-in-None
returns-in_ok-lefts-in-None c = λ at.
    let e = numbers_of c.args.numbers.now in
    let d = c.args.left.now in
    let x = expr.Var c.args.var.now in
    let p = asked_if e role.Operand None (left_access d) in
    let q = value_as e (is_free (to_register (Some d)) None x) role.Operand (option_or (left_size d) (own_size x)) x in
    let target : only_int d ≡ None = sym c.only_int.ensures ∙ ap option_copied c.in-None.is in
    c.first_of-in-None.ensures
    ∙ (ap first_in_kinds (c.beside-parts.ensures ∙ (ap (λ f. firsts_beside f c.ask_copied.result) c.in_ok-lefts-in-None.ensures ∙ ap (firsts_beside (firsts_of p)) c.ask_copied.ensures))
    ∙ (result_kinds p q
    ∙ (ap (λ z. first (in_kinds (beside (beside p no_parts) (beside (value_as e (is_free (to_register (Some d)) None x) role.Operand (option_or z (own_size x)) x) no_parts)))) (sym (size_alone (left_size d)))
    ∙ ap (λ t. first (in_kinds (assigned_parts e t (d ∷ []) None x None))) (sym target))))

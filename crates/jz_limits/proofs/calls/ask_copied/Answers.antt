use Rattle.std.proofs.Common.{◌∙◌, None, Some, ap}
use Rattle.std.specs.Option.{option_or}
use Rattle.jz_tree.specs.declared.expr.Expr.TheVariants as expr
use Rattle.jz_meaning.specs.Assignments.{left_size}
use Rattle.jz_meaning.specs.Values.{own_size}
use Rattle.jz_limits.specs.declared.operands.Role.TheVariants as role
use Rattle.jz_limits.specs.InnerKnown.{numbers_of}
use Rattle.jz_limits.specs.Asked.{is_free, to_register, asked_as}
use Rattle.jz_limits.specs.InnerLooked.{firsts_of, firsts_found, firsts_if_free, look_of}
use Rattle.jz_limits.proofs.PartLemmas.{asked_found, free_is}
use Rattle.jz_limits.proofs.calls.ask_copied.Goals as goal

pub returns : goal.returns
returns c =
    let e = numbers_of c.args.numbers.now in
    let x = expr.Var c.args.var.now in
    let z = option_or (left_size c.args.left.now) (own_size x) in
    let free = is_free (to_register (Some c.args.left.now)) None x in
    c.if_free.ensures
    ∙ (ap (firsts_if_free c.is_copied_freely-free.result)
    (c.firsts_found.ensures ∙ (ap (firsts_found role.Operand c.copied_size-size.result) c.look_variable-found.ensures
    ∙ (asked_found e role.Operand c.copied_size-size.result x ∙ ap (λ y. firsts_of (asked_as e role.Operand y x)) c.copied_size-size.ensures)))
    ∙ (ap (λ b. firsts_if_free b (firsts_of (asked_as e role.Operand z x))) c.is_copied_freely-free.ensures
    ∙ free_is free (asked_as e role.Operand z x)))

use Rattle.std.proofs.Common.{◌≡◌, ◌∙◌, None, Some, ap, sym}
use Rattle.std.specs.Option.{option_copied, option_or}
use Rattle.jz_meaning.specs.Values.{own_size}
use Rattle.jz_meaning.specs.Assignments.{left_sizes, last_left}
use Rattle.jz_limits.specs.declared.operands.Role.TheVariants as role
use Rattle.jz_limits.specs.Values.{inline_target}
use Rattle.jz_limits.specs.InnerKnown.{numbers_of}
use Rattle.jz_limits.specs.Asked.{to_register, is_free, value_role, value_as, asked_if, left_parts, value_parts, set_parts, assigned_parts, in_kinds}
use Rattle.jz_limits.specs.InnerLooked.{first, firsts_of, firsts_beside, firsts_without_fields, first_in_kinds}
use Rattle.jz_limits.proofs.PartLemmas.{set_kinds, three_parts}
use Rattle.jz_limits.proofs.statements.ask_assignment.Goals as goal

pub returns-in_ok-set-in-Some : goal.returns-in_ok-set-in-Some
returns-in_ok-set-in-Some c = λ at.
    let e = numbers_of c.args.numbers.now in
    let v = c.in-Some.var.now in
    let p = set_parts e v c.args.op c.args.value.now in
    let q = asked_if e role.Test None c.args.cond.now in
    let target : inline_target c.args.to.now ≡ Some v = sym c.inline_target.ensures ∙ ap option_copied c.in-Some.is in
    c.first_of.ensures
    ∙ (ap first_in_kinds (c.without_fields.ensures ∙ ap firsts_without_fields (c.beside-parts.ensures
    ∙ (ap (λ x. firsts_beside x c.in_ok-test.test) c.in_ok-set-in-Some.ensures ∙ ap (firsts_beside (firsts_of p)) c.in_ok-test.ensures)))
    ∙ (set_kinds p q
    ∙ ap (λ t. first (in_kinds (assigned_parts e t c.args.to.now c.args.op c.args.value.now c.args.cond.now))) (sym target)))

pub returns-in_ok-right-in-None : goal.returns-in_ok-right-in-None
returns-in_ok-right-in-None c = λ at.
    let e = numbers_of c.args.numbers.now in
    let to = c.args.to.now in
    let x = c.args.value.now in
    let p = left_parts e to in
    let q = value_parts e (last_left to) (left_sizes to) c.args.op c.args.value.now in
    let r = asked_if e role.Test None c.args.cond.now in
    let target : inline_target to ≡ None = sym c.inline_target.ensures ∙ ap option_copied c.in-None.is in
    c.first_of-in-None.ensures
    ∙ (ap first_in_kinds (c.beside-parts-in-None.ensures
    ∙ (ap (λ x. firsts_beside x c.beside-behind.result) c.in_ok-lefts-in-None.ensures
    ∙ ap (firsts_beside (firsts_of p)) (c.beside-behind.ensures
    ∙ (ap (λ x. firsts_beside x c.in_ok-test.test) (c.in_ok-right-in-None.ensures
    ∙ (ap (λ b. firsts_of (value_as e (is_free b c.args.op x) (value_role c.args.op) (option_or c.left_sizes.result (own_size x)) x)) c.goes_to_register-register.ensures
    ∙ ap (λ z. firsts_of (value_as e (is_free (to_register (last_left to)) c.args.op x) (value_role c.args.op) (option_or z (own_size x)) x)) c.left_sizes.ensures)) ∙ ap (firsts_beside (firsts_of q)) c.in_ok-test.ensures))))
    ∙ (three_parts p q r
    ∙ ap (λ t. first (in_kinds (assigned_parts e t to c.args.op c.args.value.now c.args.cond.now))) (sym target)))

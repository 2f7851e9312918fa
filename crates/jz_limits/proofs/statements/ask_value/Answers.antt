use Rattle.std.proofs.Common.{◌∙◌, ap}
use Rattle.std.specs.Option.{option_or}
use Rattle.jz_meaning.specs.Values.{own_size}
use Rattle.jz_limits.specs.InnerKnown.{numbers_of}
use Rattle.jz_limits.specs.Asked.{is_free, value_role, asked_as, value_as}
use Rattle.jz_limits.specs.InnerLooked.{firsts_of, firsts_if_free}
use Rattle.jz_limits.proofs.PartLemmas.{free_is}
use Rattle.jz_limits.proofs.statements.ask_value.Goals as goal

pub returns : goal.returns
returns c =
    let e = numbers_of c.args.numbers.now in
    let x = c.args.value.now in
    let free = is_free c.args.register c.args.op x in
    let wanted = option_or c.args.size (own_size x) in
    c.if_free.ensures
    ∙ (ap (firsts_if_free c.is_free.result) (c.in_ok-firsts.ensures ∙ ap (λ r. firsts_of (asked_as e r c.or-wanted.result x)) c.value_role.ensures
    ∙ ap (λ z. firsts_of (asked_as e (value_role c.args.op) z x)) (c.or-wanted.ensures ∙ ap (option_or c.args.size) c.own_size.ensures))
    ∙ (ap (λ b. firsts_if_free b (firsts_of (asked_as e (value_role c.args.op) wanted x))) c.is_free.ensures
    ∙ free_is free (asked_as e (value_role c.args.op) wanted x)))

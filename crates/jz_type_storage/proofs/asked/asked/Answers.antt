use Rattle.std.proofs.Common.{◌≡◌, rules, not, map, filter, ap, ◌∙◌}
use Rattle.jz_type_names.specs.Scopes.{text_of, text_of_param}
use Rattle.jz_type_storage.specs.Paths.{inline_vars}
use Rattle.jz_type_storage.specs.InnerWalks.{members}
use Rattle.jz_type_storage.proofs.Asking.{asked_is}
use Rattle.jz_type_storage.proofs.asked.asked.Goals as goal

pub returns : goal.returns
returns c =
    let f = c.args.fun.now in
    let listed : c.as_slice-2.result.now ≡ map text_of_param f.params = search rules in
    let names : c.as_slice-4.result.now ≡ map text_of (inline_vars f.vars) = search rules in
    let own = c.in_ok-own.ensures ∙ ap (filter (λ n. not (members c.in_ok-params.params.keys n))) names in
    asked_is f c.in_ok-params.params.keys c.in_ok-own.own.items c.in_ok-all.all.keys (c.in_ok-params.ensures ∙ ap members listed) own (c.in_ok-all.ensures ∙ ap members (search rules))

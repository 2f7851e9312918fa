use Rattle.std.proofs.Common.{rules, ◌++◌, take, sym, subst}
use Rattle.jz_unrolling_values.specs.InlineNames.{AreInline}
use Rattle.jz_unrolling_values.proofs.NameLemmas.{vars_of, params_more, vars_more}
use Rattle.jz_unrolling_values.proofs.inline_vars.InlineVars.of.Goals as goal

pub loop-param-preserved : goal.loop-param-preserved
loop-param-preserved c =
    let ps = c.args.fun.now.params in
    let i = c.loop-param.param-index in
    subst (λ vs. AreInline c.add.new.self vs) (sym (params_more ps i c.param-item.result (search rules) (search rules)))
    (c.in_ok-add.ensures (vars_of (take i ps)) c.loop-param.invariant)

pub loop-var-preserved : goal.loop-var-preserved
loop-var-preserved c =
    let us = vars_of c.args.fun.now.params in
    let vs = c.args.fun.now.vars in
    let i = c.loop-var.var-index in
    subst (λ xs. AreInline c.add-in-loop-var.new.self xs) (vars_more us vs i c.var-item.result (search rules) (search rules))
    (c.in_ok-add-2.ensures (us ++ take i vs) c.loop-var.invariant)

use Rattle.std.proofs.Common.{◌++◌, map, take}
use Rattle.jz_tree.specs.declared.program.Param.{Param}
use Rattle.jz_unrolling_values.specs.InlineNames.{AreInline}
use Rattle.jz_unrolling_values.proofs.inline_vars.InlineVars.of.Given as goal

abbrev pub invariant-loop-param : goal.invariant-loop-param
invariant-loop-param l = AreInline l.vars (map (λ (p : Param). p.var) (take l.param-index l.fun.params))

abbrev pub invariant-loop-var : goal.invariant-loop-var
invariant-loop-var l = AreInline l.vars (map (λ (p : Param). p.var) l.fun.params ++ take l.var-index l.fun.vars)

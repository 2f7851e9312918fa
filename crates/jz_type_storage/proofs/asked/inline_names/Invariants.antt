use Rattle.std.proofs.Common.{◌≡◌, ◌++◌, drop, map}
use Rattle.jz_type_names.specs.Scopes.{text_of}
use Rattle.jz_type_storage.specs.Paths.{inline_vars}
use Rattle.jz_type_storage.proofs.asked.inline_names.Given as goal

abbrev pub invariant-loop-var : goal.invariant-loop-var
invariant-loop-var l =
    l.names.items ++ map text_of (inline_vars (drop l.var-index l.vars))
    ≡ map text_of (inline_vars l.vars)

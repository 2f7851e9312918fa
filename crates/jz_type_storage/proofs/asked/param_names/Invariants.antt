use Rattle.std.proofs.Common.{◌≡◌, ◌++◌, drop, map}
use Rattle.jz_type_names.specs.Scopes.{text_of_param}
use Rattle.jz_type_storage.proofs.asked.param_names.Given as goal

abbrev pub invariant-loop-param : goal.invariant-loop-param
invariant-loop-param l = l.names.items ++ map text_of_param (drop l.param-index l.params) ≡ map text_of_param l.params

use Rattle.std.proofs.Common.{◌≡◌, drop, flat_map}
use Rattle.jz_type_names.specs.Order.{earlier, earliest}
use Rattle.jz_type_storage.specs.Declarations.{unkept_param}
use Rattle.jz_type_storage.proofs.declarations.params_unkept.Given as goal

abbrev pub invariant-loop-param : goal.invariant-loop-param
invariant-loop-param l =
    earlier l.best (earliest (flat_map unkept_param (drop l.param-index l.params))) ≡ earliest (flat_map unkept_param l.params)

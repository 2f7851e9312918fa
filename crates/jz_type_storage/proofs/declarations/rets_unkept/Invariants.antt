use Rattle.std.proofs.Common.{◌≡◌, drop, flat_map}
use Rattle.jz_type_names.specs.Order.{earlier, earliest}
use Rattle.jz_type_storage.specs.Declarations.{unkept_ret}
use Rattle.jz_type_storage.proofs.declarations.rets_unkept.Given as goal

abbrev pub invariant-loop-ret : goal.invariant-loop-ret
invariant-loop-ret l =
    earlier l.best (earliest (flat_map (unkept_ret l.at) (drop l.ret-index l.rets)))
    ≡ earliest (flat_map (unkept_ret l.at) l.rets)

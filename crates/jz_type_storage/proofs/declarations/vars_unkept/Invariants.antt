use Rattle.std.proofs.Common.{◌≡◌, drop, flat_map}
use Rattle.jz_type_names.specs.Order.{earlier, earliest}
use Rattle.jz_type_storage.specs.Declarations.{is_kept, unkept}
use Rattle.jz_type_storage.proofs.declarations.vars_unkept.Given as goal

abbrev pub invariant-loop-var : goal.invariant-loop-var
invariant-loop-var l =
    earlier l.best (earliest (flat_map (unkept is_kept) (drop l.var-index l.vars))) ≡ earliest (flat_map (unkept is_kept) l.vars)

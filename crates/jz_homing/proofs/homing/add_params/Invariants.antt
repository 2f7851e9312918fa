use Rattle.std.proofs.Common.{◌≡◌, map, take}
use Rattle.jz_homing.specs.Tables.{table_in, with_vars}
use Rattle.jz_homing.proofs.homing.add_params.Given as goal

abbrev pub invariant-loop-param : goal.invariant-loop-param
invariant-loop-param l = table_in l.table ≡ with_vars (table_in l.initial.table) (map (λ p. p.var) (take l.param-index l.params))

use Rattle.std.proofs.Common.{◌≡◌, take}
use Rattle.jz_homing.specs.Tables.{table_in, with_vars}
use Rattle.jz_homing.proofs.homing.add_vars.Given as goal

abbrev pub invariant-loop-var : goal.invariant-loop-var
invariant-loop-var l = table_in l.table ≡ with_vars (table_in l.initial.table) (take l.var-index l.vars)

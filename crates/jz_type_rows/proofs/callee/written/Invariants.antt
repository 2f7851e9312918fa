use Rattle.std.proofs.Common.{◌≡◌, ℕ, List, ◌++◌, map, drop}
use Rattle.jz_type_rows.specs.Callees.{is_written}
use Rattle.jz_type_rows.specs.InnerTables.{HasNames}
use Rattle.jz_type_rows.proofs.callee.written.Given as goal

abbrev pub invariant-loop-param : goal.invariant-loop-param
invariant-loop-param l = (ns : List (List ℕ)) → HasNames l.names ns → l.list ++ map (is_written ns) (drop l.param-index l.param-items) ≡ map (is_written ns) l.fn.params

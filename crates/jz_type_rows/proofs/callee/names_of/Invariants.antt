use Rattle.std.proofs.Common.{map, take}
use Rattle.jz_type_names.specs.Lent.{these}
use Rattle.jz_type_names.specs.Scopes.{text_of}
use Rattle.jz_type_rows.specs.InnerTables.{HasNames}
use Rattle.jz_type_rows.proofs.callee.names_of.Given as goal

abbrev pub invariant-loop-var : goal.invariant-loop-var
invariant-loop-var l = HasNames l.names (map text_of (these (take l.var-index l.vars)))

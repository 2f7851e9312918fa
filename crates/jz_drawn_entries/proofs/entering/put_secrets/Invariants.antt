use Rattle.std.proofs.Common.{take}
use Rattle.jz_drawn_entries.specs.InnerEntries.{HasSecrets}
use Rattle.jz_drawn_entries.proofs.entering.put_secrets.Given as goal

abbrev pub invariant-loop-param : goal.invariant-loop-param
invariant-loop-param l = HasSecrets (take l.param-index l.params) l.node l.fn.table l.table

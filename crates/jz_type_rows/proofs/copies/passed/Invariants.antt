use Rattle.std.proofs.Common.{◌≡◌, ◌++◌, map, drop}
use Rattle.jz_type_rows.specs.InnerPassing.{passed_of}
use Rattle.jz_type_rows.specs.Copies.{passed_from}
use Rattle.jz_type_rows.proofs.copies.passed.Given as goal

abbrev pub invariant-loop-number : goal.invariant-loop-number
invariant-loop-number l = map passed_of l.list.items ++ passed_from l.number (drop l.number l.args) ≡ passed_from 0 l.args

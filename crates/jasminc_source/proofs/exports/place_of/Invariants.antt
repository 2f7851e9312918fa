use Rattle.std.proofs.Common.{◌≡◌, drop}
use Rattle.jasminc_source.specs.Exports.{export_named}
use Rattle.jasminc_source.proofs.exports.place_of.Given as goal

abbrev pub invariant-loop-i : goal.invariant-loop-i
invariant-loop-i l = export_named l.name l.funs ≡ export_named l.name (drop l.i l.funs)

use Rattle.std.proofs.Common.{◌≡◌, take}
use Rattle.std.specs.Prelude.{map}
use Rattle.jz_terms.specs.Terms.{term_of}
use Rattle.jz_required.specs.Readings.{all_readings}
use Rattle.jz_required.specs.Kept.{reading_of}
use Rattle.jz_required.proofs.operations.all_reads.Given as goal

abbrev pub invariant-loop-arg : goal.invariant-loop-arg
invariant-loop-arg l = reading_of l.found ≡ all_readings (map term_of (take l.arg-index l.args))

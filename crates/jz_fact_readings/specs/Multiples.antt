-- The numbers of which facts say that something is a multiple, as the code names them.
use Rattle.std.specs.Prelude.{ℕ}
use Rattle.jz_fact_readings.specs.declared.times.Times.{Times}
use Rattle.jz_fact_readings.specs.declared.times.Times.TheVariants.{Two, Four, Eight}

abbrev pub times_of : Times → ℕ
times_of Two = 2
times_of Four = 4
times_of Eight = 8

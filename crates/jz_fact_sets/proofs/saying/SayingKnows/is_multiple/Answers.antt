use Rattle.std.proofs.Common.{◌%◌, ap, ◌∙◌}
use Rattle.std.specs.Prelude.{◌==◌}
use Rattle.jz_fact_readings.specs.Multiples.{times_of}
use Rattle.jz_layers.specs.Spots.{variable_key}
use Rattle.jz_fact_sets.proofs.KnownLemmas.{no_times, some_times}
use Rattle.jz_fact_sets.proofs.saying.SayingKnows.is_multiple.Goals as goal

pub returns-in-None : goal.returns-in-None
returns-in-None c =
    no_times c.args.self.now.given.now c.args.self.now.set.now (variable_key c.args.var.now) c.args.m c.known.result c.known.ensures c.in-None.is

pub returns-in-Some : goal.returns-in-Some
returns-in-Some c =
    ap (λ a. a % c.value-in-Some.result == 0) c.value.ensures
    ∙ ap (λ b. times_of c.in-Some.times % b == 0) c.value-in-Some.ensures
    ∙ some_times c.args.self.now.given.now c.args.self.now.set.now (variable_key c.args.var.now) c.args.m c.known.result c.known.ensures c.in-Some.times c.in-Some.is

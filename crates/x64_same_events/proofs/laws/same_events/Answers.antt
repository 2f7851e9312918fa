use Rattle.x64_same_events.proofs.BothRuns.{same_events}
use Rattle.x64_same_events.proofs.laws.same_events.Goals as goal

pub returns : goal.returns
returns c = λ code base other s t a b i j k le more ret rut e. same_events code base other s t a b i j k le more ret rut e

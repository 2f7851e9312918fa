-- Equal leaks of the functions of a text.
use Rattle.jz_constant_leaks.proofs.Alike.{functions_alike}
use Rattle.jz_source_leaks.specs.SourceLeaks.{ExpansionsLoseNothing, ConstantSourcesLeakTheSame}
use Rattle.jz_source_leaks.proofs.Back.{loses_nothing}

pub expansions_lose_nothing : ExpansionsLoseNothing
expansions_lose_nothing p f g k count x given other one two n o q u v alike = loses_nothing p f g k count x given other one two n o q u v alike

pub sources_same : ConstantSourcesLeakTheSame
sources_same p f g k count x constant given other one two equal n o q u v =
    loses_nothing p f g k count x given other one two n o q u v (functions_alike p f g k count x constant given other one two equal n o q u v)

use Rattle.std.proofs.Common.{inl, refl}
use Rattle.jasminc_compile.proofs.settling.first_refusal.Goals as goal

pub returns-in-Some-clause-found : goal.returns-in-Some-clause-found
returns-in-Some-clause-found c = inl c.in-Some.ensures.found

pub first_behind_frames-requires : goal.first_behind_frames-requires
first_behind_frames-requires c = c.in-None.ensures.none refl

-- What a failure says.
use Rattle.std.specs.Prelude.{Result, Ok, Err}
use Rattle.jz_data.specs.declared.failure.Failure.{Failure}
use Rattle.jz_data.specs.declared.failure.Failure.TheVariants.{Refused, OutOfMemory}

-- the fact holds of the cause of a refusal
abbrev pub IfRefused : {E : Type 0} → Failure E → (E → Type 0) → Type 0
IfRefused (Refused e) P = P e
IfRefused OutOfMemory P = Unit {0}

-- the fact holds of the value, or of the cause of the refusal; want of memory says nothing
abbrev pub IfAnswered : {A E : Type 0} → Result A (Failure E) → (Result A E → Type 0) → Type 0
IfAnswered (Ok x) P = P (Ok x)
IfAnswered (Err (Refused e)) P = P (Err e)
IfAnswered (Err OutOfMemory) P = Unit {0}

-- Actions as the operations of one statement.
use Rattle.std.specs.Prelude.{List, [], ◌∷◌, None}
use Rattle.jz_io.specs.declared.span.Span.{Span}
use Rattle.jz_operations.specs.declared.operation.Action.{Action}
use Rattle.jz_operations.specs.declared.operation.Flags.{Flags}
use Rattle.jz_operations.specs.declared.operation.Operation.{Operation}

-- no flag becomes a variable
abbrev pub no_flag : Flags
no_flag = record { of = None; cf = None; sf = None; pf = None; zf = None }

abbrev pub plain : Span → Action → Operation
plain at a = record { span = at; action = a; flags = no_flag }

-- each at the statement's span; the flags that become variables are those of the last one
abbrev pub lasting : Span → Flags → List Action → List Operation
lasting at fl [] = []
lasting at fl (a ∷ []) = record { span = at; action = a; flags = fl } ∷ []
lasting at fl (a ∷ more) = plain at a ∷ lasting at fl more

-- Instructions where their conditions are met, as laws.
use Rattle.std.specs.Prelude.{◌≡◌, ℕ, List, None}
use Rattle.jz_tree.specs.Span.{Span}
use Rattle.jz_tree.specs.Spellings.{spelled}
use Rattle.jz_tree.specs.declared.expr.Expr.{Expr}
use Rattle.jz_tree.specs.declared.stmt.Lval.{Lval}
use Rattle.jz_meaning.specs.Statements as source
use Rattle.jz_meaning.specs.Statements.{instruction}
use Rattle.jz_facts.specs.Holding.{does}
use Rattle.jz_fact_laws.specs.Saying.{Yields}
use Rattle.jz_assigned.specs.Conditions.{asks_operation}
use Rattle.jz_standing.specs.ValueLaws.{Where}
use Rattle.jz_assigned.specs.MetLaws.{IsOn}
use Rattle.jz_instructed.specs.Instructed.{IsInstructed}

abbrev pub InstructionsGo : Type 0
InstructionsGo = Where (λ g kinds in_frame There s st.
    (to : List Lval) (n : List ℕ) (args : List Expr) (at : Span)
    → IsInstructed kinds in_frame (spelled n) to args
    → asks_operation g (instruction to n args at) s ≡ None
    → IsOn (source.does (instruction to n args at) st))

abbrev pub InstructionsStand : Type 0
InstructionsStand = Where (λ g kinds in_frame There s st.
    (to : List Lval) (n : List ℕ) (args : List Expr) (at : Span)
    → IsInstructed kinds in_frame (spelled n) to args
    → Yields (There (does g (instruction to n args at) s))
    (source.does (instruction to n args at) st))

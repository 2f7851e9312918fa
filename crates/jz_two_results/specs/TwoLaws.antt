-- Assignments of two results where their conditions are met, as laws.
use Rattle.std.specs.Prelude.{◌≡◌, [], ◌∷◌, Option, None}
use Rattle.jz_tree.specs.Span.{Span}
use Rattle.jz_tree.specs.declared.expr.BinOp.{BinOp}
use Rattle.jz_tree.specs.declared.expr.Expr.{Expr}
use Rattle.jz_tree.specs.declared.stmt.Lval.{Lval}
use Rattle.jz_meaning.specs.Statements as source
use Rattle.jz_meaning.specs.Statements.{assign}
use Rattle.jz_facts.specs.Holding.{does}
use Rattle.jz_fact_laws.specs.Saying.{Yields}
use Rattle.jz_alarms.specs.Conditions.{asks_operation}
use Rattle.jz_standing.specs.ValueLaws.{Where}
use Rattle.jz_instructed.specs.MetLaws.{IsOn}
use Rattle.jz_two_results.specs.TwoResults.{IsPaired}

abbrev pub TwoResultsGo : Type 0
TwoResultsGo = Where (λ g kinds in_frame There s st.
    (d b : Lval) (o : Option BinOp) (e : Expr) (at : Span)
    → IsPaired kinds in_frame d b o e
    → asks_operation g (assign (d ∷ b ∷ []) o e None at) s ≡ None
    → IsOn (source.does (assign (d ∷ b ∷ []) o e None at) st))

abbrev pub TwoResultsStand : Type 0
TwoResultsStand = Where (λ g kinds in_frame There s st.
    (d b : Lval) (o : Option BinOp) (e : Expr) (at : Span)
    → IsPaired kinds in_frame d b o e
    → Yields (There (does g (assign (d ∷ b ∷ []) o e None at) s))
    (source.does (assign (d ∷ b ∷ []) o e None at) st))

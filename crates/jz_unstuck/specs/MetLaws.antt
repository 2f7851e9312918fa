-- Where conditions are met expressions and tests are not stuck, and behind tests and marks a run
-- stands, as laws.
use Rattle.std.specs.Prelude.{◌≡◌, List, Option, None}
use Rattle.x64_insn.specs.Size.{Size}
use Rattle.jz_tree.specs.declared.expr.Expr.{Expr}
use Rattle.jz_tree.specs.declared.expr.Var.{Var}
use Rattle.jz_runs.specs.Rules.{stuck, went}
use Rattle.jz_meaning.specs.Attempts.{Evaluation}
use Rattle.jz_meaning.specs.Values.{evaluated}
use Rattle.jz_meaning.specs.Statements as source
use Rattle.jz_meaning.specs.Statements.{unset, Condition}
use Rattle.jz_terms.specs.Terms.{term_of}
use Rattle.jz_facts.specs.Holding.{quieted}
use Rattle.jz_facts.specs.Tests.{tested}
use Rattle.jz_fact_laws.specs.Saying.{Yields}
use Rattle.jz_alarms.specs.Conditions.{asks_expr, asks_test}
use Rattle.jz_standing.specs.Typing.{IsWord, IsAnswer, AreMarks}
use Rattle.jz_standing.specs.ValueLaws.{Where}

-- it is not stuck
abbrev pub IsOn : {A : Type 0} → Evaluation A → Type 0
IsOn (stuck k) = ⊥
IsOn (went ns x) = Unit {0}

-- ---- it is not stuck, where the conditions are given

-- an expression that gives a word
abbrev pub WordsGo : Type 0
WordsGo = Where (λ g kinds in_frame There s st.
    (e : Expr) (w : Option Size) (z : Size) → IsWord kinds in_frame w z (term_of e)
    → asks_expr g s w e ≡ None → IsOn (evaluated e w st))

abbrev pub TestsGo : Type 0
TestsGo = Where (λ g kinds in_frame There s st.
    (c : Condition) → IsAnswer kinds in_frame (term_of c.cond)
    → asks_test g c s ≡ None → IsOn (source.tests c st))

-- ---- it stands behind it, with the facts behind it

abbrev pub TestsStand : Type 0
TestsStand = Where (λ g kinds in_frame There s st.
    (c : Condition) → IsAnswer kinds in_frame (term_of c.cond)
    → Yields (λ z. There (tested g c z s) st) (source.tests c st))

abbrev pub MarksStand : Type 0
MarksStand = Where (λ g kinds in_frame There s st.
    (xs : List Var) → AreMarks in_frame xs
    → There (quieted (unset xs) s) (source.quiets (unset xs) st))

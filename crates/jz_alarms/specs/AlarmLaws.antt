-- What alarms say of runs, as laws.
use Rattle.std.specs.Prelude.{ℕ, ◌≡◌, List, Option, None}
use Rattle.x64_insn.specs.Size.{Size}
use Rattle.jz_tree.specs.declared.expr.Expr.{Expr}
use Rattle.jz_tree.specs.declared.expr.Var.{Var}
use Rattle.jz_runs.specs.Rules.{stuck, went}
use Rattle.jz_meaning.specs.declared.value.Why.TheVariants.{Bounds, Divide}
use Rattle.jz_meaning.specs.Attempts.{Evaluation}
use Rattle.jz_meaning.specs.States.{Key, State}
use Rattle.jz_meaning.specs.Values.{evaluated}
use Rattle.jz_meaning.specs.Statements.{Block}
use Rattle.jz_terms.specs.Terms.{term_of}
use Rattle.jz_facts.specs.Facts.{Facts, Given}
use Rattle.jz_fact_laws.specs.Saying.{Holds, IsPlain, AreSized}
use Rattle.jz_alarms.specs.Conditions.{Alarm, asks_expr}
use Rattle.jz_alarms.specs.Alarms.{IsFirstAlarm}

-- it is not stuck at an index outside an array, nor by a division
abbrev pub Calm : {A : Type 0} → Evaluation A → Type 0
Calm (stuck k) = (k.why ≡ Bounds → ⊥) × (k.why ≡ Divide → ⊥)
Calm (went ns x) = Unit {0}

-- a function has one first alarm, or none
abbrev pub OneFirstAlarm : Type 0
OneFirstAlarm =
    (g : Given) (body : Block) (results : List Var) (v w : Option Alarm)
    → IsFirstAlarm g body results v → IsFirstAlarm g body results w → v ≡ w

-- where facts hold of a state and give the conditions of an expression
abbrev pub MetIsCalm : Type 0
MetIsCalm =
    (g : Given) (sizes : Key → Option Size) (entry : Key → ℕ) (s : Facts) (st : State)
    → Holds g sizes entry s st
    → (e : Expr) (w : Option Size) → IsPlain sizes (term_of e) → AreSized st w (term_of e)
    → asks_expr g s w e ≡ None → Calm (evaluated e w st)

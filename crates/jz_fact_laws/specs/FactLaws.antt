-- What facts say of runs, as laws.
use Rattle.std.specs.Prelude.{ℕ, ◌≡◌, true, [], ◌∷◌, Option, Some, None}
use Rattle.jz_tree.specs.Span.{Span}
use Rattle.x64_insn.specs.Size.{Size}
use Rattle.jz_tree.specs.declared.expr.BinOp.{BinOp}
use Rattle.jz_tree.specs.declared.expr.Expr.{Expr}
use Rattle.jz_tree.specs.declared.expr.Var.{Var}
use Rattle.jz_tree.specs.declared.stmt.Lval.TheVariants as lval
use Rattle.jz_meaning.specs.States.{Key, State}
use Rattle.jz_meaning.specs.Values.{evaluated}
use Rattle.jz_meaning.specs.Statements as source
use Rattle.jz_meaning.specs.Statements.{assign, Condition}
use Rattle.jz_facts.specs.Terms.{term_of}
use Rattle.jz_facts.specs.Facts.{Facts, Given, is_among, multiples}
use Rattle.jz_facts.specs.Intervals.{interval, multiple}
use Rattle.jz_facts.specs.Holding.{does}
use Rattle.jz_facts.specs.Tests.{tested}
use Rattle.jz_fact_laws.specs.Saying.{Holds, Yields, IsWithin, IsPlain, AreSized, IsAssigned, MultipleWord}

-- where the facts hold of a state, this is so of what an expression gives there
abbrev pub OfValues : (Given → (Key → Option Size) → Facts → State → Expr → Type 0) → Type 0
OfValues P =
    (g : Given) (sizes : Key → Option Size) (entry : Key → ℕ) (s : Facts) (st : State)
    → Holds g sizes entry s st → (e : Expr) → IsPlain sizes (term_of e) → P g sizes s st e

-- it lies in its interval, as a word of any size, whatever size is wanted
abbrev pub IntervalsHold : Type 0
IntervalsHold = OfValues (λ g sizes s st e.
    (z : Size) (w : Option Size)
    → Yields (IsWithin (interval g s z (term_of e)) z) (evaluated e w st))

-- and is a multiple of what the facts say
abbrev pub MultiplesHold : Type 0
MultiplesHold = OfValues (λ g sizes s st e.
    (m : ℕ) (w : Option Size) → is_among m multiples ≡ true → multiple g s (term_of e) m ≡ true
    → Yields (MultipleWord m) (evaluated e w st))

-- where the facts hold before an assignment to a variable, those behind it hold behind it
abbrev pub AssignmentsHold : Type 0
AssignmentsHold =
    (g : Given) (sizes : Key → Option Size) (entry : Key → ℕ) (s : Facts) (st : State)
    → Holds g sizes entry s st
    → (x : Var) (o : Option BinOp) (e : Expr) (at : Span) → IsAssigned sizes x o e
    → Yields (λ t. Holds g sizes entry (does g (assign (lval.Var x ∷ []) o e None at) s) t)
    (source.does (assign (lval.Var x ∷ []) o e None at) st)

-- the same under a condition, which keeps what holds of both
abbrev pub ConditionalAssignmentsHold : Type 0
ConditionalAssignmentsHold =
    (g : Given) (sizes : Key → Option Size) (entry : Key → ℕ) (s : Facts) (st : State)
    → Holds g sizes entry s st
    → (x : Var) (o : Option BinOp) (e c : Expr) (at : Span) → IsAssigned sizes x o e
    → Yields (λ t. Holds g sizes entry (does g (assign (lval.Var x ∷ []) o e (Some c) at) s) t)
    (source.does (assign (lval.Var x ∷ []) o e (Some c) at) st)

-- what a test with its answer adds holds
abbrev pub TestsHold : Type 0
TestsHold =
    (g : Given) (sizes : Key → Option Size) (entry : Key → ℕ) (s : Facts) (st : State)
    → Holds g sizes entry s st
    → (c : Condition) → IsPlain sizes (term_of c.cond) → AreSized st None (term_of c.cond)
    → Yields (λ z. Holds g sizes entry (tested g c z s) st) (source.tests c st)

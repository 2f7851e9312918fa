-- What expressions give where a run of an expanded function stands, as laws.
use Rattle.std.specs.Prelude.{ℕ, ◌≡◌, Bool, Option}
use Rattle.x64_insn.specs.Size.{Size}
use Rattle.jz_tree.specs.declared.expr.Expr.{Expr}
use Rattle.jz_meaning.specs.States.{Value, word, boolean, integer, Key, State}
use Rattle.jz_meaning.specs.Values.{evaluated}
use Rattle.jz_run_laws.specs.Kinds.{Kinds}
use Rattle.jz_terms.specs.Terms.{term_of}
use Rattle.jz_fact_laws.specs.Facts.{Facts, Given}
use Rattle.jz_fact_laws.specs.Saying.{Yields}
use Rattle.jz_standing.specs.Typing.{NoNumbers, IsWord, IsAnswer}
use Rattle.jz_standing.specs.Standing.{Stands}

-- what holds of sets of facts and states: that a run stands there
abbrev pub Places : Type 1
Places = Facts → State → Type 0

-- where a run stands in a state, this is so of what it does there
abbrev pub Where : (Given → Kinds → (Key → Bool) → Places → Facts → State → Type 0) → Type 0
Where P =
    (g : Given) (kinds : Kinds) (in_frame : Key → Bool) (entry : Key → ℕ) (s : Facts) (st : State)
    → NoNumbers kinds → Stands g kinds in_frame entry s st
    → P g kinds in_frame (Stands g kinds in_frame entry) s st

-- a word of a size, or a number in its place
abbrev pub IsWordOf : Size → Value → Type 0
IsWordOf z (word y n) = y ≡ z
IsWordOf z (integer i) = Unit {0}
IsWordOf z (boolean c) = ⊥

abbrev pub IsBoolean : Value → Type 0
IsBoolean (boolean c) = Unit {0}
IsBoolean v = ⊥

abbrev pub WordsAreWords : Type 0
WordsAreWords = Where (λ g kinds in_frame There s st.
    (e : Expr) (w : Option Size) (z : Size) → IsWord kinds in_frame w z (term_of e)
    → Yields (IsWordOf z) (evaluated e w st))

abbrev pub AnswersAreBooleans : Type 0
AnswersAreBooleans = Where (λ g kinds in_frame There s st.
    (e : Expr) (w : Option Size) → IsAnswer kinds in_frame (term_of e)
    → Yields IsBoolean (evaluated e w st))

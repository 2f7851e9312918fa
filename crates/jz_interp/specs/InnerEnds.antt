-- What the ends of the code stand for.
use Rattle.std.specs.Prelude.{ℕ, ℤ, List, [], ◌∷◌, Result, Ok, Err}
use Rattle.jz_tree.specs.Failure.{Failure}
use Rattle.jz_tree.specs.Failures.{IfAnswered}
use Rattle.jz_leak.specs.declared.leak.Leak as shown_leak
use Rattle.jz_leak.specs.declared.leak.Item.{Item}
use Rattle.jz_leak.specs.declared.leak.Turn.{Turn}
use Rattle.jz_tree.specs.declared.expr.Var.{Var}
use Rattle.jz_runs.specs.Views.{items_view}
use Rattle.jz_runs.specs.ShownRuns.{Leads, IsTurn, IsTested}
use Rattle.jz_runs.specs.ShownRuns.{TurnOutcome, last, more, cut, stuck_in}
use Rattle.jz_meaning.specs.Rules.{Outcome, End, Cut, Stuck}
use Rattle.jz_meaning.specs.declared.value.Stuck as why
use Rattle.jz_meaning.specs.declared.state.State as code
use Rattle.jz_meaning.specs.States.{State}
use Rattle.jz_meaning.specs.Stores.{state_of}
use Rattle.jz_meaning.specs.Statements.{Block, Condition, source}
use Rattle.jz_interp.specs.InnerRounds.{RoundsOf}
use Rattle.jz_interp.specs.declared.ends.Ran.{Ran}
use Rattle.jz_interp.specs.declared.ends.Ran.TheVariants as ran_as
use Rattle.jz_interp.specs.declared.ends.TurnEnd.{TurnEnd}
use Rattle.jz_interp.specs.declared.ends.TurnEnd.TheVariants as turn_as
use Rattle.jz_interp.specs.declared.ends.RoundsEnd.{RoundsEnd}
use Rattle.jz_interp.specs.declared.ends.RoundsEnd.TheVariants as rounds_as

-- the outcome of statements, where the code stands in this state at their end
abbrev pub seen_outcome : Result Ran why.Stuck → State → Outcome State why.Stuck (List Item)
seen_outcome (Ok (ran_as.End n is)) s = End s n is
seen_outcome (Ok (ran_as.Cut is)) s = Cut is
seen_outcome (Err k) s = Stuck k

-- the same of a turn, and of rounds
abbrev pub turn_seen : Result TurnEnd why.Stuck → State → TurnOutcome State why.Stuck Turn
turn_seen (Ok (turn_as.Last n x)) s = last s n (x ∷ [])
turn_seen (Ok (turn_as.More n x)) s = more s n (x ∷ [])
turn_seen (Ok (turn_as.Cut x)) s = cut (x ∷ [])
turn_seen (Err k) s = stuck_in k

abbrev pub rounds_seen :
    Result RoundsEnd why.Stuck → State → Outcome State why.Stuck (List shown_leak.Leak)
rounds_seen (Ok (rounds_as.End n ls)) s = End s n ls
rounds_seen (Ok (rounds_as.Cut ls)) s = Cut ls
rounds_seen (Err k) s = Stuck k

-- the end of a statement by that of its inner run
abbrev pub wrapped_run : (List Item → Item) → Ran → Ran
wrapped_run f (ran_as.End n is) = ran_as.End n (f is ∷ [])
wrapped_run f (ran_as.Cut is) = ran_as.Cut (f is ∷ [])

-- ---- the answer of the code, which stands in the second state then, is the outcome from the first
-- state on, with n true tests of `while` left: of a piece of a body, of a turn, of the rest of a
-- turn from its test on, of all rounds

abbrev pub PieceGoes : (Block → Block) → ℕ → State → State → Result Ran why.Stuck → Type 0
PieceGoes piece n s t r = Leads items_view source piece n s (seen_outcome r t)

abbrev pub TurnGoes :
    Block → Condition → Block → ℕ → State → State → Result TurnEnd why.Stuck → Type 0
TurnGoes p c b n s t r = IsTurn items_view source p c b n s (turn_seen r t)

abbrev pub TestGoes :
    List Item → Condition → Block → ℕ → State → State → Result TurnEnd why.Stuck → Type 0
TestGoes is c b n s t r = IsTested items_view source c b is n s (turn_seen r t)

abbrev pub RoundsGo :
    Var → Block → List ℤ → ℕ → State → State → Result RoundsEnd why.Stuck → Type 0
RoundsGo x b js n s t r = RoundsOf x b js n s (rounds_seen r t)

-- ---- the same of what the code promises, where memory suffices

abbrev pub RunsPiece :
    Result Ran (Failure why.Stuck) → ℕ → code.State → code.State → (Block → Block) → Type 0
RunsPiece result n before now piece =
    IfAnswered result (PieceGoes piece n (state_of before) (state_of now))

abbrev pub RunsTurn :
    Result TurnEnd (Failure why.Stuck) → ℕ → code.State → code.State
    → Block → Condition → Block → Type 0
RunsTurn result n before now p c b =
    IfAnswered result (TurnGoes p c b n (state_of before) (state_of now))

abbrev pub RunsTest :
    Result TurnEnd (Failure why.Stuck) → ℕ → code.State → code.State
    → List Item → Condition → Block → Type 0
RunsTest result n before now is c b =
    IfAnswered result (TestGoes is c b n (state_of before) (state_of now))

abbrev pub RunsAllRounds :
    Result RoundsEnd (Failure why.Stuck) → ℕ → code.State → code.State
    → Var → Block → List ℤ → Type 0
RunsAllRounds result n before now x b js =
    IfAnswered result (RoundsGo x b js n (state_of before) (state_of now))

-- What the code answers, without what it keeps of words.
use Rattle.std.specs.Prelude.{◌≡◌, ℕ, List, [], ◌∷◌, map, Option, Some, option_map, Result, Ok, Err}
use Rattle.jz_tree.specs.Failure.{Failure}
use Rattle.jz_tree.specs.Failures.{IfAnswered}
use Rattle.jz_words.specs.declared.word.Word.{Word}
use Rattle.jz_tree.specs.declared.expr.Expr.{Expr}
use Rattle.jz_meaning.specs.declared.value.Stuck.{Stuck}
use Rattle.jz_meaning.specs.declared.value.Value as code
use Rattle.jz_meaning.specs.Attempts.{Evaluation, did, numbers_first}
use Rattle.jz_meaning.specs.States.{as_value, State}
use Rattle.jz_meaning.specs.Assignments.{Results, assigned}
use Rattle.jz_run_assign.specs.declared.assigning.Assignment.{Assignment}

-- the bits of a word
abbrev pub bits_in : Result Word Stuck → Result ℕ Stuck
bits_in (Ok w) = Ok w.bits
bits_in (Err k) = Err k

-- what left sides get
abbrev pub meant_results : List (Option code.Value) → Results
meant_results = map (option_map as_value)

abbrev pub results_in : Result (List (Option code.Value)) Stuck → Result Results Stuck
results_in (Ok vs) = Ok (meant_results vs)
results_in (Err k) = Err k

-- two values
abbrev pub pair_in : Result (code.Value × code.Value) Stuck → Result Results Stuck
pair_in (Ok p) = Ok (Some (as_value p.0) ∷ Some (as_value p.1) ∷ [])
pair_in (Err k) = Err k

-- ---- what the code promises, as the `Gives` of all attempts: of a word its bits, and of results
-- what left sides get

abbrev pub GivesBits : Result Word (Failure Stuck) → List ℕ → List ℕ → Evaluation ℕ → Type 0
GivesBits result before now e = IfAnswered result (λ r. did now (bits_in r) ≡ numbers_first before e)

abbrev pub GivesResults : Result (List (Option code.Value)) (Failure Stuck) → List ℕ → List ℕ → Evaluation Results → Type 0
GivesResults result before now e = IfAnswered result (λ r. did now (results_in r) ≡ numbers_first before e)

-- an assignment of this value
abbrev pub value_assigned : Assignment → Expr → State → Evaluation State
value_assigned a e = assigned a.to.now a.op e a.cond.now a.span

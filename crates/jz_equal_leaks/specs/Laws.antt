-- Where a function is constant time two inputs that are equal at its public parameters leak the same.
use Rattle.std.specs.Prelude.{◌≡◌, ℕ, Bool, true, List, [], ◌∷◌}
use Rattle.jz_words.specs.Memory.{Memory}
use Rattle.jz_tree.specs.declared.program.Fun.{Fun}
use Rattle.jz_tree.specs.declared.program.Param.{Param}
use Rattle.jz_leak.specs.RunLeaks.{Leak}
use Rattle.jz_runs.specs.Rules.{Outcome, Goes}
use Rattle.jz_meaning.specs.declared.value.Stuck.{Stuck}
use Rattle.jz_meaning.specs.States.{Value, Key, State}
use Rattle.jz_meaning.specs.Statements.{Block, source}
use Rattle.jz_meaning.specs.Runs.{entry_state, outcome_of_body, Returned}
use Rattle.jz_flow.specs.Soundness.{AllAre}
use Rattle.jz_flow.specs.Alarms.{Meets}
use Rattle.jz_labels.specs.Operations.{plain_of, tested_by}
use Rattle.jz_labels.specs.Labels.{Publics, label_steps}
use Rattle.jz_labels.specs.Required.{label_asks}
use Rattle.jz_labels.specs.ConstantTime.{is_labelled_public, IsConstantTime}
use Rattle.jz_equal_leaks.specs.TwoRuns.{Same}
use Rattle.jz_equal_leaks.specs.Agreeing.{Agree}
use Rattle.jz_equal_leaks.specs.Fixed.{IsFixedOperation, IsFixedTest, AreScalars}

-- of runs of a body without calls and `for`, from states that agree on what is public there
abbrev pub BodiesLeakTheSame : Type 0
BodiesLeakTheSame =
    (in_frame : Key → Bool) (arrays s x : Publics) (body : Block)
    → AllAre (IsFixedOperation in_frame) (IsFixedTest in_frame) body
    → Meets (label_steps plain_of tested_by arrays) (label_asks plain_of tested_by arrays) body s x
    → (n : ℕ) (a b : State) → Agree in_frame arrays s a b
    → (o q : Outcome State Stuck Leak) → Goes source body n a o → Goes source body n b q
    → Same (Agree in_frame arrays x) o q

-- words for the parameters, equal at those that are labelled public
abbrev pub AreEqualAtPublic : List Param → List Value → List Value → Type 0
AreEqualAtPublic [] [] [] = Unit {0}
AreEqualAtPublic (p ∷ ps) (v ∷ vs) (w ∷ ws) =
    (is_labelled_public p.notes ≡ true → v ≡ w) × AreEqualAtPublic ps vs ws
AreEqualAtPublic ps vs ws = ⊥

-- what typing and expansion give of an export function with this body
pub record IsFixedFunction (f : Fun) (body : Block) : Type 0 where
  pub in_frame : Key → Bool
  pub params : AreScalars in_frame f.params
  pub nodes : AllAre (IsFixedOperation in_frame) (IsFixedTest in_frame) body

-- both ended, with as many turns left and the same leak; both were cut, with the same leak; or one of
-- both is stuck
abbrev pub LeakTheSame : {V : Type 0} → Outcome V Stuck Leak → Outcome V Stuck Leak → Type 0
LeakTheSame {V} o q = Same {S = V} (λ r s. Unit {0}) o q

-- of runs of an expanded function, with any memories and any number of turns
abbrev pub ConstantTimeLeaksTheSame : Type 0
ConstantTimeLeaksTheSame =
    (f : Fun) (body : Block) → IsFixedFunction f body → IsConstantTime f.params body
    → (words others : List Value) → AreEqualAtPublic f.params words others
    → (m k : Memory) (n : ℕ) (o q : Outcome State Stuck Leak)
    → Goes source body n (entry_state f words m) o → Goes source body n (entry_state f others k) q
    → LeakTheSame {V = Returned} (outcome_of_body f.result o) (outcome_of_body f.result q)

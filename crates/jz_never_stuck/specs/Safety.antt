-- An expanded function without an alarm.
use Rattle.std.specs.Prelude.{◌≡◌, Bool, All, None}
use Rattle.jz_tree.specs.declared.program.Fun.{Fun}
use Rattle.jz_tree.specs.declared.program.Param.{Param}
use Rattle.jz_meaning.specs.States.{Key}
use Rattle.jz_meaning.specs.Statements.{Block}
use Rattle.jz_meaning.specs.Values.{ref_of}
use Rattle.jz_run_laws.specs.Kinds.{Kinds}
use Rattle.jz_flow.specs.Soundness.{AllAre}
use Rattle.jz_fact_sets.specs.declared.given.Given.{Given}
use Rattle.jz_fact_sets.specs.Kept.{given_of}
use Rattle.jz_alarms.specs.Alarms.{IsFirstAlarm}
use Rattle.jz_standing.specs.Typing.{NoNumbers, IsScalar}
use Rattle.jz_fact_runs.specs.Fine.{IsFine, IsFineTest, AreResults}
use Rattle.jz_fact_entry.specs.Entry.{DifferByName, IsGivenOf}

-- b: the tree of the body of a function g in which no call is left

-- what typing and expansion give of a function: its variables are declared so, those are the arrays
-- in its frame, and its statements, tests, parameters and results are of the forms that are left
pub record IsFineFunction (b : Block) (g : Fun) : Type 0 where
  pub kinds : Kinds
  pub in_frame : Key → Bool
  pub no_numbers : NoNumbers kinds
  pub params : All (λ (q : Param). IsScalar kinds in_frame (ref_of q.var)) g.params
  pub differ : DifferByName g.params
  pub body : AllAre (IsFine kinds in_frame) (IsFineTest kinds in_frame) b
  pub results : AreResults kinds in_frame g.result

-- by what is given of it no condition of it is open
pub record HasNoAlarm (b : Block) (g : Fun) : Type 0 where
  pub given : Given
  pub made : IsGivenOf g given
  pub none : IsFirstAlarm (given_of given) b g.result None

-- a function with the parameters and the annotations of another
pub record SharesHead (f g : Fun) : Type 0 where
  pub params : g.params ≡ f.params
  pub notes : g.notes ≡ f.notes

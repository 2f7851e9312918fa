-- No run is stuck.
use Rattle.std.proofs.Common.{◌≡◌, ℕ, List, false, sym, subst}
use Rattle.std.specs.Prelude.{All, Contains}
use Rattle.std.proofs.lemmas.List.Elements.{All-weaker}
use Rattle.jz_tree.specs.Memory.{Memory}
use Rattle.jz_tree.specs.declared.program.Fun.{Fun}
use Rattle.jz_tree.specs.declared.program.Param.{Param}
use Rattle.jz_tree.specs.declared.program.Program.{Program}
use Rattle.jz_runs.specs.RunLeaks.{Leak}
use Rattle.jz_runs.specs.Rules.{Outcome, Stuck, Goes}
use Rattle.jz_meaning.specs.declared.value.Stuck.{Stuck as Reason}
use Rattle.jz_meaning.specs.States.{Value, State}
use Rattle.jz_meaning.specs.Values.{key_of, ref_of}
use Rattle.jz_meaning.specs.Statements.{Block, source}
use Rattle.jz_meaning.specs.Runs.{IsInput, entry_state, outcome_of_body}
use Rattle.jz_preconditions.specs.Meeting.{MeetsPreconditions}
use Rattle.jz_run_laws.specs.Kinds.{IsOfKinds}
use Rattle.jz_run_laws.specs.DeclaredKinds.{ParamDeclared}
use Rattle.jz_run_laws.proofs.Functions.{entries_keep}
use Rattle.jz_facts.specs.Facts.{at_entry}
use Rattle.jz_facts.specs.Along.{fact_steps}
use Rattle.jz_alarms.specs.Conditions.{asks_results}
use Rattle.jz_alarms.specs.Alarms.{fact_asks}
use Rattle.jz_fact_sets.specs.Kept.{given_of}
use Rattle.jz_standing.specs.Typing.{whole, IsScalar}
use Rattle.jz_standing.specs.Standing.{Stands}
use Rattle.jz_fact_runs.proofs.Safe.{safe_goes}
use Rattle.jz_fact_entry.specs.Entry.{entry_of, AreWords}
use Rattle.jz_fact_entry.specs.EntryLaws.{AreOutside}
use Rattle.jz_fact_entry.proofs.Whole.{inputs_stand}
use Rattle.jz_never_stuck.specs.Safety.{IsFineFunction, HasNoAlarm, SharesHead}
use Rattle.jz_never_stuck.specs.SafetyLaws.{NoneHasSets, ExpandedIsNeverStuck}
use Rattle.jz_never_stuck.proofs.NoAlarms.{behind}
use Rattle.jz_never_stuck.proofs.Words.{all_fit}

pub none_has_sets : NoneHasSets
none_has_sets g b results h = behind (fact_steps g) (fact_asks g) b (at_entry g) (λ s v. v ≡ asks_results results s) h

-- ---- the head alone is asked
module _ (f g : Fun) (head : SharesHead f g) (words : List ℕ) (memory : Memory) (m : MeetsPreconditions f words memory) where
  with_head : MeetsPreconditions (record g { params = f.params; notes = f.notes }) words memory
  with_head = record { sizes = m.sizes; met = m.met; below_end = m.below_end; covered = m.covered; bytes = m.bytes }

  meets_there : MeetsPreconditions g words memory
  meets_there =
      subst (λ ns. MeetsPreconditions (record g { notes = ns }) words memory) (sym head.notes)
      (subst (λ ps. MeetsPreconditions (record g { params = ps; notes = f.notes }) words memory) (sym head.params) with_head)

-- ---- one input
module _ (p : Program) (f g : Fun) (b : Block) (words : List ℕ) (values : List Value) (memory : Memory) (has : Contains p.funs f) (head : SharesHead f g) (fine : IsFineFunction b g) (calm : HasNoAlarm b g)
    (meets : MeetsPreconditions f words memory) (are : AreWords f.params words values) where
  input : IsInput p f values
  input = record { of_program = has; arguments = all_fit f.params words values are }

  declared : All (ParamDeclared fine.kinds) f.params
  declared =
      subst (All (ParamDeclared fine.kinds)) head.params
      (All-weaker (λ (q : Param). IsScalar fine.kinds fine.in_frame (ref_of q.var)) (ParamDeclared fine.kinds) (λ q s. s.declared) g.params fine.params)

  outside : AreOutside fine.in_frame g.params
  outside =
      All-weaker (λ (q : Param). IsScalar fine.kinds fine.in_frame (ref_of q.var)) (λ (q : Param). fine.in_frame (whole (key_of (ref_of q.var))) ≡ false) (λ q s. s.apart) g.params fine.params

  kept : IsOfKinds fine.kinds (entry_state g values memory)
  kept =
      subst (λ ps. IsOfKinds fine.kinds (entry_state (record g { params = ps }) values memory)) (sym head.params)
      (entries_keep fine.kinds p f values memory declared input meets.bytes)

  stands : Stands (given_of calm.given) fine.kinds fine.in_frame (entry_of (entry_state g values memory).store) (at_entry (given_of calm.given)) (entry_state g values memory)
  stands =
      inputs_stand g calm.given fine.kinds fine.in_frame words values memory calm.made fine.differ outside (meets_there f g head words memory meets)
      (subst (λ ps. AreWords ps words values) (sym head.params) are) kept

  never : (n : ℕ) (o : Outcome State Reason Leak) (w : Reason) → Goes source b n (entry_state g values memory) o → outcome_of_body g.result o ≡ Stuck w → ⊥
  never n o w goes gives =
      let x = none_has_sets (given_of calm.given) b g.result calm.none in
      safe_goes (given_of calm.given) fine.kinds fine.in_frame (entry_of (entry_state g values memory).store) b g.result x.0 fine.no_numbers fine.body fine.results x.1 calm.none
      (entry_state g values memory) stands n o goes w gives

pub expanded_never : ExpandedIsNeverStuck
expanded_never p f g b words values memory n o w has head fine calm meets are goes gives = never p f g b words values memory has head fine calm meets are n o w goes gives

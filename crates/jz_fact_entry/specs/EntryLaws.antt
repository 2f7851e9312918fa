-- Where a run begins whose input meets the preconditions.
use Rattle.std.specs.Prelude.{◌≡◌, ℕ, List, Bool, false, All}
use Rattle.x64_insn.specs.Memory.{Memory}
use Rattle.jz_tree.specs.declared.program.Fun.{Fun}
use Rattle.jz_tree.specs.declared.program.Param.{Param}
use Rattle.jz_preconditions.specs.Meeting.{MeetsPreconditions}
use Rattle.jz_meaning.specs.States.{Value, Key}
use Rattle.jz_meaning.specs.Values.{key_of, ref_of}
use Rattle.jz_meaning.specs.Runs.{entry_state}
use Rattle.jz_run_laws.specs.Kinds.{Kinds, IsOfKinds}
use Rattle.jz_facts.specs.Facts.{at_entry}
use Rattle.jz_fact_sets.specs.declared.given.Given.{Given}
use Rattle.jz_fact_sets.specs.Kept.{given_of}
use Rattle.jz_standing.specs.Typing.{whole}
use Rattle.jz_standing.specs.Standing.{Stands}
use Rattle.jz_fact_entry.specs.Entry.{entry_of, AreWords, DifferByName, IsGivenOf}

-- no parameter is an array in the frame
abbrev pub AreOutside : (Key → Bool) → List Param → Type 0
AreOutside in_frame = All (λ p. in_frame (whole (key_of (ref_of p.var))) ≡ false)

-- the facts at entry hold of the state in which a run begins on an input that meets the
-- preconditions, where the parameters are words of different names
abbrev pub InputsStand : Type 0
InputsStand =
    (f : Fun) (g : Given) (kinds : Kinds) (in_frame : Key → Bool)
    (words : List ℕ) (values : List Value) (memory : Memory)
    → IsGivenOf f g → DifferByName f.params → AreOutside in_frame f.params
    → MeetsPreconditions f words memory → AreWords f.params words values
    → let st = entry_state f values memory in
    IsOfKinds kinds st
    → Stands (given_of g) kinds in_frame (entry_of st.store) (at_entry (given_of g)) st

-- What the code answers, seen as the definitions give it.
use Rattle.std.specs.Prelude.{ℕ, List, Result, Ok, Err}
use Rattle.jz_meaning.specs.Rules.{stuck, went}
use Rattle.jz_meaning.specs.declared.store.Store as code
use Rattle.jz_meaning.specs.declared.value.Stuck.{Stuck}
use Rattle.jz_meaning.specs.Attempts.{Evaluation}
use Rattle.jz_meaning.specs.States.{Store, State, empty_store}
use Rattle.jz_meaning.specs.Stores.{store_of}
use Rattle.jz_meaning.specs.Statements as statements
use Rattle.jz_meaning.specs.Statements.{leaves}
use Rattle.jz_run_assign.specs.declared.calling.Call.{Call}

-- the variables of a callee
abbrev pub entered_store : List ℕ → Result code.Store Stuck → Evaluation Store
entered_store ns (Ok s) = went ns (store_of s)
entered_store ns (Err k) = stuck k

-- a call of the code
abbrev pub call_of : Call → statements.Call
call_of c = record { to = c.to.now; callee = c.callee.now; args = c.args.now; at = c.span }

-- how it is entered: no other variable of the callee has a value
abbrev pub entered_by : Call → State → Evaluation Store
entered_by c s = statements.all_passed c.span c.callee.now.params c.args.now s empty_store

-- how it is left, from the memory at its end
abbrev pub left_by : Call → Store → State → Evaluation State
left_by c inner s = leaves (call_of c) s (record { store = inner; memory = s.memory })

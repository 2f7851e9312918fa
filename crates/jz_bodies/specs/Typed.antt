-- What typing gives of a function: its body is one, with the bodies that it calls.
use Rattle.std.specs.Prelude.{◌≡◌, true, List, All}
use Rattle.jz_tree.specs.Memory.{Memory}
use Rattle.jz_tree.specs.declared.program.Fun.{Fun}
use Rattle.jz_tree.specs.declared.program.Program.{Program}
use Rattle.jz_run_laws.specs.Exports.{is_exported}
use Rattle.jz_run_laws.specs.TypedPrograms.{IsTypedProgram}
use Rattle.jz_meaning.specs.States.{Value, Key}
use Rattle.jz_meaning.specs.Shapes.{HoldsSorts}
use Rattle.jz_meaning.specs.Runs.{IsInput, entry_state, body_of}
use Rattle.jz_texts.specs.Texts.{IsText}
use Rattle.jz_bodies.specs.Scopes.{Has, IsScope}
use Rattle.jz_bodies.specs.Bodies.{IsBody, AreReturned}
use Rattle.jz_bodies.specs.Declared.{scopes_in}

pub record IsTypedFunction (q : Program) (f : Fun) : Type 0 where
  -- what it may set it has, and none of it is a copied variable
  pub scope : IsScope (scopes_in q f)
  pub zero : (k : Key) → Has (scopes_in q f) k → k.copy ≡ 0
  pub body : IsBody (scopes_in q) (scopes_in q f) (body_of q f)
  -- what an export function gives back are variables and no arrays
  pub returned : is_exported f.kind ≡ true → AreReturned (scopes_in q f) f.result
  -- its variables begin with what they are declared to hold
  pub entered : (words : List Value) (memory : Memory)
      → IsInput q f words → HoldsSorts (scopes_in q f).sorts (entry_state f words memory).store

-- each function of a typed program that comes of a text
abbrev pub BodiesLaw : Type 0
BodiesLaw = (q : Program) → IsTypedProgram q → IsText q → All (IsTypedFunction q) q.funs

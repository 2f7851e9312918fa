-- A function of a program whose calls are copies of what they call, and the law of its runs.
use Rattle.std.specs.Prelude.{ℕ, ◌≡◌, true, Some, slice_get}
use Rattle.jz_tree.specs.declared.program.Fun.{Fun}
use Rattle.jz_tree.specs.declared.program.Program.{Program}
use Rattle.jz_runs.specs.Trees.{done}
use Rattle.jz_type_rows.specs.Exports.{is_exported}
use Rattle.jz_types.specs.TypedPrograms.{IsTypedProgram}
use Rattle.jz_meaning.specs.declared.value.Stuck.{Stuck}
use Rattle.jz_meaning.specs.Runs.{Returned, block}
use Rattle.jz_inline.specs.Texts.{IsText}
use Rattle.jz_change.specs.Views.{change_of}
use Rattle.jz_pass.specs.Laws.{Runs, Carries}
use Rattle.jz_copies.specs.declared.extent.CopyLimit.{CopyLimit}
use Rattle.jz_copies.specs.Counts.{IsExtent, Passes}
use Rattle.jz_inline.specs.Functions.{Given, runs_of, body_runs, alike, inlining_of}
use Rattle.jz_inline.specs.Statements.{no_callees, inlined_statements}
use Rattle.jz_frames.specs.Frames.{frame_of}
use Rattle.jz_inlining.specs.declared.inlining.Inlined.{Inlined}

-- there is an export function at that place of the program
pub record IsExport (p : Program) (place : ℕ) : Type 0 where
  pub function : Fun
  pub there : slice_get p.funs place ≡ Some function
  pub exported : is_exported function.kind ≡ true

-- the name, the annotations, the parameters and the results stay
abbrev pub inlined_function : Program → Fun → Fun
inlined_function p f = record f { vars = frame_of p f; body = inlined_statements p f }

-- what becomes of a function is one function, with one change of its leaks
pub record IsInlining (p : Program) (f : Fun) (r : Inlined) : Type 0 where
  pub function : r.fun ≡ inlined_function p f
  pub changed : change_of r.change ≡ inlining_of p f
  pub counted : IsExtent p f r.extent

pub record IsInlined (p : Program) (place : ℕ) (r : Inlined) : Type 0 where
  pub source : Fun
  pub there : slice_get p.funs place ≡ Some source
  pub made : IsInlining p source r

-- ---- runs

-- those of a function in which no call is left
abbrev pub plain_runs : Fun → Runs Given Returned Stuck
plain_runs g = body_runs (block no_callees g.body done) g

-- of a typed program that comes of a text: for each number of true tests of `while`, each run of
-- the export function is followed by one of what it becomes, with the same results and memory and
-- the changed leak, and the one is stuck where the other is, for the same reason
abbrev pub KeepsRuns : Program → ℕ → Inlined → Type 0
KeepsRuns p place r =
    (f : Fun) → slice_get p.funs place ≡ Some f → is_exported f.kind ≡ true → IsTypedProgram p
    → IsText p → Carries (alike p f) (runs_of p f) (plain_runs r.fun) (change_of r.change)

-- ---- the limit

-- the function at that place passes the limit
abbrev pub PassesAt : Program → ℕ → CopyLimit → Type 0
PassesAt p place limit =
    (f : Fun) × (slice_get p.funs place ≡ Some f) × Passes p f limit

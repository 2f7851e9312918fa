-- What the expansion of an export function promises: which function it is, the law of its runs, and
-- when there is none.
use Rattle.std.specs.Prelude.{ℕ, ◌≡◌, true, Some, slice_get}
use Rattle.jz_tree.specs.declared.program.Fun.{Fun}
use Rattle.jz_tree.specs.declared.program.Program.{Program}
use Rattle.jz_type_rows.specs.Exports.{is_exported}
use Rattle.jz_types.specs.TypedPrograms.{IsTypedProgram}
use Rattle.jz_texts.specs.Texts.{IsText}
use Rattle.jz_meaning.specs.Runs.{IsInput}
use Rattle.jz_run_laws.specs.Kinds.{HoldsBytes}
use Rattle.jz_change.specs.Views.{change_of}
use Rattle.jz_pass.specs.Laws.{Carries}
use Rattle.jz_limits.specs.declared.limit.Limit.{Limit}
use Rattle.jz_first_limit.specs.FirstLimits.{IsWithinLimits, PassesFirst, expanded_count}
use Rattle.jz_inlining.specs.Functions.{Given, runs_of, body_runs}
use Rattle.jz_unrolling.specs.FunctionRuns.{plain_body, alike_where}
use Rattle.jz_expansion.specs.Expansions.{IsExpansion}
use Rattle.jz_expansion.specs.declared.expanded.Expanded.{Expanded}

-- of the function at that place
pub record IsExpandedAt (p : Program) (place : ℕ) (r : Expanded) : Type 0 where
  pub source : Fun
  pub there : slice_get p.funs place ≡ Some source
  pub expansion : IsExpansion p source r.fun (change_of r.change) r.count

-- ---- runs

-- argument words of the function, and a memory of bytes
pub record IsInputOf (p : Program) (f : Fun) (given : Given) : Type 0 where
  pub words : IsInput p f given.words
  pub memory : HoldsBytes given.memory

-- of a typed program that comes of a text: for each number of true tests of `while`, each run of the
-- export function is followed by one of what it becomes, with the same results and memory and the
-- changed leak, and the one is stuck where the other is, for the same reason
abbrev pub KeepsRuns : Program → ℕ → Expanded → Type 0
KeepsRuns p place r =
    (f : Fun) → slice_get p.funs place ≡ Some f → is_exported f.kind ≡ true → IsTypedProgram p
    → IsText p
    → Carries (alike_where (IsInputOf p f)) (runs_of p f) (body_runs (plain_body r.fun) r.fun)
    (change_of r.change)

-- ---- refusals

-- the function at that place is within the limits, and has so many statements in expanded order
abbrev pub IsCountedAt : Program → ℕ → ℕ → Type 0
IsCountedAt p place n =
    (f : Fun) × (slice_get p.funs place ≡ Some f) × IsWithinLimits p f × (n ≡ expanded_count p f)

-- it passes this limit, and no other before it
abbrev pub PassesAt : Program → ℕ → Limit → Type 0
PassesAt p place limit = (f : Fun) × (slice_get p.funs place ≡ Some f) × PassesFirst p f limit

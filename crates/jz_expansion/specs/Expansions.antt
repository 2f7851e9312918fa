-- The expansion of a function of a program: its calls are copies of what they call, then loops are
-- their rounds, then the cells of register arrays are scalars.
use Rattle.std.specs.Prelude.{ℕ, ◌≡◌, true, Contains}
use Rattle.jz_tree.specs.declared.program.Fun.{Fun}
use Rattle.jz_tree.specs.declared.program.Program.{Program}
use Rattle.jz_type_rows.specs.Exports.{is_exported}
use Rattle.jz_types.specs.TypedPrograms.{IsTypedProgram}
use Rattle.jz_change.specs.Changes.{Change}
use Rattle.jz_change.specs.Composing.{compose_of}
use Rattle.jz_first_limit.specs.FirstLimits.{IsWithinLimits, expanded_count}
use Rattle.jz_inlining.specs.Functions.{inlining_of}
use Rattle.jz_inlining.specs.Inlined.{inlined_function}
use Rattle.jz_unrolling.specs.Unrolled.{IsUnrolled, KeepsHead}
use Rattle.jz_scalars.specs.Functions.{function_with_scalars, scalar_change}

-- the function g, what becomes of a leak of the function f of the text, and how many statements f
-- has in expanded order
pub record IsExpansion (p : Program) (f g : Fun) (k : Change) (count : ℕ) : Type 0 where
  pub within : IsWithinLimits p f
  -- the function whose loops are their rounds, and what becomes of a leak of the one without calls
  pub unrolled : Fun
  pub rounds : Change
  pub body : IsUnrolled (inlined_function p f) unrolled rounds
  pub head : KeepsHead (inlined_function p f) unrolled
  pub function : g ≡ function_with_scalars unrolled
  pub change : k ≡ compose_of (compose_of (inlining_of p f) rounds) (scalar_change unrolled)
  pub counted : count ≡ expanded_count p f

-- of an export function of some typed program
pub record IsExpanded (g : Fun) (k : Change) (count : ℕ) : Type 0 where
  pub program : Program
  pub source : Fun
  pub typed : ∥ IsTypedProgram program ∥₁
  pub there : Contains program.funs source
  pub exported : is_exported source.kind ≡ true
  pub expansion : IsExpansion program source g k count

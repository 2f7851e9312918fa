-- A function whose register arrays are scalars, and its runs beside those of the function.
use Rattle.std.specs.Prelude.{◌≡◌}
use Rattle.jz_tree.specs.declared.program.Fun.{Fun}
use Rattle.jz_meaning.specs.Runs.{entry_state}
use Rattle.jz_arrays.specs.Kinds.{Kinds, IsOfKinds}
use Rattle.jz_change.specs.Changes.{Change}
use Rattle.jz_change.specs.Views.{steps_of}
use Rattle.jz_pass.specs.Cases.{IsBetween, cases_of}
use Rattle.jz_pass.specs.Laws.{Carries}
use Rattle.jz_pass.specs.Rewriting.{Rewrites}
use Rattle.jz_runs.specs.Trees.{done}
use Rattle.jz_inline.specs.Functions.{Given, body_runs}
use Rattle.jz_function_runs.specs.FunctionRuns.{plain_body, alike_where}
use Rattle.jz_arrays.specs.Arrays.{arrays}
use Rattle.jz_scalars.specs.Scalars.{block_made}
use Rattle.jz_scalars.specs.Ready.{IsReady}

-- all else stays; the declaration of an array stands for those of its scalars
abbrev pub function_with_scalars : Fun → Fun
function_with_scalars f = record f { body = (block_made f.body).stmts }

abbrev pub scalar_change : Fun → Change
scalar_change f = steps_of (block_made f.body).steps

pub record IsScalars (f g : Fun) (k : Change) : Type 0 where
  pub function : g ≡ function_with_scalars f
  pub change : k ≡ scalar_change f

-- a run begins with a value of its kind in each parameter, and bytes in memory
abbrev pub BeginsWith : Kinds → Fun → Given → Type 0
BeginsWith kinds f given = IsOfKinds kinds (entry_state f given.words given.memory)

-- by the kinds of the variables the body becomes what register arrays as scalars make of it; each
-- run is followed by one of what it becomes, with the same results and memory and the changed leak,
-- and the one is stuck where the other is, for the same reason
pub record IsFollowed (kinds : Kinds) (f g : Fun) (k : Change) : Type 0 where
  pub rewritten : Rewrites (arrays kinds) (plain_body f) done (plain_body g) k
  pub runs :
      Carries (alike_where (BeginsWith kinds f)) (body_runs (plain_body f) f)
      (body_runs (plain_body g) g) k

abbrev pub KeepsRuns : Fun → Fun → Change → Type 0
KeepsRuns f g k = (kinds : Kinds) → IsReady kinds (plain_body f) → IsFollowed kinds f g k

-- the cases of the change are those of the leaks of both
abbrev pub KeepsCases : Fun → Fun → Change → Type 0
KeepsCases f g k = IsBetween (cases_of (plain_body f)) (cases_of (plain_body g)) k

-- A function whose cells are scalars keeps the runs.
use Rattle.std.proofs.Common.{refl, sym, ap, subst}
use Rattle.jz_tree.specs.declared.program.Fun.{Fun}
use Rattle.jz_runs.specs.Trees.{done}
use Rattle.jz_runs.specs.Rules.{Goes}
use Rattle.jz_meaning.specs.declared.access.Kind.TheVariants.{Undeclared}
use Rattle.jz_meaning.specs.Runs.{result_words}
use Rattle.jz_meaning.specs.States.{State}
use Rattle.jz_meaning.specs.Statements.{source}
use Rattle.jz_arrays.specs.Kinds.{Kinds}
use Rattle.jz_change.specs.Changes.{Change}
use Rattle.jz_pass.specs.Laws.{Carries, between_trees}
use Rattle.jz_pass.specs.Rewriting.{Rewrites, knowing_of}
use Rattle.jz_pass.proofs.Bodies.{unrolling_carries}
use Rattle.jz_inline.specs.Functions.{body_runs}
use Rattle.jz_function_runs.specs.FunctionRuns.{plain_body, alike_where}
use Rattle.jz_function_runs.proofs.Carrying.{functions_carry}
use Rattle.jz_arrays.specs.Arrays.{arrays, IsOneState}
use Rattle.jz_arrays.proofs.Keeping.{arrays_known}
use Rattle.jz_scalars.specs.Ready.{IsReady}
use Rattle.jz_scalars.specs.Functions.{function_with_scalars, scalar_change, IsScalars, BeginsWith, IsFollowed, KeepsRuns, KeepsCases}
use Rattle.jz_scalars.proofs.Rewriting.{block_rewritten, block_between}

module _ (kinds : Kinds) (f : Fun) where
  abbrev G : Fun
  G = function_with_scalars f

  rewritten : IsReady kinds (plain_body f) → Rewrites (arrays kinds) (plain_body f) done (plain_body G) (scalar_change f)
  rewritten ready = block_rewritten kinds f.body ready

  bodies : IsReady kinds (plain_body f) → Carries (between_trees (IsOneState kinds) (IsOneState kinds)) (λ s n. Goes source (plain_body f) n s) (λ t n. Goes source (plain_body G) n t) (scalar_change f)
  bodies ready = unrolling_carries source source (knowing_of (arrays kinds)) (arrays_known kinds) tt tt (plain_body f) (plain_body G) (scalar_change f) (rewritten ready)

  runs : IsReady kinds (plain_body f) → Carries (alike_where (BeginsWith kinds f)) (body_runs (plain_body f) f) (body_runs (plain_body G) G) (scalar_change f)
  runs ready =
      functions_carry (BeginsWith kinds f) (IsOneState kinds) (IsOneState kinds) f G (plain_body f) (plain_body G) (scalar_change f)
      (λ given held. record { one = refl; held = held })
      (λ s t e. ap (λ (x : State). x.memory) (sym e.one))
      (λ s t e. ap (λ (x : State). result_words f.result x.store) (sym e.one))
      (bodies ready)

  followed : IsReady kinds (plain_body f) → IsFollowed kinds f G (scalar_change f)
  followed ready = record { rewritten = rewritten ready; runs = runs ready }

pub keeps_runs : (f g : Fun) (k : Change) → IsScalars f g k → KeepsRuns f g k
keeps_runs f g k is kinds ready =
    subst (λ h. IsFollowed kinds f h k) (sym is.function) (subst (IsFollowed kinds f (function_with_scalars f)) (sym is.change) (followed kinds f ready))

pub keeps_cases : (f g : Fun) (k : Change) → IsScalars f g k → KeepsCases f g k
keeps_cases f g k is =
    subst (λ h. KeepsCases f h k) (sym is.function) (subst (KeepsCases f (function_with_scalars f)) (sym is.change) (block_between (λ n c. Undeclared) f.body))

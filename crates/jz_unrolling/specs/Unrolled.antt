-- A function and what it becomes.
use Rattle.std.specs.Prelude.{◌≡◌, true, not}
use Rattle.std.specs.List.{list_all}
use Rattle.jz_tree.specs.declared.program.Fun.{Fun}
use Rattle.jz_type_names.specs.Scopes.{variables_of}
use Rattle.jz_integers.specs.Integers.{KnownNumbers}
use Rattle.jz_meaning.specs.Trees.{done}
use Rattle.jz_change.specs.Changes.{Change}
use Rattle.jz_pass.specs.Cases.{IsBetween, cases_of}
use Rattle.jz_pass.specs.Laws.{Carries}
use Rattle.jz_pass.specs.Unrolling.{Unrolls}
use Rattle.jz_function_runs.specs.Functions.{body_runs}
use Rattle.jz_unroll.specs.Values.{is_inline_var}
use Rattle.jz_unroll.specs.Unrolling.{marked_vars, unrolling}
use Rattle.jz_function_runs.specs.FunctionRuns.{plain_body, alike_always}
use Rattle.jz_unrolling.specs.Fits.{Fits}
use Rattle.jz_unrolling_values.specs.InlineNames.{inline_names}
use Rattle.jz_unrolling_values.specs.Numbers.{no_numbers}

-- the body is unrolled, where the variables that are declared as inline integers are inline
pub record IsUnrolled (f g : Fun) (k : Change) : Type 0 where
  pub behind : KnownNumbers
  pub body :
      Unrolls (unrolling (inline_names (variables_of f))) (plain_body f) no_numbers done
      (plain_body g) behind k

-- all else stays, but for inline variables
pub record KeepsHead (f g : Fun) : Type 0 where
  pub notes : g.notes ≡ f.notes
  pub kind : g.kind ≡ f.kind
  pub name : g.name ≡ f.name
  pub span : g.span ≡ f.span
  pub params : g.params ≡ f.params
  pub rets : g.rets ≡ f.rets
  pub result : g.result ≡ f.result
  pub vars : g.vars ≡ marked_vars (inline_names (variables_of f)) f.vars

-- no result is an inline variable
abbrev pub GivesPlain : Fun → Type 0
GivesPlain f = list_all (λ v. not (is_inline_var (inline_names (variables_of f)) v)) f.result ≡ true

-- what is asked for has a value
pub record IsUnrollable (f : Fun) : Type 0 where
  pub behind : KnownNumbers
  pub fits : Fits (inline_names (variables_of f)) (plain_body f) no_numbers behind
  pub plain : GivesPlain f

-- ---- runs

-- on each input, for each number of true tests of `while`: a run of the one is followed by one of the
-- other, with the same results and memory and the changed leak, and the one is stuck where the other
-- is, for the same reason
abbrev pub KeepsRuns : Fun → Fun → Change → Type 0
KeepsRuns f g k =
    Carries alike_always (body_runs (plain_body f) f) (body_runs (plain_body g) g) k

-- of the cases of their leaks, whatever run has them
abbrev pub KeepsCases : Fun → Fun → Change → Type 0
KeepsCases f g k = IsBetween (cases_of (plain_body f)) (cases_of (plain_body g)) k

-- Results that are known, and the left sides that get them.
use Rattle.std.proofs.Common.{◌≡◌, ℕ, List, Option, ap, sym, ◌∙◌}
use Rattle.jz_tree.specs.Span.{Span}
use Rattle.x64_insn.specs.Size.{Size}
use Rattle.jz_tree.specs.declared.stmt.Lval.{Lval}
use Rattle.jz_meaning.specs.Rules.{stuck, went}
use Rattle.jz_meaning.specs.declared.value.Value as code
use Rattle.jz_meaning.specs.declared.value.Stuck.{Stuck}
use Rattle.jz_meaning.specs.Attempts.{Evaluation, numbers_first, and_then}
use Rattle.jz_meaning.specs.States.{State}
use Rattle.jz_meaning.specs.Assignments.{Results, all_written}
use Rattle.jz_meaning.proofs.AttemptLemmas.{gone_then, stuck_then}
use Rattle.jz_run_assign.specs.Answers.{meant_results}

-- the size is known by another name
module _ (ns ms : List ℕ) (at : Span) (z w : Option Size) (to : List Lval) (s : State) (g : Option Size → Evaluation Results) (size : z ≡ w) where
  pub results_refused :
      (k : Stuck) → stuck k ≡ numbers_first ns (g z)
      → stuck k ≡ numbers_first ns (and_then (g w) (λ ks. all_written at w to ks s))
  results_refused k e =
      stuck_then ns (g w) (λ ks. all_written at w to ks s) k (e ∙ ap (λ y. numbers_first ns (g y)) size)

  -- and so are the results
  pub results_written :
      (vs us : List (Option code.Value)) (x : Evaluation State) → us ≡ vs
      → went ms (meant_results vs) ≡ numbers_first ns (g z)
      → x ≡ numbers_first ms (all_written at z to (meant_results us) s)
      → x ≡ numbers_first ns (and_then (g w) (λ ks. all_written at w to ks s))
  results_written vs us x same behind written =
      gone_then ns ms (g w) (λ ks. all_written at w to ks s) (meant_results vs) x
      (behind ∙ ap (λ y. numbers_first ns (g y)) size)
      (written ∙ ap (λ y. numbers_first ms (all_written at y to (meant_results us) s)) size
      ∙ ap (λ y. numbers_first ms (all_written at w to (meant_results y) s)) same)

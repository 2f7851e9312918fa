-- A part behind two others: the second of them is stuck, or all have gone.
use Rattle.std.proofs.Common.{◌≡◌, ℕ, List, [], sym, ap, ◌∙◌, append-nil}
use Rattle.jz_meaning.specs.Rules.{stuck, went}
use Rattle.jz_meaning.specs.declared.value.Stuck.{Stuck}
use Rattle.jz_meaning.specs.Attempts.{Evaluation, numbers_first, and_then}
use Rattle.jz_meaning.proofs.AttemptLemmas.{stuck_then, gone_then}
use Rattle.jz_tree.specs.declared.expr.Var.{Var}
use Rattle.jz_tree.specs.declared.expr.Expr.TheViews.{out-Var, roll-out-Var}
use Rattle.jz_tree.specs.declared.expr.Expr.TheFolds.{fold-roll-Var}
use Rattle.jz_meaning.specs.Values.{Ref, ref_of, expr_step, ty_step, access_step, decl_step, var_step}

module _ {A B C : Type 0} (out ms : List ℕ) (first : Evaluation A) (second : A → Evaluation B) (third : B → Evaluation C) (x : A) (e : went ms x ≡ numbers_first out first) where
  pub second_stuck : (k : Stuck) → stuck k ≡ numbers_first ms (second x) → stuck k ≡ numbers_first out (and_then first (λ v. and_then (second v) third))
  second_stuck k f = gone_then out ms first (λ v. and_then (second v) third) x (stuck k) e (stuck_then ms (second x) third k f)

  -- the third leaks nothing
  pub all_gone : (y : B) (z : C) → went ms y ≡ numbers_first ms (second x) → went [] z ≡ third y → went ms z ≡ numbers_first out (and_then first (λ v. and_then (second v) third))
  all_gone y z f g = gone_then out ms first (λ v. and_then (second v) third) x (went ms z) e (gone_then ms ms (second x) third y (went ms z) f (ap (λ l. went l z) (sym (append-nil ms)) ∙ ap (numbers_first ms) g))

-- where a variable stands
pub span_is : (v : Var) → (out-Var v).span ≡ (ref_of v).span
span_is v = sym (ap (λ (r : Ref). r.span) (ap ref_of (sym (roll-out-Var v)) ∙ fold-roll-Var _ _ _ _ _ expr_step ty_step access_step decl_step var_step (out-Var v)))

-- What is told of a function.
use Rattle.std.proofs.Common.{◌≡◌, ℕ, List, Option, Some, None, refl, sym, ap, ◌∙◌, subst}
use Rattle.std.specs.Prelude.{◌↔◌}
use Rattle.std.proofs.Math.Logic.{∥∥₁_elim}
use Rattle.jz_tree.specs.declared.expr.Var.{Var}
use Rattle.jz_tree.specs.declared.expr.Expr.TheViews.{out-Var, roll-out-Var}
use Rattle.jz_tree.specs.declared.expr.Expr.TheFolds.{fold-roll-Var}
use Rattle.jz_tree.specs.declared.program.Fun.{Fun}
use Rattle.jz_runs.specs.Trees.{done, op, quiet, choose, loop, each, call}
use Rattle.jz_meaning.specs.Values.{Ref, ref_of, expr_step, ty_step, access_step, decl_step, var_step}
use Rattle.jz_meaning.specs.Statements.{Block}
use Rattle.jz_labels.specs.Labels.{named}
use Rattle.jz_labels.specs.Operations.{plain_of, tested_by}
use Rattle.jz_labels.specs.ConstantTime.{at_entry}
use Rattle.jz_labels.proofs.Comparing.{labels_no_breach, no_breach_labels}
use Rattle.jz_layers.specs.Spots.{variable_key}
use Rattle.jz_required.specs.declared.part.Required.{Required}
use Rattle.jz_required.specs.Readings as readings
use Rattle.jz_required.specs.Kept.{origin_of, reason_of}
use Rattle.jz_drawing.specs.Drawings.{IsFree}
use Rattle.jz_breaches.specs.Answers as drawn
use Rattle.jz_change.specs.Changes.{Change}
use Rattle.jz_one_expansion.specs.Expansions.{IsExpanded}
use Rattle.jz_one_expansion.proofs.Expansions.{expansion_plain}
use Rattle.jz_ct.specs.declared.breach.Secret.{Secret}
use Rattle.jz_ct.specs.declared.breach.Secret.TheVariants as secret
use Rattle.jz_ct.specs.declared.judging.Ct.{Ct}
use Rattle.jz_ct.specs.declared.judging.Ct.TheVariants as ct
use Rattle.jz_function_runs.specs.FunctionRuns.{plain_body}
use Rattle.jz_ct.specs.Told.{secret_of, told_by, IsConstantTime, HasFirstBreach}

name_is : (v : Var) → (out-Var v).name ≡ (variable_key v).name
name_is v = sym (ap (λ (r : Ref). r.name) (ap ref_of (sym (roll-out-Var v)) ∙ fold-roll-Var _ _ _ _ _ expr_step ty_step access_step decl_step var_step (out-Var v)))

cell_is : (v : Var) → (out-Var v).cell ≡ (variable_key v).cell
cell_is v = sym (ap (λ (r : Ref). r.cell) (ap ref_of (sym (roll-out-Var v)) ∙ fold-roll-Var _ _ _ _ _ expr_step ty_step access_step decl_step var_step (out-Var v)))

pub variable_told : (v : Var) (name : List ℕ) → name ≡ (out-Var v).name → secret_of (secret.Variable name (out-Var v).cell) ≡ named (variable_key v).name (variable_key v).cell
variable_told v name e = ap (λ (n : List ℕ). named n (out-Var v).cell) (e ∙ name_is v) ∙ ap (named (variable_key v).name) (cell_is v)

pub none_told : (f : Fun) (r : Option Required) → r ≡ None → HasFirstBreach f (drawn.told r) → HasFirstBreach f (told_by ct.Yes)
none_told f r e h = subst (λ (x : Option Required). HasFirstBreach f (drawn.told x)) e h

pub some_told : (f : Fun) (r : Option Required) (x : Required) (s : Secret) → r ≡ Some x → secret_of s ≡ readings.secret_of (origin_of x.part) → HasFirstBreach f (drawn.told r) → HasFirstBreach f (told_by (ct.No (record { span = x.span; why = x.why; secret = s })))
some_told f r x s e k h =
    subst (λ z. HasFirstBreach f (Some (record { span = x.span; why = reason_of x.why; secret = z }))) (sym k) (subst (λ (y : Option Required). HasFirstBreach f (drawn.told y)) e h)

-- ---- yes, or a breach

is_yes : (x : Ct) → told_by x ≡ None → x ≡ ct.Yes
is_yes ct.Yes e = refl
is_yes (ct.No b) e = absurd (cc e)

pub yes_told : (f : Fun) (x : Ct) → HasFirstBreach f (told_by x) → (x ≡ ct.Yes) ↔ IsConstantTime f
yes_told f x h = (
  λ e. no_breach_labels plain_of tested_by (at_entry f.params) (plain_body f) (subst (λ (y : Ct). HasFirstBreach f (told_by y)) e h),
  λ c. is_yes x (labels_no_breach plain_of tested_by (at_entry f.params) (plain_body f) (told_by x) c h),
)

-- ---- neither a call nor a `for` is left

free_one : (t : Block) (x y : IsFree t) → x ≡ y
free_one done x y = refl
free_one (op o r) (p, x) (q, y) = ap (λ z. (p, z)) (free_one r x y)
free_one (quiet o r) (p, x) (q, y) = ap (λ z. (p, z)) (free_one r x y)
free_one (choose c a b r) (p, x0, x1, x2) (q, y0, y1, y2) = λ i. (p, free_one a x0 y0 i, free_one b x1 y1 i, free_one r x2 y2 i)
free_one (loop w h c b r) (p, x0, x1, x2) (q, y0, y1, y2) = λ i. (p, free_one h x0 y0 i, free_one b x1 y1 i, free_one r x2 y2 i)
free_one (each f b r) x y = absurd x
free_one (call c b r) x y = absurd x

expanded_free : (g : Fun) (k : Change) (n : ℕ) → IsExpanded g k n → IsFree (plain_body g)
expanded_free g k n e = expansion_plain e.program e.source g k n e.expansion

pub free_of : (g : Fun) (k : Change) (n : ℕ) → ∥ IsExpanded g k n ∥₁ → IsFree (plain_body g)
free_of g k n e = ∥∥₁_elim e (free_one (plain_body g)) (expanded_free g k n)

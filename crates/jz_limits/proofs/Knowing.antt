-- What the code knows of inline variables.
use Rattle.std.proofs.Common.{◌≡◌, ℕ, Bool, true, false, List, Option, Some, None, refl, sym, ap, ◌∙◌, if◌then◌else◌}
use Rattle.std.specs.Prelude.{ℤ, ◌==◌, ◌&&◌}
use Rattle.std.specs.Str.{bytes_eq}
use Rattle.std.proofs.Math.Path.{fun_ext}
use Rattle.jz_tree.specs.declared.expr.Expr.{Expr}
use Rattle.jz_tree.specs.declared.expr.Ty.{Ty}
use Rattle.jz_tree.specs.declared.expr.Access.{Access}
use Rattle.jz_tree.specs.declared.expr.Decl.{Decl}
use Rattle.jz_tree.specs.declared.expr.Var.{Var}
use Rattle.jz_tree.specs.declared.expr.Expr.TheViews.{out-Var, roll-out-Var}
use Rattle.jz_tree.specs.declared.expr.Expr.TheFolds.{fold-roll-Var}
use Rattle.jz_meaning.specs.States.{Value, Store, empty_store, put}
use Rattle.jz_meaning.specs.Stores.{store_of}
use Rattle.jz_meaning.specs.Values.{Ref, expr_step, ty_step, access_step, decl_step, var_step, ref_of}
use Rattle.jz_limits.specs.declared.known.Known.{Known}
use Rattle.jz_limits.specs.InnerKnown.{number_held, held, numbers_of}
use Rattle.jz_limits.specs.Values.{no_numbers, with_number}

pub none_known : (k : Known) → store_of k.store ≡ empty_store → numbers_of k ≡ no_numbers
none_known k h = fun_ext (λ n. fun_ext (λ c. ap (λ (s : Store). number_held (s (record { name = n; copy = c; cell = None }))) h))

pub ref_name : (v : Var) → (ref_of v).name ≡ (out-Var v).name
ref_name v = ap (λ w. (ref_of w).name) (sym (roll-out-Var v)) ∙ ap (λ (r : Ref). r.name) (fold-roll-Var _ _ _ _ _ expr_step ty_step access_step decl_step var_step (out-Var v))

pub ref_copy : (v : Var) → (ref_of v).copy ≡ (out-Var v).copy
ref_copy v = ap (λ w. (ref_of w).copy) (sym (roll-out-Var v)) ∙ ap (λ (r : Ref). r.copy) (fold-roll-Var _ _ _ _ _ expr_step ty_step access_step decl_step var_step (out-Var v))

held_number : (n : Option ℤ) → number_held (held n) ≡ n
held_number None = refl
held_number (Some i) = refl

chosen_number : (a b : Bool) (n : Option ℤ) (x : Option Value) → number_held (if a && (b && true) then held n else x) ≡ (if a && b then n else number_held x)
chosen_number true true n x = held_number n
chosen_number true false n x = refl
chosen_number false b n x = refl

pub set_known :
    (k : Known) (s : Store) (v : Var) (n : Option ℤ) (w : Option Value)
    → s ≡ put (store_of k.store) (record { name = (out-Var v).name; copy = (out-Var v).copy; cell = None }) w
    → w ≡ held n
    → (name : List ℕ) (copy : ℕ)
    → number_held (s (record { name = name; copy = copy; cell = None })) ≡ with_number (numbers_of k) v n name copy
set_known k s v n w h g name copy =
    ap (λ (t : Store). number_held (t (record { name = name; copy = copy; cell = None }))) (h ∙ ap (put (store_of k.store) (record { name = (out-Var v).name; copy = (out-Var v).copy; cell = None })) g)
    ∙ (chosen_number (bytes_eq (out-Var v).name name) ((out-Var v).copy == copy) n (store_of k.store (record { name = name; copy = copy; cell = None }))
    ∙ (ap (λ m. if bytes_eq m name && (out-Var v).copy == copy then n else numbers_of k name copy) (sym (ref_name v))
    ∙ ap (λ m. if bytes_eq (ref_of v).name name && m == copy then n else numbers_of k name copy) (sym (ref_copy v))))

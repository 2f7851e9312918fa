-- The old value of a left side.
use Rattle.std.proofs.Common.{◌≡◌, refl, ap, sym, ◌∙◌}
use Rattle.jz_tree.specs.declared.expr.Access.{Access}
use Rattle.jz_tree.specs.declared.expr.Expr.{Expr}
use Rattle.jz_tree.specs.declared.expr.Expr.TheVariants as expr
use Rattle.jz_tree.specs.declared.expr.Var.{Var}
use Rattle.jz_tree.specs.declared.stmt.Lval.{Lval}
use Rattle.jz_tree.specs.declared.stmt.Lval.TheVariants as lval
use Rattle.jz_meaning.specs.Values.{ref_of, access_of}
use Rattle.jz_meaning.specs.Assignments.{left_size, as_expr}
use Rattle.jz_terms.specs.Terms.{cell, load, term_of, place_of}
use Rattle.jz_terms.proofs.TermForms.{term_var, term_cell, term_load}
use Rattle.jz_facts.specs.Facts.{Facts, Given}
use Rattle.jz_alarms.specs.Conditions.{asks, asks_if}
use Rattle.jz_asked.specs.InnerAsked.{asks_set}

module _ (g : Given) (s : Facts) (to : Lval) where
  pub read_var : (v : Var) → to ≡ lval.Var v → asks_set s (ref_of v) ≡ asks_if g s (left_size to) (as_expr to)
  read_var v h = sym (ap (λ d. asks_if g s (left_size d) (as_expr d)) h ∙ ap (asks g s (left_size (lval.Var v))) (term_var (expr.Var v) v refl))

  pub read_cell : (v : Var) (i : Expr) → to ≡ lval.Cell v i → asks g s (left_size (lval.Cell v i)) (cell (ref_of v) (term_of i)) ≡ asks_if g s (left_size to) (as_expr to)
  read_cell v i h = sym (ap (λ d. asks_if g s (left_size d) (as_expr d)) h ∙ ap (asks g s (left_size (lval.Cell v i))) (term_cell (expr.Cell v i) v i refl))

  pub read_store : (a : Access) → to ≡ lval.Store a → asks g s (access_of a).size (load (place_of a).spot (place_of a).at) ≡ asks_if g s (left_size to) (as_expr to)
  read_store a h = sym (ap (λ d. asks_if g s (left_size d) (as_expr d)) h ∙ ap (asks g s (access_of a).size) (term_load (expr.Load a) a refl))

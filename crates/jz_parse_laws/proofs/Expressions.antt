-- The variables of each expression have named names.
use Rattle.std.proofs.Common.{ℕ, zero, suc, List, [], ◌∷◌, false, Option, Some, None, sym, subst, codes}
use Rattle.std.specs.Prelude.{All}
use Rattle.std.proofs.lemmas.List.Elements.{All-head, All-tail}
use Rattle.jz_tree.specs.Span.{Span}
use Rattle.jz_tree.specs.Size.{Size}
use Rattle.jz_grammar.specs.Grammar.{Lang, token, ◌⇒◌, never}
use Rattle.jz_tree.specs.declared.expr.BinOp.{BinOp}
use Rattle.jz_tree.specs.declared.expr.Expr.{Expr}
use Rattle.jz_tree.specs.declared.expr.Ty.{Ty}
use Rattle.jz_tree.specs.declared.expr.Access.{Access}
use Rattle.jz_tree.specs.declared.expr.Decl.{Decl}
use Rattle.jz_tree.specs.declared.expr.Var.{Var}
use Rattle.jz_tree.specs.declared.expr.Expr.TheOpen.{Var-F, Access-F}
use Rattle.jz_tree.specs.declared.expr.Expr.TheViews.{out-roll-Var, out-Access, out-roll-Access}
use Rattle.jz_parse_expr.specs.Operators.{ops_of, op_of, level_count}
use Rattle.jz_parse_expr.specs.Trees.{used_of, name_expr, access_of, chain}
use Rattle.jz_parse_expr.specs.Table as e
use Rattle.jz_types.specs.Carried as carried
use Rattle.jz_texts.proofs.Variables.{of_number, of_bool, of_variable, of_cell, of_load, of_negated, of_inverted, of_cast, of_operation}
use Rattle.jz_parse_laws.proofs.Phrases.{IfSome, AnyOf, Gives, anything, none, two, seen, either, every, perhaps, within, name}
use Rattle.jz_parse_laws.proofs.Bodies.{OfVar}

abbrev VarLayer : Type 0
VarLayer = Var-F Expr Ty Access Decl Var

module _ (N : List ℕ → Type 0) where
  pub used : (n : List ℕ × Span) → N n.0 → OfVar N (used_of n)
  used n h =
      subst (λ (y : VarLayer). N y.name) (sym (out-roll-Var (record { name = n.0; copy = 0; cell = None; decl = None; span = n.1 }))) h

  abbrev pub OfExpr : Expr → Type 0
  OfExpr x = All (OfVar N) (carried.vars_in x)

  abbrev Second : Span × Expr → Type 0
  Second p = OfExpr p.1

  chained : (a : Span × Expr) (ps : List (BinOp × (Span × Expr))) → Second a → All (λ p. Unit {0} × Second p.1) ps → Second (chain a ps)
  chained a [] h k = h
  chained a (p ∷ ps) h k =
      chained (a.0, _) ps (of_operation (OfVar N) p.0 a.1 p.1.1 a.0 h (All-head (λ p. Unit {0} × Second p.1) p ps k).1) (All-tail (λ p. Unit {0} × Second p.1) p ps k)

  levels : (unary : Lang (Span × Expr)) (k d : ℕ) → Gives N unary Second → Gives N (e.levels unary k d) Second
  levels unary zero d U = U
  levels unary (suc k) d U =
      seen N Second _ (λ p h. chained p.0 p.1 h.0 h.1)
      (two N (levels unary k d U) (every N (λ p. Unit {0} × Second p.1) (two N (anything N (token (ops_of k) d ⇒ op_of)) (levels unary k d U))))

  address : (p : Span × (Option Size × Expr)) → OfExpr p.1.1 → OfExpr (out-Access (access_of p)).at
  address p h = subst (λ (y : Access-F Expr Ty Access Decl Var). OfExpr y.at) (sym (out-roll-Access (record { size = p.1.0; at = p.1.1; unaligned = false; span = p.0 }))) h

  named : (p : (List ℕ × Span) × Option Expr) → N p.0.0 × IfSome OfExpr p.1 → Second (name_expr p)
  named (n, None) h = of_variable (OfVar N) (used_of n) (used n h.0)
  named (n, Some i) h = of_cell (OfVar N) (used_of n) i (used n h.0) h.1

  module _ (low : ℕ → Lang (Span × Expr)) (L : (b : ℕ) → Gives N (low b) Second) where
    inner_expr : (b : ℕ) → Gives N (e.expr_at (low b) b) Second
    inner_expr b = levels (low b) level_count b (L b)

    bracket : (d : ℕ) → Gives N (e.bracket low d) OfExpr
    bracket d = seen N OfExpr _ (λ p h. h.0) (within N _ _ (λ q. Second q.0 × AnyOf q.1) d (λ b. two N (inner_expr b) (anything N (e.the (codes "]") b))))

    abbrev At : Span × (Option Size × Expr) → Type 0
    At p = OfExpr p.1.1

    cast_access : (d : ℕ) → Gives N (e.cast_access low d) At
    cast_access d = seen N At _ (λ p h. h.1) (two N (anything N _) (bracket d))

    plain_access : (d : ℕ) → Gives N (e.plain_access low d) At
    plain_access d =
        seen N At _ (λ p h. h.1.0)
        (within N _ _ (λ q. AnyOf q.0 × (Second q.1.0 × AnyOf q.1.1)) d (λ b. two N (anything N _) (two N (inner_expr b) (anything N (e.the (codes "]") b)))))

    unary_of : (d : ℕ) → Gives N (e.unary_of low d) Second
    unary_of d =
        either N (seen N Second _ (λ n h. of_number (OfVar N) n.0 n.1) (anything N _))
        (either N (seen N Second _ named (two N (name N d) (perhaps N OfExpr (bracket d))))
        (either N (seen N Second _ (λ sp h. of_bool (OfVar N) _ sp) (anything N (e.key (codes "true") d)))
        (either N (seen N Second _ (λ sp h. of_bool (OfVar N) _ sp) (anything N (e.key (codes "false") d)))
        (either N (seen N Second _ (λ p h. of_negated (OfVar N) p.1.1 p.0 h) (within N _ low Second d L))
        (either N (seen N Second _ (λ p h. of_inverted (OfVar N) p.1.1 p.0 h) (within N _ low Second d L))
        (either N (seen N Second _ (λ p h. of_load (OfVar N) (access_of p) (address p h)) (plain_access d))
        (either N (seen N Second _ (λ p h. of_load (OfVar N) (access_of p) (address p h)) (cast_access d))
        (either N (seen N Second _ (λ p h. of_cast (OfVar N) p.1.0.0 p.1.0.1 p.1.1.1.1 p.0 h.1.1)
        (within N _ _ (λ q. AnyOf q.0 × (AnyOf q.1.0 × Second q.1.1)) d (λ b. two N (anything N _) (two N (anything N (e.the (codes ")") b)) (L b)))))
        (seen N Second _ (λ p h. h.0) (within N _ _ (λ q. Second q.0 × AnyOf q.1) d (λ b. two N (inner_expr b) (anything N (e.the (codes ")") b)))))))))))))

  unary : (d : ℕ) → Gives N (e.unary d) Second
  unary zero = unary_of (λ _. never) (λ b. none N Second) zero
  unary (suc d) = unary_of (λ _. e.unary d) (λ b. unary d) (suc d)

  pub expr : (d : ℕ) → Gives N (e.expr d) OfExpr
  expr d = seen N OfExpr _ (λ p h. h) (levels (e.unary d) level_count d (unary d))

  pub index : (d : ℕ) → Gives N (e.index d) OfExpr
  index d = bracket e.unary unary d

  abbrev pub OfAccess : Access → Type 0
  OfAccess a = OfExpr (out-Access a).at

  pub access : (d : ℕ) → Gives N (e.access d) OfAccess
  access d = either N (seen N OfAccess _ address (cast_access e.unary unary d)) (seen N OfAccess _ address (plain_access e.unary unary d))

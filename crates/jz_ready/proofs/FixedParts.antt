-- Statements of which it is fixed how many numbers each part leaks, and bodies of such statements.
use Rattle.std.proofs.Common.{◌≡◌, ℕ, List, [], Option, Some, None, true, false, ap, sym, ◌∙◌}
use Rattle.std.specs.Prelude.{All, take}
use Rattle.std.proofs.lemmas.List.Elements.{All-head}
use Rattle.jz_tree.specs.Operators.{joins}
use Rattle.jz_tree.specs.Spellings.{spelled}
use Rattle.jz_tree.specs.Span.{Span}
use Rattle.jz_tree.specs.declared.expr.BinOp.{BinOp}
use Rattle.jz_tree.specs.declared.expr.Expr.{Expr}
use Rattle.jz_tree.specs.declared.expr.Expr.TheVariants as expr
use Rattle.jz_tree.specs.declared.expr.Ty.{Ty}
use Rattle.jz_tree.specs.declared.expr.Access.{Access}
use Rattle.jz_tree.specs.declared.expr.Decl.{Decl}
use Rattle.jz_tree.specs.declared.expr.Var.{Var}
use Rattle.jz_tree.specs.declared.expr.Expr.TheOpen.{Expr-F, Access-F}
use Rattle.jz_tree.specs.declared.expr.Expr.TheViews.{out-Access, roll-Access, roll-out-Access}
use Rattle.jz_tree.specs.declared.expr.Expr.TheFolds.{fold-roll-Access}
use Rattle.jz_tree.specs.declared.stmt.Lval.{Lval}
use Rattle.jz_tree.specs.declared.stmt.Lval.TheVariants as lval
use Rattle.jz_tree.specs.declared.program.Fun.{Fun}
use Rattle.jz_type_names.specs.Parts.{left_exprs}
use Rattle.jz_runs.specs.Trees.{done, op, quiet, choose, loop, each, call}
use Rattle.jz_meaning.specs.Assignments.{as_expr}
use Rattle.jz_meaning.specs.Shapes.{Sorts, Shape, operation_shape, shape_step, shape_of}
use Rattle.jz_meaning.specs.Statements.{Operation, assign, instruction, Block}
use Rattle.jz_arrays.specs.Arrays.{IsRead, IsNoCell, flags_before}
use Rattle.jz_arrays.proofs.Reading.{shape_access, sort_of_var, shape_is}

-- no truths are joined
abbrev pub NoJoin : Option BinOp → Type 0
NoJoin None = Unit {0}
NoJoin (Some o) = joins o ≡ false

module _ (sorts : Sorts) where
  pub record IsFixedAssign (to : List Lval) (o : Option BinOp) (e : Expr) (c : Option Expr) : Type 0 where
    pub lefts : All (λ d. IsRead sorts (as_expr d)) to
    pub value : IsRead sorts (Some e)
    pub condition : IsRead sorts c
    pub operation : NoJoin o

  pub record IsFixedInstruction (to : List Lval) (n : List ℕ) (args : List Expr) : Type 0 where
    pub lefts : All (λ d. IsRead sorts (as_expr d)) to
    pub operands : All (λ e. IsRead sorts (Some e)) args
    pub flags : All IsNoCell (take (flags_before (spelled n)) to)

  abbrev pub IsFixedOperation : Operation → Type 0
  IsFixedOperation (assign to o e c at) = IsFixedAssign to o e c
  IsFixedOperation (instruction to n args at) = IsFixedInstruction to n args
  IsFixedOperation _ = Unit {0}

-- sorts: of the variables of each function; P: what is known of each that is called
module _ (sorts : Fun → Sorts) (P : Fun → Type 0) where
  abbrev pub IsFixedBody : Fun → Block → Type 0
  IsFixedBody f done = Unit {0}
  IsFixedBody f (op o r) = IsFixedOperation (sorts f) o × IsFixedBody f r
  IsFixedBody f (quiet o r) = IsFixedBody f r
  IsFixedBody f (choose p a b r) = IsRead (sorts f) (Some p.cond) × IsFixedBody f a × IsFixedBody f b × IsFixedBody f r
  IsFixedBody f (loop h q p b r) = IsRead (sorts f) (Some p.cond) × IsFixedBody f q × IsFixedBody f b × IsFixedBody f r
  IsFixedBody f (each i b r) = IsFixedBody f b × IsFixedBody f r
  IsFixedBody f (call c b r) = P c.callee × IsFixedBody c.callee b × IsFixedBody f r

-- ---- expressions, form by form

module _ (sorts : Sorts) where
  pub shape_var : (v : Var) → shape_of sorts (expr.Var v) ≡ record { sort = sort_of_var sorts v; count = 0; fixed = true }
  shape_var v = ap (shape_of sorts) (sym (expr.rolls-Var v)) ∙ shape_is sorts (Expr-F.Var v)

  pub shape_bin : (o : BinOp) (a b : Expr) (at : Span) → shape_of sorts (expr.Bin o a b at) ≡ operation_shape o (shape_of sorts a) (shape_of sorts b)
  shape_bin o a b at = ap (shape_of sorts) (sym (expr.rolls-Bin o a b at)) ∙ shape_is sorts (Expr-F.Bin o a b at)

  pub fixed_cell : (v : Var) (i : Expr) → (shape_of sorts (expr.Cell v i)).fixed ≡ (shape_of sorts i).fixed
  fixed_cell v i = ap (λ k. (shape_of sorts k).fixed) (sym (expr.rolls-Cell v i)) ∙ ap (λ (s : Shape). s.fixed) (shape_is sorts (Expr-F.Cell v i))

  pub fixed_load : (a : Access) → (shape_of sorts (expr.Load a)).fixed ≡ (shape_access sorts a).fixed
  fixed_load a = ap (λ k. (shape_of sorts k).fixed) (sym (expr.rolls-Load a)) ∙ ap (λ (s : Shape). s.fixed) (shape_is sorts (Expr-F.Load a))

  pub access_rolled : (x : Access-F Expr Ty Access Decl Var) → shape_access sorts (roll-Access x) ≡ shape_of sorts x.at
  access_rolled x = fold-roll-Access _ _ _ _ _ shape_step (λ t. tt) (λ a. a.at) (λ d. tt) (λ v. sorts v.name v.copy) x

  pub access_shape_is : (a : Access) → shape_access sorts a ≡ shape_of sorts (out-Access a).at
  access_shape_is a = ap (shape_access sorts) (sym (roll-out-Access a)) ∙ access_rolled (out-Access a)

  -- a left side where it is read
  pub left_read : (d : Lval) → All (λ e. (shape_of sorts e).fixed ≡ true) (left_exprs d) → IsRead sorts (as_expr d)
  left_read (lval.Skip at) h = tt
  left_read (lval.Var v) h = ap (λ (s : Shape). s.fixed) (shape_var v)
  left_read (lval.Cell v i) h = fixed_cell v i ∙ All-head (λ e. (shape_of sorts e).fixed ≡ true) i [] h
  left_read (lval.Store a) h =
      fixed_load a ∙ ap (λ (s : Shape). s.fixed) (access_shape_is a)
      ∙ All-head (λ e. (shape_of sorts e).fixed ≡ true) (out-Access a).at [] h

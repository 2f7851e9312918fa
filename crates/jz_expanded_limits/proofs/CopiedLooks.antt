-- A copy of an expression passes the limits that the expression passes, where no number is known.
use Rattle.std.proofs.Common.{◌≡◌, Bool, None, refl, sym, ap, ◌∙◌, subst}
use Rattle.std.specs.Prelude.{option_map}
use Rattle.std.specs.Option.{option_or}
use Rattle.jz_tree.specs.Size.{Size}
use Rattle.jz_tree.specs.Span.{Span}
use Rattle.jz_tree.specs.declared.expr.BinOp.{BinOp}
use Rattle.jz_tree.specs.declared.expr.Expr.{Expr}
use Rattle.jz_tree.specs.declared.expr.Expr.TheVariants as expr
use Rattle.jz_tree.specs.declared.expr.Ty.{Ty}
use Rattle.jz_tree.specs.declared.expr.Access.{Access}
use Rattle.jz_tree.specs.declared.expr.Decl.{Decl}
use Rattle.jz_tree.specs.declared.expr.Var.{Var}
use Rattle.jz_tree.specs.declared.expr.Expr.TheOpen.{Expr-F, Access-F, Var-F}
use Rattle.jz_tree.specs.declared.expr.Expr.TheViews.{out-Access, roll-Expr, roll-Access, out-roll-Access, out-roll-Var, roll-out-Access}
use Rattle.jz_tree.specs.declared.expr.Expr.TheFolds.{ind-Expr, map-Expr, map-Access}
use Rattle.jz_integers.specs.Integers.{number}
use Rattle.jz_type_names.specs.Kinds.{declared_of, is_inline_int}
use Rattle.jz_meaning.specs.Values.{Ref, size_of, size_of_operation, access_of, own_size}
use Rattle.jz_inline.specs.Names.{Names, var_in, expr_in, access_in}
use Rattle.jz_inline.proofs.Reading.{ref_so, layer_in, in_is, access_layer_in, access_in_is}
use Rattle.jz_unroll.proofs.Layers.{Layer}
use Rattle.jz_limits.specs.declared.looked.Asking.{Asking}
use Rattle.jz_limits.specs.Values.{no_numbers}
use Rattle.jz_limits.specs.Asked.{size_compared}
use Rattle.jz_limits.specs.InnerLooked.{seen_as, look_of, no_part}
use Rattle.jz_limits.proofs.Layers.{own_var, look_var}
use Rattle.jz_limits.proofs.Compared.{compared_var, compared_cell, compared_load, compared_neg, compared_not, compared_cast, compared_bin}
use Rattle.jz_kept_limits.specs.Passing.{Passes}
use Rattle.jz_kept_limits.proofs.Passed.{passes_as, passes_itself, passes_then}
use Rattle.jz_kept_limits.proofs.SizeLemmas.{own_cell, own_load, own_neg, own_not, own_cast, own_bin, size_out}
use Rattle.jz_kept_limits.proofs.Kept.{load_passes, cell_passes, minus_passes, denial_passes, cast_passes, two_pass}
use Rattle.jz_kept_limits.proofs.Lefts.{AreAlike, renamed_passes}

module _ (m : Names) where
  pub alike_in : (v : Var) → AreAlike v (var_in m v)
  alike_in v = record {
    known = ap (λ (x : Var-F Expr Ty Access Decl Var). option_map declared_of x.decl) (out-roll-Var _);
    kind = ap (λ (r : Ref). r.kind) (ref_so m v);
    span = ap (λ (x : Var-F Expr Ty Access Decl Var). x.span) (out-roll-Var _);
  }

  pub access_out : (a : Access) → out-Access (access_in m a) ≡ access_layer_in m (out-Access a)
  access_out a =
      ap (λ x. out-Access (access_in m x)) (sym (roll-out-Access a)) ∙ ap out-Access (access_in_is m (out-Access a)) ∙ out-roll-Access (access_layer_in m (out-Access a))

  pub access_size : (a : Access) → (access_of (access_in m a)).size ≡ (access_of a).size
  access_size a = size_out (access_in m a) ∙ ap (λ (x : Access-F Expr Ty Access Decl Var). x.size) (access_out a) ∙ sym (size_out a)

  -- ---- expressions
  pub record Copied (x y : Expr) : Type 0 where
    pub passes : (q : Asking) → Passes (look_of no_numbers q x) (look_of no_numbers q y)
    pub own : own_size y ≡ own_size x
    pub compared : size_compared y ≡ size_compared x

  itself : (x : Expr) → Copied x x
  itself x = record { passes = λ q. passes_itself (look_of no_numbers q x); own = refl; compared = refl }

  -- as it is rolled
  copied_as : (x y x2 y2 : Expr) → x2 ≡ x → y2 ≡ y → Copied x y → Copied x2 y2
  copied_as x y x2 y2 e f h = subst (λ z. Copied z y2) (sym e) (subst (Copied x) (sym f) h)

  abbrev ExprLaw : Expr → Type 0
  ExprLaw x = Copied x (expr_in m x)

  abbrev AccessLaw : Access → Type 0
  AccessLaw a = Copied (out-Access a).at (expr_in m (out-Access a).at)

  abbrev Any : {A : Type 0} → A → Type 0
  Any y = Unit {0}

  abbrev Known : Type 0
  Known = Expr-F ((x : Expr) × ExprLaw x) ((y : Ty) × Any y) ((a : Access) × AccessLaw a) ((d : Decl) × Any d) ((v : Var) × Any v)

  abbrev bare : Known → Layer
  bare y = map-Expr _ _ _ _ _ _ _ _ _ _ (λ x. x.0) (λ x. x.0) (λ x. x.0) (λ x. x.0) (λ x. x.0) y

  variable_copied : (v : Var) → Copied (expr.Var v) (expr.Var (var_in m v))
  variable_copied v =
      let w = var_in m v in
      let a = alike_in v in
      record {
        passes = λ q.
            passes_as (look_of no_numbers q (expr.Var v)) (look_of no_numbers q (expr.Var v)) (look_of no_numbers q (expr.Var v)) (look_of no_numbers q (expr.Var w)) refl
            (look_var no_numbers q w ∙ (λ j. seen_as (is_inline_int (a.known j)) (number None) (a.span j) q no_part) ∙ sym (look_var no_numbers q v))
            (passes_itself (look_of no_numbers q (expr.Var v)));
        own = own_var w ∙ ap size_of a.kind ∙ sym (own_var v);
        compared = compared_var w ∙ sym (compared_var v);
      }

  cell_copied : (v : Var) (i x : Expr) → Copied i x → Copied (expr.Cell v i) (expr.Cell (var_in m v) x)
  cell_copied v i x h =
      let w = var_in m v in
      record {
        passes = λ q.
            passes_then (look_of no_numbers q (expr.Cell v i)) (look_of no_numbers q (expr.Cell v x)) (look_of no_numbers q (expr.Cell w x)) (cell_passes no_numbers no_numbers q v i x h.passes)
            (renamed_passes no_numbers q v w x (alike_in v));
        own = own_cell w x ∙ ap size_of (alike_in v).kind ∙ sym (own_cell v i);
        compared = compared_cell w x ∙ sym (compared_cell v i);
      }

  load_copied : (a : Access) → Copied (out-Access a).at (expr_in m (out-Access a).at) → Copied (expr.Load a) (expr.Load (access_in m a))
  load_copied a h =
      let b = access_in m a in
      record {
        passes = λ q.
            load_passes no_numbers no_numbers q a b (expr_in m (out-Access a).at) (ap (λ (x : Access-F Expr Ty Access Decl Var). x.span) (access_out a)) (ap (λ (x : Access-F Expr Ty Access Decl Var). x.at) (access_out a)) h.passes;
        own = own_load b ∙ access_size a ∙ sym (own_load a);
        compared = compared_load b ∙ sym (compared_load a);
      }

  minus_copied : (a x : Expr) (at : Span) → Copied a x → Copied (expr.Neg a at) (expr.Neg x at)
  minus_copied a x at h = record {
    passes = λ q. minus_passes no_numbers no_numbers q a x at (h.passes q);
    own = own_neg x at ∙ h.own ∙ sym (own_neg a at);
    compared = compared_neg x at ∙ sym (compared_neg a at);
  }

  denial_copied : (a x : Expr) (at : Span) → Copied a x → Copied (expr.Not a at) (expr.Not x at)
  denial_copied a x at h = record {
    passes = λ q. denial_passes no_numbers no_numbers q a x at (h.passes q);
    own = own_not x at ∙ h.own ∙ sym (own_not a at);
    compared = compared_not x at ∙ h.compared ∙ sym (compared_not a at);
  }

  cast_copied : (z : Size) (s : Bool) (a x : Expr) (at : Span) → Copied a x → Copied (expr.Cast z s a at) (expr.Cast z s x at)
  cast_copied z s a x at h = record {
    passes = λ q. cast_passes no_numbers no_numbers q z s a x at h.own h.passes;
    own = own_cast z s x at ∙ sym (own_cast z s a at);
    compared = compared_cast z s x at ∙ sym (compared_cast z s a at);
  }

  two_copied : (o : BinOp) (a b x y : Expr) (at : Span) → Copied a x → Copied b y → Copied (expr.Bin o a b at) (expr.Bin o x y at)
  two_copied o a b x y at h g = record {
    passes = λ q. two_pass no_numbers no_numbers q o a b x y at (h.passes q) (g.passes q);
    own = own_bin o x y at ∙ (λ j. size_of_operation o (h.own j) (g.own j)) ∙ sym (own_bin o a b at);
    compared = compared_bin o x y at ∙ (λ j. option_or (h.own j) (g.own j)) ∙ sym (compared_bin o a b at);
  }

  layer_law : (y : Known) → Copied (roll-Expr (bare y)) (roll-Expr (layer_in m (bare y)))
  layer_law (Expr-F.Num n at) = itself (roll-Expr (Expr-F.Num n at))
  layer_law (Expr-F.Expr::Bool b at) = itself (roll-Expr (Expr-F.Expr::Bool b at))
  layer_law (Expr-F.Var v) =
      copied_as (expr.Var v.0) (expr.Var (var_in m v.0)) (roll-Expr (Expr-F.Var v.0)) (roll-Expr (Expr-F.Var (var_in m v.0))) (expr.rolls-Var v.0) (expr.rolls-Var (var_in m v.0)) (variable_copied v.0)
  layer_law (Expr-F.Cell v i) =
      let w = var_in m v.0 in
      let x = expr_in m i.0 in
      copied_as (expr.Cell v.0 i.0) (expr.Cell w x) (roll-Expr (Expr-F.Cell v.0 i.0)) (roll-Expr (Expr-F.Cell w x)) (expr.rolls-Cell v.0 i.0) (expr.rolls-Cell w x) (cell_copied v.0 i.0 x i.1)
  layer_law (Expr-F.Load a) =
      let b = access_in m a.0 in
      copied_as (expr.Load a.0) (expr.Load b) (roll-Expr (Expr-F.Load a.0)) (roll-Expr (Expr-F.Load b)) (expr.rolls-Load a.0) (expr.rolls-Load b) (load_copied a.0 a.1)
  layer_law (Expr-F.Neg a at) =
      let x = expr_in m a.0 in
      copied_as (expr.Neg a.0 at) (expr.Neg x at) (roll-Expr (Expr-F.Neg a.0 at)) (roll-Expr (Expr-F.Neg x at)) (expr.rolls-Neg a.0 at) (expr.rolls-Neg x at) (minus_copied a.0 x at a.1)
  layer_law (Expr-F.Not a at) =
      let x = expr_in m a.0 in
      copied_as (expr.Not a.0 at) (expr.Not x at) (roll-Expr (Expr-F.Not a.0 at)) (roll-Expr (Expr-F.Not x at)) (expr.rolls-Not a.0 at) (expr.rolls-Not x at) (denial_copied a.0 x at a.1)
  layer_law (Expr-F.Cast z s a at) =
      let x = expr_in m a.0 in
      copied_as (expr.Cast z s a.0 at) (expr.Cast z s x at) (roll-Expr (Expr-F.Cast z s a.0 at)) (roll-Expr (Expr-F.Cast z s x at)) (expr.rolls-Cast z s a.0 at) (expr.rolls-Cast z s x at) (cast_copied z s a.0 x at a.1)
  layer_law (Expr-F.Bin o a b at) =
      let x = expr_in m a.0 in
      let y = expr_in m b.0 in
      copied_as (expr.Bin o a.0 b.0 at) (expr.Bin o x y at) (roll-Expr (Expr-F.Bin o a.0 b.0 at)) (roll-Expr (Expr-F.Bin o x y at)) (expr.rolls-Bin o a.0 b.0 at) (expr.rolls-Bin o x y at)
      (two_copied o a.0 b.0 x y at a.1 b.1)

  expr_case : (y : Known) → ExprLaw (roll-Expr (bare y))
  expr_case y = copied_as (roll-Expr (bare y)) (roll-Expr (layer_in m (bare y))) (roll-Expr (bare y)) (expr_in m (roll-Expr (bare y))) refl (in_is m (bare y)) (layer_law y)

  access_case : (y : Access-F ((x : Expr) × ExprLaw x) ((z : Ty) × Any z) ((a : Access) × AccessLaw a) ((d : Decl) × Any d) ((v : Var) × Any v)) → AccessLaw (roll-Access (map-Access _ _ _ _ _ _ _ _ _ _ (λ x. x.0) (λ x. x.0) (λ x. x.0) (λ x. x.0) (λ x. x.0) y))
  access_case y =
      let x = map-Access _ _ _ _ _ Expr Ty Access Decl Var (λ x. x.0) (λ x. x.0) (λ x. x.0) (λ x. x.0) (λ x. x.0) y in
      subst ExprLaw (sym (ap (λ (z : Access-F Expr Ty Access Decl Var). z.at) (out-roll-Access x))) y.at.1

  -- whatever the expression is
  pub copied : (x : Expr) → ExprLaw x
  copied =
      ind-Expr ExprLaw Any AccessLaw Any Any
      (λ z y is. subst (λ w. ExprLaw (roll-Expr w)) is (expr_case y))
      (λ z y is. tt)
      (λ z y is. subst (λ w. AccessLaw (roll-Access w)) is (access_case y))
      (λ z y is. tt)
      (λ z y is. tt)

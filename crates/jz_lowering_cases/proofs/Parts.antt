-- What holds of the variables and of the cells of an expression, by its form.
use Rattle.std.proofs.Common.{◌≡◌, Bool, true, false, [], ◌∷◌, ◌++◌, Option, Some, None, refl, sym, ap, ◌∙◌, subst}
use Rattle.std.specs.Prelude.{All, if◌then◌else◌, ◌&&◌}
use Rattle.std.proofs.lemmas.List.Elements.{All-head, All-append}
use Rattle.jz_words.specs.declared.size.Size.{Size}
use Rattle.jz_tree.specs.Span.{Span}
use Rattle.jz_tree.specs.declared.expr.BinOp.{BinOp}
use Rattle.jz_tree.specs.declared.expr.Expr.{Expr}
use Rattle.jz_tree.specs.declared.expr.Expr.TheVariants as expr
use Rattle.jz_tree.specs.declared.expr.Ty.{Ty}
use Rattle.jz_tree.specs.declared.expr.Access.{Access}
use Rattle.jz_tree.specs.declared.expr.Decl.{Decl}
use Rattle.jz_tree.specs.declared.expr.Var.{Var}
use Rattle.jz_tree.specs.declared.expr.Expr.TheOpen.{Expr-F}
use Rattle.jz_tree.specs.declared.expr.Expr.TheViews.{out-Expr, out-Access, roll-Expr, roll-out-Expr, roll-out-Access}
use Rattle.jz_tree.specs.declared.expr.Expr.TheFolds.{map-Expr, para-roll-Expr, para-Access, para-roll-Access}
use Rattle.jz_tree.specs.declared.stmt.Lval.{Lval}
use Rattle.jz_tree.specs.declared.stmt.Lval.TheVariants as lval
use Rattle.jz_type_names.specs.Parts.{cells_step, Cells, cells_in}
use Rattle.jz_meaning.specs.Assignments.{as_expr, left_span, carries, is_flag, updated_layer, updated, whole_of}
use Rattle.jz_operations.proofs.Somes.{same_some}
use Rattle.jz_compiled.specs.Layout.{Name}
use Rattle.jz_item_names.specs.Names.{key_name, keys_in, left_keys}
use Rattle.jz_item_names.proofs.Keys.{Layer, layer_keys, keys_at, parts}
use Rattle.jz_lowering_cases.specs.Staying.{left_cells}

-- ---- cells by layers
cells_at_access : Access → Cells
cells_at_access = para-Access Cells (Unit {0}) Cells (Unit {0}) (Unit {0}) cells_step (λ t. tt) (λ a. a.at.1) (λ d. tt) (λ v. tt)

access_cells : (a : Access) → cells_at_access a ≡ cells_in (out-Access a).at
unfolding cells_at_access
access_cells a = ap cells_at_access (sym (roll-out-Access a)) ∙ para-roll-Access Cells (Unit {0}) Cells (Unit {0}) (Unit {0}) cells_step (λ t. tt) (λ a. a.at.1) (λ d. tt) (λ v. tt) (out-Access a)

abbrev pub layer_cells : Layer → Cells
layer_cells (Expr-F.Num n at) = []
layer_cells (Expr-F.Expr::Bool b at) = []
layer_cells (Expr-F.Var v) = []
layer_cells (Expr-F.Cell v i) = (v, i) ∷ cells_in i
layer_cells (Expr-F.Load a) = cells_in (out-Access a).at
layer_cells (Expr-F.Neg a at) = cells_in a
layer_cells (Expr-F.Not a at) = cells_in a
layer_cells (Expr-F.Cast z s a at) = cells_in a
layer_cells (Expr-F.Bin o a b at) = cells_in a ++ cells_in b

abbrev paired : Layer → Expr-F (Expr × Cells) (Ty × Unit {0}) (Access × Cells) (Decl × Unit {0}) (Var × Unit {0})
paired x = map-Expr _ _ _ _ _ _ _ _ _ _ (λ y. (y, cells_in y)) (λ y. (y, tt)) (λ y. (y, cells_at_access y)) (λ y. (y, tt)) (λ y. (y, tt)) x

cells_rolled : (x : Layer) → cells_in (roll-Expr x) ≡ cells_step (paired x)
unfolding cells_at_access
cells_rolled x = para-roll-Expr Cells (Unit {0}) Cells (Unit {0}) (Unit {0}) cells_step (λ t. tt) (λ a. a.at.1) (λ d. tt) (λ v. tt) x

pub cells_at : (x : Layer) → cells_in (roll-Expr x) ≡ layer_cells x
cells_at (Expr-F.Num n at) = cells_rolled (Expr-F.Num n at)
cells_at (Expr-F.Expr::Bool b at) = cells_rolled (Expr-F.Expr::Bool b at)
cells_at (Expr-F.Var v) = cells_rolled (Expr-F.Var v)
cells_at (Expr-F.Cell v i) = cells_rolled (Expr-F.Cell v i)
cells_at (Expr-F.Load a) = cells_rolled (Expr-F.Load a) ∙ access_cells a
cells_at (Expr-F.Neg a at) = cells_rolled (Expr-F.Neg a at)
cells_at (Expr-F.Not a at) = cells_rolled (Expr-F.Not a at)
cells_at (Expr-F.Cast z s a at) = cells_rolled (Expr-F.Cast z s a at)
cells_at (Expr-F.Bin o a b at) = cells_rolled (Expr-F.Bin o a b at)

-- ---- P holds of the variables, and Q of the cells
module _ (P : Name → Type 0) (Q : Var × Expr → Type 0) where
  pub record IsOf (e : Expr) : Type 0 where
    pub keys : All P (keys_in e)
    pub cells : All Q (cells_in e)

  pub record IsLayer (x : Layer) : Type 0 where
    pub keys : All P (layer_keys x)
    pub cells : All Q (layer_cells x)

  from_layer : (x : Layer) → IsOf (roll-Expr x) → IsLayer x
  from_layer x h = record { keys = subst (All P) (keys_at x) h.keys; cells = subst (All Q) (cells_at x) h.cells }

  to_layer : (x : Layer) → IsLayer x → IsOf (roll-Expr x)
  to_layer x h = record { keys = subst (All P) (sym (keys_at x)) h.keys; cells = subst (All Q) (sym (cells_at x)) h.cells }

  -- by forms
  pub of_var : (v : Var) → IsOf (expr.Var v) → P (key_name v)
  of_var v h = All-head P (key_name v) [] (from_layer (Expr-F.Var v) (subst IsOf (sym (expr.rolls-Var v)) h)).keys

  pub of_cell : (v : Var) (i : Expr) → IsOf (expr.Cell v i) → P (key_name v) × Q (v, i)
  of_cell v i h =
      let l = from_layer (Expr-F.Cell v i) (subst IsOf (sym (expr.rolls-Cell v i)) h) in
      (All-head P (key_name v) (keys_in i) l.keys, All-head Q (v, i) (cells_in i) l.cells)

  pub of_neg : (a : Expr) (at : Span) → IsOf (expr.Neg a at) → IsOf a
  of_neg a at h = let l = from_layer (Expr-F.Neg a at) (subst IsOf (sym (expr.rolls-Neg a at)) h) in record { keys = l.keys; cells = l.cells }

  pub of_not : (a : Expr) (at : Span) → IsOf (expr.Not a at) → IsOf a
  of_not a at h = let l = from_layer (Expr-F.Not a at) (subst IsOf (sym (expr.rolls-Not a at)) h) in record { keys = l.keys; cells = l.cells }

  pub of_cast : (z : Size) (s : Bool) (a : Expr) (at : Span) → IsOf (expr.Cast z s a at) → IsOf a
  of_cast z s a at h = let l = from_layer (Expr-F.Cast z s a at) (subst IsOf (sym (expr.rolls-Cast z s a at)) h) in record { keys = l.keys; cells = l.cells }

  layer_bin : (o : BinOp) (a b : Expr) (at : Span) → IsLayer (Expr-F.Bin o a b at) → IsOf a × IsOf b
  layer_bin o a b at l =
      let k = parts P (keys_in a) (keys_in b) l.keys in
      let c = parts Q (cells_in a) (cells_in b) l.cells in
      (record { keys = k.0; cells = c.0 }, record { keys = k.1; cells = c.1 })

  pub of_bin : (o : BinOp) (a b : Expr) (at : Span) → IsOf (expr.Bin o a b at) → IsOf a × IsOf b
  of_bin o a b at h = layer_bin o a b at (from_layer (Expr-F.Bin o a b at) (subst IsOf (sym (expr.rolls-Bin o a b at)) h))

  pub to_bin : (o : BinOp) (a b : Expr) (at : Span) → IsOf a → IsOf b → IsOf (expr.Bin o a b at)
  to_bin o a b at h k =
      subst IsOf (expr.rolls-Bin o a b at)
      (to_layer (Expr-F.Bin o a b at) (record { keys = All-append P (keys_in a) (keys_in b) h.keys k.keys; cells = All-append Q (cells_in a) (cells_in b) h.cells k.cells }))

  -- ---- `d op= e`
  pub record IsLeftOf (d : Lval) : Type 0 where
    pub keys : All P (left_keys d)
    pub cells : All Q (left_cells d)

  left_of : (d : Lval) (e : Expr) → IsLeftOf d → as_expr d ≡ Some e → IsOf e
  left_of (lval.Skip at) e h q = absurd cc
  left_of (lval.Var v) e h q = subst IsOf (expr.rolls-Var v ∙ same_some _ e q) (to_layer (Expr-F.Var v) (record { keys = h.keys; cells = h.cells }))
  left_of (lval.Cell v i) e h q = subst IsOf (expr.rolls-Cell v i ∙ same_some _ e q) (to_layer (Expr-F.Cell v i) (record { keys = h.keys; cells = h.cells }))
  left_of (lval.Store a) e h q = subst IsOf (expr.rolls-Load a ∙ same_some _ e q) (to_layer (Expr-F.Load a) (record { keys = h.keys; cells = h.cells }))

  carried_of : (b : Bool) (op p : BinOp) (d e a c : Expr) (at : Span) → IsOf d → IsOf e → IsOf a × IsOf c → IsOf (if b then expr.Bin p (expr.Bin op d a at) c at else expr.Bin op d e at)
  carried_of true op p d e a c at h k l = to_bin p (expr.Bin op d a at) c at (to_bin op d a at h l.0) l.1
  carried_of false op p d e a c at h k l = to_bin op d e at h k

  updated_of : (op : BinOp) (d e : Expr) (at : Span) (x : Layer) → IsOf d → IsOf e → IsLayer x → IsOf (updated_layer op d e at x)
  updated_of op d e at (Expr-F.Bin p a c inner) h k l = carried_of (carries op p && is_flag c) op p d e a c at h k (layer_bin p a c inner l)
  updated_of op d e at (Expr-F.Num n s) h k l = to_bin op d e at h k
  updated_of op d e at (Expr-F.Expr::Bool b s) h k l = to_bin op d e at h k
  updated_of op d e at (Expr-F.Var v) h k l = to_bin op d e at h k
  updated_of op d e at (Expr-F.Cell v i) h k l = to_bin op d e at h k
  updated_of op d e at (Expr-F.Load a) h k l = to_bin op d e at h k
  updated_of op d e at (Expr-F.Neg a s) h k l = to_bin op d e at h k
  updated_of op d e at (Expr-F.Not a s) h k l = to_bin op d e at h k
  updated_of op d e at (Expr-F.Cast z g a s) h k l = to_bin op d e at h k

  by_left : (l : Option Expr) (d : Lval) (op : BinOp) (e w : Expr) → as_expr d ≡ l → IsLeftOf d → IsOf e → updated l op e (left_span d) ≡ Some w → IsOf w
  by_left None d op e w is h k q = absurd cc
  by_left (Some x) d op e w is h k q =
      subst IsOf (same_some _ w q) (updated_of op x e (left_span d) (out-Expr e) (left_of d x h is) k (from_layer (out-Expr e) (subst IsOf (sym (roll-out-Expr e)) k)))

  pub whole_is_of : (d : Lval) (o : Option BinOp) (e w : Expr) → IsLeftOf d → IsOf e → whole_of (Some d) o e ≡ Some w → IsOf w
  whole_is_of d None e w h k q = subst IsOf (same_some _ w q) k
  whole_is_of d (Some op) e w h k q = by_left (as_expr d) d op e w refl h k q

-- Values in place of inline parts, and words in place of cells of register arrays.
use Rattle.std.proofs.Common.{◌≡◌, inl, inr, ℕ, pos, negsuc, Option, Some, None, Bool, true, false, refl, sym, ap, ap₂, ◌∙◌, subst, if◌then◌else◌}
use Rattle.std.specs.Prelude.{◌⊎◌, option_map}
use Rattle.jz_tree.specs.Size.{Size}
use Rattle.jz_tree.specs.declared.expr.Storage.{Storage}
use Rattle.jz_tree.specs.declared.expr.Storage.TheVariants as storage
use Rattle.jz_tree.specs.declared.expr.Expr.{Expr}
use Rattle.jz_tree.specs.declared.expr.Ty.{Ty}
use Rattle.jz_tree.specs.declared.expr.Access.{Access}
use Rattle.jz_tree.specs.declared.expr.Decl.{Decl}
use Rattle.jz_tree.specs.declared.expr.Var.{Var}
use Rattle.jz_tree.specs.declared.expr.Expr.TheOpen.{Expr-F, Ty-F}
use Rattle.jz_tree.specs.declared.expr.Expr.TheViews.{out-Expr, out-Var, out-Ty, roll-Expr, out-roll-Expr}
use Rattle.jz_tree.specs.declared.stmt.Lval.{Lval}
use Rattle.jz_tree.specs.declared.stmt.Lval.TheVariants as lval
use Rattle.jz_type_names.specs.declared.kinds.Kind.TheVariants as kind
use Rattle.jz_type_names.specs.Kinds.{kind_step, declared_of, known_of, is_inline}
use Rattle.jz_type_names.specs.Parts.{span_of}
use Rattle.jz_integers.specs.Integers.{KnownNumbers, inline_value}
use Rattle.jz_select.specs.Look.{Look, look_of}
use Rattle.jz_judgement.specs.HasType.{Layer}
use Rattle.jz_meaning.specs.declared.access.Kind as meant
use Rattle.jz_meaning.specs.Values.{ref_of}
use Rattle.jz_row_laws.proofs.Fixed.{look_layer}
use Rattle.jz_unroll.specs.Values.{with_values, left_with_values}
use Rattle.jz_unroll.proofs.Valued.{parts_in}
use Rattle.jz_unroll.proofs.Parts.{inline_whole, out_plain}
use Rattle.jz_arrays.specs.Cells.{is_register, cells_of_ty, cells_of_decl, size_at, constant_layer, index_in, number_below, cell_in, scalar, cell_or, with_scalars, access_with_scalars, left_or, left_with_scalars}
use Rattle.jz_arrays.proofs.Reading.{rolled}
use Rattle.jz_kept_types.proofs.Valuing as valuing
use Rattle.jz_kept_types.proofs.Scaling as scaling
use Rattle.jz_kept_types.proofs.Scaling.{known_scalar, word_ty, out_is}
use Rattle.jz_kept_classes.specs.ClassLaws.{ValuesKeepClasses, ScalarsKeepClasses}
use Rattle.jz_kept_classes.proofs.Formed.{Formed}
use Rattle.jz_kept_classes.proofs.Layers.{look_out}
use Rattle.jz_kept_classes.proofs.Inline.{value_kept}
use Rattle.jz_kept_classes.proofs.Kept.{register, Kept, KeptWhole, Becomes, b_number, b_truth, b_variable, b_cell, b_scalar, b_load, b_minus, b_denial, b_cast, b_two, LeftBecomes, l_nothing, l_variable, l_cell, l_scalar, l_store, Turned, classes_kept}

-- ---- values
module _ (k : KnownNumbers) where
  abbrev V : Expr → Expr
  V = with_values k

  layer_valued : (x : Layer) → Becomes V x (parts_in k x)
  layer_valued (Expr-F.Num n at) = b_number
  layer_valued (Expr-F.Expr::Bool b at) = b_truth
  layer_valued (Expr-F.Var v) = b_variable refl
  layer_valued (Expr-F.Cell v i) = b_cell refl
  layer_valued (Expr-F.Load a) = b_load (valuing.access_turns k a)
  layer_valued (Expr-F.Neg a at) = b_minus
  layer_valued (Expr-F.Not a at) = b_denial
  layer_valued (Expr-F.Cast z s a at) = b_cast
  layer_valued (Expr-F.Bin o a b at) = b_two

  by_inline : (e : Expr) → Formed e → (b : Bool) → is_inline e ≡ b → KeptWhole e (with_values k e) ⊎ Becomes V (out-Expr e) (out-Expr (with_values k e))
  by_inline e f true q =
      let is = inline_whole k e q in
      inl (record {
        kept = subst (Kept e) (sym is) (value_kept k e f q (inline_value k e) refl);
        inline = q;
        stays = ap is_inline is ∙ valuing.constant_inline e (span_of e) (inline_value k e) q;
      })
  by_inline e f false q = inr (subst (Becomes V (out-Expr e)) (sym (out_plain k e q)) (layer_valued (out-Expr e)))

  left_valued : (d : Lval) → LeftBecomes V d (left_with_values k d)
  left_valued (lval.Skip at) = l_nothing
  left_valued (lval.Var v) = l_variable refl
  left_valued (lval.Cell v i) = l_cell refl
  left_valued (lval.Store a) = l_store (valuing.access_turns k a)

  pub values_turned : Turned (with_values k)
  values_turned e f = by_inline e f (is_inline e) refl

pub values_keep_classes : ValuesKeepClasses
values_keep_classes k = classes_kept (with_values k) (values_turned k) (left_with_values k) (left_valued k)

-- ---- words of cells
abbrev S : Expr → Expr
S = with_scalars

storage_is : (s : Storage) → is_register s ≡ true → s ≡ storage.Reg
storage_is storage.Reg h = refl
storage_is storage.Stack h = absurd cc
storage_is storage.Inline h = absurd cc

array_ty : (t : Ty-F Expr Ty Access Decl Var) (z : Size) → cells_of_ty t ≡ Some z → kind_step t ≡ kind.Array z
array_ty (Ty-F.Array y n) z e = ap kind.Array (same y z e)
  where
    same : (y z : Size) → Some y ≡ Some z → y ≡ z
    same y z e = cc
array_ty Ty-F.Int z e = absurd cc
array_ty Ty-F.Ty::Bool z e = absurd cc
array_ty (Ty-F.Word y) z e = absurd cc

array_decl : (d : Option Decl) (z : Size) → cells_of_decl d ≡ Some z → option_map declared_of d ≡ register (kind.Array z)
array_decl None z e = absurd cc
array_decl (Some d) z e = by (is_register d.storage) refl e
  where
    by : (b : Bool) → is_register d.storage ≡ b → (if b then cells_of_ty (out-Ty d.ty) else None) ≡ Some z → Some (declared_of d) ≡ register (kind.Array z)
    by true r q = ap₂ (λ s k. Some (record { storage = s; kind = k })) (storage_is d.storage r) (array_ty (out-Ty d.ty) z q)
    by false r q = absurd cc

array_at : (v : Var) (z : Size) → size_at v ≡ Some z → known_of v ≡ register (kind.Array z)
array_at v z e = array_decl (out-Var v).decl z e

scalar_at : (v : Var) (z : Size) (n : ℕ) → known_of (scalar v z n) ≡ register (kind.Word z)
scalar_at v z n = known_scalar v z n ∙ ap register (word_ty z)

-- a constant index is an inline integer
constant_looked : (x : Layer) (n : ℕ) → constant_layer x ≡ Some n → (look_layer x).inline ≡ true
constant_looked (Expr-F.Num (pos m) at) n e = refl
constant_looked (Expr-F.Num (negsuc m) at) n e = absurd cc
constant_looked (Expr-F.Expr::Bool b at) n e = absurd cc
constant_looked (Expr-F.Var v) n e = absurd cc
constant_looked (Expr-F.Cell v i) n e = absurd cc
constant_looked (Expr-F.Load a) n e = absurd cc
constant_looked (Expr-F.Neg a at) n e = absurd cc
constant_looked (Expr-F.Not a at) n e = absurd cc
constant_looked (Expr-F.Cast z s a at) n e = absurd cc
constant_looked (Expr-F.Bin o a b at) n e = absurd cc

index_some : (k : meant.Kind) (i : Option ℕ) (n : ℕ) → number_below k i ≡ Some n → (m : ℕ) × (i ≡ Some m)
index_some k None n e = absurd cc
index_some k (Some m) n e = (m, refl)

index_looked : (v : Var) (i : Expr) (n : ℕ) → cell_in v i ≡ Some n → (look_of i).inline ≡ true
index_looked v i n e =
    let s = index_some (ref_of v).kind (index_in i) n e in
    ap (λ (l : Look). l.inline) (look_out i) ∙ constant_looked (out-Expr i) s.0 s.1

becomes_rolled : (x y : Layer) → Becomes S x y → Becomes S x (out-Expr (roll-Expr y))
becomes_rolled x y t = subst (Becomes S x) (sym (out-roll-Expr y)) t

cell_scaled : (v : Var) (i : Expr) (z : Option Size) (n : Option ℕ) → size_at v ≡ z → cell_in v i ≡ n → Becomes S (Expr-F.Cell v i) (out-Expr (cell_or v (with_scalars i) z n))
cell_scaled v i (Some z) (Some n) e f = becomes_rolled (Expr-F.Cell v i) (Expr-F.Var (scalar v z n)) (b_scalar z (array_at v z e) (scalar_at v z n) (index_looked v i n f))
cell_scaled v i (Some z) None e f = becomes_rolled (Expr-F.Cell v i) (Expr-F.Cell v (with_scalars i)) (b_cell refl)
cell_scaled v i None (Some n) e f = becomes_rolled (Expr-F.Cell v i) (Expr-F.Cell v (with_scalars i)) (b_cell refl)
cell_scaled v i None None e f = becomes_rolled (Expr-F.Cell v i) (Expr-F.Cell v (with_scalars i)) (b_cell refl)

layer_scaled : (x : Layer) → Becomes S x (out-Expr (rolled x))
layer_scaled (Expr-F.Num n at) = becomes_rolled (Expr-F.Num n at) (Expr-F.Num n at) b_number
layer_scaled (Expr-F.Expr::Bool b at) = becomes_rolled (Expr-F.Expr::Bool b at) (Expr-F.Expr::Bool b at) b_truth
layer_scaled (Expr-F.Var v) = becomes_rolled (Expr-F.Var v) (Expr-F.Var v) (b_variable refl)
layer_scaled (Expr-F.Cell v i) = cell_scaled v i (size_at v) (cell_in v i) refl refl
layer_scaled (Expr-F.Load a) = becomes_rolled (Expr-F.Load a) (Expr-F.Load (access_with_scalars a)) (b_load (scaling.access_turns a))
layer_scaled (Expr-F.Neg a at) = becomes_rolled (Expr-F.Neg a at) (Expr-F.Neg (with_scalars a) at) b_minus
layer_scaled (Expr-F.Not a at) = becomes_rolled (Expr-F.Not a at) (Expr-F.Not (with_scalars a) at) b_denial
layer_scaled (Expr-F.Cast z s a at) = becomes_rolled (Expr-F.Cast z s a at) (Expr-F.Cast z s (with_scalars a) at) b_cast
layer_scaled (Expr-F.Bin o a b at) = becomes_rolled (Expr-F.Bin o a b at) (Expr-F.Bin o (with_scalars a) (with_scalars b) at) b_two

pub scalars_turned : Turned with_scalars
scalars_turned e f = inr (subst (Becomes S (out-Expr e)) (sym (out_is e)) (layer_scaled (out-Expr e)))

left_cell : (v : Var) (i : Expr) (z : Option Size) (n : Option ℕ) → size_at v ≡ z → cell_in v i ≡ n → LeftBecomes S (lval.Cell v i) (left_or v i z n)
left_cell v i (Some z) (Some n) e f = l_scalar z (array_at v z e) (scalar_at v z n) (index_looked v i n f)
left_cell v i (Some z) None e f = l_cell refl
left_cell v i None (Some n) e f = l_cell refl
left_cell v i None None e f = l_cell refl

left_scaled : (d : Lval) → LeftBecomes S d (left_with_scalars d)
left_scaled (lval.Skip at) = l_nothing
left_scaled (lval.Var v) = l_variable refl
left_scaled (lval.Cell v i) = left_cell v i (size_at v) (cell_in v i) refl refl
left_scaled (lval.Store a) = l_store (scaling.access_turns a)

pub scalars_keep_classes : ScalarsKeepClasses
scalars_keep_classes = classes_kept with_scalars scalars_turned left_with_scalars left_scaled

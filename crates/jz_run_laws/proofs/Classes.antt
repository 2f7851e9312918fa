-- The sizes of classes.
use Rattle.std.proofs.Common.{◌≡◌, Bool, true, false, Option, Some, None, refl, sym, ap, ◌∙◌, if◌then◌else◌}
use Rattle.std.specs.Prelude.{ℤ, pos}
use Rattle.std.specs.Ordering.{int_eq}
use Rattle.jz_tree.specs.Span.{Span}
use Rattle.jz_tree.specs.Size.{Size}
use Rattle.jz_tree.specs.declared.expr.BinOp.{BinOp}
use Rattle.jz_tree.specs.declared.expr.BinOp.TheVariants as op
use Rattle.jz_tree.specs.declared.expr.Storage.{Storage}
use Rattle.jz_tree.specs.declared.expr.Storage.TheVariants as storage
use Rattle.jz_tree.specs.declared.expr.Expr.{Expr}
use Rattle.jz_tree.specs.declared.expr.Var.{Var}
use Rattle.jz_tree.specs.declared.expr.Expr.TheOpen.{Expr-F}
use Rattle.jz_tree.specs.declared.expr.Expr.TheViews.{out-Expr, roll-out-Expr, out-Access}
use Rattle.jz_tree.specs.declared.expr.Expr.TheFolds.{fold-roll-Expr}
use Rattle.jz_tree.specs.declared.stmt.Lval.{Lval}
use Rattle.jz_tree.specs.declared.stmt.Lval.TheVariants as lval
use Rattle.jz_type_names.specs.declared.kinds.Kind as known
use Rattle.jz_type_names.specs.declared.kinds.Kind.TheVariants as scope
use Rattle.jz_type_names.specs.declared.kinds.Declared.{Declared}
use Rattle.jz_type_names.specs.Kinds as scopes
use Rattle.jz_type_names.specs.Kinds.{Known, known_of}
use Rattle.jz_type_sizes.specs.Wants.{known_size, cell_size, array_size, word_size}
use Rattle.jz_type_sizes.specs.Sides.{left_form}
use Rattle.jz_type_names.specs.Kinds.{declared_step}
use Rattle.jz_type_sizes.specs.Typings.{Typing, typing, typing_step, access_typing}
use Rattle.jz_judgement.specs.Places.{Place}
use Rattle.jz_judgement.specs.HasType.{Layer, HasType, value}
use Rattle.jz_judgement.proofs.Nothing.{none_not}
use Rattle.jz_types.specs.Mask.TheVariants as mask
use Rattle.jz_types.specs.Class.{Class}
use Rattle.jz_types.specs.Class.TheVariants as class
use Rattle.jz_types.specs.SelectRows.{class_size}
use Rattle.jz_types.specs.Sums.{is_address, is_index}
use Rattle.jz_types.specs.Look.{look_of, terms_of, bin_inline}
use Rattle.jz_types.specs.Operands.{class_at, var_class, class_if, cell_at, cell_class, cell_of, inline_or, mask_of, is_byte, register_layer, masked_class, class_layer, class_of, dest_of}
use Rattle.jz_meaning.specs.Integers.{written_number}
use Rattle.jz_run_laws.specs.Rows.{place_size}
use Rattle.jz_run_laws.proofs.Placed.{size_at}
use Rattle.jz_run_laws.proofs.Sizes.{typed_layer, variable_law, access_law}

-- ---- variables and cells
abbrev Sized : Class → Size → Type 0
Sized c z = class_size c ≡ Some z

kind_sized : (s : Storage) (k : known.Kind) (z : Size) → Sized (class_at s k) z → word_size k ≡ Some z
kind_sized storage.Reg (scope.Word y) z h = h
kind_sized storage.Stack (scope.Word y) z h = h
kind_sized storage.Inline (scope.Word y) z h = absurd (none_not z h)
kind_sized storage.Reg scope.Int z h = absurd (none_not z h)
kind_sized storage.Stack scope.Int z h = absurd (none_not z h)
kind_sized storage.Inline scope.Int z h = absurd (none_not z h)
kind_sized storage.Reg scope.Truth z h = absurd (none_not z h)
kind_sized storage.Stack scope.Truth z h = absurd (none_not z h)
kind_sized storage.Inline scope.Truth z h = absurd (none_not z h)
kind_sized storage.Reg (scope.Array y) z h = absurd (none_not z h)
kind_sized storage.Stack (scope.Array y) z h = absurd (none_not z h)
kind_sized storage.Inline (scope.Array y) z h = absurd (none_not z h)

known_sized : (k : Known) (z : Size) → Sized (var_class k) z → known_size k ≡ Some z
known_sized None z h = absurd (none_not z h)
known_sized (Some d) z h = kind_sized d.storage d.kind z h

var_sized : (v : Var) (z : Size) → Sized (var_class (known_of v)) z → known_size (known_of v) ≡ Some z
var_sized v z h = known_sized (known_of v) z h

chosen_sized : (b : Bool) (c : Class) (y z : Size) → class_size c ≡ Some y → Sized (if b then c else class.Other) z → Some y ≡ Some z
chosen_sized true c y z e h = sym e ∙ h
chosen_sized false c y z e h = absurd (none_not z h)

array_sized : (s : Storage) (k : known.Kind) (i j : Bool) (z : Size) → Sized (cell_at s k i j) z → array_size k ≡ Some z
array_sized storage.Reg (scope.Array y) i j z h = chosen_sized i (class.Reg y) y z refl h
array_sized storage.Stack (scope.Array y) i j z h = chosen_sized j (class.Mem (Some y)) y z refl h
array_sized storage.Inline (scope.Array y) i j z h = absurd (none_not z h)
array_sized storage.Reg scope.Int i j z h = absurd (none_not z h)
array_sized storage.Stack scope.Int i j z h = absurd (none_not z h)
array_sized storage.Inline scope.Int i j z h = absurd (none_not z h)
array_sized storage.Reg scope.Truth i j z h = absurd (none_not z h)
array_sized storage.Stack scope.Truth i j z h = absurd (none_not z h)
array_sized storage.Inline scope.Truth i j z h = absurd (none_not z h)
array_sized storage.Reg (scope.Word y) i j z h = absurd (none_not z h)
array_sized storage.Stack (scope.Word y) i j z h = absurd (none_not z h)
array_sized storage.Inline (scope.Word y) i j z h = absurd (none_not z h)

cells_sized : (k : Known) (i j : Bool) (z : Size) → Sized (cell_class k i j) z → cell_size k ≡ Some z
cells_sized None i j z h = absurd (none_not z h)
cells_sized (Some d) i j z h = array_sized d.storage d.kind i j z h

cell_sized : (v : Var) (e : Expr) (z : Size) → Sized (cell_of v e) z → cell_size (known_of v) ≡ Some z
cell_sized v e z h = cells_sized (known_of v) (look_of e).inline (is_index (terms_of e)) z h

mem_if : (b : Bool) (s : Option Size) (z : Size) → Sized (if b then class.Mem s else class.Other) z → s ≡ Some z
mem_if true s z h = h
mem_if false s z h = absurd (none_not z h)

-- ---- what has no size
no_inline : (b : Bool) (c : Class) (z : Size) → (Sized c z → ⊥) → Sized (inline_or b c) z → ⊥
no_inline true c z f h = none_not z h
no_inline false c z f h = f h

no_other : (z : Size) → Sized class.Other z → ⊥
no_other z h = none_not z h

abbrev NoSize : Class → Type 0
NoSize c = class_size c ≡ None

mask_none : (n : Option ℤ) → NoSize (mask_of n)
mask_none None = refl
mask_none (Some k) = two (int_eq k (pos 31)) (int_eq k (pos 63))
  where
    two : (a b : Bool) → NoSize (if a then class.Masked mask.Five else if b then class.Masked mask.Six else class.Other)
    two true b = refl
    two false true = refl
    two false false = refl

byte_mask : (b : Bool) (n : Option ℤ) → NoSize (if b then mask_of n else class.Other)
byte_mask true n = mask_none n
byte_mask false n = refl

masked_none : (o : BinOp) (a b : Expr) → NoSize (masked_class o a b)
masked_none op.And a b = byte_mask (is_byte (register_layer (out-Expr a))) (written_number b)
masked_none o a b = refl

layer_sized : (x : Layer) (z : Size) → Sized (class_layer x) z → (typed_layer x).form.size ≡ Some z
layer_sized (Expr-F.Num n at) z h = absurd (none_not z h)
layer_sized (Expr-F.Expr::Bool b at) z h = absurd (none_not z h)
layer_sized (Expr-F.Var v) z h = ap known_size (variable_law v).0 ∙ var_sized v z h
layer_sized (Expr-F.Cell v i) z h = ap cell_size (variable_law v).0 ∙ cell_sized v i z h
layer_sized (Expr-F.Load a) z h = (access_law a).1 ∙ mem_if (is_address (terms_of (out-Access a).at)) (out-Access a).size z h
layer_sized (Expr-F.Neg a at) z h = absurd (no_inline (look_of a).inline class.Other z (no_other z) h)
layer_sized (Expr-F.Not a at) z h = absurd (no_inline (look_of a).inline class.Other z (no_other z) h)
layer_sized (Expr-F.Cast y s a at) z h = absurd (none_not z h)
layer_sized (Expr-F.Bin o a b at) z h =
    absurd (no_inline (bin_inline o (look_of a) (look_of b)) (masked_class o a b) z (λ k. none_not z (sym (masked_none o a b) ∙ k)) h)

expression_typed : (e : Expr) → (typing e).form.size ≡ (typed_layer (out-Expr e)).form.size
expression_typed e =
    ap (λ x. (typing x).form.size) (sym (roll-out-Expr e))
    ∙ ap (λ m. m.form.size) (fold-roll-Expr Typing known.Kind Typing Declared (Known × Span) typing_step scopes.kind_step access_typing declared_step (λ v. (v.decl, v.span)) (out-Expr e))

pub class_law : (e : Expr) (z : Size) → class_size (class_of e) ≡ Some z → (typing e).form.size ≡ Some z
class_law e z h = expression_typed e ∙ layer_sized (out-Expr e) z h

pub result_law : (d : Lval) (z : Size) → class_size (dest_of d) ≡ Some z → (left_form d).size ≡ Some z
result_law (lval.Skip at) z h = absurd (none_not z h)
result_law (lval.Var v) z h = var_sized v z h
result_law (lval.Cell v i) z h = cell_sized v i z h
result_law (lval.Store a) z h = mem_if (is_address (terms_of (out-Access a).at)) (out-Access a).size z h

pub place_law : (e : Expr) (p : Place) (z : Size) → HasType (value e) p → class_size (class_of e) ≡ Some z → place_size p ≡ Some z
place_law e p z t h = size_at e p t z (class_law e z h)

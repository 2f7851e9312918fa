-- Of which cells of register arrays an expression is told to be out of range, layer by layer.
use Rattle.std.proofs.Common.{◌≡◌, List, [], ◌∷◌, ◌++◌, Option, Bool, true, false, not, ◌&&◌, ◌||◌, refl, sym, ap, ◌∙◌}
use Rattle.jz_tree.specs.Span.{Span}
use Rattle.jz_tree.specs.declared.expr.Expr.{Expr}
use Rattle.jz_tree.specs.declared.expr.Expr.TheVariants as expr
use Rattle.jz_tree.specs.declared.expr.Ty.{Ty}
use Rattle.jz_tree.specs.declared.expr.Access.{Access}
use Rattle.jz_tree.specs.declared.expr.Decl.{Decl}
use Rattle.jz_tree.specs.declared.expr.Var.{Var}
use Rattle.jz_tree.specs.declared.expr.Expr.TheOpen.{Expr-F, Access-F}
use Rattle.jz_tree.specs.declared.expr.Expr.TheViews.{out-Expr, out-Access, roll-Expr, roll-Access, roll-out-Expr, roll-out-Access}
use Rattle.jz_tree.specs.declared.expr.Expr.TheFolds.{para-Access, para-roll-Expr, para-roll-Access, map-Expr, map-Access}
use Rattle.jz_tree.specs.declared.stmt.Lval.{Lval}
use Rattle.jz_tree.specs.declared.stmt.Lval.TheVariants as lval
use Rattle.jz_integers.specs.declared.constant.Constant.{Constant}
use Rattle.jz_integers.specs.declared.constant.Constant.TheVariants as constant
use Rattle.jz_integers.specs.Integers.{inline_value}
use Rattle.jz_type_names.specs.Kinds.{is_inline}
use Rattle.jz_type_names.specs.Parts.{span_of}
use Rattle.jz_judgement.specs.HasType.{Layer}
use Rattle.jz_limits.specs.declared.limit.Limit.{Limit}
use Rattle.jz_limits.specs.Values.{no_numbers}
use Rattle.jz_limits.specs.Asked.{Told, Beside, AccessBeside, whole, cell_range, value_in, part_ranges, told_as, told_step, access_step, told}

abbrev pub ranges : Expr → List Limit
ranges e = (told no_numbers e).ranges

abbrev access_told : Access → Told
access_told =
    para-Access Told (Unit {0}) Told (Unit {0}) (Unit {0}) (told_step no_numbers) (λ t. tt) (access_step no_numbers)
    (λ d. tt) (λ v. tt)

abbrev paired : Layer → Beside
paired x = map-Expr _ _ _ _ _ _ _ _ _ _ (λ y. (y, told no_numbers y)) (λ y. (y, tt)) (λ y. (y, access_told y)) (λ y. (y, tt)) (λ y. (y, tt)) x

told_is : (x : Layer) → told no_numbers (roll-Expr x) ≡ told_step no_numbers (paired x)
told_is x = para-roll-Expr Told (Unit {0}) Told (Unit {0}) (Unit {0}) (told_step no_numbers) (λ t. tt) (access_step no_numbers) (λ d. tt) (λ v. tt) x

abbrev access_paired : Access-F Expr Ty Access Decl Var → AccessBeside
access_paired x = map-Access _ _ _ _ _ _ _ _ _ _ (λ y. (y, told no_numbers y)) (λ y. (y, tt)) (λ y. (y, access_told y)) (λ y. (y, tt)) (λ y. (y, tt)) x

access_is : (x : Access-F Expr Ty Access Decl Var) → access_told (roll-Access x) ≡ access_step no_numbers (access_paired x)
access_is x = para-roll-Access Told (Unit {0}) Told (Unit {0}) (Unit {0}) (told_step no_numbers) (λ t. tt) (access_step no_numbers) (λ d. tt) (λ v. tt) x

access_ranges : (a : Access) → (access_told a).ranges ≡ ranges (out-Access a).at
access_ranges a = ap (λ (t : Told). t.ranges) (ap access_told (sym (roll-out-Access a)) ∙ access_is (out-Access a))

-- whether it is inline or not
as_ranges : (b : Bool) (v : Option Constant) (at : Span) (x : Beside) → (told_as no_numbers b v at x).ranges ≡ part_ranges no_numbers x
as_ranges true v at x = refl
as_ranges false v at x = refl

abbrev pub range_layer : Layer → List Limit
range_layer (Expr-F.Num n at) = []
range_layer (Expr-F.Expr::Bool b at) = []
range_layer (Expr-F.Var v) = []
range_layer (Expr-F.Cell v i) = cell_range v (inline_value no_numbers i) ++ ranges i
range_layer (Expr-F.Load a) = ranges (out-Access a).at
range_layer (Expr-F.Neg a at) = ranges a
range_layer (Expr-F.Not a at) = ranges a
range_layer (Expr-F.Cast z s a at) = ranges a
range_layer (Expr-F.Bin o a b at) = ranges a ++ ranges b

part_is : (x : Layer) → part_ranges no_numbers (paired x) ≡ range_layer x
part_is (Expr-F.Num n at) = refl
part_is (Expr-F.Expr::Bool b at) = refl
part_is (Expr-F.Var v) = refl
part_is (Expr-F.Cell v i) = refl
part_is (Expr-F.Load a) = access_ranges a
part_is (Expr-F.Neg a at) = refl
part_is (Expr-F.Not a at) = refl
part_is (Expr-F.Cast z s a at) = refl
part_is (Expr-F.Bin o a b at) = refl

pub ranges_is : (x : Layer) → ranges (roll-Expr x) ≡ range_layer x
ranges_is x =
    ap (λ (t : Told). t.ranges) (told_is x)
    ∙ (as_ranges (is_inline (whole (paired x))) (value_in no_numbers (whole (paired x))) (span_of (whole (paired x))) (paired x) ∙ part_is x)

pub ranges_out : (e : Expr) → ranges e ≡ range_layer (out-Expr e)
ranges_out e = ap ranges (sym (roll-out-Expr e)) ∙ ranges_is (out-Expr e)

-- of a left side
abbrev pub left_ranges : Lval → List Limit
left_ranges (lval.Skip at) = []
left_ranges (lval.Var v) = []
left_ranges (lval.Cell v i) = cell_range v (inline_value no_numbers i) ++ ranges i
left_ranges (lval.Store a) = ranges (out-Access a).at

pub cell_ranges : (v : Var) (i : Expr) → ranges (expr.Cell v i) ≡ cell_range v (inline_value no_numbers i) ++ ranges i
cell_ranges v i = ap ranges (sym (expr.rolls-Cell v i)) ∙ ranges_is (Expr-F.Cell v i)

pub load_ranges : (a : Access) → ranges (expr.Load a) ≡ ranges (out-Access a).at
load_ranges a = ap ranges (sym (expr.rolls-Load a)) ∙ ranges_is (Expr-F.Load a)

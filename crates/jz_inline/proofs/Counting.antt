-- How many numbers an expression of each form leaks.
use Rattle.std.proofs.Common.{◌≡◌, ℕ, ◌+◌, ℤ, List, [], ◌∷◌, ◌++◌, Bool, true, false, refl, ap, sym, ◌∙◌}
use Rattle.std.specs.Prelude.{◌-◌, ◌^◌, ◌&&◌, if◌then◌else◌}
use Rattle.jz_tree.specs.Operators.{divides}
use Rattle.jz_tree.specs.Span.{Span}
use Rattle.jz_tree.specs.Size.{Size}
use Rattle.jz_tree.specs.declared.expr.BinOp.{BinOp}
use Rattle.jz_tree.specs.declared.expr.Expr.{Expr}
use Rattle.jz_tree.specs.declared.expr.Expr.TheVariants as expr
use Rattle.jz_tree.specs.declared.expr.Access.{Access}
use Rattle.jz_tree.specs.declared.expr.Var.{Var}
use Rattle.jz_tree.specs.declared.expr.Expr.TheOpen.{Expr-F}
use Rattle.jz_tree.specs.declared.expr.Expr.TheViews.{out-Access, roll-out-Access}
use Rattle.jz_inline.proofs.Widths.{declared_is, declared_access, access_is}
use Rattle.jz_inline.proofs.Capping.{capped_sum}
use Rattle.jz_meaning.specs.Shapes.{Sort, words, flags, integers, Shape, operation_shape, sort_of_operation, are_integers}
use Rattle.jz_meaning.specs.Values.{gives_word}
use Rattle.jz_inline.specs.Widths.{capped, sort_declared, declared_shape}
use Rattle.jz_inline.specs.InnerWidths.{is_whole, counted_of, count_of_operation, counted_operation, counted_left}
use Rattle.jz_inline.specs.declared.leaked.Counted.{Counted}
use Rattle.jz_inline.specs.declared.leaked.Operand.{Operand}

pub last_operand : (ss : List Operand) (s : Operand) (c : Counted) → counted_left (ss ++ s ∷ []) c ≡ counted_left ss (counted_operation s.op c s.right)
last_operand [] s c = refl
last_operand (t ∷ ss) s c = ap (λ x. counted_operation t.op x t.right) (last_operand ss s c)

whole_both : (a b : Sort) → are_integers a b ≡ (is_whole a && is_whole b)
whole_both words b = refl
whole_both flags b = refl
whole_both integers words = refl
whole_both integers flags = refl
whole_both integers integers = refl

whole_operation : (g : Bool) (op : BinOp) (a b : Sort) → gives_word op ≡ g → is_whole (sort_of_operation op a b) ≡ (g && (is_whole a && is_whole b))
whole_operation true op words b e = rw (e) refl
whole_operation true op flags b e = rw (e) refl
whole_operation true op integers words e = rw (e) refl
whole_operation true op integers flags e = rw (e) refl
whole_operation true op integers integers e = rw (e) refl
whole_operation false op a b e = rw (e) refl

pub counted_both : (op : BinOp) (a b : Shape) → counted_of (operation_shape op a b) ≡ counted_operation op (counted_of a) (counted_of b)
counted_both op a b =
    ap (λ w. record { whole = w; count = capped (a.count + (b.count + (if divides op then (if are_integers a.sort b.sort then 0 else 3) else 0))) }) (whole_operation (gives_word op) op a.sort b.sort refl)
    ∙ ap (λ t. record { whole = gives_word op && (is_whole a.sort && is_whole b.sort); count = capped (a.count + (b.count + (if divides op then (if t then 0 else 3) else 0))) }) (whole_both a.sort b.sort)
    ∙ ap (λ n. record { whole = gives_word op && (is_whole a.sort && is_whole b.sort); count = n }) (sym (capped_sum (2 ^ 64 - 1) a.count b.count (count_of_operation op (is_whole a.sort && is_whole b.sort))))

abbrev pub count_as : Bool → ℕ → Counted
count_as w n = record { whole = w; count = n }

pub of_num : (n : ℤ) (at : Span) → counted_of (declared_shape (expr.Num n at)) ≡ count_as true 0
of_num n at = ap (λ e. counted_of (declared_shape e)) (sym (expr.rolls-Num n at)) ∙ ap counted_of (declared_is (Expr-F.Num n at))

pub of_bool : (c : Bool) (at : Span) → counted_of (declared_shape (expr.Bool c at)) ≡ count_as false 0
of_bool c at = ap (λ e. counted_of (declared_shape e)) (sym (expr.rolls-Bool c at)) ∙ ap counted_of (declared_is (Expr-F.Expr::Bool c at))

pub of_var : (v : Var) → counted_of (declared_shape (expr.Var v)) ≡ count_as (is_whole (sort_declared v)) 0
of_var v = ap (λ e. counted_of (declared_shape e)) (sym (expr.rolls-Var v)) ∙ ap counted_of (declared_is (Expr-F.Var v))

pub of_cell : (v : Var) (i : Expr) → counted_of (declared_shape (expr.Cell v i)) ≡ count_as (is_whole (sort_declared v)) (capped ((declared_shape i).count + 1))
of_cell v i = ap (λ e. counted_of (declared_shape e)) (sym (expr.rolls-Cell v i)) ∙ ap counted_of (declared_is (Expr-F.Cell v i))

pub of_load : (a : Access) → counted_of (declared_shape (expr.Load a)) ≡ count_as false (capped ((declared_shape (out-Access a).at).count + 1))
of_load a = ap (λ e. counted_of (declared_shape e)) (sym (expr.rolls-Load a)) ∙ ap counted_of (declared_is (Expr-F.Load a)) ∙ ap (λ (s : Shape). count_as false (capped (s.count + 1))) (ap declared_access (sym (roll-out-Access a)) ∙ access_is (out-Access a))

pub of_neg : (e : Expr) (at : Span) → counted_of (declared_shape (expr.Neg e at)) ≡ counted_of (declared_shape e)
of_neg e at = ap (λ e. counted_of (declared_shape e)) (sym (expr.rolls-Neg e at)) ∙ ap counted_of (declared_is (Expr-F.Neg e at))

pub of_not : (e : Expr) (at : Span) → counted_of (declared_shape (expr.Not e at)) ≡ counted_of (declared_shape e)
of_not e at = ap (λ e. counted_of (declared_shape e)) (sym (expr.rolls-Not e at)) ∙ ap counted_of (declared_is (Expr-F.Not e at))

pub of_cast : (z : Size) (s : Bool) (e : Expr) (at : Span) → counted_of (declared_shape (expr.Cast z s e at)) ≡ count_as false (capped (declared_shape e).count)
of_cast z s e at = ap (λ e. counted_of (declared_shape e)) (sym (expr.rolls-Cast z s e at)) ∙ ap counted_of (declared_is (Expr-F.Cast z s e at))

pub of_bin : (op : BinOp) (a b : Expr) (at : Span) → counted_of (declared_shape (expr.Bin op a b at)) ≡ counted_operation op (counted_of (declared_shape a)) (counted_of (declared_shape b))
of_bin op a b at = ap (λ e. counted_of (declared_shape e)) (sym (expr.rolls-Bin op a b at)) ∙ ap counted_of (declared_is (Expr-F.Bin op a b at)) ∙ counted_both op (declared_shape a) (declared_shape b)

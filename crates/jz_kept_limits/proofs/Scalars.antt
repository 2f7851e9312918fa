-- Words in place of the cells of register arrays pass the limits that those pass.
use Rattle.std.proofs.Common.{◌≡◌, ℕ, false, Option, Some, None, refl, sym, ap, ◌∙◌, subst}
use Rattle.std.specs.Prelude.{option_map}
use Rattle.jz_tree.specs.Size.{Size}
use Rattle.jz_tree.specs.declared.expr.Access.{Access}
use Rattle.jz_tree.specs.declared.expr.Decl.{Decl}
use Rattle.jz_tree.specs.declared.expr.Ty.{Ty}
use Rattle.jz_tree.specs.declared.expr.Expr.{Expr}
use Rattle.jz_tree.specs.declared.expr.Expr.TheVariants as expr
use Rattle.jz_tree.specs.declared.expr.Expr.TheOpen.{Expr-F, Access-F, Var-F}
use Rattle.jz_tree.specs.declared.expr.Expr.TheViews.{out-Var, out-Access, roll-Expr, roll-Access, out-roll-Access, out-roll-Var}
use Rattle.jz_tree.specs.declared.expr.Expr.TheFolds.{ind-Expr, map-Expr, map-Access}
use Rattle.jz_tree.specs.declared.expr.Var.{Var}
use Rattle.jz_integers.specs.Integers.{number}
use Rattle.jz_type_names.specs.Kinds.{declared_of, known_of, is_inline_int}
use Rattle.jz_unroll.specs.Values.{with_values}
use Rattle.jz_unroll.proofs.Layers.{Layer}
use Rattle.jz_arrays.specs.Cells.{size_at, cell_in, scalar, cell_or, with_scalars, access_with_scalars}
use Rattle.jz_arrays.proofs.Reading.{rolled, in_is}
use Rattle.jz_one_unrolling.proofs.Valuing.{values_grow}
use Rattle.jz_limits.specs.declared.looked.Asking.{Asking}
use Rattle.jz_limits.specs.Values.{no_numbers}
use Rattle.jz_limits.specs.InnerLooked.{seen_as, look_of, no_part, cell_part}
use Rattle.jz_limits.proofs.Layers.{look_var, look_cell}
use Rattle.jz_kept_limits.specs.Passing.{Passes}
use Rattle.jz_kept_limits.specs.Laws.{ExpressionsStayWithin}
use Rattle.jz_kept_limits.proofs.Passed.{passes_as, passes_then, passes_itself, plain}
use Rattle.jz_kept_limits.proofs.ValuedParts.{valued}
use Rattle.jz_kept_limits.proofs.SizeLemmas.{scalars_access_out, scalars_own}
use Rattle.jz_kept_limits.proofs.Kept.{part_at, load_passes, cell_passes, minus_passes, denial_passes, cast_passes, two_pass, kept}

-- a word in place of a cell is no inline variable
pub scalar_plain : (v : Var) (z : Size) (n : ℕ) → is_inline_int (known_of (scalar v z n)) ≡ false
scalar_plain v z n = ap (λ (x : Var-F Expr Ty Access Decl Var). is_inline_int (option_map declared_of x.decl)) (out-roll-Var _)

abbrev ExprLaw : Expr → Type 0
ExprLaw x = (q : Asking) → Passes (look_of no_numbers q x) (look_of no_numbers q (with_scalars x))

abbrev AccessLaw : Access → Type 0
AccessLaw a = (q : Asking) → Passes (look_of no_numbers q (out-Access a).at) (look_of no_numbers q (with_scalars (out-Access a).at))

abbrev Any : {A : Type 0} → A → Type 0
Any y = Unit {0}

abbrev Known : Type 0
Known = Expr-F ((x : Expr) × ExprLaw x) ((y : Ty) × Any y) ((a : Access) × AccessLaw a) ((d : Decl) × Any d) ((v : Var) × Any v)

abbrev bare : Known → Layer
bare y = map-Expr _ _ _ _ _ _ _ _ _ _ (λ x. x.0) (λ x. x.0) (λ x. x.0) (λ x. x.0) (λ x. x.0) y

-- as it is rolled
between : (q : Asking) (x y x2 y2 : Expr) → x2 ≡ x → y2 ≡ y → Passes (look_of no_numbers q x) (look_of no_numbers q y) → Passes (look_of no_numbers q x2) (look_of no_numbers q y2)
between q x y x2 y2 e f p = passes_as (look_of no_numbers q x) (look_of no_numbers q y) (look_of no_numbers q x2) (look_of no_numbers q y2) (ap (look_of no_numbers q) e) (ap (look_of no_numbers q) f) p

word_passes : (q : Asking) (v : Var) (i : Expr) (z : Size) (n : ℕ) → Passes (look_of no_numbers q (expr.Cell v i)) (look_of no_numbers q (expr.Var (scalar v z n)))
word_passes q v i z n =
    let at = (out-Var v).span in
    let w = scalar v z n in
    let there = (out-Var w).span in
    let x = look_of no_numbers (part_at at) i in
    passes_as (seen_as false None at q (cell_part v x)) (seen_as false (number None) there q no_part) (look_of no_numbers q (expr.Cell v i)) (look_of no_numbers q (expr.Var w))
    (look_cell no_numbers q v i) (look_var no_numbers q w ∙ ap (λ b. seen_as b (number None) there q no_part) (scalar_plain v z n))
    (plain None (number None) at there q q (cell_part v x) no_part refl (record { width = λ g. refl; range = λ g. refl; operand = λ g. refl; terms = refl; scaled = refl }))

pub chosen_passes : (q : Asking) (v : Var) (i x : Expr) (z : Option Size) (n : Option ℕ) → ((r : Asking) → Passes (look_of no_numbers r i) (look_of no_numbers r x))
    → Passes (look_of no_numbers q (expr.Cell v i)) (look_of no_numbers q (cell_or v x z n))
chosen_passes q v i x (Some z) (Some n) p = between q (expr.Cell v i) (expr.Var (scalar v z n)) (expr.Cell v i) (cell_or v x (Some z) (Some n)) refl (expr.rolls-Var (scalar v z n)) (word_passes q v i z n)
chosen_passes q v i x (Some z) None p = between q (expr.Cell v i) (expr.Cell v x) (expr.Cell v i) (cell_or v x (Some z) None) refl (expr.rolls-Cell v x) (cell_passes no_numbers no_numbers q v i x p)
chosen_passes q v i x None (Some n) p = between q (expr.Cell v i) (expr.Cell v x) (expr.Cell v i) (cell_or v x None (Some n)) refl (expr.rolls-Cell v x) (cell_passes no_numbers no_numbers q v i x p)
chosen_passes q v i x None None p = between q (expr.Cell v i) (expr.Cell v x) (expr.Cell v i) (cell_or v x None None) refl (expr.rolls-Cell v x) (cell_passes no_numbers no_numbers q v i x p)

layer_law : (y : Known) (q : Asking) → Passes (look_of no_numbers q (roll-Expr (bare y))) (look_of no_numbers q (rolled (bare y)))
layer_law (Expr-F.Num n at) q = passes_itself (look_of no_numbers q (roll-Expr (Expr-F.Num n at)))
layer_law (Expr-F.Expr::Bool b at) q = passes_itself (look_of no_numbers q (roll-Expr (Expr-F.Expr::Bool b at)))
layer_law (Expr-F.Var v) q = passes_itself (look_of no_numbers q (roll-Expr (Expr-F.Var v.0)))
layer_law (Expr-F.Cell v i) q =
    between q (expr.Cell v.0 i.0) (cell_or v.0 (with_scalars i.0) (size_at v.0) (cell_in v.0 i.0)) (roll-Expr (Expr-F.Cell v.0 i.0)) (cell_or v.0 (with_scalars i.0) (size_at v.0) (cell_in v.0 i.0)) (expr.rolls-Cell v.0 i.0) refl
    (chosen_passes q v.0 i.0 (with_scalars i.0) (size_at v.0) (cell_in v.0 i.0) i.1)
layer_law (Expr-F.Load a) q =
    let b = access_with_scalars a.0 in
    between q (expr.Load a.0) (expr.Load b) (roll-Expr (Expr-F.Load a.0)) (roll-Expr (Expr-F.Load b)) (expr.rolls-Load a.0) (expr.rolls-Load b)
    (load_passes no_numbers no_numbers q a.0 b (with_scalars (out-Access a.0).at) (ap (λ (m : Access-F Expr Ty Access Decl Var). m.span) (scalars_access_out a.0))
    (ap (λ (m : Access-F Expr Ty Access Decl Var). m.at) (scalars_access_out a.0)) a.1)
layer_law (Expr-F.Neg a at) q =
    between q (expr.Neg a.0 at) (expr.Neg (with_scalars a.0) at) (roll-Expr (Expr-F.Neg a.0 at)) (roll-Expr (Expr-F.Neg (with_scalars a.0) at)) (expr.rolls-Neg a.0 at) (expr.rolls-Neg (with_scalars a.0) at)
    (minus_passes no_numbers no_numbers q a.0 (with_scalars a.0) at (a.1 q))
layer_law (Expr-F.Not a at) q =
    between q (expr.Not a.0 at) (expr.Not (with_scalars a.0) at) (roll-Expr (Expr-F.Not a.0 at)) (roll-Expr (Expr-F.Not (with_scalars a.0) at)) (expr.rolls-Not a.0 at) (expr.rolls-Not (with_scalars a.0) at)
    (denial_passes no_numbers no_numbers q a.0 (with_scalars a.0) at (a.1 q))
layer_law (Expr-F.Cast z s a at) q =
    between q (expr.Cast z s a.0 at) (expr.Cast z s (with_scalars a.0) at) (roll-Expr (Expr-F.Cast z s a.0 at)) (roll-Expr (Expr-F.Cast z s (with_scalars a.0) at)) (expr.rolls-Cast z s a.0 at) (expr.rolls-Cast z s (with_scalars a.0) at)
    (cast_passes no_numbers no_numbers q z s a.0 (with_scalars a.0) at (scalars_own a.0) a.1)
layer_law (Expr-F.Bin o a b at) q =
    between q (expr.Bin o a.0 b.0 at) (expr.Bin o (with_scalars a.0) (with_scalars b.0) at) (roll-Expr (Expr-F.Bin o a.0 b.0 at)) (roll-Expr (Expr-F.Bin o (with_scalars a.0) (with_scalars b.0) at)) (expr.rolls-Bin o a.0 b.0 at)
    (expr.rolls-Bin o (with_scalars a.0) (with_scalars b.0) at) (two_pass no_numbers no_numbers q o a.0 b.0 (with_scalars a.0) (with_scalars b.0) at (a.1 q) (b.1 q))

expr_case : (y : Known) → ExprLaw (roll-Expr (bare y))
expr_case y q = between q (roll-Expr (bare y)) (rolled (bare y)) (roll-Expr (bare y)) (with_scalars (roll-Expr (bare y))) refl (in_is (bare y)) (layer_law y q)

access_case : (y : Access-F ((x : Expr) × ExprLaw x) ((z : Ty) × Any z) ((a : Access) × AccessLaw a) ((d : Decl) × Any d) ((v : Var) × Any v)) → AccessLaw (roll-Access (map-Access _ _ _ _ _ _ _ _ _ _ (λ x. x.0) (λ x. x.0) (λ x. x.0) (λ x. x.0) (λ x. x.0) y))
access_case y =
    let x = map-Access _ _ _ _ _ Expr Ty Access Decl Var (λ x. x.0) (λ x. x.0) (λ x. x.0) (λ x. x.0) (λ x. x.0) y in
    subst ExprLaw (sym (ap (λ (z : Access-F Expr Ty Access Decl Var). z.at) (out-roll-Access x))) y.at.1

-- whatever the expression is
pub scalars_pass : (x : Expr) → ExprLaw x
scalars_pass =
    ind-Expr ExprLaw Any AccessLaw Any Any
    (λ z y is. subst (λ w. ExprLaw (roll-Expr w)) is (expr_case y))
    (λ z y is. tt)
    (λ z y is. subst (λ w. AccessLaw (roll-Access w)) is (access_case y))
    (λ z y is. tt)
    (λ z y is. tt)

-- ---- both
pub expressions : ExpressionsStayWithin
expressions names k e x q less only h =
    subst (λ w. Passes (look_of e q x) (look_of no_numbers q (with_scalars w))) (sym (values_grow names k e less x h))
    (passes_then (look_of e q x) (look_of no_numbers q (with_values e x)) (look_of no_numbers q (with_scalars (with_values e x))) (kept e x (valued names k e less only x h) q) (scalars_pass (with_values e x) q))

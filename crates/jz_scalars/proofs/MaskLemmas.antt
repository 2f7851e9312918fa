-- Which of the numbers are left, of an expression of each form and of what an operation makes of a left side.
use Rattle.std.proofs.Common.{◌≡◌, ℕ, ℤ, List, [], ◌∷◌, ◌++◌, Bool, true, false, Option, Some, None, refl, ap, sym, ◌∙◌, append-nil}
use Rattle.std.specs.Prelude.{◌&&◌, if◌then◌else◌, option_map}
use Rattle.std.proofs.lemmas.Bool.{and_parts}
use Rattle.jz_tree.specs.Operators.{divides, carries}
use Rattle.jz_tree.specs.Span.{Span}
use Rattle.jz_tree.specs.Size.{Size}
use Rattle.jz_tree.specs.declared.expr.BinOp.{BinOp}
use Rattle.jz_tree.specs.declared.expr.BinOp.TheVariants as o
use Rattle.jz_tree.specs.declared.expr.Expr.{Expr}
use Rattle.jz_tree.specs.declared.expr.Expr.TheVariants as expr
use Rattle.jz_tree.specs.declared.expr.Access.{Access}
use Rattle.jz_tree.specs.declared.expr.Var.{Var}
use Rattle.jz_tree.specs.declared.expr.Expr.TheOpen.{Expr-F}
use Rattle.jz_tree.specs.declared.expr.Expr.TheViews.{out-Expr, out-Access, roll-Expr, roll-out-Expr, roll-out-Access}
use Rattle.jz_tree.specs.declared.stmt.Lval.{Lval}
use Rattle.jz_tree.specs.declared.stmt.Lval.TheVariants as lval
use Rattle.jz_meaning.specs.Assignments.{as_expr, left_span, is_flag, is_flag_layer, updated_layer, updated, whole_of}
use Rattle.jz_meaning.specs.Shapes.{Sort, words, flags, integers, Shape, operation_shape, sort_of_operation, own_count}
use Rattle.jz_meaning.specs.Values.{gives_word}
use Rattle.jz_unroll.proofs.Layers.{Layer}
use Rattle.jz_inline.specs.Widths.{sort_declared, declared_shape}
use Rattle.jz_inline.specs.InnerWidths.{is_whole, count_of_operation}
use Rattle.jz_inline.proofs.Widths.{declared_is}
use Rattle.jz_arrays.specs.Cells.{is_scalar, Mask, all_kept, mask_of, access_mask, left_mask, mask_if}
use Rattle.jz_arrays.proofs.Reading.{mask_layer, mask_is, access_mask_is}
use Rattle.jz_arrays.proofs.Assigning.{carries_plain}
use Rattle.jz_scalars.specs.Scalars.{declared_sort}
use Rattle.jz_scalars.specs.InnerMasks.{masked_of, masked_access, masked_cell_of, masked_operation, masked_left}
use Rattle.jz_scalars.specs.InnerCells.{register_cell}
use Rattle.jz_scalars.specs.declared.cells.RegisterCell.{RegisterCell}
use Rattle.jz_scalars.specs.declared.masks.Masked.{Masked}
use Rattle.jz_scalars.specs.declared.masks.Operand.{Operand}

pub last_operand : (ss : List Operand) (s : Operand) (m : Masked) → masked_left (ss ++ s ∷ []) m ≡ masked_left ss (masked_operation s.op m s.right)
last_operand [] s m = refl
last_operand (t ∷ ss) s m = ap (λ x. masked_operation t.op x t.right) (last_operand ss s m)

-- ---- forms

abbrev pub masked_as : Bool → Mask → Masked
masked_as w m = record { whole = w; mask = m }

both : (x : Expr) (s : Shape) (m : Mask) → declared_shape x ≡ s → mask_of declared_sort x ≡ m → masked_of x ≡ masked_as (is_whole s.sort) m
both x s m p q = ap (λ (t : Shape). masked_as (is_whole t.sort) (mask_of declared_sort x)) p ∙ ap (masked_as (is_whole s.sort)) q

pub of_num : (n : ℤ) (at : Span) → masked_of (expr.Num n at) ≡ masked_as true []
of_num n at = ap masked_of (sym (expr.rolls-Num n at)) ∙ both (roll-Expr (Expr-F.Num n at)) _ _ (declared_is (Expr-F.Num n at)) (mask_is declared_sort (Expr-F.Num n at))

pub of_bool : (c : Bool) (at : Span) → masked_of (expr.Bool c at) ≡ masked_as false []
of_bool c at = ap masked_of (sym (expr.rolls-Bool c at)) ∙ both (roll-Expr (Expr-F.Expr::Bool c at)) _ _ (declared_is (Expr-F.Expr::Bool c at)) (mask_is declared_sort (Expr-F.Expr::Bool c at))

pub of_var : (v : Var) → masked_of (expr.Var v) ≡ masked_as (is_whole (sort_declared v)) []
of_var v = ap masked_of (sym (expr.rolls-Var v)) ∙ both (roll-Expr (Expr-F.Var v)) _ _ (declared_is (Expr-F.Var v)) (mask_is declared_sort (Expr-F.Var v))

pub of_cell : (v : Var) (i : Expr) → masked_of (expr.Cell v i) ≡ masked_cell_of v i (masked_of i)
of_cell v i = ap masked_of (sym (expr.rolls-Cell v i)) ∙ both (roll-Expr (Expr-F.Cell v i)) _ _ (declared_is (Expr-F.Cell v i)) (mask_is declared_sort (Expr-F.Cell v i))

access_out : (a : Access) → access_mask declared_sort a ≡ mask_of declared_sort (out-Access a).at
access_out a = ap (access_mask declared_sort) (sym (roll-out-Access a)) ∙ access_mask_is declared_sort (out-Access a)

pub of_load : (a : Access) → masked_of (expr.Load a) ≡ masked_access false (out-Access a).at
of_load a =
    ap masked_of (sym (expr.rolls-Load a)) ∙ both (roll-Expr (Expr-F.Load a)) _ _ (declared_is (Expr-F.Load a)) (mask_is declared_sort (Expr-F.Load a))
    ∙ ap (λ m. masked_as false (m ++ true ∷ [])) (access_out a)

pub of_neg : (e : Expr) (at : Span) → masked_of (expr.Neg e at) ≡ masked_of e
of_neg e at = ap masked_of (sym (expr.rolls-Neg e at)) ∙ both (roll-Expr (Expr-F.Neg e at)) _ _ (declared_is (Expr-F.Neg e at)) (mask_is declared_sort (Expr-F.Neg e at))

pub of_not : (e : Expr) (at : Span) → masked_of (expr.Not e at) ≡ masked_of e
of_not e at = ap masked_of (sym (expr.rolls-Not e at)) ∙ both (roll-Expr (Expr-F.Not e at)) _ _ (declared_is (Expr-F.Not e at)) (mask_is declared_sort (Expr-F.Not e at))

pub of_cast : (z : Size) (s : Bool) (e : Expr) (at : Span) → masked_of (expr.Cast z s e at) ≡ masked_as false (mask_of declared_sort e)
of_cast z s e at = ap masked_of (sym (expr.rolls-Cast z s e at)) ∙ both (roll-Expr (Expr-F.Cast z s e at)) _ _ (declared_is (Expr-F.Cast z s e at)) (mask_is declared_sort (Expr-F.Cast z s e at))

own_is : (op : BinOp) (a b : Sort) → own_count op a b ≡ count_of_operation op (is_whole a && is_whole b)
own_is op words b = refl
own_is op flags b = refl
own_is op integers words = refl
own_is op integers flags = refl
own_is op integers integers = refl

whole_by : (g : Bool) (op : BinOp) (a b : Sort) → gives_word op ≡ g → is_whole (sort_of_operation op a b) ≡ (g && (is_whole a && is_whole b))
whole_by true op words b e = rw (e) refl
whole_by true op flags b e = rw (e) refl
whole_by true op integers words e = rw (e) refl
whole_by true op integers flags e = rw (e) refl
whole_by true op integers integers e = rw (e) refl
whole_by false op a b e = rw (e) refl

whole_is : (op : BinOp) (a b : Shape) → is_whole (operation_shape op a b).sort ≡ (gives_word op && (is_whole a.sort && is_whole b.sort))
whole_is op a b = whole_by (gives_word op) op a.sort b.sort refl

pub of_bin : (op : BinOp) (a b : Expr) (at : Span) → masked_of (expr.Bin op a b at) ≡ masked_operation op (masked_of a) (masked_of b)
of_bin op a b at =
    ap masked_of (sym (expr.rolls-Bin op a b at)) ∙ both (roll-Expr (Expr-F.Bin op a b at)) _ _ (declared_is (Expr-F.Bin op a b at)) (mask_is declared_sort (Expr-F.Bin op a b at))
    ∙ ap (λ w. masked_as w (mask_layer declared_sort (Expr-F.Bin op a b at))) (whole_is op (declared_shape a) (declared_shape b))
    ∙ ap (λ n. masked_as (gives_word op && (is_whole (declared_sort a) && is_whole (declared_sort b))) (mask_of declared_sort a ++ (mask_of declared_sort b ++ all_kept n))) (own_is op (declared_sort a) (declared_sort b))

-- ---- left sides

-- the mask of a left side is that of what is read there
pub left_read : (sort : Expr → Sort) (d : Lval) → left_mask sort d ≡ mask_if sort (as_expr d)
left_read sort (lval.Skip at) = refl
left_read sort (lval.Var v) = sym (ap (mask_of sort) (sym (expr.rolls-Var v)) ∙ mask_is sort (Expr-F.Var v))
left_read sort (lval.Cell v i) = sym (ap (mask_of sort) (sym (expr.rolls-Cell v i)) ∙ mask_is sort (Expr-F.Cell v i))
left_read sort (lval.Store a) = sym (ap (mask_of sort) (sym (expr.rolls-Load a)) ∙ mask_is sort (Expr-F.Load a))

abbrev read_mask : Option Masked → Mask
read_mask None = []
read_mask (Some m) = m.mask

read_is : (e : Option Expr) → read_mask (option_map masked_of e) ≡ mask_if declared_sort e
read_is None = refl
read_is (Some e) = refl

pub read_none : (d : Lval) → option_map masked_of (as_expr d) ≡ None → mask_if declared_sort (as_expr d) ≡ []
read_none d e = sym (read_is (as_expr d)) ∙ ap read_mask e

pub read_some : (d : Lval) (m : Masked) → option_map masked_of (as_expr d) ≡ Some m → mask_if declared_sort (as_expr d) ≡ m.mask
read_some d m e = sym (read_is (as_expr d)) ∙ ap read_mask e

-- ---- operations on left sides

-- where a flag is carried neither operation divides
first_plain : (op p : BinOp) → carries op p ≡ true → divides op ≡ false
first_plain o.Add p e = refl
first_plain o.Sub p e = refl
first_plain o.OrElse p e = absurd cc
first_plain o.AndThen p e = absurd cc
first_plain o.Or p e = absurd cc
first_plain o.Xor p e = absurd cc
first_plain o.And p e = absurd cc
first_plain o.Eq p e = absurd cc
first_plain o.Ne p e = absurd cc
first_plain o.Lt p e = absurd cc
first_plain o.Le p e = absurd cc
first_plain o.Gt p e = absurd cc
first_plain o.Ge p e = absurd cc
first_plain o.LtS p e = absurd cc
first_plain o.LeS p e = absurd cc
first_plain o.GtS p e = absurd cc
first_plain o.GeS p e = absurd cc
first_plain o.Shl p e = absurd cc
first_plain o.Shr p e = absurd cc
first_plain o.Sar p e = absurd cc
first_plain o.Rol p e = absurd cc
first_plain o.Ror p e = absurd cc
first_plain o.Mul p e = absurd cc
first_plain o.Div p e = absurd cc
first_plain o.Rem p e = absurd cc
first_plain o.DivS p e = absurd cc
first_plain o.RemS p e = absurd cc

-- a flag leaks nothing
flag_mask : (y : Layer) → is_flag_layer y ≡ true → mask_layer declared_sort y ≡ []
flag_mask (Expr-F.Var v) e = refl
flag_mask (Expr-F.Num n at) e = absurd cc
flag_mask (Expr-F.Expr::Bool b at) e = absurd cc
flag_mask (Expr-F.Cell v i) e = absurd cc
flag_mask (Expr-F.Load a) e = absurd cc
flag_mask (Expr-F.Neg a at) e = absurd cc
flag_mask (Expr-F.Not a at) e = absurd cc
flag_mask (Expr-F.Cast z s a at) e = absurd cc
flag_mask (Expr-F.Bin op a b at) e = absurd cc

flag_none : (c : Expr) → is_flag c ≡ true → mask_of declared_sort c ≡ []
flag_none c e = ap (mask_of declared_sort) (sym (roll-out-Expr c)) ∙ mask_is declared_sort (out-Expr c) ∙ flag_mask (out-Expr c) e

none_own : (op : BinOp) (w : Bool) → divides op ≡ false → count_of_operation op w ≡ 0
none_own op w e = rw e

abbrev M : Expr → Mask
M e = mask_of declared_sort e

-- without numbers of their own
carried : (x a c : Mask) → c ≡ [] → (x ++ (a ++ [])) ++ (c ++ []) ≡ x ++ ((a ++ (c ++ [])) ++ [])
carried x a c e =
    ap (λ k. (x ++ (a ++ [])) ++ (k ++ [])) e ∙ append-nil (x ++ (a ++ [])) ∙ ap (λ k. x ++ k) (sym (append-nil (a ++ []))) ∙ ap (λ k. x ++ ((a ++ (k ++ [])) ++ [])) (sym e)

abbrev W : BinOp → Expr → Expr → ℕ
W op a b = count_of_operation op (is_whole (declared_sort a) && is_whole (declared_sort b))

bin_mask : (op : BinOp) (a b : Expr) (at : Span) → M (expr.Bin op a b at) ≡ M a ++ (M b ++ all_kept (W op a b))
bin_mask op a b at = ap (λ (m : Masked). m.mask) (of_bin op a b at)

with_flag : (op p : BinOp) (x a c : Expr) (at inner : Span) → carries op p ≡ true → is_flag c ≡ true → M (expr.Bin p (expr.Bin op x a at) c at) ≡ M x ++ (M (expr.Bin p a c inner) ++ all_kept (W op x (expr.Bin p a c inner)))
with_flag op p x a c at inner both flag =
    let n1 : W op x a ≡ 0 = none_own op (is_whole (declared_sort x) && is_whole (declared_sort a)) (first_plain op p both) in
    let n2 : W p (expr.Bin op x a at) c ≡ 0 = none_own p (is_whole (declared_sort (expr.Bin op x a at)) && is_whole (declared_sort c)) (carries_plain op p both) in
    let n3 : W p a c ≡ 0 = none_own p (is_whole (declared_sort a) && is_whole (declared_sort c)) (carries_plain op p both) in
    let n4 : W op x (expr.Bin p a c inner) ≡ 0 = none_own op (is_whole (declared_sort x) && is_whole (declared_sort (expr.Bin p a c inner))) (first_plain op p both) in
    bin_mask p (expr.Bin op x a at) c at
    ∙ ap (λ k. k ++ (M c ++ all_kept (W p (expr.Bin op x a at) c))) (bin_mask op x a at)
    ∙ ap (λ n. (M x ++ (M a ++ all_kept n)) ++ (M c ++ all_kept (W p (expr.Bin op x a at) c))) n1
    ∙ ap (λ n. (M x ++ (M a ++ [])) ++ (M c ++ all_kept n)) n2
    ∙ carried (M x) (M a) (M c) (flag_none c flag)
    ∙ ap (λ n. M x ++ ((M a ++ (M c ++ all_kept n)) ++ [])) (sym n3)
    ∙ ap (λ k. M x ++ (k ++ [])) (sym (bin_mask p a c inner))
    ∙ ap (λ n. M x ++ (M (expr.Bin p a c inner) ++ all_kept n)) (sym n4)

-- what an operation makes of a left side
updated_bin : (op p : BinOp) (x a c : Expr) (at inner : Span) (t : Bool) → (carries op p && is_flag c) ≡ t →
    M (if t then expr.Bin p (expr.Bin op x a at) c at else expr.Bin op x (expr.Bin p a c inner) at) ≡ M x ++ (M (expr.Bin p a c inner) ++ all_kept (W op x (expr.Bin p a c inner)))
updated_bin op p x a c at inner true q = let k = and_parts (carries op p) (is_flag c) q in with_flag op p x a c at inner k.0 k.1
updated_bin op p x a c at inner false q = bin_mask op x (expr.Bin p a c inner) at

updated_mask : (op : BinOp) (x e : Expr) (at : Span) (y : Layer) → roll-Expr y ≡ e → M (updated_layer op x e at y) ≡ M x ++ (M e ++ all_kept (W op x e))
updated_mask op x e at (Expr-F.Num n p) q = bin_mask op x e at
updated_mask op x e at (Expr-F.Expr::Bool b p) q = bin_mask op x e at
updated_mask op x e at (Expr-F.Var v) q = bin_mask op x e at
updated_mask op x e at (Expr-F.Cell v i) q = bin_mask op x e at
updated_mask op x e at (Expr-F.Load a) q = bin_mask op x e at
updated_mask op x e at (Expr-F.Neg a p) q = bin_mask op x e at
updated_mask op x e at (Expr-F.Not a p) q = bin_mask op x e at
updated_mask op x e at (Expr-F.Cast z s a p) q = bin_mask op x e at
updated_mask op x e at (Expr-F.Bin p a c inner) q =
    let r : expr.Bin p a c inner ≡ e = sym (expr.rolls-Bin p a c inner) ∙ q in
    ap (λ k. M (if carries op p && is_flag c then expr.Bin p (expr.Bin op x a at) c at else expr.Bin op x k at)) (sym r)
    ∙ updated_bin op p x a c at inner (carries op p && is_flag c) refl
    ∙ ap (λ k. M x ++ (M k ++ all_kept (W op x k))) r

same_mask : (a b : Masked) → Some a ≡ Some b → a ≡ b
same_mask a b e = cc

by_read : (d : Lval) (x : Expr) → as_expr d ≡ Some x → (op : BinOp) (e : Expr) (m : Masked) → Some (masked_of x) ≡ Some m → mask_if declared_sort (whole_of (Some d) (Some op) e) ≡ (masked_operation op m (masked_of e)).mask
by_read d x r op e m q =
    ap (λ k. mask_if declared_sort (updated k op e (left_span d))) r
    ∙ updated_mask op x e (left_span d) (out-Expr e) (roll-out-Expr e)
    ∙ ap (λ (k : Masked). (masked_operation op k (masked_of e)).mask) (same_mask (masked_of x) m q)

-- a left side that is read, and one that is not
pub update_some : (d : Lval) (op : BinOp) (e : Expr) (m : Masked) → option_map masked_of (as_expr d) ≡ Some m → mask_if declared_sort (whole_of (Some d) (Some op) e) ≡ (masked_operation op m (masked_of e)).mask
update_some (lval.Skip at) op e m q = absurd cc
update_some (lval.Var v) op e m q = by_read (lval.Var v) (expr.Var v) refl op e m q
update_some (lval.Cell v i) op e m q = by_read (lval.Cell v i) (expr.Cell v i) refl op e m q
update_some (lval.Store a) op e m q = by_read (lval.Store a) (expr.Load a) refl op e m q

pub update_none : (d : Lval) (op : BinOp) (e : Expr) → option_map masked_of (as_expr d) ≡ None → mask_if declared_sort (whole_of (Some d) (Some op) e) ≡ []
update_none (lval.Skip at) op e q = refl
update_none (lval.Var v) op e q = absurd cc
update_none (lval.Cell v i) op e q = absurd cc
update_none (lval.Store a) op e q = absurd cc

-- ---- cells

-- an access that becomes a scalar, and one that stays
pub cell_dropped : (w : Bool) (m : Mask) (z : Option Size) (n : Option ℕ) (c : RegisterCell) → register_cell z n ≡ Some c → masked_as w (if is_scalar z n then false ∷ [] else m ++ true ∷ []) ≡ masked_as w (false ∷ [])
cell_dropped w m None n c e = absurd cc
cell_dropped w m (Some z) None c e = absurd cc
cell_dropped w m (Some z) (Some n) c e = refl

pub cell_kept : (w : Bool) (m : Mask) (z : Option Size) (n : Option ℕ) → register_cell z n ≡ None → masked_as w (if is_scalar z n then false ∷ [] else m ++ true ∷ []) ≡ masked_as w (m ++ true ∷ [])
cell_kept w m None n e = refl
cell_kept w m (Some z) None e = refl
cell_kept w m (Some z) (Some n) e = absurd cc

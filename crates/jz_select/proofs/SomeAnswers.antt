-- The hardest answers are answers: with some, the shape of a statement is that with the hardest.
use Rattle.std.proofs.Common.{◌≡◌, Bool, true, false, List, [], ◌∷◌, Option, Some, None, refl, ap}
use Rattle.std.specs.Prelude.{if◌then◌else◌}
use Rattle.jz_tree.specs.declared.expr.BinOp.{BinOp}
use Rattle.jz_tree.specs.declared.expr.Expr.{Expr}
use Rattle.jz_tree.specs.declared.expr.Expr.TheOpen.{Expr-F}
use Rattle.jz_tree.specs.declared.expr.Expr.TheViews.{out-Expr}
use Rattle.jz_tree.specs.declared.stmt.Lval.{Lval}
use Rattle.jz_tree.specs.declared.stmt.Rhs.{Rhs}
use Rattle.jz_tree.specs.declared.stmt.Rhs.TheVariants as rhs
use Rattle.jz_tree.specs.declared.stmt.Stmt.{Stmt}
use Rattle.jz_tree.specs.declared.stmt.StmtKind.{StmtKind}
use Rattle.jz_tree.specs.declared.stmt.StmtKind.TheOpen.{StmtKind-F}
use Rattle.jz_tree.specs.declared.stmt.StmtKind.TheViews.{out-StmtKind}
use Rattle.jz_tree.specs.declared.intrinsic.Intrinsic.{Intrinsic}
use Rattle.jz_tree.specs.declared.intrinsic.Intrinsic.TheVariants as name
use Rattle.jz_tree.specs.declared.intrinsic.Instance.{Instance}
use Rattle.jz_tree.specs.Spellings.{spelled}
use Rattle.jz_tree.specs.Operators.{carries}
use Rattle.jz_select.specs.declared.class.Class.{Class}
use Rattle.jz_select.specs.declared.class.Class.TheVariants as class
use Rattle.jz_select.specs.declared.shape.Value.TheVariants as values
use Rattle.jz_select.specs.declared.shape.Shape.TheVariants as shapes
use Rattle.jz_select.specs.declared.shaping.Flags.TheVariants as flags
use Rattle.jz_select.specs.Places.{Layer, Answers}
use Rattle.jz_select.specs.Operands.{class_of, dest_of}
use Rattle.jz_select.specs.Rows.{is_flag}
use Rattle.jz_select.specs.Shapes.{Asked, whichever, first_of, value_behind, beside, carry_layer, value_layer, update_layer, assign_of, value_shape, one_shape, two_shape, three_shape, product_shape, division_shape, intrinsic_shape, named_shape, rhs_shape, kind_layer, shape_of}
use Rattle.jz_select.specs.Hardest.{hardest}

-- what is made with the hardest answers is made with some answers to each comparison
abbrev pub Some' : {T : Type 0} → (Asked → T) → Type 0
Some' f = (B : Answers) × (f (whichever B) ≡ f hardest)

abbrev none : Answers
none x y = false

free : {T : Type 0} (t : T) → Some' (λ asked. t)
free t = (none, refl)

carry_by : (d : Lval) (o : BinOp) (a b : Expr) (f : Bool) → Some' (λ asked. if f then values.Carry o (beside asked d (Some a) a) (beside asked d (Some a) b) else values.Alone)
carry_by d o a b true = (hardest d (Some a), refl)
carry_by d o a b false = (none, refl)

carry_some : (d : Lval) (o : BinOp) (y : Layer) → Some' (λ asked. carry_layer asked d o y)
carry_some d o (Expr-F.Bin p a b at) = carry_by d o a b (carries o p)
carry_some d o _ = (none, refl)

bin_by : (d : Lval) (o : BinOp) (a b : Expr) (f : Bool) → Some' (λ asked. if f then carry_layer asked d o (out-Expr a) else values.Two o (beside asked d (first_of o a) a) (beside asked d (first_of o a) b))
bin_by d o a b true = carry_some d o (out-Expr a)
bin_by d o a b false = (hardest d (first_of o a), refl)

value_some : (d : Lval) (y : Layer) → Some' (λ asked. value_layer asked d y)
value_some d (Expr-F.Bin o a b at) = bin_by d o a b (is_flag (class_of b))
value_some d (Expr-F.Neg a at) = (hardest d (Some a), refl)
value_some d (Expr-F.Not a at) = (hardest d (Some a), refl)
value_some d _ = (none, refl)

update_some : (d : Lval) (o : BinOp) (e : Expr) (y : Layer) → Some' (λ asked. update_layer asked d o e y)
update_some d o e (Expr-F.Bin p a b at) = (hardest d None, refl)
update_some d o e _ = (hardest d None, refl)

some_in : {S T : Type 0} (f : S → T) (s : Asked → S) → Some' s → Some' (λ asked. f (s asked))
some_in f s (B, e) = (B, ap f e)

pub assign_some : (lead : Option Class) (d : Lval) (p : Option BinOp) (e : Expr) → Some' (λ asked. assign_of asked lead d p e)
assign_some lead d None e = some_in (shapes.Assign lead (dest_of d) (class_of e)) (λ asked. value_layer asked d (out-Expr e)) (value_some d (out-Expr e))
assign_some lead d (Some o) e = some_in (shapes.Assign lead (dest_of d) class.Other) (λ asked. update_layer asked d o e (out-Expr e)) (update_some d o e (out-Expr e))

values_some : (to : List Lval) (p : Option BinOp) (e : Expr) → Some' (λ asked. value_shape asked to p e)
values_some [] p e = (none, refl)
values_some (d ∷ []) p e = assign_some None d p e
values_some (x ∷ d ∷ []) p e = assign_some (Some (dest_of x)) d p e
values_some (x ∷ d ∷ y ∷ ds) p e = (none, refl)

one_some : (i : Instance) (to : Option Lval) (args : List Expr) → Some' (λ asked. one_shape asked i to args)
one_some i (Some d) (a ∷ []) = (hardest d (Some a), refl)
one_some i _ _ = (none, refl)

two_some : (i : Instance) (to : Option Lval) (args : List Expr) → Some' (λ asked. two_shape asked i to args)
two_some i (Some d) (a ∷ o ∷ []) = (hardest d (Some a), refl)
two_some i _ _ = (none, refl)

three_some : (i : Instance) (to : Option Lval) (args : List Expr) → Some' (λ asked. three_shape asked i to args)
three_some i (Some d) (a ∷ o ∷ c ∷ []) = (hardest d (Some a), refl)
three_some i _ _ = (none, refl)

product_some : (i : Instance) (to : List Lval) (args : List Expr) → Some' (λ asked. product_shape asked i to args)
product_some i (of' ∷ cf ∷ sf ∷ pf ∷ zf ∷ h ∷ l ∷ []) (a ∷ b ∷ []) = (hardest l (Some a), refl)
product_some i _ _ = (none, refl)

division_some : (i : Instance) (to : List Lval) (args : List Expr) → Some' (λ asked. division_shape asked i to args)
division_some i (of' ∷ cf ∷ sf ∷ pf ∷ zf ∷ q ∷ r ∷ []) (hi ∷ lo ∷ b ∷ []) = (hardest q None, refl)
division_some i _ _ = (none, refl)

intrinsic_some : (n : Intrinsic) (i : Instance) (to : List Lval) (args : List Expr) → Some' (λ asked. intrinsic_shape asked n i to args)
intrinsic_some name.Neg i to args = one_some i (value_behind flags.Five to) args
intrinsic_some name.Inc i to args = one_some i (value_behind flags.Four to) args
intrinsic_some name.Dec i to args = one_some i (value_behind flags.Four to) args
intrinsic_some name.Not i to args = one_some i (value_behind flags.Zero to) args
intrinsic_some name.Bswap i to args = one_some i (value_behind flags.Zero to) args
intrinsic_some name.Lea i to args = (none, refl)
intrinsic_some name.Setcc i to args = (none, refl)
intrinsic_some name.Adc i to args = three_some i (value_behind flags.Five to) args
intrinsic_some name.Sbb i to args = three_some i (value_behind flags.Five to) args
intrinsic_some name.Cmp i to args = (none, refl)
intrinsic_some name.Test i to args = (none, refl)
intrinsic_some name.Mul i to args = product_some i to args
intrinsic_some name.Div i to args = division_some i to args
intrinsic_some name.Rol i to args = two_some i (value_behind flags.Two to) args
intrinsic_some name.Ror i to args = two_some i (value_behind flags.Two to) args
intrinsic_some _ i to args = two_some i (value_behind flags.Five to) args

spelled_some : (i : Option Instance) (to : List Lval) (args : List Expr) → Some' (λ asked. named_shape asked i to args)
spelled_some None to args = (none, refl)
spelled_some (Some i) to args = intrinsic_some i.name i to args

rhs_some : (to : List Lval) (p : Option BinOp) (r : Rhs) → Some' (λ asked. rhs_shape asked to p r)
rhs_some to p (rhs.Value e) = values_some to p e
rhs_some to None (rhs.Intrinsic n args at) = spelled_some (spelled n) to args
rhs_some to (Some p) (rhs.Intrinsic n args at) = (none, refl)
rhs_some to p (rhs.Call f args at) = (none, refl)

layer_some : (y : StmtKind-F StmtKind Stmt) → Some' (λ asked. kind_layer asked y)
layer_some (StmtKind-F.Assign to p from None) = rhs_some to p from
layer_some (StmtKind-F.Assign to p from (Some c)) = (none, refl)
layer_some (StmtKind-F.If c a b) = (none, refl)
layer_some (StmtKind-F.While p c b) = (none, refl)
layer_some (StmtKind-F.For i from down to b) = (none, refl)
layer_some (StmtKind-F.Mark vs) = (none, refl)

pub statement_some : (k : StmtKind) → Some' (λ asked. shape_of asked k)
statement_some k = layer_some (out-StmtKind k)

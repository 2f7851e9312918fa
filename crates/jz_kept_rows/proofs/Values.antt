-- The value of an assignment, with its operands, where each part keeps its class.
use Rattle.std.proofs.Common.{◌≡◌, inl, inr, Bool, true, false, ◌&&◌, Some, None, refl, sym, ap, ◌∙◌, subst, if◌then◌else◌}
use Rattle.std.proofs.lemmas.Bool.{false≢true, and_parts, and_from}
use Rattle.jz_tree.specs.Size.{Size}
use Rattle.jz_tree.specs.Operators.{carries, is_shift}
use Rattle.jz_tree.specs.declared.expr.BinOp.{BinOp}
use Rattle.jz_tree.specs.declared.expr.BinOp.TheVariants as op
use Rattle.jz_tree.specs.declared.expr.Expr.{Expr}
use Rattle.jz_tree.specs.declared.expr.Expr.TheOpen.{Expr-F}
use Rattle.jz_tree.specs.declared.expr.Expr.TheViews.{out-Expr}
use Rattle.jz_tree.specs.declared.stmt.Lval.{Lval}
use Rattle.jz_type_names.specs.Kinds.{is_inline}
use Rattle.jz_select.specs.declared.class.Class.{Class}
use Rattle.jz_select.specs.declared.class.Class.TheVariants as class
use Rattle.jz_select.specs.declared.class.Operand.{Operand}
use Rattle.jz_select.specs.declared.shape.Value.{Value}
use Rattle.jz_select.specs.declared.shape.Value.TheVariants as values
use Rattle.jz_select.specs.Look.{look_of, gives_number, bin_inline}
use Rattle.jz_select.specs.Operands.{inline_or, masked_class, class_of, dest_of}
use Rattle.jz_select.specs.Rows.{is_i, is_rmi, is_flag}
use Rattle.jz_select.specs.Shapes.{Asked, first_of, itself, beside, carry_layer, two_beside, value_layer, update_layer}
use Rattle.jz_judgement.specs.HasType.{Layer}
use Rattle.jz_unroll.proofs.InlineParts.{inline_layer, inline_out}
use Rattle.jz_standing.specs.Typing.{is_computed}
use Rattle.jz_kept_classes.specs.Classes.{KeepsClass}
use Rattle.jz_kept_classes.proofs.Formed.{formed}
use Rattle.jz_kept_classes.proofs.Kept.{flag_same, Becomes, b_number, b_truth, b_variable, b_cell, b_scalar, b_load, b_minus, b_denial, b_cast, b_two, Turned, all_kept}
use Rattle.jz_kept_classes.proofs.Inline.{inline_class_is}
use Rattle.jz_row_classes.specs.RowClasses.{NotBothInline}

-- ---- inline operands
or_inline : (b : Bool) → is_rmi (inline_or b class.Other) ≡ true → b ≡ true
or_inline true h = refl
or_inline false h = absurd (false≢true h)

pub inline_looks : (e : Expr) → is_inline e ≡ true → is_rmi (class_of e) ≡ true → (look_of e).inline ≡ true
inline_looks e q h = or_inline (look_of e).inline (sym (ap is_rmi (inline_class_is e q)) ∙ h)

pub inline_number : (e : Expr) → is_inline e ≡ true → is_rmi (class_of e) ≡ true → is_i (class_of e) ≡ true
inline_number e q h = ap is_i (inline_class_is e q) ∙ ap (λ b. is_i (inline_or b class.Other)) (inline_looks e q h)

no_test : (test : Class → Bool) → test class.Inline ≡ false → test class.Other ≡ false → (b : Bool) → test (inline_or b class.Other) ≡ false
no_test test n m true = n
no_test test n m false = m

pub inline_not : (test : Class → Bool) → test class.Inline ≡ false → test class.Other ≡ false → (e : Expr) → is_inline e ≡ true → test (class_of e) ≡ false
inline_not test n m e q = ap test (inline_class_is e q) ∙ no_test test n m (look_of e).inline

pub both_inline : (a b : Expr) → is_inline a ≡ true → is_inline b ≡ true → is_rmi (class_of a) ≡ true → is_rmi (class_of b) ≡ true → NotBothInline (class_of a) (class_of b) → ⊥
both_inline a b p q h g n = false≢true (sym n ∙ and_from (is_i (class_of a)) (is_i (class_of b)) (inline_number a p h) (inline_number b q g))

-- ---- operations that give integers
pub computed_gives : (o : BinOp) → is_computed o ≡ true → gives_number o ≡ true
computed_gives op.Add h = refl
computed_gives op.Sub h = refl
computed_gives op.Mul h = refl
computed_gives op.And h = refl
computed_gives op.Or h = refl
computed_gives op.Xor h = refl
computed_gives op.Div h = refl
computed_gives op.Rem h = refl
computed_gives op.DivS h = refl
computed_gives op.RemS h = refl
computed_gives o h = absurd (false≢true h)

pub shift_gives : (o : BinOp) → is_shift o ≡ true → gives_number o ≡ true
shift_gives op.Shl h = refl
shift_gives op.Shr h = refl
shift_gives op.Sar h = refl
shift_gives op.Rol h = refl
shift_gives op.Ror h = refl
shift_gives o h = absurd (false≢true h)

-- of two inline integers it is one
pub two_inline : (o : BinOp) (a b : Expr) → gives_number o ≡ true → (look_of a).inline ≡ true → (look_of b).inline ≡ true → is_rmi (inline_or (bin_inline o (look_of a) (look_of b)) (masked_class o a b)) ≡ true
two_inline o a b g h k =
    ap (λ i. is_rmi (inline_or i (masked_class o a b))) (and_from (gives_number o) ((look_of b).inline && (look_of a).inline) g (and_from (look_of b).inline (look_of a).inline k h))

-- ---- what holds of a value, by its parts
pub record IsClosed (P Q : Value → Type 0) : Type 0 where
  pub alone : P values.Alone → Q values.Alone
  pub one : (a b : Operand) → KeepsClass a.class b.class → P (values.One a) → Q (values.One b)
  pub two : (p : BinOp) (a b c d : Operand) → KeepsClass a.class c.class → KeepsClass b.class d.class → P (values.Two p a b) → Q (values.Two p c d)
  pub carry : (p : BinOp) (a b c d : Operand) → KeepsClass a.class c.class → KeepsClass b.class d.class → P (values.Carry p a b) → Q (values.Carry p c d)
  pub cast : (z : Size) (s : Bool) (c d : Class) → KeepsClass c d → P (values.Cast z s c) → Q (values.Cast z s d)
  -- of two inline operands it may be another one
  pub inner : (p : BinOp) (asked : Asked) (d : Lval) (a b : Expr) (f g : Operand) → f.class ≡ class_of a → g.class ≡ class_of b → is_inline a ≡ true → is_inline b ≡ true → P (values.Carry p f g) → (v : Value) → Q v
  pub whatever : P values.Alone → (v : Value) → Q v

module _ (T : Expr → Expr) (K : Turned T) where
  pub class_at : (e : Expr) → KeepsClass (class_of e) (class_of (T e))
  class_at e = (all_kept T K e (formed e)).kept

  module _ (P Q : Value → Type 0) (C : IsClosed P Q) (asked : Asked) (d l : Lval) where
    -- ---- sums that end with a flag
    by_carries : (o : BinOp) (c : Bool) (x y : Expr) → P (if c then values.Carry o (beside asked d (Some x) x) (beside asked d (Some x) y) else values.Alone)
        → Q (if c then values.Carry o (beside asked l (Some (T x)) (T x)) (beside asked l (Some (T x)) (T y)) else values.Alone)
    by_carries o true x y h = C.carry o (beside asked d (Some x) x) (beside asked d (Some x) y) (beside asked l (Some (T x)) (T x)) (beside asked l (Some (T x)) (T y)) (class_at x) (class_at y) h
    by_carries o false x y h = C.alone h

    carry_turned : {x y : Layer} → (o : BinOp) → Becomes T x y → P (carry_layer asked d o x) → Q (carry_layer asked l o y)
    carry_turned o b_number h = C.alone h
    carry_turned o b_truth h = C.alone h
    carry_turned o (b_variable k) h = C.alone h
    carry_turned o (b_cell k) h = C.alone h
    carry_turned o (b_scalar z e f i) h = C.alone h
    carry_turned o (b_load k) h = C.alone h
    carry_turned o b_minus h = C.alone h
    carry_turned o b_denial h = C.alone h
    carry_turned o b_cast h = C.alone h
    carry_turned o (b_two {o = p} {a = x} {b = y}) h = by_carries o (carries o p) x y h

    inline_carries : (o : BinOp) (c : Bool) (x y : Expr) → is_inline x ≡ true → is_inline y ≡ true → P (if c then values.Carry o (beside asked d (Some x) x) (beside asked d (Some x) y) else values.Alone) → (v : Value) → Q v
    inline_carries o true x y p q h v = C.inner o asked d x y (beside asked d (Some x) x) (beside asked d (Some x) y) refl refl p q h v
    inline_carries o false x y p q h v = C.whatever h v

    inline_carry : (o : BinOp) (x : Layer) → inline_layer x ≡ true → P (carry_layer asked d o x) → (v : Value) → Q v
    inline_carry o (Expr-F.Bin p x y at) i h v = let k = and_parts (is_inline x) (is_inline y) i in inline_carries o (carries o p) x y k.0 k.1 h v
    inline_carry o (Expr-F.Num n at) i h v = C.whatever h v
    inline_carry o (Expr-F.Expr::Bool b at) i h v = C.whatever h v
    inline_carry o (Expr-F.Var w) i h v = C.whatever h v
    inline_carry o (Expr-F.Cell w k) i h v = C.whatever h v
    inline_carry o (Expr-F.Load a) i h v = C.whatever h v
    inline_carry o (Expr-F.Neg a at) i h v = C.whatever h v
    inline_carry o (Expr-F.Not a at) i h v = C.whatever h v
    inline_carry o (Expr-F.Cast z s a at) i h v = C.whatever h v

    carry_kept : (o : BinOp) (a : Expr) → P (carry_layer asked d o (out-Expr a)) → Q (carry_layer asked l o (out-Expr (T a)))
    carry_kept o a h =
        elim (K a (formed a)) [
          | inl k ↦ inline_carry o (out-Expr a) (sym (inline_out a) ∙ k.inline) h (carry_layer asked l o (out-Expr (T a)))
          | inr t ↦ carry_turned o t h
        ]

    -- ---- operations on two
    by_flag : (o : BinOp) (a b : Expr) (f : Bool) → P (if f then carry_layer asked d o (out-Expr a) else two_beside asked d o a b) → Q (if f then carry_layer asked l o (out-Expr (T a)) else two_beside asked l o (T a) (T b))
    by_flag o a b true h = carry_kept o a h
    by_flag o a b false h =
        C.two o (beside asked d (first_of o a) a) (beside asked d (first_of o a) b) (beside asked l (first_of o (T a)) (T a)) (beside asked l (first_of o (T a)) (T b)) (class_at a) (class_at b) h

    two_turned : (o : BinOp) (a b : Expr) → P (if is_flag (class_of b) then carry_layer asked d o (out-Expr a) else two_beside asked d o a b)
        → Q (if is_flag (class_of (T b)) then carry_layer asked l o (out-Expr (T a)) else two_beside asked l o (T a) (T b))
    two_turned o a b h =
        subst (λ f. Q (if f then carry_layer asked l o (out-Expr (T a)) else two_beside asked l o (T a) (T b))) (sym (flag_same (class_of b) (class_of (T b)) (class_at b)))
        (by_flag o a b (is_flag (class_of b)) h)

    pub layer_turned : {x y : Layer} → Becomes T x y → P (value_layer asked d x) → Q (value_layer asked l y)
    layer_turned b_number h = C.alone h
    layer_turned b_truth h = C.alone h
    layer_turned (b_variable k) h = C.alone h
    layer_turned (b_cell k) h = C.alone h
    layer_turned (b_scalar z e f i) h = C.alone h
    layer_turned (b_load k) h = C.alone h
    layer_turned (b_minus {a = a}) h = C.one (beside asked d (Some a) a) (beside asked l (Some (T a)) (T a)) (class_at a) h
    layer_turned (b_denial {a = a}) h = C.one (beside asked d (Some a) a) (beside asked l (Some (T a)) (T a)) (class_at a) h
    layer_turned (b_cast {z = z} {s = s} {a = a}) h = C.cast z s (class_of a) (class_of (T a)) (class_at a) h
    layer_turned (b_two {o = o} {a = a} {b = b}) h = two_turned o a b h

    -- ---- `d op= e`
    two_updated : (f : KeepsClass (dest_of d) (dest_of l)) (o : BinOp) (e : Expr) → P (values.Two o (itself d) (beside asked d None e)) → Q (values.Two o (itself l) (beside asked l None (T e)))
    two_updated f o e h = C.two o (itself d) (beside asked d None e) (itself l) (beside asked l None (T e)) f (class_at e) h

    by_update : (f : KeepsClass (dest_of d) (dest_of l)) (o : BinOp) (e a : Expr) (c : Bool) → P (if c then values.Carry o (itself d) (beside asked d None a) else values.Two o (itself d) (beside asked d None e))
        → Q (if c then values.Carry o (itself l) (beside asked l None (T a)) else values.Two o (itself l) (beside asked l None (T e)))
    by_update f o e a true h = C.carry o (itself d) (beside asked d None a) (itself l) (beside asked l None (T a)) f (class_at a) h
    by_update f o e a false h = two_updated f o e h

    update_turned : {x y : Layer} → KeepsClass (dest_of d) (dest_of l) → (o : BinOp) (e : Expr) → Becomes T x y → P (update_layer asked d o e x) → Q (update_layer asked l o (T e) y)
    update_turned f o e b_number h = two_updated f o e h
    update_turned f o e b_truth h = two_updated f o e h
    update_turned f o e (b_variable k) h = two_updated f o e h
    update_turned f o e (b_cell k) h = two_updated f o e h
    update_turned f o e (b_scalar z p q i) h = two_updated f o e h
    update_turned f o e (b_load k) h = two_updated f o e h
    update_turned f o e b_minus h = two_updated f o e h
    update_turned f o e b_denial h = two_updated f o e h
    update_turned f o e b_cast h = two_updated f o e h
    update_turned f o e (b_two {o = p} {a = a} {b = b}) h =
        subst (λ f. Q (if carries o p && f then values.Carry o (itself l) (beside asked l None (T a)) else values.Two o (itself l) (beside asked l None (T e)))) (sym (flag_same (class_of b) (class_of (T b)) (class_at b)))
        (by_update f o e a (carries o p && is_flag (class_of b)) h)

    and_false : (a b : Bool) → b ≡ false → (a && b) ≡ false
    and_false true b e = e
    and_false false b e = refl

    -- an inline right side is one operand
    plain_layer : (o : BinOp) (to : Lval) (e : Expr) (x : Layer) → inline_layer x ≡ true → update_layer asked to o e x ≡ values.Two o (itself to) (beside asked to None e)
    plain_layer o to e (Expr-F.Bin p a b at) i =
        ap (λ f. if f then values.Carry o (itself to) (beside asked to None a) else values.Two o (itself to) (beside asked to None e))
        (and_false (carries o p) (is_flag (class_of b)) (inline_not is_flag refl refl b (and_parts (is_inline a) (is_inline b) i).1))
    plain_layer o to e (Expr-F.Num n at) i = refl
    plain_layer o to e (Expr-F.Expr::Bool b at) i = refl
    plain_layer o to e (Expr-F.Var w) i = refl
    plain_layer o to e (Expr-F.Cell w k) i = refl
    plain_layer o to e (Expr-F.Load a) i = refl
    plain_layer o to e (Expr-F.Neg a at) i = refl
    plain_layer o to e (Expr-F.Not a at) i = refl
    plain_layer o to e (Expr-F.Cast z s a at) i = refl

    plain_update : (o : BinOp) (to : Lval) (e : Expr) → is_inline e ≡ true → update_layer asked to o e (out-Expr e) ≡ values.Two o (itself to) (beside asked to None e)
    plain_update o to e q = plain_layer o to e (out-Expr e) (sym (inline_out e) ∙ q)

    pub update_kept : KeepsClass (dest_of d) (dest_of l) → (o : BinOp) (e : Expr) → P (update_layer asked d o e (out-Expr e)) → Q (update_layer asked l o (T e) (out-Expr (T e)))
    update_kept f o e h =
        elim (K e (formed e)) [
          | inl k ↦ subst Q (sym (plain_update o l (T e) k.stays)) (two_updated f o e (subst P (plain_update o d e k.inline) h))
          | inr t ↦ update_turned f o e t h
        ]

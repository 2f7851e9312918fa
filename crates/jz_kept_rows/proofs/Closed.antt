-- The operands of one value and of two results stay, where each keeps its class.
use Rattle.std.proofs.Common.{◌≡◌, ◌⊎◌, inl, inr, Bool, true, false, ◌&&◌, None, refl, sym, ap, ap₂, ◌∙◌, if◌then◌else◌}
use Rattle.std.specs.Option.{option_or}
use Rattle.std.proofs.lemmas.Bool.{false≢true, and_parts}
use Rattle.jz_tree.specs.Size.{Size}
use Rattle.jz_tree.specs.declared.expr.BinOp.{BinOp}
use Rattle.jz_tree.specs.declared.expr.Expr.{Expr}
use Rattle.jz_tree.specs.declared.expr.Expr.TheOpen.{Expr-F}
use Rattle.jz_tree.specs.declared.expr.Expr.TheViews.{out-Expr}
use Rattle.jz_tree.specs.declared.stmt.Lval.{Lval}
use Rattle.jz_type_names.specs.Kinds.{is_inline}
use Rattle.jz_select.specs.declared.class.Class.{Class}
use Rattle.jz_select.specs.declared.class.Class.TheVariants as class
use Rattle.jz_select.specs.declared.class.Operand.{Operand}
use Rattle.jz_select.specs.declared.shape.Value.{Value}
use Rattle.jz_select.specs.declared.shape.Value.TheVariants as values
use Rattle.jz_select.specs.Look.{look_of, bin_inline}
use Rattle.jz_select.specs.Operands.{inline_or, masked_class, class_layer, class_of}
use Rattle.jz_select.specs.Rows.{is_i, is_rm, is_rmi, is_flag, is_flag_result, is_pinned, is_long, class_size, masks}
use Rattle.jz_select.specs.Shapes.{Asked, carry_layer, two_beside, value_layer}
use Rattle.jz_judgement.specs.HasType.{Layer}
use Rattle.jz_unroll.proofs.InlineParts.{inline_layer, inline_out}
use Rattle.jz_kept_classes.specs.Classes.{KeepsClass}
use Rattle.jz_kept_classes.proofs.Kept.{test_kept, same_class}
use Rattle.jz_row_classes.specs.RowClasses.{IsCountClass, IsSecond, NotBothInline, AreOperands, IsSumRow, IsProductRow, PairFits}
use Rattle.jz_row_laws.proofs.Copied.{i_class}
use Rattle.jz_kept_rows.proofs.Values.{inline_looks, inline_not, both_inline, computed_gives, shift_gives, two_inline, IsClosed}

rmi_kept : (c d : Class) → KeepsClass c d → is_rmi c ≡ true → is_rmi d ≡ true
rmi_kept c d k h = test_kept is_rmi refl c d k h

-- ---- one value
pub count_kept : (c d : Class) → KeepsClass c d → IsCountClass c → IsCountClass d
count_kept c d k (inl h) = inl (test_kept is_i refl c d k h)
count_kept c d k (inr (l, h)) = inr (l, test_kept (masks l) refl c d k h)

second_kept : (p : BinOp) (c d : Class) → KeepsClass c d → IsSecond p c → IsSecond p d
second_kept p c d k (inl (o, h)) = inl (o, rmi_kept c d k h)
second_kept p c d k (inr (o, h)) = inr (o, count_kept c d k h)

apart_kept : (a b c d : Class) → KeepsClass a c → KeepsClass b d → is_rmi a ≡ true → is_rmi b ≡ true → NotBothInline a b → NotBothInline c d
apart_kept a b c d k l h g n = ap₂ (λ x y. is_i x && is_i y) (same_class is_rmi refl a c k h) (same_class is_rmi refl b d l g) ∙ n

pub any_operands : (w : Class) (v : Value) → is_rmi w ≡ true → AreOperands w v
any_operands w values.Alone h = h
any_operands w (values.One a) h = inl h
any_operands w (values.Two p a o) h = inl h
any_operands w (values.Carry p a o) h = inl h
any_operands w (values.Cast z s c) h = inl h

-- of two inline operands
inline_pair : (a b : Expr) (f g : Operand) → f.class ≡ class_of a → g.class ≡ class_of b → is_inline a ≡ true → is_inline b ≡ true → is_rmi f.class ≡ true → is_rmi g.class ≡ true → NotBothInline f.class g.class → ⊥
inline_pair a b f g p q i j h k n =
    both_inline a b i j (sym (ap is_rmi p) ∙ h) (sym (ap is_rmi q) ∙ k) (sym (ap₂ (λ x y. is_i x && is_i y) p q) ∙ n)

module _ (w u : Class) (k : KeepsClass w u) where
  self : is_rmi w ≡ true → is_rmi u ≡ true
  self h = rmi_kept w u k h

  one_operand : (a b : Operand) → KeepsClass a.class b.class → AreOperands w (values.One a) → AreOperands u (values.One b)
  one_operand a b l (inl h) = inl (self h)
  one_operand a b l (inr h) = inr (rmi_kept a.class b.class l h)

  two_operands : (p : BinOp) (a b c d : Operand) → KeepsClass a.class c.class → KeepsClass b.class d.class → AreOperands w (values.Two p a b) → AreOperands u (values.Two p c d)
  two_operands p a b c d x y (inl h) = inl (self h)
  two_operands p a b c d x y (inr (h, s)) = inr (rmi_kept a.class c.class x h, second_kept p b.class d.class y s)

  carry_operands : (p : BinOp) (a b c d : Operand) → KeepsClass a.class c.class → KeepsClass b.class d.class → AreOperands w (values.Carry p a b) → AreOperands u (values.Carry p c d)
  carry_operands p a b c d x y (inl h) = inl (self h)
  carry_operands p a b c d x y (inr (h, g, n)) = inr (rmi_kept a.class c.class x h, rmi_kept b.class d.class y g, apart_kept a.class b.class c.class d.class x y h g n)

  cast_operand : (z : Size) (s : Bool) (c d : Class) → KeepsClass c d → AreOperands w (values.Cast z s c) → AreOperands u (values.Cast z s d)
  cast_operand z s c d x (inl h) = inl (self h)
  cast_operand z s c d x (inr h) = inr (test_kept is_rm refl c d x h)

  inner_operands : (p : BinOp) (asked : Asked) (d : Lval) (a b : Expr) (f g : Operand) → f.class ≡ class_of a → g.class ≡ class_of b → is_inline a ≡ true → is_inline b ≡ true → AreOperands w (values.Carry p f g) → (v : Value) → AreOperands u v
  inner_operands p asked d a b f g e q i j (inl h) v = any_operands u v (self h)
  inner_operands p asked d a b f g e q i j (inr (h, l, n)) v = absurd (inline_pair a b f g e q i j h l n)

  pub operands_closed : IsClosed (AreOperands w) (AreOperands u)
  operands_closed = record {
    alone = self;
    one = one_operand;
    two = two_operands;
    carry = carry_operands;
    cast = cast_operand;
    inner = inner_operands;
    whatever = λ h v. any_operands u v (self h);
  }

-- ---- an inline value is an operand itself
module _ (asked : Asked) (d : Lval) where
  signed_row : (a : Expr) → is_inline a ≡ true → (is_rmi (inline_or (look_of a).inline class.Other) ≡ true) ⊎ (is_rmi (class_of a) ≡ true) → is_rmi (inline_or (look_of a).inline class.Other) ≡ true
  signed_row a q (inl h) = h
  signed_row a q (inr h) = ap (λ i. is_rmi (inline_or i class.Other)) (inline_looks a q h)

  masked_not : (l : Bool) (e : Expr) → is_inline e ≡ true → masks l (class_of e) ≡ true → ⊥
  masked_not l e q h = false≢true (sym (inline_not (masks l) refl refl e q) ∙ h)

  two_row : (o : BinOp) (a b : Expr) (at : Class) → is_inline a ≡ true → is_inline b ≡ true → at ≡ inline_or (bin_inline o (look_of a) (look_of b)) (masked_class o a b) → AreOperands at (two_beside asked d o a b) → is_rmi at ≡ true
  two_row o a b at p q e (inl h) = h
  two_row o a b at p q e (inr (h, inl (c, g))) = ap is_rmi e ∙ two_inline o a b (computed_gives o c) (inline_looks a p h) (inline_looks b q g)
  two_row o a b at p q e (inr (h, inr (s, inl g))) = ap is_rmi e ∙ two_inline o a b (shift_gives o s) (inline_looks a p h) (inline_looks b q (i_class (class_of b) g))
  two_row o a b at p q e (inr (h, inr (s, inr (l, g)))) = absurd (masked_not l b q g)

  flag_row : (o : BinOp) (a b : Expr) (at : Class) (f : Bool) → f ≡ false → is_inline a ≡ true → is_inline b ≡ true → at ≡ inline_or (bin_inline o (look_of a) (look_of b)) (masked_class o a b)
      → AreOperands at (if f then carry_layer asked d o (out-Expr a) else two_beside asked d o a b) → is_rmi at ≡ true
  flag_row o a b at true n p q e h = absurd (false≢true (sym n))
  flag_row o a b at false n p q e h = two_row o a b at p q e h

  layer_row : (x : Layer) → inline_layer x ≡ true → AreOperands (class_layer x) (value_layer asked d x) → is_rmi (class_layer x) ≡ true
  layer_row (Expr-F.Num n at) q h = h
  layer_row (Expr-F.Expr::Bool b at) q h = h
  layer_row (Expr-F.Var v) q h = h
  layer_row (Expr-F.Cell v i) q h = h
  layer_row (Expr-F.Load a) q h = h
  layer_row (Expr-F.Neg a at) q h = signed_row a q h
  layer_row (Expr-F.Not a at) q h = signed_row a q h
  layer_row (Expr-F.Cast z s a at) q h = absurd (false≢true q)
  layer_row (Expr-F.Bin o a b at) q h =
      let k = and_parts (is_inline a) (is_inline b) q in
      flag_row o a b (class_layer (Expr-F.Bin o a b at)) (is_flag (class_of b)) (inline_not is_flag refl refl b k.1) k.0 k.1 refl h

  pub inline_row : (e : Expr) → is_inline e ≡ true → AreOperands (class_of e) (value_layer asked d (out-Expr e)) → is_rmi (class_of e) ≡ true
  inline_row e q h = layer_row (out-Expr e) (sym (inline_out e) ∙ q) h

-- ---- two results
abbrev sized_by : Class → Class → Class → Class → Bool
sized_by h l a b = is_long (option_or None (option_or (class_size h) (option_or (class_size l) (option_or (class_size a) (class_size b)))))

module _ (x y d c : Class) (k : KeepsClass x y) (l : KeepsClass d c) where
  sum_row : (a b e f : Operand) → KeepsClass a.class e.class → KeepsClass b.class f.class → IsSumRow x d a b → IsSumRow y c e f
  sum_row a b e f p q r = record {
    lead = test_kept is_flag_result refl x y k r.lead;
    to = test_kept is_rm refl d c l r.to;
    first = rmi_kept a.class e.class p r.first;
    second = rmi_kept b.class f.class q r.second;
    apart = apart_kept a.class b.class e.class f.class p q r.first r.second r.apart;
  }

  long_kept : (a b e f : Class) → y ≡ x → c ≡ d → e ≡ a → f ≡ b → sized_by x d a b ≡ true → sized_by y c e f ≡ true
  long_kept a b e f p q r s h = ap₂ (λ u v. sized_by u v e f) p q ∙ (ap₂ (λ u v. sized_by x d u v) r s ∙ h)

  product_row : (p : BinOp) (a b e f : Operand) → KeepsClass a.class e.class → KeepsClass b.class f.class → IsProductRow x d p a b → IsProductRow y c p e f
  product_row p a b e f s t r = record {
    multiplying = r.multiplying;
    high = test_kept is_pinned refl x y k r.high;
    low = test_kept is_pinned refl d c l r.low;
    long = long_kept a.class b.class e.class f.class (same_class is_pinned refl x y k r.high) (same_class is_pinned refl d c l r.low) (same_class is_rmi refl a.class e.class s r.first) (same_class is_rmi refl b.class f.class t r.second) r.long;
    first = rmi_kept a.class e.class s r.first;
    second = rmi_kept b.class f.class t r.second;
    read = test_kept is_rm refl b.class f.class t r.read;
  }

  two_results : (p : BinOp) (a b e f : Operand) → KeepsClass a.class e.class → KeepsClass b.class f.class → PairFits x d (values.Two p a b) → PairFits y c (values.Two p e f)
  two_results p a b e f s t (inl (o, r)) = inl (o, sum_row a b e f s t r)
  two_results p a b e f s t (inr r) = inr (product_row p a b e f s t r)

  pub pairs_closed : IsClosed (PairFits x d) (PairFits y c)
  pairs_closed = record {
    alone = λ h. h;
    one = λ a b s h. h;
    two = two_results;
    carry = λ p a b e f s t r. sum_row a b e f s t r;
    cast = λ z s a b t h. h;
    inner = λ p asked to a b f g e q i j r v. absurd (inline_pair a b f g e q i j r.first r.second r.apart);
    whatever = λ h v. absurd h;
  }

-- no two results of an inline value
module _ (asked : Asked) (x d : Class) (to : Lval) where
  two_pair : (o : BinOp) (a b : Expr) → is_inline a ≡ true → is_inline b ≡ true → PairFits x d (two_beside asked to o a b) → ⊥
  two_pair o a b p q (inl (g, r)) = both_inline a b p q r.first r.second r.apart
  two_pair o a b p q (inr r) = false≢true (sym (inline_not is_rm refl refl b q) ∙ r.read)

  flag_pair : (o : BinOp) (a b : Expr) (f : Bool) → f ≡ false → is_inline a ≡ true → is_inline b ≡ true → PairFits x d (if f then carry_layer asked to o (out-Expr a) else two_beside asked to o a b) → ⊥
  flag_pair o a b true n p q h = false≢true (sym n)
  flag_pair o a b false n p q h = two_pair o a b p q h

  layer_pair : (l : Layer) → inline_layer l ≡ true → PairFits x d (value_layer asked to l) → ⊥
  layer_pair (Expr-F.Num n at) q h = h
  layer_pair (Expr-F.Expr::Bool b at) q h = h
  layer_pair (Expr-F.Var v) q h = h
  layer_pair (Expr-F.Cell v i) q h = h
  layer_pair (Expr-F.Load a) q h = h
  layer_pair (Expr-F.Neg a at) q h = h
  layer_pair (Expr-F.Not a at) q h = h
  layer_pair (Expr-F.Cast z s a at) q h = h
  layer_pair (Expr-F.Bin o a b at) q h =
      let k = and_parts (is_inline a) (is_inline b) q in
      flag_pair o a b (is_flag (class_of b)) (inline_not is_flag refl refl b k.1) k.0 k.1 h

  pub inline_no_pair : (e : Expr) → is_inline e ≡ true → PairFits x d (value_layer asked to (out-Expr e)) → ⊥
  inline_no_pair e q h = layer_pair (out-Expr e) (sym (inline_out e) ∙ q) h

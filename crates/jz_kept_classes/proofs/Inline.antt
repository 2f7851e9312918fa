-- An inline expression is no register, no memory and no flag, and its value has its class.
use Rattle.std.proofs.Common.{◌≡◌, inl, inr, ℤ, Option, Some, None, Bool, true, false, refl, sym, ap, ◌∙◌, subst}
use Rattle.std.proofs.lemmas.Bool.{false≢true, and_parts}
use Rattle.jz_tree.specs.Span.{Span}
use Rattle.jz_tree.specs.declared.expr.Storage.{Storage}
use Rattle.jz_tree.specs.declared.expr.Storage.TheVariants as storage
use Rattle.jz_tree.specs.declared.expr.BinOp.{BinOp}
use Rattle.jz_tree.specs.declared.expr.BinOp.TheVariants as op
use Rattle.jz_tree.specs.declared.expr.Expr.{Expr}
use Rattle.jz_tree.specs.declared.expr.Expr.TheVariants as expr
use Rattle.jz_tree.specs.declared.expr.Expr.TheOpen.{Expr-F}
use Rattle.jz_tree.specs.declared.expr.Expr.TheViews.{out-Expr, roll-Expr, out-roll-Expr}
use Rattle.jz_integers.specs.Integers.{KnownNumbers, inline_value, plain_value, written_number}
use Rattle.jz_integers.specs.declared.constant.Constant.{Constant}
use Rattle.jz_integers.specs.declared.constant.Constant.TheVariants as constant
use Rattle.jz_type_names.specs.declared.kinds.Kind.{Kind}
use Rattle.jz_type_names.specs.declared.kinds.Kind.TheVariants as kind
use Rattle.jz_type_names.specs.Kinds.{Known, known_of, inline_int, is_inline_int, is_inline}
use Rattle.jz_type_names.specs.Parts.{span_of}
use Rattle.jz_select.specs.declared.class.Class.{Class}
use Rattle.jz_select.specs.declared.class.Class.TheVariants as class
use Rattle.jz_select.specs.Look.{Look, look_of, is_inline_var, bin_inline}
use Rattle.jz_select.specs.Operands.{class_at, var_class, class_if, inline_or, mask_of, is_byte, register_layer, masked_class, class_layer, class_of}
use Rattle.jz_select.specs.Rows.{is_rm, is_flag}
use Rattle.jz_select.specs.Shapes.{has_flags}
use Rattle.jz_judgement.specs.HasType.{Layer}
use Rattle.jz_run_laws.specs.Counted as counted
use Rattle.jz_row_laws.proofs.Fixed.{look_layer, look_is, var_known}
use Rattle.jz_unroll.specs.Values.{constant_expr}
use Rattle.jz_unroll.specs.Unrolling.{KnowsLess}
use Rattle.jz_unroll.proofs.InlineParts.{inline_layer, inline_out}
use Rattle.jz_one_unrolling.proofs.Knowing.{value_grows}
use Rattle.jz_kept_classes.specs.Classes.{KeepsClass, the_same}
use Rattle.jz_kept_classes.proofs.Formed.{Formed, FormedLayer}
use Rattle.jz_kept_classes.proofs.Layers.{look_out, flags_layer, flags_out, value_layer, value_out}
use Rattle.jz_kept_classes.proofs.Building.{IsBuilt, alike, otherwise, Inlined}
use Rattle.jz_kept_classes.proofs.InlineValues.{inline_looked, number_not_truth, condition_no_number}
use Rattle.jz_kept_classes.proofs.Kept.{inline_class, none_known, Kept, same_kept}

-- ---- variables
kind_class : (s : Storage) (k : Kind) → inline_int s k ≡ true → class_at s k ≡ inline_or (inline_int s k) class.Other
kind_class storage.Inline kind.Int h = refl
kind_class storage.Inline kind.Truth h = absurd (false≢true h)
kind_class storage.Inline (kind.Word z) h = absurd (false≢true h)
kind_class storage.Inline (kind.Array z) h = absurd (false≢true h)
kind_class storage.Reg k h = absurd (false≢true h)
kind_class storage.Stack k h = absurd (false≢true h)

known_class : (k : Known) → is_inline_int k ≡ true → var_class k ≡ inline_or (is_inline_var k) class.Other
known_class None h = refl
known_class (Some d) h = kind_class d.storage d.kind h

-- no test that neither an inline integer nor what has no class meets
or_test : (test : Class → Bool) → test class.Inline ≡ false → test class.Other ≡ false → (i : Bool) → test (inline_or i class.Other) ≡ false
or_test test n m true = n
or_test test n m false = m

var_test : (test : Class → Bool) → test class.Inline ≡ false → test class.Other ≡ false → (k : Known) → is_inline_int k ≡ true → test (var_class k) ≡ true → ⊥
var_test test n m k h t = false≢true (sym (or_test test n m (is_inline_var k)) ∙ (sym (ap test (known_class k h)) ∙ t))

-- ---- expressions
byte_layer : (x : Layer) → inline_layer x ≡ true → is_byte (register_layer x) ≡ true → ⊥
byte_layer (Expr-F.Var v) h t = var_test is_byte refl refl (known_of v) h t
byte_layer (Expr-F.Cell v i) h t = false≢true h
byte_layer (Expr-F.Num n at) h t = false≢true t
byte_layer (Expr-F.Expr::Bool b at) h t = false≢true t
byte_layer (Expr-F.Load a) h t = false≢true t
byte_layer (Expr-F.Neg a at) h t = false≢true t
byte_layer (Expr-F.Not a at) h t = false≢true t
byte_layer (Expr-F.Cast z s a at) h t = false≢true t
byte_layer (Expr-F.Bin o a b at) h t = false≢true t

inline_no_byte : (e : Expr) → is_inline e ≡ true → is_byte (register_layer (out-Expr e)) ≡ true → ⊥
inline_no_byte e h t = byte_layer (out-Expr e) (sym (inline_out e) ∙ h) t

not_true : (b : Bool) → (b ≡ true → ⊥) → b ≡ false
not_true true n = absurd (n refl)
not_true false n = refl

masked_none : (o : BinOp) (a b : Expr) → is_inline a ≡ true → masked_class o a b ≡ class.Other
masked_none op.And a b h =
    ap (λ k. class_if k (mask_of (written_number b))) (not_true (is_byte (register_layer (out-Expr a))) (inline_no_byte a h))
masked_none o a b h = refl

layer_class : (x : Layer) → inline_layer x ≡ true → class_layer x ≡ inline_or (look_layer x).inline class.Other
layer_class (Expr-F.Num n at) h = refl
layer_class (Expr-F.Expr::Bool b at) h = refl
layer_class (Expr-F.Var v) h = known_class (known_of v) h ∙ ap (λ k. inline_or (is_inline_var k) class.Other) (sym (var_known v))
layer_class (Expr-F.Cell v i) h = absurd (false≢true h)
layer_class (Expr-F.Load a) h = absurd (false≢true h)
layer_class (Expr-F.Neg a at) h = refl
layer_class (Expr-F.Not a at) h = refl
layer_class (Expr-F.Cast z s a at) h = absurd (false≢true h)
layer_class (Expr-F.Bin o a b at) h =
    ap (λ c. inline_or (bin_inline o (look_of a) (look_of b)) c) (masked_none o a b (and_parts (is_inline a) (is_inline b) h).0)

pub inline_class_is : (e : Expr) → is_inline e ≡ true → class_of e ≡ inline_or (look_of e).inline class.Other
inline_class_is e h =
    layer_class (out-Expr e) (sym (inline_out e) ∙ h) ∙ ap (λ (l : Look). inline_or l.inline class.Other) (sym (look_out e))

inline_no_rm : (e : Expr) → is_inline e ≡ true → is_rm (class_of e) ≡ true → ⊥
inline_no_rm e h t = false≢true (sym (or_test is_rm refl refl (look_of e).inline) ∙ (sym (ap is_rm (inline_class_is e h)) ∙ t))

mutual
  pub inline_no_flags : (e : Expr) → Formed e → is_inline e ≡ true → has_flags e ≡ true → ⊥
  inline_no_flags e (counted.expression f) h t = layer_no_flags f (sym (inline_out e) ∙ h) (sym (flags_out e) ∙ t)

  layer_no_flags : {x : Layer} → FormedLayer x → inline_layer x ≡ true → flags_layer x ≡ true → ⊥
  layer_no_flags counted.number h t = false≢true t
  layer_no_flags counted.bool h t = false≢true t
  layer_no_flags (counted.variable {v = v} p) h t = var_test is_flag refl refl (known_of v) h t
  layer_no_flags (counted.cell p i) h t = false≢true t
  layer_no_flags (counted.load a) h t = false≢true t
  layer_no_flags (counted.negated f) h t = false≢true t
  layer_no_flags (counted.inverted {a = a} f) h t = inline_no_flags a f h t
  layer_no_flags (counted.cast f) h t = false≢true t
  layer_no_flags (counted.operation {o = o} {a = a} {b = b} f g) h t =
      inline_no_rm a (and_parts (is_inline a) (is_inline b) h).0 (and_parts (is_rm (class_of a)) _ (and_parts _ _ t).1).0

-- ---- values
none_less : (k : KnownNumbers) → KnowsLess none_known k
none_less k n c i h = absurd cc

plain_rolled : (x : Layer) → plain_value (roll-Expr x) ≡ value_layer none_known x
plain_rolled x = value_out none_known (roll-Expr x) ∙ ap (value_layer none_known) (out-roll-Expr x)

module _ (k : KnownNumbers) (e : Expr) (f : Formed e) (q : is_inline e ≡ true) where
  -- what is known without numbers is known with some
  known_more : (c d : Constant) → inline_value k e ≡ Some d → plain_value e ≡ Some c → Some d ≡ Some c
  known_more c d v h = sym v ∙ value_grows none_known k (none_less k) e c h

  number_built : (i : ℤ) (at : Span) → Inlined (look_of e) → IsBuilt (look_of e) (look_layer (Expr-F.Num i at))
  number_built i at (inl n) = alike (sym n.inline) (sym n.reg) (sym n.scaled) (sym n.sum)
  number_built i at (inr n) = otherwise n

  number_is : (i : ℤ) (at : Span) → inline_value k e ≡ Some (constant.Int i) → Kept e (roll-Expr (Expr-F.Num i at))
  number_is i at v =
      let l = Expr-F.Num i at in
      record {
        built = subst (IsBuilt (look_of e)) (sym (look_is l)) (number_built i at (inline_looked e f q));
        condition = λ h. absurd (condition_no_number k e f h (i, v));
        values = λ c h. plain_rolled l ∙ known_more c (constant.Int i) v h;
        byte = λ h. absurd (inline_no_byte e q h);
        kept = subst (λ (c : Class). KeepsClass c (class_of (roll-Expr l))) (sym (inline_class_is e q))
            (subst (λ (c : Class). KeepsClass (inline_or (look_of e).inline class.Other) c) (sym (ap class_layer (out-roll-Expr l)))
            (inline_class (look_of e).inline true class.Other (λ h. refl) (refl, refl)));
        flags = λ h. absurd (inline_no_flags e f q h);
      }

  truth_built : (b : Bool) (at : Span) → inline_value k e ≡ Some (constant.Bool b) → Inlined (look_of e) → IsBuilt (look_of e) (look_layer (Expr-F.Expr::Bool b at))
  truth_built b at v (inl n) = absurd (number_not_truth k e f n.inline (b, v))
  truth_built b at v (inr n) = otherwise n

  truth_is : (b : Bool) (at : Span) → inline_value k e ≡ Some (constant.Bool b) → Kept e (roll-Expr (Expr-F.Expr::Bool b at))
  truth_is b at v =
      let l = Expr-F.Expr::Bool b at in
      let i : (look_of e).inline ≡ false = not_true (look_of e).inline (λ h. number_not_truth k e f h (b, v)) in
      record {
        built = subst (IsBuilt (look_of e)) (sym (look_is l)) (truth_built b at v (inline_looked e f q));
        condition = λ h. ap (λ (x : Look). x.condition) (look_is l);
        values = λ c h. plain_rolled l ∙ known_more c (constant.Bool b) v h;
        byte = λ h. absurd (inline_no_byte e q h);
        kept = subst (λ (c : Class). KeepsClass c (class_of (roll-Expr l))) (sym (inline_class_is e q ∙ ap (λ x. inline_or x class.Other) i))
            (subst (λ (c : Class). KeepsClass class.Other c) (sym (ap class_layer (out-roll-Expr l))) the_same);
        flags = λ h. absurd (inline_no_flags e f q h);
      }

  pub value_kept : (c : Option Constant) → inline_value k e ≡ c → Kept e (constant_expr (span_of e) e c)
  value_kept None v = same_kept e
  value_kept (Some (constant.Int i)) v = subst (Kept e) (expr.rolls-Num i (span_of e)) (number_is i (span_of e) v)
  value_kept (Some (constant.Bool b)) v = subst (Kept e) (expr.rolls-Bool b (span_of e)) (truth_is b (span_of e) v)

-- The value of an assignment with its operands, where each keeps its class and how it meets the
-- destination.
use Rattle.std.proofs.Common.{◌≡◌, inl, inr, Bool, true, false, ◌&&◌, Option, Some, None, refl, sym, ap, ap₂, ◌∙◌, subst, if◌then◌else◌}
use Rattle.std.specs.Prelude.{◌⊎◌}
use Rattle.std.proofs.lemmas.Bool.{false≢true, and_parts, and_from}
use Rattle.jz_tree.specs.Size.{Size}
use Rattle.jz_tree.specs.Operators.{carries}
use Rattle.jz_tree.specs.declared.expr.BinOp.{BinOp}
use Rattle.jz_tree.specs.declared.expr.Expr.{Expr}
use Rattle.jz_tree.specs.declared.expr.Expr.TheOpen.{Expr-F}
use Rattle.jz_tree.specs.declared.expr.Expr.TheViews.{out-Expr, out-Access}
use Rattle.jz_tree.specs.declared.stmt.Lval.{Lval}
use Rattle.jz_tree.specs.declared.stmt.Lval.TheVariants as lval
use Rattle.jz_type_names.specs.Kinds.{is_inline}
use Rattle.jz_select.specs.declared.class.Class.{Class}
use Rattle.jz_select.specs.declared.class.Class.TheVariants as class
use Rattle.jz_select.specs.declared.class.Operand.{Operand}
use Rattle.jz_select.specs.declared.shape.Value.{Value}
use Rattle.jz_select.specs.declared.shape.Value.TheVariants as values
use Rattle.jz_select.specs.Trees.{tree_of}
use Rattle.jz_select.specs.Places.{Answers}
use Rattle.jz_select.specs.Sums.{is_address}
use Rattle.jz_select.specs.Look.{terms_of}
use Rattle.jz_select.specs.Operands.{class_if, class_of, dest_of, operand_of}
use Rattle.jz_select.specs.Rows.{is_i, is_r, is_rmi, is_flag, is_pinned, is_same_place, is_apart_from, is_same, is_apart, are_inline}
use Rattle.jz_select.specs.Shapes.{Asked, whichever, itself, beside, carry_layer, two_beside, value_layer, update_layer}
use Rattle.jz_judgement.specs.HasType.{Layer}
use Rattle.jz_unroll.proofs.InlineParts.{inline_layer, inline_out}
use Rattle.jz_kept_classes.specs.Classes.{KeepsClass}
use Rattle.jz_kept_classes.proofs.Kept.{flag_same, KeptWhole, Becomes, b_number, b_truth, b_variable, b_cell, b_scalar, b_load, b_minus, b_denial, b_cast, b_two}
use Rattle.jz_kept_rows.proofs.Values.{inline_number, inline_not}
use Rattle.jz_meetings.specs.Meetings.{place_of, meets}
use Rattle.jz_meetings.specs.Turns.{Turn, turned, turned_place}
use Rattle.jz_meetings.specs.KeptMeetings.{pulled, IsNamed, KeepsMeeting}
use Rattle.jz_meetings.proofs.OfTrees.{meeting_is}

-- ---- one operand
-- r: the destination is a register
pub record KeptOperand (r : Bool) (a c : Operand) : Type 0 where
  pub kept : KeepsClass a.class c.class
  pub same : is_same a ≡ true → is_same c ≡ true
  pub apart : r ≡ true → is_apart a ≡ true → is_apart c ≡ true

no_register : (b : Bool) (c : Class) → is_r c ≡ false → is_r (class_if b c) ≡ true → ⊥
no_register true c n e = false≢true (sym n ∙ e)
no_register false c n e = false≢true e

-- a register is a variable or a cell
named : (d : Lval) → is_r (dest_of d) ≡ true → IsNamed (place_of d)
named (lval.Skip at) e = absurd (false≢true e)
named (lval.Var v) e = tt
named (lval.Cell v i) e = tt
named (lval.Store a) e = absurd (no_register (is_address (terms_of (out-Access a).at)) (class.Mem (out-Access a).size) refl e)

pub operand_by : (t : Turn) (answers : Answers) (d l : Lval) (e b : Expr) → KeepsClass (class_of e) (class_of b) → place_of l ≡ turned_place t (place_of d) → tree_of b ≡ turned t (tree_of e)
    → KeepsMeeting (place_of d) (meets (pulled t answers) (place_of d) (tree_of e)) (meets answers (turned_place t (place_of d)) (turned t (tree_of e)))
    → KeptOperand (is_r (dest_of d)) (operand_of (pulled t answers) d e) (operand_of answers l b)
operand_by t answers d l e b c p q k =
    let before = meeting_is (pulled t answers) d e in
    let behind = meeting_is answers l b ∙ ap₂ (λ x y. meets answers x y) p q in
    record {
      kept = c;
      same = λ h. ap is_same_place behind ∙ k.same (sym (ap is_same_place before) ∙ h);
      apart = λ r h. ap is_apart_from behind ∙ k.apart (named d r) (sym (ap is_apart_from before) ∙ h);
    }

-- ---- what a result that is pinned does not stand in
pub record KeptBeside (d : Lval) (a c : Operand) : Type 0 where
  pub operand : KeptOperand (is_r (dest_of d)) a c
  pub apart : is_pinned (dest_of d) ≡ true → is_apart a ≡ true → is_apart c ≡ true

no_pinned : (b : Bool) (z : Option Size) → is_pinned (class_if b (class.Mem z)) ≡ true → ⊥
no_pinned true z e = false≢true e
no_pinned false z e = false≢true e

module _ (t : Turn) (answers : Answers) (l : Lval) (e b : Expr) where
  abbrev MeetsSo : Lval → Type 0
  MeetsSo d = KeepsMeeting (place_of d) (meets (pulled t answers) (place_of d) (tree_of e)) (meets answers (turned_place t (place_of d)) (turned t (tree_of e)))

  named_apart : (d : Lval) → IsNamed (place_of d) → place_of l ≡ turned_place t (place_of d) → tree_of b ≡ turned t (tree_of e) → MeetsSo d
      → is_apart (operand_of (pulled t answers) d e) ≡ true → is_apart (operand_of answers l b) ≡ true
  named_apart d n p q k h =
      ap is_apart_from (meeting_is answers l b ∙ ap₂ (λ x y. meets answers x y) p q) ∙ k.apart n (sym (ap is_apart_from (meeting_is (pulled t answers) d e)) ∙ h)

  pinned_apart : (d : Lval) → place_of l ≡ turned_place t (place_of d) → tree_of b ≡ turned t (tree_of e) → MeetsSo d
      → is_pinned (dest_of d) ≡ true → is_apart (operand_of (pulled t answers) d e) ≡ true → is_apart (operand_of answers l b) ≡ true
  pinned_apart (lval.Skip at) p q k n h = ap is_apart_from (meeting_is answers l b ∙ ap₂ (λ x y. meets answers x y) p q)
  pinned_apart (lval.Var v) p q k n h = named_apart (lval.Var v) tt p q k h
  pinned_apart (lval.Cell v i) p q k n h = named_apart (lval.Cell v i) tt p q k h
  pinned_apart (lval.Store a) p q k n h = absurd (no_pinned (is_address (terms_of (out-Access a).at)) (out-Access a).size n)

  pub beside_by : (d : Lval) → KeepsClass (class_of e) (class_of b) → place_of l ≡ turned_place t (place_of d) → tree_of b ≡ turned t (tree_of e) → MeetsSo d → KeptBeside d (operand_of (pulled t answers) d e) (operand_of answers l b)
  beside_by d c p q k = record { operand = operand_by t answers d l e b c p q k; apart = pinned_apart d p q k }

pub itself_kept : (d l : Lval) → KeepsClass (dest_of d) (dest_of l) → KeptOperand (is_r (dest_of d)) (itself d) (itself l)
itself_kept d l f = record { kept = f; same = λ h. refl; apart = λ r h. absurd (false≢true h) }

-- ---- values
pub data ValueMeets (r : Bool) : Value → Value → Type 0 where
  m_alone : (v : Value) → ValueMeets r values.Alone v
  m_one : (a c : Operand) → KeptOperand r a c → ValueMeets r (values.One a) (values.One c)
  m_two : (p : BinOp) (a o c e : Operand) → KeptOperand r a c → KeptOperand r o e → ValueMeets r (values.Two p a o) (values.Two p c e)
  m_carry : (p : BinOp) (a o c e : Operand) → KeptOperand r a c → KeptOperand r o e → ValueMeets r (values.Carry p a o) (values.Carry p c e)
  -- of two inline operands it may be another one
  m_inner : (p : BinOp) (a o : Operand) (v : Value) → (is_rmi a.class ≡ true → is_rmi o.class ≡ true → are_inline a o ≡ true) → ValueMeets r (values.Carry p a o) v
  m_cast : (z : Size) (s : Bool) (c e : Class) → KeepsClass c e → ValueMeets r (values.Cast z s c) (values.Cast z s e)

-- ---- the parts of a form
module _ (T : Expr → Expr) (Part : Expr → Type 0) where
  abbrev pub PartsOf : Layer → Type 0
  PartsOf (Expr-F.Neg a at) = Part a
  PartsOf (Expr-F.Not a at) = Part a
  PartsOf (Expr-F.Bin o a b at) = Part a × Part b
  PartsOf _ = Unit {0}

  -- each is kept as a whole, or by its form, whose parts are then kept
  abbrev pub Splits : Type 0
  Splits = (e : Expr) → Part e → KeptWhole e (T e) ⊎ (Becomes T (out-Expr e) (out-Expr (T e)) × PartsOf (out-Expr e))

  module _ (S : Splits) (C : (e : Expr) → KeepsClass (class_of e) (class_of (T e))) (A B : Answers) (d l : Lval) (M : (e : Expr) → Part e → KeptOperand (is_r (dest_of d)) (operand_of A d e) (operand_of B l (T e))) where
    abbrev asked : Asked
    asked = whichever A

    abbrev told : Asked
    told = whichever B

    abbrev Meets : Value → Value → Type 0
    Meets v w = ValueMeets (is_r (dest_of d)) v w

    -- ---- sums that end with a flag
    by_carries : (o : BinOp) (c : Bool) (x y : Expr) → Part x → Part y
        → Meets (if c then values.Carry o (beside asked d (Some x) x) (beside asked d (Some x) y) else values.Alone)
        (if c then values.Carry o (beside told l (Some (T x)) (T x)) (beside told l (Some (T x)) (T y)) else values.Alone)
    by_carries o true x y p q = m_carry o (operand_of A d x) (operand_of A d y) (operand_of B l (T x)) (operand_of B l (T y)) (M x p) (M y q)
    by_carries o false x y p q = m_alone values.Alone

    carry_meets : {x y : Layer} (o : BinOp) → Becomes T x y → PartsOf x → Meets (carry_layer asked d o x) (carry_layer told l o y)
    carry_meets o b_number p = m_alone values.Alone
    carry_meets o b_truth p = m_alone values.Alone
    carry_meets o (b_variable k) p = m_alone values.Alone
    carry_meets o (b_cell k) p = m_alone values.Alone
    carry_meets o (b_scalar z e f i) p = m_alone values.Alone
    carry_meets o (b_load k) p = m_alone values.Alone
    carry_meets o b_minus p = m_alone values.Alone
    carry_meets o b_denial p = m_alone values.Alone
    carry_meets o b_cast p = m_alone values.Alone
    carry_meets o (b_two {o = q} {a = x} {b = y}) p = by_carries o (carries o q) x y p.0 p.1

    inline_carries : (o : BinOp) (c : Bool) (x y : Expr) → is_inline x ≡ true → is_inline y ≡ true → (v : Value)
        → Meets (if c then values.Carry o (beside asked d (Some x) x) (beside asked d (Some x) y) else values.Alone) v
    inline_carries o true x y p q v =
        m_inner o (operand_of A d x) (operand_of A d y) v (λ g h. and_from (is_i (class_of x)) (is_i (class_of y)) (inline_number x p g) (inline_number y q h))
    inline_carries o false x y p q v = m_alone v

    inline_carry : (o : BinOp) (x : Layer) → inline_layer x ≡ true → (v : Value) → Meets (carry_layer asked d o x) v
    inline_carry o (Expr-F.Bin p x y at) i v = let k = and_parts (is_inline x) (is_inline y) i in inline_carries o (carries o p) x y k.0 k.1 v
    inline_carry o (Expr-F.Num n at) i v = m_alone v
    inline_carry o (Expr-F.Expr::Bool b at) i v = m_alone v
    inline_carry o (Expr-F.Var w) i v = m_alone v
    inline_carry o (Expr-F.Cell w k) i v = m_alone v
    inline_carry o (Expr-F.Load a) i v = m_alone v
    inline_carry o (Expr-F.Neg a at) i v = m_alone v
    inline_carry o (Expr-F.Not a at) i v = m_alone v
    inline_carry o (Expr-F.Cast z s a at) i v = m_alone v

    carry_kept : (o : BinOp) (a : Expr) → Part a → Meets (carry_layer asked d o (out-Expr a)) (carry_layer told l o (out-Expr (T a)))
    carry_kept o a p =
        elim (S a p) [
          | inl k ↦ inline_carry o (out-Expr a) (sym (inline_out a) ∙ k.inline) (carry_layer told l o (out-Expr (T a)))
          | inr t ↦ carry_meets o t.0 t.1
        ]

    -- ---- operations on two
    by_flag : (o : BinOp) (a b : Expr) (f : Bool) → Part a → Part b → Meets (if f then carry_layer asked d o (out-Expr a) else two_beside asked d o a b) (if f then carry_layer told l o (out-Expr (T a)) else two_beside told l o (T a) (T b))
    by_flag o a b true p q = carry_kept o a p
    by_flag o a b false p q = m_two o (operand_of A d a) (operand_of A d b) (operand_of B l (T a)) (operand_of B l (T b)) (M a p) (M b q)

    two_meets : (o : BinOp) (a b : Expr) → Part a → Part b
        → Meets (if is_flag (class_of b) then carry_layer asked d o (out-Expr a) else two_beside asked d o a b) (if is_flag (class_of (T b)) then carry_layer told l o (out-Expr (T a)) else two_beside told l o (T a) (T b))
    two_meets o a b p q =
        subst (λ f. Meets (if is_flag (class_of b) then carry_layer asked d o (out-Expr a) else two_beside asked d o a b) (if f then carry_layer told l o (out-Expr (T a)) else two_beside told l o (T a) (T b)))
        (sym (flag_same (class_of b) (class_of (T b)) (C b))) (by_flag o a b (is_flag (class_of b)) p q)

    pub layer_meets : {x y : Layer} → Becomes T x y → PartsOf x → Meets (value_layer asked d x) (value_layer told l y)
    layer_meets b_number p = m_alone values.Alone
    layer_meets b_truth p = m_alone values.Alone
    layer_meets (b_variable k) p = m_alone values.Alone
    layer_meets (b_cell k) p = m_alone values.Alone
    layer_meets (b_scalar z e f i) p = m_alone values.Alone
    layer_meets (b_load k) p = m_alone values.Alone
    layer_meets (b_minus {a = a}) p = m_one (operand_of A d a) (operand_of B l (T a)) (M a p)
    layer_meets (b_denial {a = a}) p = m_one (operand_of A d a) (operand_of B l (T a)) (M a p)
    layer_meets (b_cast {z = z} {s = s} {a = a}) p = m_cast z s (class_of a) (class_of (T a)) (C a)
    layer_meets (b_two {o = o} {a = a} {b = b}) p = two_meets o a b p.0 p.1

    -- ---- `d op= e`
    module _ (F : KeepsClass (dest_of d) (dest_of l)) where
      two_updated : (o : BinOp) (e : Expr) → Part e → Meets (values.Two o (itself d) (beside asked d None e)) (values.Two o (itself l) (beside told l None (T e)))
      two_updated o e p = m_two o (itself d) (operand_of A d e) (itself l) (operand_of B l (T e)) (itself_kept d l F) (M e p)

      by_update : (o : BinOp) (e a : Expr) (c : Bool) → Part e → Part a
          → Meets (if c then values.Carry o (itself d) (beside asked d None a) else values.Two o (itself d) (beside asked d None e))
          (if c then values.Carry o (itself l) (beside told l None (T a)) else values.Two o (itself l) (beside told l None (T e)))
      by_update o e a true p q = m_carry o (itself d) (operand_of A d a) (itself l) (operand_of B l (T a)) (itself_kept d l F) (M a q)
      by_update o e a false p q = two_updated o e p

      update_turned : {x y : Layer} (o : BinOp) (e : Expr) → Part e → Becomes T x y → PartsOf x → Meets (update_layer asked d o e x) (update_layer told l o (T e) y)
      update_turned o e h b_number p = two_updated o e h
      update_turned o e h b_truth p = two_updated o e h
      update_turned o e h (b_variable k) p = two_updated o e h
      update_turned o e h (b_cell k) p = two_updated o e h
      update_turned o e h (b_scalar z q r i) p = two_updated o e h
      update_turned o e h (b_load k) p = two_updated o e h
      update_turned o e h b_minus p = two_updated o e h
      update_turned o e h b_denial p = two_updated o e h
      update_turned o e h b_cast p = two_updated o e h
      update_turned o e h (b_two {o = q} {a = a} {b = b}) p =
          subst (λ f. Meets (if carries o q && is_flag (class_of b) then values.Carry o (itself d) (beside asked d None a) else values.Two o (itself d) (beside asked d None e))
          (if carries o q && f then values.Carry o (itself l) (beside told l None (T a)) else values.Two o (itself l) (beside told l None (T e)))) (sym (flag_same (class_of b) (class_of (T b)) (C b)))
          (by_update o e a (carries o q && is_flag (class_of b)) h p.0)

      and_false : (a b : Bool) → b ≡ false → (a && b) ≡ false
      and_false true b e = e
      and_false false b e = refl

      -- an inline right side is one operand
      plain_layer : (say : Asked) (o : BinOp) (to : Lval) (e : Expr) (x : Layer) → inline_layer x ≡ true → update_layer say to o e x ≡ values.Two o (itself to) (beside say to None e)
      plain_layer say o to e (Expr-F.Bin p a b at) i =
          ap (λ f. if f then values.Carry o (itself to) (beside say to None a) else values.Two o (itself to) (beside say to None e))
          (and_false (carries o p) (is_flag (class_of b)) (inline_not is_flag refl refl b (and_parts (is_inline a) (is_inline b) i).1))
      plain_layer say o to e (Expr-F.Num n at) i = refl
      plain_layer say o to e (Expr-F.Expr::Bool b at) i = refl
      plain_layer say o to e (Expr-F.Var w) i = refl
      plain_layer say o to e (Expr-F.Cell w k) i = refl
      plain_layer say o to e (Expr-F.Load a) i = refl
      plain_layer say o to e (Expr-F.Neg a at) i = refl
      plain_layer say o to e (Expr-F.Not a at) i = refl
      plain_layer say o to e (Expr-F.Cast z s a at) i = refl

      plain_update : (say : Asked) (o : BinOp) (to : Lval) (e : Expr) → is_inline e ≡ true → update_layer say to o e (out-Expr e) ≡ values.Two o (itself to) (beside say to None e)
      plain_update say o to e q = plain_layer say o to e (out-Expr e) (sym (inline_out e) ∙ q)

      pub update_meets : (o : BinOp) (e : Expr) → Part e → Meets (update_layer asked d o e (out-Expr e)) (update_layer told l o (T e) (out-Expr (T e)))
      update_meets o e p =
          elim (S e p) [
            | inl k ↦ subst (λ v. Meets v (update_layer told l o (T e) (out-Expr (T e)))) (sym (plain_update asked o d e k.inline))
                (subst (Meets (values.Two o (itself d) (beside asked d None e))) (sym (plain_update told o l (T e) k.stays)) (two_updated o e p))
            | inr t ↦ update_turned o e p t.0 t.1
          ]

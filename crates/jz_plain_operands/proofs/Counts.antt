-- How far a shift goes: a number, or a byte in a register that is masked.
use Rattle.std.proofs.Common.{◌≡◌, ℤ, pos, negsuc, Bool, true, false, ◌&&◌, Option, Some, None, refl, sym, ap, ◌∙◌, subst, inl, inr, if◌then◌else◌}
use Rattle.std.specs.Prelude.{◌⊎◌}
use Rattle.std.specs.Ordering.{int_eq}
use Rattle.std.proofs.lemmas.Bool.{false≢true, and_parts}
use Rattle.x64_insn.specs.Size.{Size}
use Rattle.x64_insn.specs.Size.TheVariants.{S8, S16, S32, S64}
use Rattle.jz_tree.specs.Span.{Span}
use Rattle.jz_tree.specs.Operators.{joins}
use Rattle.jz_tree.specs.declared.expr.BinOp.{BinOp}
use Rattle.jz_tree.specs.declared.expr.BinOp.TheVariants as op
use Rattle.jz_tree.specs.declared.expr.Expr.{Expr}
use Rattle.jz_tree.specs.declared.expr.Expr.TheOpen.{Expr-F}
use Rattle.jz_tree.specs.declared.expr.Expr.TheViews.{out-Expr, roll-Expr, roll-out-Expr, out-Var, roll-out-Var, out-Access}
use Rattle.jz_tree.specs.declared.expr.Expr.TheFolds.{fold-Var, fold-roll-Expr, fold-roll-Var, map-Expr}
use Rattle.jz_tree.specs.declared.expr.Var.{Var}
use Rattle.jz_integers.specs.declared.constant.Constant.{Constant}
use Rattle.jz_integers.specs.declared.constant.Constant.TheVariants as constant
use Rattle.jz_integers.specs.Integers.{number, settles, with_right, joined, minus, opposite, value_step, the_number, plain_value, written_number}
use Rattle.jz_type_names.specs.Kinds.{known_of, is_inline}
use Rattle.jz_select.specs.declared.class.Class.{Class}
use Rattle.jz_select.specs.declared.class.Class.TheVariants as class
use Rattle.jz_select.specs.declared.class.Mask.TheVariants as mask
use Rattle.jz_select.specs.Sums.{is_address, is_index}
use Rattle.jz_select.specs.Look.{look_of, terms_of, bin_inline}
use Rattle.jz_select.specs.Operands.{var_class, class_if, cell_class, cell_of, inline_or, mask_of, is_byte, register_layer, masked_class, class_layer, class_of}
use Rattle.jz_select.specs.Rows.{is_i, masks}
use Rattle.jz_judgement.specs.HasType.{Layer}
use Rattle.jz_judgement.proofs.Nothing.{none_not}
use Rattle.jz_meaning.specs.declared.access.Kind.TheVariants as kind
use Rattle.jz_meaning.specs.States.{Key}
use Rattle.jz_meaning.specs.Values.{ref_of}
use Rattle.jz_run_laws.specs.Kinds.{Kinds}
use Rattle.jz_row_laws.proofs.Fixed.{no_if, no_cell}
use Rattle.jz_terms.specs.Terms.{num, var, bin, term_of}
use Rattle.jz_terms.proofs.Bridge.{term_layer}
use Rattle.jz_standing.specs.Typing.{IsScalar, IsCount}
use Rattle.jz_plain_operands.specs.Plain.{IsPlain, a_word, a_slot, a_flag, an_array, NotNegative, IsPlainExpr, expression, IsPlainLayer, a_number, a_truth, a_variable, a_cell, a_load, a_minus, a_denial, a_cast, of_two}
use Rattle.jz_plain_operands.specs.PlainLaws.{CountsAreOperands}
use Rattle.jz_plain_operands.proofs.Layers.{term_out, IsNumberLayer, IsNumber, number_is_inline, not_both, two_not, sign_not}

-- ---- values by forms
abbrev number_of_var : Var → Option ℤ
number_of_var = fold-Var _ _ _ _ _ value_step (λ t. tt) (λ a. tt) (λ d. tt) (λ v. None)

abbrev value_layer : Layer → Option Constant
value_layer x = value_step (map-Expr _ _ _ _ _ (Option Constant) (Unit {0}) (Unit {0}) (Unit {0}) (Option ℤ) plain_value (λ t. tt) (λ a. tt) (λ d. tt) number_of_var x)

value_is : (x : Layer) → plain_value (roll-Expr x) ≡ value_layer x
value_is x = fold-roll-Expr _ _ _ _ _ value_step (λ t. tt) (λ a. tt) (λ d. tt) (λ v. None) x

value_out : (e : Expr) → plain_value e ≡ value_layer (out-Expr e)
value_out e = ap plain_value (sym (roll-out-Expr e)) ∙ value_is (out-Expr e)

no_number : (v : Var) → number_of_var v ≡ None
no_number v = ap number_of_var (sym (roll-out-Var v)) ∙ fold-roll-Var _ _ _ _ _ value_step (λ t. tt) (λ a. tt) (λ d. tt) (λ v. None) (out-Var v)

-- ---- the numbers of operands
minus_of : (c : Option Constant) (n : ℤ) → the_number (minus c) ≡ Some n → (i : ℤ) × (the_number c ≡ Some i)
minus_of None n h = absurd (none_not n h)
minus_of (Some (constant.Int i)) n h = (i, refl)
minus_of (Some (constant.Bool b)) n h = absurd (none_not n h)

opposite_of : (c : Option Constant) (n : ℤ) → the_number (opposite c) ≡ Some n → (i : ℤ) × (the_number c ≡ Some i)
opposite_of None n h = absurd (none_not n h)
opposite_of (Some (constant.Int i)) n h = (i, refl)
opposite_of (Some (constant.Bool b)) n h = absurd (none_not n h)

truths : (j : Bool) (c : Bool) (n : ℤ) → the_number (if j then Some (constant.Bool c) else None) ≡ Some n → ⊥
truths true c n h = none_not n h
truths false c n h = none_not n h

right_truth : (o : BinOp) (b : Bool) (y : Option Constant) (n : ℤ) → the_number (with_right o (constant.Bool b) y) ≡ Some n → ⊥
right_truth o b None n h = none_not n h
right_truth o b (Some (constant.Int j)) n h = none_not n h
right_truth o b (Some (constant.Bool c)) n h = truths (joins o) c n h

left_truth : (o : BinOp) (b s : Bool) (y : Option Constant) (n : ℤ) → the_number (if s then Some (constant.Bool b) else with_right o (constant.Bool b) y) ≡ Some n → ⊥
left_truth o b true y n h = none_not n h
left_truth o b false y n h = right_truth o b y n h

record AreNumbers (x y : Option Constant) : Type 0 where
  pub first : ℤ
  pub second : ℤ
  pub first_is : the_number x ≡ Some first
  pub second_is : the_number y ≡ Some second

joined_of : (o : BinOp) (x y : Option Constant) (n : ℤ) → the_number (joined o x y) ≡ Some n → AreNumbers x y
joined_of o None y n h = absurd (none_not n h)
joined_of o (Some (constant.Int i)) None n h = absurd (none_not n h)
joined_of o (Some (constant.Int i)) (Some (constant.Int j)) n h = record { first = i; second = j; first_is = refl; second_is = refl }
joined_of o (Some (constant.Int i)) (Some (constant.Bool c)) n h = absurd (none_not n h)
joined_of o (Some (constant.Bool b)) y n h = absurd (left_truth o b (settles o b) y n h)

-- ---- classes
masks_mask : (longest : Bool) (o : Option ℤ) → masks longest (mask_of o) ≡ true → (n : ℤ) × (o ≡ Some n)
masks_mask longest None h = absurd (false≢true h)
masks_mask longest (Some k) h = (k, refl)

if_both : (longest : Bool) (b : Bool) (c : Class) → masks longest (class_if b c) ≡ true → (b ≡ true) × (masks longest c ≡ true)
if_both longest true c h = (refl, h)
if_both longest false c h = absurd (false≢true h)

not_inline : (longest b : Bool) (c : Class) → masks longest (inline_or b c) ≡ true → masks longest c ≡ true
not_inline longest true c h = absurd (false≢true h)
not_inline longest false c h = h

byte_size : (z : Size) → is_byte (class.Reg z) ≡ true → z ≡ S8
byte_size S8 h = refl
byte_size S16 h = absurd (false≢true h)
byte_size S32 h = absurd (false≢true h)
byte_size S64 h = absurd (false≢true h)

module _ (kinds : Kinds) (in_frame : Key → Bool) where
  -- ---- an expression whose number is written is that number
  mutual
    pub written_number_is : (e : Expr) → IsPlainExpr kinds in_frame e → (n : ℤ) → written_number e ≡ Some n → IsNumber e
    written_number_is e (expression x) n h = written_layer (out-Expr e) x n (sym (ap the_number (value_out e)) ∙ h)

    written_layer : (l : Layer) → IsPlainLayer kinds in_frame l → (n : ℤ) → the_number (value_layer l) ≡ Some n → IsNumberLayer l
    written_layer (Expr-F.Num i at) a_number n h = (i, at, refl)
    written_layer (Expr-F.Expr::Bool b at) a_truth n h = absurd (none_not n h)
    written_layer (Expr-F.Var v) (a_variable x) n h = absurd (none_not n (sym (ap (λ k. the_number (number k)) (no_number v)) ∙ h))
    written_layer (Expr-F.Cell v i) (a_cell x y) n h = absurd (none_not n h)
    written_layer (Expr-F.Load a) (a_load x) n h = absurd (none_not n h)
    written_layer (Expr-F.Neg a at) (a_minus m x) n h =
        let k = minus_of (plain_value a) n h in
        absurd (false≢true (sym m ∙ number_is_inline a (written_number_is a x k.0 k.1)))
    written_layer (Expr-F.Not a at) (a_denial m x) n h =
        let k = opposite_of (plain_value a) n h in
        absurd (false≢true (sym m ∙ number_is_inline a (written_number_is a x k.0 k.1)))
    written_layer (Expr-F.Cast z s a at) (a_cast x) n h = absurd (none_not n h)
    written_layer (Expr-F.Bin o a b at) (of_two m x y) n h =
        let k = joined_of o (plain_value a) (plain_value b) n h in
        absurd (not_both a b m (number_is_inline a (written_number_is a x k.first k.first_is)) (number_is_inline b (written_number_is b y k.second k.second_is)))

  -- ---- an inline operand is a number
  plain_class : (test : Class → Bool) (v : Var) → IsPlain kinds in_frame v → ((z : Size) → test (class.Reg z) ≡ false) → ((z : Size) → test (class.Mem (Some z)) ≡ false) → test class.Flag ≡ false → test class.Other ≡ false → test (var_class (known_of v)) ≡ true → ⊥
  plain_class test v (a_word z d k s) r m f o e = false≢true (sym (ap (λ q. test (var_class q)) d ∙ r z) ∙ e)
  plain_class test v (a_slot z d k s) r m f o e = false≢true (sym (ap (λ q. test (var_class q)) d ∙ m z) ∙ e)
  plain_class test v (a_flag d k s) r m f o e = false≢true (sym (ap (λ q. test (var_class q)) d ∙ f) ∙ e)
  plain_class test v (an_array z n d a) r m f o e = false≢true (sym (ap (λ q. test (var_class q)) d ∙ o) ∙ e)

  number_layer : (l : Layer) → IsPlainLayer kinds in_frame l → is_i (class_layer l) ≡ true → IsNumberLayer l
  number_layer (Expr-F.Num i at) a_number h = (i, at, refl)
  number_layer (Expr-F.Expr::Bool b at) a_truth h = absurd (false≢true h)
  number_layer (Expr-F.Var v) (a_variable x) h = absurd (plain_class is_i v x (λ z. refl) (λ z. refl) refl refl h)
  number_layer (Expr-F.Cell v i) (a_cell x y) h = absurd (no_cell is_i (λ z. refl) (λ z. refl) refl (known_of v) (look_of i).inline (is_index (terms_of i)) h)
  number_layer (Expr-F.Load a) (a_load x) h = absurd (no_if is_i refl (is_address (terms_of (out-Access a).at)) (class.Mem (out-Access a).size) refl h)
  number_layer (Expr-F.Neg a at) (a_minus n x) h = absurd (sign_not kinds in_frame is_i a refl n x h)
  number_layer (Expr-F.Not a at) (a_denial n x) h = absurd (sign_not kinds in_frame is_i a refl n x h)
  number_layer (Expr-F.Cast z s a at) (a_cast x) h = absurd (false≢true h)
  number_layer (Expr-F.Bin o a b at) (of_two n x y) h = absurd (two_not kinds in_frame is_i refl refl refl o a b at n x y h)

  pub class_number : (e : Expr) → IsPlainExpr kinds in_frame e → is_i (class_of e) ≡ true → IsNumber e
  class_number e (expression x) h = number_layer (out-Expr e) x h

  -- ---- a byte in a register is a variable
  record IsByte (e : Expr) : Type 0 where
    pub variable : Var
    pub is : out-Expr e ≡ Expr-F.Var variable
    pub byte : ((ref_of variable).kind ≡ kind.Word S8) × IsScalar kinds in_frame (ref_of variable)

  byte_variable : (v : Var) → IsPlain kinds in_frame v → is_byte (var_class (known_of v)) ≡ true → ((ref_of v).kind ≡ kind.Word S8) × IsScalar kinds in_frame (ref_of v)
  byte_variable v (a_word z d k s) h = (k ∙ ap kind.Word (byte_size z (sym (ap (λ q. is_byte (var_class q)) d) ∙ h)), s)
  byte_variable v (a_slot z d k s) h = absurd (false≢true (sym (ap (λ q. is_byte (var_class q)) d) ∙ h))
  byte_variable v (a_flag d k s) h = absurd (false≢true (sym (ap (λ q. is_byte (var_class q)) d) ∙ h))
  byte_variable v (an_array z n d a) h = absurd (false≢true (sym (ap (λ q. is_byte (var_class q)) d) ∙ h))

  no_byte_cell : (v : Var) (b c : Bool) → IsPlain kinds in_frame v → is_byte (cell_class (known_of v) b c) ≡ true → ⊥
  no_byte_cell v b c (a_word z d k s) h = false≢true (sym (ap (λ q. is_byte (cell_class q b c)) d) ∙ h)
  no_byte_cell v b c (a_slot z d k s) h = false≢true (sym (ap (λ q. is_byte (cell_class q b c)) d) ∙ h)
  no_byte_cell v b c (a_flag d k s) h = false≢true (sym (ap (λ q. is_byte (cell_class q b c)) d) ∙ h)
  no_byte_cell v b c (an_array z n d a) h = no_if is_byte refl c (class.Mem (Some z)) refl (sym (ap (λ q. is_byte (cell_class q b c)) d) ∙ h)

  byte_layer : (e : Expr) (l : Layer) → out-Expr e ≡ l → IsPlainLayer kinds in_frame l → is_byte (register_layer l) ≡ true → IsByte e
  byte_layer e (Expr-F.Var v) s (a_variable x) h = record { variable = v; is = s; byte = byte_variable v x h }
  byte_layer e (Expr-F.Num i at) s a_number h = absurd (false≢true h)
  byte_layer e (Expr-F.Expr::Bool b at) s a_truth h = absurd (false≢true h)
  byte_layer e (Expr-F.Cell v i) s (a_cell x y) h = absurd (no_byte_cell v (look_of i).inline (is_index (terms_of i)) x h)
  byte_layer e (Expr-F.Load a) s (a_load x) h = absurd (false≢true h)
  byte_layer e (Expr-F.Neg a at) s (a_minus n x) h = absurd (false≢true h)
  byte_layer e (Expr-F.Not a at) s (a_denial n x) h = absurd (false≢true h)
  byte_layer e (Expr-F.Cast z k a at) s (a_cast x) h = absurd (false≢true h)
  byte_layer e (Expr-F.Bin o a b at) s (of_two n x y) h = absurd (false≢true h)

  byte_there : (e : Expr) → IsPlainExpr kinds in_frame e → is_byte (register_layer (out-Expr e)) ≡ true → IsByte e
  byte_there e (expression x) h = byte_layer e (out-Expr e) refl x h

  -- ---- counts
  masked_by : (a b : Expr) (at : Span) → IsByte a → IsNumber b → IsCount kinds in_frame (bin op.And (term_of a) (term_of b) at)
  masked_by a b at r n =
      subst (λ x. IsCount kinds in_frame (bin op.And x (term_of b) at)) (sym (term_out a ∙ ap term_layer r.is))
      (subst (λ x. IsCount kinds in_frame (bin op.And (var (ref_of r.variable)) x at)) (sym (term_out b ∙ ap term_layer n.2)) r.byte)

  masked_there : (longest : Bool) (o : BinOp) (a b : Expr) (at : Span) → IsPlainExpr kinds in_frame a → IsPlainExpr kinds in_frame b → masks longest (masked_class o a b) ≡ true → IsCount kinds in_frame (bin o (term_of a) (term_of b) at)
  masked_there longest op.And a b at x y h =
      let p = if_both longest (is_byte (register_layer (out-Expr a))) (mask_of (written_number b)) h in
      let k = masks_mask longest (written_number b) p.1 in
      masked_by a b at (byte_there a x p.0) (written_number_is b y k.0 k.1)
  masked_there longest o a b at x y h = absurd (false≢true h)

  mask_layer : (longest : Bool) (l : Layer) → IsPlainLayer kinds in_frame l → masks longest (class_layer l) ≡ true → IsCount kinds in_frame (term_layer l)
  mask_layer longest (Expr-F.Num i at) a_number h = absurd (false≢true h)
  mask_layer longest (Expr-F.Expr::Bool b at) a_truth h = absurd (false≢true h)
  mask_layer longest (Expr-F.Var v) (a_variable x) h = absurd (plain_class (masks longest) v x (λ z. refl) (λ z. refl) refl refl h)
  mask_layer longest (Expr-F.Cell v i) (a_cell x y) h = absurd (no_cell (masks longest) (λ z. refl) (λ z. refl) refl (known_of v) (look_of i).inline (is_index (terms_of i)) h)
  mask_layer longest (Expr-F.Load a) (a_load x) h = absurd (no_if (masks longest) refl (is_address (terms_of (out-Access a).at)) (class.Mem (out-Access a).size) refl h)
  mask_layer longest (Expr-F.Neg a at) (a_minus n x) h = absurd (false≢true (not_inline longest (look_of a).inline class.Other h))
  mask_layer longest (Expr-F.Not a at) (a_denial n x) h = absurd (false≢true (not_inline longest (look_of a).inline class.Other h))
  mask_layer longest (Expr-F.Cast z s a at) (a_cast x) h = absurd (false≢true h)
  mask_layer longest (Expr-F.Bin o a b at) (of_two n x y) h =
      masked_there longest o a b at x y (not_inline longest (bin_inline o (look_of a) (look_of b)) (masked_class o a b) h)

  mask_there : (longest : Bool) (e : Expr) → IsPlainExpr kinds in_frame e → masks longest (class_of e) ≡ true → IsCount kinds in_frame (term_of e)
  mask_there longest e (expression x) h = subst (λ y. IsCount kinds in_frame y) (sym (term_out e)) (mask_layer longest (out-Expr e) x h)

  whole_count : (i : ℤ) (at : Span) → NotNegative (num i at) → IsCount kinds in_frame (num i at)
  whole_count (pos n) at h = tt
  whole_count (negsuc n) at h = absurd h

  number_count : (e : Expr) → IsNumber e → NotNegative (term_of e) → IsCount kinds in_frame (term_of e)
  number_count e n h =
      let s = term_out e ∙ ap term_layer n.2 in
      subst (λ y. IsCount kinds in_frame y) (sym s) (whole_count n.0 n.1 (subst NotNegative s h))

  pub count_there : (e : Expr) → IsPlainExpr kinds in_frame e → NotNegative (term_of e) → (is_i (class_of e) ≡ true) ⊎ ((longest : Bool) × (masks longest (class_of e) ≡ true)) → IsCount kinds in_frame (term_of e)
  count_there e x n (inl h) = number_count e (class_number e x h) n
  count_there e x n (inr h) = mask_there h.0 e x h.1

pub counts_are_operands : CountsAreOperands
counts_are_operands kinds in_frame e x n h = count_there kinds in_frame e x n h

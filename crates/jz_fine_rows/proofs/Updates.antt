-- What `d op= e` computes is a word of its size.
use Rattle.std.proofs.Common.{◌≡◌, Bool, true, false, ◌&&◌, Option, Some, None, refl, sym, ap, ◌∙◌, subst, inl, inr, if◌then◌else◌}
use Rattle.std.specs.Option.{option_or}
use Rattle.std.proofs.lemmas.Bool.{false≢true, and_parts}
use Rattle.x64_insn.specs.Size.{Size}
use Rattle.jz_tree.specs.Span.{Span}
use Rattle.jz_tree.specs.Operators.{carries}
use Rattle.jz_tree.specs.declared.expr.BinOp.{BinOp}
use Rattle.jz_tree.specs.declared.expr.Expr.{Expr}
use Rattle.jz_tree.specs.declared.expr.Expr.TheVariants as expr
use Rattle.jz_tree.specs.declared.expr.Expr.TheOpen.{Expr-F}
use Rattle.jz_tree.specs.declared.expr.Expr.TheViews.{out-Expr}
use Rattle.jz_tree.specs.declared.stmt.Lval.{Lval}
use Rattle.jz_select.specs.declared.class.Class.TheVariants as class
use Rattle.jz_select.specs.declared.shape.Value.TheVariants as values
use Rattle.jz_select.specs.Operands.{class_of}
use Rattle.jz_select.specs.Rows as rows
use Rattle.jz_select.specs.Shapes.{Asked, itself, beside, update_layer}
use Rattle.jz_judgement.specs.Places.{truth, word}
use Rattle.jz_judgement.specs.HasType as judged
use Rattle.jz_judgement.specs.HasType.{Layer, Term as Typed, value, left, HasType, Operates}
use Rattle.jz_meaning.specs.States.{Key}
use Rattle.jz_meaning.specs.Values.{Meaning, own_size}
use Rattle.jz_meaning.specs.Assignments as runs
use Rattle.jz_meaning.specs.Assignments.{updated_layer}
use Rattle.jz_run_laws.specs.Kinds.{Kinds}
use Rattle.jz_terms.specs.Terms.{bin, term_of, size_in}
use Rattle.jz_terms.proofs.Bridge.{term_layer, term_so}
use Rattle.jz_terms.proofs.TermForms.{term_bin}
use Rattle.jz_fact_laws.specs.Saying.{is_number}
use Rattle.jz_standing.specs.Typing.{is_computed, IsWord}
use Rattle.jz_plain_operands.specs.Plain.{IsPlainExpr, expression, IsPlainLayer, of_two}
use Rattle.jz_plain_operands.proofs.Layers.{term_out}
use Rattle.jz_plain_operands.proofs.Operands.{word_there, flag_there}
use Rattle.jz_plain_operands.proofs.Counting.{flags_same}
use Rattle.jz_fine_rows.proofs.Operators.{computed_size, shift_arith, compare_arith, logic_arith, computed_group, AreCarries, are_carries}
use Rattle.jz_row_classes.specs.RowClasses.{AreOperands}
use Rattle.jz_fine_rows.proofs.RightSides.{CountsFit, first_type, operates_out, two_word, carry_word}

-- ---- a computed value is no truth
no_truth : (p : BinOp) (a b : Typed) → is_computed p ≡ true → Operates p a b truth → ⊥
no_truth p a b c (judged.arithmetic g k m x y) = k
no_truth p a b c (judged.carry s k x y) = k
no_truth p a b c (judged.shift g k m x y) = k
no_truth p a b c (judged.integers g m x y) = compare_arith (sym g ∙ computed_group p c)
no_truth p a b c (judged.words z g s x y) = compare_arith (sym g ∙ computed_group p c)
no_truth p a b c (judged.logic g x y) = logic_arith (sym g ∙ computed_group p c)

whole_type : (o p : BinOp) (d : Lval) (e a c : Expr) (inner : Span) (z : Size) → AreCarries o p → out-Expr e ≡ Expr-F.Bin p a c inner → Operates o (left d) (value e) (word z) → HasType (value e) (word z)
whole_type o p d e a c inner z j s (judged.arithmetic g k m x y) = y
whole_type o p d e a c inner z j s (judged.carry t k x y) = absurd (no_truth p (value a) (value c) (ap is_computed j.same ∙ j.computed) (operates_out e p a c inner truth s y))
whole_type o p d e a c inner z j s (judged.shift g k m x y) = absurd (shift_arith (sym g ∙ computed_group o j.computed))

pub own_is : (e : Expr) → own_size e ≡ size_in (term_of e)
own_is e = ap (λ (m : Meaning). m.size) (term_so e)

-- ---- by the form of e; r: the left side where it is read
module _ (o : BinOp) (e r : Expr) (here : Span) where
  abbrev pub updated_to : Expr
  updated_to = updated_layer o r e here (out-Expr e)

  term_plain : term_of (expr.Bin o r e here) ≡ bin o (term_of r) (term_of e) here
  term_plain = term_bin (expr.Bin o r e here) o r e here refl

  term_carried : (p : BinOp) (a c : Expr) → term_of (expr.Bin p (expr.Bin o r a here) c here) ≡ bin p (bin o (term_of r) (term_of a) here) (term_of c) here
  term_carried p a c =
      let i = expr.Bin o r a here in
      term_bin (expr.Bin p i c here) p i c here refl ∙ ap (λ t. bin p t (term_of c) here) (term_bin i o r a here refl)

  module _ (kinds : Kinds) (in_frame : Key → Bool) (asked : Asked) (z : Size) (d : Lval) (w : IsWord kinds in_frame (Some z) z (term_of r)) (n : is_number (term_of r) ≡ false) (x : IsPlainExpr kinds in_frame e) (u : Operates o (left d) (value e) (word z))
      (f : CountsFit o e) where
    abbrev W : Expr → Type 0
    W k = IsWord kinds in_frame (Some z) z (term_of k)

    plain_word : AreOperands class.Other (values.Two o (itself d) (beside asked d None e)) → W (expr.Bin o r e here)
    plain_word (inl h) = absurd (false≢true h)
    plain_word (inr h) =
        subst (λ t. IsWord kinds in_frame (Some z) z t) (sym term_plain)
        (two_word kinds in_frame z o (left d) (term_of r) e here (ap (λ t. t && is_number (term_of e)) n) w x u f h.1)

    module _ (p : BinOp) (a c : Expr) (inner : Span) (s : out-Expr e ≡ Expr-F.Bin p a c inner) (y : IsPlainExpr kinds in_frame a) (q : IsPlainExpr kinds in_frame c) where
      carried_word : AreCarries o p → rows.is_flag (class_of c) ≡ true → AreOperands class.Other (values.Carry o (itself d) (beside asked d None a)) → W (expr.Bin p (expr.Bin o r a here) c here)
      carried_word j g (inl h) = absurd (false≢true h)
      carried_word j g (inr h) =
          let t = first_type p (value a) (value c) z (operates_out e p a c inner (word z) s (whole_type o p d e a c inner z j s u)) in
          subst (λ k. IsWord kinds in_frame (Some z) z k) (sym (term_carried p a c))
          (subst (λ k. IsWord kinds in_frame (Some z) z (bin k (bin o (term_of r) (term_of a) here) (term_of c) here)) (sym j.same)
          (carry_word kinds in_frame z o (term_of r) (term_of a) c here here j.computed j.carried (ap (λ k. k && is_number (term_of a)) n) w (word_there kinds in_frame a z y t h.1) (flag_there kinds in_frame c q g)))

      by_test : (b : Bool) → (carries o p && rows.is_flag (class_of c)) ≡ b → AreOperands class.Other (if b then values.Carry o (itself d) (beside asked d None a) else values.Two o (itself d) (beside asked d None e))
          → W (if b then expr.Bin p (expr.Bin o r a here) c here else expr.Bin o r e here)
      by_test true g h = let k = and_parts (carries o p) (rows.is_flag (class_of c)) g in carried_word (are_carries o p k.0) k.1 h
      by_test false g h = plain_word h

      two_forms : AreOperands class.Other (update_layer asked d o e (Expr-F.Bin p a c inner)) → W (updated_layer o r e here (Expr-F.Bin p a c inner))
      two_forms h =
          subst (λ b. W (if carries o p && b then expr.Bin p (expr.Bin o r a here) c here else expr.Bin o r e here)) (sym (flags_same kinds in_frame c q))
          (by_test (carries o p && rows.is_flag (class_of c)) refl h)

    by_form : (l : Layer) → out-Expr e ≡ l → IsPlainLayer kinds in_frame l → AreOperands class.Other (update_layer asked d o e l) → W (updated_layer o r e here l)
    by_form (Expr-F.Bin p a c inner) s (of_two m y q) h = two_forms p a c inner s y q h
    by_form (Expr-F.Num i at) s y h = plain_word h
    by_form (Expr-F.Expr::Bool b at) s y h = plain_word h
    by_form (Expr-F.Var v) s y h = plain_word h
    by_form (Expr-F.Cell v i) s y h = plain_word h
    by_form (Expr-F.Load a) s y h = plain_word h
    by_form (Expr-F.Neg a at) s y h = plain_word h
    by_form (Expr-F.Not a at) s y h = plain_word h
    by_form (Expr-F.Cast k g a at) s y h = plain_word h

    pub updated_word : AreOperands class.Other (update_layer asked d o e (out-Expr e)) → W updated_to
    updated_word h = by_plain x
      where
        by_plain : IsPlainExpr kinds in_frame e → W updated_to
        by_plain (expression y) = by_form (out-Expr e) refl y h

  -- ---- its size, where the left side says none
  module _ (z : Size) (c : is_computed o ≡ true) (n : size_in (term_of r) ≡ None) (s : own_size e ≡ Some z) where
    right_size : size_in (term_of e) ≡ Some z
    right_size = sym (own_is e) ∙ s

    left_none : (k : Option Size) → option_or (size_in (term_of r)) k ≡ k
    left_none k = ap (λ t. option_or t k) n

    plain_size : own_size (expr.Bin o r e here) ≡ Some z
    plain_size = own_is (expr.Bin o r e here) ∙ (ap size_in term_plain ∙ (computed_size o (size_in (term_of r)) (size_in (term_of e)) c ∙ (left_none (size_in (term_of e)) ∙ right_size)))

    carried_size : (p : BinOp) (a k : Expr) (inner : Span) → out-Expr e ≡ Expr-F.Bin p a k inner → is_computed p ≡ true → own_size (expr.Bin p (expr.Bin o r a here) k here) ≡ Some z
    carried_size p a k inner q m =
        let x = size_in (term_of a) in
        let y = size_in (term_of k) in
        own_is (expr.Bin p (expr.Bin o r a here) k here)
        ∙ (ap size_in (term_carried p a k)
        ∙ (computed_size p (size_in (bin o (term_of r) (term_of a) here)) y m
        ∙ (ap (λ t. option_or t y) (computed_size o (size_in (term_of r)) x c ∙ left_none x)
        ∙ (sym (ap size_in (term_out e ∙ ap term_layer q) ∙ computed_size p x y m) ∙ right_size))))

    two_sizes : (p : BinOp) (a k : Expr) (inner : Span) → out-Expr e ≡ Expr-F.Bin p a k inner → (b g : Bool) → carries o p ≡ b → own_size (if b && g then expr.Bin p (expr.Bin o r a here) k here else expr.Bin o r e here) ≡ Some z
    two_sizes p a k inner q true true h = let j = are_carries o p h in carried_size p a k inner q (ap is_computed j.same ∙ j.computed)
    two_sizes p a k inner q true false h = plain_size
    two_sizes p a k inner q false g h = plain_size

    size_by : (l : Layer) → out-Expr e ≡ l → own_size (updated_layer o r e here l) ≡ Some z
    size_by (Expr-F.Bin p a k inner) q = two_sizes p a k inner q (carries o p) (runs.is_flag k) refl
    size_by (Expr-F.Num i at) q = plain_size
    size_by (Expr-F.Expr::Bool b at) q = plain_size
    size_by (Expr-F.Var v) q = plain_size
    size_by (Expr-F.Cell v i) q = plain_size
    size_by (Expr-F.Load a) q = plain_size
    size_by (Expr-F.Neg a at) q = plain_size
    size_by (Expr-F.Not a at) q = plain_size
    size_by (Expr-F.Cast k g a at) q = plain_size

    pub updated_size : own_size updated_to ≡ Some z
    updated_size = size_by (out-Expr e) refl

-- The right side of an assignment of one value is a word of its size.
use Rattle.std.proofs.Common.{◌≡◌, Bool, true, false, ◌&&◌, Option, Some, refl, sym, ap, ◌∙◌, subst, inl, inr, if◌then◌else◌}
use Rattle.std.specs.Prelude.{◌⊎◌}
use Rattle.std.specs.Option.{option_or}
use Rattle.std.proofs.lemmas.Bool.{false≢true}
use Rattle.x64_insn.specs.Size.{Size}
use Rattle.jz_tree.specs.Span.{Span}
use Rattle.jz_tree.specs.Operators.{carries, is_shift}
use Rattle.jz_tree.specs.declared.expr.BinOp.{BinOp}
use Rattle.jz_tree.specs.declared.expr.Expr.{Expr}
use Rattle.jz_tree.specs.declared.expr.Expr.TheOpen.{Expr-F}
use Rattle.jz_tree.specs.declared.expr.Expr.TheViews.{out-Expr, out-Access}
use Rattle.jz_tree.specs.declared.stmt.Lval.{Lval}
use Rattle.jz_type_names.specs.Kinds.{is_inline}
use Rattle.jz_select.specs.declared.shape.Value.TheVariants as values
use Rattle.jz_select.specs.Operands.{class_layer, class_of}
use Rattle.jz_select.specs.Rows.{is_rm, is_rmi, is_flag}
use Rattle.jz_select.specs.Shapes.{Asked, beside, carry_layer, two_beside, value_layer}
use Rattle.jz_judgement.specs.Places.{Place, word, stated}
use Rattle.jz_judgement.specs.HasType as judged
use Rattle.jz_judgement.specs.HasType.{Layer, Term as Typed, value, HasType, Types, Operates, Says, LayerSays}
use Rattle.jz_plain_operands.proofs.Classes.{rmi_no_truth}
use Rattle.jz_meaning.specs.States.{Key}
use Rattle.jz_meaning.specs.Values.{left_wanted}
use Rattle.jz_run_laws.specs.Kinds.{Kinds}
use Rattle.jz_terms.specs.Terms.{Term, bin, cast, term_of, place_of, size_in}
use Rattle.jz_terms.proofs.Bridge.{term_layer}
use Rattle.jz_fact_laws.specs.Saying.{is_number}
use Rattle.jz_standing.specs.Typing.{is_computed, is_carried, IsRead, IsFlag, IsCount, IsWord}
use Rattle.jz_plain_operands.specs.Plain.{NotNegative, IsPlainExpr, expression, IsPlainLayer, a_number, a_truth, a_variable, a_cell, a_load, a_minus, a_denial, a_cast, of_two}
use Rattle.jz_plain_operands.proofs.Layers.{term_out, place_out, no_number, not_numbers, two_not, sign_not}
use Rattle.jz_plain_operands.proofs.Sums.{word_variable, sum_there}
use Rattle.jz_plain_operands.proofs.Counts.{count_there}
use Rattle.jz_plain_operands.proofs.Operands.{at_index, cell_there, memory_there, word_there, flag_there}
use Rattle.jz_fine_rows.proofs.Operators.{computed_wants, shift_wants, shift_arith, computed_group, AreCarries, are_carries}
use Rattle.jz_row_classes.specs.RowClasses.{IsSecond, AreOperands}

-- a count that is a number is not below zero
abbrev pub CountsFit : BinOp → Expr → Type 0
CountsFit o b = is_shift o ≡ true → NotNegative (term_of b)

abbrev pub AllFit : Layer → Type 0
AllFit (Expr-F.Bin o a b at) = (is_inline a && is_inline b) ≡ false → CountsFit o b
AllFit l = Unit {0}

-- ---- types of operands
pub first_type : (o : BinOp) (a b : Typed) (z : Size) → Operates o a b (word z) → HasType a (word z)
first_type o a b z (judged.arithmetic g k m x y) = x
first_type o a b z (judged.carry s k x y) = x
first_type o a b z (judged.shift g k m x y) = x

second_type : (o : BinOp) (a : Typed) (b : Expr) (z : Size) → is_computed o ≡ true → is_rmi (class_of b) ≡ true → Operates o a (value b) (word z) → HasType (value b) (word z)
second_type o a b z c h (judged.arithmetic g k m x y) = y
second_type o a b z c h (judged.carry s k x y) = absurd (rmi_no_truth b h y)
second_type o a b z c h (judged.shift g k m x y) = absurd (shift_arith (sym g ∙ computed_group o c))

operates : (o : BinOp) (a b : Expr) (at : Span) (p : Place) → Types (Expr-F.Bin o a b at) p → Operates o (value a) (value b) p
operates o a b at p (judged.operation k) = k

pub operates_out : (e : Expr) (o : BinOp) (a b : Expr) (at : Span) (p : Place) → out-Expr e ≡ Expr-F.Bin o a b at → HasType (value e) p → Operates o (value a) (value b) p
operates_out e o a b at p s (judged.expression t) = operates o a b at p (subst (λ l. Types l p) s t)

module _ (kinds : Kinds) (in_frame : Key → Bool) where
  abbrev K : Expr → Type 0
  K = IsPlainExpr kinds in_frame

  abbrev pub Beside : Size → BinOp → Term → Term → Option Size → Type 0
  Beside z o a b v =
      (v ≡ Some z) × ((is_number a && is_number b) ≡ false) × IsWord kinds in_frame v z a
      × (((is_shift o ≡ true) × IsCount kinds in_frame b) ⊎ (((is_computed o ≡ true) × IsWord kinds in_frame v z b)
      ⊎ ((is_carried o ≡ true) × (is_number a ≡ false) × IsFlag kinds in_frame b)))

  as_word : (z : Size) (o : BinOp) (a b : Term) (at : Span) → left_wanted o (Some z) (size_in a) (size_in b) ≡ Some z → Beside z o a b (Some z) → IsWord kinds in_frame (Some z) z (bin o a b at)
  as_word z o a b at e h = subst (Beside z o a b) (sym e) h

  -- an operation on a word and what the row says stands beside it
  pub two_word : (z : Size) (o : BinOp) (x : Typed) (a : Term) (b : Expr) (at : Span) → (is_number a && is_number (term_of b)) ≡ false → IsWord kinds in_frame (Some z) z a → K b → Operates o x (value b) (word z)
      → CountsFit o b → IsSecond o (class_of b) → IsWord kinds in_frame (Some z) z (bin o a (term_of b) at)
  two_word z o x a b at n w y t f (inl (c, h)) =
      as_word z o a (term_of b) at (computed_wants o z (size_in a) (size_in (term_of b)) c)
      (refl, n, w, inr (inl (c, word_there kinds in_frame b z y (second_type o x b z c h t) h)))
  two_word z o x a b at n w y t f (inr (s, h)) =
      as_word z o a (term_of b) at (shift_wants o z (size_in a) (size_in (term_of b)) s) (refl, n, w, inl (s, count_there kinds in_frame b y (f s) h))

  -- two words and a flag behind them
  pub carry_word : (z : Size) (o : BinOp) (a b : Term) (c : Expr) (inner at : Span) → is_computed o ≡ true → is_carried o ≡ true → (is_number a && is_number b) ≡ false → IsWord kinds in_frame (Some z) z a
      → IsWord kinds in_frame (Some z) z b → IsFlag kinds in_frame (term_of c) → IsWord kinds in_frame (Some z) z (bin o (bin o a b inner) (term_of c) at)
  carry_word z o a b c inner at k r n x y f =
      as_word z o (bin o a b inner) (term_of c) at (computed_wants o z (size_in (bin o a b inner)) (size_in (term_of c)) k) (
        refl,
        ap (λ t. t && is_number (term_of c)) n,
        as_word z o a b inner (computed_wants o z (size_in a) (size_in b) k) (refl, n, x, inr (inl (k, y))),
        inr (inr (r, n, f)),
      )

  -- ---- casts
  abbrev IsCast : Size → Term → Type 0
  IsCast u t = IsRead u t × IsWord kinds in_frame (size_in t) u t

  read_layer : (l : Layer) (u : Size) → IsPlainLayer kinds in_frame l → Types l (stated u) → LayerSays l u → is_rm (class_layer l) ≡ true → IsCast u (term_layer l)
  read_layer (Expr-F.Num i at) u a_number t q h = absurd (false≢true h)
  read_layer (Expr-F.Expr::Bool b at) u a_truth t q h = absurd (false≢true h)
  read_layer (Expr-F.Var v) u (a_variable x) (judged.variable g) q h = (tt, word_variable kinds in_frame v (stated u) u (λ y k. k) (λ k. k) x g)
  read_layer (Expr-F.Cell v i) u (a_cell x y) (judged.cell w a k t) q h =
      let c = cell_there kinds in_frame is_rm refl v i w u x a k h in
      (tt, (c.count, c.array, sum_there kinds in_frame i y t c.good))
  read_layer (Expr-F.Load a) u (a_load x) (judged.load t) (judged.load q) h =
      let e : (place_of a).spot.size ≡ Some u = ap (λ k. k.spot.size) (place_out a) ∙ q in
      let m = memory_there kinds in_frame is_rm refl a u (ap (λ k. option_or k (Some u)) q) (at_index (out-Access a) (stated u) t) x h in
      (e, (ap (λ k. option_or k k) e, m.1))
  read_layer (Expr-F.Neg a at) u (a_minus n x) t q h = absurd (sign_not kinds in_frame is_rm a refl n x h)
  read_layer (Expr-F.Not a at) u (a_denial n x) t q h = absurd (sign_not kinds in_frame is_rm a refl n x h)
  read_layer (Expr-F.Cast y s a at) u (a_cast x) t q h = absurd (false≢true h)
  read_layer (Expr-F.Bin o a b at) u (of_two n x y) t q h = absurd (two_not kinds in_frame is_rm refl refl refl o a b at n x y h)

  read_there : (e : Expr) (u : Size) → K e → HasType (value e) (stated u) → Says (value e) u → is_rm (class_of e) ≡ true → IsCast u (term_of e)
  read_there e u (expression x) (judged.expression t) (judged.expression q) h = subst (IsCast u) (sym (term_out e)) (read_layer (out-Expr e) u x t q h)

  cast_word : (z y : Size) (s : Bool) (a : Expr) (at : Span) → K a → Types (Expr-F.Cast y s a at) (word z) → is_rm (class_of a) ≡ true → IsWord kinds in_frame (Some z) z (cast y s (term_of a) at)
  cast_word z y s a at x (judged.cast u k q t) h = let r = read_there a u x t q h in (k, u, r.0, r.1)

  -- ---- by the form
  module _ (asked : Asked) (z : Size) (d : Lval) where
    abbrev W : Term → Type 0
    W t = IsWord kinds in_frame (Some z) z t

    negated : (a : Expr) (at : Span) → Types (Expr-F.Neg a at) (word z) → HasType (value a) (word z)
    negated a at (judged.negated k t) = t

    inverted : (a : Expr) (at : Span) → Types (Expr-F.Not a at) (word z) → HasType (value a) (word z)
    inverted a at (judged.inverted t) = t

    module _ (e : Expr) (x : K e) (t : HasType (value e) (word z)) where
      itself : is_rmi (class_of e) ≡ true → W (term_of e)
      itself h = word_there kinds in_frame e z x t h

      -- an operation is no operand
      no_operand : (o : BinOp) (a b : Expr) (at : Span) → out-Expr e ≡ Expr-F.Bin o a b at → (is_inline a && is_inline b) ≡ false → K a → K b → is_rmi (class_of e) ≡ true → ⊥
      no_operand o a b at s n p q h = two_not kinds in_frame is_rmi refl refl refl o a b at n p q (sym (ap (λ l. is_rmi (class_layer l)) s) ∙ h)

      at_layer : (l : Layer) → out-Expr e ≡ l → W (term_layer l) → W (term_of e)
      at_layer l s h = subst W (sym (term_out e ∙ ap term_layer s)) h

      module _ (o : BinOp) (a b : Expr) (at : Span) (s : out-Expr e ≡ Expr-F.Bin o a b at) (n : (is_inline a && is_inline b) ≡ false) (p : K a) (q : K b) (u : Operates o (value a) (value b) (word z)) where
        plain_row : CountsFit o b → AreOperands (class_of e) (two_beside asked d o a b) → W (term_of e)
        plain_row f (inl h) = itself h
        plain_row f (inr h) =
            at_layer (Expr-F.Bin o a b at) s
            (two_word z o (value a) (term_of a) b at (not_numbers kinds in_frame a b p q n) (word_there kinds in_frame a z p (first_type o (value a) (value b) z u) h.0) q u f h.1)

        -- a: an operation on c and k
        module _ (r : BinOp) (c k : Expr) (inner : Span) (w : out-Expr a ≡ Expr-F.Bin r c k inner) (m : (is_inline c && is_inline k) ≡ false) (xc : K c) (yk : K k) (f : is_flag (class_of b) ≡ true) where
          inner_type : Operates r (value c) (value k) (word z)
          inner_type = operates_out a r c k inner (word z) w (first_type o (value a) (value b) z u)

          carried : AreCarries o r → is_rmi (class_of c) ≡ true → is_rmi (class_of k) ≡ true → W (term_of e)
          carried j g h =
              at_layer (Expr-F.Bin o a b at) s
              (subst (λ v. W (bin o v (term_of b) at)) (sym (term_out a ∙ ap term_layer w))
              (subst (λ v. W (bin o (bin v (term_of c) (term_of k) inner) (term_of b) at)) (sym j.same)
              (carry_word z o (term_of c) (term_of k) b inner at j.computed j.carried (not_numbers kinds in_frame c k xc yk m) (word_there kinds in_frame c z xc (first_type r (value c) (value k) z inner_type) g)
              (word_there kinds in_frame k z yk (second_type r (value c) k z (ap is_computed j.same ∙ j.computed) h inner_type) h) (flag_there kinds in_frame b q f))))

          by_carries : (j : Bool) → carries o r ≡ j → AreOperands (class_of e) (if j then values.Carry o (beside asked d (Some c) c) (beside asked d (Some c) k) else values.Alone) → W (term_of e)
          by_carries false g h = itself h
          by_carries true g (inl h) = itself h
          by_carries true g (inr h) = carried (are_carries o r g) h.0 h.1

        flag_layer : is_flag (class_of b) ≡ true → (l : Layer) → out-Expr a ≡ l → IsPlainLayer kinds in_frame l → AreOperands (class_of e) (carry_layer asked d o l) → W (term_of e)
        flag_layer f (Expr-F.Bin r c k inner) w (of_two m x y) h = by_carries r c k inner w m x y f (carries o r) refl h
        flag_layer f (Expr-F.Num i here) w x h = itself h
        flag_layer f (Expr-F.Expr::Bool c here) w x h = itself h
        flag_layer f (Expr-F.Var v) w x h = itself h
        flag_layer f (Expr-F.Cell v i) w x h = itself h
        flag_layer f (Expr-F.Load c) w x h = itself h
        flag_layer f (Expr-F.Neg c here) w x h = itself h
        flag_layer f (Expr-F.Not c here) w x h = itself h
        flag_layer f (Expr-F.Cast y g c here) w x h = itself h

        flag_row : is_flag (class_of b) ≡ true → AreOperands (class_of e) (carry_layer asked d o (out-Expr a)) → W (term_of e)
        flag_row f h = by_plain p
          where
            by_plain : K a → W (term_of e)
            by_plain (expression y) = flag_layer f (out-Expr a) refl y h

        two_row : CountsFit o b → (c : Bool) → is_flag (class_of b) ≡ c → AreOperands (class_of e) (if c then carry_layer asked d o (out-Expr a) else two_beside asked d o a b) → W (term_of e)
        two_row f true g h = flag_row g h
        two_row f false g h = plain_row f h

      sign_row : (l : Layer) → out-Expr e ≡ l → (a : Expr) → ((is_number (term_of a) ≡ false) × W (term_of a) → W (term_layer l)) → is_inline a ≡ false → K a → HasType (value a) (word z) → (is_rmi (class_of e) ≡ true) ⊎ (is_rmi (class_of a) ≡ true) → W (term_of e)
      sign_row l s a f n y u (inl h) = itself h
      sign_row l s a f n y u (inr h) = at_layer l s (f (no_number kinds in_frame a y n, word_there kinds in_frame a z y u h))

      cast_row : (y : Size) (g : Bool) (a : Expr) (at : Span) → out-Expr e ≡ Expr-F.Cast y g a at → K a → Types (Expr-F.Cast y g a at) (word z) → (is_rmi (class_of e) ≡ true) ⊎ (is_rm (class_of a) ≡ true) → W (term_of e)
      cast_row y g a at s p u (inl h) = itself h
      cast_row y g a at s p u (inr h) = at_layer (Expr-F.Cast y g a at) s (cast_word z y g a at p u h)

      by_form : (l : Layer) → out-Expr e ≡ l → IsPlainLayer kinds in_frame l → Types l (word z) → AllFit l → AreOperands (class_of e) (value_layer asked d l) → W (term_of e)
      by_form (Expr-F.Num i at) s p u f h = itself h
      by_form (Expr-F.Expr::Bool b at) s p u f h = itself h
      by_form (Expr-F.Var v) s p u f h = itself h
      by_form (Expr-F.Cell v i) s p u f h = itself h
      by_form (Expr-F.Load a) s p u f h = itself h
      by_form (Expr-F.Neg a at) s (a_minus n y) u f h = sign_row (Expr-F.Neg a at) s a (λ w. w) n y (negated a at u) h
      by_form (Expr-F.Not a at) s (a_denial n y) u f h = sign_row (Expr-F.Not a at) s a (λ w. w) n y (inverted a at u) h
      by_form (Expr-F.Cast y g a at) s (a_cast p) u f h = cast_row y g a at s p u h
      by_form (Expr-F.Bin o a b at) s (of_two n p q) (judged.operation u) f h = two_row o a b at s n p q u (f n) (is_flag (class_of b)) refl h

    -- what the row of `d = e` gives
    pub value_word : (e : Expr) → K e → HasType (value e) (word z) → AllFit (out-Expr e) → AreOperands (class_of e) (value_layer asked d (out-Expr e)) → W (term_of e)
    value_word e x t f h = by_parts x t
      where
        by_parts : K e → HasType (value e) (word z) → W (term_of e)
        by_parts (expression p) (judged.expression u) = by_form e x t (out-Expr e) refl p u f h

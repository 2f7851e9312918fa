-- A typed test that the expansion leaves is an answer.
use Rattle.std.proofs.Common.{◌≡◌, Bool, true, false, not, ◌&&◌, ◌||◌, Option, Some, None, refl, sym, ap, ◌∙◌, subst, inl, inr}
use Rattle.std.specs.Prelude.{◌⊎◌}
use Rattle.std.specs.Option.{option_or}
use Rattle.std.proofs.lemmas.Bool.{false≢true, and_parts}
use Rattle.x64_insn.specs.Size.{Size}
use Rattle.jz_tree.specs.Span.{Span}
use Rattle.jz_tree.specs.declared.expr.BinOp.{BinOp}
use Rattle.jz_tree.specs.declared.expr.BinOp.TheVariants as op
use Rattle.jz_tree.specs.declared.expr.Expr.{Expr}
use Rattle.jz_tree.specs.declared.expr.Expr.TheOpen.{Expr-F}
use Rattle.jz_tree.specs.declared.expr.Expr.TheViews.{out-Expr, out-Access}
use Rattle.jz_tree.specs.declared.expr.Var.{Var}
use Rattle.jz_type_names.specs.Kinds.{known_of, is_inline}
use Rattle.jz_type_sizes.specs.declared.operators.Group.TheVariants as group
use Rattle.jz_type_sizes.specs.Operators.{group_of}
use Rattle.jz_select.specs.InnerLayers.{flags_layer}
use Rattle.jz_select.specs.Look.{look_of, compares_values}
use Rattle.jz_select.specs.Operands.{class_layer, class_of}
use Rattle.jz_select.specs.Rows.{is_m, is_i, is_rm, is_rmi}
use Rattle.jz_select.specs.Shapes.{has_flags, is_test, compares}
use Rattle.jz_select.proofs.Conditions.{flags_out}
use Rattle.jz_judgement.specs.Places.{integer, truth, word, Goes}
use Rattle.jz_judgement.specs.HasType as judged
use Rattle.jz_judgement.specs.HasType.{Layer, value, HasType, Types, Accesses, Operates, Says, LayerSays}
use Rattle.jz_meaning.specs.States.{Key}
use Rattle.jz_meaning.specs.Values.{size_of, left_wanted}
use Rattle.jz_run_laws.specs.Kinds.{Kinds}
use Rattle.jz_row_laws.proofs.Booleans.{or_parts, or_left}
use Rattle.jz_terms.specs.Terms.{bin, term_of, place_of, size_in}
use Rattle.jz_terms.proofs.Bridge.{term_layer}
use Rattle.jz_standing.specs.Typing.{is_compared, IsWord, IsAnswer}
use Rattle.jz_plain_operands.specs.Plain.{IsPlain, a_word, a_slot, a_flag, an_array, IsPlainExpr, expression, IsPlainLayer, a_number, a_truth, a_variable, a_cell, a_load, a_minus, a_denial, a_cast, of_two}
use Rattle.jz_plain_operands.specs.PlainLaws.{TestsAreAnswers}
use Rattle.jz_plain_operands.proofs.Layers.{term_out, place_out, condition_truth, not_numbers, two_not, sign_not}
use Rattle.jz_plain_operands.proofs.Operands.{word_there, flag_variable}

-- ---- operators
compared : (o : BinOp) → compares_values o ≡ true → is_compared o ≡ true
compared op.Eq h = refl
compared op.Ne h = refl
compared op.Lt h = refl
compared op.Le h = refl
compared op.Gt h = refl
compared op.Ge h = refl
compared op.LtS h = refl
compared op.LeS h = refl
compared op.GtS h = refl
compared op.GeS h = refl
compared o h = absurd (false≢true h)

compared_wants : (o : BinOp) (a b : Option Size) → compares_values o ≡ true → left_wanted o None a b ≡ option_or a b
compared_wants op.Eq a b h = refl
compared_wants op.Ne a b h = refl
compared_wants op.Lt a b h = refl
compared_wants op.Le a b h = refl
compared_wants op.Gt a b h = refl
compared_wants op.Ge a b h = refl
compared_wants op.LtS a b h = refl
compared_wants op.LeS a b h = refl
compared_wants op.GtS a b h = refl
compared_wants op.GeS a b h = refl
compared_wants o a b h = absurd (false≢true h)

compare_group : (o : BinOp) → compares_values o ≡ true → group_of o ≡ group.Compare
compare_group op.Eq h = refl
compare_group op.Ne h = refl
compare_group op.Lt h = refl
compare_group op.Le h = refl
compare_group op.Gt h = refl
compare_group op.Ge h = refl
compare_group op.LtS h = refl
compare_group op.LeS h = refl
compare_group op.GtS h = refl
compare_group op.GeS h = refl
compare_group o h = absurd (false≢true h)

logic_not : group.Compare ≡ group.Logic → ⊥
logic_not e = cc

-- ---- sizes
abbrev pub IsSizeOf : Size → Option Size → Type 0
IsSizeOf z o = (o ≡ None) ⊎ (o ≡ Some z)

or_size : (o : Option Size) (z : Size) → option_or o (Some z) ≡ Some z → IsSizeOf z o
or_size None z h = inl refl
or_size (Some y) z h = inr h

either_size : (a b : Option Size) (z : Size) → IsSizeOf z a → (a ≡ Some z) ⊎ (b ≡ Some z) → option_or a b ≡ Some z
either_size a b z (inr e) h = ap (λ k. option_or k b) e
either_size a b z (inl e) (inl f) = ap (λ k. option_or k b) f
either_size a b z (inl e) (inr f) = ap (λ k. option_or k b) e ∙ f

module _ (kinds : Kinds) (in_frame : Key → Bool) where
  -- ---- a register or memory is no integer
  access_integer : (a : judged.AccessLayer) → Accesses a integer → ⊥
  access_integer a (judged.sized z s t x) = t

  goes_integer : (v : Var) → IsPlain kinds in_frame v → Goes (known_of v) integer → ⊥
  goes_integer v (a_word z d k s) g = subst (λ q. Goes q integer) d g
  goes_integer v (a_slot z d k s) g = subst (λ q. Goes q integer) d g
  goes_integer v (a_flag d k s) g = subst (λ q. Goes q integer) d g
  goes_integer v (an_array z n d a) g = subst (λ q. Goes q integer) d g

  integer_layer : (l : Layer) → IsPlainLayer kinds in_frame l → is_rm (class_layer l) ≡ true → Types l integer → ⊥
  integer_layer (Expr-F.Num i at) a_number h t = false≢true h
  integer_layer (Expr-F.Expr::Bool b at) a_truth h t = false≢true h
  integer_layer (Expr-F.Var v) (a_variable x) h (judged.variable g) = goes_integer v x g
  integer_layer (Expr-F.Cell v i) (a_cell x y) h (judged.cell z a k t) = k
  integer_layer (Expr-F.Load a) (a_load x) h (judged.load t) = access_integer (out-Access a) t
  integer_layer (Expr-F.Neg a at) (a_minus n x) h t = sign_not kinds in_frame is_rm a refl n x h
  integer_layer (Expr-F.Not a at) (a_denial n x) h t = sign_not kinds in_frame is_rm a refl n x h
  integer_layer (Expr-F.Cast z s a at) (a_cast x) h t = false≢true h
  integer_layer (Expr-F.Bin o a b at) (of_two n x y) h t = two_not kinds in_frame is_rm refl refl refl o a b at n x y h

  no_integer : (e : Expr) → IsPlainExpr kinds in_frame e → is_rm (class_of e) ≡ true → HasType (value e) integer → ⊥
  no_integer e (expression x) h (judged.expression t) = integer_layer (out-Expr e) x h t

  -- ---- the size that an operand has by itself
  size_layer : (l : Layer) (z : Size) → IsPlainLayer kinds in_frame l → is_rmi (class_layer l) ≡ true → IsWord kinds in_frame (Some z) z (term_layer l) → IsSizeOf z (size_in (term_layer l))
  size_layer (Expr-F.Num i at) z a_number h w = inl refl
  size_layer (Expr-F.Expr::Bool b at) z a_truth h w = absurd (false≢true h)
  size_layer (Expr-F.Var v) z (a_variable x) h w = inr (ap size_of w.0)
  size_layer (Expr-F.Cell v i) z (a_cell x y) h w = inr (ap size_of w.1.is)
  size_layer (Expr-F.Load a) z (a_load x) h w = or_size (place_of a).spot.size z w.0
  size_layer (Expr-F.Neg a at) z (a_minus n x) h w = absurd (sign_not kinds in_frame is_rmi a refl n x h)
  size_layer (Expr-F.Not a at) z (a_denial n x) h w = absurd (sign_not kinds in_frame is_rmi a refl n x h)
  size_layer (Expr-F.Cast y s a at) z (a_cast x) h w = absurd (false≢true h)
  size_layer (Expr-F.Bin o a b at) z (of_two n x y) h w = absurd (two_not kinds in_frame is_rmi refl refl refl o a b at n x y h)

  said_layer : (l : Layer) (z : Size) → IsPlainLayer kinds in_frame l → is_rmi (class_layer l) ≡ true → IsWord kinds in_frame (Some z) z (term_layer l) → LayerSays l z → size_in (term_layer l) ≡ Some z
  said_layer (Expr-F.Num i at) z a_number h w q = elim q [ ]
  said_layer (Expr-F.Expr::Bool b at) z a_truth h w q = absurd (false≢true h)
  said_layer (Expr-F.Var v) z (a_variable x) h w q = ap size_of w.0
  said_layer (Expr-F.Cell v i) z (a_cell x y) h w q = ap size_of w.1.is
  said_layer (Expr-F.Load a) z (a_load x) h w (judged.load q) = ap (λ k. k.spot.size) (place_out a) ∙ q
  said_layer (Expr-F.Neg a at) z (a_minus n x) h w q = absurd (sign_not kinds in_frame is_rmi a refl n x h)
  said_layer (Expr-F.Not a at) z (a_denial n x) h w q = absurd (sign_not kinds in_frame is_rmi a refl n x h)
  said_layer (Expr-F.Cast y s a at) z (a_cast x) h w q = absurd (false≢true h)
  said_layer (Expr-F.Bin o a b at) z (of_two n x y) h w q = absurd (two_not kinds in_frame is_rmi refl refl refl o a b at n x y h)

  pub size_there : (e : Expr) (z : Size) → IsPlainExpr kinds in_frame e → is_rmi (class_of e) ≡ true → IsWord kinds in_frame (Some z) z (term_of e) → IsSizeOf z (size_in (term_of e))
  size_there e z (expression x) h w =
      subst (λ y. IsSizeOf z (size_in y)) (sym (term_out e)) (size_layer (out-Expr e) z x h (subst (λ y. IsWord kinds in_frame (Some z) z y) (term_out e) w))

  pub said_there : (e : Expr) (z : Size) → IsPlainExpr kinds in_frame e → is_rmi (class_of e) ≡ true → IsWord kinds in_frame (Some z) z (term_of e) → Says (value e) z → size_in (term_of e) ≡ Some z
  said_there e z (expression x) h w (judged.expression q) =
      subst (λ y. size_in y ≡ Some z) (sym (term_out e)) (said_layer (out-Expr e) z x h (subst (λ y. IsWord kinds in_frame (Some z) z y) (term_out e) w) q)

  -- ---- comparisons
  record BothWords (a b : Expr) : Type 0 where
    pub size : Size
    pub says : Says (value a) size ⊎ Says (value b) size
    pub first : HasType (value a) (word size)
    pub second : HasType (value b) (word size)

  both_words : (o : BinOp) (a b : Expr) → IsPlainExpr kinds in_frame a → is_rm (class_of a) ≡ true → compares_values o ≡ true → Operates o (value a) (value b) truth → BothWords a b
  both_words o a b x r c (judged.words z g s t u) = record { size = z; says = s; first = t; second = u }
  both_words o a b x r c (judged.integers g m t u) = absurd (no_integer a x r t)
  both_words o a b x r c (judged.arithmetic g k m t u) = absurd k
  both_words o a b x r c (judged.carry s k t u) = absurd k
  both_words o a b x r c (judged.shift g k m t u) = absurd k
  both_words o a b x r c (judged.logic g t u) = absurd (logic_not (sym (compare_group o c) ∙ g))

  comparison : (o : BinOp) (a b : Expr) (at : Span) → (is_inline a && is_inline b) ≡ false → IsPlainExpr kinds in_frame a → IsPlainExpr kinds in_frame b → Operates o (value a) (value b) truth
      → compares o (class_of a) (class_of b) ≡ true → IsAnswer kinds in_frame (bin o (term_of a) (term_of b) at)
  comparison o a b at n x y t h =
      let p = and_parts (compares_values o) _ h in
      let q = and_parts (is_rm (class_of a)) _ p.1 in
      let r = and_parts (is_rmi (class_of b)) (not (is_m (class_of a) && is_m (class_of b))) q.1 in
      let w = both_words o a b x q.0 p.0 t in
      let f = or_left (is_rm (class_of a)) (is_i (class_of a)) q.0 in
      let A = word_there kinds in_frame a w.size x w.first f in
      let B = word_there kinds in_frame b w.size y w.second r.0 in
      let e : left_wanted o None (size_in (term_of a)) (size_in (term_of b)) ≡ Some w.size =
      compared_wants o (size_in (term_of a)) (size_in (term_of b)) p.0
      ∙ either_size (size_in (term_of a)) (size_in (term_of b)) w.size (size_there a w.size x f A) (says_one a b w.size x y f r.0 A B w.says)
      in (
        compared o p.0,
        w.size,
        e,
        not_numbers kinds in_frame a b x y n,
        subst (λ k. IsWord kinds in_frame k w.size (term_of a)) (sym e) A,
        subst (λ k. IsWord kinds in_frame k w.size (term_of b)) (sym e) B,
      )
    where
      says_one : (a b : Expr) (z : Size) → IsPlainExpr kinds in_frame a → IsPlainExpr kinds in_frame b → is_rmi (class_of a) ≡ true → is_rmi (class_of b) ≡ true → IsWord kinds in_frame (Some z) z (term_of a)
          → IsWord kinds in_frame (Some z) z (term_of b) → Says (value a) z ⊎ Says (value b) z → (size_in (term_of a) ≡ Some z) ⊎ (size_in (term_of b) ≡ Some z)
      says_one a b z x y f g A B (inl s) = inl (said_there a z x f A s)
      says_one a b z x y f g A B (inr s) = inr (said_there b z y g B s)

  -- ---- tests
  mutual
    pub flagged : (c : Expr) → IsPlainExpr kinds in_frame c → HasType (value c) truth → has_flags c ≡ true → IsAnswer kinds in_frame (term_of c)
    flagged c (expression x) (judged.expression t) h =
        subst (λ y. IsAnswer kinds in_frame y) (sym (term_out c)) (flagged_layer (out-Expr c) x t (sym (flags_out c) ∙ h))

    flagged_layer : (l : Layer) → IsPlainLayer kinds in_frame l → Types l truth → flags_layer l ≡ true → IsAnswer kinds in_frame (term_layer l)
    flagged_layer (Expr-F.Num i at) a_number t h = absurd (false≢true h)
    flagged_layer (Expr-F.Expr::Bool b at) a_truth t h = tt
    flagged_layer (Expr-F.Var v) (a_variable x) t h = flag_variable kinds in_frame v x h
    flagged_layer (Expr-F.Cell v i) (a_cell x y) t h = absurd (false≢true h)
    flagged_layer (Expr-F.Load a) (a_load x) t h = absurd (false≢true h)
    flagged_layer (Expr-F.Neg a at) (a_minus n x) t h = absurd (false≢true h)
    flagged_layer (Expr-F.Not a at) (a_denial n x) (judged.inverted t) h = flagged a x t h
    flagged_layer (Expr-F.Cast y s a at) (a_cast x) t h = absurd (false≢true h)
    flagged_layer (Expr-F.Bin o a b at) (of_two n x y) (judged.operation t) h = comparison o a b at n x y t h

  pub answer_there : (c : Expr) → IsPlainExpr kinds in_frame c → HasType (value c) truth → is_test c ≡ true → IsAnswer kinds in_frame (term_of c)
  answer_there c x t h = by_form (or_parts (has_flags c) (look_of c).condition h)
    where
      by_form : (has_flags c ≡ true) ⊎ ((look_of c).condition ≡ true) → IsAnswer kinds in_frame (term_of c)
      by_form (inl f) = flagged c x t f
      by_form (inr g) =
          let b = condition_truth kinds in_frame c x g in
          subst (λ y. IsAnswer kinds in_frame y) (sym (term_out c ∙ ap term_layer b.2)) tt

pub tests_are_answers : TestsAreAnswers
tests_are_answers kinds in_frame c x t h = answer_there kinds in_frame c x t h

-- What is fine is fixed.
use Rattle.std.proofs.Common.{◌≡◌, ◌⊎◌, inl, inr, Bool, true, false, List, [], ◌∷◌, ◌++◌, map, Option, Some, None, refl, sym, ap, subst, ◌∙◌}
use Rattle.std.specs.Prelude.{All}
use Rattle.std.proofs.lemmas.List.Elements.{All-head, All-tail}
use Rattle.std.specs.Option.{option_or}
use Rattle.std.proofs.lemmas.Bool.{true≢false}
use Rattle.x64_insn.specs.Size.{Size}
use Rattle.jz_tree.specs.Operators.{joins, is_shift}
use Rattle.jz_tree.specs.Spellings.{spelled}
use Rattle.jz_tree.specs.Span.{Span}
use Rattle.jz_tree.specs.declared.expr.BinOp.{BinOp}
use Rattle.jz_tree.specs.declared.expr.BinOp.TheVariants as o
use Rattle.jz_tree.specs.declared.expr.Expr.{Expr}
use Rattle.jz_tree.specs.declared.expr.Expr.TheVariants as expr
use Rattle.jz_tree.specs.declared.expr.Expr.TheOpen.{Expr-F}
use Rattle.jz_tree.specs.declared.expr.Expr.TheViews.{out-Expr}
use Rattle.jz_tree.specs.declared.expr.Var.{Var}
use Rattle.jz_tree.specs.declared.program.Fun.{Fun}
use Rattle.jz_tree.specs.declared.program.Param.{Param}
use Rattle.jz_tree.specs.declared.stmt.Lval.{Lval}
use Rattle.jz_tree.specs.declared.stmt.Lval.TheVariants as lval
use Rattle.jz_tree.specs.declared.intrinsic.Instance.{Instance}
use Rattle.jz_runs.specs.Trees.{done, op, quiet, choose, loop, each, call}
use Rattle.jz_meaning.specs.States.{Key}
use Rattle.jz_meaning.specs.Values.{Ref, ref_of, own_size, left_wanted}
use Rattle.jz_meaning.specs.Assignments.{left_sizes, whole_of}
use Rattle.jz_meaning.specs.Statements.{Operation, assign, instruction, unset, meaningless, Condition, Block}
use Rattle.jz_judgement.proofs.Nothing.{same_some}
use Rattle.jz_run_laws.specs.Kinds.{Kinds}
use Rattle.jz_flow.specs.Soundness.{AllAre}
use Rattle.jz_terms.specs.Terms.{Term, num, truth, var, cell, load, neg, inv, cast, bin, term_of, place_of, size_in}
use Rattle.jz_terms.proofs.TermForms.{term_var}
use Rattle.jz_fact_laws.specs.Saying.{is_number}
use Rattle.jz_standing.specs.Typing.{is_computed, is_compared, is_carried, IsScalar, IsFlag, IsCount, IsSum, IsWord, IsAnswer, HasAnswer}
use Rattle.jz_standing.proofs.SumForms.{summed}
use Rattle.jz_standing.proofs.Counts.{counted}
use Rattle.jz_assigned.specs.AssignedLaws.{IsOne}
use Rattle.jz_instructed.specs.Instructed.{Shape, a_flag, a_word, a_pinned, Form, one_word, two_words, three_words, with_carry, with_count, an_address, a_condition, form_of, shapes_of, TakesShape, TakeShapes, AreOperands, IsInstructed}
use Rattle.jz_fact_runs.specs.TwoResults.{Pair, of_sum, of_difference, of_product, op_of, before, last_of, IsPair, IsCarriedPair, IsPaired}
use Rattle.jz_fact_runs.specs.Fine.{IsFine, IsFineTest, AreAssigned}
use Rattle.jz_labels.specs.Operations.{left_of, read_if, old_of, with_condition, plain_of}
use Rattle.jz_equal_leaks.specs.Fixed.{IsSilent, IsFixed, AreFixed, IsFixedLeft, AreFixedLefts, IsFixedOperation, IsFixedTest, AreScalars}
use Rattle.jz_equal_leaks.specs.Laws.{IsFixedFunction}
use Rattle.jz_equal_leaks.proofs.RightSides.{term_of_two}

-- an operator of such a kind is neither `&&` nor `||`
not_joined : (f : BinOp → Bool) → f o.AndThen ≡ false → f o.OrElse ≡ false → (op : BinOp) → f op ≡ true → joins op ≡ true → ⊥
not_joined f a b o.OrElse h j = true≢false (sym h ∙ b)
not_joined f a b o.AndThen h j = true≢false (sym h ∙ a)
not_joined f a b o.Or h j = absurd (cc j)
not_joined f a b o.Xor h j = absurd (cc j)
not_joined f a b o.And h j = absurd (cc j)
not_joined f a b o.Eq h j = absurd (cc j)
not_joined f a b o.Ne h j = absurd (cc j)
not_joined f a b o.Lt h j = absurd (cc j)
not_joined f a b o.Le h j = absurd (cc j)
not_joined f a b o.Gt h j = absurd (cc j)
not_joined f a b o.Ge h j = absurd (cc j)
not_joined f a b o.LtS h j = absurd (cc j)
not_joined f a b o.LeS h j = absurd (cc j)
not_joined f a b o.GtS h j = absurd (cc j)
not_joined f a b o.GeS h j = absurd (cc j)
not_joined f a b o.Shl h j = absurd (cc j)
not_joined f a b o.Shr h j = absurd (cc j)
not_joined f a b o.Sar h j = absurd (cc j)
not_joined f a b o.Rol h j = absurd (cc j)
not_joined f a b o.Ror h j = absurd (cc j)
not_joined f a b o.Add h j = absurd (cc j)
not_joined f a b o.Sub h j = absurd (cc j)
not_joined f a b o.Mul h j = absurd (cc j)
not_joined f a b o.Div h j = absurd (cc j)
not_joined f a b o.Rem h j = absurd (cc j)
not_joined f a b o.DivS h j = absurd (cc j)
not_joined f a b o.RemS h j = absurd (cc j)

module _ (kinds : Kinds) (in_frame : Key → Bool) where
  -- ---- terms

  flag_fixed : (t : Term) → IsFlag kinds in_frame t → IsFixed in_frame t
  flag_fixed (num i at) h = absurd h
  flag_fixed (truth b at) h = absurd h
  flag_fixed (var x) h = h.1.apart
  flag_fixed (cell x i) h = absurd h
  flag_fixed (load p a) h = absurd h
  flag_fixed (neg a at) h = absurd h
  flag_fixed (inv a at) h = absurd h
  flag_fixed (cast z sign a at) h = absurd h
  flag_fixed (bin q a b at) h = absurd h

  sum_fixed : (t : Term) → IsSum kinds in_frame t → IsFixed in_frame t
  sum_fixed =
      summed kinds in_frame (λ t. IsFixed in_frame t) (λ i at. tt) (λ x e i. i.apart)
      (λ k t x at e i. (tt, i.apart, λ j. absurd (cc j))) (λ x k t at e i. (i.apart, tt, λ j. absurd (cc j)))
      (λ a b at n i j p q. (p, q, λ r. absurd (cc r))) (λ a i t at n j p. (p, tt, λ r. absurd (cc r)))

  count_fixed : (t : Term) → IsCount kinds in_frame t → IsFixed in_frame t
  count_fixed = counted kinds in_frame (λ t. IsFixed in_frame t) (λ n at. tt) (λ x n t at e i. (i.apart, tt, λ j. absurd (cc j)))

  -- what is read on the right
  right_fixed : (q : BinOp) (a b : Term) (z : Size) (v : Option Size) → ((is_shift q ≡ true) × IsCount kinds in_frame b) ⊎ (((is_computed q ≡ true) × IsWord kinds in_frame v z b) ⊎ ((is_carried q ≡ true) × (is_number a ≡ false) × IsFlag kinds in_frame b))
      → (IsWord kinds in_frame v z b → IsFixed in_frame b) → IsFixed in_frame b × (joins q ≡ true → IsSilent b)
  right_fixed q a b z v (inl i) f = (count_fixed b i.1, λ j. absurd (not_joined is_shift refl refl q i.0 j))
  right_fixed q a b z v (inr (inl i)) f = (f i.1, λ j. absurd (not_joined is_computed refl refl q i.0 j))
  right_fixed q a b z v (inr (inr i)) f = (flag_fixed b i.2, λ j. absurd (not_joined is_carried refl refl q i.0 j))

  word_fixed : (t : Term) (w : Option Size) (z : Size) → IsWord kinds in_frame w z t → IsFixed in_frame t
  word_fixed (num i at) w z h = tt
  word_fixed (truth b at) w z h = absurd h
  word_fixed (var x) w z h = h.1.apart
  word_fixed (cell x i) w z h = ((h.1.framed, h.1.entire), sum_fixed i h.2)
  word_fixed (load p a) w z h = sum_fixed a h.1
  word_fixed (neg a at) w z h = word_fixed a (option_or w (size_in a)) z h.1
  word_fixed (inv a at) w z h = word_fixed a (option_or w (size_in a)) z h.1
  word_fixed (cast y sign a at) w z h = word_fixed a (size_in a) h.1 h.3
  word_fixed (bin q a b at) w z h =
      let v = left_wanted q w (size_in a) (size_in b) in
      let r = right_fixed q a b z v h.3 (λ k. word_fixed b v z k) in (word_fixed a v z h.2, r.0, r.1)

  answer_fixed : (t : Term) → IsAnswer kinds in_frame t → IsFixed in_frame t
  answer_fixed (num i at) h = absurd h
  answer_fixed (truth b at) h = tt
  answer_fixed (var x) h = h.1.apart
  answer_fixed (cell x i) h = absurd h
  answer_fixed (load p a) h = absurd h
  answer_fixed (neg a at) h = absurd h
  answer_fixed (inv a at) h = answer_fixed a h
  answer_fixed (cast z sign a at) h = absurd h
  answer_fixed (bin q a b at) h =
      let v = left_wanted q None (size_in a) (size_in b) in
      (word_fixed a v h.1 h.4, word_fixed b v h.1 h.5, λ j. absurd (not_joined is_compared refl refl q h.0 j))

  -- ---- what is read

  read_fixed : (w : Option Expr) (ts : List Term) → ((e : Expr) → w ≡ Some e → IsFixed in_frame (term_of e)) → AreFixed in_frame ts → AreFixed in_frame (read_if w ++ ts)
  read_fixed None ts h r = r
  read_fixed (Some e) ts h r = (h e refl, r)

  condition_fixed : (x : Var) (c : Option Expr) → IsScalar kinds in_frame (ref_of x) → HasAnswer kinds in_frame c → AreFixed in_frame (with_condition c (Some (lval.Var x)))
  condition_fixed x None i h = tt
  condition_fixed x (Some c) i h =
      (answer_fixed (term_of c) h, (subst (λ (t : Term). IsFixed in_frame t) (sym (term_var (expr.Var x) x refl)) i.apart, tt))

  -- ---- assignments

  one_fixed : (d : Lval) (p : Option BinOp) (e : Expr) (c : Option Expr) (at : Span) → IsOne kinds in_frame d p e c → IsFixedOperation in_frame (assign (d ∷ []) p e c at)
  one_fixed (lval.Skip s) p e c at h = absurd h
  one_fixed (lval.Var x) p e c at h = (
    read_fixed (whole_of (Some (lval.Var x)) p e) (with_condition c (Some (lval.Var x))) (λ w q. word_fixed (term_of w) (Some h.0.size) h.0.size (h.0.value w q)) (condition_fixed x c h.0.scalar h.1),
    (h.0.scalar.apart, tt),
  )
  one_fixed (lval.Cell x i) p e None at h = (
    read_fixed (whole_of (Some (lval.Cell x i)) p e) [] (λ w q. word_fixed (term_of w) (Some h.size) h.size (h.value w q)) tt,
    (((h.array.framed, h.array.entire), sum_fixed (term_of i) h.index), tt),
  )
  one_fixed (lval.Cell x i) p e (Some c) at h = absurd h
  one_fixed (lval.Store a) p e None at h =
      (read_fixed (whole_of (Some (lval.Store a)) p e) [] (λ w q. word_fixed (term_of w) (option_or (left_sizes (lval.Store a ∷ [])) (own_size w)) h.size (h.value w q).1) tt, (sum_fixed (place_of a).at h.address, tt))
  one_fixed (lval.Store a) p e (Some c) at h = absurd h

  no_join : (p : Pair) → joins (op_of p) ≡ true → ⊥
  no_join of_sum j = absurd (cc j)
  no_join of_difference j = absurd (cc j)
  no_join of_product j = absurd (cc j)

  shape_fixed : (s : Shape) (d : Lval) → TakesShape kinds in_frame s d → IsFixedLeft in_frame (left_of d)
  shape_fixed s (lval.Skip at) h = tt
  shape_fixed a_flag (lval.Var x) h = h.1.apart
  shape_fixed (a_word z) (lval.Var x) h = h.1.apart
  shape_fixed (a_pinned z) (lval.Var x) h = h.1.apart
  shape_fixed a_flag (lval.Cell x i) h = absurd h
  shape_fixed (a_word z) (lval.Cell x i) h = ((h.1.framed, h.1.entire), sum_fixed (term_of i) h.2)
  shape_fixed (a_pinned z) (lval.Cell x i) h = absurd h
  shape_fixed a_flag (lval.Store a) h = absurd h
  shape_fixed (a_word z) (lval.Store a) h = sum_fixed (place_of a).at h.1
  shape_fixed (a_pinned z) (lval.Store a) h = absurd h

  shapes_fixed : (ss : List Shape) (ds : List Lval) → TakeShapes kinds in_frame ss ds → AreFixedLefts in_frame (map left_of ds)
  shapes_fixed [] [] h = tt
  shapes_fixed [] (d ∷ ds) h = absurd h
  shapes_fixed (s ∷ ss) [] h = absurd h
  shapes_fixed (s ∷ ss) (d ∷ ds) h = (shape_fixed s d h.0, shapes_fixed ss ds h.1)

  pair_fixed : (p : Pair) (z : Size) (w : Expr) → IsPair kinds in_frame p z w ⊎ IsCarriedPair kinds in_frame p z w → IsFixed in_frame (term_of w)
  pair_fixed p z w (inl h) =
      subst (λ (t : Term). IsFixed in_frame t) (sym (term_of_two w (op_of p) h.left h.right h.at h.is))
      (word_fixed (term_of h.left) (Some z) z h.first, word_fixed (term_of h.right) (Some z) z h.second, λ j. absurd (no_join p j))
  pair_fixed p z w (inr h) =
      subst (λ (t : Term). IsFixed in_frame t) (sym (term_of_two w (op_of p) h.inner h.flag h.at h.is)) (
        subst (λ (t : Term). IsFixed in_frame t) (sym (term_of_two h.inner (op_of p) h.left h.right h.inner_at h.inner_is))
            (word_fixed (term_of h.left) (Some z) z h.first, word_fixed (term_of h.right) (Some z) z h.second, λ j. absurd (no_join p j)),
        flag_fixed (term_of h.flag) h.third,
        λ j. absurd (no_join p j),
      )

  two_fixed : (d b : Lval) (p : Option BinOp) (e : Expr) (at : Span) → IsPaired kinds in_frame d b p e → IsFixedOperation in_frame (assign (d ∷ b ∷ []) p e None at)
  two_fixed d b p e at h = (
    read_fixed (whole_of (Some b) p e) [] (λ w q. pair_fixed h.pair h.size w (subst (λ y. IsPair kinds in_frame h.pair h.size y ⊎ IsCarriedPair kinds in_frame h.pair h.size y) (same_some h.whole w (sym h.is ∙ q)) h.value)) tt,
    (shape_fixed (before h.pair h.size) d h.first, (shape_fixed (last_of h.pair h.size) b h.last, tt)),
  )

  assigned_fixed : (to : List Lval) (p : Option BinOp) (e : Expr) (c : Option Expr) (at : Span) → AreAssigned kinds in_frame to p e c → IsFixedOperation in_frame (assign to p e c at)
  assigned_fixed [] p e c at h = absurd h
  assigned_fixed (d ∷ []) p e c at h = one_fixed d p e c at h
  assigned_fixed (d ∷ b ∷ []) p e None at h = two_fixed d b p e at h
  assigned_fixed (d ∷ b ∷ []) p e (Some c) at h = absurd h
  assigned_fixed (d ∷ f ∷ g ∷ ds) p e c at h = absurd h

  -- ---- instructions

  operands_fixed : (f : Form) (z : Size) (es : List Expr) → AreOperands kinds in_frame f z es → AreFixed in_frame (map term_of es)
  operands_fixed one_word z (a ∷ []) h = (word_fixed (term_of a) (Some z) z h, tt)
  operands_fixed one_word z [] h = absurd h
  operands_fixed one_word z (a ∷ b ∷ es) h = absurd h
  operands_fixed two_words z (a ∷ b ∷ []) h = (word_fixed (term_of a) (Some z) z h.0, (word_fixed (term_of b) (Some z) z h.1, tt))
  operands_fixed two_words z [] h = absurd h
  operands_fixed two_words z (a ∷ []) h = absurd h
  operands_fixed two_words z (a ∷ b ∷ c ∷ es) h = absurd h
  operands_fixed with_carry z (a ∷ b ∷ c ∷ []) h =
      (word_fixed (term_of a) (Some z) z h.0, (word_fixed (term_of b) (Some z) z h.1, (flag_fixed (term_of c) h.2, tt)))
  operands_fixed with_carry z [] h = absurd h
  operands_fixed with_carry z (a ∷ []) h = absurd h
  operands_fixed with_carry z (a ∷ b ∷ []) h = absurd h
  operands_fixed with_carry z (a ∷ b ∷ c ∷ d ∷ es) h = absurd h
  operands_fixed three_words z (a ∷ b ∷ c ∷ []) h =
      (word_fixed (term_of a) (Some z) z h.0, (word_fixed (term_of b) (Some z) z h.1, (word_fixed (term_of c) (Some z) z h.2, tt)))
  operands_fixed three_words z [] h = absurd h
  operands_fixed three_words z (a ∷ []) h = absurd h
  operands_fixed three_words z (a ∷ b ∷ []) h = absurd h
  operands_fixed three_words z (a ∷ b ∷ c ∷ d ∷ es) h = absurd h
  operands_fixed with_count z (a ∷ n ∷ []) h = (word_fixed (term_of a) (Some z) z h.0, (count_fixed (term_of n) h.1, tt))
  operands_fixed with_count z [] h = absurd h
  operands_fixed with_count z (a ∷ []) h = absurd h
  operands_fixed with_count z (a ∷ n ∷ c ∷ es) h = absurd h
  operands_fixed an_address z (a ∷ []) h = (sum_fixed (term_of a) h, tt)
  operands_fixed an_address z [] h = absurd h
  operands_fixed an_address z (a ∷ b ∷ es) h = absurd h
  operands_fixed a_condition z (c ∷ []) h = (answer_fixed (term_of c) h, tt)
  operands_fixed a_condition z [] h = absurd h
  operands_fixed a_condition z (a ∷ b ∷ es) h = absurd h

  instructed_fixed : (i : Option Instance) (to : List Lval) (args : List Expr) → IsInstructed kinds in_frame i to args → AreFixed in_frame (map term_of args) × AreFixedLefts in_frame (map left_of to)
  instructed_fixed None to args h = absurd h
  instructed_fixed (Some i) to args h = (operands_fixed (form_of i.name) h.0 args h.2, shapes_fixed (shapes_of i.name h.0) to h.3)

  operation_fixed : (p : Operation) → IsFine kinds in_frame p → IsFixedOperation in_frame p
  operation_fixed (assign to q e c at) h = assigned_fixed to q e c at h
  operation_fixed (instruction to n args at) h = instructed_fixed (spelled n) to args h
  operation_fixed (unset xs) h = (tt, tt)
  operation_fixed (meaningless at) h = absurd h

  -- ---- bodies

  pub bodies_fixed : (b : Block) → AllAre (IsFine kinds in_frame) (IsFineTest kinds in_frame) b → AllAre (IsFixedOperation in_frame) (IsFixedTest in_frame) b
  bodies_fixed done h = tt
  bodies_fixed (op p r) h = (operation_fixed p h.0, bodies_fixed r h.1)
  bodies_fixed (quiet p r) h = (operation_fixed p h.0, bodies_fixed r h.1)
  bodies_fixed (choose c a b r) h = (answer_fixed (term_of c.cond) h.0, bodies_fixed a h.1, bodies_fixed b h.2, bodies_fixed r h.3)
  bodies_fixed (loop q p c b r) h = (answer_fixed (term_of c.cond) h.0, bodies_fixed p h.1, bodies_fixed b h.2, bodies_fixed r h.3)
  bodies_fixed (each f b r) h = absurd h
  bodies_fixed (call c b r) h = absurd h

  params_fixed : (ps : List Param) → All (λ (q : Param). IsScalar kinds in_frame (ref_of q.var)) ps → AreScalars in_frame ps
  params_fixed [] h = tt
  params_fixed (p ∷ ps) h = (
    (All-head (λ (q : Param). IsScalar kinds in_frame (ref_of q.var)) p ps h).apart,
    params_fixed ps (All-tail (λ (q : Param). IsScalar kinds in_frame (ref_of q.var)) p ps h),
  )

  pub function_fixed : (f : Fun) (b : Block) → All (λ (q : Param). IsScalar kinds in_frame (ref_of q.var)) f.params → AllAre (IsFine kinds in_frame) (IsFineTest kinds in_frame) b → IsFixedFunction f b
  function_fixed f b p h = record { in_frame = in_frame; params = params_fixed f.params p; nodes = bodies_fixed b h }

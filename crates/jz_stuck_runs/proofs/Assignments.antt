-- Each assignment of a typed program.
use Rattle.std.proofs.Common.{◌≡◌, ℕ, Bool, true, false, not, ◌&&◌, List, [], ◌∷◌, Option, Some, None, refl, sym, ap, ◌∙◌, subst, inl, inr, if◌then◌else◌}
use Rattle.std.specs.Prelude.{◌⊎◌, All, option_to_list}
use Rattle.std.specs.Option.{option_or}
use Rattle.std.proofs.lemmas.Bool.{false≢true, and_parts}
use Rattle.std.proofs.lemmas.List.Elements.{All-nil, All-cons, All-head, All-tail}
use Rattle.jz_tree.specs.Operators.{carries}
use Rattle.jz_tree.specs.Span.{Span}
use Rattle.jz_tree.specs.Size.{Size}
use Rattle.jz_tree.specs.declared.expr.BinOp.{BinOp}
use Rattle.jz_tree.specs.declared.expr.BinOp.TheVariants as op
use Rattle.jz_tree.specs.declared.expr.Storage.{Storage}
use Rattle.jz_tree.specs.declared.expr.Storage.TheVariants as storage
use Rattle.jz_tree.specs.declared.expr.Expr.{Expr}
use Rattle.jz_tree.specs.declared.expr.Expr.TheVariants as expr
use Rattle.jz_tree.specs.declared.expr.Ty.{Ty}
use Rattle.jz_tree.specs.declared.expr.Access.{Access}
use Rattle.jz_tree.specs.declared.expr.Decl.{Decl}
use Rattle.jz_tree.specs.declared.expr.Var.{Var}
use Rattle.jz_tree.specs.declared.expr.Expr.TheOpen.{Expr-F}
use Rattle.jz_tree.specs.declared.expr.Expr.TheViews.{out-Expr}
use Rattle.jz_tree.specs.declared.stmt.Lval.{Lval}
use Rattle.jz_tree.specs.declared.stmt.Lval.TheVariants as lval
use Rattle.jz_tree.specs.declared.stmt.Rhs.TheVariants as rhs
use Rattle.jz_tree.specs.declared.stmt.StmtKind.TheOpen.{StmtKind-F}
use Rattle.jz_type_names.specs.declared.kinds.Kind as known
use Rattle.jz_type_names.specs.declared.kinds.Kind.TheVariants as scope
use Rattle.jz_type_names.specs.Kinds.{Known, known_of, is_array}
use Rattle.jz_type_sizes.specs.Sides.{left_form}
use Rattle.jz_type_sizes.specs.Values.{is_product, is_mul, product_layer, value_typing}
use Rattle.jz_select.specs.Places.{Answers}
use Rattle.jz_select.specs.declared.class.Class.{Class}
use Rattle.jz_select.specs.declared.class.Class.TheVariants as class
use Rattle.jz_select.specs.declared.shape.Shape.TheVariants as shapes
use Rattle.jz_select.specs.Operands.{class_at, var_class, class_of, dest_of}
use Rattle.jz_select.specs.Rows.{is_r, is_rm, is_rmi, is_wide, class_size, adds, multiplies}
use Rattle.jz_select.specs.Shapes.{whichever, has_flags, conditional, kind_layer}
use Rattle.jz_type_rows.specs.Matching.{needs_row, sets_inline, is_set_inline, may_be_inline}
use Rattle.jz_judgement.specs.Places.{Place, truth}
use Rattle.jz_judgement.specs.Places as place
use Rattle.jz_judgement.specs.HasType as judged
use Rattle.jz_judgement.specs.HasType.{value, HasType, Says}
use Rattle.jz_judgement.specs.Lefts as lefts
use Rattle.jz_judgement.specs.Lefts.{IsNumber, Wants, Leaves, Holds, Own, Takes, IsFlag, IsProduct, Values, value_term}
use Rattle.jz_judgement.specs.WellTyped as well
use Rattle.jz_judgement.proofs.Nothing.{none_not, some_not, same_some}
use Rattle.jz_judgement.proofs.Holding.{wants_size, leaves_size}
use Rattle.jz_meaning.specs.declared.value.Stuck as code
use Rattle.jz_meaning.specs.States.{State}
use Rattle.jz_meaning.specs.Values.{own_size}
use Rattle.jz_meaning.specs.Assignments.{left_sizes, as_expr, left_span, is_flag, updated_layer, updated, whole_of, Results, results_of, assigned}
use Rattle.jz_meaning.specs.Statements.{assign}
use Rattle.jz_run_laws.specs.Kinds.{IsOfKinds}
use Rattle.jz_run_laws.specs.DeclaredKinds.{kinds_of, LeftDeclared}
use Rattle.jz_run_laws.specs.Kept.{IfWent}
use Rattle.jz_run_laws.specs.Lefts.{IsCountedLeft}
use Rattle.jz_run_laws.proofs.RightSides.{ResultsFit}
use Rattle.jz_run_laws.proofs.Classes.{result_law}
use Rattle.jz_run_laws.proofs.LeftSizes.{flag_none, assignment_law}
use Rattle.jz_row_laws.proofs.Booleans.{or_parts}
use Rattle.jz_row_laws.proofs.Copied.{Matches, no_free, rm_class}
use Rattle.jz_typed_runs.specs.Reached.{operation}
use Rattle.jz_typed_runs.proofs.OperatorCauses.{IfStuck}
use Rattle.jz_stuck_runs.specs.Lacking.{IsLacking, LacksValue}
use Rattle.jz_stuck_runs.proofs.Steps.{Lacks}
use Rattle.jz_stuck_runs.proofs.Expressions.{Kept, HasKept, counted_of}
use Rattle.jz_stuck_runs.proofs.Statements.{InlineNumber}
use Rattle.jz_stuck_runs.proofs.LeftSides.{IsLeft, whole_none, declared_number, counted_left, AreFine}
use Rattle.jz_stuck_runs.proofs.Updates.{out_bin, parts_of, read_operates, whole_is}
use Rattle.jz_stuck_runs.proofs.Classes.{rmi_no_truth}
use Rattle.jz_stuck_runs.proofs.Assigning.{finish, sized_term, ReadsBack, placed, one_assigned, one_chosen, reads_word, reads_number}
use Rattle.jz_stuck_runs.proofs.RowPairs.{PairRow, UpdateRow, value_row, update_row, no_skip, no_skip_behind}
use Rattle.jz_stuck_runs.proofs.RowPairs as rows
use Rattle.jz_stuck_runs.proofs.Pairs as pairs
use Rattle.jz_stuck_runs.proofs.RowSizes.{known_array_rm, known_number_rm, left_none, operand_none, four_none}
use Rattle.jz_stuck_runs.proofs.Pairs.{arith_of, shift_not, PairOf, value_pair, update_pair, ResultAt, pair_fine, pair_went, product_of, sum_done, product_done}

-- what a row is asked of, where it needs one
abbrev pub RowOf : List Lval → Option BinOp → Expr → Option Expr → Type 0
RowOf to o e cond =
    needs_row (StmtKind-F.Assign to o (rhs.Value e) cond) ≡ true → (answers : Answers) × Matches (kind_layer (whichever answers) (StmtKind-F.Assign to o (rhs.Value e) cond))

-- ---- one left side
r_sized : (c : Class) → is_r c ≡ true → (z : Size) × (class_size c ≡ Some z)
r_sized c e = by_class c e
  where
    by_class : (c : Class) → is_r c ≡ true → (z : Size) × (class_size c ≡ Some z)
    by_class (class.Reg z) e = (z, refl)
    by_class c e = absurd (false≢true e)

chosen_r : (d w : Class) (c : Bool) → Matches (shapes.Conditional d w c) → is_r d ≡ true
chosen_r d w c h = by_part (or_parts (is_r d && (is_wide (class_size d) && (is_rm w && c))) false h)
  where
    by_part : ((is_r d && (is_wide (class_size d) && (is_rm w && c))) ≡ true) ⊎ (false ≡ true) → is_r d ≡ true
    by_part (inl t) = (and_parts (is_r d) _ t).0
    by_part (inr t) = absurd (false≢true t)

module _ (declared : List ℕ → Option Decl) (s : State) (h : IsOfKinds (kinds_of declared) s) (d : Lval) (o : Option BinOp) (e : Expr) (at : Span) (l : IsLeft declared d) (k : HasKept declared e)
    (f : All (LeftDeclared (kinds_of declared)) (d ∷ [])) where
  abbrev W : Option Expr → code.Stuck → Type 0
  W cond = LacksValue (operation (assign (d ∷ []) o e cond at)) s

  -- `_ op= e` has no row
  no_whole : (cond : Option Expr) → RowOf (d ∷ []) o e cond → whole_of (Some d) o e ≡ None → ⊥
  no_whole cond row is = by_left d o e cond row is
    where
      by_read : (r : Option Expr) (d : Lval) (p : BinOp) (e : Expr) (x : Expr) → r ≡ Some x → updated r p e (left_span d) ≡ None → ⊥
      by_read None d p e x i u = none_not x i
      by_read (Some r) d p e x i u = some_not (updated_layer p r e (left_span d) (out-Expr e)) u

      by_left : (d : Lval) (o : Option BinOp) (e : Expr) (cond : Option Expr) → RowOf (d ∷ []) o e cond → whole_of (Some d) o e ≡ None → ⊥
      by_left d None e cond row is = some_not e is
      by_left (lval.Skip i) (Some p) e None row is = let r = row refl in no_skip (whichever r.0) i p e r.1
      by_left (lval.Skip i) (Some p) e (Some c) row is = no_free (row refl).1
      by_left (lval.Var v) (Some p) e cond row is = by_read (as_expr (lval.Var v)) (lval.Var v) p e _ refl is
      by_left (lval.Cell v i) (Some p) e cond row is = by_read (as_expr (lval.Cell v i)) (lval.Cell v i) p e _ refl is
      by_left (lval.Store a) (Some p) e cond row is = by_read (as_expr (lval.Store a)) (lval.Store a) p e _ refl is

  -- with a condition it has a register, or is an inline integer
  inline_back : (p : Place) → Holds p d → is_set_inline d ≡ true → ReadsBack declared d p
  inline_back p g i = by_left d l g i
    where
      by_left : (d : Lval) → IsLeft declared d → Holds p d → is_set_inline d ≡ true → ReadsBack declared d p
      by_left (lval.Var v) l g i = reads_number declared v p l (declared_number declared v (All-head (Kept declared) v [] l.vars) i) g
      by_left (lval.Skip a) l g i = absurd (false≢true i)
      by_left (lval.Cell v a) l g i = absurd (false≢true i)
      by_left (lval.Store a) l g i = absurd (false≢true i)

  row_back : (o : Option BinOp) (p : Place) (c : Expr) → Holds p d → Matches (conditional (d ∷ []) o (rhs.Value e) c) → ReadsBack declared d p
  row_back None p c g m =
      let z = r_sized (dest_of d) (chosen_r (dest_of d) (class_of e) (has_flags c) m) in
      reads_word declared d p z.0 l g (result_law d z.0 z.1)
  row_back (Some q) p c g m = absurd (no_free m)

  back : (p : Place) (c : Expr) → Holds p d → RowOf (d ∷ []) o e (Some c) → ReadsBack declared d p
  back p c g row = by_test (sets_inline (d ∷ []) (Some c)) refl
    where
      by_test : (b : Bool) → sets_inline (d ∷ []) (Some c) ≡ b → ReadsBack declared d p
      by_test true i = inline_back p g (and_parts (is_set_inline d) (may_be_inline (Some c)) i).0
      by_test false i = row_back o p c g (row (ap not i)).1

  one_fine : (cond : Option Expr) → Takes d (value_term o d e) → All (HasKept declared) (option_to_list cond) → well.Condition cond → RowOf (d ∷ []) o e cond → IfStuck (Lacks (W cond)) (assigned (d ∷ []) o e cond at s)
  one_fine cond t kc tc row = by_whole (whole_of (Some d) o e) refl cond kc tc row
    where
      by_whole : (x : Option Expr) → whole_of (Some d) o e ≡ x → (cond : Option Expr) → All (HasKept declared) (option_to_list cond) → well.Condition cond → RowOf (d ∷ []) o e cond
          → IfStuck (Lacks (W cond)) (assigned (d ∷ []) o e cond at s)
      by_whole None is cond kc tc row = absurd (no_whole cond row is)
      by_whole (Some w) is None kc tc row = let g = placed declared s h d o e at l k w is t in one_assigned declared s h d o e at l k w g.0 is g.1 f
      by_whole (Some w) is (Some c) kc tc row =
          let g = placed declared s h d o e at l k w is t in
          one_chosen declared s h d o e at l k w g.0 c is g.1 f (All-head (HasKept declared) c [] kc) tc (back g.0 c g.1.holds row)

-- ---- two left sides
-- of three sizes each is this one or none
abbrev IsOr : Option Size → Size → Type 0
IsOr x z = (x ≡ Some z) ⊎ (x ≡ None)

first_of_three : (a b c : Option Size) (z : Size) → IsOr a z → IsOr b z → (a ≡ Some z) ⊎ ((b ≡ Some z) ⊎ (c ≡ Some z)) → option_or (option_or a (option_or b None)) c ≡ Some z
first_of_three a b c z p q (inl e) = ap (λ x. option_or (option_or x (option_or b None)) c) e
first_of_three a b c z (inl p) q (inr e) = ap (λ x. option_or (option_or x (option_or b None)) c) p
first_of_three a b c z (inr p) q (inr (inl e)) = ap (λ x. option_or (option_or x (option_or b None)) c) p ∙ ap (λ x. option_or (option_or x None) c) e
first_of_three a b c z (inr p) (inl q) (inr (inr e)) = ap (λ x. option_or (option_or x (option_or b None)) c) p ∙ ap (λ x. option_or (option_or x None) c) q
first_of_three a b c z (inr p) (inr q) (inr (inr e)) = ap (λ x. option_or (option_or x (option_or b None)) c) p ∙ ap (λ x. option_or (option_or x None) c) q ∙ e

holds_or : (d : Lval) (z : Size) → Holds (place.word z) d → IsOr (left_form d).size z
holds_or d z (inl g) = inl (wants_size d z g)
holds_or d z (inr g) = inr (leaves_size d (place.word z) g)

-- a word goes to a register or memory
module _ (declared : List ℕ → Option Decl) where
  inline_rm : (k : Known) → IsNumber k → is_rm (var_class k) ≡ true → ⊥
  inline_rm k n e = known_number_rm k n e

  bool_rm : (k : Known) → lefts.IsBool k → is_rm (var_class k) ≡ true → ⊥
  bool_rm None b e = b
  bool_rm (Some d) b e = by_kind d.storage d.kind b e
    where
      by_kind : (s : Storage) (k : known.Kind) → lefts.BoolKind k → is_rm (class_at s k) ≡ true → ⊥
      by_kind s scope.Int b e = b
      by_kind storage.Reg scope.Truth b e = false≢true e
      by_kind storage.Stack scope.Truth b e = false≢true e
      by_kind storage.Inline scope.Truth b e = false≢true e
      by_kind s (scope.Word z) b e = b
      by_kind s (scope.Array z) b e = b

  -- the type of a value that goes to such a place
  record IsWordTo (o : Option BinOp) (d : Lval) (e : Expr) : Type 0 where
    pub size : Size
    pub holds : Holds (place.word size) d
    pub typed : HasType (value_term o d e) (place.word size)
    pub said : ((left_form d).size ≡ Some size) ⊎ ((value_typing o d e).form.size ≡ Some size)

  word_to : (o : Option BinOp) (d : Lval) (e : Expr) → IsLeft declared d → is_rm (dest_of d) ≡ true → Takes d (value_term o d e) → IsWordTo o d e
  word_to o d e l r (lefts.wanted p (lefts.number {v = v} i) t) = absurd (inline_rm (known_of v) (declared_number declared v (All-head (Kept declared) v [] l.vars) i) r)
  word_to o d e l r (lefts.wanted p (lefts.bool {v = v} b) t) = absurd (bool_rm (known_of v) b r)
  word_to o d e l r (lefts.wanted p (lefts.variable {v = v} {z = z} g) t) = record { size = z; holds = inl (lefts.variable g); typed = t; said = inl (wants_size (lval.Var v) z (lefts.variable g)) }
  word_to o d e l r (lefts.wanted p (lefts.cell {v = v} {i = i} {z = z} a x) t) = record { size = z; holds = inl (lefts.cell a x); typed = t; said = inl (wants_size (lval.Cell v i) z (lefts.cell a x)) }
  word_to o d e l r (lefts.wanted p (lefts.access {a = a} {z = z} g x) t) = record { size = z; holds = inl (lefts.access g x); typed = t; said = inl (wants_size (lval.Store a) z (lefts.access g x)) }
  word_to o d e l r (lefts.left p lefts.nothing own t) = absurd (false≢true r)
  word_to o d e l r (lefts.left p (lefts.array {v = v} a) own t) = absurd (known_array_rm (known_of v) a r)
  word_to o d e l r (lefts.left p (lefts.number {v = v} n i g) own t) = absurd (known_number_rm (known_of v) n r)
  word_to o d e l r (lefts.left p (lefts.access {a = a} {z = z} g x) (lefts.sized y) t) =
      record { size = z; holds = inr (lefts.access g x); typed = t; said = inr (sized_term o (lval.Store a) e z t y) }

-- what the row tells of a pair
abbrev pub PairRowOf : Lval → Lval → Option BinOp → Expr → Type 0
PairRowOf c d None e = PairRow (dest_of c) (dest_of d) e
PairRowOf c d (Some p) e = UpdateRow (dest_of c) (dest_of d) p e

module _ (declared : List ℕ → Option Decl) (c d : Lval) (o : Option BinOp) (e : Expr) (lc : IsLeft declared c) (ld : IsLeft declared d) (k : HasKept declared e) where
  pair_row : RowOf (c ∷ d ∷ []) o e None → PairRowOf c d o e
  pair_row row = by_op o row
    where
      by_op : (o : Option BinOp) → RowOf (c ∷ d ∷ []) o e None → PairRowOf c d o e
      by_op None row = let r = row refl in value_row (whichever r.0) (dest_of c) d e r.1
      by_op (Some p) row = let r = row refl in update_row (whichever r.0) (dest_of c) d p e r.1

  -- the whole, as a pair of operands
  pair_of : (w : Expr) (z : Size) → whole_of (Some d) o e ≡ Some w → HasType (value_term o d e) (place.word z) → PairRowOf c d o e → PairOf w z
  pair_of w z is t row = by_op o is t row
    where
      by_read : (p : BinOp) (r : Option Expr) → as_expr d ≡ r → updated r p e (left_span d) ≡ Some w → HasType (value_term (Some p) d e) (place.word z) → UpdateRow (dest_of c) (dest_of d) p e → PairOf w z
      by_read p None a u t row = absurd (none_not w u)
      by_read p (Some r) a u (judged.updated x) row =
          subst (λ w. PairOf w z) (same_some (updated_layer p r e (left_span d) (out-Expr e)) w u)
          (update_pair declared p r e (left_span d) z (dest_of c) (dest_of d) k row (read_operates p d r e (place.word z) a ld.part x))

      by_op : (o : Option BinOp) → whole_of (Some d) o e ≡ Some w → HasType (value_term o d e) (place.word z) → PairRowOf c d o e → PairOf w z
      by_op None is t row = subst (λ w. PairOf w z) (same_some e w is) (value_pair declared e (dest_of c) (dest_of d) z k t row)
      by_op (Some p) is t row = by_read p (as_expr d) refl is t row

  two_counted : All IsCountedLeft (c ∷ d ∷ [])
  two_counted = All-cons IsCountedLeft c (d ∷ []) (counted_left declared c lc) (All-cons IsCountedLeft d [] (counted_left declared d ld) (All-nil IsCountedLeft))

  pair_size : (w : Expr) → whole_of (Some d) o e ≡ Some w → Values (c ∷ d ∷ []) o e
      → option_or (left_sizes (c ∷ d ∷ [])) (own_size w) ≡ option_or (option_or (left_form c).size (option_or (left_form d).size None)) (value_typing o d e).form.size
  pair_size w is v = assignment_law (c ∷ d ∷ []) d o e w refl is two_counted (counted_of declared e k) v

-- ---- whether it is a product
abbrev Outer : Type 0
Outer = Expr-F Expr Ty Access Decl Var

abbrev is_product_layer : Outer → Bool
is_product_layer x = product_layer x

layer_mul : (p : BinOp) (a b : Expr) (at : Span) → is_product_layer (Expr-F.Bin p a b at) ≡ multiplies p
layer_mul op.Mul a b at = refl
layer_mul p a b at = refl

mul_is : (p : BinOp) → multiplies p ≡ is_mul p
mul_is op.Mul = refl
mul_is p = refl

of_pair : (declared : List ℕ → Option Decl) (s : State) (h : IsOfKinds (kinds_of declared) s) (w : Expr) (z : Size) (k : HasKept declared w) (v : PairOf w z) → product_of declared s h w z k v ≡ product_layer (out-Expr w)
of_pair declared s h w z k (pairs.two p a b at is e t x y) = sym (ap product_layer is ∙ layer_mul p a b at)
of_pair declared s h w z k (pairs.three p r a x y c at inner is e ia g tx ty tc) = sym (ap product_layer is ∙ layer_mul p a c at)

carries_mul : (p q : BinOp) → carries p q ≡ true → multiplies q ≡ is_mul p
carries_mul op.Add op.Add e = refl
carries_mul op.Sub op.Sub e = refl
carries_mul p q e = absurd (false≢true e)

bin_mul : (p : BinOp) (a b : Expr) (at : Span) → product_layer (out-Expr (expr.Bin p a b at)) ≡ multiplies p
bin_mul p a b at = ap product_layer (out_bin p a b at) ∙ layer_mul p a b at

chosen_mul : (b : Bool) (p q : BinOp) (r e a c : Expr) (at : Span) → (carries p q && is_flag c) ≡ b → product_layer (out-Expr (if b then expr.Bin q (expr.Bin p r a at) c at else expr.Bin p r e at)) ≡ is_mul p
chosen_mul true p q r e a c at g = bin_mul q (expr.Bin p r a at) c at ∙ carries_mul p q (and_parts (carries p q) (is_flag c) g).0
chosen_mul false p q r e a c at g = bin_mul p r e at ∙ mul_is p

updated_mul : (p : BinOp) (r e : Expr) (at : Span) (x : Outer) → product_layer (out-Expr (updated_layer p r e at x)) ≡ is_mul p
updated_mul p r e at (Expr-F.Bin q a c inner) = chosen_mul (carries p q && is_flag c) p q r e a c at refl
updated_mul p r e at (Expr-F.Num n i) = bin_mul p r e at ∙ mul_is p
updated_mul p r e at (Expr-F.Expr::Bool b i) = bin_mul p r e at ∙ mul_is p
updated_mul p r e at (Expr-F.Var v) = bin_mul p r e at ∙ mul_is p
updated_mul p r e at (Expr-F.Cell v i) = bin_mul p r e at ∙ mul_is p
updated_mul p r e at (Expr-F.Load m) = bin_mul p r e at ∙ mul_is p
updated_mul p r e at (Expr-F.Neg a i) = bin_mul p r e at ∙ mul_is p
updated_mul p r e at (Expr-F.Not a i) = bin_mul p r e at ∙ mul_is p
updated_mul p r e at (Expr-F.Cast y s a i) = bin_mul p r e at ∙ mul_is p

whole_mul : (d : Lval) (o : Option BinOp) (e w : Expr) → whole_of (Some d) o e ≡ Some w → product_layer (out-Expr w) ≡ is_product o e
whole_mul d None e w is = ap (λ x. product_layer (out-Expr x)) (sym (same_some e w is))
whole_mul d (Some p) e w is = by_read (as_expr d) is
  where
    by_read : (r : Option Expr) → updated r p e (left_span d) ≡ Some w → product_layer (out-Expr w) ≡ is_mul p
    by_read None u = absurd (none_not w u)
    by_read (Some r) u = ap (λ x. product_layer (out-Expr x)) (sym (same_some (updated_layer p r e (left_span d) (out-Expr e)) w u)) ∙ updated_mul p r e (left_span d) (out-Expr e)

add_mul : (p : BinOp) → adds p ≡ true → multiplies p ≡ true → ⊥
add_mul op.Mul a m = false≢true a
add_mul p a m = false≢true m

carried_mul : (p q : BinOp) → carries p q ≡ true → multiplies p ≡ true → ⊥
carried_mul op.Add op.Add e m = false≢true m
carried_mul op.Sub op.Sub e m = false≢true m
carried_mul p q e m = false≢true e

no_product : (b : Bool) → b ≡ false → b ≡ true → ⊥
no_product b f t = false≢true (sym f ∙ t)

-- what is no product goes to a register or memory
row_rm : (c d : Lval) (o : Option BinOp) (e : Expr) → PairRowOf c d o e → is_product o e ≡ false → is_rm (dest_of d) ≡ true
row_rm c d None e (rows.sum p a b at is g r m) n = r
row_rm c d None e (rows.carried p q a b y x at inner is ia g r f m) n = r
row_rm c d None e (rows.product p a b at u v is eu ev h) n = absurd (no_product (product_layer (out-Expr e)) n (ap product_layer is ∙ layer_mul p a b at ∙ h.multiplying))
row_rm c d (Some p) e (rows.update_sum g r m) n = r
row_rm c d (Some p) e (rows.update_carried q a x at is g r) n = r
row_rm c d (Some p) e (rows.update_product g r m) n = absurd (no_product (is_mul p) n (sym (mul_is p) ∙ g))

-- ---- a product has a size
leaves_read : (declared : List ℕ → Option Decl) (d : Lval) (r : Expr) → IsLeft declared d → Leaves d place.unsized → as_expr d ≡ Some r → ⊥
leaves_read declared d r l lefts.nothing e = none_not r e
leaves_read declared d r l (lefts.array {v = v} a) e = false≢true (sym (whole_none v (is_array (known_of v)) l.part) ∙ a)
leaves_read declared d r l (lefts.number {v = v} n i t) e = false≢true (sym i ∙ All-head InlineNumber v [] l.inline n)

record AreUnsized (a b : Expr) : Type 0 where
  pub first : HasType (value a) place.unsized
  pub second : HasType (value b) place.unsized

unsized_operands : (p : BinOp) (a b : Expr) → multiplies p ≡ true → (HasType (value b) truth → ⊥) → judged.Operates p (value a) (value b) place.unsized → AreUnsized a b
unsized_operands p a b g n (judged.arithmetic h k m x y) = record { first = x; second = y }
unsized_operands p a b g n (judged.carry s k x y) = absurd (n y)
unsized_operands p a b g n (judged.shift h k m x y) = absurd (shift_not (sym h ∙ arith_of p (inr g)))

no_numbers : (declared : List ℕ → Option Decl) (c d : Lval) (o : Option BinOp) (e w : Expr) → IsLeft declared d → PairRowOf c d o e → is_product o e ≡ true → whole_of (Some d) o e ≡ Some w
    → Leaves c place.unsized → Leaves d place.unsized → HasType (value_term o d e) place.unsized → ⊥
no_numbers declared c d None e w l (rows.sum p a b at is g r m) n is' lc ld t = add_mul p g (sym (ap product_layer is ∙ layer_mul p a b at) ∙ n)
no_numbers declared c d None e w l (rows.carried p q a b y x at inner is ia g r f m) n is' lc ld t = carried_mul p q g (sym (ap product_layer is ∙ layer_mul p a x at) ∙ n)
no_numbers declared c d None e w l (rows.product p a b at u v is eu ev h) n is' lc ld t =
    let second : is_rmi (class_of b) ≡ true = subst (λ c. is_rmi c ≡ true) ev (rm_class v.class h.second) in
    let x = unsized_operands p a b h.multiplying (rmi_no_truth b second) (parts_of e p a b at place.unsized is t) in
    four_none (class_size (dest_of c)) (class_size (dest_of d)) (class_size u.class) (class_size v.class) (left_none c lc) (left_none d ld) (ap class_size eu ∙ operand_none a x.first) (ap class_size ev ∙ operand_none b x.second) h.long
no_numbers declared c d (Some p) e w l row n is lc ld t = by_read (as_expr d) refl is
  where
    by_read : (r : Option Expr) → as_expr d ≡ r → updated r p e (left_span d) ≡ Some w → ⊥
    by_read None a u = none_not w u
    by_read (Some r) a u = leaves_read declared d r l ld a

-- ---- the assignment
module _ (declared : List ℕ → Option Decl) (s : State) (h : IsOfKinds (kinds_of declared) s) (c d : Lval) (o : Option BinOp) (e : Expr) (at : Span) (lc : IsLeft declared c) (ld : IsLeft declared d) (k : HasKept declared e)
    (f : All (LeftDeclared (kinds_of declared)) (c ∷ d ∷ [])) where
  abbrev T : List Lval
  T = c ∷ d ∷ []

  abbrev V : code.Stuck → Type 0
  V = LacksValue (operation (assign T o e None at)) s

  pair_done : (b : Bool) (w : Expr) (z : Size) (v : PairOf w z) (kw : HasKept declared w) → whole_of (Some d) o e ≡ Some w → option_or (left_sizes T) (own_size w) ≡ Some z → product_of declared s h w z kw v ≡ b
      → ((ws : Results) → ResultAt b z ws → AreFine declared (option_or (left_sizes T) (own_size w)) T ws × ResultsFit ws) → IfStuck (Lacks V) (assigned T o e None at s)
  pair_done b w z v kw is size p done =
      let Z = option_or (left_sizes T) (own_size w) in
      finish declared s h T o e None at w is (ResultAt b z) (ResultAt b z) f
      (subst (λ y. IfStuck (Lacks (IsLacking w s)) (results_of T w at y s)) (sym size) (pair_fine declared s h w z kw d c at v))
      (subst (λ y. IfWent (ResultAt b z) (results_of T w at y s)) (sym size) (subst (λ g. IfWent (ResultAt g z) (results_of T w at (Some z) s)) p (pair_went declared s h w z kw d c at v)))
      (λ vs q. tt) (λ vs q. q) done

  no_pair : RowOf T o e None → whole_of (Some d) o e ≡ None → ⊥
  no_pair row is = by_left d o row is
    where
      by_read : (r : Option Expr) (d : Lval) (p : BinOp) (x : Expr) → r ≡ Some x → updated r p e (left_span d) ≡ None → ⊥
      by_read None d p x i u = none_not x i
      by_read (Some r) d p x i u = some_not (updated_layer p r e (left_span d) (out-Expr e)) u

      by_left : (d : Lval) (o : Option BinOp) → RowOf (c ∷ d ∷ []) o e None → whole_of (Some d) o e ≡ None → ⊥
      by_left d None row is = some_not e is
      by_left (lval.Skip i) (Some p) row is = let r = row refl in no_skip_behind (whichever r.0) i (dest_of c) p e r.1
      by_left (lval.Var v) (Some p) row is = by_read (as_expr (lval.Var v)) (lval.Var v) p _ refl is
      by_left (lval.Cell v i) (Some p) row is = by_read (as_expr (lval.Cell v i)) (lval.Cell v i) p _ refl is
      by_left (lval.Store a) (Some p) row is = by_read (as_expr (lval.Store a)) (lval.Store a) p _ refl is

  flag_fine : (w : Expr) → whole_of (Some d) o e ≡ Some w → PairRowOf c d o e → is_product o e ≡ false → IsFlag c → Takes d (value_term o d e) → IfStuck (Lacks V) (assigned T o e None at s)
  flag_fine w is row n g t =
      let x = word_to declared o d e ld (row_rm c d o e row n) t in
      let z = x.size in
      let kw = (whole_is declared d o e w (place.word z) ld k is x.typed).kept in
      let v = pair_of declared c d o e lc ld k w z is x.typed row in
      let size : option_or (left_sizes T) (own_size w) ≡ Some z =
      pair_size declared c d o e lc ld k w is (lefts.flagged n g t)
      ∙ first_of_three (left_form c).size (left_form d).size (value_typing o d e).form.size z (inr (flag_none c g)) (holds_or d z x.holds) (inr x.said) in
      pair_done false w z v kw is size (of_pair declared s h w z kw v ∙ whole_mul d o e w is ∙ n)
      (λ ws q. (sum_done declared c d z (option_or (left_sizes T) (own_size w)) lc ld size ws g x.holds q.0, q.1))

  says_one : (z : Size) → Wants c (place.word z) ⊎ (Wants d (place.word z) ⊎ Says (value_term o d e) z) → HasType (value_term o d e) (place.word z)
      → ((left_form c).size ≡ Some z) ⊎ (((left_form d).size ≡ Some z) ⊎ ((value_typing o d e).form.size ≡ Some z))
  says_one z (inl g) t = inl (wants_size c z g)
  says_one z (inr (inl g)) t = inr (inl (wants_size d z g))
  says_one z (inr (inr y)) t = inr (inr (sized_term o d e z t y))

  product_fine : (w : Expr) → whole_of (Some d) o e ≡ Some w → PairRowOf c d o e → is_product o e ≡ true → IsProduct c d (value_term o d e) → IfStuck (Lacks V) (assigned T o e None at s)
  product_fine w is row n (lefts.numbers a b t) = absurd (no_numbers declared c d o e w ld row n is a b t)
  product_fine w is row n (lefts.words z y a b t) =
      let kw = (whole_is declared d o e w (place.word z) ld k is t).kept in
      let v = pair_of declared c d o e lc ld k w z is t row in
      let size : option_or (left_sizes T) (own_size w) ≡ Some z =
      pair_size declared c d o e lc ld k w is (lefts.product n (lefts.words z y a b t))
      ∙ first_of_three (left_form c).size (left_form d).size (value_typing o d e).form.size z (holds_or c z a) (holds_or d z b) (says_one z y t) in
      pair_done true w z v kw is size (of_pair declared s h w z kw v ∙ whole_mul d o e w is ∙ n)
      (λ ws q. (product_done declared c d z (option_or (left_sizes T) (own_size w)) lc ld size ws a b q.0, q.1))

  pub two_fine : Values T o e → RowOf T o e None → IfStuck (Lacks V) (assigned T o e None at s)
  two_fine v row = by_whole (whole_of (Some d) o e) refl v (pair_row declared c d o e lc ld k row)
    where
      by_whole : (x : Option Expr) → whole_of (Some d) o e ≡ x → Values T o e → PairRowOf c d o e → IfStuck (Lacks V) (assigned T o e None at s)
      by_whole None is v r = absurd (no_pair row is)
      by_whole (Some w) is (lefts.product n p) r = product_fine w is r n p
      by_whole (Some w) is (lefts.flagged n g t) r = flag_fine w is r n g t

-- ---- all of them
pub assigned_fine : (declared : List ℕ → Option Decl) (s : State) (h : IsOfKinds (kinds_of declared) s) (to : List Lval) (o : Option BinOp) (e : Expr) (cond : Option Expr) (at : Span) → All (IsLeft declared) to → HasKept declared e
    → All (HasKept declared) (option_to_list cond) → All (LeftDeclared (kinds_of declared)) to → Values to o e → well.Condition cond → RowOf to o e cond
    → IfStuck (Lacks (LacksValue (operation (assign to o e cond at)) s)) (assigned to o e cond at s)
assigned_fine declared s h [] o e None at l k kc f v tc row = absurd (no_free (row refl).1)
assigned_fine declared s h [] o e (Some c) at l k kc f v tc row = absurd (no_free (row refl).1)
assigned_fine declared s h (d ∷ []) o e cond at l k kc f (lefts.one t) tc row = one_fine declared s h d o e at (All-head (IsLeft declared) d [] l) k f cond t kc tc row
assigned_fine declared s h (c ∷ d ∷ []) o e None at l k kc f v tc row =
    two_fine declared s h c d o e at (All-head (IsLeft declared) c (d ∷ []) l) (All-head (IsLeft declared) d [] (All-tail (IsLeft declared) c (d ∷ []) l)) k f v row
assigned_fine declared s h (c ∷ d ∷ []) o e (Some x) at l k kc f v tc row = absurd (no_free (row refl).1)
assigned_fine declared s h (a ∷ b ∷ c ∷ ds) o e cond at l k kc f v tc row = elim v [ ]

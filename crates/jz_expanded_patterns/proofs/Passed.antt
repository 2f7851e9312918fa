-- What sets a parameter of a copy, and what gives a result of one back, has a row.
use Rattle.std.proofs.Common.{◌≡◌, ◌⊎◌, inl, inr, ℕ, ◌<◌, List, [], ◌∷◌, map, Bool, true, false, Some, None, refl, sym, ap, ◌∙◌, subst, if◌then◌else◌, arith}
use Rattle.std.specs.Prelude.{All, option_map}
use Rattle.std.specs.List.{zip}
use Rattle.std.proofs.lemmas.Bool.{false≢true}
use Rattle.std.proofs.lemmas.List.Elements.{All-nil, All-cons, All-head, All-tail}
use Rattle.jz_tree.specs.Span.{Span}
use Rattle.jz_tree.specs.declared.expr.Storage.{Storage}
use Rattle.jz_tree.specs.declared.expr.Storage.TheVariants as storage
use Rattle.jz_tree.specs.declared.expr.Expr.{Expr}
use Rattle.jz_tree.specs.declared.expr.Expr.TheVariants as expr
use Rattle.jz_tree.specs.declared.expr.Ty.{Ty}
use Rattle.jz_tree.specs.declared.expr.Access.{Access}
use Rattle.jz_tree.specs.declared.expr.Decl.{Decl}
use Rattle.jz_tree.specs.declared.expr.Var.{Var}
use Rattle.jz_tree.specs.declared.expr.Expr.TheOpen.{Expr-F, Var-F}
use Rattle.jz_tree.specs.declared.expr.Expr.TheViews.{out-Expr, out-roll-Expr, out-roll-Var}
use Rattle.jz_tree.specs.declared.stmt.Lval.{Lval}
use Rattle.jz_tree.specs.declared.stmt.Lval.TheVariants as lval
use Rattle.jz_tree.specs.declared.program.Param.{Param}
use Rattle.jz_tree.specs.declared.program.Fun.{Fun}
use Rattle.jz_tree.specs.declared.program.Program.{Program}
use Rattle.jz_type_names.specs.declared.kinds.Kind as known
use Rattle.jz_type_names.specs.declared.kinds.Kind.TheVariants as scope
use Rattle.jz_type_names.specs.Kinds.{Known, declared_of, known_of, is_word}
use Rattle.jz_type_names.specs.Parts.{is_skip}
use Rattle.jz_type_rows.specs.Callees.{of_callee, entered_by, left_by}
use Rattle.jz_type_rows.specs.Matching.{word_layer}
use Rattle.jz_types.specs.Guarantees.{Enters, Leaves}
use Rattle.jz_select.specs.declared.class.Class.{Class}
use Rattle.jz_select.specs.declared.class.Meeting.{Meeting}
use Rattle.jz_select.specs.declared.class.Meeting.TheVariants as meeting
use Rattle.jz_select.specs.declared.shape.Value.{Value}
use Rattle.jz_select.specs.Trees.{Named, named_variable, names_eq, Tree, Number, Truth, Name, CellOf, Loaded, Minus, Opposite, CastTo, Both, tree_of}
use Rattle.jz_select.specs.Places.{Answers, meeting_of}
use Rattle.jz_select.specs.Operands.{var_class, class_layer, class_of, dest_of, operand_of}
use Rattle.jz_select.specs.Rows.{is_r, is_i, is_rm, is_rmi, is_same_place, is_apart_from}
use Rattle.jz_select.specs.Shapes.{Asked, whichever, value_layer}
use Rattle.jz_meaning.specs.States.{Key}
use Rattle.jz_meaning.specs.Values.{key_of, ref_of}
use Rattle.jz_meaning.specs.Statements.{Operation, Call}
use Rattle.jz_row_laws.proofs.Booleans.{or_parts}
use Rattle.jz_bodies.specs.Scopes.{a_scalar, Has}
use Rattle.jz_bodies.specs.Calls.{is_array, IsArgument, of_array, of_value, AreArguments, IsCall}
use Rattle.jz_bodies.specs.Declared.{scopes_in}
use Rattle.jz_inline.specs.Names.{Names, var_in, expr_in, lval_in}
use Rattle.jz_inline.specs.Calls.{set_one, argument_ops, result_op, result_ops, names_of_callee}
use Rattle.jz_inline.proofs.Copies.{key_in, IsBelow}
use Rattle.jz_inline.proofs.Naming.{Lent, place}
use Rattle.jz_copied_types.proofs.Copying.{known_in}
use Rattle.jz_kept_classes.specs.Classes.{KeepsClass, the_same}
use Rattle.jz_row_classes.specs.RowClasses.{AreOperands, IsOneClassed}
use Rattle.jz_kept_rows.specs.KeptRows.{IsRowed}
use Rattle.jz_kept_rows.proofs.Values.{class_at}
use Rattle.jz_copied_classes.proofs.Copied.{copies_turned, copied_left}
use Rattle.jz_copied_variables.specs.Variables.{OverOperation}
use Rattle.jz_meetings.specs.Meetings.{Whole, meets}
use Rattle.jz_meetings.specs.Turns.{cell_or, turned, OverTree}
use Rattle.jz_meetings.proofs.OfTrees.{meeting_is}
use Rattle.jz_meetings.proofs.Nowhere.{stands_apart, stands_nowhere}
use Rattle.jz_meetings.proofs.Kept.{name_one}
use Rattle.jz_kept_patterns.specs.Passes.{name_in, renaming}
use Rattle.jz_kept_patterns.specs.KeptPatterns.{no_registers}
use Rattle.jz_kept_patterns.proofs.CopiedTrees.{no_word, named_in, copied_tree}
use Rattle.jz_kept_patterns.proofs.Operands.{KeptOperand, ValueMeets, m_alone}
use Rattle.jz_kept_patterns.proofs.Matching.{inline_copy, matches_kept}
use Rattle.jz_kept_patterns.proofs.Selecting.{copied_always, AlwaysMatches}
use Rattle.jz_kept_patterns.proofs.Whole.{always_kept, CopyPart, copy_splits}
use Rattle.jz_expanded_patterns.proofs.Bodies.{IfRow}
use Rattle.jz_expanded_patterns.proofs.Names.{Knows, X, Used, has_key, used_over, name_of}

-- ---- trees
over_weaker : (P Q : Named → Type 0) (registers : Named → Bool) → ((v : Named) → P v → Q v) → (t : Tree) → OverTree P registers t → OverTree Q registers t
over_weaker P Q registers f (Number n) o = tt
over_weaker P Q registers f (Truth b) o = tt
over_weaker P Q registers f (Name v) o = f v o
over_weaker P Q registers f (CellOf v j) o = (f v o.0, o.1, over_weaker P Q registers f j o.2)
over_weaker P Q registers f (Loaded a) o = over_weaker P Q registers f a o
over_weaker P Q registers f (Minus a) o = over_weaker P Q registers f a o
over_weaker P Q registers f (Opposite a) o = over_weaker P Q registers f a o
over_weaker P Q registers f (CastTo z s a) o = over_weaker P Q registers f a o
over_weaker P Q registers f (Both b x y) o = (over_weaker P Q registers f x o.0, over_weaker P Q registers f y o.1)

over_renamed : (n : Named → Named) (P Q : Named → Type 0) → ((v : Named) → P v → Q (n v)) → (t : Tree) → OverTree P no_registers t → OverTree Q no_registers (turned (renaming n) t)
over_renamed n P Q f (Number i) o = tt
over_renamed n P Q f (Truth b) o = tt
over_renamed n P Q f (Name v) o = f v o
over_renamed n P Q f (CellOf v j) o =
    subst (λ w. OverTree Q no_registers (cell_or (n v) (turned (renaming n) j) w)) (sym (no_word n v j)) (f v o.0, (λ t. absurd (false≢true t)), over_renamed n P Q f j o.2)
over_renamed n P Q f (Loaded a) o = over_renamed n P Q f a o
over_renamed n P Q f (Minus a) o = over_renamed n P Q f a o
over_renamed n P Q f (Opposite a) o = over_renamed n P Q f a o
over_renamed n P Q f (CastTo z s a) o = over_renamed n P Q f a o
over_renamed n P Q f (Both b x y) o = (over_renamed n P Q f x o.0, over_renamed n P Q f y o.1)

same_apart : (m : Meeting) → is_same_place m ≡ true → is_apart_from m ≡ true → ⊥
same_apart meeting.Same s a = false≢true a
same_apart meeting.Within s a = false≢true s
same_apart meeting.Apart s a = false≢true s

not_named : (v d : Named) → (v ≡ d → ⊥) → names_eq v d ≡ false
not_named v d n = by (names_eq v d) refl
  where
    by : (b : Bool) → names_eq v d ≡ b → b ≡ false
    by true e = absurd (n (name_one v d e))
    by false e = refl

-- ---- variables of the callee
known_callee : (v : Var) → known_of (of_callee v) ≡ known_of v
known_callee v = ap (λ (x : Var-F Expr Ty Access Decl Var). option_map declared_of x.decl) (out-roll-Var _)

copy_callee : (v : Var) → (named_variable (of_callee v)).copy ≡ 1
copy_callee v = ap (λ (x : Var-F Expr Ty Access Decl Var). x.copy) (out-roll-Var _)

same_left : (inner : Names) (v : Var) → KeepsClass (dest_of (lval.Var (of_callee v))) (dest_of (lval.Var (var_in inner v)))
same_left inner v =
    subst (λ (c : Class). KeepsClass (var_class (known_of (of_callee v))) c) (sym (ap var_class (known_in inner v ∙ sym (known_callee v)))) the_same

var_out : (v : Var) → out-Expr (expr.Var v) ≡ Expr-F.Var v
var_out v = ap out-Expr (sym (expr.rolls-Var v)) ∙ out-roll-Expr (Expr-F.Var v)

variable_class : (v : Var) → class_of (expr.Var v) ≡ var_class (known_of v)
variable_class v = ap class_layer (var_out v)

same_value : (inner : Names) (v : Var) → KeepsClass (class_of (expr.Var (of_callee v))) (class_of (expr.Var (var_in inner v)))
same_value inner v =
    let e : class_of (expr.Var (var_in inner v)) ≡ class_of (expr.Var (of_callee v)) =
    variable_class (var_in inner v) ∙ (ap var_class (known_in inner v ∙ sym (known_callee v)) ∙ sym (variable_class (of_callee v))) in
    subst (λ (c : Class). KeepsClass (class_of (expr.Var (of_callee v))) c) (sym e) the_same

-- what is in a register or in the frame, as a whole, is a word
word_at : (s : Storage) (k : known.Kind) → is_rm (var_class (Some (record { storage = s; kind = k }))) ≡ true → is_word (Some (record { storage = s; kind = k })) ≡ true
word_at storage.Reg (scope.Word z) h = refl
word_at storage.Stack (scope.Word z) h = refl
word_at storage.Inline scope.Int h = absurd (false≢true h)
word_at storage.Inline scope.Truth h = absurd (false≢true h)
word_at storage.Inline (scope.Word z) h = absurd (false≢true h)
word_at storage.Inline (scope.Array z) h = absurd (false≢true h)
word_at storage.Reg scope.Int h = absurd (false≢true h)
word_at storage.Reg scope.Truth h = absurd (false≢true h)
word_at storage.Reg (scope.Array z) h = absurd (false≢true h)
word_at storage.Stack scope.Int h = absurd (false≢true h)
word_at storage.Stack scope.Truth h = absurd (false≢true h)
word_at storage.Stack (scope.Array z) h = absurd (false≢true h)

word_known : (k : Known) → is_rm (var_class k) ≡ true → is_word k ≡ true
word_known None h = absurd (false≢true h)
word_known (Some d) h = word_at d.storage d.kind h

some_none : (i : ℕ) → None ≡ Some i → ⊥
some_none i e = cc

module _ (p : Program) (P : Var → Type 0) (facts : Knows P) (F : Key → Bool) (f : Fun) (outer : Names) (c : ℕ) (below : IsBelow (X p P facts f outer) c) (zero_copy : (k : Key) → Has (scopes_in p f) k → k.copy ≡ 0) (q : Call) (is : IsCall (scopes_in p f) (scopes_in p q.callee) q) where
  abbrev inner : Names
  inner = names_of_callee outer c q

  abbrev T : Expr → Expr
  T = expr_in outer

  abbrev U : Named → Type 0
  U = Used p P facts f outer

  abbrev N : Named → Named
  N = name_in outer

  -- ---- a variable of the callee that is no array has the number of the copy
  own_copy : (v : Var) → (ref_of v).cell ≡ None → (scopes_in p q.callee).has_scalar (ref_of v) ≡ true → (named_variable (var_in inner v)).copy ≡ c
  own_copy v n h = by_place (place (scopes_in p) (X p P facts f outer) c q below is (key_of (ref_of v)) (a_scalar (ref_of v) h))
    where
      by_place : (inner (ref_of v).name ≡ ((ref_of v).name, c)) ⊎ Lent q.callee.params q.args (key_of (ref_of v)) → (named_variable (var_in inner v)).copy ≡ c
      by_place (inl o) = ap (λ (x : Named). x.copy) (named_in inner v) ∙ (ap (λ n. (inner n).1) (sym (name_of v)) ∙ ap (λ (x : List ℕ × ℕ). x.1) o)
      by_place (inr l) = absurd (some_none l.4 (sym n ∙ ap (λ (k : Key). k.cell) l.8))

  read_copy : (v : Named) → U v → v.copy ≡ 0
  read_copy v u = let k = has_key p P facts f outer u.0 u.2 in ap (λ (x : Named). x.copy) u.1 ∙ (sym k.copy ∙ zero_copy k.key k.there)

  copied_below : (v : Named) → U v → (N v).copy < c
  copied_below v u =
      let k = has_key p P facts f outer u.0 u.2 in
      let e : (N v).copy ≡ (key_in outer k.key).copy = ap (λ (x : Named). (outer x.name).1) u.1 ∙ sym (ap (λ n. (outer n).1) k.name) in
      omega (arith, e, below.below k.key k.there)

  one_zero : (n : ℕ) → n ≡ 0 → n ≡ 1 → ⊥
  one_zero n e g = omega (arith, e, g)

  less_same : (n m : ℕ) → n < m → n ≡ m → ⊥
  less_same n m l e = omega (arith, l, e)

  -- ---- one argument
  module _ (v : Var) (entire : (ref_of v).cell ≡ None) (owned : (scopes_in p q.callee).has_scalar (ref_of v) ≡ true) where
    abbrev D : Lval
    D = lval.Var (of_callee v)

    abbrev B : Lval
    B = lval.Var (var_in inner v)

    before_apart : (answers : Answers) (x : Expr) → OverTree U no_registers (tree_of x) → is_apart_from (meeting_of answers D x) ≡ true
    before_apart answers x o =
        let n = named_variable (of_callee v) in
        ap is_apart_from (meeting_is answers D x)
        ∙ stands_apart answers n (tree_of x)
        (stands_nowhere answers n None no_registers (tree_of x)
        (over_weaker U (λ m. names_eq m n ≡ false) no_registers (λ m u. not_named m n (λ e. one_zero m.copy (read_copy m u) (ap (λ (y : Named). y.copy) e ∙ copy_callee v))) (tree_of x) o))

    behind_apart : (answers : Answers) (x : Expr) → OverTree U no_registers (tree_of x) → is_apart_from (meeting_of answers B (T x)) ≡ true
    behind_apart answers x o =
        let n = named_variable (var_in inner v) in
        ap is_apart_from (meeting_is answers B (T x) ∙ ap (meets answers (Whole n)) (copied_tree outer x))
        ∙ stands_apart answers n (turned (renaming N) (tree_of x))
        (stands_nowhere answers n None no_registers (turned (renaming N) (tree_of x))
        (over_renamed N U (λ m. names_eq m n ≡ false) (λ m u. not_named (N m) n (λ e. less_same (N m).copy c (copied_below m u) (ap (λ (y : Named). y.copy) e ∙ own_copy v entire owned))) (tree_of x) o))

    argument_operand : (answers : Answers) (x : Expr) → OverTree U no_registers (tree_of x) → KeptOperand (is_r (dest_of D)) (operand_of answers D x) (operand_of answers B (T x))
    argument_operand answers x o = record {
      kept = class_at T (copies_turned outer) x;
      same = λ h. absurd (same_apart (meeting_of answers D x) h (before_apart answers x o));
      apart = λ r h. behind_apart answers x o;
    }

    argument_always : (e : Expr) → OverTree U no_registers (tree_of e) → AlwaysMatches D None e None → AlwaysMatches B None (T e) None
    argument_always e o h =
        always_kept T (λ x. lval.Var (var_in inner v)) (copies_turned outer) (CopyPart outer U) (copy_splits outer U) D (same_left inner v) (λ a. a) argument_operand None e None o h

  argument_row : (x : Param) (e : Expr) (at : Span) → is_array (ref_of x.var).kind ≡ false → IsArgument (scopes_in p f) (scopes_in p q.callee) (ref_of x.var) e → Enters (entered_by x, e)
      → OverOperation P F (set_one (lval.Var (var_in inner x.var)) (expr_in outer e) at) → IsRowed (set_one (lval.Var (var_in inner x.var)) (expr_in outer e) at) → IfRow (set_one (lval.Var (var_in inner x.var)) (expr_in outer e) at)
  argument_row x e at plain (of_array k ao yk ha s1 s2 hr) enters o rowed = absurd (false≢true (sym plain ∙ ap is_array k))
  argument_row x e at plain (of_value na nc rd fx st so) enters o rowed =
      λ n. (let w = word_known (known_of (of_callee x.var)) (ap (λ k. is_rm (var_class k)) (known_callee x.var ∙ sym (known_in inner x.var)) ∙ (rowed n).to) in
      let k = enters w in
      argument_always x.var nc (is.scope.scalars (ref_of x.var) st) e (used_over p P facts f outer e rd o.1) (copied_always (lval.Var (of_callee x.var)) e k.0 k.1))

  next_argument : (x : Param) (e : Expr) (at : Span) (rest : List Operation) (b : Bool) → is_array (ref_of x.var).kind ≡ b → IsArgument (scopes_in p f) (scopes_in p q.callee) (ref_of x.var) e → Enters (entered_by x, e)
      → All (OverOperation P F) (if b then rest else (set_one (lval.Var (var_in inner x.var)) (expr_in outer e) at ∷ rest)) → All IsRowed (if b then rest else (set_one (lval.Var (var_in inner x.var)) (expr_in outer e) at ∷ rest))
      → (All (OverOperation P F) rest → All IsRowed rest → All IfRow rest) → All IfRow (if b then rest else (set_one (lval.Var (var_in inner x.var)) (expr_in outer e) at ∷ rest))
  next_argument x e at rest true i a n o r later = later o r
  next_argument x e at rest false i a n o r later =
      let here = set_one (lval.Var (var_in inner x.var)) (expr_in outer e) at in
      All-cons IfRow here rest
      (argument_row x e at i a n (All-head (OverOperation P F) here rest o) (All-head IsRowed here rest r))
      (later (All-tail (OverOperation P F) here rest o) (All-tail IsRowed here rest r))

  pub arguments_have : (at : Span) (ps : List Param) (es : List Expr) → AreArguments (scopes_in p f) (scopes_in p q.callee) ps es → All Enters (zip (map entered_by ps) es)
      → All (OverOperation P F) (argument_ops outer inner at ps es) → All IsRowed (argument_ops outer inner at ps es) → All IfRow (argument_ops outer inner at ps es)
  arguments_have at [] es a n o r = All-nil IfRow
  arguments_have at (x ∷ ps) [] a n o r = All-nil IfRow
  arguments_have at (x ∷ ps) (e ∷ es) a n o r =
      next_argument x e at (argument_ops outer inner at ps es) (is_array (ref_of x.var).kind) refl a.0 (All-head Enters (entered_by x, e) (zip (map entered_by ps) es) n) o r
      (arguments_have at ps es a.1 (All-tail Enters (entered_by x, e) (zip (map entered_by ps) es) n))

  -- ---- one result
  alone : (asked : Asked) (d : Lval) (v : Var) → AreOperands (class_of (expr.Var v)) (value_layer asked d (out-Expr (expr.Var v))) → is_rmi (class_of (expr.Var v)) ≡ true
  alone asked d v h = ap is_rmi (variable_class v) ∙ subst (λ x. AreOperands (class_layer x) (value_layer asked d x)) (var_out v) h

  alone_meets : (r : Bool) (answers : Answers) (d : Lval) (v : Var) (w : Value) → ValueMeets r (value_layer (whichever answers) d (out-Expr (expr.Var v))) w
  alone_meets r answers d v w = subst (λ x. ValueMeets r (value_layer (whichever answers) d x) w) (sym (var_out v)) (m_alone w)

  word_result : (d : Lval) (v : Var) → is_skip d ≡ false → Leaves (left_by v, d) → is_rm (class_of (expr.Var (var_in inner v))) ≡ true → AlwaysMatches (lval_in outer d) None (expr.Var (var_in inner v)) None
  word_result d v taken leaves h =
      let k : is_rm (var_class (known_of (of_callee v))) ≡ true = ap (λ z. is_rm (var_class z)) (known_callee v ∙ sym (known_in inner v)) ∙ (sym (ap is_rm (variable_class (var_in inner v))) ∙ h) in
      let m = leaves (ap word_layer (var_out (of_callee v)) ∙ word_known (known_of (of_callee v)) k) taken in
      let s = copied_always d (expr.Var (of_callee v)) m.0 m.1 in
      λ a. matches_kept (dest_of d) (class_of (expr.Var (of_callee v))) (dest_of (lval_in outer d)) (class_of (expr.Var (var_in inner v))) (copied_left outer d) (same_value inner v)
      (alone_meets (is_r (dest_of d)) a d (of_callee v) (value_layer (whichever a) (lval_in outer d) (out-Expr (expr.Var (var_in inner v))))) (s a)

  by_part : (d : Lval) (v : Var) → is_skip d ≡ false → Leaves (left_by v, d) → is_rm (dest_of (lval_in outer d)) ≡ true
      → (is_rm (class_of (expr.Var (var_in inner v))) ≡ true) ⊎ (is_i (class_of (expr.Var (var_in inner v))) ≡ true) → AlwaysMatches (lval_in outer d) None (expr.Var (var_in inner v)) None
  by_part d v taken leaves t (inl h) = word_result d v taken leaves h
  by_part d v taken leaves t (inr h) =
      λ a. inline_copy (dest_of (lval_in outer d)) (class_of (expr.Var (var_in inner v))) (dest_of (lval_in outer d)) (class_of (expr.Var (var_in inner v))) the_same the_same
      (value_layer (whichever a) (lval_in outer d) (out-Expr (expr.Var (var_in inner v)))) t h

  by_class : (d : Lval) (v : Var) → is_skip d ≡ false → Leaves (left_by v, d) → IsOneClassed (lval_in outer d) None (expr.Var (var_in inner v)) → AlwaysMatches (lval_in outer d) None (expr.Var (var_in inner v)) None
  by_class d v taken leaves r =
      by_part d v taken leaves r.to (or_parts (is_rm (class_of (expr.Var (var_in inner v)))) (is_i (class_of (expr.Var (var_in inner v)))) (alone r.asked (lval_in outer d) (var_in inner v) r.operands))

  result_row : (d : Lval) (v : Var) (at : Span) → is_skip d ≡ false → Leaves (left_by v, d) → IsRowed (set_one (lval_in outer d) (expr.Var (var_in inner v)) at) → IfRow (set_one (lval_in outer d) (expr.Var (var_in inner v)) at)
  result_row d v at taken leaves rowed = λ n. by_class d v taken leaves (rowed n)

  by_array : (d : Lval) (v : Var) (at : Span) (os : List Operation) (b : Bool) → is_skip d ≡ false → Leaves (left_by v, d) → All IsRowed (if b then os else (set_one (lval_in outer d) (expr.Var (var_in inner v)) at ∷ os))
      → (All IsRowed os → All IfRow os) → All IfRow (if b then os else (set_one (lval_in outer d) (expr.Var (var_in inner v)) at ∷ os))
  by_array d v at os true t l r later = later r
  by_array d v at os false t l r later =
      let here = set_one (lval_in outer d) (expr.Var (var_in inner v)) at in
      All-cons IfRow here os (result_row d v at t l (All-head IsRowed here os r)) (later (All-tail IsRowed here os r))

  one_result : (d : Lval) (v : Var) (at : Span) (os : List Operation) → Leaves (left_by v, d) → All IsRowed (result_op outer inner at d v os) → (All IsRowed os → All IfRow os) → All IfRow (result_op outer inner at d v os)
  one_result (lval.Skip s) v at os l r later = later r
  one_result (lval.Var w) v at os l r later = by_array (lval.Var w) v at os (is_array (ref_of v).kind) refl l r later
  one_result (lval.Cell w i) v at os l r later = by_array (lval.Cell w i) v at os (is_array (ref_of v).kind) refl l r later
  one_result (lval.Store a) v at os l r later = by_array (lval.Store a) v at os (is_array (ref_of v).kind) refl l r later

  pub results_have : (at : Span) (ds : List Lval) (vs : List Var) → All Leaves (zip (map left_by vs) ds) → All IsRowed (result_ops outer inner at ds vs) → All IfRow (result_ops outer inner at ds vs)
  results_have at [] vs l r = All-nil IfRow
  results_have at (d ∷ ds) [] l r = All-nil IfRow
  results_have at (d ∷ ds) (v ∷ vs) l r =
      one_result d v at (result_ops outer inner at ds vs) (All-head Leaves (left_by v, d) (zip (map left_by vs) ds) l) r (results_have at ds vs (All-tail Leaves (left_by v, d) (zip (map left_by vs) ds) l))

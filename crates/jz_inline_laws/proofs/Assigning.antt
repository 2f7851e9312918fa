-- What typing and rows give of inline variables in an assignment of a value and in an instruction.
use Rattle.std.proofs.Common.{◌≡◌, ℕ, List, [], ◌∷◌, ◌++◌, Option, Some, None, Bool, true, false, not, ◌&&◌, flat_map, refl, ap, sym, ◌∙◌, inl, inr, if◌then◌else◌}
use Rattle.std.specs.Prelude.{◌||◌, All, option_map, option_to_list, is_some}
use Rattle.std.proofs.lemmas.Bool.{and_parts, and_from, false≢true}
use Rattle.std.proofs.lemmas.List.Elements.{All-nil, All-cons, All-head, All-tail}
use Rattle.jz_tree.specs.Operators.{carries}
use Rattle.jz_tree.specs.Spellings.{spelled}
use Rattle.jz_tree.specs.Size.{Size}
use Rattle.jz_tree.specs.Span.{Span}
use Rattle.jz_tree.specs.declared.expr.BinOp.{BinOp}
use Rattle.jz_tree.specs.declared.expr.Expr.{Expr}
use Rattle.jz_tree.specs.declared.expr.Expr.TheVariants as expr
use Rattle.jz_tree.specs.declared.expr.Var.{Var}
use Rattle.jz_tree.specs.declared.expr.Expr.TheOpen.{Expr-F}
use Rattle.jz_tree.specs.declared.expr.Expr.TheViews.{out-Expr, out-Var, out-roll-Expr, roll-out-Expr}
use Rattle.jz_tree.specs.declared.intrinsic.Instance.{Instance}
use Rattle.jz_tree.specs.declared.stmt.Lval.{Lval}
use Rattle.jz_tree.specs.declared.stmt.Lval.TheVariants as lval
use Rattle.jz_tree.specs.declared.stmt.Rhs.{Rhs}
use Rattle.jz_tree.specs.declared.stmt.Rhs.TheVariants as rhs
use Rattle.jz_tree.specs.declared.stmt.StmtKind.TheOpen.{StmtKind-F}
use Rattle.jz_tree.specs.declared.program.Fun.{Fun}
use Rattle.jz_select.specs.Places.{Answers}
use Rattle.jz_select.specs.Operands.{dest_of}
use Rattle.jz_select.specs.Shapes.{whichever, value_shape, named_shape, kind_layer}
use Rattle.jz_type_names.specs.Kinds.{known_of, is_inline_int, is_inline, array_of}
use Rattle.jz_type_names.specs.Parts.{Layer, exprs_of, left_exprs, right_exprs, left_vars}
use Rattle.jz_type_sizes.specs.declared.signatures.Role.{Role}
use Rattle.jz_type_sizes.specs.declared.signatures.Role.TheVariants as role
use Rattle.jz_type_sizes.specs.Signatures.{signature, instance_signature}
use Rattle.jz_type_sizes.specs.Intrinsics.{size_of_intrinsic}
use Rattle.jz_type_names.specs.Order.{unless}
use Rattle.jz_type_names.proofs.Empty.{both, passed}
use Rattle.jz_type_storage.specs.Settings.{Around, is_counter, may_set, left_set}
use Rattle.jz_type_storage.specs.Paths.{assigning, has_to_be_set}
use Rattle.jz_type_storage.specs.InnerSurely.{Names, after, first}
use Rattle.jz_type_rows.specs.Matching.{may_be_inline, needs_row}
use Rattle.jz_judgement.specs.Places.{Place, integer, truth, unsized}
use Rattle.jz_judgement.specs.HasType as judged
use Rattle.jz_judgement.specs.HasType.{Term, value, result, HasType, Operates}
use Rattle.jz_judgement.specs.Lefts as lefts
use Rattle.jz_judgement.specs.Lefts.{Wants, Leaves, Holds, Takes, Values, value_term}
use Rattle.jz_judgement.specs.WellTyped as well
use Rattle.jz_judgement.specs.WellTyped.{InPairs, Output, Operand, role_place, Instructs}
use Rattle.jz_types.specs.Carried.{vars_in, used_by}
use Rattle.jz_meaning.specs.Assignments.{last_left, left_span, whole_of, updated_layer, is_flag}
use Rattle.jz_meaning.specs.Statements.{assign, instruction}
use Rattle.jz_row_laws.proofs.Copied.{Matches, no_free}
use Rattle.jz_texts.proofs.Lists.{parted}
use Rattle.jz_bodies.proofs.Passing.{array_out, array_used}
use Rattle.jz_bodies.proofs.Variables.{flat_parts}
use Rattle.jz_bodies.proofs.Writing.{value_type}
use Rattle.jz_unroll.specs.Values.{splits, is_split}
use Rattle.jz_unroll.proofs.InlineParts.{inline_layer, inline_out, inline_var as inline_var_is, inline_bin, inline_is, no_flag}
use Rattle.jz_unroll.proofs.Layers.{Layer as ExprLayer}
use Rattle.jz_unrolling_laws.specs.AskedLaws.{has_named}
use Rattle.jz_unrolling_laws.specs.CalledBodies.{inlines_of, IsTextIf, AreTexts, IsNamedOp}
use Rattle.jz_unrolling_laws.proofs.AskedValues.{named_layer, named_is}
use Rattle.jz_inline_laws.specs.InlineParts.{inline_in, NameSet, IsNumeric, IsInlineNumber, IsInlineTest, IsNamedIf, SetsInline, sets_inline as sets_one, assigns, instructs}
use Rattle.jz_inline_laws.proofs.ClearVars.{IsClear, inline_var}
use Rattle.jz_inline_laws.proofs.NumberLemmas.{integer_number, truth_logical, arith_numeric, shift_numeric}
use Rattle.jz_inline_laws.proofs.NamedParts.{bool_plain, word_plain, var_named, expr_named, expr_text, IsUsed, LeftIs, IsOther, all_named, all_plain, leaves_left, word_left, flag_left, product_left, takes_left}
use Rattle.jz_inline_laws.proofs.SetBefore.{Known, assigned_within, one_within, old_set}
use Rattle.jz_inline_laws.proofs.RowSides.{TakesTwo, pair_apart, pair_updates, second_plain, conditional_none}

abbrev pub RowAt : Layer → Type 0
RowAt x = needs_row x ≡ true → (answers : Answers) × Matches (kind_layer (whichever answers) x)

-- ---- what stands behind an operation on the left side

or_true : (a : Bool) → (a || true) ≡ true
or_true true = refl
or_true false = refl

and_first : (a b : Bool) → a ≡ false → (a && b) ≡ false
and_first true b e = absurd (false≢true (sym e))
and_first false b e = refl

split_none : (to : List Lval) → is_split to None ≡ true
split_none [] = refl
split_none (d ∷ []) = refl
split_none (d ∷ f ∷ ds) = refl

split_plain : (to : List Lval) (w : Expr) → is_inline w ≡ false → splits (out-Expr w) ≡ true → is_split to (Some w) ≡ true
split_plain [] w p q = ap (λ b. not b && splits (out-Expr w)) p ∙ q
split_plain (d ∷ []) w p q = refl
split_plain (d ∷ f ∷ ds) w p q = ap (λ b. not b && splits (out-Expr w)) p ∙ q

splits_bin : (o : BinOp) (a b : Expr) (at : Span) → is_inline a ≡ false → splits (out-Expr (expr.Bin o a b at)) ≡ true
splits_bin o a b at p =
    ap (λ x. splits (out-Expr x)) (sym (expr.rolls-Bin o a b at)) ∙ ap splits (out-roll-Expr (Expr-F.Bin o a b at))
    ∙ ap (λ y. not (is_flag b) || not y) p ∙ or_true (not (is_flag b))

plain_bin : (o : BinOp) (a b : Expr) (at : Span) → is_inline a ≡ false → is_inline (expr.Bin o a b at) ≡ false
plain_bin o a b at p = inline_bin o a b at ∙ and_first (is_inline a) (is_inline b) p

split_bin : (to : List Lval) (o : BinOp) (a b : Expr) (at : Span) → is_inline a ≡ false → is_split to (Some (expr.Bin o a b at)) ≡ true
split_bin to o a b at p = split_plain to (expr.Bin o a b at) (plain_bin o a b at p) (splits_bin o a b at p)

split_updated : (to : List Lval) (o : BinOp) (d x : Expr) (at : Span) (y : ExprLayer) → is_inline d ≡ false → is_split to (Some (updated_layer o d x at y)) ≡ true
split_updated to o d x at (Expr-F.Num n p) q = split_bin to o d x at q
split_updated to o d x at (Expr-F.Expr::Bool b p) q = split_bin to o d x at q
split_updated to o d x at (Expr-F.Var v) q = split_bin to o d x at q
split_updated to o d x at (Expr-F.Cell v i) q = split_bin to o d x at q
split_updated to o d x at (Expr-F.Load a) q = split_bin to o d x at q
split_updated to o d x at (Expr-F.Neg a p) q = split_bin to o d x at q
split_updated to o d x at (Expr-F.Not a p) q = split_bin to o d x at q
split_updated to o d x at (Expr-F.Cast z s a p) q = split_bin to o d x at q
split_updated to o d x at (Expr-F.Bin p a c inner) q = by_test (carries o p && is_flag c)
  where
    by_test : (t : Bool) → is_split to (Some (if t then expr.Bin p (expr.Bin o d a at) c at else expr.Bin o d x at)) ≡ true
    by_test true = split_bin to p (expr.Bin o d a at) c at (plain_bin o d a at q)
    by_test false = split_bin to o d x at q

split_whole : (f : Fun) (to : List Lval) (d : Lval) (o : BinOp) (x : Expr) → LeftIs f d → is_split to (whole_of (Some d) (Some o) x) ≡ true
split_whole f to (lval.Skip at) o x h = split_none to
split_whole f to (lval.Var v) o x h = split_updated to o (expr.Var v) x (left_span (lval.Var v)) (out-Expr x) (inline_var_is v ∙ h)
split_whole f to (lval.Cell v i) o x h = split_updated to o (expr.Cell v i) x (left_span (lval.Cell v i)) (out-Expr x) (ap is_inline (sym (expr.rolls-Cell v i)) ∙ inline_is (Expr-F.Cell v i))
split_whole f to (lval.Store a) o x h = split_updated to o (expr.Load a) x (left_span (lval.Store a)) (out-Expr x) (ap is_inline (sym (expr.rolls-Load a)) ∙ inline_is (Expr-F.Load a))

-- ---- expressions of a statement

module _ (f : Fun) where
  abbrev C : Var → Type 0
  C = IsClear f

  abbrev E : Expr → Type 0
  E e = All C (vars_in e)

  lefts_used : (to : List Lval) → All E (flat_map left_exprs to) → All C (flat_map left_vars to) → All (IsUsed f) to
  lefts_used to e v =
      let a = flat_parts E left_exprs to e in
      let b = flat_parts C left_vars to v in
      λ i d l. record { vars = b i d l; exprs = a i d l }

  pub assigned_parts : (to : List Lval) (o : Option BinOp) (from : Rhs) (c : Option Expr) → All C (used_by (StmtKind-F.Assign to o from c)) → All (IsUsed f) to × All E (right_exprs from) × All E (option_to_list c)
  assigned_parts to o from c h =
      let a = parted C (flat_map vars_in (exprs_of (StmtKind-F.Assign to o from c))) (flat_map left_vars to) h in
      let b = flat_parts C vars_in (exprs_of (StmtKind-F.Assign to o from c)) a.0 in
      let p = parted E (flat_map left_exprs to ++ right_exprs from) (option_to_list c) b in
      let q = parted E (flat_map left_exprs to) (right_exprs from) p.0 in
      (lefts_used to q.0 a.1, q.1, p.1)

  text_if : (c : Option Expr) → All E (option_to_list c) → IsTextIf c
  text_if None h = tt
  text_if (Some x) h = expr_text f x (All-head E x [] h)

  named_if : (c : Option Expr) → well.Condition c → All E (option_to_list c) → IsNamedIf (inline_in f) c
  named_if None t h = tt
  named_if (Some x) t h = expr_named f x truth t (All-head E x [] h)

  pub number_is : (x : Expr) → HasType (value x) integer → E x → IsInlineNumber (inline_in f) x
  number_is x t h = let n = integer_number f x t h in record { inline = n.0; named = expr_named f x integer t h; numeric = n.1 }

  test_if : (c : Option Expr) → may_be_inline c ≡ true → well.Condition c → All E (option_to_list c) → IsInlineTest (inline_in f) c
  test_if None i t h = tt
  test_if (Some x) i t h = record { inline = i; named = expr_named f x truth t (All-head E x [] h); logical = truth_logical x t i }

  -- ---- what sets one inline variable

  -- the variable and the value in one
  updated_number : (v : Var) (o : BinOp) (x : Expr) (at : Span) → C v → is_inline_int (known_of v) ≡ true → Operates o (judged.left (lval.Var v)) (value x) integer → E x
      → (is_inline x ≡ true) × IsInlineNumber (inline_in f) (expr.Bin o (expr.Var v) x at)
  updated_number v o x at c i t h = by_rule t
    where
      number_by : HasType (value x) integer → (IsNumeric (expr.Bin o (expr.Var v) x at)) → (is_inline x ≡ true) × IsInlineNumber (inline_in f) (expr.Bin o (expr.Var v) x at)
      number_by k numeric =
          let n = number_is x k h in (
            n.inline,
            record {
              inline = inline_bin o (expr.Var v) x at ∙ and_from (is_inline (expr.Var v)) (is_inline x) (inline_var_is v ∙ i) n.inline;
              named =
                  ap (has_named (inline_in f)) (sym (expr.rolls-Bin o (expr.Var v) x at)) ∙ named_is (inline_in f) (Expr-F.Bin o (expr.Var v) x at)
                  ∙ and_from (has_named (inline_in f) (expr.Var v)) (has_named (inline_in f) x)
                  (ap (has_named (inline_in f)) (sym (expr.rolls-Var v)) ∙ named_is (inline_in f) (Expr-F.Var v) ∙ var_named f v c) n.named;
              numeric = numeric;
            },
          )

      by_rule : Operates o (judged.left (lval.Var v)) (value x) integer → (is_inline x ≡ true) × IsInlineNumber (inline_in f) (expr.Bin o (expr.Var v) x at)
      by_rule (judged.arithmetic g k a l r) = number_by r (arith_numeric o (expr.Var v) x at g)
      by_rule (judged.carry s k l r) = absurd k
      by_rule (judged.shift g k a l r) = number_by r (shift_numeric o (expr.Var v) x at g)

  -- an inline right side ends with no flag
  no_carry : (o : BinOp) (d x : Expr) (at : Span) (y : ExprLayer) → out-Expr x ≡ y → is_inline x ≡ true → updated_layer o d x at y ≡ expr.Bin o d x at
  no_carry o d x at (Expr-F.Num n p) e i = refl
  no_carry o d x at (Expr-F.Expr::Bool b p) e i = refl
  no_carry o d x at (Expr-F.Var v) e i = refl
  no_carry o d x at (Expr-F.Cell v k) e i = refl
  no_carry o d x at (Expr-F.Load a) e i = refl
  no_carry o d x at (Expr-F.Neg a p) e i = refl
  no_carry o d x at (Expr-F.Not a p) e i = refl
  no_carry o d x at (Expr-F.Cast z s a p) e i = refl
  no_carry o d x at (Expr-F.Bin p a c inner) e i =
      let k : is_inline c ≡ true = (and_parts (is_inline a) (is_inline c) (sym (inline_out_bin x p a c inner e) ∙ i)).1 in
      ap (λ b. if b then expr.Bin p (expr.Bin o d a at) c at else expr.Bin o d x at) (and_second (carries o p) (is_flag c) (no_flag c k))
    where
      inline_out_bin : (x : Expr) (p : BinOp) (a c : Expr) (inner : Span) → out-Expr x ≡ Expr-F.Bin p a c inner → is_inline x ≡ (is_inline a && is_inline c)
      inline_out_bin x p a c inner e = inline_out x ∙ ap inline_layer e

      and_second : (a b : Bool) → b ≡ false → (a && b) ≡ false
      and_second true b e = e
      and_second false b e = refl

  whole_number : (v : Var) (o : Option BinOp) (x : Expr) → C v → is_inline_int (known_of v) ≡ true → HasType (value_term o (lval.Var v) x) integer → E x
      → (is_inline x ≡ true) × ((y : Expr) × (whole_of (Some (lval.Var v)) o x ≡ Some y) × IsInlineNumber (inline_in f) y)
  whole_number v None x c i t h = let n = number_is x t h in (n.inline, (x, refl, n))
  whole_number v (Some o) x c i (judged.updated t) h =
      let n = updated_number v o x (left_span (lval.Var v)) c i t h in
      (n.0, (expr.Bin o (expr.Var v) x (left_span (lval.Var v)), ap Some (no_carry o (expr.Var v) x (left_span (lval.Var v)) (out-Expr x) refl n.0), n.1))

  wants_number : (v : Var) (p : Place) (x : Term) → is_inline_int (known_of v) ≡ true → Wants (lval.Var v) p → HasType x p → HasType x integer
  wants_number v p x i (lefts.number n) t = t
  wants_number v p x i (lefts.bool b) t = absurd (false≢true (sym (bool_plain (known_of v) b) ∙ i))
  wants_number v p x i (lefts.variable {z = z} w) t = absurd (false≢true (sym (word_plain (known_of v) z w) ∙ i))

  takes_number : (v : Var) (x : Term) → is_inline_int (known_of v) ≡ true → Takes (lval.Var v) x → HasType x integer
  takes_number v x i (lefts.wanted p w t) = wants_number v p x i w t
  takes_number v x i (lefts.left p w own t) = absurd (false≢true (sym (leaves_left f (lval.Var v) p w) ∙ i))

  -- ---- conditions of what sets one

  inline_condition : (v : Var) (o : Option BinOp) (x : Expr) (c : Option Expr) → is_inline_int (known_of v) ≡ true → RowAt (StmtKind-F.Assign (lval.Var v ∷ []) o (rhs.Value x) c) → may_be_inline c ≡ true
  inline_condition v o x None i row = refl
  inline_condition v o x (Some c) i row = by_test (is_inline c) refl
    where
      by_test : (b : Bool) → is_inline c ≡ b → b ≡ true
      by_test true e = refl
      by_test false e =
          let need : not (is_inline_int (known_of v) && is_inline c) ≡ true = ap (λ b. not (is_inline_int (known_of v) && b)) e ∙ ap not (no_second (is_inline_int (known_of v))) in
          let m = row need in absurd (conditional_none v o x c i m.1)
        where
          no_second : (a : Bool) → (a && false) ≡ false
          no_second true = refl
          no_second false = refl

-- ---- an assignment of a value

abbrev asked_in : Fun → Names
asked_in f = has_to_be_set f

abbrev known_in : Fun → Names → NameSet
known_in f s = Known (has_to_be_set f) s

same_names : (f : Fun) (n : List ℕ) (c : ℕ) → inline_in f n 0 ≡ true → inline_in f n c ≡ true
same_names f n c e = e

module _ (f : Fun) (w : Around) (s : Names) where
  not_and : (a b : Bool) → not (a && b) ≡ true → b ≡ true → a ≡ false
  not_and true b h e = absurd (false≢true (sym (ap not e) ∙ h))
  not_and false b h e = refl

  outside : (v : Var) → flat_map (λ l. left_set l w) (lval.Var v ∷ []) ≡ [] → is_inline_int (known_of v) ≡ true → w.inside ≡ false
  outside v e i =
      let a = passed (may_set w v) (out-Var v).span (both (unless (may_set w v) (out-Var v).span) [] e).0 in
      not_and w.inside (is_inline_int (known_of v)) (and_parts (not (is_counter w v)) _ a).1 i

  abbrev Sets : List Lval → Option BinOp → Expr → Option Expr → Span → Type 0
  Sets to o x c at = SetsInline (inline_in f) w.inside (known_in f s) (assign to o x c at) (known_in f (after (asked_in f) (assigning to o (rhs.Value x) c) s))

  -- one that stays
  stays : (to : List Lval) (o : Option BinOp) (x : Expr) (c : Option Expr) (at : Span) → All (LeftIs f) to → (p : Place) → HasType (value x) p → well.Condition c → All (IsUsed f) to × All (E f) (x ∷ []) × All (E f) (option_to_list c)
      → is_split to (whole_of (last_left to) o x) ≡ true → Sets to o x c at
  stays to o x c at l p t k u i =
      let plain = all_plain f to u.0 l in
      assigns plain (expr_named f x p t (All-head (E f) x [] u.1)) (named_if f c k u.2) i (assigned_within (asked_in f) (inline_in f) (same_names f) to o (rhs.Value x) c s plain)

  -- one left side that is no inline variable
  one_stays : (d : Lval) (o : Option BinOp) (x : Expr) (c : Option Expr) (at : Span) → Takes d (value_term o d x) → IsOther f d → (p : Place) → HasType (value x) p → well.Condition c
      → All (IsUsed f) (d ∷ []) × All (E f) (x ∷ []) × All (E f) (option_to_list c) → Sets (d ∷ []) o x c at
  one_stays d o x c at t other p h k u = stays (d ∷ []) o x c at (All-cons (LeftIs f) d [] (takes_left f d (value_term o d x) t other) (All-nil (LeftIs f))) p h k u refl

  one_sets : (v : Var) (o : Option BinOp) (x : Expr) (c : Option Expr) (at : Span) → Takes (lval.Var v) (value_term o (lval.Var v) x) → RowAt (StmtKind-F.Assign (lval.Var v ∷ []) o (rhs.Value x) c) → well.Condition c
      → All (IsUsed f) (lval.Var v ∷ []) × All (E f) (x ∷ []) × All (E f) (option_to_list c) → flat_map (λ l. left_set l w) (lval.Var v ∷ []) ≡ [] → first (asked_in f) (assigning (lval.Var v ∷ []) o (rhs.Value x) c) s ≡ None
      → is_inline_int (known_of v) ≡ true → Sets (lval.Var v ∷ []) o x c at
  one_sets v o x c at t row k u set read i =
      let clear = All-head (IsClear f) v [] (All-head (IsUsed f) (lval.Var v) [] u.0).vars in
      let n = whole_number f v o x clear i (takes_number f v (value_term o (lval.Var v) x) i t) (All-head (E f) x [] u.1) in
      sets_one (outside v set i) (inline_var f v clear i) n.0 n.1.1 n.1.2 (test_if f c (inline_condition f v o x c i row) k u.2) (old_set (asked_in f) (inline_in f) v o (rhs.Value x) c s read)
      (one_within (asked_in f) (inline_in f) v o (rhs.Value x) c s)

  one_value : (d : Lval) (o : Option BinOp) (x : Expr) (c : Option Expr) (at : Span) → Takes d (value_term o d x) → RowAt (StmtKind-F.Assign (d ∷ []) o (rhs.Value x) c) → (p : Place) → HasType (value x) p → well.Condition c
      → All (IsUsed f) (d ∷ []) × All (E f) (x ∷ []) × All (E f) (option_to_list c) → flat_map (λ l. left_set l w) (d ∷ []) ≡ [] → first (asked_in f) (assigning (d ∷ []) o (rhs.Value x) c) s ≡ None
      → Sets (d ∷ []) o x c at
  one_value (lval.Skip at') o x c at t row p h k u set read = one_stays (lval.Skip at') o x c at t tt p h k u
  one_value (lval.Cell v i) o x c at t row p h k u set read = one_stays (lval.Cell v i) o x c at t tt p h k u
  one_value (lval.Store a) o x c at t row p h k u set read = one_stays (lval.Store a) o x c at t tt p h k u
  one_value (lval.Var v) o x c at t row p h k u set read = by_known (is_inline_int (known_of v)) refl
    where
      by_known : (b : Bool) → is_inline_int (known_of v) ≡ b → Sets (lval.Var v ∷ []) o x c at
      by_known true i = one_sets v o x c at t row k u set read i
      by_known false i = one_stays (lval.Var v) o x c at t i p h k u

  -- two left sides
  other_second : (a d : Lval) → TakesTwo (dest_of a) (dest_of d) → IsOther f d
  other_second a (lval.Skip at) h = tt
  other_second a (lval.Var v) h = second_plain (dest_of a) v h
  other_second a (lval.Cell v i) h = tt
  other_second a (lval.Store m) h = tt

  pair_lefts : (a d : Lval) (o : Option BinOp) (x : Expr) → Values (a ∷ d ∷ []) o x → TakesTwo (dest_of a) (dest_of d) → LeftIs f a × LeftIs f d
  pair_lefts a d o x (lefts.product is t) h = product_left f a d (value_term o d x) t
  pair_lefts a d o x (lefts.flagged is g t) h = (flag_left f a g, takes_left f d (value_term o d x) t (other_second a d h))

  pair_split : (a d : Lval) (o : Option BinOp) (x : Expr) (answers : Answers) → Matches (value_shape (whichever answers) (a ∷ d ∷ []) o x)
      → TakesTwo (dest_of a) (dest_of d) × (LeftIs f d → is_split (a ∷ d ∷ []) (whole_of (last_left (a ∷ d ∷ [])) o x) ≡ true)
  pair_split a d None x answers m = let p = pair_apart (whichever answers) (dest_of a) d x m in (p.0, λ l. p.1)
  pair_split a d (Some o) x answers m = (pair_updates (whichever answers) (dest_of a) d o x m, λ l. split_whole f (a ∷ d ∷ []) d o x l)

  two_values : (a d : Lval) (o : Option BinOp) (x : Expr) (c : Option Expr) (at : Span) → Values (a ∷ d ∷ []) o x → (answers : Answers) → Matches (value_shape (whichever answers) (a ∷ d ∷ []) o x) → (p : Place) → HasType (value x) p → well.Condition c
      → All (IsUsed f) (a ∷ d ∷ []) × All (E f) (x ∷ []) × All (E f) (option_to_list c) → Sets (a ∷ d ∷ []) o x c at
  two_values a d o x c at v answers m p h k u =
      let r = pair_split a d o x answers m in
      let l = pair_lefts a d o x v r.0 in
      stays (a ∷ d ∷ []) o x c at (All-cons (LeftIs f) a (d ∷ []) l.0 (All-cons (LeftIs f) d [] l.1 (All-nil (LeftIs f)))) p h k u (r.1 l.1)

  some_type : (to : List Lval) (o : Option BinOp) (x : Expr) → Values to o x → (to ≡ [] → ⊥) → (p : Place) × HasType (value x) p
  some_type to o x v n = elim (value_type to o x v) [ inl e ↦ absurd (n e) | inr t ↦ t ]

  not_empty : (d : Lval) (ds : List Lval) → (d ∷ ds) ≡ [] → ⊥
  not_empty d ds e = cc

  pub value_sets : (to : List Lval) (o : Option BinOp) (x : Expr) (c : Option Expr) (at : Span) → Values to o x → well.Condition c → RowAt (StmtKind-F.Assign to o (rhs.Value x) c)
      → All (IsClear f) (used_by (StmtKind-F.Assign to o (rhs.Value x) c)) → flat_map (λ l. left_set l w) to ≡ [] → first (asked_in f) (assigning to o (rhs.Value x) c) s ≡ None
      → IsNamedOp (inlines_of f) (assign to o x c at) × Sets to o x c at
  value_sets to o x c at v k row clear set read =
      let u = assigned_parts f to o (rhs.Value x) c clear in
      ((all_named f to u.0, expr_text f x (All-head (E f) x [] u.1), text_if f c u.2), by_lefts to c v k row u set read)
    where
      by_lefts : (to : List Lval) (c : Option Expr) → Values to o x → well.Condition c → RowAt (StmtKind-F.Assign to o (rhs.Value x) c) → All (IsUsed f) to × All (E f) (x ∷ []) × All (E f) (option_to_list c)
          → flat_map (λ l. left_set l w) to ≡ [] → first (asked_in f) (assigning to o (rhs.Value x) c) s ≡ None → Sets to o x c at
      by_lefts [] None v k row u set read = absurd (no_free (row refl).1)
      by_lefts [] (Some c) v k row u set read = absurd (no_free (row refl).1)
      by_lefts (d ∷ []) c (lefts.one t) k row u set read =
          let h = some_type (d ∷ []) o x (lefts.one t) (not_empty d []) in one_value d o x c at t row h.0 h.1 k u set read
      by_lefts (a ∷ d ∷ []) None v k row u set read =
          let h = some_type (a ∷ d ∷ []) o x v (not_empty a (d ∷ [])) in
          let m = row refl in two_values a d o x None at v m.0 m.1 h.0 h.1 k u
      by_lefts (a ∷ d ∷ []) (Some c) v k row u set read = absurd (no_free (row refl).1)
      by_lefts (a ∷ b ∷ d ∷ ds) c v k row u set read = elim v [ ]

  -- ---- an instruction

  output_left : (z : Option Size) (r : Role) (d : Lval) → Output z r d → LeftIs f d
  output_left None role.Flag d h = flag_left f d h
  output_left None role.Value d h = leaves_left f d unsized h
  output_left None role.Count d h = word_left f d _ h
  output_left None role.Condition d h = flag_left f d h
  output_left None role.Address d h = word_left f d _ h.1
  output_left None role.Byte d h = word_left f d _ h
  output_left (Some z) role.Flag d h = flag_left f d h
  output_left (Some z) role.Value d h = word_left f d _ h
  output_left (Some z) role.Count d h = word_left f d _ h
  output_left (Some z) role.Condition d h = flag_left f d h
  output_left (Some z) role.Address d h = word_left f d _ h.1
  output_left (Some z) role.Byte d h = word_left f d _ h

  outputs_left : (z : Option Size) (rs : List Role) (ds : List Lval) → InPairs (Output z) rs ds → All (LeftIs f) ds
  outputs_left z [] [] well.none = All-nil (LeftIs f)
  outputs_left z [] (d ∷ ds) h = elim h [ ]
  outputs_left z (r ∷ rs) [] h = elim h [ ]
  outputs_left z (r ∷ rs) (d ∷ ds) (well.next h hs) = All-cons (LeftIs f) d ds (output_left z r d h) (outputs_left z rs ds hs)

  some_array : (o : Option Var) → is_some o ≡ true → (v : Var) × (o ≡ Some v)
  some_array None e = absurd (false≢true e)
  some_array (Some v) e = (v, refl)

  array_named : (x : Expr) (v : Var) → array_of x ≡ Some v → E f x → has_named (inline_in f) x ≡ true
  array_named x v is h =
      ap (has_named (inline_in f)) (sym (roll-out-Expr x)) ∙ named_is (inline_in f) (out-Expr x) ∙ ap (named_layer (inline_in f)) (array_out x v is)
      ∙ var_named f v (array_used (IsClear f) x v is h)

  operand_named : (z : Option Size) (r : Role) (x : Expr) → Operand z r x → E f x → has_named (inline_in f) x ≡ true
  operand_named z r x (inl a) h = let v = some_array (array_of x) a in array_named x v.0 v.1 h
  operand_named z r x (inr t) h = expr_named f x (role_place z r) t h

  abbrev Named' : Expr → Type 0
  Named' x = has_named (inline_in f) x ≡ true

  operands_named : (z : Option Size) (rs : List Role) (xs : List Expr) → InPairs (Operand z) rs xs → All (E f) xs → All Named' xs
  operands_named z [] [] well.none u = All-nil Named'
  operands_named z [] (x ∷ xs) h u = elim h [ ]
  operands_named z (r ∷ rs) [] h u = elim h [ ]
  operands_named z (r ∷ rs) (x ∷ xs) (well.next h hs) u = All-cons Named' x xs (operand_named z r x h (All-head (E f) x xs u)) (operands_named z rs xs hs (All-tail (E f) x xs u))

  are_texts : (xs : List Expr) → All (E f) xs → AreTexts xs
  are_texts [] h = tt
  are_texts (x ∷ xs) h = (expr_text f x (All-head (E f) x xs h), are_texts xs (All-tail (E f) x xs h))

  abbrev Instructed : List Lval → List ℕ → List Expr → Span → Type 0
  Instructed to n args at = SetsInline (inline_in f) w.inside (known_in f s) (instruction to n args at) (known_in f (after (asked_in f) (assigning to None (rhs.Intrinsic n args at) None) s))

  instructed_by : (i : Option Instance) (to : List Lval) (n : List ℕ) (args : List Expr) (at : Span) (answers : Answers) → Instructs (option_map instance_signature i) to args → Matches (named_shape (whichever answers) i to args)
      → All (IsUsed f) to → All (E f) args → Instructed to n args at
  instructed_by None to n args at answers h m u v = absurd (no_free m)
  instructed_by (Some i) to n args at answers (well.instance_of outs ins) m u v =
      let g = instance_signature i in
      let plain = all_plain f to u (outputs_left (size_of_intrinsic g to args) g.results to outs) in
      instructs plain (operands_named (size_of_intrinsic g to args) g.arguments args ins v) (assigned_within (asked_in f) (inline_in f) (same_names f) to None (rhs.Intrinsic n args at) None s plain)

  pub instruction_sets : (to : List Lval) (n : List ℕ) (args : List Expr) (at : Span) → Instructs (signature n) to args → RowAt (StmtKind-F.Assign to None (rhs.Intrinsic n args at) None)
      → All (IsClear f) (used_by (StmtKind-F.Assign to None (rhs.Intrinsic n args at) None)) → IsNamedOp (inlines_of f) (instruction to n args at) × Instructed to n args at
  instruction_sets to n args at h row clear =
      let u = assigned_parts f to None (rhs.Intrinsic n args at) None clear in
      let m = row refl in
      ((all_named f to u.0, are_texts args u.1), instructed_by (spelled n) to n args at m.0 h m.1 u.0 u.1)

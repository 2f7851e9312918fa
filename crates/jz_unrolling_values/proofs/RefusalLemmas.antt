-- When an expression is refused, layer by layer.
use Rattle.std.proofs.Common.{◌≡◌, ℕ, List, [], ◌∷◌, ◌++◌, length, take, drop, get_or, ◌<◌, ◌+◌, Option, Some, None, Bool, true, false, refl, ap, sym, ◌∙◌, subst, Result, Ok, Err, IsErrAnd}
use Rattle.std.specs.Prelude.{ℤ, ◌↔◌, ◌&&◌, not, is_none, is_some, if◌then◌else◌, IfErr}
use Rattle.std.specs.List.{list_all}
use Rattle.std.proofs.lemmas.Bool.{and_parts}
use Rattle.std.proofs.lemmas.List.{drop_more, take-append-drop}
use Rattle.jz_tree.specs.Failure.{Failure}
use Rattle.jz_tree.specs.Failure.TheVariants.{Refused, OutOfMemory}
use Rattle.jz_tree.specs.Failures.{IfAnswered, IfRefused}
use Rattle.jz_tree.specs.Size.{Size}
use Rattle.jz_tree.specs.Span.{Span}
use Rattle.jz_tree.specs.declared.expr.BinOp.{BinOp}
use Rattle.jz_tree.specs.declared.expr.Expr.{Expr}
use Rattle.jz_tree.specs.declared.expr.Expr.TheVariants as expr
use Rattle.jz_tree.specs.declared.expr.Access.{Access}
use Rattle.jz_tree.specs.declared.expr.Var.{Var}
use Rattle.jz_tree.specs.declared.expr.Expr.TheOpen.{Expr-F}
use Rattle.jz_tree.specs.declared.stmt.Lval.TheVariants as lval
use Rattle.jz_tree.specs.declared.expr.Expr.TheViews.{roll-Expr, out-Expr, out-Var, roll-out-Expr}
use Rattle.jz_type_names.specs.Kinds.{known_of, is_inline_int, is_inline}
use Rattle.jz_integers.specs.Integers.{KnownNumbers, inline_value}
use Rattle.jz_integers.specs.declared.constant.Constant.{Constant}
use Rattle.jz_integers.specs.declared.constant.Constant.TheVariants as constant
use Rattle.jz_meaning.specs.Values.{ref_of}
use Rattle.jz_unroll.specs.Values.{has_no_cell, with_values, InlineNames, is_inline_var, is_known, has_values, access_has_values, left_has_values}
use Rattle.jz_unroll.specs.Unrolling.{UnrollsLoopTest, loops, always}
use Rattle.jz_meaning.specs.Statements.{Operation, Condition}
use Rattle.jz_change.specs.declared.change.Numbers.{Numbers}
use Rattle.jz_change.specs.declared.change.Numbers.TheVariants.{Same}
use Rattle.jz_type_names.specs.Parts.{span_of}
use Rattle.jz_unroll.proofs.Layers.{Layer}
use Rattle.jz_unroll.proofs.Inline.{cells_layer, cells_is}
use Rattle.jz_unroll.proofs.InlineParts.{inline_layer, inline_is}
use Rattle.jz_unroll.proofs.Valued.{parts_layer, known_is}
use Rattle.jz_unrolling_values.specs.declared.conditions.Test.TheVariants.{Always, Asked}
use Rattle.jz_unrolling_values.specs.declared.expressions.Waiting.{Waiting}
use Rattle.jz_unrolling_values.specs.declared.parts.Part.{Part}
use Rattle.jz_unrolling_values.specs.declared.conditions.Test.{Test}
use Rattle.jz_unrolling_values.specs.Parts.{on_left, IsInlinePart, IsPlainPart, IsTest, IsLoopTest, IsNever}
use Rattle.jz_unrolling_values.specs.Refusals.{OrElse, is_part, NeverTests, NeverLoops, NeverNumber}
use Rattle.jz_unrolling_values.proofs.PartLemmas.{ref_cell, last_waiting, IsOnTheWay}

-- ---- refusals that are handed on

cause : {A B : Type 0} (P : A → Type 0) (Q : B → Type 0) {p q : Type 0} (v : Failure Span) → IfAnswered (Err v) (OrElse P p) → (p → q) → IfAnswered (Err v) (OrElse Q q)
cause P Q (Refused at) h f = f h
cause P Q OutOfMemory h f = tt

pub handed : {A B : Type 0} (P : A → Type 0) (Q : B → Type 0) {p q : Type 0} (r : Result B (Failure Span)) (e : Failure Span) → IsErrAnd r (λ v. v ≡ e) → IfAnswered (Err e) (OrElse P p) → (p → q) → IfAnswered r (OrElse Q q)
handed P Q (Ok x) e is h f = absurd is
handed P Q {p} (Err v) e is h f = cause P Q v (subst (λ w. IfAnswered (Err w) (OrElse P p)) (sym is) h) f

-- where no more is said than why it is refused
refused_cause : {A : Type 0} (P : A → Type 0) {p q : Type 0} (v : Failure Span) → IfAnswered (Err v) (OrElse P p) → (p → q) → IfRefused v (λ at. q)
refused_cause P (Refused at) h f = f h
refused_cause P OutOfMemory h f = tt

pub handed_refusal : {A B : Type 0} (P : A → Type 0) {p q : Type 0} (r : Result B (Failure Span)) (e : Failure Span) → IsErrAnd r (λ v. v ≡ e) → IfAnswered (Err e) (OrElse P p) → (p → q) → IfErr r (λ failure. IfRefused failure (λ at. q))
handed_refusal P (Ok x) e is h f = absurd is
handed_refusal P {p} (Err v) e is h f = refused_cause P v (subst (λ w. IfAnswered (Err w) (OrElse P p)) (sym is) h) f

-- ---- truths

and_left : (a b : Bool) → a ≡ false → (a && b) ≡ false
and_left true b q = absurd cc
and_left false b q = refl

and_right : (a b : Bool) → b ≡ false → (a && b) ≡ false
and_right true b q = q
and_right false b q = refl

both_cases : (a : Bool) (P : Type 0) → (a ≡ true → P) → (a ≡ false → P) → P
both_cases true P f g = f refl
both_cases false P f g = g refl

-- one that fails among all
pub some_fails : {A : Type 0} (f : A → Bool) (xs : List A) (i : ℕ) (x : A) → i < length xs → x ≡ get_or xs i x → f x ≡ false → list_all f xs ≡ false
some_fails {A} f xs i x lt is fails = ap (list_all f) whole ∙ in_front (take i xs)
  where
    whole : xs ≡ take i xs ++ x ∷ drop (i + 1) xs
    whole = sym (take-append-drop i xs) ∙ ap (λ l. take i xs ++ l) (drop_more xs i x lt ∙ ap (λ y. y ∷ drop (i + 1) xs) (sym is))

    in_front : (ys : List A) → list_all f (ys ++ x ∷ drop (i + 1) xs) ≡ false
    in_front [] = and_left (f x) _ fails
    in_front (y ∷ ys) = and_right (f y) _ (in_front ys)

-- ---- expressions

module _ (names : InlineNames) (e : KnownNumbers) where
  abbrev P : Expr → Bool
  P x = is_part names e x

  abbrev part_layer : Layer → Bool
  part_layer y = if inline_layer y then cells_layer y else parts_layer names e y

  part_is : (y : Layer) → is_part names e (roll-Expr y) ≡ part_layer y
  part_is y = both_cases (is_inline (roll-Expr y)) (P (roll-Expr y) ≡ part_layer y) inline plain
    where
      inline : is_inline (roll-Expr y) ≡ true → P (roll-Expr y) ≡ part_layer y
      inline q =
          ap (λ (b : Bool). if b then has_no_cell (roll-Expr y) else has_values names e (roll-Expr y)) q ∙ cells_is y
          ∙ sym (ap (λ (b : Bool). if b then cells_layer y else parts_layer names e y) (sym (inline_is y) ∙ q))

      plain : is_inline (roll-Expr y) ≡ false → P (roll-Expr y) ≡ part_layer y
      plain q =
          ap (λ (b : Bool). if b then has_no_cell (roll-Expr y) else has_values names e (roll-Expr y)) q ∙ known_is names e y
          ∙ ap (λ (b : Bool). if b then is_known names e (roll-Expr y) else parts_layer names e y) q
          ∙ sym (ap (λ (b : Bool). if b then cells_layer y else parts_layer names e y) (sym (inline_is y) ∙ q))

  known_whole : (x : Expr) → has_values names e x ≡ (if is_inline x then is_known names e x else parts_layer names e (out-Expr x))
  known_whole x =
      ap (has_values names e) (sym (roll-out-Expr x)) ∙ known_is names e (out-Expr x)
      ∙ ap (λ k. if is_inline k then is_known names e k else parts_layer names e (out-Expr x)) (roll-out-Expr x)

  inline_values : (x : Expr) → is_inline x ≡ true → has_values names e x ≡ is_known names e x
  inline_values x q = known_whole x ∙ ap (λ b. if b then is_known names e x else parts_layer names e (out-Expr x)) q

  pub inline_part_is : (x : Expr) → is_inline x ≡ true → is_part names e x ≡ has_no_cell x
  inline_part_is x q = ap (λ b. if b then has_no_cell x else has_values names e x) q

  pub plain_part_is : (x : Expr) → is_inline x ≡ false → is_part names e x ≡ has_values names e x
  plain_part_is x q = ap (λ b. if b then has_no_cell x else has_values names e x) q

  -- what is no part has no values
  pub no_values : (x : Expr) → is_part names e x ≡ false → has_values names e x ≡ false
  no_values x fails =
      both_cases (is_inline x) (has_values names e x ≡ false)
      (λ q. inline_values x q ∙ and_left (has_no_cell x) (is_some (inline_value e x)) (sym (inline_part_is x q) ∙ fails))
      (λ q. sym (plain_part_is x q) ∙ fails)

  -- an inline part without a value has none
  pub none_known : (x : Expr) (found : Option Constant) (at : Span) → IsInlinePart names e x found at → found ≡ None → has_values names e x ≡ false
  none_known x found at p q = inline_values x p.inline ∙ and_right (has_no_cell x) (is_some (inline_value e x)) (ap is_some (sym p.value ∙ q))

  -- ---- operations

  bin_is : (op : BinOp) (x y : Expr) (at : Span) → is_part names e (expr.Bin op x y at) ≡ (if is_inline x && is_inline y then has_no_cell x && has_no_cell y else has_values names e x && has_values names e y)
  bin_is op x y at = ap P (sym (expr.rolls-Bin op x y at)) ∙ part_is (Expr-F.Bin op x y at)

  two : (a b c d : Bool) (p : Bool) → (p ≡ true → c ≡ false) → (p ≡ false → d ≡ false) → (if p then c else d) ≡ false
  two a b c d true f g = f refl
  two a b c d false f g = g refl

  pub left_no_part : (op : BinOp) (x y : Expr) (at : Span) → is_part names e x ≡ false → is_part names e (expr.Bin op x y at) ≡ false
  left_no_part op x y at fails =
      bin_is op x y at
      ∙ two true true (has_no_cell x && has_no_cell y) (has_values names e x && has_values names e y) (is_inline x && is_inline y)
      (λ q. and_left (has_no_cell x) (has_no_cell y) (sym (inline_part_is x (and_parts (is_inline x) (is_inline y) q).0) ∙ fails))
      (λ q. and_left (has_values names e x) (has_values names e y) (no_values x fails))

  pub right_no_part : (op : BinOp) (x y : Expr) (at : Span) → is_part names e y ≡ false → is_part names e (expr.Bin op x y at) ≡ false
  right_no_part op x y at fails =
      bin_is op x y at
      ∙ two true true (has_no_cell x && has_no_cell y) (has_values names e x && has_values names e y) (is_inline x && is_inline y)
      (λ q. and_right (has_no_cell x) (has_no_cell y) (sym (inline_part_is y (and_parts (is_inline x) (is_inline y) q).1) ∙ fails))
      (λ q. and_right (has_values names e x) (has_values names e y) (no_values y fails))

  -- an inline operand without a value, beside one that is not inline
  pub left_no_value : (op : BinOp) (x y : Expr) (at : Span) → is_inline y ≡ false → has_values names e x ≡ false → is_part names e (expr.Bin op x y at) ≡ false
  left_no_value op x y at plain fails =
      bin_is op x y at
      ∙ two true true (has_no_cell x && has_no_cell y) (has_values names e x && has_values names e y) (is_inline x && is_inline y)
      (λ q. let z : true ≡ false = sym (and_parts (is_inline x) (is_inline y) q).1 ∙ plain in absurd cc)
      (λ q. and_left (has_values names e x) (has_values names e y) fails)

  pub right_no_value : (op : BinOp) (x y : Expr) (at : Span) → is_inline x ≡ false → has_values names e y ≡ false → is_part names e (expr.Bin op x y at) ≡ false
  right_no_value op x y at plain fails =
      bin_is op x y at
      ∙ two true true (has_no_cell x && has_no_cell y) (has_values names e x && has_values names e y) (is_inline x && is_inline y)
      (λ q. let z : true ≡ false = sym (and_parts (is_inline x) (is_inline y) q).0 ∙ plain in absurd cc)
      (λ q. and_right (has_values names e x) (has_values names e y) fails)

  -- what stands on the left at the bottom
  pub side_no_part : (ws : List Waiting) (x : Expr) → is_part names e x ≡ false → is_part names e (on_left ws x) ≡ false
  side_no_part [] x fails = fails
  side_no_part (w ∷ ws) x fails = left_no_part w.op (on_left ws x) w.right.now w.span (side_no_part ws x fails)

  -- an operation on the way up
  pub way_no_part : (x : Expr) (ws us : List Waiting) (w : Waiting) (part : Part) → ws ≡ us ++ w ∷ [] → (way : IsOnTheWay names e x ws part) → is_part names e (expr.Bin w.op way.reached w.right.now w.span) ≡ false → is_part names e x ≡ false
  way_no_part x ws us w part last way fails =
      subst (λ y. is_part names e y ≡ false) (sym (last_waiting us w way.reached) ∙ ap (λ l. on_left l way.reached) (sym last) ∙ way.under)
      (side_no_part us (expr.Bin w.op way.reached w.right.now w.span) fails)

  pub neg_no_part : (x : Expr) (at : Span) → is_part names e x ≡ false → is_part names e (expr.Neg x at) ≡ false
  neg_no_part x at fails = ap P (sym (expr.rolls-Neg x at)) ∙ part_is (Expr-F.Neg x at) ∙ fails

  pub not_no_part : (x : Expr) (at : Span) → is_part names e x ≡ false → is_part names e (expr.Not x at) ≡ false
  not_no_part x at fails = ap P (sym (expr.rolls-Not x at)) ∙ part_is (Expr-F.Not x at) ∙ fails

  -- ---- what is never inline

  pub not_so : (b : Bool) → b ≡ true → not b ≡ false
  not_so true q = refl
  not_so false q = absurd cc

  pub cell_no_array : (v : Var) (i : Expr) → is_inline_var names v ≡ true → is_part names e (expr.Cell v i) ≡ false
  cell_no_array v i q = ap P (sym (expr.rolls-Cell v i)) ∙ part_is (Expr-F.Cell v i) ∙ and_left (not (is_inline_var names v)) (has_values names e i) (not_so (is_inline_var names v) q)

  pub cell_no_index : (v : Var) (i : Expr) → has_values names e i ≡ false → is_part names e (expr.Cell v i) ≡ false
  cell_no_index v i q = ap P (sym (expr.rolls-Cell v i)) ∙ part_is (Expr-F.Cell v i) ∙ and_right (not (is_inline_var names v)) (has_values names e i) q

  pub load_no_part : (a : Access) → access_has_values names e a ≡ false → is_part names e (expr.Load a) ≡ false
  load_no_part a q = ap P (sym (expr.rolls-Load a)) ∙ part_is (Expr-F.Load a) ∙ q

  pub cast_no_part : (z : Size) (s : Bool) (x : Expr) (at : Span) → has_values names e x ≡ false → is_part names e (expr.Cast z s x at) ≡ false
  cast_no_part z s x at q = ap P (sym (expr.rolls-Cast z s x at)) ∙ part_is (Expr-F.Cast z s x at) ∙ q

  var_is : (v : Var) → is_part names e (expr.Var v) ≡ (if is_inline_int (known_of v) then is_none (ref_of v).cell else not (is_inline_var names v))
  var_is v = ap P (sym (expr.rolls-Var v)) ∙ part_is (Expr-F.Var v)

  pub var_no_name : (v : Var) → is_inline_int (known_of v) ≡ false → is_inline_var names v ≡ true → is_part names e (expr.Var v) ≡ false
  var_no_name v i q = var_is v ∙ ap (λ (b : Bool). if b then is_none (ref_of v).cell else not (is_inline_var names v)) i ∙ not_so (is_inline_var names v) q

  pub var_cell : (v : Var) (i : ℕ) → is_inline_int (known_of v) ≡ true → (out-Var v).cell ≡ Some i → is_part names e (expr.Var v) ≡ false
  var_cell v i k q = var_is v ∙ ap (λ (b : Bool). if b then is_none (ref_of v).cell else not (is_inline_var names v)) k ∙ ap is_none (ref_cell v ∙ q)

  -- ---- left sides

  pub left_inline : (v : Var) → is_inline_int (known_of v) ≡ true → left_has_values names e (lval.Var v) ≡ false
  left_inline v i = and_right (not (is_inline_var names v)) (not (is_inline (expr.Var v))) (not_so (is_inline (expr.Var v)) (ap is_inline (sym (expr.rolls-Var v)) ∙ inline_is (Expr-F.Var v) ∙ i))

  pub left_named : (v : Var) → is_inline_var names v ≡ true → left_has_values names e (lval.Var v) ≡ false
  left_named v q = and_left (not (is_inline_var names v)) (not (is_inline (expr.Var v))) (not_so (is_inline_var names v) q)

  pub left_array : (v : Var) (i : Expr) → is_inline_var names v ≡ true → left_has_values names e (lval.Cell v i) ≡ false
  left_array v i q = and_left (not (is_inline_var names v)) (has_values names e i) (not_so (is_inline_var names v) q)

  pub left_index : (v : Var) (i : Expr) → has_values names e i ≡ false → left_has_values names e (lval.Cell v i) ≡ false
  left_index v i q = and_right (not (is_inline_var names v)) (has_values names e i) q

  -- ---- conditions and numbers

  no_true : (b : Bool) → b ≡ true → b ≡ false → ⊥
  no_true b p q = let z : true ≡ false = sym p ∙ q in absurd cc

  pub part_no_test : (c : Expr) → is_part names e c ≡ false → NeverTests names e c
  part_no_test c fails (Always z at) h = no_true (has_no_cell c) h.1.0 (sym (inline_part_is c h.0) ∙ fails)
  part_no_test c fails (Asked y) h = no_true (has_values names e c) h.valued.known (sym (plain_part_is c h.plain) ∙ fails)

  pub number_no_test : (c : Expr) (found : Option Constant) (at : Span) → IsInlinePart names e c found at → ((b : Bool) → found ≡ Some (constant.Bool b) → ⊥) → NeverTests names e c
  number_no_test c found at p fails (Always z k) h = fails z (p.value ∙ h.1.1)
  number_no_test c found at p fails (Asked y) h = no_true (is_inline c) p.inline h.plain

  pub part_no_number : (x : Expr) → is_part names e x ≡ false → NeverNumber e x
  part_no_number x fails = λ n i h. no_true (has_no_cell x) h.0 (sym (inline_part_is x i) ∙ fails)

  pub plain_no_number : (x y : Expr) → IsPlainPart names e x y → NeverNumber e x
  plain_no_number x y p = λ n i h. no_true (is_inline x) i p.plain

  pub other_no_number : (x : Expr) (found : Option Constant) (at : Span) → IsInlinePart names e x found at → ((n : ℤ) → found ≡ Some (constant.Int n) → ⊥) → NeverNumber e x
  other_no_number x found at p fails = λ n i h. fails n (p.value ∙ h.1)

  -- ---- tests of a `while`

  pub asked_test : (c y : Expr) → IsPlainPart names e c y → IsLoopTest names e c y
  asked_test c y p = λ at. subst (λ x. UnrollsLoopTest names (record { cond = c; at = at }) e [] [] (record { cond = x; at = at }) Same) (sym p.valued.copy) (loops p.plain p.valued.known)

  pub true_test : (c : Expr) (at1 : Span) → IsTest names e c (Always true at1) → IsLoopTest names e c (expr.Bool true at1)
  true_test c at1 t = λ at. subst (λ x. UnrollsLoopTest names (record { cond = c; at = at }) e [] [] (record { cond = expr.Bool true x; at = at }) Same) (sym t.2) (always t.0 t.1)

  loop_tests : (c : Expr) (p : Condition) (p2 : Condition) (os : List Operation) (is : List Numbers) (i : Numbers) → p.cond ≡ c → UnrollsLoopTest names p e os is p2 i → (test : Test) × IsTest names e c test × (IsNever e c → ⊥)
  loop_tests c p p2 os is i q (loops plain known) = (
    Asked (with_values e p.cond),
    subst (λ x. IsTest names e x (Asked (with_values e p.cond))) q (record { plain = plain; valued = record { copy = refl; known = known } }),
    λ n. no_true (is_inline c) n.0 (ap is_inline (sym q) ∙ plain),
  )
  loop_tests c p p2 os is i q (always inline value) = (
    Always true (span_of p.cond),
    subst (λ x. IsTest names e x (Always true (span_of p.cond))) q (inline, value, refl),
    λ n. let v : Some (constant.Bool true) ≡ Some (constant.Bool false) = sym value.1 ∙ ap (inline_value e) q ∙ n.1.1 in absurd cc,
  )

  pub no_test_loops : (c : Expr) → NeverTests names e c → NeverLoops names e c
  no_test_loops c fails = λ at p os is i test. let t = loop_tests c (record { cond = c; at = at }) p os is i refl test in fails t.0 t.1

  pub false_never_loops : (c : Expr) (at1 : Span) → IsTest names e c (Always false at1) → NeverLoops names e c
  false_never_loops c at1 t = λ at p os is i test. (loop_tests c (record { cond = c; at = at }) p os is i refl test).2 (t.0, t.1)

  -- ---- inline and false

  pub not_never_asked : (c y : Expr) → IsTest names e c (Asked y) → IsNever e c → ⊥
  not_never_asked c y p n = no_true (is_inline c) n.0 p.plain

  pub not_never_untested : (c : Expr) → NeverTests names e c → IsNever e c → ⊥
  not_never_untested c fails n = fails (Always false (span_of c)) (n.0, n.1, refl)

  -- what is always so is false where it is not true
  pub never_so : (c : Expr) (z : Bool) (at : Span) → IsTest names e c (Always z at) → (not z ≡ true) ↔ IsNever e c
  never_so c true at t = (λ q. let w : false ≡ true = q in absurd cc, λ n. let v : Some (constant.Bool true) ≡ Some (constant.Bool false) = sym t.1.1 ∙ n.1.1 in absurd cc)
  never_so c false at t = (λ q. (t.0, t.1), λ n. refl)

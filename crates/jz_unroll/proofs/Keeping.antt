-- Unrolling keeps the runs.
use Rattle.std.proofs.Common.{◌≡◌, ℕ, List, [], ◌∷◌, Option, Some, None, Bool, true, false, refl, ap, sym, ◌∙◌, subst, inl, eqb-true}
use Rattle.std.specs.Prelude.{ℤ, ◌==◌, ◌&&◌, is_some, if◌then◌else◌, ⊤}
use Rattle.std.specs.Str.{bytes_eq}
use Rattle.std.specs.List.{list_all}
use Rattle.std.specs.Option.{option_or}
use Rattle.std.proofs.lemmas.Bool.{and_parts}
use Rattle.jz_tree.proofs.Texts.{bytes_eq-true}
use Rattle.jz_tree.specs.Size.{Size}
use Rattle.jz_tree.specs.Span.{Span}
use Rattle.jz_tree.specs.Spellings.{spelled}
use Rattle.jz_tree.specs.declared.expr.BinOp.{BinOp}
use Rattle.jz_tree.specs.declared.expr.Expr.{Expr}
use Rattle.jz_tree.specs.declared.expr.Expr.TheVariants as expr
use Rattle.jz_tree.specs.declared.expr.Var.{Var}
use Rattle.jz_tree.specs.declared.expr.Expr.TheOpen.{Expr-F}
use Rattle.jz_tree.specs.declared.stmt.Lval.{Lval}
use Rattle.jz_tree.specs.declared.stmt.Lval.TheVariants as lval
use Rattle.jz_type_names.specs.Parts.{span_of}
use Rattle.jz_integers.specs.Integers.{KnownNumbers}
use Rattle.jz_integers.specs.declared.constant.Constant.{Constant}
use Rattle.jz_integers.specs.declared.constant.Constant.TheVariants as constant
use Rattle.jz_runs.specs.Rules.{stuck, went}
use Rattle.jz_meaning.specs.declared.access.Kind.{Kind}
use Rattle.jz_meaning.specs.declared.access.Kind.TheVariants as kind
use Rattle.jz_meaning.specs.declared.value.Stuck.{Stuck}
use Rattle.jz_meaning.specs.Attempts.{Evaluation, numbers_first, and_then, defined}
use Rattle.jz_meaning.specs.Operators.{of_constant}
use Rattle.jz_meaning.specs.States.{Value, integer, State}
use Rattle.jz_meaning.specs.Values.{key_of, Meaning, ref_of, own_size, evaluated}
use Rattle.jz_meaning.specs.Assignments.{with_value, Results, all_written, held, left_size, left_sizes, whole_of, bool_in, truth, old_value, conditioned, chosen, assigned_whole, assigned}
use Rattle.jz_meaning.specs.Statements.{Operation, assign, instruction, unset, meaningless, Condition, Counter, does, number_at, number_in, values_between, counts, restores, source, quiets}
use Rattle.jz_change.specs.declared.change.Numbers.{Numbers}
use Rattle.jz_change.specs.Changes.{numbers_in}
use Rattle.jz_change.specs.Fitting.{HasThese}
use Rattle.jz_pass.specs.Cases.{AsMany, none_each, one_each, HasItems}
use Rattle.jz_pass.specs.Operations.{DoAll, do_none, do_one, OneFails, fails_here, TestFails, fails_at_test}
use Rattle.jz_pass.specs.Unrolling.{IsKnown}
use Rattle.jz_unroll.specs.Values.{is_int, with_values, operation_with_values, InlineNames, has_values, left_has_values, if_has_values, operation_has_values}
use Rattle.jz_unroll.specs.Unrolling.{with_number, number_of, HasValue, ConditionIs, IsInlineInt, UnrollsOp, stays, vanishes, UnrollsMark, marked, UnrollsTest, tested, UnrollsLoopTest, loops, always, HasValues, unrolling}
use Rattle.jz_unroll.specs.ValueLaws.{StandsFor}
use Rattle.jz_unroll.proofs.Layers.{meaning_is}
use Rattle.jz_unroll.proofs.Inline.{inline_exact}
use Rattle.jz_unroll.proofs.PartNumbers.{none_first}
use Rattle.jz_unroll.proofs.Standing.{number_stands, mark_stands, less_stands}
use Rattle.jz_unroll.proofs.Assigning.{Alike, bool_so, assigned_so}
use Rattle.jz_unroll.proofs.Instructing.{instructed_so}

-- what has gone goes on alike
went_alike : (P : State → State → Type 0) (g h : Evaluation State) (ns : List ℕ) (s1 : State) → Alike P g h → g ≡ went ns s1 → (t1 : State) × (h ≡ went ns t1) × P s1 t1
went_alike P g h ns s1 a q = subst (λ y. Alike P y h) q a

stuck_alike : (P : State → State → Type 0) (g h : Evaluation State) (w : Stuck) → Alike P g h → g ≡ stuck w → h ≡ stuck w
stuck_alike P g h w a q = subst (λ y. Alike P y h) q a

module _ (names : InlineNames) where
  -- ---- what stays

  stays_so : (e : KnownNumbers) (o : Operation) (s t : State) → operation_has_values names e o ≡ true → StandsFor names e s t → Alike (StandsFor names e) (does o s) (does (operation_with_values e o) t)
  stays_so e (assign to o x c at) s t ok h =
      let p = and_parts (list_all (left_has_values names e) to) _ ok in let q = and_parts (has_values names e x) _ p.1 in let r = and_parts (if_has_values names e c) _ q.1 in
      assigned_so names e s t h to o x c at p.0 q.0 r.0 r.1
  stays_so e (instruction to n args at) s t ok h =
      let p = and_parts (list_all (left_has_values names e) to) _ ok in
      instructed_so names e s t h (spelled n) to args at p.0 p.1
  stays_so e (unset vs) s t ok h = (t, refl, h)
  stays_so e (meaningless at) s t ok h = refl

  -- ---- what vanishes

  exactly : (e : KnownNumbers) (s t : State) (x : Expr) (c : Constant) → HasValue e x c → StandsFor names e s t → (w : Option Size) → evaluated x w s ≡ went [] (of_constant c)
  exactly e s t x c v h w = inline_exact e s h.known x v.0 c v.1 w

  -- the variable itself, where it is known
  known_var : (e : KnownNumbers) (s t : State) (v : Var) (j : ℤ) → IsInlineInt names v → number_of e v ≡ Some j → StandsFor names e s t → (w : Option Size) → evaluated (expr.Var v) w s ≡ went [] (integer j)
  known_var e s t v j i k h w =
      ap (λ x. evaluated x w s) (sym (expr.rolls-Var v)) ∙ ap (λ (m : Meaning). m.run w s) (meaning_is (Expr-F.Var v))
      ∙ ap (defined (ref_of v).span) (h.known (ref_of v) j i.whole k)

  held_int : (at : Span) (k : Kind) (i : ℤ) → is_int k ≡ true → held at k (integer i) ≡ went [] (integer i)
  held_int at kind.Int i e = refl
  held_int at kind.Undeclared i e = absurd cc
  held_int at kind.Bool i e = absurd cc
  held_int at (kind.Word z) i e = absurd cc
  held_int at (kind.Array z n) i e = absurd cc

  written_int : (at : Span) (z : Option Size) (v : Var) (i : ℤ) (s : State) → is_int (ref_of v).kind ≡ true → all_written at z (lval.Var v ∷ []) (Some (integer i) ∷ []) s ≡ went [] (with_value s (key_of (ref_of v)) (Some (integer i)))
  written_int at z v i s q =
      ap (λ g. and_then (and_then (and_then g (λ u. went [] (Some u))) (λ u. went [] (with_value s (key_of (ref_of v)) u))) (λ t. all_written at z [] [] t)) (held_int (ref_of v).span (ref_of v).kind i q)

  abbrev setting : Var → ℤ → State → State
  setting v i s = with_value s (key_of (ref_of v)) (Some (integer i))

  pub set_stands : (e : KnownNumbers) (s t : State) (v : Var) (i : ℤ) → IsInlineInt names v → StandsFor names e s t → StandsFor names (with_number e v (Some i)) (setting v i s) t
  set_stands e s t v i k h = number_stands names e s t v (Some i) (Some (integer i)) k.named k.whole (λ x q. let p : i ≡ x = cc in ap (λ y. Some (integer y)) p) h

  number_same : (e : KnownNumbers) (v : Var) (n : List ℕ) (c : ℕ) → (bytes_eq (ref_of v).name n && (ref_of v).copy == c) ≡ true → e n c ≡ number_of e v
  number_same e v n c p =
      let q = and_parts (bytes_eq (ref_of v).name n) _ p in
      let x : (ref_of v).name ≡ n = bytes_eq-true (ref_of v).name n q.0 in
      let y : (ref_of v).copy ≡ c = eqb-true (ref_of v).copy c q.1 in
      ap (λ m. e m c) (sym x) ∙ ap (e (ref_of v).name) (sym y)

  -- a number that is what it was
  same_stands : (e : KnownNumbers) (s t : State) (v : Var) (j : ℤ) → IsInlineInt names v → number_of e v ≡ Some j → StandsFor names e s t → StandsFor names e (setting v j s) t
  same_stands e s t v j k known h =
      less_stands names e (with_number e v (Some j)) (setting v j s) t (λ n c x q. by_test n c x (bytes_eq (ref_of v).name n && (ref_of v).copy == c) refl q) (set_stands e s t v j k h)
    where
      by_test : (n : List ℕ) (c : ℕ) (x : ℤ) (b : Bool) → (bytes_eq (ref_of v).name n && (ref_of v).copy == c) ≡ b → e n c ≡ Some x → (if b then Some j else e n c) ≡ Some x
      by_test n c x true p q = sym known ∙ sym (number_same e v n c p) ∙ q
      by_test n c x false p q = q

  pub bool_const : (e : KnownNumbers) (s t : State) (at : Span) (x : Expr) (z : Bool) → HasValue e x (constant.Bool z) → StandsFor names e s t → bool_in at x s ≡ went [] z
  bool_const e s t at x z v h = ap (λ g. and_then g (truth at)) (exactly e s t x (constant.Bool z) v h None)

  number_const : (e : KnownNumbers) (s t : State) (at : Span) (x : Expr) (i : ℤ) → HasValue e x (constant.Int i) → StandsFor names e s t → number_in at x s ≡ went [] i
  number_const e s t at x i v h = ap (λ g. and_then g (number_at at)) (exactly e s t x (constant.Int i) v h None)

  -- what sets one inline variable goes on, without numbers, to a state with the new number
  vanish_so : (e : KnownNumbers) (s t : State) (v : Var) (o : Option BinOp) (x y : Expr) (c : Option Expr) (at : Span) (i : ℤ) (b : Bool) → IsInlineInt names v → whole_of (Some (lval.Var v)) o x ≡ Some y → HasValue e y (constant.Int i) → ConditionIs e v c b → StandsFor names e s t
      → (s1 : State) × (assigned (lval.Var v ∷ []) o x c at s ≡ went [] s1) × StandsFor names (if b then with_number e v (Some i) else e) s1 t
  vanish_so e s t v o x y c at i b k whole value cond h =
      let r = by_condition c cond in
      (r.0, ap (λ w. assigned_whole to w c at s) whole ∙ ap (λ g. and_then (and_then g (λ u. went [] (Some u ∷ []))) (λ vs. and_then (conditioned to c at vs s) (λ us. all_written at z to us s))) (exactly e s t y (constant.Int i) value h z) ∙ none_first _ ∙ r.1, r.2)
    where
      to : List Lval
      to = lval.Var v ∷ []

      z : Option Size
      z = option_or (left_sizes to) (own_size y)

      vs : Results
      vs = Some (integer i) ∷ []

      by_answer : (b : Bool) (j : ℤ) → number_of e v ≡ Some j → (s1 : State) × (all_written at z to (chosen b vs (integer j)) s ≡ went [] s1) × StandsFor names (if b then with_number e v (Some i) else e) s1 t
      by_answer true j q = (setting v i s, written_int at z v i s k.int, set_stands e s t v i k h)
      by_answer false j q = (setting v j s, written_int at z v j s k.int, same_stands e s t v j k q h)

      conditioned_is : (x : Expr) (j : ℤ) → HasValue e x (constant.Bool b) → number_of e v ≡ Some j → conditioned to (Some x) at vs s ≡ went [] (chosen b vs (integer j))
      conditioned_is x j hv q =
          ap (λ g. and_then g (λ u. and_then (old_value to at s) (λ old. went [] (chosen u vs old)))) (bool_const e s t at x b hv h) ∙ none_first _
          ∙ ap (λ g. and_then (numbers_first [] g) (λ old. went [] (chosen b vs old))) (known_var e s t v j k q h (left_size (lval.Var v)))

      by_number : (x : Expr) → HasValue e x (constant.Bool b) → (n : Option ℤ) → number_of e v ≡ n → is_some n ≡ true → (s1 : State) × (and_then (conditioned to (Some x) at vs s) (λ us. all_written at z to us s) ≡ went [] s1) × StandsFor names (if b then with_number e v (Some i) else e) s1 t
      by_number x hv None q ok = absurd cc
      by_number x hv (Some j) q ok =
          let r = by_answer b j q in
          (r.0, ap (λ g. and_then g (λ us. all_written at z to us s)) (conditioned_is x j hv q) ∙ none_first _ ∙ r.1, r.2)

      by_condition : (c : Option Expr) → ConditionIs e v c b → (s1 : State) × (and_then (conditioned to c at vs s) (λ us. all_written at z to us s) ≡ went [] s1) × StandsFor names (if b then with_number e v (Some i) else e) s1 t
      by_condition None q = (setting v i s, none_first _ ∙ written_int at z v i s k.int, subst (λ u. StandsFor names (if u then with_number e v (Some i) else e) (setting v i s) t) (sym q) (set_stands e s t v i k h))
      by_condition (Some x) q = by_number x q.0 (number_of e v) refl q.1

  -- ---- operations

  pub op_went : (o : Operation) (e e1 : KnownNumbers) (os : List Operation) (is : List Numbers) (s s1 t : State) (ns : List ℕ) → UnrollsOp names o e os is e1 → StandsFor names e s t → does o s ≡ went ns s1 → (t1 : State) × DoAll source ns os is t t1 × StandsFor names e1 s1 t1
  op_went o e e1 os is s s1 t ns (stays ok) h q =
      let a = went_alike (StandsFor names e) (does o s) (does (operation_with_values e o) t) ns s1 (stays_so e o s t ok h) q in
      (a.0, do_one tt a.1 do_none, a.2)
  op_went o e e1 os is s s1 t ns (vanishes {v} {o = op} {x} {y} {c} {at} {i} b k whole value cond) h q =
      let r = vanish_so e s t v op x y c at i b k whole value cond h in
      let p : ◌≡◌ {A = Evaluation State} (went [] r.0) (went ns s1) = sym r.1 ∙ q in
      let same : r.0 ≡ s1 = cc in
      (t, do_none, subst (λ u. StandsFor names (if b then with_number e v (Some i) else e) u t) same r.2)

  pub op_stuck : (o : Operation) (e e1 : KnownNumbers) (os : List Operation) (is : List Numbers) (s t : State) (w : Stuck) → UnrollsOp names o e os is e1 → StandsFor names e s t → does o s ≡ stuck w → (w2 : Stuck) × (w ≡ w2) × OneFails source w2 os t
  op_stuck o e e1 os is s t w (stays ok) h q =
      (w, refl, fails_here (stuck_alike (StandsFor names e) (does o s) (does (operation_with_values e o) t) w (stays_so e o s t ok h) q))
  op_stuck o e e1 os is s t w (vanishes {v} {o = op} {x} {y} {c} {at} {i} b k whole value cond) h q =
      let r = vanish_so e s t v op x y c at i b k whole value cond h in
      absurd (let p : ◌≡◌ {A = Evaluation State} (went [] r.0) (stuck w) = sym r.1 ∙ q in cc)

  pub quiet_so : (o : Operation) (e e1 : KnownNumbers) (o2 : Operation) (s t : State) → UnrollsMark names o e o2 e1 → StandsFor names e s t → StandsFor names e1 (quiets o s) (quiets o2 t)
  quiet_so o e e1 o2 s t (marked {vs}) h = mark_stands names vs e s t h

  -- ---- tests

  pub test_went : (p : Condition) (e : KnownNumbers) (os : List Operation) (is : List Numbers) (p2 : Condition) (i : Numbers) (s t : State) (ns : List ℕ) (z : Bool) → UnrollsTest names p e os is p2 i → StandsFor names e s t → bool_in p.at p.cond s ≡ went ns z
      → (t1 : State) × DoAll source ns os is t t1 × HasThese ns i × (bool_in p2.at p2.cond t1 ≡ went (numbers_in i ns) z) × StandsFor names e s t1
  test_went p e os is p2 i s t ns z (tested inline ok) h q = (t, do_none, tt, bool_so names e s t h p.at p.cond ok ∙ q, h)

  pub test_stuck : (p : Condition) (e : KnownNumbers) (os : List Operation) (is : List Numbers) (p2 : Condition) (i : Numbers) (s t : State) (w : Stuck) → UnrollsTest names p e os is p2 i → StandsFor names e s t → bool_in p.at p.cond s ≡ stuck w → (w2 : Stuck) × (w ≡ w2) × TestFails source w2 os p2 t
  test_stuck p e os is p2 i s t w (tested inline ok) h q = (w, refl, fails_at_test (bool_so names e s t h p.at p.cond ok ∙ q))

  true_so : (at place : Span) (t : State) → bool_in at (expr.Bool true place) t ≡ went [] true
  true_so at place t =
      ap (λ g. and_then g (truth at))
      (ap (λ x. evaluated x None t) (sym (expr.rolls-Bool true place)) ∙ ap (λ (m : Meaning). m.run None t) (meaning_is (Expr-F.Expr::Bool true place)))

  pub loop_test_went : (p : Condition) (e : KnownNumbers) (os : List Operation) (is : List Numbers) (p2 : Condition) (i : Numbers) (s t : State) (ns : List ℕ) (z : Bool) → UnrollsLoopTest names p e os is p2 i → StandsFor names e s t → bool_in p.at p.cond s ≡ went ns z
      → (t1 : State) × DoAll source ns os is t t1 × HasThese ns i × (bool_in p2.at p2.cond t1 ≡ went (numbers_in i ns) z) × StandsFor names e s t1
  loop_test_went p e os is p2 i s t ns z (loops inline ok) h q = (t, do_none, tt, bool_so names e s t h p.at p.cond ok ∙ q, h)
  loop_test_went p e os is p2 i s t ns z (always inline value) h q = (t, do_none, tt, true_so p.at (span_of p.cond) t ∙ sym (bool_const e s t p.at p.cond true value h) ∙ q, h)

  pub loop_test_stuck : (p : Condition) (e : KnownNumbers) (os : List Operation) (is : List Numbers) (p2 : Condition) (i : Numbers) (s t : State) (w : Stuck) → UnrollsLoopTest names p e os is p2 i → StandsFor names e s t → bool_in p.at p.cond s ≡ stuck w → (w2 : Stuck) × (w ≡ w2) × TestFails source w2 os p2 t
  loop_test_stuck p e os is p2 i s t w (loops inline ok) h q = (w, refl, fails_at_test (bool_so names e s t h p.at p.cond ok ∙ q))
  loop_test_stuck p e os is p2 i s t w (always inline value) h q = absurd (let k : ◌≡◌ {A = Evaluation Bool} (went [] true) (stuck w) = sym (bool_const e s t p.at p.cond true value h) ∙ q in cc)

  -- ---- `for`

  pub values_so : (f : Counter) (e : KnownNumbers) (is : List ℤ) (s t : State) → HasValues names f e is → StandsFor names e s t → counts f s ≡ went [] is
  values_so f e is s t v h =
      ap (λ g. and_then g (λ a. and_then (number_in f.at f.to s) (λ b. went [] (values_between f.down a b)))) (number_const e s t f.at f.from v.first v.from h) ∙ none_first _
      ∙ ap (λ g. and_then g (λ b. went [] (values_between f.down v.first b))) (number_const e s t f.at f.to v.bound v.to h)
      ∙ ap (λ (l : List ℤ). went [] l) (sym v.values)

  pub restore_so : (f : Counter) (e e1 : KnownNumbers) (is : List ℤ) (s s1 t t1 : State) → HasValues names f e is → StandsFor names e s t → StandsFor names e1 s1 t1 → StandsFor names (with_number e1 f.counter (number_of e f.counter)) (restores f s s1) t1
  restore_so f e e1 is s s1 t t1 v h h1 =
      number_stands names e1 s1 t1 f.counter (number_of e f.counter) (s.store (key_of (ref_of f.counter))) v.counter.named v.counter.whole (λ i q. h.known (ref_of f.counter) i v.counter.whole q) h1

  abbrev pub unrolling_known : IsKnown source source (unrolling names)
  unrolling_known = record {
    Relates = λ e s t. StandsFor names e s t;
    Fails = λ w w2. w ≡ w2;
    Exact = ⊤;
    settles = λ w w2. inl tt;
    less_so = λ e0 e s t k r. less_stands names e0 e s t k r;
    op_went = λ o e e1 os is s s1 t ns k r q. op_went o e e1 os is s s1 t ns k r q;
    op_stuck = λ o e e1 os is s t w x k r q. op_stuck o e e1 os is s t w k r q;
    quiet_so = λ o e e1 o2 s t k r. quiet_so o e e1 o2 s t k r;
    test_went = λ p e os is p2 i s t ns z k r q. test_went p e os is p2 i s t ns z k r q;
    test_stuck = λ p e os is p2 i s t w x k r q. test_stuck p e os is p2 i s t w k r q;
    loop_test_went = λ p e os is p2 i s t ns z k r q. loop_test_went p e os is p2 i s t ns z k r q;
    loop_test_stuck = λ p e os is p2 i s t w x k r q. loop_test_stuck p e os is p2 i s t w k r q;
    constant_so = λ p e z s t k r. (bool_const e s t p.at p.cond z k.1 r, r);
    values_so = λ f e is s t k r. values_so f e is s t k r;
    set_so = λ f i e0 e is s t k r. set_stands e s t f.counter i k.counter r;
    restore_so = λ f e e1 is s s1 t t1 k r r1. restore_so f e e1 is s s1 t t1 k r r1;
  }

  pub ops_items : (o : Operation) (e e1 : KnownNumbers) (os : List Operation) (is : List Numbers) → UnrollsOp names o e os is e1 → AsMany os is
  ops_items o e e1 os is (stays ok) = one_each none_each
  ops_items o e e1 os is (vanishes b k whole value cond) = none_each

  pub tests_items : (p : Condition) (e : KnownNumbers) (os : List Operation) (is : List Numbers) (p2 : Condition) (i : Numbers) → UnrollsTest names p e os is p2 i → AsMany os is
  tests_items p e os is p2 i (tested inline ok) = none_each

  pub loop_tests_items : (p : Condition) (e : KnownNumbers) (os : List Operation) (is : List Numbers) (p2 : Condition) (i : Numbers) → UnrollsLoopTest names p e os is p2 i → AsMany os is
  loop_tests_items p e os is p2 i (loops inline ok) = none_each
  loop_tests_items p e os is p2 i (always inline value) = none_each

  abbrev pub unrolling_items : HasItems {F = Counter} (unrolling names)
  unrolling_items = record { ops = ops_items; tests = tests_items; loop_tests = loop_tests_items }

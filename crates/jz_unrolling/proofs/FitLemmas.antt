-- What fits, piece by piece: what is known behind each, and when none fits.
use Rattle.std.proofs.Common.{◌≡◌, ℕ, List, [], ◌∷◌, ◌++◌, length, take, drop, get_or, ◌<◌, ◌+◌, Option, Some, None, Bool, true, false, refl, ap, sym, ◌∙◌, subst}
use Rattle.std.specs.Prelude.{ℤ, not, is_some, if◌then◌else◌}
use Rattle.std.specs.List.{list_all}
use Rattle.std.proofs.lemmas.Bool.{and_parts}
use Rattle.std.proofs.lemmas.List.{drop_more, take-append-drop}
use Rattle.jz_tree.specs.Span.{Span}
use Rattle.jz_tree.specs.declared.expr.BinOp.{BinOp}
use Rattle.jz_tree.specs.declared.expr.Expr.{Expr}
use Rattle.jz_tree.specs.declared.expr.Var.{Var}
use Rattle.jz_tree.specs.declared.stmt.Lval.{Lval}
use Rattle.jz_tree.specs.declared.stmt.Lval.TheVariants as lval
use Rattle.jz_tree.specs.declared.stmt.Stmt.{Stmt}
use Rattle.jz_type_names.specs.Kinds.{is_inline}
use Rattle.jz_integers.specs.Integers.{KnownNumbers}
use Rattle.jz_integers.specs.declared.constant.Constant.TheVariants as constant
use Rattle.jz_meaning.specs.Trees.{done, op, quiet, choose, loop, each}
use Rattle.jz_meaning.specs.Runs.{instruction_tree, block, statement_tree}
use Rattle.jz_meaning.specs.Statements.{Operation, assign, instruction, unset, meaningless, Condition, Counter, Block, values_between}
use Rattle.jz_change.specs.declared.change.Numbers.{Numbers}
use Rattle.jz_unroll.specs.Values.{InlineNames, is_inline_var, left_has_values, operation_has_values}
use Rattle.jz_unroll.specs.Unrolling.{with_number, number_of, all_unknown, HasValue, ConditionIs, IsInlineInt, UnrollsOp, stays, vanishes, UnrollsMark, marked, UnrollsTest, tested, UnrollsLoopTest, HasValues, IsConstant}
use Rattle.jz_unroll.proofs.Parts.{not_true}
use Rattle.jz_unrolling_values.specs.Parts.{IsInlineIf, HasWhole}
use Rattle.jz_unrolling.specs.Forgetting.{forgotten}
use Rattle.jz_unrolling.specs.Fits.{SetsInline, IsPlainOp, Fits, fits_done, fits_op, fits_quiet, fits_if, fits_arm, fits_while, fits_once, fits_for, FitsEach, fits_none, fits_more}
use Rattle.jz_unrolling.specs.Refusals.{NeverFits}
use Rattle.jz_unrolling.specs.Steps.{no_callees, FitsOn}
use Rattle.jz_unrolling.proofs.Becoming.{block_append}

-- ---- what is known behind an operation

same_condition : (e : KnownNumbers) (v : Var) (c : Option Expr) (b b2 : Bool) → ConditionIs e v c b → ConditionIs e v c b2 → b2 ≡ b
same_condition e v None b b2 p q = q ∙ sym p
same_condition e v (Some c) b b2 p q = let r : Some (constant.Bool b) ≡ Some (constant.Bool b2) = sym p.0.1 ∙ q.0.1 in cc

same_number : (e : KnownNumbers) (x : Expr) (i j : ℤ) → HasValue e x (constant.Int i) → HasValue e x (constant.Int j) → i ≡ j
same_number e x i j p q = let r : Some (constant.Int i) ≡ Some (constant.Int j) = sym p.1 ∙ q.1 in cc

same_truth : (e : KnownNumbers) (x : Expr) (b d : Bool) → HasValue e x (constant.Bool b) → HasValue e x (constant.Bool d) → b ≡ d
same_truth e x b d p q = let r : Some (constant.Bool b) ≡ Some (constant.Bool d) = sym p.1 ∙ q.1 in cc

module _ (names : InlineNames) where
  -- what sets an inline variable does not stay
  pub no_stay : (v : Var) (o : Option BinOp) (x : Expr) (c : Option Expr) (at : Span) (e : KnownNumbers) → is_inline_var names v ≡ true → operation_has_values names e (assign (lval.Var v ∷ []) o x c at) ≡ true → ⊥
  no_stay v o x c at e inline ok =
      let p = and_parts (list_all (left_has_values names e) (lval.Var v ∷ [])) _ ok in
      let q = and_parts (left_has_values names e (lval.Var v)) _ p.0 in
      let r = and_parts (not (is_inline_var names v)) _ q.0 in
      let n : is_inline_var names v ≡ false = not_true (is_inline_var names v) r.0 in
      absurd cc

  pub stays_only : (o : Operation) (e e1 : KnownNumbers) (os : List Operation) (is : List Numbers) → operation_has_values names e o ≡ true → UnrollsOp names o e os is e1 → e1 ≡ e
  stays_only o e e1 os is ok (stays h) = refl
  stays_only o e e1 os is ok (vanishes {v} {o = w} {x} {c} {at} b inline whole value cond) = absurd (no_stay v w x c at e inline.named ok)

  pub gone_only : (v : Var) (o : Option BinOp) (x : Expr) (c : Option Expr) (at : Span) (e e1 : KnownNumbers) (os : List Operation) (is : List Numbers) (n : ℤ) (b : Bool) → is_inline_var names v ≡ true → HasWhole e v o x n → ConditionIs e v c b → UnrollsOp names (assign (lval.Var v ∷ []) o x c at) e os is e1
      → e1 ≡ (if b then with_number e v (Some n) else e)
  gone_only v o x c at e e1 os is n b inline whole cond (stays ok) = absurd (no_stay v o x c at e inline ok)
  gone_only v o x c at e e1 os is n b inline whole cond (vanishes {y = y2} {i = i2} b2 inline2 whole2 value2 cond2) =
      let y : whole.0 ≡ y2 = some_one (sym whole.1 ∙ whole2) in
      let i : i2 ≡ n = same_number e y2 i2 n value2 (subst (λ z. HasValue e z (constant.Int n)) y whole.2) in
      ap (λ d. if d then with_number e v (Some i2) else e) (same_condition e v c b b2 cond cond2) ∙ ap (λ m. if b then with_number e v (Some m) else e) i
    where
      some_one : {A : Type 0} {p q : A} → Some p ≡ Some q → p ≡ q
      some_one r = cc

  -- ---- pieces

  done_only : (e e2 : KnownNumbers) → Fits names done e e2 → e2 ≡ e
  done_only e e2 fits_done = refl

  pub ends_at : (f : Block → Block) (e e1 e2 : KnownNumbers) → FitsOn names f e e1 → Fits names (f done) e e2 → e2 ≡ e1
  ends_at f e e1 e2 on h = done_only e1 e2 (on done e2 h)

  pub on_both : (f g : Block → Block) (a b c : KnownNumbers) → FitsOn names f a b → FitsOn names g b c → FitsOn names (λ t. f (g t)) a c
  on_both f g a b c p q = λ t e2 h. q t e2 (p (g t) e2 h)

  moved : (t : Block) (e e1 e2 : KnownNumbers) → e ≡ e1 → Fits names t e e2 → Fits names t e1 e2
  moved t e e1 e2 q h = subst (λ k. Fits names t k e2) q h

  op_on : (o : Operation) (e e1 : KnownNumbers) → ((os : List Operation) (is : List Numbers) (k : KnownNumbers) → UnrollsOp names o e os is k → k ≡ e1) → (t : Block) (e2 : KnownNumbers) → Fits names (op o t) e e2 → Fits names t e1 e2
  op_on o e e1 f t e2 (fits_op {e1 = k} {os} {is} plain rule h) = moved t k e1 e2 (f os is k rule) h

  pub stays_on : (o : Operation) (e : KnownNumbers) → operation_has_values names e o ≡ true → FitsOn names (op o) e e
  stays_on o e ok = op_on o e e (λ os is k rule. stays_only o e k os is ok rule)

  pub gone_on : (v : Var) (o : Option BinOp) (x : Expr) (c : Option Expr) (at : Span) (e e1 : KnownNumbers) (n : ℤ) (b : Bool) → is_inline_var names v ≡ true → HasWhole e v o x n → ConditionIs e v c b → (if b then with_number e v (Some n) else e) ≡ e1 → FitsOn names (op (assign (lval.Var v ∷ []) o x c at)) e e1
  gone_on v o x c at e e1 n b inline whole cond q = op_on (assign (lval.Var v ∷ []) o x c at) e e1 (λ os is k rule. gone_only v o x c at e k os is n b inline whole cond rule ∙ q)

  mark_only : (vs : List Var) (e e1 : KnownNumbers) (o : Operation) → UnrollsMark names (unset vs) e o e1 → e1 ≡ all_unknown e vs
  mark_only vs e e1 o marked = refl

  pub mark_on : (vs : List Var) (e : KnownNumbers) → FitsOn names (quiet (unset vs)) e (all_unknown e vs)
  mark_on vs e = λ t e2 h. next t e2 h
    where
      next : (t : Block) (e2 : KnownNumbers) → Fits names (quiet (unset vs) t) e e2 → Fits names t (all_unknown e vs) e2
      next t e2 (fits_quiet {o2} {e1} rule h) = moved t e1 (all_unknown e vs) e2 (mark_only vs e e1 o2 rule) h

  -- ---- `if`

  not_constant : (p : Condition) (e : KnownNumbers) (p2 : Condition) (os : List Operation) (is : List Numbers) (i : Numbers) (z : Bool) → UnrollsTest names p e os is p2 i → IsConstant p e z → ⊥
  not_constant p e p2 os is i z (tested plain known) c = let q : true ≡ false = sym c.0 ∙ plain in absurd cc

  pub if_on : (c : Expr) (at : Span) (a b : Block) (e : KnownNumbers) → is_inline c ≡ false → FitsOn names (choose (record { cond = c; at = at }) a b) e (forgotten names b (forgotten names a e))
  if_on c at a b e plain = λ t e2 h. next t e2 h
    where
      next : (t : Block) (e2 : KnownNumbers) → Fits names (choose (record { cond = c; at = at }) a b t) e e2 → Fits names t (forgotten names b (forgotten names a e)) e2
      next t e2 (fits_if test fa fb h) = h
      next t e2 (fits_arm z const fa h) = let q : true ≡ false = sym const.0 ∙ plain in absurd cc

  pub arm_on : (c : Expr) (at : Span) (z : Bool) (a b : Block) (f : Block → Block) (e e1 : KnownNumbers) → IsConstant (record { cond = c; at = at }) e z → f done ≡ (if z then a else b) → FitsOn names f e e1 → FitsOn names (choose (record { cond = c; at = at }) a b) e e1
  arm_on c at z a b f e e1 constant0 is on = λ t e2 h. next t e2 h
    where
      next : (t : Block) (e2 : KnownNumbers) → Fits names (choose (record { cond = c; at = at }) a b t) e e2 → Fits names t e1 e2
      next t e2 (fits_if {p2} {os} {is = js} {i} test fa fb h) = absurd (not_constant (record { cond = c; at = at }) e p2 os js i z test constant0)
      next t e2 (fits_arm {e1 = k} y const fa h) =
          let same : y ≡ z = same_truth e c y z const.1 constant0.1 in
          let arm : Fits names (f done) e k = subst (λ l. Fits names l e k) (ap (λ d. if d then a else b) same ∙ sym is) fa in
          moved t k e1 e2 (ends_at f e e1 k on arm) h

  -- ---- `while`

  pub once_on : (h0 : Bool) (c : Expr) (at : Span) (b : Block) (f : Block → Block) (e e1 : KnownNumbers) → IsConstant (record { cond = c; at = at }) e false → FitsOn names f e e1 → FitsOn names (loop h0 (f done) (record { cond = c; at = at }) b) e e1
  once_on h0 c at b f e e1 constant0 on = λ t e2 h. next t e2 h
    where
      next : (t : Block) (e2 : KnownNumbers) → Fits names (loop h0 (f done) (record { cond = c; at = at }) b t) e e2 → Fits names t e1 e2
      next t e2 (fits_while never fq test fb h) = absurd (never constant0)
      next t e2 (fits_once {eq} first fq const h) = moved t eq e1 e2 (ends_at f e e1 eq on fq) h

  pub loop_on : (h0 : Bool) (q : Block) (p : Condition) (b : Block) (e : KnownNumbers) → (IsConstant p e false → ⊥) → FitsOn names (loop h0 q p b) e (forgotten names b (forgotten names q e))
  loop_on h0 q p b e never = λ t e2 h. next t e2 h
    where
      next : (t : Block) (e2 : KnownNumbers) → Fits names (loop h0 q p b t) e e2 → Fits names t (forgotten names b (forgotten names q e)) e2
      next t e2 (fits_while other fq test fb h) = h
      next t e2 (fits_once first fq const h) = absurd (never first)

  -- ---- `for`

  pub same_values : (f : Counter) (e : KnownNumbers) (is : List ℤ) (first bound : ℤ) → HasValues names f e is → HasValue e f.from (constant.Int first) → HasValue e f.to (constant.Int bound) → is ≡ values_between f.down first bound
  same_values f e is first bound v p q =
      v.values ∙ ap (λ i. values_between f.down i v.bound) (same_number e f.from v.first first v.from p) ∙ ap (λ j. values_between f.down first j) (same_number e f.to v.bound bound v.to q)

  pub rounds_on : (f : Counter) (b : Block) (e e1 : KnownNumbers) (first bound : ℤ) → HasValue e f.from (constant.Int first) → HasValue e f.to (constant.Int bound) → ((k : KnownNumbers) → FitsEach names f b (values_between f.down first bound) e k → k ≡ e1) → FitsOn names (each f b) e (with_number e1 f.counter (number_of e f.counter))
  rounds_on f b e e1 first bound from to rounds = λ t e2 h. next t e2 h
    where
      next : (t : Block) (e2 : KnownNumbers) → Fits names (each f b t) e e2 → Fits names t (with_number e1 f.counter (number_of e f.counter)) e2
      next t e2 (fits_for {e1 = k} {is} i j values fb h) =
          moved t (with_number k f.counter (number_of e f.counter)) (with_number e1 f.counter (number_of e f.counter)) e2
          (ap (λ m. with_number m f.counter (number_of e f.counter)) (rounds k (subst (λ l. FitsEach names f b l e k) (same_values f e is first bound values from to) fb))) h

  no_round : (f : Counter) (b : Block) (e k : KnownNumbers) → FitsEach names f b [] e k → k ≡ e
  no_round f b e k fits_none = refl

  pub last_round : (f : Counter) (b : Block) (is : List ℤ) (e k : KnownNumbers) → is ≡ [] → FitsEach names f b is e k → k ≡ e
  last_round f b is e k q h = no_round f b e k (subst (λ l. FitsEach names f b l e k) q h)

  one_round : (f : Counter) (g : Block → Block) (i : ℤ) (is : List ℤ) (e e1 k : KnownNumbers) → FitsOn names g (with_number e f.counter (Some i)) e1 → FitsEach names f (g done) (i ∷ is) e k → FitsEach names f (g done) is e1 k
  one_round f g i is e e1 k on (fits_more {e1 = m} fb h) = subst (λ j. FitsEach names f (g done) is j k) (ends_at g (with_number e f.counter (Some i)) e1 m on fb) h

  pub next_round : (f : Counter) (g : Block → Block) (i : ℤ) (is js : List ℤ) (e e1 k : KnownNumbers) → js ≡ i ∷ is → FitsOn names g (with_number e f.counter (Some i)) e1 → FitsEach names f (g done) js e k → FitsEach names f (g done) is e1 k
  next_round f g i is js e e1 k q on h = one_round f g i is e e1 k on (subst (λ l. FitsEach names f (g done) l e k) q h)

  -- ---- what never fits

  op_never : (o : Operation) (e : KnownNumbers) → ((os : List Operation) (is : List Numbers) (k : KnownNumbers) → IsPlainOp names o → UnrollsOp names o e os is k → ⊥) → (t : Block) (e2 : KnownNumbers) → Fits names (op o t) e e2 → ⊥
  op_never o e f t e2 (fits_op {e1 = k} {os} {is} plain rule h) = f os is k plain rule

  pub call_never : (at : Span) (e : KnownNumbers) → NeverFits names (op (meaningless at)) e
  call_never at e = op_never (meaningless at) e (λ os is k plain rule. plain)

  instruction_no : (to : List Lval) (n : List ℕ) (es : List Expr) (at : Span) (e k : KnownNumbers) (os : List Operation) (is : List Numbers) → operation_has_values names e (instruction to n es at) ≡ false → UnrollsOp names (instruction to n es at) e os is k → ⊥
  instruction_no to n es at e k os is fails (stays ok) = let q : true ≡ false = sym ok ∙ fails in absurd cc

  pub instruction_never : (to : List Lval) (n : List ℕ) (es : List Expr) (at : Span) (e : KnownNumbers) → operation_has_values names e (instruction to n es at) ≡ false → NeverFits names (op (instruction to n es at)) e
  instruction_never to n es at e fails = op_never (instruction to n es at) e (λ os is k plain rule. instruction_no to n es at e k os is fails rule)

  plain_no : (to : List Lval) (o : Option BinOp) (x : Expr) (c : Option Expr) (at : Span) (e k : KnownNumbers) (os : List Operation) (is : List Numbers) → ((v : Var) → to ≡ lval.Var v ∷ [] → is_inline_var names v ≡ false) → operation_has_values names e (assign to o x c at) ≡ false → UnrollsOp names (assign to o x c at) e os is k → ⊥
  plain_no to o x c at e k os is apart fails (stays ok) = let q : true ≡ false = sym ok ∙ fails in absurd cc
  plain_no to o x c at e k os is apart fails (vanishes {v} b inline whole value cond) = let q : true ≡ false = sym inline.named ∙ apart v refl in absurd cc

  pub plain_never : (to : List Lval) (o : Option BinOp) (x : Expr) (c : Option Expr) (at : Span) (e : KnownNumbers) → ((v : Var) → to ≡ lval.Var v ∷ [] → is_inline_var names v ≡ false) → operation_has_values names e (assign to o x c at) ≡ false → NeverFits names (op (assign to o x c at)) e
  plain_never to o x c at e apart fails = op_never (assign to o x c at) e (λ os is k plain rule. plain_no to o x c at e k os is apart fails rule)

  -- of what sets one inline variable: no number, or no condition
  number_no : (v : Var) (o : Option BinOp) (x : Expr) (c : Option Expr) (at : Span) (e k : KnownNumbers) (os : List Operation) (is : List Numbers) → is_inline_var names v ≡ true → ((n : ℤ) (b : Bool) → IsInlineInt names v → is_inline x ≡ true → IsInlineIf c → HasWhole e v o x n → ConditionIs e v c b → ⊥) → SetsInline names (lval.Var v ∷ []) x c
      → UnrollsOp names (assign (lval.Var v ∷ []) o x c at) e os is k → ⊥
  number_no v o x c at e k os is inline fails sets (stays ok) = no_stay v o x c at e inline ok
  number_no v o x c at e k os is inline fails sets (vanishes {y} {i} b int whole value cond) = fails i b int (sets inline).0 (sets inline).1 (y, whole, value) cond

  pub number_never : (v : Var) (o : Option BinOp) (x : Expr) (c : Option Expr) (at : Span) (e : KnownNumbers) → is_inline_var names v ≡ true → ((n : ℤ) (b : Bool) → IsInlineInt names v → is_inline x ≡ true → IsInlineIf c → HasWhole e v o x n → ConditionIs e v c b → ⊥) → NeverFits names (op (assign (lval.Var v ∷ []) o x c at)) e
  number_never v o x c at e inline fails = op_never (assign (lval.Var v ∷ []) o x c at) e (λ os is k plain rule. number_no v o x c at e k os is inline fails plain rule)

  -- what stands behind what fits
  pub behind_never : (f g : Block → Block) (e e1 : KnownNumbers) → FitsOn names f e e1 → NeverFits names g e1 → NeverFits names (λ t. f (g t)) e
  behind_never f g e e1 on fails = λ t e2 h. fails t e2 (on (g t) e2 h)

  pub at_never : (ss : List Stmt) (i : ℕ) (s : Stmt) (e e1 : KnownNumbers) → i < length ss → s ≡ get_or ss i s → FitsOn names (block no_callees (take i ss)) e e1 → NeverFits names (statement_tree no_callees s) e1 → NeverFits names (block no_callees ss) e
  at_never ss i s e e1 lt is on fails = λ t e2 h.
      behind_never (block no_callees (take i ss)) (statement_tree no_callees s) e e1 on fails (block no_callees (drop (i + 1) ss) t) e2
      (subst (λ l. Fits names l e e2) (ap (λ xs. block no_callees xs t) whole ∙ block_append (take i ss) (s ∷ drop (i + 1) ss) t) h)
    where
      whole : ss ≡ take i ss ++ s ∷ drop (i + 1) ss
      whole = sym (take-append-drop i ss) ∙ ap (λ l. take i ss ++ l) (drop_more ss i s lt ∙ ap (λ y. y ∷ drop (i + 1) ss) (sym is))

  -- an arm that is taken
  pub arm_never : (c : Expr) (at : Span) (z : Bool) (a b : Block) (f : Block → Block) (e : KnownNumbers) → IsConstant (record { cond = c; at = at }) e z → f done ≡ (if z then a else b) → NeverFits names f e → NeverFits names (choose (record { cond = c; at = at }) a b) e
  arm_never c at z a b f e constant0 is fails = λ t e2 h. next t e2 h
    where
      next : (t : Block) (e2 : KnownNumbers) → Fits names (choose (record { cond = c; at = at }) a b t) e e2 → ⊥
      next t e2 (fits_if {p2} {os} {is = js} {i} test fa fb h) = not_constant (record { cond = c; at = at }) e p2 os js i z test constant0
      next t e2 (fits_arm {e1 = k} y const fa h) =
          let same : y ≡ z = same_truth e c y z const.1 constant0.1 in
          fails done k (subst (λ l. Fits names l e k) (ap (λ d. if d then a else b) same ∙ sym is) fa)

  -- arms that stay
  pub arms_never : (c : Expr) (at : Span) (a b : Block) (e : KnownNumbers) → is_inline c ≡ false → ((ea eb : KnownNumbers) → Fits names a e ea → Fits names b e eb → ⊥) → NeverFits names (choose (record { cond = c; at = at }) a b) e
  arms_never c at a b e plain fails = λ t e2 h. next t e2 h
    where
      next : (t : Block) (e2 : KnownNumbers) → Fits names (choose (record { cond = c; at = at }) a b t) e e2 → ⊥
      next t e2 (fits_if {ea} {eb} test fa fb h) = fails ea eb fa fb
      next t e2 (fits_arm z const fa h) = let q : true ≡ false = sym const.0 ∙ plain in absurd cc

  -- a test that is neither
  pub test_never : (c : Expr) (at : Span) (a b : Block) (e : KnownNumbers) → ((p2 : Condition) (os : List Operation) (is : List Numbers) (i : Numbers) → UnrollsTest names (record { cond = c; at = at }) e os is p2 i → ⊥) → ((z : Bool) → IsConstant (record { cond = c; at = at }) e z → ⊥) → NeverFits names (choose (record { cond = c; at = at }) a b) e
  test_never c at a b e fails none = λ t e2 h. next t e2 h
    where
      next : (t : Block) (e2 : KnownNumbers) → Fits names (choose (record { cond = c; at = at }) a b t) e e2 → ⊥
      next t e2 (fits_if {p2} {os} {is} {i} test fa fb h) = fails p2 os is i test
      next t e2 (fits_arm z const fa h) = none z const

  -- of a `while` that stays a part, or the test
  pub loop_never : (h0 : Bool) (q : Block) (p : Condition) (b : Block) (e : KnownNumbers) → (IsConstant p e false → ⊥)
      → ((eq eb : KnownNumbers) (p2 : Condition) (os : List Operation) (is : List Numbers) (i : Numbers) → Fits names q (forgotten names b (forgotten names q e)) eq → UnrollsLoopTest names p eq os is p2 i → Fits names b eq eb → ⊥) → NeverFits names (loop h0 q p b) e
  loop_never h0 q p b e never fails = λ t e2 h. next t e2 h
    where
      next : (t : Block) (e2 : KnownNumbers) → Fits names (loop h0 q p b t) e e2 → ⊥
      next t e2 (fits_while {p2} {eq} {eb} {os} {is} {i} other fq test fb h) = fails eq eb p2 os is i fq test fb
      next t e2 (fits_once first fq const h) = never first

  -- of one that is false at once the prologue, or it is not false behind that
  pub once_never : (h0 : Bool) (q : Block) (p : Condition) (b : Block) (e : KnownNumbers) → IsConstant p e false → ((eq : KnownNumbers) → Fits names q e eq → IsConstant p eq false → ⊥) → NeverFits names (loop h0 q p b) e
  once_never h0 q p b e first fails = λ t e2 h. next t e2 h
    where
      next : (t : Block) (e2 : KnownNumbers) → Fits names (loop h0 q p b t) e e2 → ⊥
      next t e2 (fits_while other fq test fb h) = other first
      next t e2 (fits_once {eq} again fq const h) = fails eq fq const

  pub rounds_never : (f : Counter) (b : Block) (e : KnownNumbers) → ((is : List ℤ) (k : KnownNumbers) → is_inline f.from ≡ true → is_inline f.to ≡ true → HasValues names f e is → FitsEach names f b is e k → ⊥) → NeverFits names (each f b) e
  rounds_never f b e fails = λ t e2 h. next t e2 h
    where
      next : (t : Block) (e2 : KnownNumbers) → Fits names (each f b t) e e2 → ⊥
      next t e2 (fits_for {e1 = k} {is} i j values fb h) = fails is k i j values fb

  pub round_never : (f : Counter) (g : Block → Block) (i : ℤ) (is : List ℤ) (e k : KnownNumbers) → NeverFits names g (with_number e f.counter (Some i)) → FitsEach names f (g done) (i ∷ is) e k → ⊥
  round_never f g i is e k fails (fits_more {e1 = m} fb h) = fails done m fb

  -- the same piece in other words
  pub never_as : (f g : Block → Block) (e : KnownNumbers) → f ≡ g → NeverFits names g e → NeverFits names f e
  never_as f g e q fails = subst (λ p. NeverFits names p e) (sym q) fails

-- an instruction has neither an operation nor a condition
pub plain_instruction : (to : List Lval) (o : Option BinOp) (n : List ℕ) (es : List Expr) (c : Option Expr) (at : Span) → is_some o ≡ false → is_some c ≡ false → instruction_tree to o n es c at ≡ op (instruction to n es at)
plain_instruction to None n es None at p q = refl
plain_instruction to None n es (Some c) at p q = absurd cc
plain_instruction to (Some o) n es c at p q = absurd cc

-- What unrolling makes of a body is one.
use Rattle.std.proofs.Common.{◌≡◌, List, [], ◌∷◌, Option, Some, None, Bool, true, false, refl, ap, sym, ◌∙◌, subst}
use Rattle.std.specs.Prelude.{ℤ, ◌&&◌, not, if◌then◌else◌}
use Rattle.std.specs.List.{list_all}
use Rattle.std.proofs.lemmas.Bool.{and_parts}
use Rattle.jz_tree.specs.declared.expr.BinOp.{BinOp}
use Rattle.jz_tree.specs.declared.expr.Expr.{Expr}
use Rattle.jz_tree.specs.declared.expr.Var.{Var}
use Rattle.jz_tree.specs.declared.stmt.Lval.TheVariants as lval
use Rattle.jz_integers.specs.Integers.{KnownNumbers}
use Rattle.jz_integers.specs.declared.constant.Constant.TheVariants as constant
use Rattle.jz_meaning.specs.Statements.{Operation, assign, instruction, unset, meaningless, Condition, Counter, values_between}
use Rattle.jz_change.specs.declared.change.Numbers.{Numbers}
use Rattle.jz_unroll.specs.Values.{with_values, InlineNames, is_inline_var, left_has_values}
use Rattle.jz_unroll.specs.Unrolling.{with_number, number_of, HasValue, ConditionIs, UnrollsOp, stays, vanishes, UnrollsMark, marked, UnrollsTest, tested, UnrollsLoopTest, loops, always, HasValues, IsConstant, unrolling}
use Rattle.jz_one_unrolling.proofs.Knowing.{Agree, agree_turned, agree_under, agree_with, agree_unknown, value_agrees}
use Rattle.jz_one_unrolling.proofs.Valuing.{values_agree, operations_agree}
use Rattle.jz_one_unrolling.proofs.Twice.{IsOne, once_made}
use Rattle.jz_one_unrolling.specs.OneUnrolling.{OneUnrolling}

some_is : {A : Type 0} (x y : A) → Some x ≡ Some y → x ≡ y
some_is x y q = cc

number_is : (i j : ℤ) → constant.Int i ≡ constant.Int j → i ≡ j
number_is i j q = cc

answer_is : (b c : Bool) → constant.Bool b ≡ constant.Bool c → b ≡ c
answer_is b c q = cc

module _ (names : InlineNames) where
  condition_agrees : (e f : KnownNumbers) (v : Var) (c : Option Expr) (b d : Bool) → Agree e f → ConditionIs e v c b → ConditionIs f v c d → b ≡ d
  condition_agrees e f v None b d a p q = p ∙ sym q
  condition_agrees e f v (Some c) b d a p q = answer_is b d (value_agrees e f c (constant.Bool b) (constant.Bool d) a p.0.1 q.0.1)

  set_agrees : (e f : KnownNumbers) (v : Var) (b d : Bool) (i j : ℤ) → Agree e f → b ≡ d → i ≡ j → Agree (if b then with_number e v (Some i) else e) (if d then with_number f v (Some j) else f)
  set_agrees e f v b d i j a p q =
      subst (λ z. Agree (if b then with_number e v (Some i) else e) (if z then with_number f v (Some j) else f)) p (by_answer b)
    where
      by_answer : (z : Bool) → Agree (if z then with_number e v (Some i) else e) (if z then with_number f v (Some j) else f)
      by_answer true = agree_with e f v (Some i) (Some j) a (λ x y s t. sym (some_is i x s) ∙ (q ∙ some_is j y t))
      by_answer false = a

  no_left : (v : Var) (o : Option BinOp) (x : Expr) (c : Option Expr) (e : KnownNumbers) (rest : Bool) → is_inline_var names v ≡ true → (list_all (left_has_values names e) (lval.Var v ∷ []) && rest) ≡ true → ⊥
  no_left v o x c e rest inline ok =
      let p = and_parts (list_all (left_has_values names e) (lval.Var v ∷ [])) rest ok in
      let q = and_parts (left_has_values names e (lval.Var v)) _ p.0 in
      let r = and_parts (not (is_inline_var names v)) _ q.0 in
      let z : not (is_inline_var names v) ≡ false = ap not inline in
      (let y : true ≡ false = sym r.0 ∙ z in absurd cc)

  op_agrees : (o : Operation) (e f e1 f1 : KnownNumbers) (os ps : List Operation) (is js : List Numbers) → UnrollsOp names o e os is e1 → UnrollsOp names o f ps js f1 → Agree e f → (os ≡ ps) × (is ≡ js) × Agree e1 f1
  op_agrees o e f e1 f1 os ps is js (stays p) (stays q) a = (ap (λ z. z ∷ []) (operations_agree names e f a o p q), refl, a)
  op_agrees (assign (lval.Var v ∷ []) o x c at) e f e1 f1 os ps is js (vanishes {y} {i} b n w h k) (vanishes {y = y2} {i = j} d n2 w2 h2 k2) a =
      let t = some_is y y2 (sym w ∙ w2) in
      let u = value_agrees e f y (constant.Int i) (constant.Int j) a h.1 (subst (λ z. HasValue f z (constant.Int j)) (sym t) h2).1 in
      (refl, refl, set_agrees e f v b d i j a (condition_agrees e f v c b d a k k2) (number_is i j u))
  op_agrees (assign (lval.Var v ∷ []) o x c at) e f e1 f1 os ps is js (stays p) (vanishes b n w h k) a = absurd (no_left v o x c e _ n.named p)
  op_agrees (assign (lval.Var v ∷ []) o x c at) e f e1 f1 os ps is js (vanishes b n w h k) (stays q) a = absurd (no_left v o x c f _ n.named q)

  mark_agrees : (o : Operation) (e f e1 f1 : KnownNumbers) (o2 p2 : Operation) → UnrollsMark names o e o2 e1 → UnrollsMark names o f p2 f1 → Agree e f → (o2 ≡ p2) × Agree e1 f1
  mark_agrees (unset vs) e f e1 f1 o2 p2 marked marked a = (refl, agree_unknown vs e f a)
  mark_agrees (assign _ _ _ _ _) e f e1 f1 o2 p2 h _ a = elim h [ ]
  mark_agrees (instruction _ _ _ _) e f e1 f1 o2 p2 h _ a = elim h [ ]
  mark_agrees (meaningless _) e f e1 f1 o2 p2 h _ a = elim h [ ]

  abbrev condition_of : Condition → Expr → Condition
  condition_of p x = record { cond = x; at = p.at }

  same_test : (p : Condition) (e f : KnownNumbers) → with_values e p.cond ≡ with_values f p.cond → condition_of p (with_values e p.cond) ≡ condition_of p (with_values f p.cond)
  same_test p e f q = ap (condition_of p) q

  test_agrees : (p : Condition) (e f : KnownNumbers) (os ps : List Operation) (is js : List Numbers) (p2 q2 : Condition) (i j : Numbers) → UnrollsTest names p e os is p2 i → UnrollsTest names p f ps js q2 j → Agree e f → (os ≡ ps) × (is ≡ js) × (p2 ≡ q2) × (i ≡ j)
  test_agrees p e f os ps is js p2 q2 i j (tested x h) (tested y g) a = (refl, refl, same_test p e f (values_agree names e f a p.cond h g), refl)

  loop_test_agrees : (p : Condition) (e f : KnownNumbers) (os ps : List Operation) (is js : List Numbers) (p2 q2 : Condition) (i j : Numbers) → UnrollsLoopTest names p e os is p2 i → UnrollsLoopTest names p f ps js q2 j → Agree e f → (os ≡ ps) × (is ≡ js) × (p2 ≡ q2) × (i ≡ j)
  loop_test_agrees p e f os ps is js p2 q2 i j (loops x h) (loops y g) a = (refl, refl, same_test p e f (values_agree names e f a p.cond h g), refl)
  loop_test_agrees p e f os ps is js p2 q2 i j (always x h) (always y g) a = (refl, refl, refl, refl)
  loop_test_agrees p e f os ps is js p2 q2 i j (loops x h) (always y g) a = absurd cc
  loop_test_agrees p e f os ps is js p2 q2 i j (always x h) (loops y g) a = absurd cc

  never_both : (p : Condition) (e f : KnownNumbers) (os : List Operation) (is : List Numbers) (p2 : Condition) (i : Numbers) (z : Bool) → UnrollsTest names p e os is p2 i → IsConstant p f z → ⊥
  never_both p e f os is p2 i z (tested x h) k = let y = k.0 in absurd cc

  never_false : (p : Condition) (e f : KnownNumbers) (os : List Operation) (is : List Numbers) (p2 : Condition) (i : Numbers) → UnrollsLoopTest names p e os is p2 i → IsConstant p f false → Agree e f → ⊥
  never_false p e f os is p2 i (loops x h) k a = let y = k.0 in absurd cc
  never_false p e f os is p2 i (always x h) k a = let y = answer_is true false (value_agrees e f p.cond (constant.Bool true) (constant.Bool false) a h.1 k.1.1) in absurd cc

  rounds_agree : (g : Counter) (e f : KnownNumbers) (is js : List ℤ) → HasValues names g e is → HasValues names g f js → Agree e f → is ≡ js
  rounds_agree g e f is js p q a =
      let x = number_is p.first q.first (value_agrees e f g.from (constant.Int p.first) (constant.Int q.first) a p.from.1 q.from.1) in
      let y = number_is p.bound q.bound (value_agrees e f g.to (constant.Int p.bound) (constant.Int q.bound) a p.to.1 q.to.1) in
      p.values ∙ (ap (λ z. values_between g.down z p.bound) x ∙ (ap (values_between g.down q.first) y ∙ sym q.values))

  pub unrolling_is_one : IsOne (unrolling names)
  unrolling_is_one = record {
    Agree = Agree;
    turned = agree_turned;
    under = agree_under;
    op = op_agrees;
    quiet = mark_agrees;
    test = test_agrees;
    loop_test = loop_test_agrees;
    no_test = never_both;
    no_loop_test = never_false;
    constant = λ p e f y z h g a. answer_is y z (value_agrees e f p.cond (constant.Bool y) (constant.Bool z) a h.1.1 g.1.1);
    values = rounds_agree;
    set = λ g i e f a. agree_with e f g.counter (Some i) (Some i) a (λ x y s t. sym (some_is i x s) ∙ some_is i y t);
    restore = λ g e f e1 f1 a b. agree_with e1 f1 g.counter (number_of e g.counter) (number_of f g.counter) b (λ i j s t. a _ _ i j s t);
  }

-- what is known agrees with itself
agree_itself : (e : KnownNumbers) → Agree e e
agree_itself e n c i j p q = cc

pub one_unrolling : OneUnrolling
unfolding unrolling_is_one
one_unrolling names known t u v k l h =
    let x = once_made (unrolling names) (unrolling_is_one names) h.one h.other (agree_itself known) in (x.2 refl, x.1)

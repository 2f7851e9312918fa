-- A statement has one list of operations, and a test one comparison.
use Rattle.std.proofs.Common.{◌≡◌, Bool, true, List, [], ◌∷◌, Some, None, refl, sym, ap, ◌∙◌, subst}
use Rattle.std.specs.Option.{option_or}
use Rattle.jz_words.specs.declared.size.Size.{Size}
use Rattle.jz_io.specs.declared.span.Span.{Span}
use Rattle.x64_insn.specs.declared.types.Alu.TheVariants as alu
use Rattle.x64_insn.specs.declared.types.Cond.{Cond}
use Rattle.jz_tree.specs.declared.expr.BinOp.{BinOp}
use Rattle.jz_tree.specs.declared.expr.Expr.{Expr}
use Rattle.jz_tree.specs.declared.expr.Expr.TheVariants as expr
use Rattle.jz_tree.specs.declared.expr.Expr.TheOpen.{Expr-F}
use Rattle.jz_tree.specs.declared.expr.Expr.TheViews.{out-Expr}
use Rattle.jz_meaning.specs.Assignments.{Layer, left_sizes}
use Rattle.jz_meaning.specs.Values.{own_size}
use Rattle.jz_meaning.specs.Statements as source
use Rattle.jz_meaning.specs.Statements.{Condition, assign}
use Rattle.jz_operations.specs.declared.operation.Arg.{Arg}
use Rattle.jz_operations.specs.declared.operation.Condition.TheVariants as condition
use Rattle.jz_operations.specs.declared.operation.Action.TheVariants as action
use Rattle.jz_operations.specs.declared.operation.Operation.{Operation}
use Rattle.jz_operations.proofs.Somes.{same_some}
use Rattle.jz_row_operations.specs.Variables.{Asked, asks}
use Rattle.jz_change.specs.declared.change.Numbers.{Numbers}
use Rattle.jz_change.specs.declared.change.Numbers.TheVariants.{These}
use Rattle.jz_homes.specs.Homes.{Homes}
use Rattle.jz_homes.specs.Operands.{Leaks, count_of, IsArg}
use Rattle.jz_row_operations.specs.Codes.{no_flag, plain, lasting}
use Rattle.jz_row_operations.specs.Rows.{cond_of, opposite}
use Rattle.jz_row_operations.specs.Lowering.{numbers_from, HasRow, IsCompared, compares, denies, condition_shown, Lowers, sets, sets_if, LowersTest, tests, LowersLoopTest, tests_each, never_false}
use Rattle.jz_one_row.proofs.Outs.{out_bin, out_bool, out_not}
use Rattle.jz_one_row.proofs.Operands.{register_of, size_of_register, one_arg}
use Rattle.jz_one_row.proofs.Rows.{one_row}

-- ---- comparisons by the outermost layer
data CompareLayer (home : Homes) (at : Span) : Layer → Operation → Cond → Leaks → Leaks → Type 0 where
  c_compares : (o : BinOp) (c : Cond) (z : Size) (a b : Expr) (x y : Arg) (p q : Leaks) (here : Span) → cond_of o ≡ Some c → option_or (own_size a) (own_size b) ≡ Some z → IsArg home z a x p → IsArg home z b y q
      → CompareLayer home at (Expr-F.Bin o a b here) (plain at (action.Alu alu.Cmp z x y None)) c p q
  c_denies : (e : Expr) (compare : Operation) (c : Cond) (p q : Leaks) (here : Span) → IsCompared home at e compare c p q → CompareLayer home at (Expr-F.Not e here) compare (opposite c) p q

pub record SameTest (o u : Operation) (c d : Cond) (p q r s : Leaks) : Type 0 where
  pub operation : o ≡ u
  pub cond : c ≡ d
  pub first : p ≡ r
  pub second : q ≡ s

module _ (home : Homes) (at : Span) where
  compare_layer : (e : Expr) (o : Operation) (c : Cond) (p q : Leaks) → IsCompared home at e o c p q → CompareLayer home at (out-Expr e) o c p q
  compare_layer e o c p q (compares {o = u} {c = k} {z} {a} {b} {x} {y} {p = r} {q = s} here h size f g ni once) =
      subst (λ l. CompareLayer home at l (plain at (action.Alu alu.Cmp z x y None)) k r s) (sym (out_bin u a b here)) (c_compares u k z a b x y r s here h size f g)
  compare_layer e o c p q (denies {e = a} {compare = u} {c = k} {p = r} {q = s} here f) =
      subst (λ l. CompareLayer home at l u (opposite k) r s) (sym (out_not a here)) (c_denies a u k r s here f)

  at_layer : (e : Expr) (l : Layer) (o : Operation) (c : Cond) (p q : Leaks) → out-Expr e ≡ l → IsCompared home at e o c p q → CompareLayer home at l o c p q
  at_layer e l o c p q s f = subst (λ k. CompareLayer home at k o c p q) s (compare_layer e o c p q f)

  compares_one : (u : BinOp) (k : Cond) (z : Size) (a b : Expr) (x y : Arg) (p q : Leaks) (here : Span) (o : Operation) (c : Cond) (r s : Leaks) → cond_of u ≡ Some k → option_or (own_size a) (own_size b) ≡ Some z → IsArg home z a x p → IsArg home z b y q
      → CompareLayer home at (Expr-F.Bin u a b here) o c r s → SameTest (plain at (action.Alu alu.Cmp z x y None)) o k c p q r s
  compares_one u k z a b x y p q here o c r s h size f g (c_compares u2 k2 z2 a2 b2 x2 y2 p2 q2 here2 h2 size2 f2 g2) =
      let z_is = same_some z z2 (sym size ∙ size2) in
      let v = one_arg home z a x x2 p p2 f (subst (λ t. IsArg home t a x2 p2) (sym z_is) f2) in
      let w = one_arg home z b y y2 q q2 g (subst (λ t. IsArg home t b y2 q2) (sym z_is) g2) in
      record { operation = λ i. plain at (action.Alu alu.Cmp (z_is i) (v.0 i) (w.0 i) None); cond = same_some k k2 (sym h ∙ h2); first = v.1; second = w.1 }

  denies_one : (e : Expr) (u : Operation) (k : Cond) (p q : Leaks) (here : Span) (o : Operation) (c : Cond) (r s : Leaks) → ((v : Operation) (d : Cond) (x y : Leaks) → IsCompared home at e v d x y → SameTest u v k d p q x y)
      → CompareLayer home at (Expr-F.Not e here) o c r s → SameTest u o (opposite k) c p q r s
  denies_one e u k p q here o c r s one (c_denies e2 v d x y here2 f) =
      let t = one v d x y f in record { operation = t.operation; cond = ap opposite t.cond; first = t.first; second = t.second }

  pub one_compared : (e : Expr) (o u : Operation) (c d : Cond) (p q r s : Leaks) → IsCompared home at e o c p q → IsCompared home at e u d r s → SameTest o u c d p q r s
  one_compared e o u c d p q r s (compares {o = v} {c = k} {z} {a} {b} {x} {y} {p = p2} {q = q2} here h size f g ni once) m =
      compares_one v k z a b x y p2 q2 here u d r s h size f g
      (at_layer (expr.Bin v a b here) (Expr-F.Bin v a b here) u d r s (out_bin v a b here) m)
  one_compared e o u c d p q r s (denies {e = a} {compare = v} {c = k} {p = p2} {q = q2} here f) m =
      denies_one a v k p2 q2 here u d r s (λ w j x y g. one_compared a v w k j p2 q2 x y f g)
      (at_layer (expr.Not a here) (Expr-F.Not a here) u d r s (out_not a here) m)

  no_truth : (b : Bool) (here : Span) (o : Operation) (c : Cond) (p q : Leaks) → CompareLayer home at (Expr-F.Expr::Bool b here) o c p q → ⊥
  no_truth b here o c p q h = elim h [ ]

-- ---- statements
pub one_lowers : (home : Homes) (o : source.Operation) (os us : List Operation) (is js : List Numbers) → Lowers home o os is → Lowers home o us js → (os ≡ us) × (is ≡ js)
one_lowers home o os us is js (sets {d} {o = op} {e} {w} {z} {acts} {items} {at} h size row once) (sets {d = d2} {o = op2} {e = e2} {w = w2} {z = z2} {acts = acts2} {items = items2} {at = at2} h2 size2 row2 once2) =
    let w_is = same_some w w2 (sym h ∙ h2) in
    let z_is = same_some z z2 (sym size ∙ ap (λ v. option_or (left_sizes (d ∷ [])) (own_size v)) w_is ∙ size2) in
    let again = subst (λ y. HasRow home y d w acts2 items2) (sym z_is) (subst (λ v. HasRow home z2 d v acts2 items2) (sym w_is) row2) in
    let r = one_row home z d w acts acts2 items items2 row again in
    (ap (lasting at no_flag) r.0, r.1)
one_lowers home o os us is js (sets_if {x} {e} {k} {y} {compare} {c} {m} {p} {q} {r} {at} z wide kz h f ni g can) (sets_if {x = x2} {e = e2} {k = k2} {y = y2} {compare = compare2} {c = c2} {m = m2} {p = p2} {q = q2} {r = r2} {at = at2} z2 wide2 kz2 h2 f2 ni2 g2 can2) =
    let m_is = register_of m m2 z z2 (sym h ∙ h2) in
    let z_is = size_of_register m m2 z z2 (sym h ∙ h2) in
    let v = one_arg home z e y y2 p p2 f (subst (λ t. IsArg home t e y2 p2) (sym z_is) f2) in
    let t = one_compared home at k compare compare2 c c2 q r q2 r2 g g2 in (
      (λ i. t.operation i ∷ plain at (action.Cmov (condition.Cc (t.cond i)) (z_is i) (m_is i) (v.0 i)) ∷ []),
      λ i. condition_shown (t.first i) (t.second i) (count_of (v.1 i)) ∷ These (numbers_from (v.1 i) 0) ∷ [],
    )

pub one_test : (home : Homes) (t : Condition) (a b : Asked) (i j : Numbers) → LowersTest home t a i → LowersTest home t b j → (a ≡ b) × (i ≡ j)
one_test home t a b i j (tests {compare = o} {c} {p} {q} f) (tests {compare = u} {c = d} {p = r} {q = s} g) =
    let x = one_compared home t.at t.cond o u c d p q r s f g in
    ((λ k. asks (Some (x.operation k)) (condition.Cc (x.cond k))), λ k. condition_shown (x.first k) (x.second k) 0)

no_test : (home : Homes) (t : Condition) (a : Asked) (i : Numbers) (here : Span) → t.cond ≡ expr.Bool true here → LowersTest home t a i → ⊥
no_test home t a i here e (tests {compare = o} {c} {p} {q} f) = no_truth home t.at true here o c p q (at_layer home t.at t.cond (Expr-F.Expr::Bool true here) o c p q (ap out-Expr e ∙ out_bool true here) f)

pub one_loop_test : (home : Homes) (t : Condition) (a b : Asked) (i j : Numbers) → LowersLoopTest home t a i → LowersLoopTest home t b j → (a ≡ b) × (i ≡ j)
one_loop_test home t a b i j (tests_each {asked = u} {i = k} f) (tests_each {asked = v} {i = l} g) = one_test home t u v k l f g
one_loop_test home t a b i j (tests_each {asked = u} {i = k} f) (never_false here e) = absurd (no_test home t u k here e f)
one_loop_test home t a b i j (never_false here e) (tests_each {asked = v} {i = l} g) = absurd (no_test home t v l here e g)
one_loop_test home t a b i j (never_false here e) (never_false there f) = (refl, refl)

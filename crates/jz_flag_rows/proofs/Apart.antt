-- No statement has operations by both tables.
use Rattle.std.proofs.Common.{◌≡◌, ℕ, Bool, true, false, List, [], ◌∷◌, Option, Some, None, sym, ap, ◌∙◌, subst}
use Rattle.jz_words.specs.declared.size.Size.{Size}
use Rattle.jz_io.specs.declared.span.Span.{Span}
use Rattle.x64_insn.specs.declared.types.Cond.{Cond}
use Rattle.x64_insn.specs.declared.types.One.{One}
use Rattle.x64_insn.specs.declared.types.Wide.{Wide}
use Rattle.jz_tree.specs.declared.expr.BinOp.{BinOp}
use Rattle.jz_tree.specs.declared.expr.BinOp.TheVariants as op
use Rattle.jz_tree.specs.declared.expr.Expr.{Expr}
use Rattle.jz_tree.specs.declared.expr.Expr.TheVariants as expr
use Rattle.jz_tree.specs.declared.expr.Expr.TheOpen.{Expr-F}
use Rattle.jz_tree.specs.declared.expr.Expr.TheViews.{out-Expr}
use Rattle.jz_tree.specs.declared.expr.Var.{Var}
use Rattle.jz_tree.specs.declared.stmt.Lval.{Lval}
use Rattle.jz_tree.specs.declared.stmt.Lval.TheVariants as lval
use Rattle.jz_meaning.specs.Assignments.{Layer, whole_of}
use Rattle.jz_meaning.specs.Statements as source
use Rattle.jz_meaning.specs.Statements.{assign, instruction}
use Rattle.jz_operations.specs.declared.operation.Arg.{Arg}
use Rattle.jz_operations.specs.declared.operation.Action.{Action}
use Rattle.jz_operations.specs.declared.operation.Operation.{Operation}
use Rattle.jz_operations.proofs.Somes.{same_some}
use Rattle.jz_row_operations.specs.Variables.{Asked}
use Rattle.jz_change.specs.declared.change.Numbers.{Numbers}
use Rattle.jz_homes.specs.Homes.{Homes}
use Rattle.jz_homes.specs.Operands.{Leaks}
use Rattle.jz_row_operations.specs.Rows.{IsSumOp, IsCarryOp, IsShiftOp, IsSign, a_minus, a_not}
use Rattle.jz_row_operations.specs.Lowering.{HasRow, moves, sums, carries, signs, times, times_by, shifts, shifts_by, extends, lowest, IsCompared, compares, denies, Lowers, sets, sets_if, tests, tests_each, never_false}
use Rattle.jz_one_row.proofs.Outs.{out_bin, out_bool, out_cast, out_neg, out_not, out_var}
use Rattle.jz_one_row.proofs.Operands.{ArgLayer, arg_layer}
use Rattle.jz_flag_rows.specs.Wide.{divider}
use Rattle.jz_flag_rows.specs.Conditions.{IsFlagCondition, a_flag, denied, LowersFlagTest, asks_flag}
use Rattle.jz_flag_rows.specs.Rows.{carry_results, wide_products, quotients, choices, instructions, sets as sets_byte}
use Rattle.jz_flag_rows.specs.Laws.{StatementsAreApart, TestsAreApart}

-- ---- operators
no_sum : (o : BinOp) (w : Wide) → divider o ≡ Some w → IsSumOp o → ⊥
no_sum op.OrElse w e h = h
no_sum op.AndThen w e h = h
no_sum op.Or w e h = absurd cc
no_sum op.Xor w e h = absurd cc
no_sum op.And w e h = absurd cc
no_sum op.Eq w e h = h
no_sum op.Ne w e h = h
no_sum op.Lt w e h = h
no_sum op.Le w e h = h
no_sum op.Gt w e h = h
no_sum op.Ge w e h = h
no_sum op.LtS w e h = h
no_sum op.LeS w e h = h
no_sum op.GtS w e h = h
no_sum op.GeS w e h = h
no_sum op.Shl w e h = h
no_sum op.Shr w e h = h
no_sum op.Sar w e h = h
no_sum op.Rol w e h = h
no_sum op.Ror w e h = h
no_sum op.Add w e h = absurd cc
no_sum op.Sub w e h = absurd cc
no_sum op.Mul w e h = h
no_sum op.Div w e h = h
no_sum op.Rem w e h = h
no_sum op.DivS w e h = h
no_sum op.RemS w e h = h

no_carry : (o : BinOp) (w : Wide) → divider o ≡ Some w → IsCarryOp o → ⊥
no_carry op.OrElse w e h = h
no_carry op.AndThen w e h = h
no_carry op.Or w e h = h
no_carry op.Xor w e h = h
no_carry op.And w e h = h
no_carry op.Eq w e h = h
no_carry op.Ne w e h = h
no_carry op.Lt w e h = h
no_carry op.Le w e h = h
no_carry op.Gt w e h = h
no_carry op.Ge w e h = h
no_carry op.LtS w e h = h
no_carry op.LeS w e h = h
no_carry op.GtS w e h = h
no_carry op.GeS w e h = h
no_carry op.Shl w e h = h
no_carry op.Shr w e h = h
no_carry op.Sar w e h = h
no_carry op.Rol w e h = h
no_carry op.Ror w e h = h
no_carry op.Add w e h = absurd cc
no_carry op.Sub w e h = absurd cc
no_carry op.Mul w e h = h
no_carry op.Div w e h = h
no_carry op.Rem w e h = h
no_carry op.DivS w e h = h
no_carry op.RemS w e h = h

no_shift : (o : BinOp) (w : Wide) → divider o ≡ Some w → IsShiftOp o → ⊥
no_shift op.OrElse w e h = h
no_shift op.AndThen w e h = h
no_shift op.Or w e h = h
no_shift op.Xor w e h = h
no_shift op.And w e h = h
no_shift op.Eq w e h = h
no_shift op.Ne w e h = h
no_shift op.Lt w e h = h
no_shift op.Le w e h = h
no_shift op.Gt w e h = h
no_shift op.Ge w e h = h
no_shift op.LtS w e h = h
no_shift op.LeS w e h = h
no_shift op.GtS w e h = h
no_shift op.GeS w e h = h
no_shift op.Shl w e h = absurd cc
no_shift op.Shr w e h = absurd cc
no_shift op.Sar w e h = absurd cc
no_shift op.Rol w e h = absurd cc
no_shift op.Ror w e h = absurd cc
no_shift op.Add w e h = h
no_shift op.Sub w e h = h
no_shift op.Mul w e h = h
no_shift op.Div w e h = h
no_shift op.Rem w e h = h
no_shift op.DivS w e h = h
no_shift op.RemS w e h = h

no_product : (w : Wide) → divider op.Mul ≡ Some w → ⊥
no_product w e = absurd cc

-- ---- a quotient has no other row
op_is : (o o2 : BinOp) (a b a2 b2 : Expr) (s s2 : Span) → ◌≡◌ {A = Layer} (Expr-F.Bin o2 a2 b2 s2) (Expr-F.Bin o a b s) → o2 ≡ o
op_is o o2 a b a2 b2 s s2 e = cc

no_operand : (home : Homes) (z : Size) (o : BinOp) (a b : Expr) (at : Span) (x : Arg) (p : Leaks) → ArgLayer home z (Expr-F.Bin o a b at) x p → ⊥
no_operand home z o a b at x p h = elim h [ ]

module _ (home : Homes) (z : Size) (d : Lval) (o : BinOp) (a b : Expr) (at : Span) (w : Wide) (div : divider o ≡ Some w) where
  as_op : (o2 : BinOp) (a2 b2 : Expr) (s : Span) → out-Expr (expr.Bin o2 a2 b2 s) ≡ Expr-F.Bin o a b at → divider o2 ≡ Some w
  as_op o2 a2 b2 s e = subst (λ u. divider u ≡ Some w) (sym (op_is o o2 a b a2 b2 at s (sym (out_bin o2 a2 b2 s) ∙ e))) div

  no_sign : (u : One) (e c : Expr) → IsSign u e c → out-Expr e ≡ Expr-F.Bin o a b at → ⊥
  no_sign u e c (a_minus c2 s) f = let q : ◌≡◌ {A = Layer} (Expr-F.Neg c2 s) (Expr-F.Bin o a b at) = sym (out_neg c2 s) ∙ f in absurd cc
  no_sign u e c (a_not c2 s) f = let q : ◌≡◌ {A = Layer} (Expr-F.Not c2 s) (Expr-F.Bin o a b at) = sym (out_not c2 s) ∙ f in absurd cc

  no_cast : (y : Size) (s : Bool) (c : Expr) (here : Span) → out-Expr (expr.Cast y s c here) ≡ Expr-F.Bin o a b at → ⊥
  no_cast y s c here f = let q : ◌≡◌ {A = Layer} (Expr-F.Cast y s c here) (Expr-F.Bin o a b at) = sym (out_cast y s c here) ∙ f in absurd cc

  no_row : (e : Expr) (acts : List Action) (items : List Numbers) → out-Expr e ≡ Expr-F.Bin o a b at → HasRow home z d e acts items → ⊥
  no_row e acts items f (moves {x} {b = c} {p} {r} ia id) = no_operand home z o a b at x p (subst (λ l. ArgLayer home z l x p) f (arg_layer home z e x p ia))
  no_row e acts items f (sums {o = o2} {a = a2} {c = c2} s h ia ic id ni k) = no_sum o2 w (as_op o2 a2 c2 s f) h
  no_row e acts items f (carries {o = o2} {a = a2} {c = c2} v k inner s h ia ic id ni flag span code) = no_carry o2 w (as_op o2 (expr.Bin o2 a2 c2 inner) (expr.Var v) s f) h
  no_row e acts items f (signs {o = u} {a = c} h ia id ni k) = no_sign u e c h f
  no_row e acts items f (times {a = a2} {c = c2} s wide ia ic id ni k) = no_product w (as_op op.Mul a2 c2 s f)
  no_row e acts items f (times_by {a = a2} {c = c2} s wide ia ic id ni) = no_product w (as_op op.Mul a2 c2 s f)
  no_row e acts items f (shifts {o = o2} {a = a2} n there s h less ia id ni k) = no_shift o2 w (as_op o2 a2 _ s f) h
  no_row e acts items f (shifts_by {o = o2} {a = a2} v k there inner s h flag span ia id code) = no_shift o2 w (as_op o2 a2 _ s f) h
  no_row e acts items f (extends {a = c} sign s own less ia ni id) = no_cast z sign c s f
  no_row e acts items f (lowest {a = c} s own more ia id) = no_cast z false c s f

-- ---- a bool variable is no comparison
module _ (home : Homes) (at : Span) where
  no_variable : (x : Var) (e : Expr) (os : Operation) (c : Cond) (p q : Leaks) → out-Expr e ≡ Expr-F.Var x → IsCompared home at e os c p q → ⊥
  no_variable x e os c p q f (compares {o = o2} {a = a2} {b = b2} here h size ia ib ni can) = let s : ◌≡◌ {A = Layer} (Expr-F.Bin o2 a2 b2 here) (Expr-F.Var x) = sym (out_bin o2 a2 b2 here) ∙ f in absurd cc
  no_variable x e os c p q f (denies {e = e2} here h) = let s : ◌≡◌ {A = Layer} (Expr-F.Not e2 here) (Expr-F.Var x) = sym (out_not e2 here) ∙ f in absurd cc

  abbrev pub NeverCompared : Expr → Type 0
  NeverCompared e = (os : Operation) (c : Cond) (p q : Leaks) → IsCompared home at e os c p q → ⊥

  inner : (e e1 : Expr) (there : Span) (os : Operation) (c : Cond) (p q : Leaks) → out-Expr e ≡ Expr-F.Not e1 there → NeverCompared e1 → IsCompared home at e os c p q → ⊥
  inner e e1 there os c p q f none (compares {o = o2} {a = a2} {b = b2} here h size ia ib ni can) = let s : ◌≡◌ {A = Layer} (Expr-F.Bin o2 a2 b2 here) (Expr-F.Not e1 there) = sym (out_bin o2 a2 b2 here) ∙ f in absurd cc
  inner e e1 there os c p q f none (denies {e = e2} {compare = o2} {c = k} {p = r} {q = s} here h) =
      let same : ◌≡◌ {A = Layer} (Expr-F.Not e2 here) (Expr-F.Not e1 there) = sym (out_not e2 here) ∙ f in
      let is : e2 ≡ e1 = cc in
      none o2 k r s (subst (λ u. IsCompared home at u o2 k r s) is h)

  pub flag_never : (e : Expr) (n : ℕ) (d : Bool) → IsFlagCondition home e n d → NeverCompared e
  flag_never e n d (a_flag x m kd h) os c p q k = no_variable x (expr.Var x) os c p q (out_var x) k
  flag_never e n d (denied {e = e1} {n = m} {d = b} here h) os c p q k = inner (expr.Not e1 here) e1 here os c p q (out_not e1 here) (flag_never e1 m b h) k

pub no_truth : (home : Homes) (e : Expr) (b : Bool) (n : ℕ) (d : Bool) (here : Span) → e ≡ expr.Bool b here → IsFlagCondition home e n d → ⊥
no_truth home e b n d here f (a_flag x m kd h) = let s : ◌≡◌ {A = Layer} (Expr-F.Var x) (Expr-F.Expr::Bool b here) = sym (out_var x) ∙ ap out-Expr f ∙ out_bool b here in absurd cc
no_truth home e b n d here f (denied {e = e1} there h) = let s : ◌≡◌ {A = Layer} (Expr-F.Not e1 there) (Expr-F.Expr::Bool b here) = sym (out_not e1 there) ∙ ap out-Expr f ∙ out_bool b here in absurd cc

-- ---- statements
module _ (home : Homes) where
  two_lefts : (f d : Lval) (u : Option BinOp) (e : Expr) (c : Option Expr) (at : Span) (os : List Operation) (is : List Numbers) → Lowers home (assign (f ∷ d ∷ []) u e c at) os is → ⊥
  two_lefts f d u e c at os is h = elim h [ ]

  no_instruction : (to : List Lval) (n : List ℕ) (args : List Expr) (at : Span) (os : List Operation) (is : List Numbers) → Lowers home (instruction to n args at) os is → ⊥
  no_instruction to n args at os is h = elim h [ ]

  no_quotient : (r : Lval) (u : Option BinOp) (e a b : Expr) (o : BinOp) (w : Wide) (here at : Span) (os : List Operation) (is : List Numbers) → whole_of (Some r) u e ≡ Some (expr.Bin o a b here) → divider o ≡ Some w → Lowers home (assign (r ∷ []) u e None at) os is → ⊥
  no_quotient r u e a b o w here at os is whole div (sets {w = v} {z} {acts} {items} h size row can) =
      no_row home z r o a b here w div v acts items (ap out-Expr (same_some v (expr.Bin o a b here) (sym h ∙ whole)) ∙ out_bin o a b here) row

  no_choice : (v : Var) (e k : Expr) (n : ℕ) (d : Bool) (at : Span) (os : List Operation) (is : List Numbers) → IsFlagCondition home k n d → Lowers home (assign (lval.Var v ∷ []) None e (Some k) at) os is → ⊥
  no_choice v e k n d at os is f (sets_if {compare = o} {c} {q = q} {r} z wide own reg ia ni g can) = flag_never home at k n d f o c q r g

pub statements_apart : StatementsAreApart
statements_apart home o os us is js h (carry_results {f} {d} {u} {e} {at = at} whole layer size flag row can) = two_lefts home f d u e None at os is h
statements_apart home o os us is js h (wide_products {h = hi} {l} {u} {e} {at = at} here whole size long hk lk ia ib ni code can) = two_lefts home hi l u e None at os is h
statements_apart home o os us is js h (quotients {r} {u} {e} {a} {b} {o = o2} {w} {at = at} here whole div size long pin ia ib ni apart can) = no_quotient home r u e a b o2 w here at os is whole div h
statements_apart home o os us is js h (choices {v} {e} {k} {n = n} {d = d} {at = at} z wide own reg ia ni flag can) = no_choice home v e k n d at os is flag h
statements_apart home o os us is js h (instructions {to = to} {ns} {args} {at = at} name size row can) = no_instruction home to ns args at os is h
statements_apart home o os us is js h (sets_byte {d = d} {ns} {e} {at = at} name is_set id cond can) = no_instruction home (d ∷ []) ns (e ∷ []) at os is h

flag_test : (home : Homes) (t : source.Condition) (b : Asked) (j : Numbers) → LowersFlagTest home t b j → (n : ℕ) × (d : Bool) × IsFlagCondition home t.cond n d
flag_test home t b j (asks_flag {n} {d} h) = (n, d, h)

pub tests_apart : TestsAreApart
tests_apart home t a b i j (tests_each (tests {compare = o} {c} {p} {q} f)) k = let r = flag_test home t b j k in flag_never home t.at t.cond r.0 r.1 r.2 o c p q f
tests_apart home t a b i j (never_false here e) k = let r = flag_test home t b j k in no_truth home t.cond true r.0 r.1 here e r.2

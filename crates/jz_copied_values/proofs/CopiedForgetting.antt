-- What is forgotten of what a copied body sets: nothing of copies before it, and nothing of its own
-- variables where it sets no inline variable.
use Rattle.std.proofs.Common.{◌≡◌, ℕ, suc, ◌+◌, ◌<◌, List, [], ◌∷◌, map, Option, Some, None, Bool, true, false, refl, ap, sym, ◌∙◌, arith, inl, inr}
use Rattle.std.specs.Prelude.{ℤ, ◌⊎◌, if◌then◌else◌}
use Rattle.jz_tree.specs.Span.{Span}
use Rattle.jz_tree.specs.declared.expr.Expr.{Expr}
use Rattle.jz_tree.specs.declared.expr.Expr.TheVariants as expr
use Rattle.jz_tree.specs.declared.expr.Var.{Var}
use Rattle.jz_tree.specs.declared.stmt.Lval.{Lval}
use Rattle.jz_tree.specs.declared.stmt.Lval.TheVariants as lval
use Rattle.jz_tree.specs.declared.program.Param.{Param}
use Rattle.jz_integers.specs.Integers.{KnownNumbers}
use Rattle.jz_runs.specs.Trees.{done, op, quiet, choose, loop, each, call}
use Rattle.jz_meaning.specs.Statements.{Operation, assign, instruction, unset, meaningless, Call, Block}
use Rattle.jz_meaning.specs.Values.{ref_of}
use Rattle.jz_pass.specs.Copying.{copies, inlined}
use Rattle.jz_pass.specs.Operations.{in_turn}
use Rattle.jz_unrolling_laws.specs.BodiesCalls.{is_array, params_of, vars_of}
use Rattle.jz_unrolling_laws.specs.Names.{Names, var_in, expr_in, lval_in, op_in}
use Rattle.jz_unrolling_laws.specs.Calls.{call_place, set_one, argument_ops, result_op, result_ops, names_of_callee, inline_calls}
use Rattle.jz_limits.specs.Values.{is_int, inline_target}
use Rattle.jz_unroll.specs.Values.{InlineNames, is_inline_var}
use Rattle.jz_unroll.specs.Unrolling.{with_number, all_unknown}
use Rattle.jz_unrolling.specs.Forgetting.{forgotten_left, forgotten_op, forgotten}
use Rattle.jz_unrolling.proofs.ForgetLemmas.{forgotten_at, forgotten_less}
use Rattle.jz_unrolling_laws.specs.CalledBodies.{Inlines, inlines_of, AreNamedLefts, IsNamedOp, IsPlainLeft, AreNamedResults, IsNamedCall, IsNamed, IsStillOp, IsStill}
use Rattle.jz_copied_values.specs.CopiedNames.{HasNames}
use Rattle.jz_copied_values.proofs.CopiedOperations.{var_named}
use Rattle.jz_copied_values.proofs.CopiedNumbers.{number_elsewhere, IsCopy, own_copy}
use Rattle.jz_copied_values.proofs.CalledNames.{clear_params, var_own, callee_copy}
use Rattle.jz_copied_values.proofs.CalledNumbers.{AllOwn, mark_elsewhere}

false_true : false ≡ true → ⊥
false_true q = absurd cc

module _ (names : InlineNames) where
  -- nothing comes to be known
  pub forgotten_none : (t : Block) (k : KnownNumbers) (n : List ℕ) (a : ℕ) → k n a ≡ None → forgotten names t k n a ≡ None
  forgotten_none t k n a h = by_value (forgotten names t k n a) refl
    where
      by_value : (o : Option ℤ) → forgotten names t k n a ≡ o → o ≡ None
      by_value None q = refl
      by_value (Some z) q = let known = forgotten_less names t k n a z q in absurd cc

  -- a copy's variable that is set
  set_spared : (i : Inlines) (m : Names) (c0 : ℕ) → IsCopy names i m c0 → (v : Var) (k : KnownNumbers) (n : List ℕ) (a : ℕ) → (i (ref_of v).name ≡ false) ⊎ (a < c0) → (if is_inline_var names (var_in m v) then with_number k (var_in m v) None else k) n a ≡ k n a
  set_spared i m c0 copy v k n a h = by_test (i (ref_of v).name) refl h
    where
      named : (b : Bool) → i (ref_of v).name ≡ b → is_inline_var names (var_in m v) ≡ b
      named b q = var_named names i m copy.named v ∙ q

      by_test : (b : Bool) → i (ref_of v).name ≡ b → (i (ref_of v).name ≡ false) ⊎ (a < c0) → (if is_inline_var names (var_in m v) then with_number k (var_in m v) None else k) n a ≡ k n a
      by_test true q (inl out) = absurd (false_true (sym out ∙ q))
      by_test true q (inr lt) =
          let own = own_copy names i m c0 copy v q in
          ap (λ b. (if b then with_number k (var_in m v) None else k) n a) (named true q)
          ∙ number_elsewhere (var_in m v) k None n a (λ same. omega (arith, own, same, lt))
      by_test false q s = ap (λ b. (if b then with_number k (var_in m v) None else k) n a) (named false q)

  -- ---- operations

  left_spared : (i : Inlines) (m : Names) (c0 : ℕ) → IsCopy names i m c0 → (to : List Lval) (k : KnownNumbers) (n : List ℕ) (a : ℕ) → AreNamedLefts i to → (inline_target to ≡ None) ⊎ (a < c0) → forgotten_left names (map (lval_in m) to) k n a ≡ k n a
  left_spared i m c0 copy [] k n a h s = refl
  left_spared i m c0 copy (lval.Var v ∷ []) k n a h s = set_spared i m c0 copy v k n a (plain (is_int (ref_of v).kind) refl s)
    where
      plain : (b : Bool) → is_int (ref_of v).kind ≡ b → (inline_target (lval.Var v ∷ []) ≡ None) ⊎ (a < c0) → (i (ref_of v).name ≡ false) ⊎ (a < c0)
      plain true q (inl still) = let is : inline_target (lval.Var v ∷ []) ≡ Some v = ap (λ b. if b then Some v else None) q in absurd cc
      plain false q (inl still) = inl (sym h.0.2 ∙ q)
      plain b q (inr lt) = inr lt
  left_spared i m c0 copy (lval.Var v ∷ d ∷ ds) k n a h s = refl
  left_spared i m c0 copy (lval.Skip at ∷ ds) k n a h s = refl
  left_spared i m c0 copy (lval.Cell v x ∷ ds) k n a h s = refl
  left_spared i m c0 copy (lval.Store x ∷ ds) k n a h s = refl

  op_spared : (i : Inlines) (m : Names) (c0 : ℕ) → IsCopy names i m c0 → (o : Operation) (k : KnownNumbers) (n : List ℕ) (a : ℕ) → IsNamedOp i o → IsStillOp o ⊎ (a < c0) → forgotten_op names (op_in m o) k n a ≡ k n a
  op_spared i m c0 copy (assign to o x c at) k n a h s = left_spared i m c0 copy to k n a h.0 s
  op_spared i m c0 copy (instruction to o args at) k n a h s = refl
  op_spared i m c0 copy (unset vs) k n a h s = absurd h
  op_spared i m c0 copy (meaningless at) k n a h s = absurd h

  -- ---- calls

  args_spared : (i j : Inlines) (m inner : Names) (c : ℕ) → IsCopy names j inner c → (at : Span) (ps : List Param) (xs : List Expr) (t : Block) (k : KnownNumbers) (n : List ℕ) (a : ℕ) → a < c → forgotten names (in_turn (argument_ops m inner at ps xs) t) k n a ≡ forgotten names t k n a
  args_spared i j m inner c copy at [] [] t k n a lt = refl
  args_spared i j m inner c copy at [] (x ∷ xs) t k n a lt = refl
  args_spared i j m inner c copy at (p ∷ ps) [] t k n a lt = refl
  args_spared i j m inner c copy at (p ∷ ps) (x ∷ xs) t k n a lt = by_array (is_array (ref_of p.var).kind) (λ l. args_spared i j m inner c copy at ps xs t l n a lt)
    where
      by_array : (b : Bool) → ((l : KnownNumbers) → forgotten names (in_turn (argument_ops m inner at ps xs) t) l n a ≡ forgotten names t l n a)
          → forgotten names (in_turn (if b then argument_ops m inner at ps xs else (set_one (lval.Var (var_in inner p.var)) (expr_in m x) at ∷ argument_ops m inner at ps xs)) t) k n a ≡ forgotten names t k n a
      by_array true rest = rest k
      by_array false rest =
          rest (if is_inline_var names (var_in inner p.var) then with_number k (var_in inner p.var) None else k)
          ∙ forgotten_at names t (if is_inline_var names (var_in inner p.var) then with_number k (var_in inner p.var) None else k) k n a (set_spared j inner c copy p.var k n a (inr lt))

  result_spared : (i j : Inlines) (m inner : Names) (c0 : ℕ) → IsCopy names i m c0 → (at : Span) (d : Lval) (x : Var) (t : Block) (os : List Operation) (k : KnownNumbers) (n : List ℕ) (a : ℕ) → IsPlainLeft i d
      → ((l : KnownNumbers) → forgotten names (in_turn os t) l n a ≡ forgotten names t l n a) → forgotten names (in_turn (result_op m inner at d x os) t) k n a ≡ forgotten names t k n a
  result_spared i j m inner c0 copy at (lval.Skip s) x t os k n a h rest = rest k
  result_spared i j m inner c0 copy at (lval.Var v) x t os k n a h rest = by_array (is_array (ref_of x).kind)
    where
      by_array : (b : Bool) → forgotten names (in_turn (if b then os else (set_one (lval_in m (lval.Var v)) (expr.Var (var_in inner x)) at ∷ os)) t) k n a ≡ forgotten names t k n a
      by_array true = rest k
      by_array false =
          rest (if is_inline_var names (var_in m v) then with_number k (var_in m v) None else k)
          ∙ forgotten_at names t (if is_inline_var names (var_in m v) then with_number k (var_in m v) None else k) k n a (set_spared i m c0 copy v k n a (inl h))
  result_spared i j m inner c0 copy at (lval.Cell v y) x t os k n a h rest = by_array (is_array (ref_of x).kind)
    where
      by_array : (b : Bool) → forgotten names (in_turn (if b then os else (set_one (lval_in m (lval.Cell v y)) (expr.Var (var_in inner x)) at ∷ os)) t) k n a ≡ forgotten names t k n a
      by_array true = rest k
      by_array false = rest k
  result_spared i j m inner c0 copy at (lval.Store y) x t os k n a h rest = by_array (is_array (ref_of x).kind)
    where
      by_array : (b : Bool) → forgotten names (in_turn (if b then os else (set_one (lval_in m (lval.Store y)) (expr.Var (var_in inner x)) at ∷ os)) t) k n a ≡ forgotten names t k n a
      by_array true = rest k
      by_array false = rest k

  results_spared : (i j : Inlines) (m inner : Names) (c0 : ℕ) → IsCopy names i m c0 → (at : Span) (ds : List Lval) (xs : List Var) (t : Block) (k : KnownNumbers) (n : List ℕ) (a : ℕ) → AreNamedResults i j ds xs → forgotten names (in_turn (result_ops m inner at ds xs) t) k n a ≡ forgotten names t k n a
  results_spared i j m inner c0 copy at [] [] t k n a h = refl
  results_spared i j m inner c0 copy at [] (x ∷ xs) t k n a h = absurd h
  results_spared i j m inner c0 copy at (d ∷ ds) [] t k n a h = absurd h
  results_spared i j m inner c0 copy at (d ∷ ds) (x ∷ xs) t k n a h =
      result_spared i j m inner c0 copy at d x t (result_ops m inner at ds xs) k n a h.0.1 (λ l. results_spared i j m inner c0 copy at ds xs t l n a h.1)

  -- the variables of a callee in its copy
  pub vars_own : (i j : Inlines) (m : Names) (c : ℕ) (q : Call) → IsNamedCall i j q → AllOwn (names_of_callee m c q) c q.callee.vars
  vars_own i j m c q h = λ n o. var_own m c q.callee.params q.args n (clear_params (params_of q.callee.params) (vars_of q.callee.vars) n h.apart o)

  -- ---- trees

  abbrev Calm : Block → ℕ → ℕ → Type 0
  Calm t a c0 = IsStill t ⊎ (a < c0)

  two : (a c0 : ℕ) (x y : Block) → (IsStill x × IsStill y) ⊎ (a < c0) → Calm x a c0 × Calm y a c0
  two a c0 x y (inl h) = (inl h.0, inl h.1)
  two a c0 x y (inr lt) = (inr lt, inr lt)

  three : (a c0 : ℕ) (x y z : Block) → (IsStill x × IsStill y × IsStill z) ⊎ (a < c0) → Calm x a c0 × Calm y a c0 × Calm z a c0
  three a c0 x y z (inl h) = (inl h.0, inl h.1, inl h.2)
  three a c0 x y z (inr lt) = (inr lt, inr lt, inr lt)

  one : (a c0 : ℕ) (o : Operation) (y : Block) → (IsStillOp o × IsStill y) ⊎ (a < c0) → (IsStillOp o ⊎ (a < c0)) × Calm y a c0
  one a c0 o y (inl h) = (inl h.0, inl h.1)
  one a c0 o y (inr lt) = (inr lt, inr lt)

  below_more : (a c n : ℕ) → a < c → a < c + n
  below_more a c n lt = omega (arith, lt)

  pub spared : (t : Block) (i : Inlines) (m : Names) (c0 c : ℕ) (rest : Block) (k : KnownNumbers) (n : List ℕ) (a : ℕ) → IsCopy names i m c0 → c0 < c → HasNames names c t → IsNamed i t → a < c → Calm t a c0
      → forgotten names (inlined inline_calls m c t rest) k n a ≡ forgotten names rest k n a
  spared done i m c0 c rest k n a copy up has named lt s = refl
  spared (op o r) i m c0 c rest k n a copy up has named lt s =
      let p = one a c0 o r s in
      spared r i m c0 c rest (forgotten_op names (op_in m o) k) n a copy up has named.1 lt p.1
      ∙ forgotten_at names rest (forgotten_op names (op_in m o) k) k n a (op_spared i m c0 copy o k n a named.0 p.0)
  spared (quiet o r) i m c0 c rest k n a copy up has named lt s = absurd named
  spared (choose p x y r) i m c0 c rest k n a copy up has named lt s =
      let h = three a c0 x y r s in
      let first : Block = inlined inline_calls m c x done in
      let second : Block = inlined inline_calls m (c + copies x) y done in
      let k1 : KnownNumbers = forgotten names first k in
      let k2 : KnownNumbers = forgotten names second k1 in
      spared r i m c0 (c + copies x + copies y) rest k2 n a copy (below_more c0 (c + copies x) (copies y) (below_more c0 c (copies x) up)) has.2 named.3 (below_more a (c + copies x) (copies y) (below_more a c (copies x) lt)) h.2
      ∙ forgotten_at names rest k2 k n a
      (spared y i m c0 (c + copies x) done k1 n a copy (below_more c0 c (copies x) up) has.1 named.2 (below_more a c (copies x) lt) h.1
      ∙ spared x i m c0 c done k n a copy up has.0 named.1 lt h.0)
  spared (loop l x p y r) i m c0 c rest k n a copy up has named lt s =
      let h = three a c0 x y r s in
      let first : Block = inlined inline_calls m c x done in
      let second : Block = inlined inline_calls m (c + copies x) y done in
      let k1 : KnownNumbers = forgotten names first k in
      let k2 : KnownNumbers = forgotten names second k1 in
      spared r i m c0 (c + copies x + copies y) rest k2 n a copy (below_more c0 (c + copies x) (copies y) (below_more c0 c (copies x) up)) has.2 named.3 (below_more a (c + copies x) (copies y) (below_more a c (copies x) lt)) h.2
      ∙ forgotten_at names rest k2 k n a
      (spared y i m c0 (c + copies x) done k1 n a copy (below_more c0 c (copies x) up) has.1 named.2 (below_more a c (copies x) lt) h.1
      ∙ spared x i m c0 c done k n a copy up has.0 named.1 lt h.0)
  spared (each f x r) i m c0 c rest k n a copy up has named lt s =
      let h = two a c0 x r s in
      let k1 : KnownNumbers = forgotten names (inlined inline_calls m c x done) k in
      spared r i m c0 (c + copies x) rest k1 n a copy (below_more c0 c (copies x) up) has.1 named.2 (below_more a c (copies x) lt) h.1
      ∙ forgotten_at names rest k1 k n a (spared x i m c0 c done k n a copy up has.0 named.1 lt h.0)
  spared (call q x r) i m c0 c rest k n a copy up has named lt s =
      let j : Inlines = inlines_of q.callee in
      let inner : Names = names_of_callee m c q in
      let below : IsCopy names j inner c = callee_copy names i j m c0 c copy up has.0 q.callee.params q.args named.0.arguments in
      let behind : Block = inlined inline_calls m (suc c + copies x) r rest in
      let back : Block = in_turn (result_ops m inner (call_place q.to q.at) q.to q.callee.result) behind in
      let body : Block = inlined inline_calls inner (suc c) x back in
      let k1 : KnownNumbers = all_unknown k (map (var_in inner) q.callee.vars) in
      let same : k1 n a ≡ k n a = mark_elsewhere inner c q.callee.vars k n a (vars_own i j m c q named.0) (λ same. omega (arith, same, lt)) in
      args_spared i j m inner c below (call_place q.to q.at) q.callee.params q.args (quiet (inline_calls.mark m c q) body) k n a lt
      ∙ spared x j inner c (suc c) back k1 n a below (omega arith) has.1 named.1 (omega (arith, lt)) (inr lt)
      ∙ results_spared i j m inner c0 copy (call_place q.to q.at) q.to q.callee.result behind k1 n a named.0.results
      ∙ spared r i m c0 (suc c + copies x) rest k1 n a copy (omega (arith, up)) has.2 named.2 (omega (arith, lt)) s
      ∙ forgotten_at names rest k1 k n a same

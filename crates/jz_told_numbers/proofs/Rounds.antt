-- Loops that become their rounds: what vanishes leaks nothing, and what stays leaks the same.
use Rattle.std.proofs.Common.{◌≡◌, ℕ, ℤ, List, [], ◌∷◌, ◌++◌, length, Option, Some, None, Bool, refl, ap, sym, ◌∙◌}
use Rattle.std.specs.Option.{option_or}
use Rattle.jz_tree.specs.Span.{Span}
use Rattle.jz_tree.specs.Size.{Size}
use Rattle.jz_tree.specs.declared.expr.BinOp.{BinOp}
use Rattle.jz_tree.specs.declared.expr.Expr.{Expr}
use Rattle.jz_tree.specs.declared.expr.Expr.TheVariants as expr
use Rattle.jz_tree.specs.declared.expr.Expr.TheOpen.{Expr-F}
use Rattle.jz_tree.specs.declared.expr.Var.{Var}
use Rattle.jz_tree.specs.declared.stmt.Lval.TheVariants as lval
use Rattle.jz_integers.specs.Integers.{KnownNumbers}
use Rattle.jz_integers.specs.declared.constant.Constant.TheVariants as constant
use Rattle.jz_runs.specs.Rules.{went}
use Rattle.jz_meaning.specs.Attempts.{and_then, defined}
use Rattle.jz_meaning.specs.Operators.{of_constant}
use Rattle.jz_meaning.specs.States.{Value, State}
use Rattle.jz_meaning.specs.Values.{key_of, ref_of, Meaning, own_size, evaluated}
use Rattle.jz_meaning.specs.Assignments.{Results, left_size, left_sizes, whole_of, bool_in, old_value, chosen, conditioned, results_of, written, all_written, assigned_whole, assigned}
use Rattle.jz_meaning.specs.Statements.{Operation, Condition, does, source}
use Rattle.jz_change.specs.declared.change.Numbers.{Numbers}
use Rattle.jz_change.specs.Changes.{numbers_in}
use Rattle.jz_unroll.specs.Values.{InlineNames}
use Rattle.jz_unroll.specs.Unrolling.{HasValue, ConditionIs, UnrollsOp, stays, vanishes, UnrollsTest, tested, UnrollsLoopTest, loops, always, unrolling}
use Rattle.jz_unroll.specs.ValueLaws.{StandsFor}
use Rattle.jz_unroll.proofs.Layers.{meaning_is}
use Rattle.jz_unroll.proofs.Inline.{inline_exact}
use Rattle.jz_unroll.proofs.PartNumbers.{none_first, then_went, var_numbers}
use Rattle.jz_unroll.proofs.Keeping.{bool_const, unrolling_known}
use Rattle.jz_two_runs.specs.Telling.{HaveSame, IsTold}

no_length : (ns : List ℕ) → length ns ≡ 0 → ns ≡ []
no_length [] e = refl
no_length (n ∷ ns) e = absurd cc

of_defined : (at : Span) (o : Option Value) (ns : List ℕ) (v : Value) → defined at o ≡ went ns v → ns ≡ []
of_defined at None ns v e = absurd cc
of_defined at (Some u) ns v e = cc

both_none : (ns ms ks : List ℕ) → ns ≡ ms ++ ks → ms ≡ [] → ks ≡ [] → ns ≡ []
both_none ns ms ks e p q = e ∙ ap (λ l. l ++ ks) p ∙ q

-- nothing is written to no left side
none_written : (at : Span) (z : Option Size) (us : Results) (t s1 : State) (ks : List ℕ) → all_written at z [] us t ≡ went ks s1 → ks ≡ []
none_written at z [] t s1 ks q = cc
none_written at z (u ∷ us) t s1 ks q = absurd cc

module _ (names : InlineNames) where
  -- a variable shows nothing where it is set, nor where it is read
  set_none : (at : Span) (z : Option Size) (v : Var) (us : Results) (s s1 : State) (ns : List ℕ) → all_written at z (lval.Var v ∷ []) us s ≡ went ns s1 → ns ≡ []
  set_none at z v [] s s1 ns e = absurd cc
  set_none at z v (None ∷ us) s s1 ns e =
      let p = then_went (written z (lval.Var v) None s) (λ t. all_written at z [] us t) ns s1 e in
      let m : p.0 ≡ [] = (let k = p.3 in cc) in
      both_none ns p.0 p.2 p.5 m (none_written at z us p.1 s1 p.2 p.4)
  set_none at z v (Some u ∷ us) s s1 ns e =
      let p = then_went (written z (lval.Var v) (Some u) s) (λ t. all_written at z [] us t) ns s1 e in
      both_none ns p.0 p.2 p.5 (no_length p.0 (var_numbers (ref_of v) u s p.0 p.1 p.3)) (none_written at z us p.1 s1 p.2 p.4)

  read_none : (v : Var) (w : Option Size) (s : State) (ns : List ℕ) (u : Value) → evaluated (expr.Var v) w s ≡ went ns u → ns ≡ []
  read_none v w s ns u e =
      of_defined (ref_of v).span (s.store (key_of (ref_of v))) ns u
      (sym (ap (λ (m : Meaning). m.run w s) (meaning_is (Expr-F.Var v))) ∙ ap (λ x. evaluated x w s) (expr.rolls-Var v) ∙ e)

  old_none : (v : Var) (at : Span) (s : State) (ns : List ℕ) (u : Value) → old_value (lval.Var v ∷ []) at s ≡ went ns u → ns ≡ []
  old_none v at s ns u e = read_none v (left_size (lval.Var v)) s ns u (sym (none_first (evaluated (expr.Var v) (left_size (lval.Var v)) s)) ∙ e)

  -- nor its condition
  condition_none : (e : KnownNumbers) (s t : State) (v : Var) (c : Option Expr) (at : Span) (b : Bool) (vs us : Results) (ns : List ℕ) → StandsFor names e s t → ConditionIs e v c b → conditioned (lval.Var v ∷ []) c at vs s ≡ went ns us → ns ≡ []
  condition_none e s t v None at b vs us ns h q p = cc
  condition_none e s t v (Some x) at b vs us ns h q p =
      let k = then_went (bool_in at x s) (λ a. and_then (old_value (lval.Var v ∷ []) at s) (λ old. went [] (chosen a vs old))) ns us p in
      let l = then_went (old_value (lval.Var v ∷ []) at s) (λ old. went [] (chosen k.1 vs old)) k.2 us k.4 in
      let g : went k.0 k.1 ≡ went [] b = sym k.3 ∙ bool_const names e s t at x b q.0 h in
      let m : k.0 ≡ [] = cc in let n : l.2 ≡ [] = (let j = l.4 in cc) in
      both_none ns k.0 k.2 k.5 m (both_none k.2 l.0 l.2 l.5 (old_none v at s l.0 l.1 l.3) n)

  vanishes_none : (e : KnownNumbers) (s s1 t : State) (v : Var) (o : Option BinOp) (x y : Expr) (c : Option Expr) (at : Span) (i : ℤ) (b : Bool) (ns : List ℕ) → whole_of (Some (lval.Var v)) o x ≡ Some y → HasValue e y (constant.Int i) → ConditionIs e v c b → StandsFor names e s t
      → assigned (lval.Var v ∷ []) o x c at s ≡ went ns s1 → ns ≡ []
  vanishes_none e s s1 t v o x y c at i b ns whole value cond h q =
      let to = lval.Var v ∷ [] in let z = option_or (left_sizes to) (own_size y) in
      let F = λ (vs : Results). and_then (conditioned to c at vs s) (λ us. all_written at z to us s) in
      let k = then_went (results_of to y at z s) F ns s1 (sym (ap (λ w. assigned_whole to w c at s) whole) ∙ q) in
      let l = then_went (evaluated y z s) (λ u. went [] (Some u ∷ [])) k.0 k.1 k.3 in
      let g : went l.0 l.1 ≡ went [] (of_constant (constant.Int i)) = sym l.3 ∙ inline_exact e s h.known y value.0 (constant.Int i) value.1 z in
      let m : l.0 ≡ [] = cc in let n : l.2 ≡ [] = (let j = l.4 in cc) in
      let w = then_went (conditioned to c at k.1 s) (λ us. all_written at z to us s) k.2 s1 k.4 in
      both_none ns k.0 k.2 k.5 (both_none k.0 l.0 l.2 l.5 m n)
      (both_none k.2 w.0 w.2 w.5 (condition_none e s t v c at b k.1 w.1 w.0 h cond w.3) (set_none at z v w.1 s s1 w.2 w.4))

  op_told : (o : Operation) (e e1 : KnownNumbers) (os : List Operation) (is : List Numbers) (s r s1 r1 t u : State) (ns ms : List ℕ) → UnrollsOp names o e os is e1 → StandsFor names e s t → StandsFor names e r u → does o s ≡ went ns s1 → does o r ≡ went ms r1 → HaveSame is ns ms → ns ≡ ms
  op_told o e e1 os is s r s1 r1 t u ns ms (stays ok) x y p q h = h.0
  op_told o e e1 os is s r s1 r1 t u ns ms (vanishes {v} {o = op} {x = a} {y = w} {c} {at} {i} b k whole value cond) x y p q h =
      vanishes_none e s s1 t v op a w c at i b ns whole value cond x p ∙ sym (vanishes_none e r r1 u v op a w c at i b ms whole value cond y q)

  test_told : (p : Condition) (e : KnownNumbers) (os : List Operation) (is : List Numbers) (p2 : Condition) (i : Numbers) (ns ms : List ℕ) → UnrollsTest names p e os is p2 i → numbers_in i ns ≡ numbers_in i ms → ns ≡ ms
  test_told p e os is p2 i ns ms (tested inline ok) h = h

  loop_test_told : (p : Condition) (e : KnownNumbers) (os : List Operation) (is : List Numbers) (p2 : Condition) (i : Numbers) (ns ms : List ℕ) → UnrollsLoopTest names p e os is p2 i → numbers_in i ns ≡ numbers_in i ms → ns ≡ ms
  loop_test_told p e os is p2 i ns ms (loops inline ok) h = h
  loop_test_told p e os is p2 i ns ms (always inline value) h = h

  pub rounds_told : IsTold {M = source} {N = source} {K = unrolling names} (unrolling_known names)
  rounds_told = record {
    op_told = λ o e e1 os is s r s1 r1 t u ns ms k x y p q h. op_told o e e1 os is s r s1 r1 t u ns ms k x y p q h;
    test_told = λ p e os is p2 i s r t u ns ms y z k x w a b h g. test_told p e os is p2 i ns ms k g;
    loop_test_told = λ p e os is p2 i s r t u ns ms y z k x w a b h g. loop_test_told p e os is p2 i ns ms k g;
  }

-- The operations of a statement do what the statement does, and a test answers as that of the source.
use Rattle.std.proofs.Common.{◌≡◌, ℕ, ◌+◌, Bool, true, List, [], ◌++◌, Some, None, refl, sym, ap, ◌∙◌, subst, arith}
use Rattle.std.proofs.lemmas.List.Elements.{All-nil}
use Rattle.jz_io.specs.declared.span.Span.{Span}
use Rattle.jz_tree.specs.declared.expr.Expr.{Expr}
use Rattle.jz_tree.specs.declared.expr.Expr.TheVariants as expr
use Rattle.jz_tree.specs.declared.expr.Expr.TheOpen.{Expr-F}
use Rattle.jz_tree.specs.declared.expr.Expr.TheFolds.{fold-roll-Expr}
use Rattle.jz_runs.specs.Rules.{went}
use Rattle.jz_meaning.specs.Attempts.{Evaluation, and_then}
use Rattle.jz_meaning.specs.States.{boolean, State}
use Rattle.jz_meaning.specs.Values.{evaluated, expr_step, ty_step, access_step, decl_step, var_step}
use Rattle.jz_meaning.specs.Assignments.{truth, bool_in}
use Rattle.jz_meaning.specs.Statements.{Operation, Condition}
use Rattle.jz_meaning.specs.Statements as statements
use Rattle.jz_operations.specs.declared.operation.Condition.{Condition as Flags}
use Rattle.jz_operations.specs.declared.operation.Condition.TheVariants as condition
use Rattle.jz_operations.specs.declared.operation.Operation.{Operation as Made}
use Rattle.jz_operations.specs.Values as over
use Rattle.jz_operations.specs.Rows.{Frame, Done, step, holds_in}
use Rattle.jz_placing.specs.Variables.{Asked, asks, numbers_of, tests as asked, settled, variables}
use Rattle.jz_change.specs.declared.change.Numbers.{Numbers}
use Rattle.jz_change.specs.Fitting.{HasNumber}
use Rattle.jz_pass.specs.Operations.{DoAll}
use Rattle.jz_homes.specs.Homes.{Homes, IsHoming, IsRelated}
use Rattle.jz_homes.specs.Operands.{Leaks, shown_of, count_of, IsCounted}
use Rattle.jz_homes.proofs.Parts.{went_same}
use Rattle.jz_row_operations.specs.Lowering.{Lowers, sets, sets_if, LowersTest, tests, LowersLoopTest, tests_each, never_false, condition_shown}
use Rattle.jz_row_operations.specs.Keeping.{IsAnswered}
use Rattle.jz_row_operations.proofs.Items.{IsItem, AreItems, item, both_placed, first_placed, placed_behind, counted_length}
use Rattle.jz_row_operations.proofs.Runs.{does_all}
use Rattle.jz_row_operations.proofs.Moves.{append_nil}
use Rattle.jz_row_operations.proofs.Lowered.{sets_goes, sets_if_goes, compared_goes}

-- ---- tests
asked_by : (frame : Frame) (o : Made) (c : Flags) (d : Done) (k : Bool) (σ : over.State) → step frame o σ ≡ Some d → holds_in c d.state ≡ Some k → asked frame (asks (Some o) c) σ ≡ went (numbers_of d) k
asked_by frame o c d k σ e f = rw e (rw f refl)

settled_by : (frame : Frame) (o : Made) (c : Flags) (d : Done) (σ : over.State) → step frame o σ ≡ Some d → settled frame (asks (Some o) c) σ ≡ d.state
settled_by frame o c d σ e = rw e refl

evaluated_bool : (b : Bool) (at : Span) (s : State) → evaluated (expr.Bool b at) None s ≡ went [] (boolean b)
evaluated_bool b at s = ap (λ x. evaluated x None s) (sym (expr.rolls-Bool b at)) ∙ ap (λ m. m.run None s) (fold-roll-Expr _ _ _ _ _ expr_step ty_step access_step decl_step var_step (Expr-F.Expr::Bool b at))

never_false_is : (here at : Span) (e : Expr) (s : State) (ns : List ℕ) (z : Bool) → e ≡ expr.Bool true here → bool_in at e s ≡ went ns z → (ns ≡ []) × (z ≡ true)
never_false_is here at e s ns z is run =
    let r : ◌≡◌ {A = Evaluation Bool} (went [] true) (went ns z) = sym (ap (λ x. bool_in at x s) is ∙ ap (λ x. and_then x (truth at)) (evaluated_bool true here s)) ∙ run in
    let k = went_same [] ns true z r in
    (sym k.0, sym k.1)

module _ (frame : Frame) (home : Homes) (homing : IsHoming frame home) where
  condition_item : (p q : Leaks) (f g ns : List ℕ) → ns ≡ f ++ g → IsCounted p f → IsCounted q g → IsItem ns (condition_shown p q 0) (shown_of p f ++ shown_of q g)
  condition_item p q f g ns e h k =
      let l = counted_length p f h in
      subst (λ x. IsItem x (condition_shown p q 0) (shown_of p f ++ shown_of q g)) (sym (e ∙ ap (λ x. f ++ x) (sym (append_nil g))))
      (item (both_placed (first_placed p f (g ++ []) h) (placed_behind f (0 + count_of p) (omega (arith, l)) q g [] k)))

  pub test_goes : (c : Condition) (a : Asked) (i : Numbers) (s : State) (σ : over.State) (ns : List ℕ) (z : Bool) → LowersTest home c a i → IsRelated home s σ → bool_in c.at c.cond s ≡ went ns z → IsAnswered frame home a i s σ ns z
  test_goes c a i s σ ns z (tests {compare} {c = k} {p} {q} h) related run =
      let u = compared_goes frame home homing s σ related c.at ns z h run in
      let t = u.tests in
      let it = condition_item p q u.first u.second ns u.numbers u.counted_left u.counted_right in
      record {
        has = it.has;
        answers = asked_by frame compare (condition.Cc k) t.done z σ t.steps t.says'' ∙ ap (λ l. went l z) (t.shows ∙ sym it.gives);
        agrees = subst (IsRelated home s) (sym (settled_by frame compare (condition.Cc k) t.done σ t.steps)) t.agrees';
      }

  pub loop_test_goes : (c : Condition) (a : Asked) (i : Numbers) (s : State) (σ : over.State) (ns : List ℕ) (z : Bool) → LowersLoopTest home c a i → IsRelated home s σ → bool_in c.at c.cond s ≡ went ns z → IsAnswered frame home a i s σ ns z
  loop_test_goes c a i s σ ns z (tests_each h) related run = test_goes c a i s σ ns z h related run
  loop_test_goes c a i s σ ns z (never_false here e) related run =
      let k = never_false_is here c.at c.cond s ns z e run in
      record { has = All-nil (HasNumber ns); answers = ap (went []) (sym k.1); agrees = related }

  -- ---- operations
  pub op_goes : (o : Operation) (os : List Made) (items : List Numbers) (s t : State) (σ : over.State) (ns : List ℕ) → Lowers home o os items → IsRelated home s σ → statements.does o s ≡ went ns t
      → (τ : over.State) × DoAll (variables frame) ns os items σ τ × IsRelated home t τ
  op_goes o os items s t σ ns (sets {o = p} {e = e} {at = at} whole size row once) related run =
      let g = sets_goes frame home homing s σ related p e at t ns whole size row run in
      (g.goes.ran.state, does_all frame ns os items σ g.goes.ran g.goes.goes (subst (AreItems ns items) (sym g.goes.shows) g.are), g.goes.agrees)
  op_goes o os items s t σ ns (sets_if {x} {at = at} z wide kind' h ie ni cmp can) related run =
      let g = sets_if_goes frame home homing s σ related x at z t ns kind' h ie cmp run in
      (g.goes.ran.state, does_all frame ns os items σ g.goes.ran g.goes.goes (subst (AreItems ns items) (sym g.goes.shows) g.are), g.goes.agrees)

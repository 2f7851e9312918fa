-- What the right sides of assignments give fits its size.
use Rattle.std.proofs.Common.{◌<◌, ◌*◌, ◌/◌, ◌%◌, ℕ, List, ◌∷◌, [], Bool, true, false, Option, Some, None, All, if◌then◌else◌}
use Rattle.std.specs.Option.{option_or}
use Rattle.std.proofs.lemmas.List.Elements.{All-nil, All-cons}
use Rattle.jz_tree.specs.Span.{Span}
use Rattle.jz_tree.specs.Size.{Size}
use Rattle.jz_tree.specs.Sizes.{modulus}
use Rattle.jz_tree.specs.Words.{sum_of, carry_of, difference_of, borrow_of}
use Rattle.jz_tree.specs.declared.expr.BinOp.{BinOp}
use Rattle.jz_tree.specs.declared.expr.BinOp.TheVariants as o
use Rattle.jz_tree.specs.declared.expr.Expr.{Expr}
use Rattle.jz_tree.specs.declared.expr.Expr.TheOpen.{Expr-F}
use Rattle.jz_tree.specs.declared.expr.Expr.TheViews.{out-Expr}
use Rattle.jz_tree.specs.declared.stmt.Lval.{Lval}
use Rattle.jz_tree.specs.Operators.{carries}
use Rattle.jz_meaning.specs.declared.value.Why.TheVariants.{Init}
use Rattle.jz_meaning.specs.Rules.{went}
use Rattle.jz_meaning.specs.Attempts.{Evaluation, stuck_at, and_then, defined}
use Rattle.jz_meaning.specs.States.{Value, word, boolean, State}
use Rattle.jz_meaning.specs.Values.{own_size, evaluated}
use Rattle.jz_meaning.specs.Assignments.{Results, left_size, left_sizes, as_expr, Layer, is_flag, last_left, whole_of, two_results, word_in, bool_in, with_two, with_three, two_of, results_of, old_value, chosen, conditioned, all_written, assigned_whole, assigned}
use Rattle.jz_run_laws.specs.Kinds.{Kinds, FitsSize, IsOfKinds}
use Rattle.jz_run_laws.specs.DeclaredKinds.{LeftDeclared}
use Rattle.jz_run_laws.specs.Kept.{IfWent}
use Rattle.jz_run_laws.proofs.Parts.{AnyOf, went_then, went_any}
use Rattle.jz_run_laws.proofs.Bounds.{IsBelow, cut_below, high_below}
use Rattle.jz_run_laws.proofs.Operators.{MayFit}
use Rattle.jz_run_laws.proofs.Expressions.{StateFits, value_fits, word_in_below}
use Rattle.jz_run_laws.proofs.Stores.{state_fits}
use Rattle.jz_run_laws.proofs.LeftSides.{all_written_keeps}

abbrev pub ResultsFit : Results → Type 0
ResultsFit = All MayFit

pub one_fits : (v : Option Value) → MayFit v → ResultsFit (v ∷ [])
one_fits v h = All-cons MayFit v [] h (All-nil MayFit)

pub two_fit : (u v : Option Value) → MayFit u → MayFit v → ResultsFit (u ∷ v ∷ [])
two_fit u v h k = All-cons MayFit u (v ∷ []) h (one_fits v k)

-- ---- two results

two_results_fit : (op : BinOp) (at : Span) (s : Size) (a b : ℕ) (c : Bool) → a < modulus s → b < modulus s → IfWent ResultsFit (two_results op at s a b c)
two_results_fit o.Add at s a b c la lb = two_fit (Some (boolean (carry_of s a b c))) (Some (word s (sum_of s a b c))) tt (cut_below s _)
two_results_fit o.Sub at s a b c la lb = two_fit (Some (boolean (borrow_of a b c))) (Some (word s (difference_of s a b c))) tt (cut_below s _)
two_results_fit o.Mul at s a b c la lb = two_fit (Some (word s (a * b / modulus s))) (Some (word s (a * b % modulus s))) (high_below s a b la lb) (cut_below s (a * b))
two_results_fit _ at s a b c la lb = tt

with_two_fits : (op : BinOp) (a b : Expr) (at : Span) (s : Size) (st : State) → StateFits st → IfWent ResultsFit (with_two op a b at s st)
with_two_fits op a b at s st h =
    went_then (IsBelow s) ResultsFit (word_in at s a st) (λ x. and_then (word_in at s b st) (λ y. two_results op at s x y false)) (word_in_below at s a st h)
    (λ x lx. went_then (IsBelow s) ResultsFit (word_in at s b st) (λ y. two_results op at s x y false) (word_in_below at s b st h)
    (λ y ly. two_results_fit op at s x y false lx ly))

with_carry_fits : (op : BinOp) (a b c : Expr) (at : Span) (s : Size) (st : State) → StateFits st
    → IfWent ResultsFit (and_then (word_in at s a st) (λ x. and_then (word_in at s b st) (λ y. and_then (bool_in at c st) (two_results op at s x y))))
with_carry_fits op a b c at s st h =
    went_then (IsBelow s) ResultsFit (word_in at s a st) (λ x. and_then (word_in at s b st) (λ y. and_then (bool_in at c st) (two_results op at s x y))) (word_in_below at s a st h)
    (λ x lx. went_then (IsBelow s) ResultsFit (word_in at s b st) (λ y. and_then (bool_in at c st) (two_results op at s x y)) (word_in_below at s b st h)
    (λ y ly. went_then (AnyOf {A = Bool}) ResultsFit (bool_in at c st) (two_results op at s x y) (went_any (bool_in at c st))
    (λ k t. two_results_fit op at s x y k lx ly)))

carry_by : (c : Bool) (at : Span) (g : Evaluation Results) → IfWent ResultsFit g → IfWent ResultsFit (if c then g else stuck_at at Init)
carry_by true at g h = h
carry_by false at g h = tt

with_three_fits : (op : BinOp) (l : Layer) (e c : Expr) (at : Span) (s : Size) (st : State) → StateFits st → IfWent ResultsFit (with_three op l e c at s st)
with_three_fits op (Expr-F.Bin p a b inner) e c at s st h = carry_by (carries op p) at _ (with_carry_fits op a b c at s st h)
with_three_fits op _ e c at s st h = tt

two_by : (c : Bool) (f g : Evaluation Results) → IfWent ResultsFit f → IfWent ResultsFit g → IfWent ResultsFit (if c then f else g)
two_by true f g h k = h
two_by false f g h k = k

two_of_fits : (l : Layer) (at : Span) (z : Option Size) (st : State) → StateFits st → IfWent ResultsFit (two_of l at z st)
two_of_fits (Expr-F.Bin op a b inner) at (Some s) st h =
    two_by (is_flag b) (with_three op (out-Expr a) a b inner s st) (with_two op a b inner s st) (with_three_fits op (out-Expr a) a b inner s st h) (with_two_fits op a b inner s st h)
two_of_fits _ at z st h = tt

-- ---- by the number of left sides

results_fit : (to : List Lval) (e : Expr) (at : Span) (z : Option Size) (s : State) → StateFits s → IfWent ResultsFit (results_of to e at z s)
results_fit [] e at z s h = tt
results_fit (d ∷ []) e at z s h = went_then FitsSize ResultsFit (evaluated e z s) (λ v. went [] (Some v ∷ [])) (value_fits e z s h) (λ v q. one_fits (Some v) q)
results_fit (f ∷ d ∷ []) e at z s h = two_of_fits (out-Expr e) at z s h
results_fit (f ∷ d ∷ g ∷ ds) e at z s h = tt

old_fits : (to : List Lval) (at : Span) (s : State) → StateFits s → IfWent FitsSize (old_value to at s)
old_fits [] at s h = tt
old_fits (d ∷ []) at s h = went_then (AnyOf {A = Expr}) FitsSize (defined at (as_expr d)) (λ e. evaluated e (left_size d) s) (went_any (defined at (as_expr d))) (λ e t. value_fits e (left_size d) s h)
old_fits (d ∷ f ∷ ds) at s h = tt

chosen_fits : (c : Bool) (vs : Results) (old : Value) → ResultsFit vs → FitsSize old → ResultsFit (chosen c vs old)
chosen_fits true vs old h k = h
chosen_fits false vs old h k = one_fits (Some old) k

conditioned_fits : (to : List Lval) (cond : Option Expr) (at : Span) (vs : Results) (s : State) → ResultsFit vs → StateFits s → IfWent ResultsFit (conditioned to cond at vs s)
conditioned_fits to None at vs s f h = f
conditioned_fits to (Some e) at vs s f h =
    went_then (AnyOf {A = Bool}) ResultsFit (bool_in at e s) (λ c. and_then (old_value to at s) (λ old. went [] (chosen c vs old))) (went_any (bool_in at e s))
    (λ c t. went_then FitsSize ResultsFit (old_value to at s) (λ old. went [] (chosen c vs old)) (old_fits to at s h) (λ old q. chosen_fits c vs old f q))

-- ---- assignments

whole_keeps : (kinds : Kinds) (to : List Lval) (e cond : Option Expr) (at : Span) (s : State) → All (LeftDeclared kinds) to → IsOfKinds kinds s → IfWent (IsOfKinds kinds) (assigned_whole to e cond at s)
whole_keeps kinds to None cond at s d h = tt
whole_keeps kinds to (Some e) cond at s d h =
    let z = option_or (left_sizes to) (own_size e) in
    let f = state_fits kinds s h in
    went_then ResultsFit (IsOfKinds kinds) (results_of to e at z s) (λ vs. and_then (conditioned to cond at vs s) (λ ws. all_written at z to ws s)) (results_fit to e at z s f)
    (λ vs q. went_then ResultsFit (IsOfKinds kinds) (conditioned to cond at vs s) (λ ws. all_written at z to ws s) (conditioned_fits to cond at vs s q f)
    (λ ws r. all_written_keeps kinds at z to ws s d r h))

pub assigned_keeps : (kinds : Kinds) (to : List Lval) (op : Option BinOp) (e : Expr) (cond : Option Expr) (at : Span) (s : State) → All (LeftDeclared kinds) to → IsOfKinds kinds s → IfWent (IsOfKinds kinds) (assigned to op e cond at s)
assigned_keeps kinds to op e cond at s d h = whole_keeps kinds to (whole_of (last_left to) op e) cond at s d h

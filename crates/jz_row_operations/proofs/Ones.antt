-- `d = -a`, `d = !a`: NEG and NOT.
use Rattle.std.proofs.Common.{◌≡◌, ℕ, ◌<◌, List, [], ◌∷◌, ◌++◌, Some, None, refl, sym, ap, ◌∙◌, arith, ℤ}
use Rattle.std.specs.Option.{option_or}
use Rattle.std.proofs.lemmas.Nat.{mod_below}
use Rattle.jz_io.specs.declared.span.Span.{Span}
use Rattle.jz_words.specs.declared.size.Size.{Size}
use Rattle.jz_words.specs.Sizes.{modulus}
use Rattle.jz_words.proofs.Residues.{some_words}
use Rattle.x64_insn.specs.declared.types.One.{One}
use Rattle.x64_insn.specs.declared.types.One.TheVariants as one
use Rattle.x64_insn.specs.Answers.{one_answer, difference_answer}
use Rattle.x64_insn.specs.Products.{no_flags}
use Rattle.jz_tree.specs.declared.expr.Expr.{Expr}
use Rattle.jz_tree.specs.declared.expr.Expr.TheVariants as expr
use Rattle.jz_tree.specs.declared.expr.Expr.TheOpen.{Expr-F}
use Rattle.jz_tree.specs.declared.expr.Expr.TheFolds.{fold-roll-Expr}
use Rattle.jz_tree.specs.declared.stmt.Lval.{Lval}
use Rattle.jz_runs.specs.Rules.{went}
use Rattle.jz_meaning.specs.Attempts.{and_then, defined}
use Rattle.jz_meaning.specs.States.{Value, word, integer, State}
use Rattle.jz_meaning.specs.Operators.{negated, inverted}
use Rattle.jz_meaning.specs.Values.{own_size, evaluated, expr_step, ty_step, access_step, decl_step, var_step}
use Rattle.jz_meaning.specs.Assignments.{left_sizes, assigned}
use Rattle.jz_operations.specs.declared.operation.Arg.{Arg}
use Rattle.jz_operations.specs.declared.operation.Arg.TheVariants as arg
use Rattle.jz_operations.specs.declared.operation.Action.TheVariants as action
use Rattle.jz_operations.specs.declared.operation.Flags.{Flags}
use Rattle.jz_operations.specs.Values as over
use Rattle.jz_operations.specs.Rows.{Frame}
use Rattle.jz_homes.proofs.Shown.{shown, read_shown}
use Rattle.jz_homes.specs.Homes.{Homes, IsHoming, IsRelated}
use Rattle.jz_homes.specs.Operands.{Leaks, IsArg, IsDest}
use Rattle.jz_row_operations.specs.Codes.{plain}
use Rattle.jz_row_operations.specs.Rows.{NotImm, IsSign, a_minus, a_not}
use Rattle.jz_homes.proofs.Parts.{went_same}
use Rattle.jz_homes.proofs.Reading.{FormOf}
use Rattle.jz_row_operations.proofs.Sums.{OfSize, sized, whole}
use Rattle.jz_row_operations.proofs.Brought.{Ends, Row, Unary, unary_parts, finishes_plain}

pub no_integer : (a : Arg) (i : ℤ) → FormOf a (integer i) → NotImm a → ⊥
no_integer (arg.Imm k) i f n = n
no_integer (arg.Var v) i f n = f
no_integer (arg.Mem m) i f n = f
no_integer (arg.Cell c) i f n = f
no_integer (arg.At r p) i f n = f

evaluated_neg : (a : Expr) (at : Span) (z : Size) (s : State) → evaluated (expr.Neg a at) (Some z) s ≡ and_then (evaluated a (Some z) s) (λ v. defined at (negated v))
evaluated_neg a at z s = ap (λ x. evaluated x (Some z) s) (sym (expr.rolls-Neg a at)) ∙ ap (λ m. m.run (Some z) s) (fold-roll-Expr _ _ _ _ _ expr_step ty_step access_step decl_step var_step (Expr-F.Neg a at))

evaluated_not : (a : Expr) (at : Span) (z : Size) (s : State) → evaluated (expr.Not a at) (Some z) s ≡ and_then (evaluated a (Some z) s) (λ v. went [] (inverted v))
evaluated_not a at z s = ap (λ x. evaluated x (Some z) s) (sym (expr.rolls-Not a at)) ∙ ap (λ m. m.run (Some z) s) (fold-roll-Expr _ _ _ _ _ expr_step ty_step access_step decl_step var_step (Expr-F.Not a at))

minus_gives : (at : Span) (z : Size) (x : Arg) (v : Value) (k : ℕ) (ms : List ℕ) (u : Value) → NotImm x → OfSize z v k → FormOf x v → defined at (negated v) ≡ went ms u → (ms ≡ []) × (u ≡ word z (one_answer one.Neg z k no_flags).value)
unfolding negated one_answer difference_answer
minus_gives at z x v k ms u n (sized a) f e = let r = went_same [] ms _ u e in (sym r.0, sym r.1)
minus_gives at z x v k ms u n (whole i) f e = absurd (no_integer x i f n)

not_gives : (z : Size) (x : Arg) (v : Value) (k : ℕ) (ms : List ℕ) (u : Value) → NotImm x → OfSize z v k → FormOf x v → ◌≡◌ {A = Rattle.jz_meaning.specs.Attempts.Evaluation Value} (went [] (inverted v)) (went ms u) → (ms ≡ []) × (u ≡ word z (one_answer one.Not z k no_flags).value)
unfolding inverted one_answer
not_gives z x v k ms u n (sized a) f e = let r = went_same [] ms _ u e in (sym r.0, sym r.1)
not_gives z x v k ms u n (whole i) f e = absurd (no_integer x i f n)

pub minus_small : (z : Size) (k : ℕ) → (one_answer one.Neg z k no_flags).value < modulus z
unfolding one_answer difference_answer
minus_small z k = mod_below _ (modulus z) (some_words z)

pub not_small : (z : Size) (k : ℕ) → k < modulus z → (one_answer one.Not z k no_flags).value < modulus z
unfolding one_answer
not_small z k h = omega (arith, h)

-- ---- any of NEG, NOT, INC, DEC, whatever becomes of the flags
pub one_ends : (frame : Frame) (op : One) (at : Span) (fl : Flags) (z : Size) (b : Arg) (vs : List ℕ) (σ : over.State) (left : ℕ)
    → Ends frame (record { span = at; action = action.One op z b; flags = fl }) z b vs σ left (one_answer op z left no_flags).value (one_answer op z left no_flags).flags []
one_ends frame op at fl z b vs σ left = record { goes = λ τ τ' same cells memory e f. (shown b τ ++ [], rw e (rw (read_shown frame b z τ left e) (rw f refl)), refl) }

module _ (frame : Frame) (home : Homes) (homing : IsHoming frame home) (s : State) (σ : over.State) (related : IsRelated home s σ) where
  pub one_parts : (op : One) {z : Size} {d : Lval} {e a : Expr} {x b : Arg} {p r : Leaks} (here : Span) (t : State) (ns : List ℕ) → IsSign op e a → NotImm x → option_or (left_sizes (d ∷ [])) (own_size e) ≡ Some z
      → IsArg home z a x p → IsDest home z d b r → assigned (d ∷ []) None e None here s ≡ went ns t → Unary frame home homing s σ related z x b p r (λ k. (one_answer op z k no_flags).value) t ns
  one_parts op {z} {x = x} here t ns (a_minus a at) n size ia id run =
      unary_parts frame home homing s σ related (expr.Neg a at) (λ v. defined at (negated v)) (λ k. (one_answer one.Neg z k no_flags).value) here t ns (evaluated_neg a at z s)
      (λ v k ms u o f l e. minus_gives at z x v k ms u n o f e) (λ k l. minus_small z k) size ia id run
  one_parts op {z} {x = x} here t ns (a_not a at) n size ia id run =
      unary_parts frame home homing s σ related (expr.Not a at) (λ v. went [] (inverted v)) (λ k. (one_answer one.Not z k no_flags).value) here t ns (evaluated_not a at z s)
      (λ v k ms u o f l e. not_gives z x v k ms u n o f e) (λ k l. not_small z k l) size ia id run

  -- the row, whose way `brought` chooses
  pub one_row : (op : One) {z : Size} {x b : Arg} {p r : Leaks} (at : Span) (t : State) (ns : List ℕ) → (k : Unary frame home homing s σ related z x b p r (λ k. (one_answer op z k no_flags).value) t ns)
      → Row frame home homing s σ related (plain at (action.One op z b)) z x b p r [] [] k.first k.second t
  one_row op {z} {x} {b} at t ns k = record {
    left = k.left;
    reads = k.reads;
    small = k.small;
    shows = k.shows;
    n = _;
    fs = (one_answer op z k.left no_flags).flags;
    ends = one_ends frame op at _ z b [] σ k.left;
    finish = finishes_plain frame home homing s σ related at (action.One op z b) _ t k.writes;
  }

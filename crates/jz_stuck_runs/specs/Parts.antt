-- The expressions that the part of a statement evaluates, each with the state in which it is
-- evaluated.
use Rattle.std.specs.Prelude.{◌≡◌, ℕ, List, [], ◌∷◌, Option, Some, Contains}
use Rattle.std.specs.Option.{option_or}
use Rattle.jz_tree.specs.Span.{Span}
use Rattle.jz_tree.specs.Size.{Size}
use Rattle.jz_tree.specs.declared.expr.BinOp.{BinOp}
use Rattle.jz_tree.specs.declared.expr.Expr.{Expr}
use Rattle.jz_tree.specs.declared.expr.Var.{Var}
use Rattle.jz_tree.specs.declared.stmt.Lval.{Lval}
use Rattle.jz_tree.specs.declared.intrinsic.Instance.{Instance}
use Rattle.jz_tree.specs.Spellings.{spelled}
use Rattle.jz_type_names.specs.Parts.{left_exprs}
use Rattle.jz_meaning.specs.Rules.{went}
use Rattle.jz_meaning.specs.States.{Value, Store, State}
use Rattle.jz_meaning.specs.Values.{ref_of, own_size}
use Rattle.jz_meaning.specs.Assignments.{Results, left_sizes, written, as_expr}
use Rattle.jz_meaning.specs.Assignments.{last_left, whole_of, results_of, conditioned}
use Rattle.jz_meaning.specs.Intrinsics.{intrinsic_size, sized_results}
use Rattle.jz_meaning.specs.Statements.{Operation, assign, instruction, unset, meaningless}
use Rattle.jz_meaning.specs.Statements.{Condition, Counter, Call, arrays_back, given}
use Rattle.jz_typed_runs.specs.Reached.{operation, test, bounds, arguments, results}
use Rattle.jz_typed_runs.specs.Runs.{SourcePart}

-- ---- left sides, from left to right
-- from that state on these left sides get these values, and that one is written in that state
pub data IsWritten (z : Option Size) : List Lval → Results → State → Lval → State → Type 0 where
  writes : {d : Lval} {ds : List Lval} {vs : Results} {s : State} → IsWritten z (d ∷ ds) vs s d s
  writes_later :
      {d e : Lval} {ds : List Lval} {v : Option Value} {vs : Results} {s t u : State} {ns : List ℕ}
      → written z d v s ≡ went ns t → IsWritten z ds vs t e u
      → IsWritten z (d ∷ ds) (v ∷ vs) s e u

-- they get these results of a call, each read from that store just before it is written
pub data IsGiven (inner : Store) : List Lval → List Var → State → Lval → Var → State → Type 0 where
  gives :
      {d : Lval} {ds : List Lval} {x : Var} {xs : List Var} {s : State}
      → IsGiven inner (d ∷ ds) (x ∷ xs) s d x s
  gives_later :
      {d e : Lval} {ds : List Lval} {x y : Var} {xs : List Var} {s t u : State} {ns : List ℕ}
      → given (ref_of x).kind (ref_of x) d inner s ≡ went ns t → IsGiven inner ds xs t e y u
      → IsGiven inner (d ∷ ds) (x ∷ xs) s e y u

-- ---- operations
abbrev pub lefts_of : Operation → List Lval
lefts_of (assign to o e c at) = to
lefts_of (instruction to n args at) = to
lefts_of (unset xs) = []
lefts_of (meaningless at) = []

-- what an operation gives its left sides, and at which size
pub data HasResults : Operation → State → Option Size → Results → Type 0 where
  assigned :
      {to : List Lval} {o : Option BinOp} {e w : Expr} {c : Option Expr} {at : Span} {s : State}
      {z : Option Size} {ns ms : List ℕ} {vs ws : Results}
      → whole_of (last_left to) o e ≡ Some w → z ≡ option_or (left_sizes to) (own_size w)
      → results_of to w at z s ≡ went ns vs → conditioned to c at vs s ≡ went ms ws
      → HasResults (assign to o e c at) s z ws
  instructed :
      {to : List Lval} {n : List ℕ} {args : List Expr} {at : Span} {s : State} {i : Instance}
      {z : Option Size} {ns : List ℕ} {ws : Results}
      → spelled n ≡ Some i → z ≡ intrinsic_size i.name i.size to args
      → sized_results i.name at z args s ≡ went ns ws → HasResults (instruction to n args at) s z ws

-- ---- parts
-- the caller's state when the callee has ended
abbrev pub returned_to : Call → State → State → State
returned_to c s t =
    record { store = arrays_back c.callee.params c.args t.store s.store; memory = t.memory }

-- doing that part in that state evaluates the expression, in the second state
pub data Evaluates : SourcePart → State → Expr → State → Type 0 where
  -- with `op=` what stands on the left is in it
  right_side :
      {to : List Lval} {o : Option BinOp} {e w : Expr} {c : Option Expr} {at : Span} {s : State}
      → whole_of (last_left to) o e ≡ Some w → Evaluates (operation (assign to o e c at)) s w s
  condition :
      {to : List Lval} {o : Option BinOp} {e c : Expr} {at : Span} {s : State}
      → Evaluates (operation (assign to o e (Some c) at)) s c s
  old_value :
      {d : Lval} {o : Option BinOp} {e c r : Expr} {at : Span} {s : State} → as_expr d ≡ Some r
      → Evaluates (operation (assign (d ∷ []) o e (Some c) at)) s r s
  operand :
      {to : List Lval} {n : List ℕ} {args : List Expr} {at : Span} {s : State} {e : Expr}
      → Contains args e → Evaluates (operation (instruction to n args at)) s e s
  -- the index or the address of a left side
  left_side :
      {o : Operation} {s t : State} {z : Option Size} {ws : Results} {d : Lval} {e : Expr}
      → HasResults o s z ws → IsWritten z (lefts_of o) ws s d t → Contains (left_exprs d) e
      → Evaluates (operation o) s e t
  asked : {c : Condition} {s : State} → Evaluates (test c) s c.cond s
  first : {f : Counter} {s : State} → Evaluates (bounds f) s f.from s
  last : {f : Counter} {s : State} → Evaluates (bounds f) s f.to s
  argument : {c : Call} {s : State} {e : Expr} → Contains c.args e → Evaluates (arguments c) s e s
  result :
      {c : Call} {s t u : State} {d : Lval} {x : Var} {e : Expr}
      → IsGiven t.store c.to c.callee.result (returned_to c s t) d x u → Contains (left_exprs d) e
      → Evaluates (results c t) s e u

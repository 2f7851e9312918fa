-- What is met when a function is gone through in expanded order: each call's body stands in the
-- place of the call, with the copies of its arguments before it and those of its results behind it;
-- each turn of a `for` stands for itself; of a constant test the arm that is taken. What is known of
-- inline variables goes along; by the rules of typing no arm of an `if` that stays, and no `while`,
-- sets any.
use Rattle.std.specs.Prelude.{ℤ, ◌+◌, ◌-◌, Bool, true, false, if◌then◌else◌, List, [], ◌∷◌, ◌++◌, map, replicate, length, Option, Some, None}
use Rattle.jz_tree.specs.Span.{Span}
use Rattle.jz_tree.specs.declared.expr.Expr.{Expr}
use Rattle.jz_tree.specs.declared.expr.Expr.TheVariants as expr
use Rattle.jz_tree.specs.declared.expr.Var.{Var}
use Rattle.jz_tree.specs.declared.stmt.Lval.{Lval}
use Rattle.jz_tree.specs.declared.stmt.Lval.TheVariants as lval
use Rattle.jz_tree.specs.declared.program.Fun.{Fun}
use Rattle.jz_tree.specs.declared.program.Param.{Param}
use Rattle.jz_tree.specs.declared.program.Program.{Program}
use Rattle.jz_integers.specs.Integers.{KnownNumbers, inline_value}
use Rattle.jz_type_names.specs.Kinds.{is_inline}
use Rattle.jz_type_names.specs.Parts.{span_of}
use Rattle.jz_meaning.specs.Trees.{done, op, quiet, choose, loop, each, call}
use Rattle.jz_meaning.specs.declared.access.Kind.{Kind}
use Rattle.jz_meaning.specs.declared.access.Kind.TheVariants as kind
use Rattle.jz_meaning.specs.Values.{ref_of}
use Rattle.jz_meaning.specs.Statements.{Operation, assign, Counter, Call, Block, values_between}
use Rattle.jz_meaning.specs.Runs.{body_of}
use Rattle.jz_limits.specs.Limits.{Limit, Step, one, passing}
use Rattle.jz_limits.specs.declared.limit.Limit.TheVariants.{InlineWidth}
use Rattle.jz_limits.specs.Values.{no_numbers, with_number, number_of, number_in, truth_of, known_after, is_int}
use Rattle.jz_limits.specs.Asked.{asked, asked_condition, widths}

-- what is met, and what is known of inline variables at the end
pub record Walk : Type 0 where
  pub steps : List Step
  pub known : KnownNumbers

abbrev pub limits : List Limit → List Step
limits ls = map (λ l. passing l) ls

-- these first
abbrev pub behind : List Step → Walk → Walk
behind steps w = record { steps = steps ++ w.steps; known = w.known }

-- a walk, and then what follows from what is known at its end
abbrev pub followed : Walk → (KnownNumbers → Walk) → Walk
followed w rest = behind w.steps (rest w.known)

abbrev pub silent : KnownNumbers → Walk
silent e = record { steps = []; known = e }

-- ---- one statement
abbrev pub operation_walk : Operation → KnownNumbers → Walk
operation_walk o e = record { steps = one ∷ limits (asked e o); known = known_after e o }

-- ---- tests
-- what a constant test takes; where it has no value that is a limit at its first token
abbrev pub constant_steps : Span → Option Bool → List Step
constant_steps at None = passing (InlineWidth at) ∷ []
constant_steps at (Some b) = []

abbrev pub taken : Option Bool → Walk → Walk → Walk → Walk
taken None a b e = e
taken (Some true) a b e = a
taken (Some false) a b e = b

-- both arms, or of a constant test the one that it takes
abbrev pub arms :
    Expr → (KnownNumbers → Walk) → (KnownNumbers → Walk) → KnownNumbers → Walk
arms c a b e =
    if is_inline c
    then behind (constant_steps (span_of c) (truth_of (inline_value e c)))
    (taken (truth_of (inline_value e c)) (a e) (b e) (silent e))
    else behind (limits (asked_condition e c)) (followed (a e) b)

-- the test and the body; of a constant test that is false nothing else
abbrev pub test_and_body : Expr → (KnownNumbers → Walk) → KnownNumbers → Walk
test_and_body c b e = arms c b silent e

-- the prologue before them
abbrev pub turns :
    Expr → (KnownNumbers → Walk) → (KnownNumbers → Walk) → KnownNumbers → Walk
turns c p b e = followed (p e) (test_and_body c b)

-- ---- `for`
-- one for each turn, which sets the counter
abbrev pub rounds : Var → (KnownNumbers → Walk) → List ℤ → KnownNumbers → Walk
rounds v body [] e = silent e
rounds v body (i ∷ is) e =
    followed (behind (one ∷ []) (body (with_number e v (Some i)))) (rounds v body is)

abbrev pub counted_values : Bool → Option ℤ → Option ℤ → List ℤ
counted_values down (Some a) (Some b) = values_between down a b
counted_values down _ _ = []

-- bounds are read once, and afterwards the counter is what it was
abbrev pub loop_walk : Counter → (KnownNumbers → Walk) → KnownNumbers → Walk
loop_walk f body e =
    behind (limits (widths e f.from ++ widths e f.to))
    (followed
    (rounds f.counter body (counted_values f.down (number_in e f.from) (number_in e f.to)) e)
    (λ k. silent (with_number k f.counter (number_of e f.counter))))

-- ---- calls
-- one more for each argument and result past the eighth, counted together
abbrev pub more_than_eight : Call → List Step
more_than_eight q = replicate ((length q.args + length q.to) - 8) one

abbrev pub is_array : Kind → Bool
is_array (kind.Array z n) = true
is_array _ = false

abbrev pub copied_to : Lval → Expr → Span → Operation
copied_to d x at = assign (d ∷ []) None x None at

-- the limits of what is copied to a parameter, where that is no array; a copy has no count
abbrev pub one_argument : KnownNumbers → Span → Var → Expr → List Limit
one_argument e at p x =
    if is_array (ref_of p).kind then [] else asked e (copied_to (lval.Var p) x at)

abbrev pub argument_limits : KnownNumbers → Span → List Param → List Expr → List Limit
argument_limits e at (p ∷ ps) (x ∷ xs) = one_argument e at p.var x ++ argument_limits e at ps xs
argument_limits e at _ _ = []

-- the inline variables of the callee; e: of the caller
abbrev pub with_argument : KnownNumbers → Var → Expr → KnownNumbers → KnownNumbers
with_argument e p x inner =
    if is_int (ref_of p).kind then with_number inner p (number_in e x) else inner

abbrev pub with_arguments : KnownNumbers → List Param → List Expr → KnownNumbers → KnownNumbers
with_arguments e (p ∷ ps) (x ∷ xs) inner =
    with_arguments e ps xs (with_argument e p.var x inner)
with_arguments e _ _ inner = inner

-- of what is copied from a result, where that is no array and is not dropped
abbrev pub given_limits : KnownNumbers → Span → Lval → Var → List Limit
given_limits e at (lval.Skip s) v = []
given_limits e at d v = asked e (copied_to d (expr.Var v) at)

abbrev pub one_result : KnownNumbers → Span → Lval → Var → List Limit
one_result e at d v = if is_array (ref_of v).kind then [] else given_limits e at d v

abbrev pub result_limits : KnownNumbers → Span → List Lval → List Var → List Limit
result_limits e at (d ∷ ds) (v ∷ vs) = one_result e at d v ++ result_limits e at ds vs
result_limits e at _ _ = []

-- the callee has inline variables of its own, and gives none back
abbrev pub callee_walk : Call → (KnownNumbers → Walk) → KnownNumbers → Walk
callee_walk q body e =
    behind (limits (argument_limits e q.at q.callee.params q.args))
    (behind (body (with_arguments e q.callee.params q.args no_numbers)).steps
    (behind (limits (result_limits e q.at q.to q.callee.result)) (silent e)))

abbrev pub call_walk : Call → (KnownNumbers → Walk) → KnownNumbers → Walk
call_walk q body e = behind (one ∷ []) (behind (more_than_eight q) (callee_walk q body e))

-- ---- bodies
unfoldable pub walk : Block → KnownNumbers → Walk
walk done e = silent e
walk (op o r) e = followed (operation_walk o e) (walk r)
walk (quiet o r) e = walk r e
walk (choose t a b r) e =
    followed (behind (one ∷ []) (arms t.cond (walk a) (walk b) e)) (walk r)
walk (loop q p t b r) e =
    followed (behind (one ∷ []) (turns t.cond (walk p) (walk b) e)) (walk r)
walk (each f b r) e = followed (loop_walk f (walk b) e) (walk r)
walk (call q b r) e = followed (call_walk q (walk b) e) (walk r)

-- of a function with all that it calls
abbrev pub steps_of : Program → Fun → List Step
steps_of p f = (walk (body_of p f) no_numbers).steps

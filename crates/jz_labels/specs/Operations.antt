-- Operations as labels see them: what is read, and what is written.
use Rattle.std.specs.Prelude.{List, [], ◌∷◌, ◌++◌, map, Option, Some, None}
use Rattle.jz_tree.specs.Span.{Span}
use Rattle.jz_tree.specs.declared.expr.Expr.{Expr}
use Rattle.jz_tree.specs.declared.stmt.Lval.{Lval}
use Rattle.jz_tree.specs.declared.stmt.Lval.TheVariants as lval
use Rattle.jz_tree.specs.declared.intrinsic.Intrinsic.{Intrinsic}
use Rattle.jz_tree.specs.declared.intrinsic.Intrinsic.TheVariants as name
use Rattle.jz_tree.specs.declared.intrinsic.Instance.{Instance}
use Rattle.jz_tree.specs.Spellings.{spelled}
use Rattle.jz_meaning.specs.Values.{Ref, ref_of}
use Rattle.jz_meaning.specs.Assignments.{last_left, whole_of, as_expr}
use Rattle.jz_meaning.specs.Statements.{Operation, assign, instruction, unset, meaningless, Condition}
use Rattle.jz_terms.specs.Terms.{Spot, Term, term_of, place_of}

-- a left side
pub data Left : Type 0 where
  nothing : Left
  scalar : Ref → Left
  -- an array, an index
  element : Ref → Term → Left
  bytes : Spot → Term → Left

pub record Plain : Type 0 where
  -- in the order of evaluation: the right side, and with a condition this and the old value; or the
  -- operands of an instruction
  pub reads : List Term
  -- where the instruction is a division, its place
  pub division : Option Span
  pub to : List Left

abbrev pub left_of : Lval → Left
left_of (lval.Skip at) = nothing
left_of (lval.Var x) = scalar (ref_of x)
left_of (lval.Cell x i) = element (ref_of x) (term_of i)
left_of (lval.Store a) = let p = place_of a in bytes p.spot p.at

abbrev pub read_if : Option Expr → List Term
read_if None = []
read_if (Some e) = term_of e ∷ []

abbrev pub old_of : Option Lval → List Term
old_of None = []
old_of (Some d) = read_if (as_expr d)

abbrev pub with_condition : Option Expr → Option Lval → List Term
with_condition None d = []
with_condition (Some c) d = term_of c ∷ old_of d

abbrev pub division_of : Option Instance → Span → Option Span
division_of None at = None
division_of (Some i) at = by i.name
  where
    by : Intrinsic → Option Span
    by name.Div = Some at
    by n = None

abbrev pub plain_of : Operation → Plain
plain_of (assign to o e c at) = record {
  reads = read_if (whole_of (last_left to) o e) ++ with_condition c (last_left to);
  division = None;
  to = map left_of to;
}
plain_of (instruction to n args at) = record {
  reads = map term_of args;
  division = division_of (spelled n) at;
  to = map left_of to;
}
plain_of (unset xs) = record { reads = []; division = None; to = [] }
plain_of (meaningless at) = record { reads = []; division = None; to = [] }

abbrev pub tested_by : Condition → Term
tested_by c = term_of c.cond

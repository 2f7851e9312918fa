-- The pieces that statements of an expanded function put before what follows.
use Rattle.std.specs.Prelude.{Bool, false, List, Option, Some, None}
use Rattle.jz_tree.specs.Span.{Span}
use Rattle.jz_tree.specs.declared.expr.BinOp.{BinOp}
use Rattle.jz_tree.specs.declared.expr.Expr.{Expr}
use Rattle.jz_tree.specs.declared.stmt.Lval.{Lval}
use Rattle.jz_tree.specs.declared.stmt.Rhs.{Rhs}
use Rattle.jz_tree.specs.declared.stmt.Rhs.TheVariants as rhs
use Rattle.jz_tree.specs.declared.stmt.Stmt.{Stmt}
use Rattle.jz_meaning.specs.Runs.{block}
use Rattle.jz_meaning.specs.Statements.{Operation, assign, instruction, meaningless, Block}
use Rattle.jz_terms.specs.Terms.{Term, truth, term_of}
use Rattle.jz_facts.specs.Facts.{Facts}
use Rattle.jz_facts.specs.Tests.{adds, ◌and◌}
use Rattle.jz_fact_sets.specs.declared.given.Given as code
use Rattle.jz_fact_sets.specs.Kept.{given_of}
use Rattle.jz_block_facts.specs.Heads.{no_callees}

-- a body that may be absent
abbrev pub body_piece : Option (List Stmt) → Block → Block
body_piece None rest = rest
body_piece (Some ss) rest = block no_callees ss rest

-- what an assignment is at a place
abbrev pub operation_of :
    List Lval → Option BinOp → Rhs → Option Expr → Span → Operation
operation_of to o (rhs.Value e) c at = assign to o e c at
operation_of to o (rhs.Call n args place) c at = meaningless place
operation_of to None (rhs.Intrinsic n args place) None at = instruction to n args place
operation_of to o (rhs.Intrinsic n args place) c at = meaningless place

-- `true`
abbrev pub is_truth : Term → Bool
is_truth (truth b at) = b
is_truth t = false

-- behind a test with its answer
abbrev pub answered : code.Given → Expr → Bool → Facts → Facts
answered g e z s = s and adds (given_of g) s (term_of e) z

-- What parts of statements stand for as the code borrows them from the text, and their trees.
use Rattle.std.specs.Prelude.{ℕ, List, Option, None, Some, not, is_some}
use Rattle.jz_tree.specs.declared.expr.Expr.{Expr}
use Rattle.jz_tree.specs.declared.stmt.Rhs.{Rhs}
use Rattle.jz_tree.specs.declared.stmt.Stmt.{Stmt}
use Rattle.jz_meaning.specs.Trees.{done, loop}
use Rattle.jz_meaning.specs.Statements.{Block, Operation, assign, instruction, Condition, Counter}
use Rattle.jz_meaning.specs.Runs.{Callees, callees_of, block}
use Rattle.jz_meaning.specs.Runs.{assign_tree, call_tree, instruction_tree}
use Rattle.jz_run_assign.specs.declared.assigning.Assignment.{Assignment}
use Rattle.jz_interp.specs.declared.code.Code.{Code}
use Rattle.jz_interp.specs.declared.parts.Test.{Test}
use Rattle.jz_interp.specs.declared.parts.Counter as borrowed
use Rattle.jz_interp.specs.declared.parts.Named.{Named}

-- the functions that can be called where calls may be so deep
abbrev pub callees_in : Code → ℕ → Callees
callees_in code depth = callees_of code.funs.now depth

abbrev pub condition_of : Test → Condition
condition_of t = record { cond = t.cond.now; at = t.span }

abbrev pub counter_of : borrowed.Counter → Counter
counter_of c =
    record { counter = c.counter.now; from = c.from.now; down = c.down; to = c.to.now; at = c.span }

-- an assignment by its right side
abbrev pub value_assignment : Assignment → Expr → Operation
value_assignment a e = assign a.to.now a.op e a.cond.now a.span

abbrev pub assignment_tree : Callees → Assignment → Rhs → Block → Block
assignment_tree callees a r = assign_tree callees a.to.now a.op r a.cond.now a.span

-- the same where a function or an instruction is named there
abbrev pub named_call_tree : Callees → Assignment → Named → Block → Block
named_call_tree callees a n =
    call_tree (callees n.name.now) a.to.now a.op n.args.now a.cond.now n.span

abbrev pub named_instruction_tree : Assignment → Named → Block → Block
named_instruction_tree a n =
    instruction_tree a.to.now a.op n.name.now n.args.now a.cond.now n.span

-- an inner block, behind which nothing stands
abbrev pub inner_block : Callees → List Stmt → Block
inner_block callees ss = block callees ss done

-- a body that may be absent
abbrev pub body_piece : Callees → Option (List Stmt) → Block → Block
body_piece callees None rest = rest
body_piece callees (Some b) rest = block callees b rest

abbrev pub inner_body : Callees → Option (List Stmt) → Block
inner_body callees b = body_piece callees b done

-- a `while` by its prologue, its test and its body
abbrev pub while_tree : Callees → List Stmt → Condition → Option (List Stmt) → Block → Block
while_tree callees p c b = loop (not (is_some b)) (inner_block callees p) c (inner_body callees b)

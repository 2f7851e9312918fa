-- The flow of operations of a body: what liveness sees of it.
use Rattle.std.specs.Prelude.{Option, Some, None, List, [], ◌∷◌}
use Rattle.jz_runs.specs.Trees.{Tree, done, op, quiet, choose, loop, each, call}
use Rattle.jz_ir.specs.declared.code.Op.{Op}
use Rattle.jz_ir.specs.Places.{no_op}
use Rattle.jz_ir.specs.Tree as ir

-- the operation of a test; `true` has none
abbrev pub asked_op : Option Op → Op
asked_op None = no_op
asked_op (Some x) = x

-- by what is seen of an operation and of a test
module _ {O T : Type 0} (op_of : O → Op) (test_of : T → Option Op) where
  -- the body, and what follows it
  abbrev pub flow : Tree O T ⊥ ⊥ → ir.Tree → ir.Tree
  flow done rest = rest
  flow (op o r) rest = ir.op (op_of o) (flow r rest)
  flow (quiet o r) rest = flow r rest
  flow (choose c a b r) rest =
      ir.choose (asked_op (test_of c)) (flow a ir.done) (flow b ir.done) (flow r rest)
  flow (loop q p c b r) rest =
      ir.loop (flow p ir.done) (test_of c) (flow b ir.done) (flow r rest)
  flow (each f b r) rest = absurd f
  flow (call c b r) rest = absurd c

-- operations one after another, and what follows: the entry before a body, the return behind it
abbrev pub then_ops : List Op → ir.Tree → ir.Tree
then_ops [] rest = rest
then_ops (x ∷ xs) rest = ir.op x (then_ops xs rest)

-- What private contracts alone say: the operations of a tree, in the order of the code.
use Rattle.std.specs.Prelude.{List, [], ◌∷◌, ◌++◌, Option, Some, None}
use Rattle.jz_ir.specs.declared.code.Op.{Op}
use Rattle.jz_ir.specs.Tree.{Tree, done, op, choose, loop}

abbrev pub test_in : Option Op → List Op
test_in None = []
test_in (Some x) = x ∷ []

abbrev pub ops_in : Tree → List Op
ops_in done = []
ops_in (op x r) = x ∷ ops_in r
ops_in (choose c a b r) = c ∷ (ops_in a ++ (ops_in b ++ ops_in r))
ops_in (loop p c b r) = ops_in p ++ (test_in c ++ (ops_in b ++ ops_in r))

-- How much there is to run, as a measure.
use Rattle.std.specs.Prelude.{ℕ, ◌+◌, ◌*◌, List, [], ◌∷◌, map, Option, Some, None}
use Rattle.jz_tree.specs.declared.stmt.Stmt.{Stmt}
use Rattle.jz_tree.specs.declared.program.Fun.{Fun}
use Rattle.jz_tree.specs.declared.stmt.StmtKind.TheOpen.{StmtKind-F}
use Rattle.jz_tree.specs.declared.stmt.StmtKind.TheFolds.{fold-Stmt}

abbrev pub add : List ℕ → ℕ
add [] = 0
add (n ∷ ns) = n + add ns

abbrev pub sum_of : Option (List ℕ) → ℕ
sum_of None = 0
sum_of (Some ns) = add ns

abbrev pub kind_weight : StmtKind-F ℕ ℕ → ℕ
kind_weight (StmtKind-F.Assign to op rhs cond) = 1
kind_weight (StmtKind-F.If c a b) = 1 + add a + add b
kind_weight (StmtKind-F.While p c b) = 1 + add p + sum_of b
kind_weight (StmtKind-F.For i from down to b) = 1 + add b
kind_weight (StmtKind-F.Mark xs) = 1

abbrev pub weight : Stmt → ℕ
weight = fold-Stmt _ _ kind_weight (λ s. s.kind)

abbrev pub weights : List Stmt → ℕ
weights ss = add (map weight ss)

abbrev pub body_weight : Option (List Stmt) → ℕ
body_weight None = 0
body_weight (Some ss) = weights ss

-- of all bodies
abbrev pub total : List Fun → ℕ
total fs = add (map (λ f. weights f.body) fs)

-- where calls may be so deep
abbrev pub level : List Fun → ℕ → ℕ
level fs depth = depth * (total fs + 1)

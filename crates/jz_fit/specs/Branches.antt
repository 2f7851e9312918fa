-- Code with branches and loops, as the placing of its variables sees it.
use Rattle.std.specs.Prelude.{ℕ, List}
use Rattle.jz_ir.specs.declared.code.Code.{Code}
use Rattle.jz_ir.specs.Tree.{tree_of, ops_of, LiveInTree}
use Rattle.jz_fit.specs.declared.code.Branching.{Branching}

-- its operations in their order, with the kinds of the variables and the places in use
abbrev pub code_of : Branching → Code
code_of b = record {
  ops = ops_of (tree_of b.nodes);
  kinds = b.kinds;
  in_use = b.in_use;
}

-- the variable is live after the operation i, by the paths of branches and loops
abbrev pub LiveAt : Branching → ℕ → ℕ → Type 0
LiveAt b = LiveInTree (tree_of b.nodes)

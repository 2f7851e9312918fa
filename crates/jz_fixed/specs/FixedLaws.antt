-- What typing gives of an expanded function is what constant time asks of it.
use Rattle.std.specs.Prelude.{Bool, All}
use Rattle.jz_tree.specs.declared.program.Fun.{Fun}
use Rattle.jz_tree.specs.declared.program.Param.{Param}
use Rattle.jz_meaning.specs.States.{Key}
use Rattle.jz_meaning.specs.Values.{ref_of}
use Rattle.jz_meaning.specs.Statements.{Block}
use Rattle.jz_run_laws.specs.Kinds.{Kinds}
use Rattle.jz_flow.specs.Soundness.{AllAre}
use Rattle.jz_standing.specs.Typing.{IsScalar}
use Rattle.jz_fact_runs.specs.Fine.{IsFine, IsFineTest}
use Rattle.jz_equal_leaks.specs.Fixed.{IsFixedOperation, IsFixedTest}
use Rattle.jz_equal_leaks.specs.Laws.{IsFixedFunction}

-- of a body
abbrev pub FineIsFixed : Type 0
FineIsFixed =
    (kinds : Kinds) (in_frame : Key → Bool) (b : Block)
    → AllAre (IsFine kinds in_frame) (IsFineTest kinds in_frame) b
    → AllAre (IsFixedOperation in_frame) (IsFixedTest in_frame) b

-- of a function with this body, whose parameters are scalars
abbrev pub FineFunctionsAreFixed : Type 0
FineFunctionsAreFixed =
    (kinds : Kinds) (in_frame : Key → Bool) (f : Fun) (b : Block)
    → All (λ (q : Param). IsScalar kinds in_frame (ref_of q.var)) f.params
    → AllAre (IsFine kinds in_frame) (IsFineTest kinds in_frame) b
    → IsFixedFunction f b

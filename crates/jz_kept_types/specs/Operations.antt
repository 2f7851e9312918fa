-- Well typed operations, as they stand in trees.
use Rattle.std.specs.Prelude.{map, option_map, ⊤}
use Rattle.jz_judgement.specs.Places.{truth}
use Rattle.jz_judgement.specs.HasType.{value, HasType}
use Rattle.jz_judgement.specs.Lefts.{Values}
use Rattle.jz_type_sizes.specs.Signatures.{signature}
use Rattle.jz_judgement.specs.WellTyped as well
use Rattle.jz_judgement.specs.WellTyped.{Instructs}
use Rattle.jz_runs.specs.Trees.{done, op, quiet, choose, loop, each, call}
use Rattle.jz_meaning.specs.Statements.{Operation, assign, instruction, unset, meaningless, Condition, Block}
use Rattle.jz_arrays.specs.Cells.{with_scalars, left_with_scalars}

-- the left sides of an assignment take its value, and the condition is a truth; the operands and
-- results of an instruction are of its types; of marks and of what typing excludes nothing is said
abbrev pub IsTyped : Operation → Type 0
IsTyped (assign to o e c at) = Values to o e × well.Condition c
IsTyped (instruction to n args at) = Instructs (signature n) to args
IsTyped (unset vs) = ⊤
IsTyped (meaningless at) = ⊤

abbrev pub IsTypedTest : Condition → Type 0
IsTypedTest c = HasType (value c.cond) truth

-- with words in place of cells of register arrays
abbrev pub operation_with_scalars : Operation → Operation
operation_with_scalars (assign to o e c at) =
    assign (map left_with_scalars to) o (with_scalars e) (option_map with_scalars c) at
operation_with_scalars (instruction to n args at) =
    instruction (map left_with_scalars to) n (map with_scalars args) at
operation_with_scalars o = o

-- ---- trees in which each operation and each test is typed, and no call is left
abbrev pub IsTypedBody : Block → Type 0
IsTypedBody done = ⊤
IsTypedBody (op o r) = IsTyped o × IsTypedBody r
IsTypedBody (quiet o r) = IsTypedBody r
IsTypedBody (choose c a b r) =
    IsTypedTest c × IsTypedBody a × IsTypedBody b × IsTypedBody r
IsTypedBody (loop h q c b r) =
    IsTypedTest c × IsTypedBody q × IsTypedBody b × IsTypedBody r
IsTypedBody (each i b r) = IsTypedBody b × IsTypedBody r
IsTypedBody (call c b r) = ⊥

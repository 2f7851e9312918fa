-- The classes of a statement with a row stay through the passes of the expansion.
use Rattle.std.specs.Prelude.{◌≡◌, true, false, ⊤}
use Rattle.jz_integers.specs.Integers.{KnownNumbers}
use Rattle.jz_type_rows.specs.Matching.{sets_inline}
use Rattle.jz_runs.specs.Trees.{done, op, quiet, choose, loop, each, call}
use Rattle.jz_meaning.specs.Statements.{Operation, assign, instruction, unset, meaningless, Block}
use Rattle.jz_run_laws.specs.Kinds.{Kinds}
use Rattle.jz_change.specs.Changes.{Change}
use Rattle.jz_pass.specs.Unrolling.{Unrolls}
use Rattle.jz_pass.specs.Rewriting.{Rewrites}
use Rattle.jz_unroll.specs.Values.{InlineNames, operation_with_values, operation_has_values}
use Rattle.jz_unroll.specs.Unrolling.{unrolling}
use Rattle.jz_arrays.specs.Arrays.{arrays}
use Rattle.jz_kept_types.specs.Operations.{IsTyped, IsTypedBody, operation_with_scalars}
use Rattle.jz_row_classes.specs.RowClasses.{AreClassed, IsClassed, IsClassedTest, IsClassedBody}

-- ---- operations
-- what sets one inline variable alone needs no row
abbrev pub IsRowed : Operation → Type 0
IsRowed (assign to o e c at) = sets_inline to c ≡ false → AreClassed to o e c
IsRowed (instruction to n args at) = IsClassed (instruction to n args at)
IsRowed (unset vs) = ⊤
IsRowed (meaningless at) = ⊥

-- where it has values it sets none
abbrev pub ValuesStayClassed : Type 0
ValuesStayClassed =
    (names : InlineNames) (k : KnownNumbers) (o : Operation)
    → IsTyped o → IsRowed o → operation_has_values names k o ≡ true
    → IsClassed (operation_with_values k o)

abbrev pub ScalarsStayClassed : Type 0
ScalarsStayClassed = (o : Operation) → IsTyped o → IsClassed o → IsClassed (operation_with_scalars o)

-- ---- bodies in which no call is left
abbrev pub IsRowedBody : Block → Type 0
IsRowedBody done = ⊤
IsRowedBody (op o r) = IsRowed o × IsRowedBody r
IsRowedBody (quiet o r) = IsRowedBody r
IsRowedBody (choose c a b r) =
    IsClassedTest c × IsRowedBody a × IsRowedBody b × IsRowedBody r
IsRowedBody (loop h q c b r) =
    IsClassedTest c × IsRowedBody q × IsRowedBody b × IsRowedBody r
IsRowedBody (each i b r) = IsRowedBody b × IsRowedBody r
IsRowedBody (call c b r) = ⊥

abbrev pub UnrolledBodiesAreClassed : Type 0
UnrolledBodiesAreClassed =
    (names : InlineNames) (e e1 : KnownNumbers) (b u : Block) (k : Change)
    → Unrolls (unrolling names) b e done u e1 k → IsTypedBody b → IsRowedBody b → IsClassedBody u

abbrev pub BodiesOfScalarsAreClassed : Type 0
BodiesOfScalarsAreClassed =
    (kinds : Kinds) (b u : Block) (k : Change)
    → Rewrites (arrays kinds) b done u k → IsTypedBody b → IsClassedBody b → IsClassedBody u

-- What keeps types: values in place of inline parts, words in place of cells of register arrays.
use Rattle.std.specs.Prelude.{◌≡◌, true}
use Rattle.jz_tree.specs.declared.expr.Expr.{Expr}
use Rattle.jz_integers.specs.Integers.{KnownNumbers}
use Rattle.jz_judgement.specs.Places.{Place}
use Rattle.jz_judgement.specs.HasType.{value, HasType}
use Rattle.jz_runs.specs.Trees.{done}
use Rattle.jz_meaning.specs.Statements.{Operation, Block}
use Rattle.jz_arrays.specs.Kinds.{Kinds}
use Rattle.jz_change.specs.Changes.{Change}
use Rattle.jz_pass.specs.Unrolling.{Unrolls}
use Rattle.jz_pass.specs.Rewriting.{Rewrites}
use Rattle.jz_unroll.specs.Values.{InlineNames, with_values, operation_with_values, operation_has_values}
use Rattle.jz_unroll.specs.Unrolling.{unrolling}
use Rattle.jz_arrays.specs.Cells.{with_scalars}
use Rattle.jz_arrays.specs.Arrays.{arrays}
use Rattle.jz_kept_types.specs.Operations.{IsTyped, IsTypedBody, operation_with_scalars}

-- ---- expressions
abbrev pub Keeps : (Expr → Expr) → Type 0
Keeps T = (e : Expr) (p : Place) → HasType (value e) p → HasType (value (T e)) p

-- whatever is known of inline variables
abbrev pub ValuesKeepTypes : Type 0
ValuesKeepTypes = (k : KnownNumbers) → Keeps (with_values k)

abbrev pub ScalarsKeepTypes : Type 0
ScalarsKeepTypes = Keeps with_scalars

-- ---- operations
-- where the inline parts have values
abbrev pub ValuesStayTyped : Type 0
ValuesStayTyped =
    (names : InlineNames) (k : KnownNumbers) (o : Operation)
    → IsTyped o → operation_has_values names k o ≡ true → IsTyped (operation_with_values k o)

abbrev pub ScalarsStayTyped : Type 0
ScalarsStayTyped = (o : Operation) → IsTyped o → IsTyped (operation_with_scalars o)

-- ---- bodies
abbrev pub UnrolledBodiesStayTyped : Type 0
UnrolledBodiesStayTyped =
    (names : InlineNames) (e e1 : KnownNumbers) (b u : Block) (k : Change)
    → Unrolls (unrolling names) b e done u e1 k → IsTypedBody b → IsTypedBody u

abbrev pub BodiesOfScalarsStayTyped : Type 0
BodiesOfScalarsStayTyped =
    (kinds : Kinds) (b u : Block) (k : Change)
    → Rewrites (arrays kinds) b done u k → IsTypedBody b → IsTypedBody u

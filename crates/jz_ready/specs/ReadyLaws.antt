-- What becomes of a function is ready for register arrays as scalars.
use Rattle.std.specs.Prelude.{List, Contains}
use Rattle.jz_tree.specs.Memory.{Memory}
use Rattle.jz_tree.specs.declared.program.Fun.{Fun}
use Rattle.jz_tree.specs.declared.program.Program.{Program}
use Rattle.jz_integers.specs.Integers.{KnownNumbers}
use Rattle.jz_runs.specs.Trees.{done}
use Rattle.jz_meaning.specs.States.{Value}
use Rattle.jz_meaning.specs.Statements.{Block}
use Rattle.jz_meaning.specs.Runs.{IsInput, entry_state}
use Rattle.jz_run_laws.specs.Kinds.{HoldsBytes, IsOfKinds}
use Rattle.jz_typed_runs.specs.TypedTexts.{IsTypedText}
use Rattle.jz_change.specs.Changes.{Change}
use Rattle.jz_pass.specs.Unrolling.{Unrolls}
use Rattle.jz_scalars.specs.InlineFunctions.{inlined_body}
use Rattle.jz_unroll.specs.Values.{InlineNames}
use Rattle.jz_unroll.specs.Unrolling.{unrolling}
use Rattle.jz_scalars.specs.Ready.{IsReady}
use Rattle.jz_ready.specs.CopiedKinds.{copied_kinds}

abbrev pub ReadyLaw : Type 0
ReadyLaw =
    (p : Program) (f : Fun) (names : InlineNames) (e e1 : KnownNumbers) (u : Block) (k : Change)
    → IsTypedText p → Contains p.funs f
    → Unrolls (unrolling names) (inlined_body p f) e done u e1 k → IsReady (copied_kinds p f) u

abbrev pub EntryLaw : Type 0
EntryLaw =
    (p : Program) (f : Fun) (words : List Value) (memory : Memory)
    → IsTypedText p → IsInput p f words → HoldsBytes memory
    → IsOfKinds (copied_kinds p f) (entry_state f words memory)

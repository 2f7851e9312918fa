-- Which bodies are lowered.
use Rattle.std.specs.Prelude.{[], ◌∷◌, None, ⊤}
use Rattle.jz_tree.specs.declared.stmt.Rhs.TheVariants as rhs
use Rattle.jz_tree.specs.declared.stmt.StmtKind.TheVariants as stmt
use Rattle.jz_runs.specs.Trees.{done, op, quiet, choose, loop, each, call}
use Rattle.jz_meaning.specs.Statements as source
use Rattle.jz_meaning.specs.Statements.{Block, assign, instruction}
use Rattle.jz_operations.specs.Rows.{Frame}
use Rattle.jz_placing.specs.Variables.{Body}
use Rattle.jz_change.specs.Changes.{Change}
use Rattle.jz_homes.specs.Homes.{Homes, IsHoming}
use Rattle.jz_every_row.specs.Bodies.{IsLowered}
use Rattle.jz_total_rows.specs.Laws.{IsReadyAssign}
use Rattle.jz_total_flags.specs.Ready.{IsReadyPair, IsReadyInstruction, HasRowOf, IsReadyCondition, IsReadyLoopTest}

-- ---- each statement and each test is expanded, well typed and in the limits; no `for` and no call
-- is left
abbrev pub IsReadyOperation : Homes → source.Operation → Type 0
IsReadyOperation home (assign (d ∷ []) o e c at) = IsReadyAssign home d o e c at
IsReadyOperation home (assign (f ∷ d ∷ []) o e None at) = IsReadyPair home f d o e at
IsReadyOperation home (instruction to n args at) = IsReadyInstruction home to n args at
IsReadyOperation home _ = ⊥

abbrev pub IsReadyBody : Homes → Block → Type 0
IsReadyBody home done = ⊤
IsReadyBody home (op o r) = IsReadyOperation home o × IsReadyBody home r
IsReadyBody home (quiet o r) = IsReadyBody home r
IsReadyBody home (choose c a b r) =
    IsReadyCondition home c.cond × IsReadyBody home a × IsReadyBody home b × IsReadyBody home r
IsReadyBody home (loop q p c b r) =
    IsReadyLoopTest home c.cond × IsReadyBody home p × IsReadyBody home b × IsReadyBody home r
IsReadyBody home (each f b r) = ⊥
IsReadyBody home (call c b r) = ⊥

-- ---- each statement has a row of the pattern table, which typing gives
abbrev pub HasPattern : source.Operation → Type 0
HasPattern (assign (d ∷ []) o e c at) = HasRowOf (stmt.Assign (d ∷ []) o (rhs.Value e) c)
HasPattern (assign (f ∷ d ∷ []) o e None at) =
    HasRowOf (stmt.Assign (f ∷ d ∷ []) o (rhs.Value e) None)
HasPattern (instruction to n args at) =
    HasRowOf (stmt.Assign to None (rhs.Intrinsic n args at) None)
HasPattern _ = ⊤

abbrev pub HavePatterns : Block → Type 0
HavePatterns done = ⊤
HavePatterns (op o r) = HasPattern o × HavePatterns r
HavePatterns (quiet o r) = HavePatterns r
HavePatterns (choose c a b r) = HavePatterns a × HavePatterns b × HavePatterns r
HavePatterns (loop q p c b r) = HavePatterns p × HavePatterns b × HavePatterns r
HavePatterns (each f b r) = HavePatterns b × HavePatterns r
HavePatterns (call c b r) = HavePatterns b × HavePatterns r

-- ---- these have bodies over variables
abbrev pub ReadyBodiesAreLowered : Type 0
ReadyBodiesAreLowered =
    (frame : Frame) (home : Homes) (b : Block)
    → IsHoming frame home → IsReadyBody home b → HavePatterns b
    → (u : Body) × (k : Change) × IsLowered home b u k

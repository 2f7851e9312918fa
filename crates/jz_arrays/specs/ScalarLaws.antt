-- What stays where cells are scalars: values and states; and of the leaked numbers those that are
-- left.
use Rattle.std.specs.Prelude.{◌≡◌, length, Option, true}
use Rattle.jz_tree.specs.Size.{Size}
use Rattle.jz_tree.specs.declared.expr.Expr.{Expr}
use Rattle.jz_runs.specs.Trees.{done}
use Rattle.jz_runs.specs.Rules.{stuck, went, Goes}
use Rattle.jz_meaning.specs.Attempts.{Evaluation}
use Rattle.jz_meaning.specs.Shapes.{shape_of}
use Rattle.jz_meaning.specs.States.{State}
use Rattle.jz_meaning.specs.Statements.{Block, source}
use Rattle.jz_meaning.specs.Values.{evaluated}
use Rattle.jz_run_laws.specs.Kinds.{Kinds, IsOfKinds, sorts_of}
use Rattle.jz_change.specs.Changes.{Change}
use Rattle.jz_pass.specs.Laws.{Carries, between_trees}
use Rattle.jz_pass.specs.Rewriting.{Rewrites}
use Rattle.jz_arrays.specs.Cells.{sort_in, Mask, numbers_kept, mask_of, with_scalars}
use Rattle.jz_arrays.specs.Arrays.{arrays, IsOneState}

-- both are stuck alike, or have the same value, and of the numbers those that are left
abbrev pub IsThinned : {A : Type 0} → Mask → Evaluation A → Evaluation A → Type 0
IsThinned m (stuck w) h = h ≡ stuck w
IsThinned m (went ns a) h = (length ns ≡ length m) × (h ≡ went (numbers_kept m ns) a)

-- of an expression in a state of the declared kinds
abbrev pub ExpressionsStay : Type 0
ExpressionsStay =
    (kinds : Kinds) (e : Expr) (w : Option Size) (s : State)
    → IsOfKinds kinds s → (shape_of (sorts_of kinds) e).fixed ≡ true
    → IsThinned (mask_of (sort_in (sorts_of kinds)) e) (evaluated e w s)
    (evaluated (with_scalars e) w s)

-- of a body and what its statements become, from one state of the declared kinds
abbrev pub BodiesStay : Type 0
BodiesStay =
    (kinds : Kinds) (b u : Block) (k : Change)
    → Rewrites (arrays kinds) b done u k
    → Carries (between_trees (IsOneState kinds) (IsOneState kinds)) (λ s n. Goes source b n s)
    (λ t n. Goes source u n t) k

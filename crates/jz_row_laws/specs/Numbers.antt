-- Rows and the numbers that expressions leak.
use Rattle.std.specs.Prelude.{◌≡◌, ◌⊎◌, true, All, Some}
use Rattle.jz_tree.specs.declared.expr.Expr.{Expr}
use Rattle.jz_tree.specs.declared.stmt.Lval.{Lval}
use Rattle.jz_tree.specs.declared.stmt.StmtKind.{StmtKind}
use Rattle.jz_tree.specs.declared.stmt.StmtKind.TheOpen.{StmtKind-F}
use Rattle.jz_tree.specs.declared.stmt.StmtKind.TheViews.{out-StmtKind}
use Rattle.jz_type_names.specs.Parts.{Layer, exprs_of}
use Rattle.jz_select.specs.declared.pattern.Pattern.{Pattern}
use Rattle.jz_select.specs.Look.{look_of}
use Rattle.jz_select.specs.Selected.{IsSelected, IsCopied}
use Rattle.jz_meaning.specs.Shapes.{Sorts, shape_of}

-- nothing is leaked by a right part of `&&` or `||`, so its text says how many numbers it leaks
abbrev pub IsFixed : Sorts → Expr → Type 0
IsFixed sorts e = (shape_of sorts e).fixed ≡ true

abbrev pub IsInlineTest : Expr → Type 0
IsInlineTest e = (look_of e).condition ≡ true

-- a condition has an instruction, or is inline
abbrev pub FixedLayers : Sorts → Layer → Type 0
FixedLayers sorts (StmtKind-F.If c a b) = IsFixed sorts c ⊎ IsInlineTest c
FixedLayers sorts (StmtKind-F.While p c b) = IsFixed sorts c ⊎ IsInlineTest c
FixedLayers sorts k = All (IsFixed sorts) (exprs_of k)

abbrev pub SelectedLaw : Type 0
SelectedLaw = (sorts : Sorts) (k : StmtKind) (p : Pattern)
    → IsSelected k (Some p) → FixedLayers sorts (out-StmtKind k)

abbrev pub CopiedLaw : Type 0
CopiedLaw = (sorts : Sorts) (to : Lval) (e : Expr) (p : Pattern)
    → IsCopied to e (Some p) → IsFixed sorts e

-- What the assignments of a text set.
use Rattle.std.specs.Prelude.{◌≡◌, List, [], ◌∷◌, All, None, ⊤}
use Rattle.jz_tree.specs.declared.stmt.Rhs.{Rhs}
use Rattle.jz_tree.specs.declared.stmt.Rhs.TheVariants as rhs
use Rattle.jz_tree.specs.declared.stmt.StmtKind.TheOpen.{StmtKind-F}
use Rattle.jz_tree.specs.declared.program.Program.{Program}
use Rattle.jz_lex.specs.declared.token.Token.{Token}
use Rattle.jz_parse.specs.Deriving.{DerivesProgram}
use Rattle.jz_type_names.specs.Parts.{Layer, layer_of, statements_of}

abbrev pub IsCall : Rhs → Type 0
IsCall (rhs.Value e) = ⊥
IsCall (rhs.Call name args at) = ⊤
IsCall (rhs.Intrinsic name args at) = ⊥

-- an assignment has a left side; without one it is a call that stands alone
abbrev pub SetsOrCalls : Layer → Type 0
SetsOrCalls (StmtKind-F.Assign [] op from cond) = (op ≡ None) × IsCall from × (cond ≡ None)
SetsOrCalls (StmtKind-F.Assign (l ∷ ls) op from cond) = ⊤
SetsOrCalls (StmtKind-F.If c a b) = ⊤
SetsOrCalls (StmtKind-F.While p c b) = ⊤
SetsOrCalls (StmtKind-F.For i from down to b) = ⊤
SetsOrCalls (StmtKind-F.Mark vs) = ⊤

-- each statement does, however deep it is nested
abbrev pub SettingLaw : Type 0
SettingLaw = (tokens : List Token) (p : Program) → DerivesProgram tokens p
    → All (λ f. All (λ s. SetsOrCalls (layer_of s)) (statements_of f.body)) p.funs

-- The paths of a body, and the inline variables that are read where some path does not set them.
use Rattle.std.specs.Prelude.{ℕ, ◌≡◌, ◌⊎◌, Bool, ◌&&◌, List, [], ◌∷◌, ◌++◌, map, filter, flat_map, is_some, is_none, Option, Some, None, Contains, IsTrue}
use Rattle.std.specs.List.{All}
use Rattle.jz_tree.specs.Span.{Span}
use Rattle.jz_tree.specs.declared.expr.BinOp.{BinOp}
use Rattle.jz_tree.specs.declared.expr.Expr.{Expr}
use Rattle.jz_tree.specs.declared.expr.Var.{Var}
use Rattle.jz_tree.specs.declared.expr.Expr.TheViews.{out-Access}
use Rattle.jz_tree.specs.declared.stmt.Lval.{Lval}
use Rattle.jz_tree.specs.declared.stmt.Lval.TheVariants as lval
use Rattle.jz_tree.specs.declared.stmt.Rhs.{Rhs}
use Rattle.jz_tree.specs.declared.stmt.Rhs.TheVariants as rhs
use Rattle.jz_tree.specs.declared.stmt.Stmt.{Stmt}
use Rattle.jz_tree.specs.declared.stmt.StmtKind.TheOpen.{StmtKind-F}
use Rattle.jz_tree.specs.declared.stmt.StmtKind.TheFolds.{fold-Stmt}
use Rattle.jz_tree.specs.declared.program.Program.{Program}
use Rattle.jz_tree.specs.declared.program.Fun.{Fun}
use Rattle.jz_type_names.specs.Scopes.{Name, name_of, variable_named}
use Rattle.jz_type_names.specs.Kinds.{known_of, is_inline_int}
use Rattle.jz_type_names.specs.Parts.{names_in}

-- a variable is read at a place, or a name is set
pub data Event : Type 0 where
  Reads : Name → Event
  Sets : List ℕ → Event

-- how a run may go: nothing is done, an event, one after the other, one or the other, any number of
-- times
pub data Flow : Type 0 where
  Skip : Flow
  Does : Event → Flow
  Then Either : Flow → Flow → Flow
  Repeat : Flow → Flow

-- these events lead from its start to its end
abbrev pub Through : Flow → List Event → Type 0
Through Skip es = es ≡ []
Through (Does e) es = es ≡ e ∷ []
Through (Then a b) es =
    (xs : List Event) × (ys : List Event) × (es ≡ xs ++ ys) × Through a xs × Through b ys
Through (Either a b) es = Through a es ⊎ Through b es
Through (Repeat a) es =
    (xss : List (List Event)) × (es ≡ flat_map (λ xs. xs) xss) × All (Through a) xss

-- these events lead from its start to where that event comes next
abbrev pub Into : Flow → List Event → Event → Type 0
Into Skip es e = ⊥
Into (Does d) es e = (es ≡ []) × (d ≡ e)
Into (Then a b) es e =
    Into a es e
    ⊎ ((xs : List Event) × (ys : List Event) × (es ≡ xs ++ ys) × Through a xs × Into b ys e)
Into (Either a b) es e = Into a es e ⊎ Into b es e
Into (Repeat a) es e =
    (xs : List Event) × (ys : List Event) × (es ≡ xs ++ ys) × Through (Repeat a) xs × Into a ys e

-- one after the other
abbrev pub in_turn : List Flow → Flow
in_turn [] = Skip
in_turn (f ∷ fs) = Then f (in_turn fs)

-- ---- statements
abbrev pub reads : Name → Flow
reads n = Does (Reads n)

abbrev pub reading : List Name → Flow
reading ns = in_turn (map reads ns)

unfoldable pub reading_expr : Expr → Flow
reading_expr e = reading (names_in e)

unfoldable pub reading_all : List Expr → Flow
reading_all es = in_turn (map reading_expr es)

abbrev pub reading_right : Rhs → Flow
reading_right (rhs.Value e) = reading_expr e
reading_right (rhs.Call n args at) = reading_all args
reading_right (rhs.Intrinsic n args at) = reading_all args

abbrev pub reading_condition : Option Expr → Flow
reading_condition None = Skip
reading_condition (Some e) = reading_expr e

abbrev pub reading_left : Lval → Flow
reading_left (lval.Var v) = reads (name_of v)
reading_left _ = Skip

unfoldable pub reading_lefts : List Lval → Flow
reading_lefts to = in_turn (map reading_left to)

-- an assignment with an operation or a condition reads what it sets
abbrev pub reading_old : Option BinOp → Option Expr → List Lval → Flow
reading_old None None to = Skip
reading_old op cond to = reading_lefts to

-- the index or address of a left side is read before it is set
abbrev pub setting : Lval → Flow
setting (lval.Skip at) = Skip
setting (lval.Var v) = Does (Sets (name_of v).0)
setting (lval.Cell v at) = reading_expr at
setting (lval.Store a) = reading_expr (out-Access a).at

-- left sides are set from left to right
abbrev pub setting_all : List Lval → Flow
setting_all to = in_turn (map setting to)

-- the right side, the condition and the old value are read before the left sides are set
abbrev pub assigning : List Lval → Option BinOp → Rhs → Option Expr → Flow
assigning to op from cond =
    Then (reading_right from)
    (Then (reading_condition cond) (Then (reading_old op cond to) (setting_all to)))

-- each turn sets the counter
abbrev pub turns_of : List ℕ → Flow → Flow
turns_of counter body = Repeat (Then (Does (Sets counter)) body)

abbrev pub flow_step : StmtKind-F Flow Flow → Flow
flow_step (StmtKind-F.Assign to op from cond) = assigning to op from cond
flow_step (StmtKind-F.If c a b) = Then (reading_expr c) (Either (in_turn a) (in_turn b))
-- each turn has the prologue, the test and the body; at the end stand the prologue and the test
flow_step (StmtKind-F.While p c None) =
    Then (Repeat (Then (in_turn p) (reading_expr c))) (Then (in_turn p) (reading_expr c))
flow_step (StmtKind-F.While p c (Some b)) =
    Then (Repeat (Then (in_turn p) (Then (reading_expr c) (in_turn b))))
    (Then (in_turn p) (reading_expr c))
-- a loop may have no turn, so neither its counter nor what its body sets is set after it
flow_step (StmtKind-F.For i from down to b) =
    Then (reading_expr from) (Then (reading_expr to) (turns_of (name_of i).0 (in_turn b)))
flow_step (StmtKind-F.Mark vs) = Skip

abbrev pub flow_of : Stmt → Flow
flow_of = fold-Stmt Flow Flow flow_step (λ s. s.kind)

abbrev pub flow_of_all : List Stmt → Flow
flow_of_all ss = in_turn (map flow_of ss)

-- ---- functions
abbrev pub inline_vars : List Var → List Var
inline_vars vs = filter (λ v. is_inline_int (known_of v)) vs

-- an inline variable that is no parameter, which its caller sets
abbrev pub has_to_be_set : Fun → List ℕ → Bool
has_to_be_set f n =
    is_some (variable_named n (inline_vars f.vars))
    && is_none (variable_named n (map (λ p. p.var) f.params))

-- at this place an inline variable is read to which some path leads that does not set it
pub record IsReadUnset (f : Fun) (at : Span) : Type 0 where
  pub variable : List ℕ
  pub inline : IsTrue (has_to_be_set f variable)
  pub path : List Event
  pub leads : Into (flow_of_all f.body) path (Reads (variable, at))
  pub unset : Contains path (Sets variable) → ⊥

-- the same in one of the functions
pub record IsReadUnsetIn (p : Program) (at : Span) : Type 0 where
  pub function : Fun
  pub among : Contains p.funs function
  pub read : IsReadUnset function at

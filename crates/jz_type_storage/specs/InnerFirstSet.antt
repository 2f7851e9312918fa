-- The earliest place at which a variable is wrongly set, statement by statement.
use Rattle.std.specs.Prelude.{true, not, List, [], ◌∷◌, map, Option, Some, None}
use Rattle.jz_tree.specs.Span.{Span}
use Rattle.jz_tree.specs.declared.expr.Expr.TheViews.{out-Var}
use Rattle.jz_tree.specs.declared.stmt.Lval.{Lval}
use Rattle.jz_tree.specs.declared.stmt.Lval.TheVariants as lval
use Rattle.jz_tree.specs.declared.stmt.Stmt.{Stmt}
use Rattle.jz_tree.specs.declared.stmt.StmtKind.{StmtKind}
use Rattle.jz_tree.specs.declared.stmt.StmtKind.TheOpen.{StmtKind-F}
use Rattle.jz_tree.specs.declared.stmt.StmtKind.TheFolds.{fold-Stmt, fold-StmtKind}
use Rattle.jz_type_names.specs.Order.{unless, earlier, earliest}
use Rattle.jz_type_names.specs.Kinds.{is_inline}
use Rattle.jz_type_storage.specs.Settings.{Around, is_counter, may_set, entered_around, counting}

abbrev pub FirstSet : Type 0
FirstSet = Around → Option Span

abbrev pub first_all : List FirstSet → FirstSet
first_all [] w = None
first_all (s ∷ ss) w = earlier (s w) (first_all ss w)

abbrev pub first_left : Lval → FirstSet
first_left (lval.Var v) w = earliest (unless (may_set w v) (out-Var v).span)
first_left _ w = None

abbrev pub first_lefts : List Lval → FirstSet
first_lefts [] w = None
first_lefts (l ∷ ls) w = earlier (first_left l w) (first_lefts ls w)

abbrev pub first_step : StmtKind-F FirstSet FirstSet → FirstSet
first_step (StmtKind-F.Assign to op from cond) w = first_lefts to w
first_step (StmtKind-F.If c a b) w =
    earlier (first_all a (entered_around (not (is_inline c)) w))
    (first_all b (entered_around (not (is_inline c)) w))
first_step (StmtKind-F.While p c None) w = first_all p (entered_around true w)
first_step (StmtKind-F.While p c (Some b)) w =
    earlier (first_all p (entered_around true w)) (first_all b (entered_around true w))
first_step (StmtKind-F.For i from down to b) w =
    earlier (earliest (unless (not (is_counter w i)) (out-Var i).span))
    (first_all b (counting i w))
first_step (StmtKind-F.Mark vs) w = None

abbrev pub first_set : Stmt → FirstSet
first_set = fold-Stmt FirstSet FirstSet first_step (λ s. s.kind)

abbrev pub first_set_kind : StmtKind → FirstSet
first_set_kind = fold-StmtKind FirstSet FirstSet first_step (λ s. s.kind)

abbrev pub first_set_all : List Stmt → FirstSet
first_set_all ss = first_all (map first_set ss)

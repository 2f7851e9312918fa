-- Where variables may be set.
use Rattle.std.specs.Prelude.{ℕ, Bool, true, false, not, ◌&&◌, ◌||◌, List, [], ◌∷◌, ◌++◌, map, flat_map, Some, None}
use Rattle.std.specs.List.{list_any}
use Rattle.std.specs.Str.{bytes_eq}
use Rattle.jz_tree.specs.Span.{Span}
use Rattle.jz_tree.specs.declared.expr.Var.{Var}
use Rattle.jz_tree.specs.declared.expr.Expr.TheViews.{out-Var}
use Rattle.jz_tree.specs.declared.stmt.Lval.{Lval}
use Rattle.jz_tree.specs.declared.stmt.Lval.TheVariants as lval
use Rattle.jz_tree.specs.declared.stmt.Stmt.{Stmt}
use Rattle.jz_tree.specs.declared.stmt.StmtKind.TheOpen.{StmtKind-F}
use Rattle.jz_tree.specs.declared.stmt.StmtKind.TheFolds.{fold-Stmt}
use Rattle.jz_tree.specs.declared.program.Program.{Program}
use Rattle.jz_type_names.specs.Order.{unless}
use Rattle.jz_type_names.specs.Kinds.{known_of, is_inline_int, is_inline}

-- what stands round a statement: whether a `while` or an `if` that is not inline does, and the
-- counters of the loops, from the outermost
pub record Around : Type 0 where
  pub inside : Bool
  pub counters : List (List ℕ)

abbrev pub around : Bool → List (List ℕ) → Around
around inside counters = record { inside = inside; counters = counters }

abbrev pub outermost : Around
outermost = around false []

abbrev pub is_counter : Around → Var → Bool
is_counter w v = list_any (λ n. bytes_eq n (out-Var v).name) w.counters

-- no counter is set in its loop, and no inline variable in a `while` or an `if` that is not inline
abbrev pub may_set : Around → Var → Bool
may_set w v = not (is_counter w v) && not (w.inside && is_inline_int (known_of v))

abbrev pub entered_around : Bool → Around → Around
entered_around b w = around (b || w.inside) w.counters

abbrev pub counting : Var → Around → Around
counting i w = around w.inside (w.counters ++ (out-Var i).name ∷ [])

-- the places at which a variable is wrongly set, by what stands round
abbrev pub Setting : Type 0
Setting = Around → List Span

abbrev pub all_set : List Setting → Setting
all_set ss w = flat_map (λ s. s w) ss

abbrev pub left_set : Lval → Setting
left_set (lval.Var v) w = unless (may_set w v) (out-Var v).span
left_set _ w = []

abbrev pub set_step : StmtKind-F Setting Setting → Setting
set_step (StmtKind-F.Assign to op from cond) w = flat_map (λ l. left_set l w) to
set_step (StmtKind-F.If c a b) w =
    all_set a (entered_around (not (is_inline c)) w) ++ all_set b (entered_around (not (is_inline c)) w)
set_step (StmtKind-F.While p c None) w = all_set p (entered_around true w)
set_step (StmtKind-F.While p c (Some b)) w = all_set p (entered_around true w) ++ all_set b (entered_around true w)
-- a loop sets its counter, which is not done by `=`
set_step (StmtKind-F.For i from down to b) w =
    unless (not (is_counter w i)) (out-Var i).span ++ all_set b (counting i w)
set_step (StmtKind-F.Mark vs) w = []

abbrev pub wrongly_set_in : List Stmt → List Span
wrongly_set_in ss = all_set (map (fold-Stmt Setting Setting set_step (λ s. s.kind)) ss) outermost

abbrev pub wrongly_set : Program → List Span
wrongly_set p = flat_map (λ f. wrongly_set_in f.body) p.funs
